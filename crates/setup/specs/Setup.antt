-- The machine of `prepare`; its first state's transfer and test are those of `identify`. Source: tag.rs, `identify`, `prepare`. Its states
-- are from no public document: how a call is kept between two transfers. `setup_bridge` (proofs/Setups): it does what protocol's tree says.
--
--   job_place j, job_value j                  == the register of a job, and what it is set to
--   setup_ask s                              == the transfer that it waits on
--   setup_step s ack got                     == where the reply leads
--   identified, configured, judged          == after the identification, after I2C_CFG, after GPO1 was read
--   setup_opened, setup_stored                == in the opening of a session, in the writing of a byte
--   next_job j                               == after the byte of the job j: RF_MNGT after I2C_CFG, then GPO1 is read; GPO1 is the last
--   resume_setup s                           == what remains of `prepare` from s. after_setup: the same after a step
use Rattle.std.specs.Prelude.{ℕ, List, Bool, true, false, take, Ok, Err, Some, None}
use Rattle.slices.specs.Pick.{pick}
use Rattle.protocol.specs.Tag.{system, gpo1, rf_mngt, i2c_cfg, mem_size, id_length, i2c_cfg_value, rf_mngt_value, gpo1_value}
use Rattle.protocol.specs.Answer.{Progress}
use Rattle.protocol.specs.Proc.{Proc, Res, try, fine, refuse}
use Rattle.protocol.specs.Bus.{read_byte}
use Rattle.protocol.specs.Setup.{is_the_part, write_system, is_set_up, reports, set_up, reporting, prepare}
use Rattle.protocol.specs.declared.answer.TagError.TheVariants.{NoAnswer, NotThePart}
use Rattle.machine.specs.Ask.{first}
use Rattle.password.specs.Open.{open_ask, open_step, resume_open}
use Rattle.storing.specs.Store.{store_ask, store_step, resume_store}
use Rattle.machine.specs.declared.ask.Ask.{Ask}
use Rattle.machine.specs.declared.ask.Ask.TheVariants.{Read}
use Rattle.password.specs.declared.Open.TheVariants as O
use Rattle.password.specs.declared.Open as password
use Rattle.storing.specs.declared.Store.TheVariants as S
use Rattle.storing.specs.declared.Store as storing
use Rattle.setup.specs.declared.setup.Job.{Job}
use Rattle.setup.specs.declared.setup.Job.TheVariants as J
use Rattle.setup.specs.declared.setup.Setup.{Setup}
use Rattle.setup.specs.declared.setup.Setup.TheVariants.{Identify, Config, Open, Store, Events}

abbrev pub job_place : Job → ℕ
job_place J.Config = i2c_cfg
job_place J.Sleep = rf_mngt
job_place J.Events = gpo1

abbrev pub job_value : Job → ℕ
job_value J.Config = i2c_cfg_value
job_value J.Sleep = rf_mngt_value
job_value J.Events = gpo1_value

abbrev pub setup_ask : Setup → Ask
setup_ask Identify = Read system mem_size id_length
setup_ask Config = Read system i2c_cfg 1
setup_ask (Open f o) = open_ask o
setup_ask (Store j s) = store_ask (job_place j) (job_value j) s
setup_ask Events = Read system gpo1 1

abbrev pub identified : Bool → List ℕ → Progress Setup
identified ack got = pick ack (pick (is_the_part (take id_length got)) (Ok (Some Config)) (Err NotThePart)) (Err NoAnswer)

abbrev pub configured : Bool → ℕ → Progress Setup
configured ack v = pick ack (pick (is_set_up v) (Ok (Some Events)) (Ok (Some (Open true O.Present)))) (Err NoAnswer)

abbrev pub judged : Bool → ℕ → Progress Setup
judged ack v = pick ack (pick (reports v) (Ok None) (Ok (Some (Open false O.Present)))) (Err NoAnswer)

abbrev pub setup_opened : Bool → Progress password.Open → Progress Setup
setup_opened f (Ok (Some o)) = Ok (Some (Open f o))
setup_opened f (Ok None) = pick f (Ok (Some (Store J.Config S.Send))) (Ok (Some (Store J.Events S.Send)))
setup_opened f (Err e) = Err e

-- I2C_CFG, then RF_MNGT, then GPO1 is judged; GPO1 is the last
abbrev pub next_job : Job → Progress Setup
next_job J.Config = Ok (Some (Store J.Sleep S.Send))
next_job J.Sleep = Ok (Some Events)
next_job J.Events = Ok None

abbrev pub setup_stored : Job → Progress storing.Store → Progress Setup
setup_stored j (Ok (Some s)) = Ok (Some (Store j s))
setup_stored j (Ok None) = next_job j
setup_stored j (Err e) = Err e

abbrev pub setup_step : Setup → Bool → List ℕ → Progress Setup
setup_step Identify ack got = identified ack got
setup_step Config ack got = configured ack (first got)
setup_step (Open f o) ack got = setup_opened f (open_step o ack (first got))
setup_step (Store j s) ack got = setup_stored j (store_step (job_value j) s ack (first got))
setup_step Events ack got = judged ack (first got)

abbrev pub resume_setup : Setup → Proc (Res Unit)
resume_setup Identify = prepare
resume_setup Config = try (read_byte system i2c_cfg) (λ cfg. try (set_up cfg) (λ _. reporting))
resume_setup (Open true o) =
    try (try (resume_open o) (λ _. try (write_system i2c_cfg i2c_cfg_value) (λ _. write_system rf_mngt rf_mngt_value))) (λ _. reporting)
resume_setup (Open false o) = try (resume_open o) (λ _. write_system gpo1 gpo1_value)
resume_setup (Store J.Config s) = try (try (resume_store i2c_cfg i2c_cfg_value s) (λ _. write_system rf_mngt rf_mngt_value)) (λ _. reporting)
resume_setup (Store J.Sleep s) = try (resume_store rf_mngt rf_mngt_value s) (λ _. reporting)
resume_setup (Store J.Events s) = resume_store gpo1 gpo1_value s
resume_setup Events = reporting

abbrev pub after_setup : Progress Setup → Proc (Res Unit)
after_setup (Ok (Some s)) = resume_setup s
after_setup (Ok None) = fine
after_setup (Err e) = refuse e

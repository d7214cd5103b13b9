-- The machine of `prepare` does what the tree says.
use mathlib.Core.Path.{◌≡◌, refl, ap, fun_ext, ◌∙◌}
use mathlib.Core.Bool.{Bool, true, false}
use mathlib.Core.List.{List}
use Prim.Native.Nat.{ℕ}
use lib.ListN.{take}
use Rattle.std.specs.Prelude.{Ok, Err, Some, None}
use Rattle.slices.specs.Pick.{pick}
use Rattle.protocol.specs.Tag.{gpo1, rf_mngt, i2c_cfg, i2c_cfg_value, rf_mngt_value, gpo1_value}
use Rattle.protocol.specs.Answer.{Progress}
use Rattle.protocol.specs.Proc.{Proc, done, ask, Res, ok, try, fine, refuse, unless}
use Rattle.protocol.specs.Setup.{is_the_part, open_session, write_system, is_set_up, reports, set_up, reporting}
use Rattle.protocol.specs.declared.answer.TagError.TheVariants.{NoAnswer, NotThePart}
use Rattle.machine.specs.Ask.{meant, first}
use Rattle.password.specs.Open.{open_ask, open_step, after_open}
use Rattle.password.specs.declared.Open as password
use Rattle.password.proofs.Opens.{open_bridge}
use Rattle.storing.specs.Store.{store_ask, store_step, after_store}
use Rattle.storing.specs.declared.Store as storing
use Rattle.storing.proofs.Stores.{store_bridge}
use Rattle.setup.specs.Setup.{setup_ask, identified, configured, judged, setup_opened, setup_stored, setup_step, resume_setup, after_setup}
use Rattle.setup.specs.declared.setup.Job.TheVariants as J
use Rattle.setup.specs.declared.setup.Setup.{Setup}
use Rattle.setup.specs.declared.setup.Setup.TheVariants as U

-- what follows the identification, I2C_CFG and GPO1
identify_case : (g : List ℕ) (b t : Bool) → is_the_part (take 12 g) ≡ t
    → try (try (pick b (done (ok (take 12 g))) (refuse NoAnswer)) (λ id. pick (is_the_part id) fine (refuse NotThePart))) (λ _. resume_setup U.Config)
    ≡ after_setup (identified b g)
identify_case g true true e = rw e
identify_case g true false e = rw e
identify_case g false t e = refl

config_case : (v : ℕ) (b t : Bool) → is_set_up v ≡ t
    → try (pick b (done (ok v)) (refuse NoAnswer)) (λ cfg. try (set_up cfg) (λ _. reporting)) ≡ after_setup (configured b v)
config_case v true true e = rw e
config_case v true false e = rw e
config_case v false t e = refl

events_case : (v : ℕ) (b t : Bool) → reports v ≡ t
    → try (pick b (done (ok v)) (refuse NoAnswer)) (λ gpo. unless (reports gpo) (try open_session (λ _. write_system gpo1 gpo1_value))) ≡ after_setup (judged b v)
events_case v true true e = rw e
events_case v true false e = rw e
events_case v false t e = refl

-- the session is opened, nested in what follows it
opened-first : (x : Progress password.Open)
    → try (try (after_open x) (λ _. try (write_system i2c_cfg i2c_cfg_value) (λ _. write_system rf_mngt rf_mngt_value))) (λ _. reporting) ≡ after_setup (setup_opened true x)
opened-first (Ok (Some o)) = refl
opened-first (Ok None) = refl
opened-first (Err e) = refl

opened-later : (x : Progress password.Open) → try (after_open x) (λ _. write_system gpo1 gpo1_value) ≡ after_setup (setup_opened false x)
opened-later (Ok (Some o)) = refl
opened-later (Ok None) = refl
opened-later (Err e) = refl

-- a byte is stored, nested in what follows it
stored_config : (x : Progress storing.Store)
    → try (try (after_store i2c_cfg i2c_cfg_value x) (λ _. write_system rf_mngt rf_mngt_value)) (λ _. reporting) ≡ after_setup (setup_stored J.Config x)
stored_config (Ok (Some s)) = refl
stored_config (Ok None) = refl
stored_config (Err e) = refl

stored_sleep : (x : Progress storing.Store) → try (after_store rf_mngt rf_mngt_value x) (λ _. reporting) ≡ after_setup (setup_stored J.Sleep x)
stored_sleep (Ok (Some s)) = refl
stored_sleep (Ok None) = refl
stored_sleep (Err e) = refl

stored_events : (x : Progress storing.Store) → after_store gpo1 gpo1_value x ≡ after_setup (setup_stored J.Events x)
stored_events (Ok (Some s)) = refl
stored_events (Ok None) = refl
stored_events (Err e) = refl

pub setup_bridge : (lent : List ℕ) (s : Setup) → resume_setup s ≡ ask (meant lent (setup_ask s)) (λ r. after_setup (setup_step s r.ack r.got))
setup_bridge lent U.Identify =
    ap (ask (meant lent (setup_ask U.Identify))) (fun_ext (λ r. identify_case r.got r.ack (is_the_part (take 12 r.got)) refl))
setup_bridge lent U.Config = ap (ask (meant lent (setup_ask U.Config))) (fun_ext (λ r. config_case (first r.got) r.ack (is_set_up (first r.got)) refl))
setup_bridge lent (U.Open true o) =
    ap (λ (m : Proc (Res Unit)). try (try m (λ _. try (write_system i2c_cfg i2c_cfg_value) (λ _. write_system rf_mngt rf_mngt_value))) (λ _. reporting)) (open_bridge lent o)
    ∙ ap (ask (meant lent (open_ask o))) (fun_ext (λ r. opened-first (open_step o r.ack (first r.got))))
setup_bridge lent (U.Open false o) =
    ap (λ (m : Proc (Res Unit)). try m (λ _. write_system gpo1 gpo1_value)) (open_bridge lent o)
    ∙ ap (ask (meant lent (open_ask o))) (fun_ext (λ r. opened-later (open_step o r.ack (first r.got))))
setup_bridge lent (U.Store J.Config s) =
    ap (λ (m : Proc (Res Unit)). try (try m (λ _. write_system rf_mngt rf_mngt_value)) (λ _. reporting)) (store_bridge lent i2c_cfg i2c_cfg_value s)
    ∙ ap (ask (meant lent (store_ask i2c_cfg i2c_cfg_value s))) (fun_ext (λ r. stored_config (store_step i2c_cfg_value s r.ack (first r.got))))
setup_bridge lent (U.Store J.Sleep s) =
    ap (λ (m : Proc (Res Unit)). try m (λ _. reporting)) (store_bridge lent rf_mngt rf_mngt_value s)
    ∙ ap (ask (meant lent (store_ask rf_mngt rf_mngt_value s))) (fun_ext (λ r. stored_sleep (store_step rf_mngt_value s r.ack (first r.got))))
setup_bridge lent (U.Store J.Events s) =
    store_bridge lent gpo1 gpo1_value s
    ∙ ap (ask (meant lent (store_ask gpo1 gpo1_value s))) (fun_ext (λ r. stored_events (store_step gpo1_value s r.ack (first r.got))))
setup_bridge lent U.Events = ap (ask (meant lent (setup_ask U.Events))) (fun_ext (λ r. events_case (first r.got) r.ack (reports (first r.got)) refl))

-- The machine of `open_session`. Source: tag.rs, `open_session`. Its states are from no public document: how a call is kept between two
-- transfers. `open_bridge` (proofs/Opens): the machine does what protocol's tree says.
--
--   open_ask o                            == the transfer that it waits on
--   open_step o ack v                     == where the reply leads
--   presented, open_waited, open_looked    == its parts: after the password, in the wait, after the look
--   open_look                             == the look at I2C_SSO_Dyn, as a tree: the session is open, or Refused
--   resume_open o                         == what remains of `open_session` from o. after_open: the same after a step
use Rattle.std.specs.Prelude.{ℕ, Bool, Ok, Err, Some, None}
use Rattle.slices.specs.Pick.{pick}
use Rattle.protocol.specs.Tag.{user, i2c_sso_dyn, open_bit}
use Rattle.protocol.specs.Proc.{Proc, Res, try, fine, refuse, when◌then◌else◌}
use Rattle.protocol.specs.Bus.{read_byte}
use Rattle.protocol.specs.Setup.{open_session}
use Rattle.protocol.specs.Answer.{Progress}
use Rattle.protocol.specs.declared.answer.TagError.TheVariants.{NoAnswer, Refused}
use Rattle.machine.specs.Wait.{wait_new, wait_ask, wait_step, resume_wait}
use Rattle.machine.specs.declared.ask.Ask.{Ask}
use Rattle.machine.specs.declared.ask.Ask.TheVariants.{Password, Read}
use Rattle.machine.specs.declared.wait.Wait as wait
use Rattle.password.specs.declared.Open.{Open}
use Rattle.password.specs.declared.Open.TheVariants.{Present, Wait, Look}

abbrev pub open_ask : Open → Ask
open_ask Present = Password
open_ask (Wait w) = wait_ask w
open_ask Look = Read user i2c_sso_dyn 1

abbrev pub presented : Bool → Progress Open
presented ack = pick ack (Ok (Some (Wait wait_new))) (Err NoAnswer)

abbrev pub open_waited : Progress wait.Wait → Progress Open
open_waited (Ok (Some w)) = Ok (Some (Wait w))
open_waited (Ok None) = Ok (Some Look)
open_waited (Err e) = Err e

abbrev pub open_looked : Bool → ℕ → Progress Open
open_looked ack v = pick ack (pick (open_bit v) (Ok None) (Err Refused)) (Err NoAnswer)

abbrev pub open_step : Open → Bool → ℕ → Progress Open
open_step Present ack v = presented ack
open_step (Wait w) ack v = open_waited (wait_step w ack)
open_step Look ack v = open_looked ack v

abbrev pub open_look : Proc (Res Unit)
open_look = try (read_byte user i2c_sso_dyn) (λ v. when open_bit v then fine else refuse Refused)

abbrev pub resume_open : Open → Proc (Res Unit)
resume_open Present = open_session
resume_open (Wait w) = try (resume_wait w) (λ _. open_look)
resume_open Look = open_look

abbrev pub after_open : Progress Open → Proc (Res Unit)
after_open (Ok (Some o)) = resume_open o
after_open (Ok None) = fine
after_open (Err e) = refuse e

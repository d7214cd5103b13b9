-- The machine of `write_system`. Source: tag.rs, `write_system`. Its states are from no public document: how a call is kept between two
-- transfers. `store_bridge` (proofs/Stores): the machine does what protocol's tree says.
--
--   store_ask at value s                    == the transfer that it waits on
--   store_step value s ack v                == where the reply leads
--   store_sent, store_waited, store_looked    == its parts: after the write, in the wait, after the look
--   store_look at value                     == the look at the register, as a tree: it reads as the value, or NotTaken
--   resume_store at value s                 == what remains of `write_system` from s. after_store: the same after a step
use Rattle.std.specs.Prelude.{ℕ, Bool, eqb, Ok, Err, Some, None}
use Rattle.slices.specs.Pick.{pick}
use Rattle.protocol.specs.Tag.{system, system_write_ms, ready_polls}
use Rattle.protocol.specs.Answer.{Progress}
use Rattle.protocol.specs.Proc.{Proc, Res, try, fine, refuse, when◌then◌else◌}
use Rattle.protocol.specs.Bus.{read_byte, pause}
use Rattle.protocol.specs.Wait.{wait_ready}
use Rattle.protocol.specs.Setup.{write_system}
use Rattle.protocol.specs.declared.answer.TagError.TheVariants.{NoAnswer, NotTaken}
use Rattle.machine.specs.Wait.{wait_new, wait_ask, wait_step, resume_wait}
use Rattle.machine.specs.declared.ask.Ask.{Ask}
use Rattle.machine.specs.declared.ask.Ask.TheVariants.{Byte, Read, Delay}
use Rattle.machine.specs.declared.wait.Wait as wait
use Rattle.storing.specs.declared.Store.{Store}
use Rattle.storing.specs.declared.Store.TheVariants.{Send, Pause, Wait, Look}

abbrev pub store_ask : ℕ → ℕ → Store → Ask
store_ask at value Send = Byte system at value
store_ask at value Pause = Delay system_write_ms
store_ask at value (Wait w) = wait_ask w
store_ask at value Look = Read system at 1

abbrev pub store_sent : Bool → Progress Store
store_sent ack = pick ack (Ok (Some Pause)) (Err NoAnswer)

abbrev pub store_waited : Progress wait.Wait → Progress Store
store_waited (Ok (Some w)) = Ok (Some (Wait w))
store_waited (Ok None) = Ok (Some Look)
store_waited (Err e) = Err e

abbrev pub store_looked : ℕ → Bool → ℕ → Progress Store
store_looked value ack v = pick ack (pick (eqb v value) (Ok None) (Err NotTaken)) (Err NoAnswer)

abbrev pub store_step : ℕ → Store → Bool → ℕ → Progress Store
store_step value Send ack v = store_sent ack
store_step value Pause ack v = Ok (Some (Wait wait_new))
store_step value (Wait w) ack v = store_waited (wait_step w ack)
store_step value Look ack v = store_looked value ack v

abbrev pub store_look : ℕ → ℕ → Proc (Res Unit)
store_look at value = try (read_byte system at) (λ v. when eqb v value then fine else refuse NotTaken)

abbrev pub resume_store : ℕ → ℕ → Store → Proc (Res Unit)
resume_store at value Send = write_system at value
resume_store at value Pause = try (pause system_write_ms) (λ _. try (wait_ready ready_polls) (λ _. store_look at value))
resume_store at value (Wait w) = try (resume_wait w) (λ _. store_look at value)
resume_store at value Look = store_look at value

abbrev pub after_store : ℕ → ℕ → Progress Store → Proc (Res Unit)
after_store at value (Ok (Some s)) = resume_store at value s
after_store at value (Ok None) = fine
after_store at value (Err e) = refuse e

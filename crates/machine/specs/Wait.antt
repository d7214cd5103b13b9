-- The machine of `wait_ready`: its steps, and the tree that remains from each state. Source: tag.rs, `wait_ready`. Its states are from no
-- public document: how a call is kept between two transfers.
--
--   wait_new             == its first state: the first of a hundred polls
--   wait_ask w           == the transfer that it waits on
--   wait_step w ack      == where the reply leads
--   poll_after n         == after the pause of a failed poll, with n polls left: the next poll, or busy
--   resume_wait w        == what remains of `wait_ready` from w. after_wait: the same after a step
-- `wait_bridge` (proofs/Waits): the machine does what the tree says.
use Rattle.std.specs.Prelude.{ℕ, zero, suc, Bool, Ok, Err, Some, None}
use Rattle.slices.specs.Pick.{pick}
use Rattle.protocol.specs.Transfer.{delay}
use Rattle.protocol.specs.Tag.{user, ready_poll_ms}
use Rattle.protocol.specs.Proc.{Proc, ask, Res, fine, refuse}
use Rattle.protocol.specs.Wait.{wait_ready}
use Rattle.protocol.specs.Answer.{Progress}
use Rattle.protocol.specs.declared.answer.TagError.TheVariants.{Busy}
use Rattle.machine.specs.declared.ask.Ask.{Ask}
use Rattle.machine.specs.declared.ask.Ask.TheVariants.{Address, Delay}
use Rattle.machine.specs.declared.wait.Wait.{Wait}
use Rattle.machine.specs.declared.wait.Wait.TheVariants.{Poll, Pause}

abbrev pub wait_new : Wait
wait_new = Poll 99

abbrev pub wait_ask : Wait → Ask
wait_ask (Poll n) = Address user
wait_ask (Pause n) = Delay ready_poll_ms

-- the polls go down to none
abbrev pub poll_after : ℕ → Progress Wait
poll_after zero = Err Busy
poll_after (suc n) = Ok (Some (Poll n))

abbrev pub wait_step : Wait → Bool → Progress Wait
wait_step (Poll n) ack = pick ack (Ok None) (Ok (Some (Pause n)))
wait_step (Pause n) ack = poll_after n

abbrev pub resume_wait : Wait → Proc (Res Unit)
resume_wait (Poll n) = wait_ready (suc n)
resume_wait (Pause n) = ask (delay ready_poll_ms) (λ _. wait_ready n)

abbrev pub after_wait : Progress Wait → Proc (Res Unit)
after_wait (Ok (Some w)) = resume_wait w
after_wait (Ok None) = fine
after_wait (Err e) = refuse e

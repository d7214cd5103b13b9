-- The machine of `wait_ready` does what the tree says.
use mathlib.Core.Path.{◌≡◌, refl, ap, fun_ext}
use mathlib.Core.Bool.{Bool, true, false}
use mathlib.Core.List.{List}
use Prim.Native.Nat.{ℕ, zero, suc, ◌-◌}
use native.Mathlib.Omega.{arith}
use Rattle.std.specs.Prelude.{Ok, Some}
use Rattle.slices.specs.Pick.{pick}
use Rattle.protocol.specs.Answer.{Progress}
use Rattle.protocol.specs.Transfer.{delay}
use Rattle.protocol.specs.Tag.{ready_poll_ms, ready_polls}
use Rattle.protocol.specs.Proc.{ask, fine}
use Rattle.protocol.specs.Wait.{poll, wait_ready}
use Rattle.machine.specs.Ask.{meant}
use Rattle.machine.specs.Wait.{wait_new, wait_ask, poll_after, wait_step, resume_wait, after_wait}
use Rattle.machine.specs.declared.wait.Wait.{Wait}
use Rattle.machine.specs.declared.wait.Wait.TheVariants.{Poll, Pause}

-- the code counts down by one
pub poll-after : (n : ℕ) → (n ≡ 0 → ⊥) → ◌≡◌ {A = Progress Wait} (Ok (Some (Poll (n - 1)))) (poll_after n)
poll-after zero h = absurd (h refl)
poll-after (suc n) h = ap (λ (k : ℕ). Ok (Some (Poll k))) (omega arith)

polled : (n : ℕ) (b : Bool) → pick b fine (ask (delay ready_poll_ms) (λ _. wait_ready n)) ≡ after_wait (wait_step (Poll n) b)
polled n true = refl
polled n false = refl

pub wait_bridge : (lent : List ℕ) (w : Wait) → resume_wait w ≡ ask (meant lent (wait_ask w)) (λ r. after_wait (wait_step w r.ack))
wait_bridge lent (Poll n) = ap (ask poll) (fun_ext (λ r. polled n r.ack))
wait_bridge lent (Pause zero) = refl
wait_bridge lent (Pause (suc n)) = refl

-- from its first state it is all of `wait_ready`
pub wait_starts : resume_wait wait_new ≡ wait_ready ready_polls
wait_starts = refl

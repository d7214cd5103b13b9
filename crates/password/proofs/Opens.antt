-- The machine of `open_session` does what the tree says.
use mathlib.Core.Path.{◌≡◌, refl, ap, fun_ext, ◌∙◌}
use mathlib.Core.Bool.{Bool, true, false}
use mathlib.Core.List.{List}
use Prim.Native.Nat.{ℕ}
use Rattle.std.specs.Prelude.{Ok, Err, Some, None}
use Rattle.slices.specs.Pick.{pick}
use Rattle.protocol.specs.Answer.{Progress}
use Rattle.protocol.specs.Tag.{open_bit}
use Rattle.protocol.specs.Proc.{Proc, done, ask, Res, ok, try, fine, refuse}
use Rattle.protocol.specs.declared.answer.TagError.TheVariants.{NoAnswer, Refused}
use Rattle.machine.specs.Ask.{meant, first}
use Rattle.machine.specs.Wait.{wait_new, wait_ask, wait_step, after_wait}
use Rattle.machine.specs.declared.wait.Wait.{Wait}
use Rattle.machine.proofs.Waits.{wait_bridge}
use Rattle.password.specs.Open.{open_ask, presented, open_waited, open_looked, open_step, open_look, resume_open, after_open}
use Rattle.password.specs.declared.Open.{Open}
use Rattle.password.specs.declared.Open.TheVariants as O

-- the wait, nested in what follows it
open_waited_lem : (x : Progress Wait) → try (after_wait x) (λ _. open_look) ≡ after_open (open_waited x)
open_waited_lem (Ok (Some w)) = refl
open_waited_lem (Ok None) = refl
open_waited_lem (Err e) = refl

present_case : (b : Bool) → try (pick b fine (refuse NoAnswer)) (λ _. resume_open (O.Wait wait_new)) ≡ after_open (presented b)
present_case true = refl
present_case false = refl

-- a byte was read or not, and is as it should be or not
open_case : (v : ℕ) (b t : Bool) → open_bit v ≡ t → try (pick b (done (ok v)) (refuse NoAnswer)) (λ x. pick (open_bit x) fine (refuse Refused)) ≡ after_open (open_looked b v)
open_case v true true e = rw e
open_case v true false e = rw e
open_case v false t e = refl

pub open_bridge : (lent : List ℕ) (o : Open) → resume_open o ≡ ask (meant lent (open_ask o)) (λ r. after_open (open_step o r.ack (first r.got)))
open_bridge lent O.Present = ap (ask (meant lent (open_ask O.Present))) (fun_ext (λ r. present_case r.ack))
open_bridge lent (O.Wait w) =
    ap (λ (m : Proc (Res Unit)). try m (λ _. open_look)) (wait_bridge lent w)
    ∙ ap (ask (meant lent (wait_ask w))) (fun_ext (λ r. open_waited_lem (wait_step w r.ack)))
open_bridge lent O.Look = ap (ask (meant lent (open_ask O.Look))) (fun_ext (λ r. open_case (first r.got) r.ack (open_bit (first r.got)) refl))

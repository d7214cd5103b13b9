-- The machine of `write_system` does what the tree says.
use mathlib.Core.Path.{◌≡◌, refl, ap, fun_ext, ◌∙◌}
use mathlib.Core.Bool.{Bool, true, false}
use mathlib.Core.List.{List}
use Prim.Native.Nat.{ℕ}
use lib.Dec.{eqb}
use Rattle.std.specs.Prelude.{Ok, Err, Some, None}
use Rattle.slices.specs.Pick.{pick}
use Rattle.protocol.specs.Answer.{Progress}
use Rattle.protocol.specs.Proc.{Proc, done, ask, Res, ok, try, fine, refuse}
use Rattle.protocol.specs.declared.answer.TagError.TheVariants.{NoAnswer, NotTaken}
use Rattle.machine.specs.Ask.{meant, first}
use Rattle.machine.specs.Wait.{wait_ask, wait_step, after_wait}
use Rattle.machine.specs.declared.wait.Wait as wait
use Rattle.machine.proofs.Waits.{wait_bridge}
use Rattle.storing.specs.Store.{store_ask, store_sent, store_waited, store_looked, store_step, store_look, resume_store, after_store}
use Rattle.storing.specs.declared.Store.{Store}
use Rattle.storing.specs.declared.Store.TheVariants as S

-- the wait, nested in what follows it
store_waited_lem : (at value : ℕ) (x : Progress wait.Wait) → try (after_wait x) (λ _. store_look at value) ≡ after_store at value (store_waited x)
store_waited_lem at value (Ok (Some w)) = refl
store_waited_lem at value (Ok None) = refl
store_waited_lem at value (Err e) = refl

-- a byte was sent or not; it was read back or not, and is as it should be or not
sent_case : (at value : ℕ) (b : Bool) → try (pick b fine (refuse NoAnswer)) (λ _. resume_store at value S.Pause) ≡ after_store at value (store_sent b)
sent_case at value true = refl
sent_case at value false = refl

store_case : (at value v : ℕ) (b t : Bool) → eqb v value ≡ t
    → try (pick b (done (ok v)) (refuse NoAnswer)) (λ x. pick (eqb x value) fine (refuse NotTaken)) ≡ after_store at value (store_looked value b v)
store_case at value v true true e = rw e
store_case at value v true false e = rw e
store_case at value v false t e = refl

pub store_bridge : (lent : List ℕ) (at value : ℕ) (s : Store)
    → resume_store at value s ≡ ask (meant lent (store_ask at value s)) (λ r. after_store at value (store_step value s r.ack (first r.got)))
store_bridge lent at value S.Send = ap (ask (meant lent (store_ask at value S.Send))) (fun_ext (λ r. sent_case at value r.ack))
store_bridge lent at value S.Pause = refl
store_bridge lent at value (S.Wait w) =
    ap (λ (m : Proc (Res Unit)). try m (λ _. store_look at value)) (wait_bridge lent w)
    ∙ ap (ask (meant lent (wait_ask w))) (fun_ext (λ r. store_waited_lem at value (wait_step w r.ack)))
store_bridge lent at value S.Look =
    ap (ask (meant lent (store_ask at value S.Look))) (fun_ext (λ r. store_case at value (first r.got) r.ack (eqb (first r.got) value) refl))

use Prim.Native.Nat.{ℕ, ◌-◌}
use mathlib.Core.Path.{◌≡◌, ap, ◌∙◌}
use lib.ListN.{get_or}
use Rattle.scan.proofs.Highs.{reach_is, back_on, back_one}
use native.Mathlib.Omega.{arith}
use borrow.Author.Rules.{rules}
use Rattle.std.proofs.lemmas.Grind.{common_steps}
use Rattle.reach.proofs.searched.Goals as goal

pub loop-k-init : goal.loop-k-init
loop-k-init c = search (rules, back_on)

pub returns-then-s-k-ne0 : goal.returns-then-s-k-ne0
returns-then-s-k-ne0 c = reach_is _ _ (record {
  inside = omega arith;
  zeros = λ n p q. c.loop-k.invariant.zeros n (omega arith) q;
  last = λ m e z. let q : c.loop-k.k - 1 ≡ m = omega arith in c.if-s-k-ne0.true (ap (λ (k : ℕ). get_or c.args.s.now k 0) q ∙ z);
})

pub loop-k-preserved : goal.loop-k-preserved
loop-k-preserved c = grind (arith, common_steps, back_one, back_on)

pub returns : goal.returns
returns c = reach_is _ _ (record {
  inside = omega arith;
  zeros = λ k p q. c.loop-k.invariant.zeros k (omega arith) q;
  last = λ m e z. omega arith;
})

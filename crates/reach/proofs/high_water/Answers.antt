use Prim.Native.Nat.{ℕ, ◌-◌}
use mathlib.Core.Path.{◌≡◌, ap, ◌∙◌}
use lib.ListN.{length, get_or}
use Rattle.scan.proofs.Highs.{reach_is}
use native.Mathlib.Omega.{arith}
use Rattle.reach.proofs.high_water.Goals as goal

-- the last byte is not zero
pub returns-then-s-len-ne0 : goal.returns-then-s-len-ne0
returns-then-s-len-ne0 c = reach_is _ _ (record {
  inside = omega arith;
  zeros = λ k p q. absurd (omega arith);
  last = λ m e z. let q : length c.args.s.now - 1 ≡ m = omega arith in c.if-s-len-ne0.true (ap (λ (k : ℕ). get_or c.args.s.now k 0) q ∙ z);
})

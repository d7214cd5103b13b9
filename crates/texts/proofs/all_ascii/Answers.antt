use native.Mathlib.Nat.{add_assoc}
use native.Mathlib.Omega.{arith}
use borrow.Author.Tests.{ltb-true}
use Rattle.slices.proofs.Truths.{and_left, and_right}
use Rattle.utf8.proofs.Skips.{skips_on, skips_ascii}
use Rattle.texts.proofs.all_ascii.Goals as goal

pub loop-k-preserved : goal.loop-k-preserved
loop-k-preserved c = (omega arith, λ e. rw (← add_assoc) (skips_on (c.loop-k.invariant.1 (and_left _ _ e)) (skips_ascii _ _ (omega arith) (ltb-true _ _ (and_right c.loop-k.ok _ e)))))

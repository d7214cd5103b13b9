use mathlib.Core.Path.{sym, ◌∙◌}
use native.Mathlib.Nat.{add_assoc}
use native.Mathlib.Omega.{arith}
use Rattle.slices.proofs.Truths.{and_left, and_right}
use Rattle.utf8.proofs.Narrow.{narrow_on}
use Rattle.narrow.proofs.is_narrow.Goals as goal

pub loop-k-preserved : goal.loop-k-preserved
loop-k-preserved c = (omega arith, λ e. rw (← add_assoc) (narrow_on _ _ _ (omega arith) (sym c.beside-ok.ensures ∙ and_right c.loop-k.ok _ e) (c.loop-k.invariant.1 (and_left _ _ e))))

use Prim.Native.Nat.{◌-◌}
use lib.ListN.{length}
use Rattle.utf8.specs.Skips.{Skips}
use Rattle.texts.proofs.is_utf8.Given as goal

-- All before `i` is passed over, so that the whole text is well-formed as the text from `i` is.
abbrev pub invariant-loop-i : goal.invariant-loop-i
invariant-loop-i l = Skips l.s 0 l.i

abbrev pub decreases-loop-i : goal.decreases-loop-i
decreases-loop-i l = length l.s - l.i

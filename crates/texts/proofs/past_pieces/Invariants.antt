use Prim.Native.Nat.{◌-◌}
use lib.ListN.{length}
use Rattle.utf8.specs.Skips.{Skips}
use Rattle.texts.proofs.past_pieces.Given as goal

-- Each piece is passed over, and so is all from `from` on.
abbrev pub invariant-loop-i : goal.invariant-loop-i
invariant-loop-i l = Skips l.s l.from l.i

abbrev pub decreases-loop-i : goal.decreases-loop-i
decreases-loop-i l = length l.s - l.i

use mathlib.Core.Path.{◌≡◌}
use Prim.Native.Nat.{◌-◌, ◌≤◌}
use lib.ListN.{length}
use Rattle.blocks.specs.Read.{message_from}
use Rattle.blocks.proofs.message_from.Given as goal

abbrev pub invariant-loop-n : goal.invariant-loop-n
invariant-loop-n l = (l.at ≤ length l.image) × (message_from l.image l.start ≡ message_from l.image l.at)

abbrev pub decreases-loop-n : goal.decreases-loop-n
decreases-loop-n l = length l.image - l.at

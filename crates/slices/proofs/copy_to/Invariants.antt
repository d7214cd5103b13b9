use Rattle.std.proofs.Common.{length, ◌≡◌, ◌≤◌, take}
use Rattle.slices.specs.Bytes.{splice}
use Rattle.slices.proofs.copy_to.Given as goal

-- the bytes before i are written
abbrev pub invariant-loop-i : goal.invariant-loop-i
invariant-loop-i l = (l.i ≤ length l.src) × (l.out ≡ splice l.initial.out l.at (take l.i l.src))

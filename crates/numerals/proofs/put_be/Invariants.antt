use Rattle.std.proofs.Common.{◌≡◌, ◌+◌, ◌-◌, ◌≤◌}
use Rattle.slices.specs.Bytes.{splice, be}
use Rattle.numerals.proofs.Backward.{shift}
use Rattle.numerals.proofs.put_be.Given as goal

-- the bytes from k on are written
abbrev pub invariant-loop-k : goal.invariant-loop-k
invariant-loop-k g l = (l.k ≤ g.row.N) × (l.left ≡ shift (g.row.N - l.k) l.v) × (l.out ≡ splice l.initial.out (l.at + l.k) (be (g.row.N - l.k) l.v))

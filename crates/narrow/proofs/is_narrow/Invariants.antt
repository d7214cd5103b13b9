use mathlib.Core.Path.{◌≡◌}
use mathlib.Core.Bool.{true}
use Prim.Native.Nat.{◌+◌, ◌≤◌}
use lib.ListN.{get_or}
use Rattle.slices.specs.Pick.{pick}
use Rattle.utf8.specs.Narrow.{later}
use Rattle.utf8.specs.Skips.{Skips}
use Rattle.narrow.proofs.is_narrow.Given as goal

-- The bytes passed so far are such characters where `ok` still holds; a later byte that stands next is passed with its first.
abbrev pub invariant-loop-k : goal.invariant-loop-k
invariant-loop-k l = (l.k ≤ l.n) × (l.ok ≡ true → Skips l.s l.i (l.i + l.k + pick (later (get_or l.s (l.i + l.k) 0)) 1 0))

use mathlib.Core.Path.{◌≡◌}
use mathlib.Core.Bool.{true}
use Prim.Native.Nat.{◌+◌, ◌≤◌}
use Rattle.utf8.specs.Skips.{Skips}
use Rattle.texts.proofs.all_ascii.Given as goal

-- The bytes passed so far are ASCII where `ok` still holds, and each ASCII byte is a character.
abbrev pub invariant-loop-k : goal.invariant-loop-k
invariant-loop-k l = (l.k ≤ l.n) × (l.ok ≡ true → Skips l.s l.i (l.i + l.k))

use mathlib.Core.Path.{◌≡◌}
use mathlib.Core.Bool.{◌&&◌}
use Prim.Native.Nat.{◌+◌, ◌≤◌}
use lib.ListN.{drop}
use Rattle.utf8.specs.Utf8.{fits}
use Rattle.utf8.specs.Rest.{rest}
use Rattle.utf8.proofs.Places.{left}
use Rattle.tails.proofs.rest.Given as goal

-- What is left to test decides, together with `ok`, as the whole row did.
abbrev pub invariant-loop-k : goal.invariant-loop-k
invariant-loop-k l = (l.k ≤ l.n) × (l.ok && left l.s l.i l.n l.k ≡ fits (drop (l.i + 1) l.s) (rest l.n l.lo l.hi))

use mathlib.Core.Path.{◌≡◌}
use Prim.Native.Nat.{◌-◌, ◌≤◌}
use lib.ListN.{length}
use Rattle.listing.proofs.Lines.{Going}
use Rattle.listing.proofs.put_records.Given as goal

abbrev pub invariant-loop-found : goal.invariant-loop-found
invariant-loop-found l = (l.count ≤ l.to) × (length l.out ≡ length l.initial.out) × Going l.initial.out l.image l.out l.start l.end l.to l.at l.count

abbrev pub decreases-loop-found : goal.decreases-loop-found
decreases-loop-found l = l.end - l.at

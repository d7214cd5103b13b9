use mathlib.Core.Path.{◌≡◌}
use lib.ListN.{take}
use Rattle.scan.specs.Zeros.{blank}
use Rattle.scan.proofs.all_zero.Given as goal

abbrev pub invariant-loop-b : goal.invariant-loop-b
invariant-loop-b l = l.ok ≡ blank (take l.b-index l.s)

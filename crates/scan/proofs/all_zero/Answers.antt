use mathlib.Core.Path.{ap, ◌∙◌}
use mathlib.Core.Bool.{Bool, ◌&&◌}
use lib.Dec.{eqb}
use lib.ListN.{get_or}
use Rattle.scan.proofs.Blanks.{blank-more}
use native.Mathlib.Omega.{arith}
use Rattle.scan.proofs.all_zero.Goals as goal

pub loop-b-preserved : goal.loop-b-preserved
loop-b-preserved c = ap (λ (t : Bool). t && eqb (get_or c.args.s.now c.loop-b.b-index 0) 0) c.loop-b.invariant ∙ blank-more c.args.s.now c.loop-b.b-index (omega arith)

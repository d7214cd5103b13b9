use mathlib.Core.Path.{ap, ◌∙◌}
use mathlib.Core.Bool.{Bool, ◌&&◌}
use lib.Dec.{eqb}
use lib.ListN.{get_or}
use Rattle.scan.proofs.Blanks.{alike-more}
use native.Mathlib.Omega.{arith}
use Rattle.equals.proofs.same.Goals as goal

pub loop-i-preserved : goal.loop-i-preserved
loop-i-preserved c = (omega arith, ap (λ (t : Bool). t && eqb (get_or c.args.a.now c.loop-i.i 0) (get_or c.args.b.now c.loop-i.i 0)) c.loop-i.invariant.1 ∙ alike-more c.args.a.now c.args.b.now c.loop-i.i (omega arith) (omega arith))

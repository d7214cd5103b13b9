use borrow.Author.Tests.{not-false}
use Rattle.scan.proofs.Highs.{back_none, back_on, back_block}
use native.Mathlib.Omega.{arith}
use Rattle.std.proofs.lemmas.Grind.{common_steps}
use Rattle.reach.proofs.back.Goals as goal

pub loop-n-preserved : goal.loop-n-preserved
loop-n-preserved c = grind (arith, common_steps, not-false, back_none, back_on, back_block)

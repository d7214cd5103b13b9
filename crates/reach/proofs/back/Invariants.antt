use Rattle.scan.specs.Zeros.{Back}
use Rattle.reach.proofs.back.Given as goal

abbrev pub invariant-loop-n : goal.invariant-loop-n
invariant-loop-n l = Back l.s l.n l.from

abbrev pub decreases-loop-n : goal.decreases-loop-n
decreases-loop-n l = l.n

use lib.ListN.{length}
use Rattle.scan.specs.Zeros.{Back}
use Rattle.reach.proofs.searched.Given as goal

-- from `k`, which has not been looked at, to the end there are zeros
abbrev pub invariant-loop-k : goal.invariant-loop-k
invariant-loop-k l = Back l.s l.k (length l.s)

use Rattle.std.proofs.Common.{◌<◌}
use Rattle.lines.proofs.said.digest.Given as goal

abbrev pub invariant-loop-b : goal.invariant-loop-b
invariant-loop-b l = l.h < 17592186044399

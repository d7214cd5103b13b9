use Rattle.std.proofs.Common.{◌<◌}
use Rattle.cases.proofs.given.generate.Given as goal

abbrev pub invariant-loop-byte : goal.invariant-loop-byte
invariant-loop-byte l = l.x < 0x1_0000_0000

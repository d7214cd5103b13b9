use Rattle.std.proofs.Common.{length, ◌-◌, ◌≤◌}
use Rattle.listtag.proofs.read_image.Given as goal

abbrev pub invariant-loop-have : goal.invariant-loop-have
invariant-loop-have g l = l.have ≤ length l.image

abbrev pub decreases-loop-have : goal.decreases-loop-have
decreases-loop-have g l = length l.image - l.have

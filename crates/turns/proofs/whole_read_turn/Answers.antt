use mathlib.Core.Path.{sym, ◌∙◌}
use Rattle.protocol.specs.Mark.{found}
use Rattle.machine.proofs.Acks.{was-acked}
use lib.Seq.{take_all}
use native.Mathlib.Omega.{arith}
use Rattle.turns.proofs.whole_read_turn.Goals as goal

pub returns-in-Ok : goal.returns-in-Ok
unfolding found
returns-in-Ok c = rw (was-acked _ (sym c.in-Ok.is ∙ c.acked.ensures), take_all 8192 c.args.out.now (omega arith), ← c.high_water.ensures)

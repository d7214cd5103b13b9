use mathlib.Core.Path.{ap}
use mathlib.Core.Bool.{not}
use Rattle.machine.proofs.Acks.{was-acked}
use Rattle.wipe.proofs.Scrubs.{read_law}
use Rattle.found.proofs.read_step.Goals as goal

pub returns : goal.returns
returns c = read_law c.args.p _ c.args.reply.now _ _ _ _ _ _ (was-acked _ c.in_ok-acked.ensures) c.size-n.ensures (ap not c.blank_row-a.ensures) (ap not c.blank_row-b.ensures) (ap not c.blank_row-c.ensures) (ap not c.blank_row-d.ensures) c.rows_found.ensures

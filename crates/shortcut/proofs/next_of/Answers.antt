use Rattle.wiping.proofs.Shorts.{next-is}
use Rattle.shortcut.proofs.next_of.Goals as goal

pub returns-then-wipes-f : goal.returns-then-wipes-f
returns-then-wipes-f c = next-is c.args.state.now c.args.transfer.now c.args.reply.now c.args.lent.now c.args.out.now c.args.ack c.flat_of-f.result c.wipes.result c.moves.result c.noted.result c.if-state-ne-STATE_LEN.false c.if-ack-transfer.false c.flat_of-f.ensures c.wipes.ensures c.if-wipes-f.true c.moves.ensures c.noted.ensures

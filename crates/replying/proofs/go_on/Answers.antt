use mathlib.Core.Path.{subst, sym}
use lib.ListN.{length}
use Rattle.stages.specs.Turns.{stage_ask}
use Rattle.stages.specs.Able.{got_by}
use Rattle.telling.specs.Fit.{TurnFits}
use Rattle.entry.proofs.Opens.{steps_able, goes_on}
use Rattle.entry.proofs.Calls.{one_more}
use native.Mathlib.Omega.{arith}
use Rattle.replying.proofs.go_on.Goals as goal

pub overflow_add-n : goal.overflow_add-n
overflow_add-n c = let h = one_more (length c.args.state.now) (length c.args.transfer.now) (length c.args.reply.now) (length c.args.lent.now) (length c.args.out.now) c.args.h (stage_ask (length c.args.lent.now) c.args.h.stage) c.args.ack c.stage_count.result c.requires (c.stage_count.ensures (length c.args.lent.now)) in omega (arith, h)

pub stage_step-t-requires : goal.stage_step-t-requires
stage_step-t-requires c = steps_able (length c.args.state.now) (length c.args.transfer.now) (length c.args.reply.now) (length c.args.lent.now) (length c.args.out.now) c.args.h c.requires

pub settle-requires : goal.settle-requires
settle-requires c = (c.requires.state, c.requires.transfer, c.requires.reply, one_more (length c.args.state.now) (length c.args.transfer.now) (length c.args.reply.now) (length c.args.lent.now) (length c.args.out.now) c.args.h (stage_ask (length c.args.lent.now) c.args.h.stage) c.args.ack c.stage_count.result c.requires (c.stage_count.ensures (length c.args.lent.now)), subst (TurnFits (length c.args.lent.now)) (sym c.stage_step-t.ensures) (goes_on c.args.lent.now (length c.args.out.now) (length c.args.state.now) (length c.args.transfer.now) (length c.args.reply.now) c.args.h c.args.ack (got_by c.args.h.stage c.args.reply.now c.args.out.now) c.requires))

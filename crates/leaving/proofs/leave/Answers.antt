use Rattle.wiping.proofs.Shorts.{leave_is}
use Rattle.leaving.proofs.leave.Goals as goal

pub returns-clause-state_after : goal.returns-clause-state_after
returns-clause-state_after c = let h = leave_is c.args.s c.args.f c.ask-a.result c.bytes.result c.args.state.now _ _ c.frame.result c.args.transfer.now _ _ c.ask_step.result c.requires.0 c.bytes.ensures c.copy_to.ensures c.ask-a.ensures c.frame.ensures c.write_frame.ensures c.ask_step.ensures in h.1

pub returns-clause-transfer_after : goal.returns-clause-transfer_after
returns-clause-transfer_after c = let h = leave_is c.args.s c.args.f c.ask-a.result c.bytes.result c.args.state.now _ _ c.frame.result c.args.transfer.now _ _ c.ask_step.result c.requires.0 c.bytes.ensures c.copy_to.ensures c.ask-a.ensures c.frame.ensures c.write_frame.ensures c.ask_step.ensures in h.2

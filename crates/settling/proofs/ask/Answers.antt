use mathlib.Core.Path.{subst, sym}
use lib.ListN.{length}
use Rattle.telling.specs.Step.{AskFits}
use Rattle.telling.specs.Fit.{StageFits}
use Rattle.stages.specs.Turns.{stage_ask}
use Rattle.telling.proofs.Frames.{asked}
use Rattle.telling.proofs.Frames.{fits-part}
use Rattle.settling.proofs.ask.Goals as goal

pub stage_ask-a-requires : goal.stage_ask-a-requires
unfolding StageFits
stage_ask-a-requires c = c.requires.1.0

pub frame-requires : goal.frame-requires
unfolding StageFits
frame-requires c = subst (AskFits (length c.args.lent.now)) (sym c.stage_ask-a.ensures) c.requires.1.1

pub ask_step-requires : goal.ask_step-requires
unfolding StageFits
ask_step-requires c = subst (AskFits 8192) (sym c.stage_ask-a.ensures) (fits-part (length c.args.lent.now) (stage_ask (length c.args.lent.now) c.args.st) c.requires.1.2 c.requires.1.1)

pub returns-clause-value : goal.returns-clause-value
unfolding StageFits
returns-clause-value c = (asked c.args.lent.now c.args.st c.stage_ask-a.result c.into_out.result c.args.transfer.now c.frame.result _ _ c.stage_ask-a.ensures c.into_out.ensures c.requires.1.1 c.frame.ensures c.write_frame.ensures c.ask_step.result c.ask_step.ensures).0

pub returns-clause-transfer_after : goal.returns-clause-transfer_after
unfolding StageFits
returns-clause-transfer_after c = (asked c.args.lent.now c.args.st c.stage_ask-a.result c.into_out.result c.args.transfer.now c.frame.result _ _ c.stage_ask-a.ensures c.into_out.ensures c.requires.1.1 c.frame.ensures c.write_frame.ensures c.ask_step.result c.ask_step.ensures).1

use mathlib.Core.Path.{subst}
use lib.ListN.{length}
use Rattle.telling.specs.Fit.{TurnFits}
use Rattle.settling.proofs.settle.Goals as goal

pub ask-requires : goal.ask-requires
unfolding TurnFits
ask-requires c = (c.requires.1, subst (TurnFits (length c.args.lent.now)) c.in-Open.is c.requires.4)

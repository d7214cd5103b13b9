use mathlib.Core.Path.{sym, ◌∙◌}
use lib.ListN.{length}
use Rattle.entry.proofs.Opens.{heard-says, next_fits}
use Rattle.asking.proofs.next.Goals as goal

pub ask-requires : goal.ask-requires
ask-requires c = next_fits _ _ _ _ _ _ (heard-says c.args.state.now (length c.args.transfer.now) (length c.args.reply.now) (length c.args.lent.now) (length c.args.out.now) _ (sym c.heard_at-h.ensures ∙ c.in-Ok.is))

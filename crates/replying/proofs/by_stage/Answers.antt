use mathlib.Core.Path.{sym, ◌∙◌}
use lib.ListN.{length}
use Rattle.entry.proofs.Opens.{heard-says}
use Rattle.replying.proofs.by_stage.Goals as goal

pub go_on-requires : goal.go_on-requires
go_on-requires c = heard-says c.args.state.now (length c.args.transfer.now) (length c.args.reply.now) (length c.args.lent.now) (length c.args.out.now) _ (sym c.heard_at-h.ensures ∙ c.in-Ok.is)

use mathlib.Core.Path.{sym, subst, ◌∙◌}
use mathlib.Core.List.{List}
use Prim.Native.Nat.{ℕ}
use native.Mathlib.Omega.{arith}
use lib.ListN.{length}
use Rattle.telling.specs.Fit.{TurnFits}
use Rattle.calling.specs.Calling.{named}
use Rattle.entry.proofs.Opens.{opened-says, start_fits}
use Rattle.starting.proofs.start.Goals as goal

pub start-requires : goal.start-requires
start-requires c = (opened-says c.args.state.now _ (length c.args.transfer.now) (length c.args.reply.now) (sym c.opened_at-o.ensures ∙ c.in-Ok.is)).3

pub settle-requires : goal.settle-requires
settle-requires c = let h = opened-says c.args.state.now _ (length c.args.transfer.now) (length c.args.reply.now) (sym c.opened_at-o.ensures ∙ c.in-Ok.is) in (h.0, h.1, h.2, omega arith, subst (λ (l : List ℕ). TurnFits (length l) c.start.result) (sym c.requires) (start_fits (named c.args.c c.args.lent.now) _ c.start.result h.3 c.start.ensures))

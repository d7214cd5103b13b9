use mathlib.Core.Path.{sym, subst}
use Prim.Native.Nat.{◌<◌}
use Rattle.session.proofs.Unders.{under-says, count-some}
use native.Mathlib.Omega.{arith}
use Rattle.sound.proofs.piece_rows.Goals as goal

pub overflow_sub-n : goal.overflow_sub-n
overflow_sub-n c = let h = under-says c.args.m c.args.p.start c.args.len c.args.p.done c.under.result c.under.ensures c.if-under.true in subst (λ n. 0 < n) (sym c.row_count-n.ensures) (count-some _ _ (omega (arith, h.2)))

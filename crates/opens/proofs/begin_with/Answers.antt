use mathlib.Core.Path.{sym, ◌∙◌}
use Rattle.std.proofs.Common.{arith}
use Rattle.opens.proofs.Opened.{opened}
use Rattle.opens.proofs.begin_with.Goals as goal

pub returns-clause-value : goal.returns-clause-value
returns-clause-value c = let a = c.args in
    (opened a.out.now a.kind.now a.head.now a.area a.format _ _ (omega arith) c.saturating_add-payload.ensures (sym c.judge.ensures ∙ c.in_ok-judge.was) c.put_front-at.ensures c.copy_to.ensures).0

pub returns-clause-out_after : goal.returns-clause-out_after
returns-clause-out_after c = let a = c.args in
    (opened a.out.now a.kind.now a.head.now a.area a.format _ _ (omega arith) c.saturating_add-payload.ensures (sym c.judge.ensures ∙ c.in_ok-judge.was) c.put_front-at.ensures c.copy_to.ensures).1

use Rattle.scan.specs.Rows.{row_count}
use borrow.Author.Tests.{eq-eqb, ne_eqb}
use Rattle.cutting.proofs.row_count.Goals as goal

pub returns-then-len-eq0 : goal.returns-then-len-eq0
unfolding row_count
returns-then-len-eq0 c = rw (eq-eqb _ _ c.if-len-eq0.true)

pub returns : goal.returns
unfolding row_count
returns c = rw (ne_eqb _ _ c.if-len-eq0.false)

use native.Mathlib.Omega.{arith}
use Rattle.utf8.specs.Utf8.{table}
use Rattle.utf8.proofs.Rows.{nth}
use Rattle.utf8.proofs.Skips.{skips_row}
use Rattle.texts.proofs.is_piece.Goals as goal

-- A piece of 3 or 4 bytes is a character of its row, by its first byte and its later bytes; any other piece is ASCII.
pub returns-then-n-eq3 : goal.returns-then-n-eq3
unfolding table
returns-then-n-eq3 c = skips_row c.args.s.now c.args.i (omega arith) (nth table 3 (omega arith)) c.if-n-eq3.true c.inside.ensures c.rest.ensures

pub returns-then-n-eq4 : goal.returns-then-n-eq4
unfolding table
returns-then-n-eq4 c = skips_row c.args.s.now c.args.i (omega arith) (nth table 6 (omega arith)) c.if-n-eq4.true c.inside-then-n-eq4.ensures c.rest-then-n-eq4.ensures

use mathlib.Core.Path.{refl}
use native.Mathlib.Omega.{arith}
use Rattle.utf8.specs.Utf8.{table, fits}
use Rattle.utf8.proofs.Rows.{nth}
use Rattle.utf8.proofs.Places.{row_at, none_at}
use Rattle.characters.proofs.first_len.Goals as goal

-- Each arm is a row of the table by its first byte (`row_at`); between the rows and past them there is none (`none_at`).
-- row 1
pub returns-then-a-le127 : goal.returns-then-a-le127
unfolding table fits
returns-then-a-le127 c = row_at c.args.s.now c.args.i c.requires (nth table 0 (omega arith)) (omega arith) (omega arith) refl

-- row 3
pub returns-in-224 : goal.returns-in-224
unfolding table
returns-in-224 c = row_at c.args.s.now c.args.i c.requires (nth table 2 (omega arith)) (omega arith) (omega arith) c.rest.ensures

-- row 5
pub returns-in-237 : goal.returns-in-237
unfolding table
returns-in-237 c = row_at c.args.s.now c.args.i c.requires (nth table 4 (omega arith)) (omega arith) (omega arith) c.rest-in-237.ensures

-- row 7
pub returns-in-240 : goal.returns-in-240
unfolding table
returns-in-240 c = row_at c.args.s.now c.args.i c.requires (nth table 6 (omega arith)) (omega arith) (omega arith) c.rest-in-240.ensures

-- row 9
pub returns-in-244 : goal.returns-in-244
unfolding table
returns-in-244 c = row_at c.args.s.now c.args.i c.requires (nth table 8 (omega arith)) (omega arith) (omega arith) c.rest-in-244.ensures

-- row 2
pub returns-in-194-to-223 : goal.returns-in-194-to-223
unfolding table
returns-in-194-to-223 c = row_at c.args.s.now c.args.i c.requires (nth table 1 (omega arith)) (omega arith) (omega arith) c.rest-in-194-to-223.ensures

-- row 4
pub returns-in-225-to-236 : goal.returns-in-225-to-236
unfolding table
returns-in-225-to-236 c = row_at c.args.s.now c.args.i c.requires (nth table 3 (omega arith)) (omega arith) (omega arith) c.rest-in-225-to-236.ensures

-- row 6
pub returns-in-238-to-239 : goal.returns-in-238-to-239
unfolding table
returns-in-238-to-239 c = row_at c.args.s.now c.args.i c.requires (nth table 5 (omega arith)) (omega arith) (omega arith) c.rest-in-238-to-239.ensures

-- row 8
pub returns-in-241-to-243 : goal.returns-in-241-to-243
unfolding table
returns-in-241-to-243 c = row_at c.args.s.now c.args.i c.requires (nth table 7 (omega arith)) (omega arith) (omega arith) c.rest-in-241-to-243.ensures

-- between row 1 and row 2
pub returns-in_default : goal.returns-in_default
unfolding table
returns-in_default c = none_at c.args.s.now c.args.i c.requires 0x80 0xC1 refl (omega arith) (omega arith)

-- past row 9
pub returns-in_default-2 : goal.returns-in_default-2
unfolding table
returns-in_default-2 c = none_at c.args.s.now c.args.i c.requires 0xF5 0xFF refl (omega arith) (omega (arith, c.shared_slice_known-1.given c.args.i))

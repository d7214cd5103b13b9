-- Rows of the memory. Source: tag.rs, `ROW` and `program`: a write programs every row that it touches (DS13519 section 6.4.2).
--
--   row               == the bytes of a row: 16
--   row_len at left    == how many of `left` bytes at `at` lie in the row of `at`: up to that row's end
--   row_count at len   == how many rows `len` bytes at `at` touch
use Rattle.std.specs.Prelude.{ℕ, ◌+◌, ◌-◌, ◌/◌, ◌%◌, min, eqb}
use Rattle.slices.specs.Pick.{pick}

abbrev pub row : ℕ
row = 16

unfoldable pub row_len : ℕ → ℕ → ℕ
row_len at left = min (row - at % row) left

unfoldable pub row_count : ℕ → ℕ → ℕ
row_count at len = pick (eqb len 0) 0 ((at % row + len + (row - 1)) / row)

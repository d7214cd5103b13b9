-- Laws of rows: a piece never touches two, and the pieces use the rows up.
use mathlib.Core.Path.{◌≡◌, refl, sym}
use mathlib.Core.List.{List}
use lib.ListN.{length, take}
use lib.Seq.{length-take-le}
use Prim.Native.Nat.{ℕ, ◌+◌, ◌-◌, ◌/◌, ◌%◌, ◌≤◌, ◌<◌, min}
use native.Mathlib.Omega.{arith}
use mathlib.Core.Logic.{⊎_elim}
use Rattle.slices.proofs.Cases.{lt_or_ge}
use borrow.Author.Tests.{eq-eqb, ne_eqb}
use Rattle.scan.specs.Rows.{row_len, row_count}

-- every byte of a piece lies in the row that the piece starts in
pub one-row : (at left i : ℕ) → i < row_len at left → (at + i) / 16 ≡ at / 16
unfolding row_len
one-row at left i h = omega arith

-- a piece of some bytes has some bytes, and no more than there are
pub row-some : (at left : ℕ) → 0 < left → 0 < row_len at left
unfolding row_len
row-some at left h = omega arith

pub row_most : (at left : ℕ) → (row_len at left ≤ left) × (row_len at left ≤ 16)
unfolding row_len
row_most at left = (omega arith, omega arith)

-- a piece ends with its row at the latest
pub row_room : (at left : ℕ) → at % 16 + row_len at left ≤ 16
unfolding row_len
row_room at left = omega arith

-- the first n bytes are n
pub part_length : (l : List ℕ) (n : ℕ) → n ≤ length l → n ≡ length (take n l)
part_length l n h = sym (length-take-le n l h)

-- no bytes touch no row
pub count_none : (at : ℕ) → row_count at 0 ≡ 0
unfolding row_count
count_none at = refl

-- some bytes touch one row, and those that the rest touches
pub count-more : (at left : ℕ) → 0 < left → row_count at left ≡ 1 + row_count (at + row_len at left) (left - row_len at left)
unfolding row_len row_count
count-more at left h = ⊎_elim whole rest (lt_or_ge (16 - at % 16) left)
  where
    -- the row ends before the bytes do
    whole : 16 - at % 16 < left → row_count at left ≡ 1 + row_count (at + row_len at left) (left - row_len at left)
    whole g =
        let m : min (16 - at % 16) left ≡ 16 - at % 16 = omega arith in
        let z : (at + (16 - at % 16)) % 16 ≡ 0 = omega arith in
        rw (m, z, ne_eqb left 0 (λ e. omega arith), ne_eqb (left - (16 - at % 16)) 0 (λ e. omega arith)) (omega arith)

    rest : left ≤ 16 - at % 16 → row_count at left ≡ 1 + row_count (at + row_len at left) (left - row_len at left)
    rest g =
        let m : min (16 - at % 16) left ≡ left = omega arith in
        rw (m, ne_eqb left 0 (λ e. omega arith), eq-eqb (left - left) 0 (omega arith)) (omega arith)

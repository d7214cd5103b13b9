-- Laws of the table's rows. No two rows share a first byte, so the first byte says which row can fit, or that none can.
--
--   fits_le, first_len_le    == what fits is there
--   apart, clear, distinct  == two ranges, a range and the rows, all the rows have no first byte in common
--   starts b row            == the byte b is a first byte of the row
--   first-row, first-none   == the first character, by the row that its first byte belongs to, or by a range that no row begins with
--   nth                     == the row at a place of the table is one of its rows
use mathlib.Core.Path.{◌≡◌, refl}
use mathlib.Core.Bool.{Bool, true, false, ◌&&◌, ◌||◌}
use mathlib.Core.List.Memᴰ
use mathlib.Core.List.{List, [], ◌∷◌, Memᴰ}
use mathlib.Core.Logic.{⊎_elim}
use Prim.Native.Nat.{ℕ, zero, suc, ◌≤◌, ◌<◌}
use native.Mathlib.Omega.{arith}
use borrow.Author.Tests.{ltb-true}
use lib.Dec.{ltb}
use lib.ListN.{length, get_or}
use Rattle.slices.specs.Pick.{pick}
use Rattle.slices.proofs.Cases.{pick_cases}
use Rattle.slices.proofs.Truths.{never, false_of, and_left, and_right, either}
use Rattle.utf8.specs.Utf8.{Range, ◌to◌, inside, table, fits, row_len, first_len}
use Rattle.utf8.proofs.Tests.{inside_lo, inside_hi}

-- what fits a row is as long as the row
pub fits_le : (s : List ℕ) (row : List Range) → fits s row ≡ true → length row ≤ length s
unfolding fits
fits_le s [] e = omega arith
fits_le [] (r ∷ row) e = never e
fits_le (b ∷ s) (r ∷ row) e = let h = fits_le s row (and_right (inside b r) _ e) in omega arith

-- so is what the first row that fits takes
row_len_le : (s : List ℕ) (rows : List (List Range)) → row_len s rows ≤ length s
unfolding row_len
row_len_le s [] = omega arith
row_len_le s (row ∷ rows) = pick_cases (λ (n : ℕ). n ≤ length s) (fits s row) (fits_le s row) (λ _. row_len_le s rows)

-- the first character is there
pub first_len_le : (s : List ℕ) → first_len s ≤ length s
unfolding first_len
first_len_le s = row_len_le s table

-- two ranges have no byte in common
abbrev apart : Range → Range → Bool
apart (lo to hi) (lo' to hi') = ltb hi lo' || ltb hi' lo

-- no row has a first byte of the range p
abbrev pub clear : Range → List (List Range) → Bool
clear p [] = true
clear p ([] ∷ rows) = false
clear p ((q ∷ row) ∷ rows) = apart p q && clear p rows

-- no two rows have a first byte in common
abbrev distinct : List (List Range) → Bool
distinct [] = true
distinct ([] ∷ rows) = false
distinct ((p ∷ row) ∷ rows) = clear p rows && distinct rows

-- the byte b is a first byte of the row
abbrev starts : ℕ → List Range → Bool
starts b [] = false
starts b (r ∷ row) = inside b r

module _ (b : ℕ) where
  -- no byte is inside two ranges that are apart
  apart_not : (p q : Range) → apart p q ≡ true → inside b p ≡ true → inside b q ≡ true → ⊥
  apart_not (lo to hi) (lo' to hi') a e f =
      ⊎_elim
      (λ k. omega (arith, ltb-true hi lo' k, inside_hi b lo hi e, inside_lo b lo' hi' f))
      (λ k. omega (arith, ltb-true hi' lo k, inside_lo b lo hi e, inside_hi b lo' hi' f))
      (either (ltb hi lo') _ a)

  -- a first byte of some row is outside each range that no row begins with
  clear_starts : (p : Range) (rows : List (List Range)) {row : List Range} → clear p rows ≡ true → Memᴰ row rows
      → starts b row ≡ true → inside b p ≡ true → ⊥
  clear_starts p [] c m e f = Memᴰ.not-nil m
  clear_starts p ([] ∷ rows) c m e f = never c
  clear_starts p ((q ∷ r) ∷ rows) c m e f =
      ⊎_elim
      (λ same. apart_not p q (and_left _ _ c) f (rw same at e))
      (λ later. clear_starts p rows (and_right (apart p q) _ c) later e f)
      (Memᴰ.cases_cons m)

  module _ (s : List ℕ) where
    -- a row that does not begin with the first byte does not fit
    passed : (q : Range) (row : List Range) → (inside b q ≡ true → ⊥) → fits (b ∷ s) (q ∷ row) ≡ false
    unfolding fits
    passed q row n = rw (false_of (inside b q) n)

    -- where no row begins with the first byte, none fits
    clear_none : (p : Range) (rows : List (List Range)) → clear p rows ≡ true → inside b p ≡ true → row_len (b ∷ s) rows ≡ 0
    unfolding row_len
    clear_none p [] c e = refl
    clear_none p ([] ∷ rows) c e = never c
    clear_none p ((q ∷ r) ∷ rows) c e =
        rw (passed q r (apart_not p q (and_left _ _ c) e)) (clear_none p rows (and_right (apart p q) _ c) e)

    -- of distinct rows the one that begins with the first byte fits, or none
    row_len_lem : (rows : List (List Range)) {row : List Range} → distinct rows ≡ true → Memᴰ row rows → starts b row ≡ true
        → row_len (b ∷ s) rows ≡ pick (fits (b ∷ s) row) (length row) 0
    unfolding row_len
    row_len_lem [] d m e = absurd (Memᴰ.not-nil m)
    row_len_lem ([] ∷ rows) d m e = never d
    row_len_lem ((q ∷ r) ∷ rows) d m e =
        let c = and_left (clear q rows) _ d in
        ⊎_elim
        (λ same. rw (same, clear_none q rows c (rw same at e)))
        (λ later.
        let n : inside b q ≡ true → ⊥ = clear_starts q rows c later e in
        rw (passed q r n) (row_len_lem rows (and_right (clear q rows) _ d) later e))
        (Memᴰ.cases_cons m)

    -- the table's rows are distinct, by computation
    pub first-row : {row : List Range} → Memᴰ row table → starts b row ≡ true → first_len (b ∷ s) ≡ pick (fits (b ∷ s) row) (length row) 0
    unfolding first_len table
    first-row m e = row_len_lem table refl m e

    -- a first byte from a range that no row begins with
    pub first-none : (p : Range) → clear p table ≡ true → inside b p ≡ true → first_len (b ∷ s) ≡ 0
    unfolding first_len
    first-none p c e = clear_none p table c e

-- the row at k of the rows
pub nth : (rows : List (List Range)) (k : ℕ) → k < length rows → Memᴰ (get_or rows k []) rows
nth [] k h = absurd (omega arith)
nth (row ∷ rows) zero h = Memᴰ.head refl
nth (row ∷ rows) (suc k) h = Memᴰ.tail (nth rows k (omega arith))

-- The character at a place in a text.
--
--   fits_at                          == what fits at a place, by its first byte
--   row_at, none_at                  == the character at a place: of the row that its first byte belongs to, or none
--   left s i n k                     == of a character of n bytes at i, those from its byte k on continue it
--   rest-first, rest-next, rest-done == its later bytes, tested one after another: what is left decides with what was tested
--   rest-short                       == bytes that are not there do not fit
use mathlib.Core.Path.{◌≡◌, sym, ◌∙◌}
use mathlib.Core.Bool.{Bool, true, false, ◌&&◌, and-true, and_assoc}
use mathlib.Core.List.{List, ◌∷◌, Memᴰ}
use Prim.Native.Nat.{ℕ, suc, ◌+◌, ◌-◌, ◌≤◌, ◌<◌}
use native.Mathlib.Nat.{add_assoc}
use native.Mathlib.Numerals.{add-one}
use native.Mathlib.Omega.{arith}
use lib.ListN.{length, get_or, drop, replicate, length-drop}
use lib.Seq.{drop-cons}
use Rattle.slices.specs.Pick.{pick}
use Rattle.slices.proofs.Truths.{false_of}
use Rattle.utf8.specs.Utf8.{Range, ◌to◌, inside, table, fits, first_len}
use Rattle.utf8.specs.Rest.{rest}
use Rattle.utf8.proofs.Tests.{inside_is}
use Rattle.utf8.proofs.Rows.{fits_le, clear, first-row, first-none}

module _ (s : List ℕ) (i : ℕ) (h : i < length s) where
  -- the text from i on, as its first byte and the others
  drop_at : drop i s ≡ get_or s i 0 ∷ drop (i + 1) s
  drop_at = rw add-one (drop-cons s i 0 h)

  -- the first byte fits, and the others do
  fits_at : (r : Range) (row : List Range) → fits (drop i s) (r ∷ row) ≡ inside (get_or s i 0) r && fits (drop (i + 1) s) row
  unfolding fits
  fits_at r row = rw drop_at

  -- the first byte belongs to a row: its later bytes decide
  pub row_at : {lo hi r : ℕ} {row : List Range} → Memᴰ (lo to hi ∷ row) table → lo ≤ get_or s i 0 → get_or s i 0 ≤ hi
      → r ≡ pick (fits (drop (i + 1) s) row) (suc (length row)) 0 → r ≡ first_len (drop i s)
  unfolding fits
  row_at {lo} {hi} {row = row} m p q e =
      let k = inside_is (get_or s i 0) lo hi p q in
      rw drop_at (e ∙ sym (first-row (get_or s i 0) (drop (i + 1) s) m k ∙ rw k))

  -- the first byte belongs to no row
  pub none_at : (lo hi : ℕ) → clear (lo to hi) table ≡ true → lo ≤ get_or s i 0 → get_or s i 0 ≤ hi → 0 ≡ first_len (drop i s)
  none_at lo hi c p q = rw drop_at (sym (first-none (get_or s i 0) (drop (i + 1) s) (lo to hi) c (inside_is (get_or s i 0) lo hi p q)))

-- of a character of n bytes at i, those from its byte k on continue it
abbrev pub left : List ℕ → ℕ → ℕ → ℕ → Bool
left s i n k = fits (drop (i + k) s) (replicate (n - k) (0x80 to 0xBF))

module _ (s : List ℕ) (i n : ℕ) where
  -- the second byte tested
  pub rest-first : (lo hi : ℕ) {t : Bool} → i + 1 < length s → t ≡ inside (get_or s (i + 1) 0) (lo to hi)
      → t && left s i n 2 ≡ fits (drop (i + 1) s) (rest n lo hi)
  rest-first lo hi p e = rw (fits_at s (i + 1) p, e, add_assoc)

  -- one more byte tested
  pub rest-next : (k : ℕ) (ok : Bool) {t : Bool} → i + n ≤ length s → k < n → t ≡ inside (get_or s (i + k) 0) (0x80 to 0xBF)
      → ok && t && left s i n (k + 1) ≡ ok && left s i n k
  rest-next k ok h l e =
      let m : n - k ≡ suc (n - (k + 1)) = omega arith in
      let p : i + k < length s = omega arith in
      rw (m, fits_at s (i + k) p, e, and_assoc ok, add_assoc)

  -- nothing left to test
  pub rest-done : (k : ℕ) (ok : Bool) {f : Bool} → n ≤ k → ok && left s i n k ≡ f → ok ≡ f
  unfolding fits
  rest-done k ok l e = let m : n - k ≡ 0 = omega arith in sym (and-true ok) ∙ (rw m at e)

  -- too few bytes
  pub rest-short : (row : List Range) → i < length s → length s < i + 1 + length row → 0 ≡ pick (fits (drop (i + 1) s) row) n 0
  rest-short row p h =
      let l = length-drop (i + 1) s in
      let e : fits (drop (i + 1) s) row ≡ false = false_of _ (λ f. omega (arith, fits_le (drop (i + 1) s) row f)) in
      rw e

-- Bytes that are zero. Source: tag.rs, `high_water`, and the tests of `scrub_to` and `write`.
--
--   blank bs        == every byte is zero
--   alike xs bs     == the same bytes, and as many
--   high_water bs    == the place after the last byte that is not zero, or 0 where there is none
--   above b n       == the same of the byte b and the bytes after it, where n is that of those bytes
--   Zeros bs i j    == the bytes from i up to j are zero
--   Back bs i j     == i lies at j or before it, with zeros up to j
--   Reach bs r      == r is the end of the bytes without the zeros at their end. `reach_is` (proofs/Highs): only `high_water bs` is
use Rattle.std.specs.Prelude.{◌≡◌, Bool, true, false, ◌&&◌, List, [], ◌∷◌, ℕ, zero, suc, ◌+◌, ◌≤◌, ◌<◌, length, get_or, eqb}
use Rattle.slices.specs.Pick.{pick}

abbrev pub blank : List ℕ → Bool
blank [] = true
blank (b ∷ bs) = eqb b 0 && blank bs

abbrev pub alike : List ℕ → List ℕ → Bool
alike [] [] = true
alike [] (b ∷ bs) = false
alike (a ∷ xs) [] = false
alike (a ∷ xs) (b ∷ bs) = eqb a b && alike xs bs

-- the end of a byte and what follows it, of which `n` is the end
abbrev pub above : ℕ → ℕ → ℕ
above b zero = pick (eqb b 0) 0 1
above b (suc n) = suc (suc n)

unfoldable pub high_water : List ℕ → ℕ
high_water [] = 0
high_water (b ∷ bs) = above b (high_water bs)

abbrev pub Zeros : List ℕ → ℕ → ℕ → Type 0
Zeros bs i j = (k : ℕ) → i ≤ k → k < j → get_or bs k 0 ≡ 0

pub record Back (bs : List ℕ) (i j : ℕ) : Type 0 where
  pub below : i ≤ j
  pub zeros : Zeros bs i j

pub record Reach (bs : List ℕ) (r : ℕ) : Type 0 where
  pub inside : r ≤ length bs
  pub zeros : Zeros bs r (length bs)
  pub last : (n : ℕ) → r ≡ n + 1 → get_or bs n 0 ≡ 0 → ⊥

-- Laws of `left_in`: the count, and what 0 says.
use mathlib.Core.Path.{◌≡◌, refl, ap, sym, ◌∙◌}
use mathlib.Core.Bool.{Bool, true, false, not, ◌&&◌}
use mathlib.Core.List.{List, [], ◌∷◌}
use Prim.Native.Nat.{ℕ, ◌+◌, ◌≤◌}
use native.Mathlib.Omega.{arith}
use lib.ListN.{length, take}
use lib.Seq.{take_all}
use lib.Dec.{eqb}
use Rattle.scan.specs.Zeros.{blank}
use Rattle.std.specs.Prelude.{count_by, cond}
use Rattle.std.proofs.lemmas.List.Sums.{sum_by-cons}
use Rattle.stand.specs.Left.{one_if, left_in}

-- the bytes that are not zero, counted
pub left_counts : (s : List ℕ) → left_in s ≡ count_by (λ b. not (eqb b 0)) s
unfolding left_in
left_counts [] = refl
left_counts (x ∷ xs) = at (eqb x 0) (left_counts xs) ∙ sym (sum_by-cons (λ b. cond (not (eqb b 0)) 1 0) x xs)
  where
    at : (b : Bool) → left_in xs ≡ count_by (λ b. not (eqb b 0)) xs → one_if (not b) + left_in xs ≡ cond (not b) 1 0 + count_by (λ b. not (eqb b 0)) xs
    at true e = ap (λ (n : ℕ). 0 + n) e
    at false e = ap (λ (n : ℕ). 1 + n) e

pub left_all : (s : List ℕ) (i : ℕ) → length s ≤ i → left_in (take i s) ≡ left_in s
left_all s i h = ap left_in (take_all i s h)

-- where nothing is left every byte is zero
pub none_left : (s : List ℕ) → left_in s ≡ 0 → blank s ≡ true
unfolding left_in
none_left [] e = refl
none_left (x ∷ xs) e = at (eqb x 0) e (none_left xs)
  where
    at : (b : Bool) → one_if (not b) + left_in xs ≡ 0 → (left_in xs ≡ 0 → blank xs ≡ true) → b && blank xs ≡ true
    at true e go = go (omega arith)
    at false e go = absurd (omega arith)

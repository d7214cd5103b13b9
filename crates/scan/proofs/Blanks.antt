-- Laws of `blank` and `alike`: one byte more.
use mathlib.Core.Path.{◌≡◌, refl, ap, ap₂, sym, ◌∙◌}
use mathlib.Core.Bool.{Bool, true, false, ◌&&◌}
use mathlib.Core.List.{List, [], ◌∷◌, ◌++◌}
use Prim.Native.Nat.{ℕ, zero, suc, ◌+◌, ◌-◌, ◌≤◌, ◌<◌}
use native.Mathlib.Omega.{arith}
use native.Mathlib.Numerals.{add-one}
use lib.ListN.{length, get_or, take, drop, length-drop, drop_of_length-le}
use lib.Seq.{take-suc, take_all}
use lib.Dec.{eqb}
use borrow.Author.Tests.{eq-eqb, eqb-true}
use Rattle.slices.proofs.Truths.{and_left, and_right}
use Rattle.scan.specs.Zeros.{blank, alike}

and_assoc : (a b c : Bool) → (a && b) && c ≡ a && (b && c)
and_assoc true b c = refl
and_assoc false b c = refl

and-true : (a : Bool) → a && true ≡ a
and-true true = refl
and-true false = refl

-- a part of zeros
pub blank-take : (k : ℕ) (l : List ℕ) → blank l ≡ true → blank (take k l) ≡ true
blank-take zero l e = refl
blank-take (suc k) [] e = refl
blank-take (suc k) (x ∷ xs) e = rw (and_left (eqb x 0) (blank xs) e) (blank-take k xs (and_right (eqb x 0) (blank xs) e))

pub blank-drop : (k : ℕ) (l : List ℕ) → blank l ≡ true → blank (drop k l) ≡ true
blank-drop zero l e = e
blank-drop (suc k) [] e = refl
blank-drop (suc k) (x ∷ xs) e = blank-drop k xs (and_right (eqb x 0) (blank xs) e)

blank-last : (s : List ℕ) (b : ℕ) → blank (s ++ b ∷ []) ≡ blank s && eqb b 0
blank-last [] b = and-true (eqb b 0)
blank-last (x ∷ xs) b = ap (λ (t : Bool). eqb x 0 && t) (blank-last xs b) ∙ sym (and_assoc (eqb x 0) (blank xs) (eqb b 0))

-- one byte more
pub blank-more : (s : List ℕ) (k : ℕ) → k < length s → blank (take k s) && eqb (get_or s k 0) 0 ≡ blank (take (k + 1) s)
blank-more s k h = sym (blank-last (take k s) (get_or s k 0)) ∙ ap blank (sym (take-suc s k 0 h) ∙ ap (λ (n : ℕ). take n s) (sym (add-one k)))

-- a row that the bytes end in
pub blank-short : (s : List ℕ) (i : ℕ) → length s - i < 16 → blank (take (length s - i) (drop i s)) ≡ blank (take 16 (drop i s))
blank-short s i h = ap blank (take_all (length s - i) (drop i s) (omega (arith, length-drop i s)) ∙ sym (take_all 16 (drop i s) (omega (arith, length-drop i s))))

-- a row past the end
pub blank_none : (s : List ℕ) (i : ℕ) → length s ≤ i → true ≡ blank (take 16 (drop i s))
blank_none s i h = rw (drop_of_length-le s h)

-- each byte of a blank block
pub blank_at : (l : List ℕ) (k : ℕ) → k < length l → blank l ≡ true → get_or l k 0 ≡ 0
blank_at [] k h e = absurd (omega arith)
blank_at (x ∷ xs) zero h e = eqb-true x 0 (and_left (eqb x 0) (blank xs) e)
blank_at (x ∷ xs) (suc k) h e = blank_at xs k (omega arith) (and_right (eqb x 0) (blank xs) e)

-- and a block of zeros is blank
pub blank-zeros : (l : List ℕ) → ((k : ℕ) → k < length l → get_or l k 0 ≡ 0) → blank l ≡ true
blank-zeros [] z = refl
blank-zeros (x ∷ xs) z = rw (eq-eqb x 0 (z 0 (omega arith))) (blank-zeros xs (λ k h. z (suc k) (omega arith)))

-- two lists with one byte more each
pub alike-more : (a b : List ℕ) (i : ℕ) → i < length a → i < length b
    → alike (take i a) (take i b) && eqb (get_or a i 0) (get_or b i 0) ≡ alike (take (i + 1) a) (take (i + 1) b)
alike-more a b i h g = rw add-one (go a b i h g)
  where
    go : (a b : List ℕ) (i : ℕ) → i < length a → i < length b
        → alike (take i a) (take i b) && eqb (get_or a i 0) (get_or b i 0) ≡ alike (take (suc i) a) (take (suc i) b)
    go [] b i h g = absurd (omega arith)
    go (x ∷ xs) [] i h g = absurd (omega arith)
    go (x ∷ xs) (y ∷ ys) zero h g = sym (and-true (eqb x y))
    go (x ∷ xs) (y ∷ ys) (suc i) h g =
        and_assoc (eqb x y) (alike (take i xs) (take i ys)) (eqb (get_or xs i 0) (get_or ys i 0))
        ∙ ap (λ (t : Bool). eqb x y && t) (go xs ys i (omega arith) (omega arith))

-- what is alike is equal
pub alike_equal : (a b : List ℕ) → alike a b ≡ true → a ≡ b
alike_equal [] [] e = refl
alike_equal [] (y ∷ ys) e = absurd (let z : ◌≡◌ {A = ℕ} 0 1 = cc in omega arith)
alike_equal (x ∷ xs) [] e = absurd (let z : ◌≡◌ {A = ℕ} 0 1 = cc in omega arith)
alike_equal (x ∷ xs) (y ∷ ys) e =
    ap₂ (λ (b : ℕ) (l : List ℕ). b ∷ l) (eqb-true x y (and_left (eqb x y) (alike xs ys) e)) (alike_equal xs ys (and_right (eqb x y) (alike xs ys) e))

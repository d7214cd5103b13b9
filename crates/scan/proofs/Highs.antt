-- Laws of `Back`, and the one place that `Reach` leaves.
use mathlib.Core.Path.{◌≡◌, refl, ap, sym, ◌∙◌}
use mathlib.Core.Bool.{Bool, true, false}
use mathlib.Core.List.{List, [], ◌∷◌}
use mathlib.Core.Logic.{⊎_elim}
use Prim.Native.Nat.{ℕ, zero, suc, ◌+◌, ◌-◌, ◌≤◌, ◌<◌}
use native.Mathlib.Omega.{arith}
use lib.ListN.{length, get_or, take, drop, length-take, length-drop}
use lib.Seq.{get_or-take, get_or-drop}
use lib.Dec.{eqb}
use borrow.Author.Tests.{eq-eqb, ne_eqb, eqb-true}
use Rattle.slices.specs.Pick.{pick}
use Rattle.slices.proofs.Cases.{lt_or_ge, pick_cases}
use Rattle.scan.specs.Zeros.{blank, Back, Reach, high_water, above}
use Rattle.scan.proofs.Blanks.{blank_at}

pub back_none : (s : List ℕ) (i : ℕ) → Back s i i
back_none s i = record { below = omega arith; zeros = λ k p q. absurd (omega arith) }

pub back_on : {s : List ℕ} {i j m : ℕ} → Back s i j → Back s j m → Back s i m
back_on {s} {i} {j} {m} f g =
    let a = f.below in
    let b = g.below in
    record { below = omega arith; zeros = λ k p q. ⊎_elim (λ h. f.zeros k p h) (λ h. g.zeros k h q) (lt_or_ge k j) }

pub back_one : (s : List ℕ) (i : ℕ) → get_or s i 0 ≡ 0 → Back s i (i + 1)
back_one s i e = record { below = omega arith; zeros = λ k p q. let z : k ≡ i = omega arith in ap (λ (n : ℕ). get_or s n 0) z ∙ e }

-- a blank block
pub back_block : (s : List ℕ) (i n : ℕ) → i + n ≤ length s → blank (take n (drop i s)) ≡ true → Back s i (i + n)
back_block s i n h e = record {
  below = omega arith;
  zeros = λ k p q.
      let g : k - i < n = omega arith in
      let l : k - i < length (take n (drop i s)) = simp (length-take, length-drop) (omega arith) in
      let z : i + (k - i) ≡ k = omega arith in
      ap (λ (m : ℕ). get_or s m 0) (sym z) ∙ sym (get_or-drop i s (k - i) 0) ∙ sym (get_or-take n (drop i s) (k - i) 0 g) ∙ blank_at (take n (drop i s)) (k - i) l e;
}

-- only `high_water` reaches
pub reach_is : (s : List ℕ) (r : ℕ) → Reach s r → r ≡ high_water s
unfolding high_water
reach_is [] r h = let i = h.inside in omega arith
reach_is (x ∷ xs) zero h =
    let e : 0 ≡ high_water xs = reach_is xs 0 (record { inside = omega arith; zeros = λ k p q. h.zeros (suc k) (omega arith) (omega arith); last = λ n z. absurd (omega arith) }) in
    rw (← e) (rw (eq-eqb x 0 (h.zeros 0 (omega arith) (omega arith))))
reach_is (x ∷ xs) (suc r) h =
    let i = h.inside in
    let e : r ≡ high_water xs = reach_is xs r (record { inside = omega arith; zeros = λ k p q. h.zeros (suc k) (omega arith) (omega arith); last = λ n z w. h.last (suc n) (omega arith) w }) in
    ap suc e ∙ tops x (high_water xs) (λ z w. h.last 0 (omega (arith, e)) w)
  where
    tops : (x n : ℕ) → (n ≡ 0 → x ≡ 0 → ⊥) → suc n ≡ above x n
    tops x zero f = rw (ne_eqb x 0 (f refl))
    tops x (suc n) f = refl

-- from `high_water` on there are zeros
pub high_zeros : (s : List ℕ) (i : ℕ) → high_water s ≤ i → get_or s i 0 ≡ 0
unfolding high_water
high_zeros [] i h = refl
high_zeros (x ∷ xs) i h = go (high_water xs) i h (λ k g. high_zeros xs k g)
  where
    low : (b : Bool) → eqb x 0 ≡ b → pick b 0 1 ≤ 0 → x ≡ 0
    low true e h = eqb-true x 0 e
    low false e h = absurd (omega arith)

    go : (n i : ℕ) → above x n ≤ i → ((k : ℕ) → n ≤ k → get_or xs k 0 ≡ 0) → get_or (x ∷ xs) i 0 ≡ 0
    go zero zero h f = low (eqb x 0) refl h
    go zero (suc i) h f = f i (omega arith)
    go (suc n) zero h f = absurd (omega arith)
    go (suc n) (suc i) h f = f i (omega arith)

-- and it lies inside the bytes
pub high_inside : (s : List ℕ) → high_water s ≤ length s
unfolding high_water
high_inside [] = omega arith
high_inside (x ∷ xs) = go (high_water xs) (high_inside xs)
  where
    go : (n : ℕ) → n ≤ length xs → above x n ≤ suc (length xs)
    go zero h = pick_cases (λ (m : ℕ). m ≤ suc (length xs)) (eqb x 0) (λ _. omega arith) (λ _. omega arith)
    go (suc n) h = omega arith

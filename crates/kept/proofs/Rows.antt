-- Laws of rows: pieces that fill theirs, and how many there are.
use mathlib.Core.Path.{◌≡◌}
use mathlib.Core.Logic.{⊎_elim}
use Prim.Native.Nat.{ℕ, ◌+◌, ◌-◌, ◌%◌, ◌≤◌, ◌<◌}
use native.Mathlib.Omega.{arith}
use lib.Dec.{eqb}
use borrow.Author.Tests.{eqb-false, ne_eqb}
use Rattle.slices.proofs.Cases.{lt_or_ge, pick_cases}
use Rattle.scan.specs.Rows.{row_len, row_count}

-- a piece that ends before the bytes do ends with its row
pub row_full : (at left : ℕ) → row_len at left < left → at % 16 + row_len at left ≡ 16
unfolding row_len
row_full at left h = omega (arith, h)

-- a piece up to the end of a row, from sixteen bytes before it or from the start
pub prev_len : (start done n : ℕ) → 0 < done → done < n → (start + done) % 16 ≡ 0 → row_len (start + (done - 16)) (n - (done - 16)) ≡ done - (done - 16)
unfolding row_len
prev_len start done n h g v =
    ⊎_elim
    (λ (l : done < 16).
    let z : done - 16 ≡ 0 = omega (arith, l) in
    let a : start + (done - 16) ≡ start = omega (arith, z) in
    let b : start % 16 + done ≡ 16 = omega (arith, v, h, l) in
    rw (a, z) (omega (arith, b, g)))
    (λ (l : 16 ≤ done). let a : (start + (done - 16)) % 16 ≡ 0 = omega (arith, v, l) in rw a (omega (arith, g, l)))
    (lt_or_ge done 16)

-- bytes in one row are one row
pub count-one : (start n : ℕ) → 0 < n → start % 16 + n ≤ 16 → row_count start n ≡ 1
unfolding row_count
count-one start n h g = rw (ne_eqb n 0 (λ e. omega (arith, e, h))) (omega (arith, h, g))

-- no more rows than bytes, and one
pub count_most : (at n : ℕ) → row_count at n ≤ n + 1
unfolding row_count
count_most at n = pick_cases (λ (k : ℕ). k ≤ n + 1) (eqb n 0) (λ _. omega arith) (λ e. ⊎_elim (λ z. absurd (eqb-false n 0 e (omega (arith, z)))) (λ z. omega (arith, z)) (lt_or_ge n 1))

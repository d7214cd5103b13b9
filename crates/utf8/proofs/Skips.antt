-- Laws of `Skips`.
use mathlib.Core.Path.{◌≡◌, refl, ap, sym, ◌∙◌}
use mathlib.Core.Bool.{Bool, true, false, ◌&&◌}
use mathlib.Core.List.{List, ◌∷◌, Memᴰ}
use Prim.Native.Nat.{ℕ, suc, ◌+◌, ◌≤◌, ◌<◌}
use native.Mathlib.Omega.{arith}
use borrow.Author.Tests.{eqb-true}
use lib.Dec.{eqb}
use lib.ListN.{length, get_or, drop, length-drop}
use lib.Seq.{drop-drop}
use Rattle.slices.specs.Pick.{pick}
use Rattle.slices.proofs.Truths.{and_left, and_right}
use Rattle.utf8.specs.Utf8.{Range, ◌to◌, inside, table, fits, first_len, utf8}
use Rattle.utf8.specs.Skips.{Skips}
use Rattle.utf8.proofs.Utf8.{utf8_nil, utf8_bad, utf8-more}
use Rattle.utf8.proofs.Tests.{inside_lo, inside_hi}
use Rattle.utf8.proofs.Rows.{nth, first_len_le}
use Rattle.utf8.proofs.Places.{row_at}

-- nothing passed
pub skips_none : (s : List ℕ) (i : ℕ) → i ≤ length s → Skips s i i
skips_none s i h = record { from = omega arith; within = h; same = refl }

-- one stretch after another
pub skips_on : {s : List ℕ} {i j k : ℕ} → Skips s i j → Skips s j k → Skips s i k
skips_on p q = let a = p.from in let b = q.from in record { from = omega arith; within = q.within; same = p.same ∙ q.same }

module _ (s : List ℕ) (i : ℕ) {n : ℕ} (h : i < length s) (e : n ≡ first_len (drop i s)) where
  -- there is something at i
  some : 0 < length (drop i s)
  some = omega (arith, length-drop i s)

  -- past one character
  pub skips_char : (n ≡ 0 → ⊥) → Skips s i (i + n)
  skips_char z =
      record {
        from = omega arith;
        within = omega (arith, length-drop i s, first_len_le (drop i s));
        same = utf8-more (drop i s) some (λ k. z (e ∙ k)) ∙ ap (λ (m : ℕ). utf8 (drop m (drop i s))) (sym e) ∙ ap utf8 (drop-drop n i s);
      }

  -- no character
  pub skips_bad : n ≡ 0 → utf8 (drop i s) ≡ false
  skips_bad z = utf8_bad (drop i s) some (sym e ∙ z)

-- at the end
pub skips_all : (s : List ℕ) (i : ℕ) → length s ≤ i → utf8 (drop i s) ≡ true
skips_all s i h = utf8_nil (drop i s) (omega (arith, length-drop i s))

-- past one ASCII byte
pub skips_ascii : (s : List ℕ) (i : ℕ) → i < length s → get_or s i 0 < 128 → Skips s i (i + 1)
unfolding table fits
skips_ascii s i h p = skips_char s i h (row_at s i h (nth table 0 (omega arith)) (omega arith) (omega arith) refl) (λ k. omega arith)

-- past one character of a row, whose first byte and later bytes were tested
pub skips_row : (s : List ℕ) (i : ℕ) → i < length s → {lo hi : ℕ} {row : List Range} → Memᴰ (lo to hi ∷ row) table → {n m : ℕ} {t : Bool}
    → n ≡ suc (length row) → t ≡ inside (get_or s i 0) (lo to hi) → m ≡ pick (fits (drop (i + 1) s) row) (suc (length row)) 0
    → t && eqb m (suc (length row)) ≡ true → Skips s i (i + n)
skips_row s i h {lo} {hi} {row} r {n} {m} {t} d a b e =
    let f : inside (get_or s i 0) (lo to hi) ≡ true = sym a ∙ and_left _ _ e in
    let z : m ≡ suc (length row) = eqb-true _ _ (and_right t _ e) in
    skips_char s i h
    (row_at s i h r (inside_lo _ lo hi f) (inside_hi _ lo hi f) (d ∙ sym z ∙ b))
    (λ k. omega arith)

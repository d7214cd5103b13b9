-- Characters of one byte and two, passed by their pairs of neighbours.
--
--   narrow_none   == nothing passed, where no later byte stands
--   narrow_on     == one more byte passed. Where a later byte stands next, it is passed too: its character's first byte was
use mathlib.Core.Path.{◌≡◌, refl, sym, subst, ◌∙◌}
use mathlib.Core.Bool.{Bool, true, false, not, ◌&&◌}
use mathlib.Core.Logic.{◌⊎◌, inl, inr}
use mathlib.Core.List.{List}
use Prim.Native.Nat.{ℕ, ◌+◌, ◌≤◌, ◌<◌}
use native.Mathlib.Omega.{arith}
use borrow.Author.Tests.{leb-true, not-true}
use lib.Dec.{leb}
use lib.ListN.{length, get_or, drop}
use Rattle.slices.specs.Pick.{pick}
use Rattle.slices.proofs.Cases.{lt_or_ge}
use Rattle.slices.proofs.Truths.{never, false_of, and_left, and_right, either}
use Rattle.utf8.specs.Utf8.{◌to◌, inside, table, fits}
use Rattle.utf8.specs.Rest.{rest}
use Rattle.utf8.specs.Skips.{Skips}
use Rattle.utf8.specs.Narrow.{later, beside}
use Rattle.utf8.proofs.Tests.{inside_is, inside_lo, inside_hi}
use Rattle.utf8.proofs.Rows.{nth}
use Rattle.utf8.proofs.Places.{row_at, rest-first}
use Rattle.utf8.proofs.Skips.{skips_none, skips_on, skips_char, skips_ascii}

-- past one character of two bytes
skips_two : (s : List ℕ) (i : ℕ) → i + 1 < length s → inside (get_or s i 0) (0xC2 to 0xDF) ≡ true → later (get_or s (i + 1) 0) ≡ true → Skips s i (i + 2)
unfolding table fits
skips_two s i h a b =
    let f : fits (drop (i + 1) s) (rest 2 0x80 0xBF) ≡ true = sym (rest-first s i 2 0x80 0xBF h (sym b)) in
    let e : ◌≡◌ {A = ℕ} 2 (pick (fits (drop (i + 1) s) (rest 2 0x80 0xBF)) 2 0) = rw f in
    skips_char s i (omega arith) (row_at s i (omega arith) (nth table 1 (omega arith)) (inside_lo _ 0xC2 0xDF a) (inside_hi _ 0xC2 0xDF a) e) (λ k. omega arith)

-- no first byte of two is a later byte
first-not-later : (a : ℕ) → inside a (0xC2 to 0xDF) ≡ true → later a ≡ false
first-not-later a h = false_of _ (λ e. omega (arith, inside_lo a 0xC2 0xDF h, inside_hi a 0x80 0xBF e))

-- a byte up to BF that is no later byte is ASCII
low_ascii : (a : ℕ) → a ≤ 0xBF → later a ≡ false → a < 128
low_ascii a h e = by (lt_or_ge a 128)
  where
    by : (a < 128) ⊎ (128 ≤ a) → a < 128
    by (inl l) = l
    by (inr g) = never (sym e ∙ inside_is a 0x80 0xBF g h)

beside_cases : (a b : ℕ) → beside a b ≡ true → ((later b ≡ true) × (inside a (0xC2 to 0xDF) ≡ true)) ⊎ ((later b ≡ false) × (a ≤ 0xBF))
beside_cases a b e = by (either (later b && inside a (0xC2 to 0xDF)) (not (later b) && leb a 0xBF) e)
  where
    by : ((later b && inside a (0xC2 to 0xDF)) ≡ true) ⊎ ((not (later b) && leb a 0xBF) ≡ true)
        → ((later b ≡ true) × (inside a (0xC2 to 0xDF) ≡ true)) ⊎ ((later b ≡ false) × (a ≤ 0xBF))
    by (inl h) = inl (and_left _ _ h, and_right (later b) _ h)
    by (inr h) = inr (not-true _ (and_left _ _ h), leb-true a 0xBF (and_right (not (later b)) _ h))

pub narrow_none : (s : List ℕ) (i : ℕ) → i ≤ length s → later (get_or s i 0) ≡ false → Skips s i (i + pick (later (get_or s i 0)) 1 0)
narrow_none s i h e = rw e (subst (Skips s i) (omega arith) (skips_none s i h))

module _ (s : List ℕ) (i j : ℕ) (h : j + 1 < length s) where
  abbrev a : ℕ
  a = get_or s j 0

  abbrev b : ℕ
  b = get_or s (j + 1) 0

  after_low : (t : Bool) → later a ≡ t → a ≤ 0xBF → Skips s i (j + pick t 1 0) → Skips s i (j + 1 + 0)
  after_low true e l p = subst (Skips s i) (omega arith) p
  after_low false e l p =
      subst (Skips s i) (omega arith)
      (skips_on (subst (Skips s i) (omega arith) p) (skips_ascii s j (omega arith) (low_ascii a l e)))

  after_first : inside a (0xC2 to 0xDF) ≡ true → later b ≡ true → Skips s i (j + 0) → Skips s i (j + 1 + 1)
  after_first f l p =
      subst (Skips s i) (omega arith)
      (skips_on (subst (Skips s i) (omega arith) p) (skips_two s j h f l))

  pub narrow_on : beside a b ≡ true → Skips s i (j + pick (later a) 1 0) → Skips s i (j + 1 + pick (later b) 1 0)
  narrow_on e p = by (beside_cases a b e)
    where
      by : ((later b ≡ true) × (inside a (0xC2 to 0xDF) ≡ true)) ⊎ ((later b ≡ false) × (a ≤ 0xBF)) → Skips s i (j + 1 + pick (later b) 1 0)
      by (inl h) = rw h.0 (after_first h.1 h.0 (rw (first-not-later a h.1) at p))
      by (inr h) = rw h.0 (after_low (later a) refl h.1 p)

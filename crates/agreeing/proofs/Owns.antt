-- What the code of `own` comes to: by the stage's tag, numbers are those of what they are read as.
use mathlib.Core.Path.{◌≡◌, refl, sym, subst, ap, ◌∙◌}
use mathlib.Core.Bool.{Bool, true, false, ◌&&◌, ◌||◌}
use Prim.Native.Nat.{ℕ}
use lib.Dec.{eqb}
use borrow.Author.Tests.{eqb-true, ne_eqb}
use Rattle.slices.proofs.Truths.{either_no}
use Rattle.numbers.specs.Flat.{no_code, no_place, switch_code}
use Rattle.numbers.specs.From.{switch_from, start_from, whole_from, end_from}
use Rattle.numbers.specs.declared.flat.Code.{Code}
use Rattle.numbers.specs.declared.flat.Place.{Place}
use Rattle.state.specs.Bytes.{same_code, same_place, same_stage}

pub both-same : (k c : Code) (q p : Place) (a b : Bool) (k' : Code) (q' : Place) → k ≡ k' → q ≡ q' → a ≡ same_code k c → b ≡ same_place q p
    → (a && b) ≡ (same_code k' c && same_place q' p)
both-same k c q p a b k' q' ek eq ea eb =
    let x : a ≡ same_code k' c = ea ∙ ap (λ (z : Code). same_code z c) ek in
    let y : b ≡ same_place q' p = eb ∙ ap (λ (z : Place). same_place z p) eq in
    λ i. x i && y i

pub at_tag : (F : ℕ → Bool) (k tag : ℕ) (r : Bool) → tag ≡ k → r ≡ F k → r ≡ F tag
at_tag F k tag r e h = subst (λ (t : ℕ). r ≡ F t) (sym e) h

module _ (c : Code) (p : Place) where
  abbrev pub idle_at : ℕ → Bool
  idle_at t = eqb 1 t && same_code no_code c && same_place no_place p

  abbrev pub start_at : ℕ → Bool
  start_at t = same_stage (start_from t c p) t c p

  abbrev pub whole_at : ℕ → Bool
  whole_at t = same_stage (whole_from t c p) t c p

  abbrev pub end_at : ℕ → Bool
  end_at t = same_stage (end_from t c p) t c p

  -- a stage at no place, by its code
  pub by_code : (F : ℕ → Bool) (n : ℕ) (k k' : Code) (tag : ℕ) (r : Bool) → F n ≡ (same_code k' c && same_place no_place p) → k ≡ k'
      → r ≡ (same_code k c && same_place no_place p) → tag ≡ n → r ≡ F tag
  by_code F n k k' tag r e ek h t = at_tag F n tag r t (h ∙ ap (λ (x : Code). same_code x c && same_place no_place p) ek ∙ sym e)

  either_at : (F : ℕ → Bool) (m n tag : ℕ) (r a : Bool) → r ≡ F m → r ≡ F n → a ≡ eqb tag m → (a || eqb tag n) ≡ true → r ≡ F tag
  either_at F m n tag r true hm hn ea e = at_tag F m tag r (eqb-true tag m (sym ea)) hm
  either_at F m n tag r false hm hn ea e = at_tag F n tag r (eqb-true tag n e) hn

  pub whole-none : (k : Code) (tag : ℕ) (r : Bool) → k ≡ no_code → r ≡ (same_code k c && same_place no_place p)
      → (a : Bool) → a ≡ (eqb tag 8 || eqb tag 10) → (a || eqb tag 11) ≡ true → r ≡ whole_at tag
  whole-none k tag r ek h true ea e =
      let g = h ∙ ap (λ (x : Code). same_code x c && same_place no_place p) ek in
      either_at whole_at 8 10 tag r (eqb tag 8) g g refl (sym ea)
  whole-none k tag r ek h false ea e =
      let g = h ∙ ap (λ (x : Code). same_code x c && same_place no_place p) ek in
      at_tag whole_at 11 tag r (eqb-true tag 11 e) g

  pub end_switch : (k : Code) (tag : ℕ) (r : Bool) → k ≡ switch_code (switch_from c) → r ≡ (same_code k c && same_place no_place p)
      → (eqb tag 14 || eqb tag 16) ≡ true → r ≡ end_at tag
  end_switch k tag r ek h e =
      let g = h ∙ ap (λ (x : Code). same_code x c && same_place no_place p) ek in
      either_at end_at 14 16 tag r (eqb tag 14) g g refl e

  pub idle-other : (tag : ℕ) → (tag ≡ 1 → ⊥) → false ≡ idle_at tag
  idle-other tag a = rw (ne_eqb 1 tag (λ e. a (sym e)))

  pub start_other : (tag : ℕ) → (tag ≡ 2 → ⊥) → (tag ≡ 3 → ⊥) → (tag ≡ 4 → ⊥) → (tag ≡ 5 → ⊥) → (tag ≡ 6 → ⊥) → (tag ≡ 7 → ⊥) → false ≡ start_at tag
  start_other tag a2 a3 a4 a5 a6 a7 =
      rw (ne_eqb tag 2 a2, ne_eqb tag 3 a3, ne_eqb tag 4 a4, ne_eqb tag 5 a5, ne_eqb tag 6 a6, ne_eqb 7 tag (λ e. a7 (sym e)))

  pub whole-other : (tag : ℕ) → (tag ≡ 9 → ⊥) → (tag ≡ 12 → ⊥) → (tag ≡ 13 → ⊥) → (eqb tag 8 || eqb tag 10 || eqb tag 11) ≡ false → false ≡ whole_at tag
  whole-other tag a9 a12 a13 e =
      let g = either_no (eqb tag 8 || eqb tag 10) (eqb tag 11) e in
      let h = either_no (eqb tag 8) (eqb tag 10) g.0 in
      let e8 : eqb tag 8 ≡ false = h.0 in
      let e10 : eqb tag 10 ≡ false = h.1 in
      let e11 : eqb tag 11 ≡ false = g.1 in
      rw (e8, ne_eqb tag 9 a9, e10, e11, ne_eqb tag 12 a12, ne_eqb 13 tag (λ e. a13 (sym e)))

  pub end-other : (tag : ℕ) → (eqb tag 14 || eqb tag 16) ≡ false → (tag ≡ 15 → ⊥) → (tag ≡ 17 → ⊥) → (tag ≡ 18 → ⊥) → false ≡ end_at tag
  end-other tag e a15 a17 a18 =
      let h = either_no (eqb tag 14) (eqb tag 16) e in
      let e14 : eqb tag 14 ≡ false = h.0 in
      let e16 : eqb tag 16 ≡ false = h.1 in
      rw (e14, ne_eqb tag 15 a15, e16, ne_eqb tag 17 a17, ne_eqb 18 tag (λ e. a18 (sym e)))

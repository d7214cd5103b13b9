-- Laws of `utf8`: a text is its first character, and then a text.
use mathlib.Core.Path.{◌≡◌, ap, ◌∙◌}
use mathlib.Core.Bool.{Bool, true, false}
use mathlib.Core.List.{List}
use Prim.Native.Nat.{ℕ, ◌<◌}
use native.Mathlib.Omega.{arith}
use borrow.Author.Tests.{eqb-false, ne_eqb, eq-eqb}
use lib.Dec.{eqb}
use lib.ListN.{length, drop, length-drop}
use Rattle.slices.specs.Walk.{Next, more, done, on_next}
use Rattle.slices.proofs.Cases.{pick_else}
use Rattle.slices.proofs.Walks.{walk_step}
use Rattle.utf8.specs.Utf8.{first_len, utf8_step, utf8}

-- a step that goes on takes something
falls : (s t : List ℕ) → utf8_step s ≡ more t → length t < length s
unfolding utf8_step
falls s t e =
    let p = pick_else (eqb (length s) 0) e (answer true) in
    let q = pick_else (eqb (first_len s) 0) p.1 (answer false) in
    let d : t ≡ drop (first_len s) s = cc q.1 in
    omega (arith, eqb-false (length s) 0 p.0, eqb-false (first_len s) 0 q.0, ap length d, length-drop (first_len s) s)
  where
    answer : (r : Bool) → ◌≡◌ {A = Next (List ℕ) Bool} (done r) (more t) → ⊥
    answer r k = let z : ◌≡◌ {A = ℕ} 0 1 = cc in omega arith

-- a text is its first step, and then a text
utf8-is : (s : List ℕ) → utf8 s ≡ on_next (utf8_step s) utf8
unfolding utf8
utf8-is s = walk_step utf8_step false length falls s

-- no bytes are a text
pub utf8_nil : (s : List ℕ) → length s ≡ 0 → utf8 s ≡ true
unfolding utf8_step
utf8_nil s h = utf8-is s ∙ rw (eq-eqb (length s) 0 h)

module _ (s : List ℕ) (h : 0 < length s) where
  -- there is something
  some : eqb (length s) 0 ≡ false
  some = ne_eqb (length s) 0 (λ k. omega arith)

  -- no row fits: no text
  pub utf8_bad : first_len s ≡ 0 → utf8 s ≡ false
  unfolding utf8_step
  utf8_bad e = utf8-is s ∙ rw (some, eq-eqb (first_len s) 0 e)

  -- a character off the front
  pub utf8-more : (first_len s ≡ 0 → ⊥) → utf8 s ≡ utf8 (drop (first_len s) s)
  unfolding utf8_step
  utf8-more n = utf8-is s ∙ rw (some, ne_eqb (first_len s) 0 n)

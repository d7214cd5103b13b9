-- The numbers without a message, and that every message is a C string.
--
--   silent, none   == what `message_of` says of numbers below 36 that have none, of any other that has none
--   short          == a message has fewer than 32 bytes, so that a zero follows it
--   printable      == and all its bytes are printable ASCII, so that its length is the string's
use mathlib.Core.Path.{◌≡◌, refl, ap, sym, ◌∙◌}
use mathlib.Core.List.{List, [], ◌∷◌}
use mathlib.Core.Bool.{Bool, true, false}
use Prim.Native.Nat.{ℕ, zero, suc, ◌+◌, ◌-◌, ◌<◌, ◌≤◌}
use native.Mathlib.Omega.{arith}
use borrow.Author.Tests.{ne_eqb, ltb-true}
use lib.ListN.{length, get_or, take, drop, replicate, get_or-replicate, get_or-eq_default}
use lib.Seq.{get_or-take, get_or-drop}
use lib.Dec.{ltb, eqb}
use Rattle.slices.specs.Pick.{pick}
use Rattle.slices.proofs.Cases.{pick_cases}
use Rattle.slices.proofs.Truths.{pick_true}
use Rattle.uri.specs.Prefixes.{ascii}
use Rattle.messages.specs.Messages.{messages, message_of}

module _ (n : ℕ) where
  below : (n ≡ 255 → ⊥) → message_of n ≡ get_or messages n []
  unfolding message_of
  below d = simp (ne_eqb n 255 d)

  -- k numbers from a on that have none
  pub silent : (a k : ℕ) → take k (drop a messages) ≡ replicate k [] → a ≤ n → n < a + k → a + k ≤ 36 → message_of n ≡ []
  silent a k e h g f =
      let i : n ≡ a + (n - a) = omega arith in
      let d : n ≡ 255 → ⊥ = λ q. omega arith in
      below d
      ∙ ap (λ (m : ℕ). get_or messages m []) i
      ∙ sym (get_or-drop a messages (n - a) [])
      ∙ sym (get_or-take k (drop a messages) (n - a) [] (omega arith))
      ∙ ap (λ (x : List (List ℕ)). get_or x (n - a) []) e
      ∙ get_or-replicate k (n - a) [] [] (omega arith)

  pub none : 36 ≤ n → (n ≡ 255 → ⊥) → message_of n ≡ []
  unfolding message_of messages
  none h d = simp (ne_eqb n 255 d) (get_or-eq_default messages [] h)

-- a test holds of all elements of a list
every : {A : Type 0} → (A → Bool) → List A → Bool
every p [] = true
every p (x ∷ l) = pick (p x) (every p l) false

every_at : {A : Type 0} (p : A → Bool) (l : List A) (d : A) (n : ℕ) → p d ≡ true → every p l ≡ true → p (get_or l n d) ≡ true
unfolding every
every_at p [] d n z e = z
every_at p (x ∷ l) d zero z e = (pick_true (p x) (every p l) e).0
every_at p (x ∷ l) d (suc n) z e = every_at p l d n z (pick_true (p x) (every p l) e).1

-- a test that holds of the table's messages, of the end's and of none holds of each message
each : (p : List ℕ → Bool) (n : ℕ) → p [] ≡ true → every p messages ≡ true → p (ascii "no more records") ≡ true
    → p (message_of n) ≡ true
unfolding message_of
each p n z e l = pick_cases (λ m. p m ≡ true) (eqb n 255) (λ w. l) (λ w. every_at p messages [] n z e)

pub short : (n : ℕ) → length (message_of n) < 32
unfolding messages ascii every
short n = ltb-true _ _ (each (λ m. ltb (length m) 32) n refl refl refl)

-- from the space on, below DEL
letter : ℕ → Bool
letter b = pick (ltb b 127) (ltb 31 b) false

-- what lies past the end does not matter inside
within : (l : List ℕ) (k : ℕ) → k < length l → get_or l k 32 ≡ get_or l k 0
within [] k h = absurd (omega arith)
within (x ∷ l) zero h = refl
within (x ∷ l) (suc k) h = within l k (omega arith)

pub printable : (n k : ℕ) → k < length (message_of n) → (31 < get_or (message_of n) k 0) × (get_or (message_of n) k 0 < 127)
unfolding messages ascii every letter
printable n k h =
    let x : ℕ = get_or (message_of n) k 32 in
    let e : letter x ≡ true = every_at letter (message_of n) 32 k refl (each (every letter) n refl refl refl) in
    let i : x ≡ get_or (message_of n) k 0 = within (message_of n) k h in
    let low : 31 < x = ltb-true 31 x (pick_true (ltb x 127) (ltb 31 x) e).1 in
    let high : x < 127 = ltb-true x 127 (pick_true (ltb x 127) (ltb 31 x) e).0 in
    (rw (← i) low, rw (← i) high)

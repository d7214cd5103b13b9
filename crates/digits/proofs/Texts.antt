-- Laws of numbers and bytes as text.
--
--   decimal-small    == a number below 10 is its one digit
--   decimal-more     == any other is the tenth of it, and its last digit
--   decimal-some     == at least one digit
--   decimal-one      == one digit below 10
--   decimal_two      == at most two below 100
--   decimal_four     == at most four below 10,000
--   decimal_most     == at most one digit more than the number itself says
--   hex_length       == two digits for each byte
--   hex_more         == one more byte
--   type_empty       == an empty type name is a dash
--   type_some        == any other is its digits
--   type_most        == two digits for each byte, or a dash
use mathlib.Core.Path.{◌≡◌, refl, ap, sym, ◌∙◌}
use mathlib.Core.List.{List, [], ◌∷◌, ◌++◌, append_assoc}
use Prim.Native.Nat.{ℕ, zero, suc, ◌+◌, ◌*◌, ◌/◌, ◌%◌, ◌≤◌, ◌<◌}
use native.Mathlib.Omega.{arith}
use native.Mathlib.Numerals.{add-one}
use borrow.Author.Tests.{lt-ltb, le-ltb, ltb-false}
use lib.ListN.{length, take, get_or, length-append}
use lib.Seq.{take-suc}
use lib.Dec.{ltb}
use Rattle.slices.proofs.Cases.{lt_or_ge, pick_cases}
use mathlib.Core.Logic.{⊎_elim}
use Rattle.digits.specs.Text.{decimal_f, decimal, hex_digit, hex_of, type_word}

-- fuel above the number is as good as any other
fuel : (f n g : ℕ) → n < f → n < g → decimal_f f n ≡ decimal_f g n
unfolding decimal_f
fuel zero n g h k = absurd (omega arith)
fuel (suc f) n zero h k = absurd (omega arith)
fuel (suc f) n (suc g) h k =
    pick_cases (λ (l : List ℕ). l ≡ decimal_f (suc g) n) (ltb n 10)
    (λ e. rw e)
    (λ e. let l = ltb-false n 10 e in rw e (ap (λ (l : List ℕ). l ++ ((0x30 + n % 10) ∷ [])) (fuel f (n / 10) g (omega arith) (omega arith))))

pub decimal-small : (n : ℕ) → n < 10 → (0x30 + n) ∷ [] ≡ decimal n
unfolding decimal decimal_f
decimal-small n h = simp (lt-ltb n 10 h)

pub decimal-more : (n : ℕ) → 10 ≤ n → decimal (n / 10) ++ ((0x30 + n % 10) ∷ []) ≡ decimal n
unfolding decimal decimal_f
decimal-more n h =
    rw (le-ltb n 10 h) (ap (λ (l : List ℕ). l ++ ((0x30 + n % 10) ∷ [])) (fuel (suc (n / 10)) (n / 10) n (omega arith) (omega arith)))

-- a tenth of the number takes one digit less
tenth : (n k : ℕ) → 0 < k → length (decimal (n / 10)) ≤ k → length (decimal n) ≤ suc k
tenth n k p h =
    ⊎_elim
    (λ l. omega (arith, ap length (decimal-small n l)))
    (λ l. omega (arith, ap length (decimal-more n l), length-append (decimal (n / 10)) ((0x30 + n % 10) ∷ [])))
    (lt_or_ge n 10)

pub decimal-some : (n : ℕ) → 0 < length (decimal n)
decimal-some n =
    ⊎_elim
    (λ l. omega (arith, ap length (decimal-small n l)))
    (λ l. omega (arith, ap length (decimal-more n l), length-append (decimal (n / 10)) ((0x30 + n % 10) ∷ [])))
    (lt_or_ge n 10)

pub decimal-one : (n : ℕ) → n < 10 → length (decimal n) ≡ 1
decimal-one n h = sym (ap length (decimal-small n h))

pub decimal_two : (n : ℕ) → n < 100 → length (decimal n) ≤ 2
decimal_two n h = tenth n 1 (omega arith) (omega (arith, decimal-one (n / 10) (omega arith)))

pub decimal_four : (n : ℕ) → n < 10000 → length (decimal n) ≤ 4
decimal_four n h = tenth n 3 (omega arith) (tenth (n / 10) 2 (omega arith) (decimal_two (n / 10 / 10) (omega arith)))

most : (f n : ℕ) → n < f → length (decimal n) ≤ n + 1
most zero n h = absurd (omega arith)
most (suc f) n h =
    ⊎_elim
    (λ l. omega (arith, decimal-one n l))
    (λ l. let k = tenth n (n / 10 + 1) (omega arith) (most f (n / 10) (omega arith)) in omega arith)
    (lt_or_ge n 10)

pub decimal_most : (n : ℕ) → length (decimal n) ≤ n + 1
decimal_most n = most (suc n) n (omega arith)

pub hex_length : (s : List ℕ) → length (hex_of s) ≡ 2 * length s
unfolding hex_of
hex_length [] = refl
hex_length (b ∷ s) = let h = hex_length s in omega arith

hex_append : (s t : List ℕ) → hex_of (s ++ t) ≡ hex_of s ++ hex_of t
unfolding hex_of
hex_append [] t = refl
hex_append (b ∷ s) t = ap (λ (l : List ℕ). hex_digit (b / 16) ∷ hex_digit (b % 16) ∷ l) (hex_append s t)

pub hex_more : (s : List ℕ) (i : ℕ) → i < length s
    → (hex_of (take i s) ++ (hex_digit (get_or s i 0 / 16) ∷ [])) ++ (hex_digit (get_or s i 0 % 16) ∷ []) ≡ hex_of (take (i + 1) s)
unfolding hex_of
hex_more s i h =
    append_assoc (hex_of (take i s)) (hex_digit (get_or s i 0 / 16) ∷ []) (hex_digit (get_or s i 0 % 16) ∷ [])
    ∙ sym (hex_append (take i s) (get_or s i 0 ∷ []))
    ∙ ap hex_of (sym (take-suc s i 0 h) ∙ ap (λ (n : ℕ). take n s) (sym (add-one i)))

pub type_empty : (k : List ℕ) → length k ≡ 0 → 0x2D ∷ [] ≡ type_word k
unfolding type_word
type_empty [] h = refl
type_empty (b ∷ s) h = absurd (omega arith)

pub type_some : (k : List ℕ) → (length k ≡ 0 → ⊥) → hex_of k ≡ type_word k
unfolding type_word
type_some [] h = absurd (h refl)
type_some (b ∷ s) h = refl

pub type_most : (k : List ℕ) → length (type_word k) ≤ 2 * length k + 1
unfolding type_word
type_most [] = omega arith
type_most (b ∷ s) = omega (arith, hex_length (b ∷ s))

-- How long a record's head is, by its flags.
--
--   head_at h s i     == a head takes three bytes or six, and one more for an id
--   head_least        == at least three
--   short_no_id h     == bits 3 and 4 as one number: 2 where the record is short and has no id
use mathlib.Core.Path.{◌≡◌, refl, ap₂, ◌∙◌}
use mathlib.Core.Bool.{Bool, true, false}
use Rattle.slices.specs.Pick.{pick}
use Rattle.slices.proofs.Cases.{pick_cases}
use Prim.Native.Nat.{ℕ, ◌+◌, ◌/◌, ◌%◌, ◌≤◌}
use native.Mathlib.Omega.{arith}
use borrow.Author.Tests.{eq-eqb, ne_eqb}
use Rattle.heads.specs.Heads.{head_len, flag}

sizes : (short named : Bool) → 2 + pick short 1 4 + pick named 1 0 ≡ pick short 3 6 + pick named 1 0
sizes true named = refl
sizes false named = refl

pub head_at : (h : ℕ) {short named : Bool} → flag 0x10 h ≡ short → flag 0x08 h ≡ named → head_len h ≡ pick short 3 6 + pick named 1 0
unfolding head_len
head_at h {short} {named} s i = ap₂ (λ (a b : Bool). 2 + pick a 1 4 + pick b 1 0) s i ∙ sizes short named

pub head_least : (h : ℕ) → 3 ≤ head_len h
unfolding head_len
head_least h =
    pick_cases (λ (n : ℕ). 3 ≤ 2 + n + pick (flag 0x08 h) 1 0) (flag 0x10 h) (λ e. omega arith) (λ e. omega arith)

pub short_no_id : (h : ℕ) → h / 8 % 4 ≡ 2 → (flag 0x10 h ≡ true) × (flag 0x08 h ≡ false)
short_no_id h e =
    let s : h / 16 % 2 ≡ 1 = omega arith in
    let i : h / 8 % 2 ≡ 1 → ⊥ = (λ z. omega arith) in
    (eq-eqb _ _ s, ne_eqb _ _ i)

-- What the simulated part answers to a read, case by case, over plain variables.
use mathlib.Core.Path.{◌≡◌, refl, ap, sym, ◌∙◌}
use mathlib.Core.Bool.{Bool, true, false, ◌&&◌}
use mathlib.Core.List.{List, [], ◌∷◌}
use Prim.Native.Nat.{ℕ, ◌+◌, ◌-◌, ◌≤◌}
use native.Mathlib.Omega.{arith}
use lib.Dec.{eqb, leb}
use lib.ListN.{length, take, drop, length-take, length-drop}
use borrow.Author.Tests.{eqb-true, leb-true}
use Rattle.slices.specs.Bytes.{splice}
use Rattle.slices.proofs.Cases.{pick_cases}
use Rattle.slices.proofs.Truths.{and_left, and_right, never}
use Rattle.slices.proofs.Splice.{splice-whole}
use Rattle.protocol.specs.Transfer.{place_of}
use Rattle.part.specs.Looks.{dynamic_at, system_at, look_of, known, answered, shown, looked}
use Rattle.simulated.specs.Simulated.{both, Fills, refused_by, did_read, out_read}
use Rattle.part.specs.declared.look.Look.{Look}
use Rattle.part.specs.declared.registers.Registers.{Registers}
use Rattle.simulated.specs.declared.Answer.{Answer}

pub filled-part : (out memory : List ℕ) (at : ℕ) → at + length out ≤ length memory
    → splice out 0 (take (at + length out - at) (drop at memory)) ≡ take (length out) (drop at memory)
filled-part out memory at h =
    let e : at + length out - at ≡ length out = omega arith in
    rw e (splice-whole out (take (length out) (drop at memory)) (simp (length-take, length-drop) (omega arith)))

pub none_left : (out : List ℕ) → length out ≡ 0 → out ≡ []
none_left [] e = refl
none_left (x ∷ xs) e = absurd (omega arith)

-- a buffer is as long as what is read
abbrev Fit : ℕ → Look → Type 0
Fit n k = known k ≡ true → Fills k n 12 8192

fit_dynamic : (at n : ℕ) → n ≡ 1 → Fit n (dynamic_at at)
fit_dynamic at n e =
    pick_cases (Fit n) (eqb at 0x2003) (λ _ _. e) (λ _.
    pick_cases (Fit n) (eqb at 0x2004) (λ _ _. e) (λ _.
    pick_cases (Fit n) (eqb at 0x2005) (λ _ _. e) (λ _ x. never x)))

fit_system : (at n : ℕ) → n ≡ 1 → Fit n (system_at at)
fit_system at n e =
    pick_cases (Fit n) (eqb at 0) (λ _ _. e) (λ _.
    pick_cases (Fit n) (eqb at 3) (λ _ _. e) (λ _.
    pick_cases (Fit n) (eqb at 14) (λ _ _. e) (λ _ x. never x)))

pub look-fits : (dev : ℕ) (head : List ℕ) (n : ℕ) → Fit n (look_of dev head n)
unfolding look_of
look-fits dev head n =
    pick_cases (Fit n) (eqb (length head) 2) (λ _.
    pick_cases (Fit n) (eqb dev 0x53) (λ _.
    pick_cases (Fit n) (leb (place_of head + n) 8192) (λ e _. leb-true (place_of head + n) 8192 e) (λ _.
    pick_cases (Fit n) (eqb n 1) (λ e. fit_dynamic (place_of head) n (eqb-true n 1 e)) (λ _ x. never x))) (λ _.
    pick_cases (Fit n) (eqb dev 0x57) (λ _.
    pick_cases (Fit n) (eqb n 1) (λ e. fit_system (place_of head) n (eqb-true n 1 e)) (λ _.
    pick_cases (Fit n) (eqb (place_of head) 0x14 && eqb n 12) (λ e _. eqb-true n 12 (and_right (eqb (place_of head) 0x14) (eqb n 12) e)) (λ _ x. never x))) (λ _ x. never x))) (λ _ x. never x)

module _ (dev : ℕ) (head identity memory : List ℕ) (r : Registers) (out : List ℕ) (w : Bool) (ew : w ≡ both memory identity) where
  pub read_unsized : w ≡ false → (t : Answer) → t ≡ refused_by r → t ≡ did_read dev head (length out) identity memory r
  read_unsized e t et = rw (sym ew ∙ e) et

  pub out_unsized : w ≡ false → out ≡ out_read dev head identity memory r out
  out_unsized e = rw (sym ew ∙ e) refl

  module _ (s : w ≡ true) (k : Look) (ek : k ≡ look_of dev head (length out)) (b : Bool) (eb : b ≡ known k) where
    seen : (c : Bool) → eqb r.busy 0 && b ≡ c → answered dev head (length out) r ≡ c
    seen c e = ap (λ (x : Look). eqb r.busy 0 && known x) (sym ek) ∙ ap (λ (x : Bool). eqb r.busy 0 && x) (sym eb) ∙ e

    module _ (e : eqb r.busy 0 && b ≡ true) where
      pub read_fills : Fills k (length out) (length identity) (length memory)
      read_fills =
          let f : Fills (look_of dev head (length out)) (length out) 12 8192 = look-fits dev head (length out) (ap known (sym ek) ∙ sym eb ∙ and_right (eqb r.busy 0) b e) in
          let h : both memory identity ≡ true = sym ew ∙ s in
          let m = eqb-true (length memory) 8192 (and_left (eqb (length memory) 8192) (eqb (length identity) 12) h) in
          let i = eqb-true (length identity) 12 (and_right (eqb (length memory) 8192) (eqb (length identity) 12) h) in
          rw ek (rw m (rw i f))

      pub read_taken : (x : Registers) → x ≡ looked k r → ◌≡◌ {A = Answer} (record { ack = true; registers = x }) (did_read dev head (length out) identity memory r)
      read_taken x ex = rw (sym ew ∙ s) (rw (seen true e) (ap (λ (y : Registers). record { ack = true; registers = y }) (ex ∙ ap (λ (y : Look). looked y r) ek)))

      pub out_read_lem : (N : List ℕ) → N ≡ shown k (length out) identity memory r → N ≡ out_read dev head identity memory r out
      out_read_lem N en =
          let h : both memory identity && answered dev head (length out) r ≡ true = rw (sym ew ∙ s) (seen true e) in
          rw h (en ∙ ap (λ (y : Look). shown y (length out) identity memory r) ek)

    module _ (e : eqb r.busy 0 && b ≡ false) where
      pub read-refused : (t : Answer) → t ≡ refused_by r → t ≡ did_read dev head (length out) identity memory r
      read-refused t et = rw (sym ew ∙ s) (rw (seen false e) et)

      pub out_kept : out ≡ out_read dev head identity memory r out
      out_kept =
          let h : both memory identity && answered dev head (length out) r ≡ false = rw (sym ew ∙ s) (seen false e) in
          rw h refl

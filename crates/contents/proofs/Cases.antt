-- The text of a payload, case by case, as it is read.
use mathlib.Core.Path.{◌≡◌, refl, ap, sym, ◌∙◌}
use mathlib.Core.Bool.{Bool}
use mathlib.Core.List.{List, [], ◌∷◌}
use mathlib.Core.Logic.{⊎_elim}
use Prim.Native.Nat.{ℕ, suc, ◌+◌, ◌-◌, ◌%◌, ◌≤◌, ◌<◌}
use native.Mathlib.Omega.{arith}
use native.Mathlib.Numerals.{add-one}
use borrow.Author.Tests.{lt-ltb, le-ltb, le-leb, lt-leb}
use lib.ListN.{length, get_or, take, drop, length-drop}
use lib.Seq.{length-take-le}
use Rattle.std.specs.Prelude.{Some, None}
use Rattle.slices.specs.Pick.{pick}
use Rattle.slices.proofs.Cases.{lt_or_ge}
use Rattle.slices.proofs.Splice.{part-rest}
use Rattle.utf8.specs.Utf8.{utf8}
use Rattle.records.specs.declared.Record.{Record}
use Rattle.pieces.specs.Parts.{part_of, payload_of}
use Rattle.pieces.proofs.Parts.{part-inside, part_outside}
use Rattle.tlv.specs.Blocks.{span}
use Rattle.contents.specs.Contents.{payload_at, text_in}

-- a part with bytes in it is inside the image
pub part_there : (s : List ℕ) (at len : ℕ) → (length (part_of s at len) ≡ 0 → ⊥) → at + len ≤ length s
part_there s at len n =
    ⊎_elim (λ h. absurd (n (ap length (part_outside s at len h)))) (λ h. h) (lt_or_ge (length s) (at + len))

-- and so is a payload with bytes in it, which are then as many as the record says
pub payload_there : (s : List ℕ) (r : Record) {p : List ℕ} → p ≡ payload_of s r → (length p ≡ 0 → ⊥)
    → (payload_at r + length p ≤ length s)
payload_there s r {p} e n =
    let h : payload_at r + r.payload_len ≤ length s = part_there s (payload_at r) r.payload_len (λ z. n (ap length e ∙ z)) in
    let l : length p ≡ r.payload_len = ap length e ∙ ap length (part-inside s (payload_at r) r.payload_len h) ∙ length-take-le r.payload_len (drop (payload_at r) s) (omega (arith, length-drop (payload_at r) s)) in
    omega arith

pub text_empty : (p : List ℕ) (at : ℕ) → length p ≡ 0 → None ≡ text_in p at
unfolding text_in
text_empty [] at h = refl
text_empty (b ∷ s) at h = absurd (omega arith)

pub text_wide : (p : List ℕ) (at : ℕ) → 0 < length p → 128 ≤ get_or p 0 0 → None ≡ text_in p at
unfolding text_in
text_wide [] at h w = absurd (omega arith)
text_wide (b ∷ s) at h w = simp (le-ltb b 128 w)

pub text_long : (p : List ℕ) (at : ℕ) → 0 < length p → get_or p 0 0 < 128 → length p < get_or p 0 0 % 64 + 1 → None ≡ text_in p at
unfolding text_in
text_long [] at h w l = absurd (omega arith)
text_long (b ∷ s) at h w l = let k : length s < b % 64 = omega arith in simp (lt-ltb b 128 w, lt-leb (b % 64) (length s) k)

pub text_read : (p : List ℕ) (at : ℕ) {u : Bool} → 0 < length p → get_or p 0 0 < 128 → get_or p 0 0 % 64 + 1 ≤ length p
    → utf8 (take (length p - (get_or p 0 0 % 64 + 1)) (drop (get_or p 0 0 % 64 + 1) p)) ≡ u
    → pick u (Some (span (at + (get_or p 0 0 % 64 + 1)) (length p - (get_or p 0 0 % 64 + 1)))) None ≡ text_in p at
unfolding text_in
text_read [] at h w l e = absurd (omega arith)
text_read (b ∷ s) at {u} h w l e =
    let k : b % 64 ≤ length s = omega arith in
    let d : utf8 (drop (b % 64) s) ≡ u = ap (λ (n : ℕ). utf8 (drop n (b ∷ s))) (sym (add-one (b % 64))) ∙ ap utf8 (sym (part-rest (b ∷ s) (b % 64 + 1))) ∙ e in
    let n : suc (length s) - (b % 64 + 1) ≡ length s - b % 64 = omega arith in
    simp (lt-ltb b 128 w, le-leb (b % 64) (length s) k, d, n)

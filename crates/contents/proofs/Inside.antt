-- Where a text stands: inside the image, in the record's payload, and what stands there is UTF-8.
--
--   Rest q at p n        == the n bytes at the place p are the rest of the payload q, which stands at `at`, after its first bytes
--   Stands s q p n       == the n bytes at p lie in the image s, are the end of the payload q, and are UTF-8
--   never                == nothing is no part
--   stands               == the rest of a record's payload, where it is UTF-8, stands so
--   text_stands          == so does the text of a record
use mathlib.Core.Path.{◌≡◌, ap, sym, ◌∙◌}
use mathlib.Core.Bool.{true}
use mathlib.Core.List.{List, [], ◌∷◌}
use Prim.Native.Nat.{ℕ, ◌+◌, ◌-◌, ◌%◌, ◌≤◌, ◌<◌}
use native.Mathlib.Omega.{arith}
use native.Mathlib.Numerals.{add-one}
use borrow.Author.Tests.{leb-true}
use lib.ListN.{length, take, drop, length-drop}
use lib.Seq.{take-add, drop_at, drop-drop, length-take-le}
use lib.Dec.{leb, ltb}
use Rattle.std.specs.Prelude.{Option, Some, None}
use Rattle.slices.proofs.Cases.{pick_cases}
use Rattle.utf8.specs.Utf8.{utf8}
use Rattle.records.specs.declared.Record.{Record}
use Rattle.pieces.specs.Parts.{is_of, payload_of}
use Rattle.pieces.proofs.Parts.{part-inside}
use Rattle.tlv.specs.declared.Span.{Span}
use Rattle.tlv.specs.Blocks.{span}
use Rattle.tlv.proofs.Blocks.{same_span}
use Rattle.contents.specs.Contents.{payload_at, text_in, text_of}
use Rattle.contents.proofs.Cases.{part_there}

pub record Rest (q : List ℕ) (at p n : ℕ) : Type 0 where
  pub before : ℕ
  pub some : 0 < before
  pub place : p ≡ at + before
  pub len : before + n ≡ length q
  pub text : utf8 (drop before q) ≡ true

pub record Stands (s q : List ℕ) (p n : ℕ) : Type 0 where
  pub inside : p + n ≤ length s
  pub before : ℕ
  pub bytes : take n (drop p s) ≡ drop before q
  pub text : utf8 (take n (drop p s)) ≡ true

pub never : {p n : ℕ} → None ≡ Some (span p n) → ⊥
never e = let z : ◌≡◌ {A = ℕ} 0 1 = cc in omega arith

text_rest : (q : List ℕ) (at : ℕ) {p n : ℕ} → text_in q at ≡ Some (span p n) → Rest q at p n
unfolding text_in
text_rest [] at e = absurd (never e)
text_rest (status ∷ rest) at {p} {n} e =
    pick_cases (λ (x : Option Span). x ≡ Some (span p n) → Rest (status ∷ rest) at p n) (ltb status 128)
    (λ _. pick_cases (λ (x : Option Span). x ≡ Some (span p n) → Rest (status ∷ rest) at p n) (leb (status % 64) (length rest))
    (λ w. pick_cases (λ (x : Option Span). x ≡ Some (span p n) → Rest (status ∷ rest) at p n) (utf8 (drop (status % 64) rest))
    (λ u e. let l : status % 64 ≤ length rest = leb-true _ _ w in
    let same = same_span e in
    record {
      before = status % 64 + 1;
      some = omega arith;
      place = sym same.0;
      len = omega arith;
      text = ap (λ (k : ℕ). utf8 (drop k (status ∷ rest))) (add-one (status % 64)) ∙ u;
    })
    (λ _ e. absurd (never e)))
    (λ _ e. absurd (never e)))
    (λ _ e. absurd (never e))
    e

-- bytes from k on, of those that are taken
drop_of_take : (k n : ℕ) (l : List ℕ) → k + n ≤ length l → drop k (take (k + n) l) ≡ take n (drop k l)
drop_of_take k n l h = ap (drop k) (take-add k n l) ∙ drop_at (take k l) (take n (drop k l)) k (length-take-le k l (omega arith))

pub stands : (s : List ℕ) (r : Record) {p n : ℕ} → Rest (payload_of s r) (payload_at r) p n → Stands s (payload_of s r) p n
stands s r {p} {n} t =
    let at : ℕ = payload_at r in
    let len : ℕ = r.payload_len in
    let k : ℕ = t.before in
    let h : at + len ≤ length s = part_there s at len (λ z. let y = t.some in let l = t.len in omega arith) in
    let q : payload_of s r ≡ take len (drop at s) = part-inside s at len h in
    let d : length (drop at s) ≡ length s - at = length-drop at s in
    let l : k + n ≡ len = t.len ∙ ap length q ∙ length-take-le len (drop at s) (omega arith) in
    let b : drop k (payload_of s r) ≡ take n (drop p s) =
    ap (drop k) q ∙ ap (λ (m : ℕ). drop k (take m (drop at s))) (sym l) ∙ drop_of_take k n (drop at s) (omega arith)
    ∙ ap (take n) (drop-drop k at s) ∙ ap (λ (m : ℕ). take n (drop m s)) (sym t.place) in
    record {
      inside = let e = t.place in omega arith;
      before = k;
      bytes = sym b;
      text = ap utf8 (sym b) ∙ t.text;
    }

pub text_stands : (s : List ℕ) (r : Record) {p n : ℕ} → text_of s r ≡ Some (span p n) → Stands s (payload_of s r) p n
unfolding text_of
text_stands s r {p} {n} e =
    pick_cases (λ (x : Option Span). x ≡ Some (span p n) → Stands s (payload_of s r) p n) (is_of s r 0x54)
    (λ _ e. stands s r (text_rest (payload_of s r) (payload_at r) e))
    (λ _ e. absurd (never e))
    e

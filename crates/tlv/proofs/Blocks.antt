-- What a length and a block say is there.
--
--   tlv_there      == a length that is all there takes some bytes, and they are there
--   over_there     == a block that is stepped over takes some bytes, and they are there
--   body_there     == a message's bytes are there
--   same_span      == parts that are the same have the same place and length
use mathlib.Core.Path.{◌≡◌, ap, subst}
use mathlib.Core.List.{List}
use Prim.Native.Nat.{ℕ, ◌+◌, ◌≤◌, ◌<◌}
use native.Mathlib.Omega.{arith}
use borrow.Author.Tests.{ltb-false, eqb-false}
use lib.ListN.{length, get_or, drop}
use lib.Dec.{ltb, eqb}
use Rattle.std.specs.Prelude.{Option, Some, None}
use Rattle.slices.proofs.Cases.{pick_cases}
use Rattle.tlv.specs.declared.Span.{Span}
use Rattle.tlv.specs.declared.Length.{Length}
use Rattle.tlv.specs.declared.Block.{Block}
use Rattle.tlv.specs.declared.Block.TheVariants.{Over, Body, Stop}
use Rattle.tlv.specs.Blocks.{span, tlv_length, body_of, on_length, block_of}

-- what a length tells of the bytes that it stands in front of
abbrev Long : List ℕ → Option Length → Type 0
Long s (Some l) = (0 < l.size) × (l.size ≤ length s)
Long s None = Unit {0}

some : (n : ℕ) → (n ≡ 0 → ⊥) → 1 ≤ n
some n h = omega arith

tlv_long : (s : List ℕ) → Long s (tlv_length s)
unfolding tlv_length
tlv_long s =
    pick_cases (Long s) (eqb (length s) 0) (λ _. tt) (λ e.
    pick_cases (Long s) (eqb (get_or s 0 0) 0xFF)
    (λ _. pick_cases (Long s) (ltb (length s) 3) (λ _. tt) (λ h. (omega arith, ltb-false _ _ h)))
    (λ _. (omega arith, some (length s) (eqb-false _ _ e))))

pub tlv_there : (s : List ℕ) {l : Length} → tlv_length s ≡ Some l → (0 < l.size) × (l.size ≤ length s)
tlv_there s e = subst (Long s) e (tlv_long s)

-- and a block
abbrev Sound : List ℕ → Option Block → Type 0
Sound s (Some (Over n)) = (0 < n) × (n ≤ length s)
Sound s (Some (Body b)) = b.at + b.len ≤ length s
Sound s (Some Stop) = Unit {0}
Sound s None = Unit {0}

body-sound : (s : List ℕ) (t from len : ℕ) → 0 < from → Sound s (body_of s t from len)
unfolding body_of
body-sound s t from len h =
    pick_cases (Sound s) (ltb (length s) (from + len)) (λ _. tt) (λ e.
    let k : from + len ≤ length s = ltb-false _ _ e in
    pick_cases (λ (b : Block). Sound s (Some b)) (eqb t 0x03) (λ _. k) (λ _. (omega arith, k)))

length-sound : (s : List ℕ) (t : ℕ) (l : Option Length) → Sound s (on_length s t l)
length-sound s t (Some l) = body-sound s t (1 + l.size) l.len (omega arith)
length-sound s t None = tt

block_sound : (s : List ℕ) → Sound s (block_of s)
unfolding block_of
block_sound s =
    pick_cases (Sound s) (eqb (length s) 0) (λ _. tt) (λ e.
    pick_cases (Sound s) (eqb (get_or s 0 0) 0x00) (λ _. (omega arith, some (length s) (eqb-false _ _ e))) (λ _.
    pick_cases (Sound s) (eqb (get_or s 0 0) 0xFE) (λ _. tt) (λ _.
    length-sound s (get_or s 0 0) (tlv_length (drop 1 s)))))

pub over_there : (s : List ℕ) {n : ℕ} → block_of s ≡ Some (Over n) → (0 < n) × (n ≤ length s)
over_there s e = subst (Sound s) e (block_sound s)

pub body_there : (s : List ℕ) {b : Span} → block_of s ≡ Some (Body b) → b.at + b.len ≤ length s
body_there s e = subst (Sound s) e (block_sound s)

pub same_span : {at len p n : ℕ} → Some (span at len) ≡ Some (span p n) → (at ≡ p) × (len ≡ n)
same_span {at} {len} {p} {n} e =
    let f : span at len ≡ span p n = cc in
    (ap (λ (b : Span). b.at) f, ap (λ (b : Span). b.len) f)

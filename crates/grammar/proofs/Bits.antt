-- A header byte and its flags; a length and its bytes.
--
--   header-chunk, header-last, header-short, header-named   == the flags that a header is written with are read from it
--   header-format                                           == and so is its format
--   header_read                                             == a byte without the chunk flag is the header of its own flags and format
--   be-one, be_four                                         == one byte, and four, are those of the number that they say
--   four_read                                               == the number that four bytes say is the one they were written for
use mathlib.Core.Path.{◌≡◌, refl, ap, sym, ◌∙◌}
use mathlib.Core.Bool.{Bool, true, false}
use mathlib.Core.List.{List, [], ◌∷◌, ◌++◌}
use Prim.Native.Nat.{ℕ, suc, ◌+◌, ◌*◌, ◌/◌, ◌%◌, ◌^◌, ◌≤◌, ◌<◌}
use native.Mathlib.Omega.{arith}
use borrow.Author.Tests.{eqb-true, eqb-false}
use lib.Dec.{eqb}
use Rattle.slices.specs.Pick.{pick}
use Rattle.slices.specs.Bytes.{be}
use Rattle.layout.specs.Record.{header}
use Rattle.heads.specs.Heads.{flag}

-- a flag as a digit, and what it is worth
digit : Bool → ℕ
digit b = pick b 1 0

at_most_one : (b : Bool) → digit b ≤ 1
unfolding digit
at_most_one true = omega arith
at_most_one false = omega arith

worth : (b : Bool) (w : ℕ) → pick b w 0 ≡ w * digit b
unfolding digit
worth true w = omega arith
worth false w = omega arith

digit_read : (b : Bool) {n : ℕ} → n ≡ digit b → eqb n 1 ≡ b
unfolding digit
digit_read true e = ap (λ (m : ℕ). eqb m 1) e
digit_read false e = ap (λ (m : ℕ). eqb m 1) e

digit_of : (h : ℕ) → digit (eqb (h % 2) 1) ≡ h % 2
unfolding digit
digit_of h = go (eqb (h % 2) 1) refl
  where
    go : (b : Bool) → eqb (h % 2) 1 ≡ b → digit b ≡ h % 2
    go true e = sym (eqb-true _ _ e)
    go false e = let n : h % 2 ≡ 1 → ⊥ = eqb-false _ _ e in omega arith

-- the digits of a number of eight bits whose sixth is 0
record Digits (h l s i f : ℕ) : Type 0 where
  chunk : h / 0x20 % 2 ≡ 0
  last : h / 0x40 % 2 ≡ l
  short : h / 0x10 % 2 ≡ s
  named : h / 0x08 % 2 ≡ i
  format : h % 8 ≡ f

digits : (h b l s i f : ℕ) → b ≤ 1 → l ≤ 1 → s ≤ 1 → i ≤ 1 → f < 8 → h ≡ 128 * b + 64 * l + 16 * s + 8 * i + f → Digits h l s i f
digits h b l s i f p q r t u e =
    record { chunk = omega arith; last = omega arith; short = omega arith; named = omega arith; format = omega arith }

-- and such a number, put together from its digits
together : (h a b c d e f w x y z : ℕ) → h ≡ 8 * e + f → e ≡ 2 * d + w → d ≡ 2 * c + x → c ≡ 2 * b + y → b ≡ 2 * a + z
    → h ≡ 128 * a + 64 * z + 32 * y + 16 * x + 8 * w + f
together h a b c d e f w x y z p q r s t = omega arith

without : (h a z y x w f : ℕ) → h ≡ 128 * a + 64 * z + 32 * y + 16 * x + 8 * w + f → y ≡ 0 → 128 * a + 64 * z + 16 * x + 8 * w + f ≡ h
without h a z y x w f e n = omega arith

header_is : (b l s i : Bool) (f : ℕ) → header b l s i f ≡ 128 * digit b + 64 * digit l + 16 * digit s + 8 * digit i + f
unfolding header
header_is b l s i f = omega (arith, worth b 0x80, worth l 0x40, worth s 0x10, worth i 0x08)

module _ (b l s i : Bool) (f : ℕ) (three : f < 8) where
  all : Digits (header b l s i f) (digit l) (digit s) (digit i) f
  all =
      digits (header b l s i f) (digit b) (digit l) (digit s) (digit i) f
      (at_most_one b) (at_most_one l) (at_most_one s) (at_most_one i) three (header_is b l s i f)

  pub header-chunk : flag 0x20 (header b l s i f) ≡ false
  unfolding digit
  header-chunk = digit_read false all.chunk

  pub header-last : flag 0x40 (header b l s i f) ≡ l
  header-last = digit_read l all.last

  pub header-short : flag 0x10 (header b l s i f) ≡ s
  header-short = digit_read s all.short

  pub header-named : flag 0x08 (header b l s i f) ≡ i
  header-named = digit_read i all.named

  pub header-format : header b l s i f % 8 ≡ f
  header-format = all.format

-- a byte by its digits
eight : (h : ℕ) → h < 256
    → h ≡ 128 * (h / 0x80 % 2) + 64 * (h / 0x40 % 2) + 32 * (h / 0x20 % 2) + 16 * (h / 0x10 % 2) + 8 * (h / 0x08 % 2) + h % 8
eight h byte =
    let e : h / 0x08 / 2 ≡ h / 0x10 = omega arith in
    let d : h / 0x10 / 2 ≡ h / 0x20 = omega arith in
    let c : h / 0x20 / 2 ≡ h / 0x40 = omega arith in
    let b : h / 0x40 / 2 ≡ h / 0x80 = omega arith in
    let a : h / 0x80 % 2 ≡ h / 0x80 = omega arith in
    let t = together h (h / 0x80) (h / 0x40) (h / 0x20) (h / 0x10) (h / 0x08) (h % 8)
    (h / 0x08 % 2) (h / 0x10 % 2) (h / 0x20 % 2) (h / 0x40 % 2)
    (omega arith) (omega arith) (omega arith) (omega arith) (omega arith) in
    rw a t

pub header_read : (h : ℕ) → h < 256 → flag 0x20 h ≡ false → header (flag 0x80 h) (flag 0x40 h) (flag 0x10 h) (flag 0x08 h) (h % 8) ≡ h
header_read h byte chunk =
    let c : h / 0x20 % 2 ≡ 1 → ⊥ = eqb-false _ _ chunk in
    let n : h / 0x20 % 2 ≡ 0 = omega arith in
    header_is (flag 0x80 h) (flag 0x40 h) (flag 0x10 h) (flag 0x08 h) (h % 8)
    ∙ rw (digit_of (h / 0x80), digit_of (h / 0x40), digit_of (h / 0x10), digit_of (h / 0x08))
    (without h (h / 0x80 % 2) (h / 0x40 % 2) (h / 0x20 % 2) (h / 0x10 % 2) (h / 0x08 % 2) (h % 8) (eight h byte) n)

pub be-one : (a : ℕ) → a < 256 → be 1 a ≡ a ∷ []
unfolding be
be-one a h = let e : a % 256 ≡ a = omega arith in rw e

-- one byte more
be-more : (n v d : ℕ) → d < 256 → be (suc n) (v * 256 + d) ≡ be n v ++ (d ∷ [])
unfolding be
be-more n v d h =
    let q : (v * 256 + d) / 256 ≡ v = omega arith in
    let r : (v * 256 + d) % 256 ≡ d = omega arith in
    rw (q, r)

pub be_four : (a b c d : ℕ) → a < 256 → b < 256 → c < 256 → d < 256 → be 4 (((a * 256 + b) * 256 + c) * 256 + d) ≡ a ∷ b ∷ c ∷ d ∷ []
be_four a b c d p q r t =
    be-more 3 ((a * 256 + b) * 256 + c) d t
    ∙ ap (λ (l : List ℕ). l ++ (d ∷ [])) (be-more 2 (a * 256 + b) c r
    ∙ ap (λ (l : List ℕ). l ++ (c ∷ [])) (be-more 1 a b q
    ∙ ap (λ (l : List ℕ). l ++ (b ∷ [])) (be-one a p)))

pub four_read : (v : ℕ) → v < 2 ^ 32
    → ((v / 256 / 256 / 256 % 256 * 256 + v / 256 / 256 % 256) * 256 + v / 256 % 256) * 256 + v % 256 ≡ v
four_read v h =
    let a : v / 256 / 256 / 256 % 256 ≡ v / 256 / 256 / 256 = omega arith in
    omega arith

-- A number written from its low byte, which comes last, to its high one.
--
--   shift n v     == v without its low n bytes
--   shift_more    == one byte fewer
--   be_front      == the first of the low n + 1 bytes
--   splice_front  == one more byte in front of what is written
--   one_more      == and that byte is the next of the number
use mathlib.Core.Path.{◌≡◌, refl, ap, ap₂, sym, ◌∙◌}
use mathlib.Core.List.{List, [], ◌∷◌, ◌++◌, append_assoc}
use Prim.Native.Nat.{ℕ, zero, suc, ◌+◌, ◌/◌, ◌%◌, ◌≤◌}
use native.Mathlib.Omega.{arith}
use lib.ListN.{length, take, drop, set, get_or, length-append}
use lib.Seq.{length-take-le, take_at, drop_at, set_split, take-suc}
use Rattle.slices.specs.Bytes.{be, splice}

abbrev pub shift : ℕ → ℕ → ℕ
shift zero v = v
shift (suc n) v = shift n (v / 256)

pub shift_more : (n v : ℕ) → shift n v / 256 ≡ shift (suc n) v
shift_more zero v = refl
shift_more (suc n) v = shift_more n (v / 256)

pub be_front : (n v : ℕ) → be (suc n) v ≡ shift n v % 256 ∷ be n v
unfolding be
be_front zero v = refl
be_front (suc n) v = ap (λ (bs : List ℕ). bs ++ (v % 256 ∷ [])) (be_front n (v / 256))

pub be_length : (n v : ℕ) → length (be n v) ≡ n
unfolding be
be_length zero v = refl
be_length (suc n) v = omega (arith, length-append (be n (v / 256)) (v % 256 ∷ []), be_length n (v / 256))

pub splice_front : (d : List ℕ) (at b : ℕ) (bs : List ℕ) → at + suc (length bs) ≤ length d → set (splice d (suc at) bs) at b ≡ splice d at (b ∷ bs)
unfolding splice
splice_front d at b bs fits =
    let rest = bs ++ drop (suc at + length bs) d in
    let x = take (suc at) d ++ rest in
    let l : length (take at d) ≡ at = length-take-le at d (omega arith) in
    let front : take (suc at) d ≡ take at d ++ (get_or d at 0 ∷ []) = take-suc d at 0 (omega arith) in
    let is : x ≡ take at d ++ (get_or d at 0 ∷ rest) = ap (λ (f : List ℕ). f ++ rest) front ∙ append_assoc (take at d) (get_or d at 0 ∷ []) rest in
    let t : take at x ≡ take at d = ap (take at) is ∙ take_at (take at d) (get_or d at 0 ∷ rest) at l in
    let r : drop (suc at) x ≡ rest = drop_at (take (suc at) d) rest (suc at) (length-take-le (suc at) d (omega arith)) in
    let e : suc at + length bs ≡ at + suc (length bs) = omega arith in
    set_split x at b (omega (arith, ap length is, length-append (take at d) (get_or d at 0 ∷ rest), l))
    ∙ ap₂ (λ (f g : List ℕ). f ++ b ∷ g) t (r ∙ ap (λ (n : ℕ). bs ++ drop n d) e)

pub one_more : (d out : List ℕ) (at k j m v left : ℕ) → k ≡ suc j → at + k + m ≤ length d → left ≡ shift m v → out ≡ splice d (at + k) (be m v)
    → set out (at + j) (left % 256) ≡ splice d (at + j) (be (suc m) v)
one_more d out at k j m v left h fits l o =
    let e : at + k ≡ suc (at + j) = omega arith in
    ap (λ (s : List ℕ). set s (at + j) (left % 256)) (o ∙ ap (λ (n : ℕ). splice d n (be m v)) e)
    ∙ splice_front d (at + j) (left % 256) (be m v) (omega (arith, be_length m v))
    ∙ ap (λ (n : ℕ). splice d (at + j) (n % 256 ∷ be m v)) l
    ∙ ap (splice d (at + j)) (sym (be_front m v))

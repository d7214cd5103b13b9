-- Laws of `part_of`.
--
--   part-inside, part_outside   == the bytes where they are all there; else none
--   part_none                   == no bytes, at any place
--   part_sat                    == a place past 64 bits is outside, and so is the largest one that is given for it
--   part_sat_twice              == the same of a sum that is made in two steps
--   is_one, is_other            == a type name of one byte is that byte or not; any other is not
use mathlib.Core.Path.{◌≡◌, refl, ap}
use mathlib.Core.Bool.{Bool, true, false}
use mathlib.Core.List.{List, [], ◌∷◌}
use mathlib.Core.Logic.{⊎_elim}
use Prim.Native.Nat.{ℕ, zero, suc, ◌+◌, ◌≤◌, ◌<◌}
use native.Mathlib.Omega.{arith}
use borrow.Author.Tests.{le-leb, lt-leb}
use lib.ListN.{length, get_or, take, drop}
use lib.Dec.{leb, eqb}
use Rattle.slices.specs.Pick.{pick}
use Rattle.slices.proofs.Cases.{lt_or_ge}
use Rattle.layout.specs.Lengths.{sat}
use Rattle.pieces.specs.Parts.{part_of, one_byte}

pub part-inside : (s : List ℕ) (at len : ℕ) → at + len ≤ length s → part_of s at len ≡ take len (drop at s)
unfolding part_of
part-inside s at len h = simp (le-leb _ _ h)

pub part_outside : (s : List ℕ) (at len : ℕ) → length s < at + len → part_of s at len ≡ []
unfolding part_of
part_outside s at len h = simp (lt-leb _ _ h)

nothing : (b : Bool) (s : List ℕ) → pick b (take 0 s) [] ≡ []
nothing true s = refl
nothing false s = refl

pub part_none : (s : List ℕ) (at : ℕ) → part_of s at 0 ≡ []
unfolding part_of
part_none s at = nothing (leb (at + 0) (length s)) (drop at s)

pub part_sat : (s : List ℕ) (at len : ℕ) → length s ≤ 0xffff_ffff_ffff_ffff → part_of s (sat at) len ≡ part_of s at len
part_sat s at zero fits = rw (part_none s (sat at), part_none s at)
part_sat s at (suc len) fits =
    ⊎_elim
    (λ h. let e : sat at ≡ at = omega arith in ap (λ (n : ℕ). part_of s n (suc len)) e)
    (λ h. let o : length s < sat at + suc len = omega arith in
    let p : length s < at + suc len = omega arith in
    rw (part_outside s (sat at) (suc len) o, part_outside s at (suc len) p))
    (lt_or_ge at 0xffff_ffff_ffff_ffff)

-- and so it is where the sum is made in two steps
pub part_sat_twice : (s : List ℕ) (a b len : ℕ) → length s ≤ 0xffff_ffff_ffff_ffff → part_of s (sat (sat a + b)) len ≡ part_of s (a + b) len
part_sat_twice s a b len fits =
    let e : sat (sat a + b) ≡ sat (a + b) = omega arith in
    rw (e, part_sat s (a + b) len fits)

pub is_one : (s : List ℕ) (b : ℕ) → length s ≡ 1 → eqb (get_or s 0 0) b ≡ one_byte s b
is_one [] b h = absurd (omega arith)
is_one (x ∷ []) b h = refl
is_one (x ∷ y ∷ s) b h = absurd (omega arith)

pub is_other : (s : List ℕ) (b : ℕ) → (length s ≡ 1 → ⊥) → false ≡ one_byte s b
is_other [] b h = refl
is_other (x ∷ []) b h = absurd (h refl)
is_other (x ∷ y ∷ s) b h = refl

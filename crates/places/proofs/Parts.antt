-- Laws of a record's places: what C finds at the place that it gets is the part that `pieces` defines.
--
--   part_at_inside, part_at_outside == the place and length where the bytes are all there; else nothing
--   part_at_sat        == a place past 64 bits is outside, and so is the largest one that is given for it
--   part_at_sat_twice  == the same of a sum that is made in two steps
--   part_at_is         == the part that is told lies in the image, and its bytes are those of `part_of`: `kind_part` with `kind_of`,
--                         `id_part` with `id_of`, `payload_part` with `payload_of`
--   part_at_none       == where none is told, that part is empty
use mathlib.Core.Path.{◌≡◌, ap, sym, ◌∙◌}
use mathlib.Core.List.{List, []}
use mathlib.Core.Logic.{⊎_elim}
use Prim.Native.Nat.{ℕ, ◌+◌, ◌≤◌, ◌<◌}
use native.Mathlib.Omega.{arith}
use borrow.Author.Tests.{le-leb, lt-leb}
use lib.ListN.{length, take, drop}
use Rattle.std.specs.Prelude.{Some, None}
use Rattle.slices.proofs.Cases.{lt_or_ge}
use Rattle.layout.specs.Lengths.{sat}
use Rattle.pieces.specs.Parts.{part_of}
use Rattle.pieces.proofs.Parts.{part-inside, part_outside}
use Rattle.tlv.specs.Blocks.{span}
use Rattle.tlv.proofs.Blocks.{same_span}
use Rattle.places.specs.Places.{part_at}

pub part_at_inside : (s : List ℕ) (at len : ℕ) → at + len ≤ length s → part_at s at len ≡ Some (span at len)
unfolding part_at
part_at_inside s at len h = simp (le-leb _ _ h)

pub part_at_outside : (s : List ℕ) (at len : ℕ) → length s < at + len → part_at s at len ≡ None
unfolding part_at
part_at_outside s at len h = simp (lt-leb _ _ h)

pub part_at_sat : (s : List ℕ) (at len : ℕ) → length s < 0xffff_ffff_ffff_ffff → part_at s (sat at) len ≡ part_at s at len
part_at_sat s at len fits =
    ⊎_elim
    (λ h. let e : sat at ≡ at = omega arith in ap (λ (n : ℕ). part_at s n len) e)
    (λ h. let o : length s < sat at + len = omega arith in
    let p : length s < at + len = omega arith in
    rw (part_at_outside s (sat at) len o, part_at_outside s at len p))
    (lt_or_ge at 0xffff_ffff_ffff_ffff)

-- and so it is where the sum is made in two steps
pub part_at_sat_twice : (s : List ℕ) (a b len : ℕ) → length s < 0xffff_ffff_ffff_ffff → part_at s (sat (sat a + b)) len ≡ part_at s (a + b) len
part_at_sat_twice s a b len fits =
    let e : sat (sat a + b) ≡ sat (a + b) = omega arith in
    rw (e, part_at_sat s (a + b) len fits)

module _ (s : List ℕ) (at len : ℕ) where
  pub part_at_is : {p n : ℕ} → part_at s at len ≡ Some (span p n) → (p + n ≤ length s) × (part_of s at len ≡ take n (drop p s))
  part_at_is {p} {n} e =
      ⊎_elim
      (λ h. let o : part_at s at len ≡ None = part_at_outside s at len h in let z : ◌≡◌ {A = ℕ} 0 1 = cc in absurd (omega arith))
      (λ h. let i : part_at s at len ≡ Some (span at len) = part_at_inside s at len h in
      let a = same_span (sym i ∙ e) in
      (omega arith, part-inside s at len h ∙ ap (λ (m : ℕ). take m (drop at s)) a.1 ∙ ap (λ (m : ℕ). take n (drop m s)) a.0))
      (lt_or_ge (length s) (at + len))

  pub part_at_none : part_at s at len ≡ None → part_of s at len ≡ []
  part_at_none e =
      ⊎_elim
      (part_outside s at len)
      (λ h. let i : part_at s at len ≡ Some (span at len) = part_at_inside s at len h in let z : ◌≡◌ {A = ℕ} 0 1 = cc in absurd (omega arith))
      (lt_or_ge (length s) (at + len))

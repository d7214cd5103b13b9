-- Laws of the lengths.
use mathlib.Core.Path.{◌≡◌, refl, ap}
use mathlib.Core.Logic.{⊎_elim}
use Prim.Native.Nat.{ℕ, ◌+◌, ◌<◌}
use native.Mathlib.Omega.{arith}
use Rattle.slices.proofs.Cases.{lt_or_ge}
use Rattle.layout.specs.Lengths.{sat, head_len, record_len, block_len, image_len}

pub image-is : (k p : ℕ) → image_len k p ≡ block_len (record_len k p) + record_len k p + 9
unfolding image_len
image-is k p = omega arith

pub record_is : (k p : ℕ) → record_len k p ≡ head_len p + k + p
unfolding record_len
record_is k p = refl

-- a record is shorter than its image
pub record_in_image : (k p : ℕ) → record_len k p < image_len k p
record_in_image k p = omega (arith, image-is k p)

-- a payload past 64 bits has an image past 64 bits
pub image-sat : (k p : ℕ) → sat (image_len k (sat p)) ≡ sat (image_len k p)
image-sat k p =
    ⊎_elim
    (λ h. ap (λ (n : ℕ). sat (image_len k n)) (let e : sat p ≡ p = omega arith in e))
    (λ h. omega (arith, image-is k p, record_is k p, image-is k (sat p), record_is k (sat p)))
    (lt_or_ge p 0xffff_ffff_ffff_ffff)

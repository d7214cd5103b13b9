-- Numbers as bytes: laws of `be`, and of a byte.
use mathlib.Core.Path.{◌≡◌, refl}
use mathlib.Core.List.{[], ◌∷◌}
use Prim.Native.Nat.{ℕ, zero, suc, ◌/◌, ◌%◌, ◌<◌}
use native.Mathlib.Omega.{arith}
use lib.ListN.{length, length-append}
use Rattle.slices.specs.Bytes.{be}

-- as many bytes as were asked for
pub be-length : (n v : ℕ) → length (be n v) ≡ n
unfolding be
be-length zero v = refl
be-length (suc n) v = omega (arith, length-append (be n (v / 256)) (v % 256 ∷ []), be-length n (v / 256))

-- a byte as a byte is itself
pub byte-rest : (n : ℕ) → n < 256 → n % 256 ≡ n
byte-rest n h = omega (arith, h)

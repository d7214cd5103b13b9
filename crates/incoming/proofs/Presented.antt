-- A password of another length is none.
use mathlib.Core.Path.{◌≡◌, refl, ap}
use mathlib.Core.Bool.{Bool, true, false}
use mathlib.Core.List.{List}
use Prim.Native.Nat.{ℕ}
use native.Mathlib.Omega.{arith}
use lib.ListN.{length, drop, length-drop}
use Rattle.scan.specs.Zeros.{alike}
use Rattle.scan.proofs.Blanks.{alike_equal}
use Rattle.protocol.specs.Tag.{password}

pub other_length : (s : List ℕ) → (length s ≡ 19 → ⊥) → false ≡ alike (drop 2 s) password
other_length s h = go (alike (drop 2 s) password) refl
  where
    go : (b : Bool) → alike (drop 2 s) password ≡ b → false ≡ b
    go false e = refl
    go true e =
        let l : length (drop 2 s) ≡ 17 = ap length (alike_equal (drop 2 s) password e) in
        absurd (h (omega (arith, length-drop 2 s)))

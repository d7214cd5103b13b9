-- Two numbers, either way.
use mathlib.Core.Path.{◌≡◌, refl}
use mathlib.Core.Bool.{Bool, true, false}
use Prim.Native.Nat.{ℕ, ◌≤◌, ◌<◌}
use Rattle.slices.specs.Pick.{pick}
use mathlib.Core.Logic.{◌⊎◌, inl, inr}
use native.Mathlib.Nat.{lt_of_not-le}
use native.Mathlib.Decide.{dec_le}

go : (m n : ℕ) → Dec (n ≤ m) → (m < n) ⊎ (n ≤ m)
go m n (yes h) = inr h
go m n (no h) = inl (lt_of_not-le h)

pub lt_or_ge : (m n : ℕ) → (m < n) ⊎ (n ≤ m)
lt_or_ge m n = go m n (dec_le n m)

-- a choice, either way
pub pick_cases {ℓ} : {X : Type ℓ} (P : X → Type 0) (b : Bool) {x y : X} → (b ≡ true → P x) → (b ≡ false → P y) → P (pick b x y)
pick_cases P true f g = f refl
pick_cases P false f g = g refl

-- a choice that came out as z went the second way where the first is not z
pub pick_else {ℓ} : {X : Type ℓ} (b : Bool) {x y z : X} → pick b x y ≡ z → (x ≡ z → ⊥) → (b ≡ false) × (y ≡ z)
pick_else true e n = absurd (n e)
pick_else false e n = (refl, e)

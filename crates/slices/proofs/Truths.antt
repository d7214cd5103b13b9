-- Tests and choices, taken apart and put together.
use mathlib.Core.Path.{◌≡◌, refl}
use mathlib.Core.Bool.{Bool, true, false, ◌&&◌, ◌||◌}
use mathlib.Core.Logic.{◌⊎◌, inl, inr}
use Prim.Native.Nat.{ℕ, ◌<◌}
use native.Mathlib.Omega.{arith}
use Rattle.slices.specs.Pick.{pick}

-- no test both failed and held
pub never {ℓ} : {X : Type ℓ} → false ≡ true → X
never e = absurd (let z : ◌≡◌ {A = ℕ} 0 1 = cc in omega arith)

pub not-both : (b : Bool) → b ≡ true → b ≡ false → ⊥
not-both true e f = let z : ◌≡◌ {A = ℕ} 0 1 = cc in omega arith
not-both false e f = let z : ◌≡◌ {A = ℕ} 0 1 = cc in omega arith

-- a test that cannot hold fails
pub false_of : (b : Bool) → (b ≡ true → ⊥) → b ≡ false
false_of true n = absurd (n refl)
false_of false n = refl

pub either_way : {X : Type 0} (b : Bool) → (b ≡ true → X) → (b ≡ false → X) → X
either_way true f g = f refl
either_way false f g = g refl

-- of two tests that hold together, the first
pub and_left : (a b : Bool) → a && b ≡ true → a ≡ true
and_left true b e = refl
and_left false b e = e

-- and the second
pub and_right : (a b : Bool) → a && b ≡ true → b ≡ true
and_right true b e = e
and_right false b e = never e

pub both : (a b : Bool) → (a && b) ≡ true → (a ≡ true) × (b ≡ true)
both a b e = (and_left a b e, and_right a b e)

pub both_so : (a b : Bool) → a ≡ true → b ≡ true → (a && b) ≡ true
both_so true b e f = f
both_so false b e f = e

-- of two tests one of which holds, which
pub either : (a b : Bool) → (a || b) ≡ true → (a ≡ true) ⊎ (b ≡ true)
either true b e = inl refl
either false b e = inr e

pub either_left : (a b : Bool) → a ≡ true → (a || b) ≡ true
either_left true b e = refl
either_left false b e = never e

pub either_right : (a b : Bool) → b ≡ true → (a || b) ≡ true
either_right true b e = refl
either_right false b e = e

-- neither holds
pub either_no : (a b : Bool) → (a || b) ≡ false → (a ≡ false) × (b ≡ false)
either_no true b e = absurd (not-both true refl e)
either_no false b e = (refl, e)

-- a number above zero was chosen: the test held
pub chosen : (b : Bool) (x : ℕ) → 0 < pick b x 0 → (b ≡ true) × (0 < x)
chosen true x h = (refl, h)
chosen false x h = absurd (omega arith)

pub pick_yes : (b : Bool) (x y : ℕ) → b ≡ true → pick b x y ≡ x
pick_yes true x y e = refl
pick_yes false x y e = never e

pub pick_true : (a b : Bool) → pick a b false ≡ true → (a ≡ true) × (b ≡ true)
pick_true true b e = (refl, e)
pick_true false b e = never e

pub pick_so : (a b : Bool) → a ≡ true → b ≡ true → pick a b false ≡ true
pick_so true b e f = f
pick_so false b e f = e

-- A walk is its first step, and then a walk.
use mathlib.Core.Path.{◌≡◌, refl}
use Prim.Native.Nat.{ℕ, zero, suc, ◌<◌}
use native.Mathlib.Omega.{arith}
use Rattle.slices.specs.Walk.{Next, more, done, on_next, walk_f, walk}

module _ {S R : Type 0} (step : S → Next S R) (stuck : R) (size : S → ℕ) (falls : (s t : S) → step s ≡ more t → size t < size s) where
  on : (n : Next S R) (k h : S → R) → ((t : S) → n ≡ more t → k t ≡ h t) → on_next n k ≡ on_next n h
  on (more t) k h e = e t refl
  on (done r) k h e = refl

  -- fuel above the size is as good as any other
  fuel : (f : ℕ) (s : S) (g : ℕ) → size s < f → size s < g → walk_f step stuck f s ≡ walk_f step stuck g s
  unfolding walk_f
  fuel zero s g h k = absurd (omega arith)
  fuel (suc f) s zero h k = absurd (omega arith)
  fuel (suc f) s (suc g) h k =
      on (step s) (λ t. walk_f step stuck f t) (λ t. walk_f step stuck g t) (λ t e. let l = falls s t e in fuel f t g (omega arith) (omega arith))

  pub walk_step : (s : S) → walk step stuck size s ≡ on_next (step s) (walk step stuck size)
  unfolding walk walk_f
  walk_step s =
      on (step s) (λ t. walk_f step stuck (size s) t) (λ t. walk_f step stuck (suc (size t)) t)
      (λ t e. let l = falls s t e in fuel (size s) t (suc (size t)) l (omega arith))

-- Laws of `read_only`, by the image's length.
use mathlib.Core.Path.{◌≡◌, refl}
use mathlib.Core.List.{List, [], ◌∷◌}
use Prim.Native.Nat.{ℕ, ◌≤◌, ◌<◌}
use native.Mathlib.Omega.{arith}
use lib.ListN.{length, set}
use Rattle.layout.specs.Container.{read_only}

-- an image with an access byte
pub marked : (image : List ℕ) → 1 < length image → set image 1 0x43 ≡ read_only image
unfolding read_only
marked [] h = absurd (omega arith)
marked (magic ∷ []) h = absurd (omega arith)
marked (magic ∷ access ∷ rest) h = refl

-- an image with none
pub unmarked : (image : List ℕ) → length image ≤ 1 → image ≡ read_only image
unfolding read_only
unmarked [] h = refl
unmarked (magic ∷ []) h = refl
unmarked (magic ∷ access ∷ rest) h = absurd (omega arith)

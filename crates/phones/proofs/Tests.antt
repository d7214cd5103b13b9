-- Two tests as one.
use mathlib.Core.Path.{◌≡◌, refl}
use mathlib.Core.Bool.{Bool, true, false, ◌||◌}
use Rattle.slices.specs.Pick.{pick}

pub either : (a b : Bool) → a || b ≡ pick a true b
either true b = refl
either false b = refl

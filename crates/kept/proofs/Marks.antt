-- Laws of the mark as a number, as a session's tests see it.
use mathlib.Core.Path.{◌≡◌}
use Prim.Native.Nat.{ℕ, ◌≤◌}
use native.Mathlib.Omega.{arith}
use Rattle.protocol.specs.Mark.{Mark, given, widened}

-- a mark inside the part is one that a session can be given
pub given-same : (m : Mark) → m ≤ 8192 → given m ≡ m
unfolding given
given-same m h = omega (arith, h)

-- what is written ends at the mark or before it
pub widened-past : (m : Mark) (start end : ℕ) → end ≤ widened m start end
unfolding widened
widened-past m start end = omega arith

-- a write below the mark leaves it
pub widened_same : (m : Mark) (start end : ℕ) → end ≤ m → widened m start end ≡ m
unfolding widened
widened_same m start end h = omega (arith, h)

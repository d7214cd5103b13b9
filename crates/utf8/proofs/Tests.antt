-- Laws of `inside`.
use mathlib.Core.Path.{◌≡◌}
use mathlib.Core.Bool.{true}
use Prim.Native.Nat.{ℕ, ◌≤◌}
use borrow.Author.Tests.{leb-true, le-leb}
use lib.Dec.{leb}
use Rattle.slices.proofs.Truths.{and_left, and_right}
use Rattle.utf8.specs.Utf8.{◌to◌, inside}

module _ (b lo hi : ℕ) where
  -- a byte between the bounds is inside
  pub inside_is : lo ≤ b → b ≤ hi → inside b (lo to hi) ≡ true
  inside_is p q = simp (le-leb lo b p, le-leb b hi q)

  -- a byte inside is between the bounds
  pub inside_lo : inside b (lo to hi) ≡ true → lo ≤ b
  inside_lo e = leb-true lo b (and_left _ _ e)

  pub inside_hi : inside b (lo to hi) ≡ true → b ≤ hi
  inside_hi e = leb-true b hi (and_right (leb lo b) _ e)

-- Laws of the mark: what it covers, and that it stays inside the part.
use mathlib.Core.Path.{◌≡◌}
use mathlib.Core.List.{List}
use mathlib.Core.Logic.{⊎_elim}
use Prim.Native.Nat.{ℕ, ◌%◌, ◌≤◌, ◌<◌}
use native.Mathlib.Omega.{arith}
use lib.ListN.{length, get_or}
use Rattle.slices.proofs.Cases.{lt_or_ge}
use Rattle.scan.specs.Zeros.{high_water}
use Rattle.scan.proofs.Highs.{high_zeros, high_inside}
use Rattle.protocol.specs.Mark.{Mark, Covers, none, whole, given, widened, found, wipe_end}

-- nothing is covered
pub covers-none : (i : ℕ) → Covers none i → ⊥
unfolding Covers none
covers-none i h = omega arith

-- every byte of the part is
pub covers-whole : (i : ℕ) → i < 8192 → Covers whole i
unfolding Covers whole
covers-whole i h = h

-- what was covered still is, and what was written is too
pub covers_kept : (m : Mark) (at end i : ℕ) → Covers m i → Covers (widened m at end) i
unfolding Covers widened
covers_kept m at end i h = omega arith

pub covers-written : (m : Mark) (at end i : ℕ) → at ≤ i → i < end → Covers (widened m at end) i
unfolding Covers widened
covers-written m at end i l h = omega arith

-- every byte that was found non-zero is
pub covers-found : (bs : List ℕ) (i : ℕ) → (get_or bs i 0 ≡ 0 → ⊥) → Covers (found bs) i
unfolding Covers found
covers-found bs i n = ⊎_elim (λ h. h) (λ h. absurd (n (high_zeros bs i h))) (lt_or_ge i (high_water bs))

-- a wipe reaches what is covered, ends with a row and inside the part
pub covers_wiped : (m : Mark) (i : ℕ) → i < 8192 → Covers m i → i < wipe_end m
unfolding Covers wipe_end
covers_wiped m i l h = omega arith

pub wipe_rows : (m : Mark) → wipe_end m % 16 ≡ 0
unfolding wipe_end
wipe_rows m = omega arith

pub wipe_inside : (m : Mark) → wipe_end m ≤ 8192
unfolding wipe_end
wipe_inside m = omega arith

-- every mark that a session has lies inside the part
pub inside-given : (n : ℕ) → given n ≤ 8192
unfolding given
inside-given n = omega arith

pub inside-none : none ≤ 8192
unfolding none
inside-none = omega arith

pub inside-whole : whole ≤ 8192
unfolding whole
inside-whole = omega arith

pub inside-widened : (m : Mark) (at end : ℕ) → m ≤ 8192 → end ≤ 8192 → widened m at end ≤ 8192
unfolding widened
inside-widened m at end l h = omega arith

pub inside_found : (bs : List ℕ) → length bs ≤ 8192 → found bs ≤ 8192
unfolding found
inside_found bs h = omega (arith, high_inside bs)

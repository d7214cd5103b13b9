-- A byte ahead of a cursor, read at the cursor from a slice that begins later.
--
--   reaches   == such a slice has a byte at the cursor, where so many are left
--   ahead     == and it is that byte of those that are left
use native.Mathlib.Omega.{arith}
use native.Mathlib.Nat.{min-le_left, le_trans, le_of_eq}
use mathlib.Core.Path.{◌≡◌, ap, sym, ◌∙◌}
use mathlib.Core.List.{List}
use Prim.Native.Nat.{ℕ, ◌+◌, ◌-◌, ◌≤◌, ◌<◌}
use lib.ListN.{length, get_or, drop, length-take, length-drop}
use lib.Seq.{get_or-take, get_or-drop}
use Rattle.walk.specs.Step.{left}

within : (s : List ℕ) (i at end : ℕ) → i < length (left s at end) → i < end - at
within s i at end h = le_trans h (le_trans (le_of_eq (length-take (end - at) (drop at s))) (min-le_left _ _))

pub reaches : (s : List ℕ) (i at end : ℕ) {b : List ℕ} → b ≡ drop i s → i < length (left s at end) → end ≤ length s → at < length b
reaches s i at end {b} e h k =
    let n : length b ≡ length s - i = ap length e ∙ length-drop i s in
    omega (arith, n, within s i at end h)

pub ahead : (s : List ℕ) (i at end : ℕ) {b : List ℕ} → b ≡ drop i s → i < length (left s at end) → get_or b at 0 ≡ get_or (left s at end) i 0
ahead s i at end e h =
    let turned : i + at ≡ at + i = omega arith in
    ap (λ (l : List ℕ). get_or l at 0) e ∙ get_or-drop i s at 0 ∙ ap (λ (k : ℕ). get_or s k 0) turned ∙ sym (get_or-drop at s i 0)
    ∙ sym (get_or-take (end - at) (drop at s) i 0 (within s i at end h))

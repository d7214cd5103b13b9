-- What stands before a block's body: how long it is.
use mathlib.Core.Path.{◌≡◌}
use mathlib.Core.Logic.{⊎_elim}
use Prim.Native.Nat.{ℕ, ◌≤◌, ◌<◌}
use native.Mathlib.Omega.{arith}
use borrow.Author.Tests.{lt-ltb, le-ltb}
use lib.Dec.{ltb}
use Rattle.slices.proofs.Cases.{lt_or_ge, pick_cases}
use Rattle.layout.specs.Lengths.{sat, block_len}

-- what stands before a block's body takes at most 4 bytes
pub block_at_most : (n : ℕ) → block_len n ≤ 4
block_at_most n = pick_cases (λ (m : ℕ). m ≤ 4) (ltb n 255) (λ e. omega arith) (λ e. omega arith)

-- a block's head is that of the length as a caller gets it
pub block_sat : (n : ℕ) → block_len (sat n) ≡ block_len n
block_sat n =
    ⊎_elim
    (λ h. let k : sat n < 255 = omega arith in simp (lt-ltb n 255 h, lt-ltb (sat n) 255 k))
    (λ h. let k : 255 ≤ sat n = omega arith in simp (le-ltb n 255 h, le-ltb (sat n) 255 k))
    (lt_or_ge n 255)

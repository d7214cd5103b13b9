-- Inside the memory.
use mathlib.Core.Path.{◌≡◌, sym, ◌∙◌}
use mathlib.Core.Logic.{◌⊎◌, inl, inr}
use Prim.Native.Nat.{ℕ, ◌+◌, ◌-◌, ◌≤◌, ◌<◌}
use native.Mathlib.Omega.{arith}
use lib.Dec.{leb}
use borrow.Author.Tests.{le-leb, lt-leb}
use Rattle.slices.proofs.Cases.{lt_or_ge}

-- n bytes at a place lie inside the memory, tested without a sum
pub inside_either : (at n : ℕ) → n ≤ 8192 → leb at (8192 - n) ≡ leb (at + n) 8192
inside_either at n h = go (lt_or_ge 8192 (at + n))
  where
    go : (8192 < at + n) ⊎ (at + n ≤ 8192) → leb at (8192 - n) ≡ leb (at + n) 8192
    go (inl g) = lt-leb at (8192 - n) (omega arith) ∙ sym (lt-leb (at + n) 8192 g)
    go (inr g) = le-leb at (8192 - n) (omega arith) ∙ sym (le-leb (at + n) 8192 g)

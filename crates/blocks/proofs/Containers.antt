-- Laws of `container_len`.
--
--   container_least   == a container that is known here has at least four bytes
use mathlib.Core.Path.{◌≡◌, subst, sym}
use mathlib.Core.List.{List}
use Prim.Native.Nat.{ℕ, ◌≤◌}
use native.Mathlib.Omega.{arith}
use lib.ListN.{length, get_or}
use lib.Dec.{ltb, eqb}
use Rattle.std.specs.Prelude.{Option, Some, None}
use Rattle.slices.proofs.Cases.{pick_cases}
use Rattle.blocks.specs.Read.{container_len}

abbrev Least : Option ℕ → Type 0
Least (Some n) = 4 ≤ n
Least None = Unit {0}

least : (s : List ℕ) → Least (container_len s)
unfolding container_len
least s =
    pick_cases Least (ltb (length s) 3) (λ _. tt) (λ _.
    pick_cases Least (eqb (get_or s 0 0) 0xE1)
    (λ _. pick_cases (λ (n : ℕ). 4 ≤ n) (eqb (get_or s 2 0) 0) (λ _. omega arith) (λ _. omega arith))
    (λ _. pick_cases Least (eqb (get_or s 0 0) 0xE2) (λ _. omega arith) (λ _. tt)))

pub container_least : (s : List ℕ) {n : ℕ} → Some n ≡ container_len s → 4 ≤ n
container_least s e = subst Least (sym e) (least s)

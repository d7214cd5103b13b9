-- The part is as general as document 01's words: every cycle, every change by a phone, everything that a cut may leave.
use mathlib.Core.Path.{◌≡◌, refl, sym, ◌∙◌}
use mathlib.Core.Bool.{Bool, true, false}
use mathlib.Core.List.{List, [], ◌∷◌}
use Prim.Native.Nat.{ℕ, ◌+◌, ◌≤◌}
use native.Mathlib.Omega.{arith}
use lib.ListN.{length, replicate, length-replicate}
use lib.Seq.{take_all}
use borrow.Author.Tests.{eq-eqb, ne_eqb, le-leb}
use Rattle.slices.specs.Bytes.{splice}
use Rattle.slices.proofs.Splice.{splice-whole}
use Rattle.part.specs.Part.{Part, ThePart}
use Rattle.part.specs.Orders.{ordered}
use Rattle.part.specs.Power.{writes, visited, reached, cut}
use Rattle.part.specs.declared.registers.Cycle.TheVariants as cycle
use Rattle.part.specs.declared.registers.Registers.{Registers}
use Rattle.part.specs.declared.order.Order.TheVariants.{Row}

-- there is such a part: as it comes, not set up, with RF on from power-up
unfoldable pub fresh : Part
fresh = record {
  identity = 0xFF ∷ 0x07 ∷ 0x03 ∷ 0x51 ∷ 1 ∷ 2 ∷ 3 ∷ 4 ∷ 5 ∷ 0x51 ∷ 0x02 ∷ 0xE0 ∷ [];
  memory = replicate 8192 0;
  registers = record { gpo1 = 0x88; mngt = 0; cfg = 0x1A; rf = 0; session = false; reported = false; busy = 0; cycle = cycle.Nothing };
}

pub fresh_is : ThePart fresh
unfolding fresh
fresh_is = record { identified = refl; size = refl; uid = refl; bytes = length-replicate {A = ℕ} 8192 0; cfg = refl; mngt = refl; busy = omega arith; cycle = tt }

-- a row write begins a cycle of every length up to 99 ms
pub every_cycle : (at n ms : ℕ) (r : Registers) → ms ≤ 99 → (ordered (Row at) n ms r).busy ≡ ms
every_cycle at n ms r h = omega arith

-- with RF on a phone may leave any bytes in the memory
pub every_change : (p : Part) (bs : List ℕ) → p.registers.rf ≡ 0 → length p.memory ≡ 8192 → length bs ≡ 8192 → (visited (writes 0 bs) p).memory ≡ bs
every_change p bs h l k =
    let e : reached 0 (length bs) p.registers ≡ true = rw (eq-eqb p.registers.rf 0 h) (le-leb (0 + length bs) 8192 (omega arith)) in
    rw e (splice-whole p.memory bs (l ∙ sym k))

-- a cut inside the cycle of a row write may leave any bytes in its place
pub every_tear : (p : Part) (at : ℕ) (bs : List ℕ) (old : Bool) → (p.registers.busy ≡ 0 → ⊥) → p.registers.cycle ≡ cycle.Row at (length bs) → at + length bs ≤ 8192
    → (cut (record { bytes = bs; old = old }) p).memory ≡ splice p.memory at bs
every_tear p at bs old b e h =
    rw (ne_eqb p.registers.busy 0 b) (rw e (rw (le-leb (at + length bs) 8192 h) (rw (take_all (length bs) bs (omega arith)) refl)))

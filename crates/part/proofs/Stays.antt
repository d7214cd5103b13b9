-- A part of demand 3 stays one: through every transfer, also such as no call makes, every visit of a phone and every cut.
use mathlib.Core.Path.{◌≡◌, refl, subst, sym, ◌∙◌}
use mathlib.Core.Bool.{Bool, true, false, ◌&&◌}
use mathlib.Core.List.{List, ◌++◌}
use Prim.Native.Nat.{ℕ, ◌+◌, ◌-◌, ◌%◌, ◌≤◌}
use native.Mathlib.Omega.{arith}
use lib.Dec.{eqb, ltb, leb}
use lib.ListN.{length, take, drop, length-take, length-drop}
use borrow.Author.Tests.{ltb-true, leb-true, eqb-true}
use Rattle.slices.specs.Pick.{pick}
use Rattle.slices.proofs.Cases.{pick_cases}
use Rattle.slices.proofs.Splice.{splice-length}
use Rattle.slices.proofs.Truths.{and_left, and_right}
use Rattle.protocol.specs.Transfer.{Transfer, write, write_read, delay}
use Rattle.protocol.specs.Tag.{gpo1, rf_mngt, i2c_cfg}
use Rattle.part.specs.Part.{Part, ThePart, Sound, byte_at, fits, free, rf_on, with_byte}
use Rattle.part.specs.Orders.{order_of, in_row, takes, accepted, ordered, stored}
use Rattle.part.specs.Looks.{look_of, looked, answered}
use Rattle.part.specs.Bus.{after_of}
use Rattle.part.specs.Power.{Visit, still, writes, visited, reached, Torn, powered, torn_byte, torn_row, cut}
use Rattle.part.specs.declared.registers.Registers.{Registers}
use Rattle.part.specs.declared.registers.Cycle.{Cycle}
use Rattle.part.specs.declared.registers.Cycle.TheVariants as cycle
use Rattle.part.specs.declared.order.Order.{Order}
use Rattle.part.specs.declared.order.Order.TheVariants.{Poll, Row, Dynamic, Password, Byte, SwitchOn, SwitchOff, Unknown}
use Rattle.part.specs.declared.look.Look.{Look}
use Rattle.part.specs.declared.look.Look.TheVariants as look

-- what ThePart says of the registers
record Sane (r : Registers) : Type 0 where
  cfg : fits i2c_cfg r.cfg ≡ true
  mngt : fits rf_mngt r.mngt ≡ true
  busy : r.busy ≤ 99
  cycle : Sound r.cycle

sane : (p : Part) → ThePart p → Sane p.registers
sane p t = record { cfg = t.cfg; mngt = t.mngt; busy = t.busy; cycle = t.cycle }

the_part_lem : (p : Part) (M : List ℕ) (r : Registers) → ThePart p → length M ≡ 8192 → Sane r → ThePart (record { identity = p.identity; memory = M; registers = r })
the_part_lem p M r t l s = record { identified = t.identified; size = t.size; uid = t.uid; bytes = l; cfg = s.cfg; mngt = s.mngt; busy = s.busy; cycle = s.cycle }

-- the register is one of three
data Register : ℕ → Type 0 where
  gpo : Register gpo1
  rf : Register rf_mngt
  i2c : Register i2c_cfg

register : (at v : ℕ) → fits at v ≡ true → Register at
register at v e = go (eqb at gpo1) refl (eqb at rf_mngt) refl (eqb at i2c_cfg) refl e
  where
    go : (a : Bool) → eqb at gpo1 ≡ a → (b : Bool) → eqb at rf_mngt ≡ b → (c : Bool) → eqb at i2c_cfg ≡ c
        → pick a true (pick b (ltb v 4) (pick c (pick (eqb v 0x1A) true (eqb v 0x3A)) false)) ≡ true → Register at
    go true x b y c z f = subst Register (sym (eqb-true at gpo1 x)) gpo
    go false x true y c z f = subst Register (sym (eqb-true at rf_mngt y)) rf
    go false x false y true z f = subst Register (sym (eqb-true at i2c_cfg z)) i2c
    go false x false y false z f = absurd (let q : ◌≡◌ {A = ℕ} 0 1 = cc in omega arith)

-- a value that fits, in its register
sane-byte : (at v : ℕ) (r : Registers) → Register at → fits at v ≡ true → Sane r → Sane (with_byte at v r) × (fits at (byte_at at r) ≡ true)
sane-byte at v r gpo f s = (record { cfg = s.cfg; mngt = s.mngt; busy = s.busy; cycle = s.cycle }, refl)
sane-byte at v r rf f s = (record { cfg = s.cfg; mngt = f; busy = s.busy; cycle = s.cycle }, s.mngt)
sane-byte at v r i2c f s = (record { cfg = f; mngt = s.mngt; busy = s.busy; cycle = s.cycle }, s.cfg)

-- a row lies inside the memory
pub row_inside : (at n : ℕ) → in_row at n ≡ true → at + n ≤ 8192
row_inside at n e =
    let a = and_left (ltb 0 n && ltb at 8192) (leb n (16 - at % 16)) e in
    let l = ltb-true at 8192 (and_right (ltb 0 n) (ltb at 8192) a) in
    let h = leb-true n (16 - at % 16) (and_right (ltb 0 n && ltb at 8192) (leb n (16 - at % 16)) e) in
    omega arith

sane_order : (o : Order) (n c : ℕ) (r : Registers) → takes o n r ≡ true → Sane r → Sane (ordered o n c r)
sane_order Poll n c r t s = s
sane_order (Row at) n c r t s = record { cfg = s.cfg; mngt = s.mngt; busy = omega arith; cycle = row_inside at n t }
sane_order (Dynamic v) n c r t s = record { cfg = s.cfg; mngt = s.mngt; busy = s.busy; cycle = s.cycle }
sane_order Password n c r t s = record { cfg = s.cfg; mngt = s.mngt; busy = s.busy; cycle = s.cycle }
sane_order (Byte at v) n c r t s =
    let f : fits at v ≡ true = and_right r.session (fits at v) t in
    let b = sane-byte at v r (register at v f) f s in
    record { cfg = b.0.cfg; mngt = b.0.mngt; busy = omega arith; cycle = b.1 }
sane_order SwitchOn n c r t s = record { cfg = s.cfg; mngt = s.mngt; busy = s.busy; cycle = s.cycle }
sane_order SwitchOff n c r t s = record { cfg = s.cfg; mngt = s.mngt; busy = s.busy; cycle = s.cycle }
sane_order Unknown n c r t s = s

-- the memory keeps its size
pub stored-length : (o : Order) (payload M : List ℕ) (n : ℕ) (r : Registers) → length payload ≡ n → takes o n r ≡ true → length M ≡ 8192 → length (stored o payload M) ≡ 8192
stored-length Poll payload M n r e t l = l
stored-length (Row at) payload M n r e t l = splice-length M at payload (omega (arith, row_inside at n t)) ∙ l
stored-length (Dynamic v) payload M n r e t l = l
stored-length Password payload M n r e t l = l
stored-length (Byte at v) payload M n r e t l = l
stored-length SwitchOn payload M n r e t l = l
stored-length SwitchOff payload M n r e t l = l
stored-length Unknown payload M n r e t l = l

sane-look : (k : Look) (r : Registers) → Sane r → Sane (looked k r)
sane-look (look.Memory at) r s = s
sane-look look.Dynamic r s = s
sane-look look.Session r s = s
sane-look look.Status r s = record { cfg = s.cfg; mngt = s.mngt; busy = s.busy; cycle = s.cycle }
sane-look (look.Byte at) r s = s
sane-look look.Identity r s = s
sane-look look.Unknown r s = s

pub stays : (t : Transfer) (c : ℕ) (p : Part) → ThePart p → ThePart (after_of t c p)
stays (write dev head payload) c p t =
    let o = order_of dev (head ++ payload) in
    let n = length (head ++ payload) - 2 in
    the_part_lem p _ _ t
    (pick_cases (λ (M : List ℕ). length M ≡ 8192) (accepted dev (head ++ payload) p.registers)
    (λ e. stored-length o (drop 2 (head ++ payload)) p.memory n p.registers (length-drop 2 (head ++ payload)) (and_right (free p.registers) (takes o n p.registers) e) t.bytes) (λ _. t.bytes))
    (pick_cases Sane (accepted dev (head ++ payload) p.registers)
    (λ e. sane_order o n c p.registers (and_right (free p.registers) (takes o n p.registers) e) (sane p t)) (λ _. sane p t))
stays (write_read dev head n) c p t =
    the_part_lem p p.memory _ t t.bytes
    (pick_cases Sane (answered dev head n p.registers) (λ _. sane-look (look_of dev head n) p.registers (sane p t)) (λ _. sane p t))
stays (delay ms) c p t = the_part_lem p p.memory _ t t.bytes (record { cfg = t.cfg; mngt = t.mngt; busy = omega (arith, t.busy); cycle = t.cycle })

pub stays_visited : (v : Visit) (p : Part) → ThePart p → ThePart (visited v p)
stays_visited still p t = t
stays_visited (writes at bs) p t =
    the_part_lem p _ _ t
    (pick_cases (λ (M : List ℕ). length M ≡ 8192) (reached at (length bs) p.registers)
    (λ e. let h = leb-true (at + length bs) 8192 (and_right (rf_on p.registers) (leb (at + length bs) 8192) e) in
    splice-length p.memory at bs (omega (arith, t.bytes)) ∙ t.bytes) (λ _. t.bytes))
    (pick_cases Sane (reached at (length bs) p.registers) (λ _. record { cfg = t.cfg; mngt = t.mngt; busy = t.busy; cycle = t.cycle }) (λ _. sane p t))

torn_length : (k : Cycle) (bs M : List ℕ) → length M ≡ 8192 → length (torn_row k bs M) ≡ 8192
torn_length cycle.Nothing bs M l = l
torn_length (cycle.Row at n) bs M l =
    pick_cases (λ (N : List ℕ). length N ≡ 8192) (leb (at + n) 8192)
    (λ e. let h = leb-true (at + n) 8192 e in splice-length M at (take n bs) (omega (arith, length-take n bs)) ∙ l) (λ _. l)
torn_length (cycle.Byte at v) bs M l = l

sane_torn : (k : Cycle) (old : Bool) (r : Registers) → Sound k → Sane r → Sane (torn_byte k old r)
sane_torn cycle.Nothing old r f s = s
sane_torn (cycle.Row at n) old r f s = s
sane_torn (cycle.Byte at v) true r f s = (sane-byte at v r (register at v f) f s).0
sane_torn (cycle.Byte at v) false r f s = s

sane-powered : (r : Registers) → Sane r → Sane (powered r)
sane-powered r s = record { cfg = s.cfg; mngt = s.mngt; busy = omega arith; cycle = tt }

pub stays_cut : (l : Torn) (p : Part) → ThePart p → ThePart (cut l p)
stays_cut l p t =
    the_part_lem p _ _ t
    (pick_cases (λ (M : List ℕ). length M ≡ 8192) (free p.registers) (λ _. t.bytes) (λ _. torn_length p.registers.cycle l.bytes p.memory t.bytes))
    (sane-powered _ (pick_cases Sane (free p.registers) (λ _. sane p t) (λ _. sane_torn p.registers.cycle l.old p.registers t.cycle (sane p t))))

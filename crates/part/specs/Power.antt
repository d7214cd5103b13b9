-- Phones, cuts and power-up. Source: document 01, 'The part of demand 3'.
--
--   Visit                  == what a phone does between two transfers: nothing, or bytes written from a place on. Since the bytes may
--                             be the whole memory, this is every change of user bytes
--   reached at n r         == a phone can write n bytes at `at`: RF is on, and they lie inside the memory
--   registers_visited at n r == the registers after a phone wrote n bytes at `at`: reported where GPO1 says so
--   memory_visited at bs r m == the memory m after a phone wrote the bytes bs at `at`
--   visited v p            == the part after it. With RF off, or past the memory, a phone changes nothing
--   Torn                   == what a cut leaves inside a cycle: bytes in the place of those of the row write that runs, as many as
--                             there are; whether a system byte is the old one
--   powered r              == the registers at power-up
--   torn_byte k old r       == the system bytes after a cut inside the cycle k: the one that it writes is old or new
--   torn_row k bs m         == the memory m after such a cut: bs in the place of the bytes that it writes, as many as there are
--   registers_cut old r     == the registers after a cut, in a cycle or not, and power-up
--   memory_cut bs r m       == the memory m after it
--   cut l p                == the part after a cut and power-up
use Rattle.std.specs.Prelude.{Bool, true, false, ◌&&◌, List, ℕ, ◌+◌, leb, length, take}
use Rattle.slices.specs.Bytes.{splice}
use Rattle.protocol.specs.Tag.{user_memory}
use Rattle.protocol.specs.Setup.{reports}
use Rattle.protocol.specs.Proc.{when◌then◌else◌}
use Rattle.part.specs.Part.{Part, rf_on, free, with_byte, with_reported}
use Rattle.part.specs.declared.registers.Cycle.{Cycle}
use Rattle.part.specs.declared.registers.Cycle.TheVariants.{Nothing, Row, Byte}
use Rattle.part.specs.declared.registers.Registers.{Registers}

pub data Visit : Type 0 where
  still : Visit
  writes : ℕ → List ℕ → Visit

-- a phone can write n bytes at `at`
abbrev pub reached : ℕ → ℕ → Registers → Bool
reached at n r = rf_on r && leb (at + n) user_memory

abbrev pub registers_visited : ℕ → ℕ → Registers → Registers
registers_visited at n r = when reached at n r then with_reported (when reports r.gpo1 then true else r.reported) r else r

abbrev pub memory_visited : ℕ → List ℕ → Registers → List ℕ → List ℕ
memory_visited at bs r memory = when reached at (length bs) r then splice memory at bs else memory

abbrev pub visited : Visit → Part → Part
visited still p = p
visited (writes at bs) p = record {
  identity = p.identity;
  memory = memory_visited at bs p.registers p.memory;
  registers = registers_visited at (length bs) p.registers;
}

pub record Torn : Type 0 where
  pub bytes : List ℕ
  pub old : Bool

abbrev pub powered : Registers → Registers
powered r = record { gpo1 = r.gpo1; mngt = r.mngt; cfg = r.cfg; rf = r.mngt; session = false; reported = false; busy = 0; cycle = Nothing }

-- the system bytes after a cut inside the cycle k
abbrev pub torn_byte : Cycle → Bool → Registers → Registers
torn_byte Nothing old r = r
torn_byte (Row at n) old r = r
torn_byte (Byte at v) old r = when old then with_byte at v r else r

-- the memory after a cut inside it
abbrev pub torn_row : Cycle → List ℕ → List ℕ → List ℕ
torn_row Nothing bs memory = memory
torn_row (Row at n) bs memory = when leb (at + n) user_memory then splice memory at (take n bs) else memory
torn_row (Byte at v) bs memory = memory

abbrev pub registers_cut : Bool → Registers → Registers
registers_cut old r = powered (when free r then r else torn_byte r.cycle old r)

abbrev pub memory_cut : List ℕ → Registers → List ℕ → List ℕ
memory_cut bs r memory = when free r then memory else torn_row r.cycle bs memory

abbrev pub cut : Torn → Part → Part
cut l p = record {
  identity = p.identity;
  memory = memory_cut l.bytes p.registers p.memory;
  registers = registers_cut l.old p.registers;
}

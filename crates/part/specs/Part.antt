-- The part of demand 3. Source: document 01, 'The part of demand 3'.
--
--   Part               == twelve bytes of identification, the user memory, the registers
--   longest            == the longest write cycle, in milliseconds
--   byte_at at r        == the system byte of the register `at`
--   fits at v          == v is a value that the register `at` of this part may hold: I2C_CFG 1A or 3A, RF_MNGT 0 to 3, any GPO1
--   rf_on r             == RF is on: off exactly when RF_MNGT_Dyn is not zero
--   switches r         == I2C_CFG bit 5 is set: the RF switch addresses answer
--   free r             == no write cycle runs
--   with_rf v r         == the registers r with RF_MNGT_Dyn at v
--   with_session b r    == with the session open, or closed
--   with_reported b r   == with a phone's write reported, or none
--   with_busy ms r      == with `ms` milliseconds of the cycle left
--   with_cycle ms k r   == with the cycle k begun, which takes `ms` milliseconds, the longest at most
--   with_byte at v r    == with v as the system byte of the register `at`
--   Sound k            == k is a cycle of this part: none, a row inside the memory, or a byte whose old value the register may hold
--   ThePart p          == p is the part that document 01 describes, in any state of its dynamic registers
use Rattle.std.specs.Prelude.{◌≡◌, Bool, true, false, List, ℕ, ◌+◌, ◌*◌, ◌/◌, ◌%◌, ◌≤◌, min, eqb, ltb, length, get_or}
use Rattle.protocol.specs.Tag.{user_memory, gpo1, rf_mngt, i2c_cfg, id_length, i2c_cfg_value, uid_prefix}
use Rattle.protocol.specs.Proc.{when◌then◌else◌}
use Rattle.part.specs.declared.registers.Cycle.{Cycle}
use Rattle.part.specs.declared.registers.Cycle.TheVariants.{Nothing, Row, Byte}
use Rattle.part.specs.declared.registers.Registers.{Registers}

pub record Part : Type 0 where
  pub identity : List ℕ
  pub memory : List ℕ
  pub registers : Registers

abbrev pub longest : ℕ
longest = 99

abbrev pub byte_at : ℕ → Registers → ℕ
byte_at at r = when eqb at gpo1 then r.gpo1 else when eqb at rf_mngt then r.mngt else r.cfg

abbrev pub fits : ℕ → ℕ → Bool
fits at v =
    when eqb at gpo1 then true
    else when eqb at rf_mngt then ltb v 4
    else when eqb at i2c_cfg then (when eqb v 0x1A then true else eqb v i2c_cfg_value)
    else false

abbrev pub rf_on : Registers → Bool
rf_on r = eqb r.rf 0

abbrev pub switches : Registers → Bool
switches r = eqb (r.cfg / 32 % 2) 1

abbrev pub free : Registers → Bool
free r = eqb r.busy 0

abbrev pub with_rf : ℕ → Registers → Registers
with_rf v r = record { gpo1 = r.gpo1; mngt = r.mngt; cfg = r.cfg; rf = v; session = r.session; reported = r.reported; busy = r.busy; cycle = r.cycle }

abbrev pub with_session : Bool → Registers → Registers
with_session b r = record { gpo1 = r.gpo1; mngt = r.mngt; cfg = r.cfg; rf = r.rf; session = b; reported = r.reported; busy = r.busy; cycle = r.cycle }

abbrev pub with_reported : Bool → Registers → Registers
with_reported b r = record { gpo1 = r.gpo1; mngt = r.mngt; cfg = r.cfg; rf = r.rf; session = r.session; reported = b; busy = r.busy; cycle = r.cycle }

abbrev pub with_busy : ℕ → Registers → Registers
with_busy ms r = record { gpo1 = r.gpo1; mngt = r.mngt; cfg = r.cfg; rf = r.rf; session = r.session; reported = r.reported; busy = ms; cycle = r.cycle }

-- a cycle of `ms` milliseconds begins, cut to the longest
abbrev pub with_cycle : ℕ → Cycle → Registers → Registers
with_cycle ms k r = record { gpo1 = r.gpo1; mngt = r.mngt; cfg = r.cfg; rf = r.rf; session = r.session; reported = r.reported; busy = min ms longest; cycle = k }

abbrev pub with_byte : ℕ → ℕ → Registers → Registers
with_byte at v r =
    when eqb at gpo1 then record { gpo1 = v; mngt = r.mngt; cfg = r.cfg; rf = r.rf; session = r.session; reported = r.reported; busy = r.busy; cycle = r.cycle }
    else when eqb at rf_mngt then record { gpo1 = r.gpo1; mngt = v; cfg = r.cfg; rf = r.rf; session = r.session; reported = r.reported; busy = r.busy; cycle = r.cycle }
    else record { gpo1 = r.gpo1; mngt = r.mngt; cfg = v; rf = r.rf; session = r.session; reported = r.reported; busy = r.busy; cycle = r.cycle }

-- what a running cycle replaces is such a value too, and a row lies inside the memory
abbrev pub Sound : Cycle → Type 0
Sound Nothing = Unit
Sound (Row at n) = at + n ≤ user_memory
Sound (Byte at v) = fits at v ≡ true

pub record ThePart (p : Part) : Type 0 where
  pub identified : length p.identity ≡ id_length
  pub size : get_or p.identity 0 0 + 256 * get_or p.identity 1 0 ≡ 2047
  pub uid : get_or p.identity 11 0 ≡ uid_prefix
  pub bytes : length p.memory ≡ user_memory
  pub cfg : fits i2c_cfg p.registers.cfg ≡ true
  pub mngt : fits rf_mngt p.registers.mngt ≡ true
  pub busy : p.registers.busy ≤ longest
  pub cycle : Sound p.registers.cycle

-- The ten numbers lose nothing: a host that hands back the tile it got goes on with the very part it had.
--
--   Byted k, Bytes r    == what holds of every value of the types: bytes are below 256
--   tile_back           == the registers come back from their ten numbers
use mathlib.Core.Path.{◌≡◌, refl}
use mathlib.Core.Bool.{Bool, true, false}
use Prim.Native.Nat.{◌<◌}
use Rattle.slices.proofs.Numbers.{byte-rest}
use Rattle.part.specs.declared.registers.Cycle.{Cycle}
use Rattle.part.specs.declared.registers.Cycle.TheVariants.{Nothing, Row, Byte}
use Rattle.part.specs.declared.registers.Registers.{Registers}
use Rattle.tens.specs.Tens.{flag, number_of, cycle_of, kind_of, place_of, size_of, registers_of, tile_of}

abbrev pub Byted : Cycle → Type 0
Byted Nothing = Unit
Byted (Row at n) = Unit
Byted (Byte at v) = v < 256

pub record Bytes (r : Registers) : Type 0 where
  pub gpo1 : r.gpo1 < 256
  pub mngt : r.mngt < 256
  pub cfg : r.cfg < 256
  pub rf : r.rf < 256
  pub busy : r.busy < 256
  pub cycle : Byted r.cycle

flag_back : (b : Bool) → flag (number_of b) ≡ b
flag_back true = refl
flag_back false = refl

cycle_back : (k : Cycle) → Byted k → cycle_of (kind_of k) (place_of k) (size_of k) ≡ k
cycle_back Nothing h = refl
cycle_back (Row at n) h = refl
cycle_back (Byte at v) h = rw (byte-rest v h)

pub tile_back : (r : Registers) → Bytes r → registers_of (tile_of r) ≡ r
tile_back r b =
    rw (byte-rest r.gpo1 b.gpo1, byte-rest r.mngt b.mngt, byte-rest r.cfg b.cfg, byte-rest r.rf b.rf, byte-rest r.busy b.busy, flag_back r.session, flag_back r.reported, cycle_back r.cycle b.cycle)

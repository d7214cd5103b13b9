-- The registers of the simulated part as ten numbers. Any ten numbers are a part's registers, so that nothing a caller lends is
-- refused: bytes are taken modulo 256, a flag is on where its number is not 0, and a cycle of another kind than 1 and 2 is none.
-- Source: include/skipnadur_tile.h, `skp_tile`.
--
--   flag n                 == the number n as a flag. number_of b: the flag b as a number
--   cycle_of kind at n      == the running cycle: 1 a row write of n bytes at `at`, 2 a system byte at `at` that held n, else nothing
--   kind_of, place_of, size_of == a cycle's three numbers
--   registers_of t          == the registers that ten numbers are
--   tile_of r               == the ten numbers of the registers r
use Rattle.std.specs.Prelude.{Bool, true, false, not, List, [], ◌∷◌, ℕ, ◌%◌, eqb, get_or}
use Rattle.protocol.specs.Proc.{when◌then◌else◌}
use Rattle.part.specs.declared.registers.Cycle.{Cycle}
use Rattle.part.specs.declared.registers.Cycle.TheVariants.{Nothing, Row, Byte}
use Rattle.part.specs.declared.registers.Registers.{Registers}

abbrev pub flag : ℕ → Bool
flag n = not (eqb n 0)

abbrev pub number_of : Bool → ℕ
number_of true = 1
number_of false = 0

abbrev pub cycle_of : ℕ → ℕ → ℕ → Cycle
cycle_of kind at n = when eqb kind 1 then Row at n else when eqb kind 2 then Byte at (n % 256) else Nothing

abbrev pub kind_of : Cycle → ℕ
kind_of Nothing = 0
kind_of (Row at n) = 1
kind_of (Byte at v) = 2

abbrev pub place_of : Cycle → ℕ
place_of Nothing = 0
place_of (Row at n) = at
place_of (Byte at v) = at

abbrev pub size_of : Cycle → ℕ
size_of Nothing = 0
size_of (Row at n) = n
size_of (Byte at v) = v

abbrev pub registers_of : List ℕ → Registers
registers_of t = record {
  gpo1 = get_or t 0 0 % 256;
  mngt = get_or t 1 0 % 256;
  cfg = get_or t 2 0 % 256;
  rf = get_or t 3 0 % 256;
  session = flag (get_or t 4 0);
  reported = flag (get_or t 5 0);
  busy = get_or t 6 0 % 256;
  cycle = cycle_of (get_or t 7 0) (get_or t 8 0) (get_or t 9 0);
}

abbrev pub tile_of : Registers → List ℕ
tile_of r =
    r.gpo1 ∷ r.mngt ∷ r.cfg ∷ r.rf ∷ number_of r.session ∷ number_of r.reported ∷ r.busy
    ∷ kind_of r.cycle ∷ place_of r.cycle ∷ size_of r.cycle ∷ []

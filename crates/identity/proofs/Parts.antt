-- Which bytes of an identification are judged.
use mathlib.Core.Path.{◌≡◌}
use mathlib.Core.Bool.{◌&&◌}
use mathlib.Core.List.{List}
use Prim.Native.Nat.{ℕ, ◌+◌, ◌*◌}
use native.Mathlib.Omega.{arith}
use lib.Dec.{eqb}
use lib.ListN.{get_or, take}
use lib.Seq.{get_or-take}
use Rattle.protocol.specs.Setup.{is_the_part}

-- the first twelve bytes are judged by three of them
pub part-id : (l : List ℕ) → (low high : ℕ) → low ≡ get_or l 0 0 → high ≡ get_or l 1 0
    → eqb (get_or l 11 0) 0xE0 && eqb ((low + 256 * high + 1) * 4) 8192 ≡ is_the_part (take 12 l)
part-id l low high e f = rw (get_or-take 12 l 11 0 (omega arith), get_or-take 12 l 0 0 (omega arith), get_or-take 12 l 1 0 (omega arith), e, f)

-- Laws of a record as plain numbers.
--
--   as_number          == a bool made a number
--   read_back_lem      == a record's six numbers say that record
use mathlib.Core.Path.{◌≡◌, refl}
use mathlib.Core.Bool.{Bool, true, false, not}
use Prim.Native.Nat.{◌≤◌, min}
use native.Mathlib.Omega.{arith}
use mir.Val.{bool_byte}
use lib.Dec.{eqb}
use Rattle.records.specs.declared.Record.{Record}
use Rattle.plain.specs.Reading.{yes, places_of, record_of}

pub as_number : (b : Bool) → bool_byte b ≡ yes b
as_number true = refl
as_number false = refl

-- a bool made a number says that bool
said : (b : Bool) → not (eqb (yes b) 0) ≡ b
said true = refl
said false = refl

pub read_back_lem : (r : Record) → r.format ≤ 255 → record_of (places_of r) ≡ r
read_back_lem r h = let f : min r.format 255 ≡ r.format = omega arith in rw (f, said r.last)

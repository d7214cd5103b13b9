-- A byte and the next, in a text whose characters take one byte or two each: rows 1 and 2 of table 3-7.
--
--   later b      == b is a later byte of a character: one of 80..BF
--   beside a b   == a may stand before b in such a text: a later byte comes after the first byte of a character of two, and any other
--                   after ASCII or a later byte
use Rattle.std.specs.Prelude.{Bool, not, ◌&&◌, ◌||◌, ℕ, leb}
use Rattle.utf8.specs.Utf8.{◌to◌, inside}

abbrev pub later : ℕ → Bool
later b = inside b (0x80 to 0xBF)

abbrev pub beside : ℕ → ℕ → Bool
beside a b = (later b && inside a (0xC2 to 0xDF)) || (not (later b) && leb a 0xBF)

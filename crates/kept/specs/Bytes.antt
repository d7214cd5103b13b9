-- Bytes of a state, as they are read from where it was kept. From no public document: what a lent slice of bytes is by its type.
--
--   Bytes l   == each number of l is a byte
use Rattle.std.specs.Prelude.{List, ℕ, ◌<◌, get_or}

abbrev pub Bytes : List ℕ → Type 0
Bytes l = (i : ℕ) → get_or l i 0 < 256

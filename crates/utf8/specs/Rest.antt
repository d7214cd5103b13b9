-- The later bytes of a character. Source: Unicode, table 3-7: from the third byte on each is one of 80..BF.
--
--   rest n lo hi   == the ranges of the later bytes of a character of n bytes, whose second byte is one of lo..hi
use Rattle.std.specs.Prelude.{List, ◌∷◌, ℕ, ◌-◌, replicate}
use Rattle.utf8.specs.Utf8.{Range, ◌to◌}

abbrev pub rest : ℕ → ℕ → ℕ → List Range
rest n lo hi = lo to hi ∷ replicate (n - 2) (0x80 to 0xBF)

-- Which records the code reads by a way of their own. From no public document; only inner functions ask for them, and what is read is
-- Parse's.
--
--   Plain s         == s begins with the head of a record that is short, has no id, is not split and is not the last
--   PlainOf s k p   == so does s, and the lengths of that record's type name and payload are k and p
use Rattle.std.specs.Prelude.{◌≡◌, List, ℕ, ◌/◌, ◌%◌, ◌<◌, length, get_or}

-- bits 3 to 6 of the header: 08 id, 10 short, 20 chunk, 40 last
abbrev pub Plain : List ℕ → Type 0
Plain s = (2 < length s) × (get_or s 0 0 / 8 % 16 ≡ 2)

abbrev pub PlainOf : List ℕ → ℕ → ℕ → Type 0
PlainOf s k p = Plain s × ((k ≡ get_or s 1 0) × (p ≡ get_or s 2 0))

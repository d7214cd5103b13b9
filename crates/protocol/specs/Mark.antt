-- The high-water mark: what may be non-zero.
-- Source: tag.rs, 'Residue', and the field `dirty`; document 01, 'A session's transfers (tag.rs)'.
--
--   Mark               == what is known of the memory: today the end of everything that may be non-zero
--   Covers m i         == the byte at i may be non-zero
--   none               == nothing may be: the mark after a wipe
--   whole              == any byte may be: the mark at power-up, and after a phone's write
--   given n            == the mark of a new session that was given the number n
--   widened m at end   == m, with the bytes from `at` up to `end` written
--   found bs           == the mark of a memory that was read whole
--   is_none m           == there is nothing to wipe
--   wipe_end m          == where a wipe ends: the mark up to the end of its row, inside the part
-- Its laws are in proofs/Marks; nothing outside of the two files looks into a mark.
use Rattle.std.specs.Prelude.{ℕ, ◌+◌, ◌-◌, ◌*◌, ◌/◌, ◌<◌, min, max, Bool, List, ltb}
use Rattle.scan.specs.Rows.{row}
use Rattle.scan.specs.Zeros.{high_water}
use Rattle.protocol.specs.Tag.{user_memory}

abbrev pub Mark : Type 0
Mark = ℕ

unfoldable pub Covers : Mark → ℕ → Type 0
Covers m i = i < m

unfoldable pub none : Mark
none = 0

unfoldable pub whole : Mark
whole = user_memory

unfoldable pub given : ℕ → Mark
given n = min n user_memory

unfoldable pub widened : Mark → ℕ → ℕ → Mark
widened m at end = max m end

unfoldable pub found : List ℕ → Mark
found bs = high_water bs

unfoldable pub is_none : Mark → Bool
is_none m = ltb m 1

unfoldable pub wipe_end : Mark → ℕ
wipe_end m = min ((m + (row - 1)) / row * row) user_memory

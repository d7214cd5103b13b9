-- The head of a record.
-- Document 01, 'Bytes from a phone'; NFC Forum NDEF 1.0, section 3.2 (record layout), 3.2.1 to 3.2.12 (its fields).
--
--   flag bit h                == the header h has the flag `bit`: last 40 (ME, 3.2.2), chunk 20 (CF, 3.2.3), short 10 (SR, 3.2.4), id 08
--                                (IL, 3.2.5)
--   head_len h                 == bytes before the type name: header, type length, payload length in one byte or four, id length if any
--   payload_len s, id_len s     == the lengths that the head of s says, high byte first; no id, 0
use Rattle.std.specs.Prelude.{List, Bool, ℕ, ◌+◌, ◌*◌, ◌/◌, ◌%◌, get_or, eqb}
use Rattle.slices.specs.Pick.{pick}

abbrev pub flag : ℕ → ℕ → Bool
flag bit h = eqb (h / bit % 2) 1

unfoldable pub head_len : ℕ → ℕ
head_len h = 2 + pick (flag 0x10 h) 1 4 + pick (flag 0x08 h) 1 0

unfoldable pub payload_len : List ℕ → ℕ
payload_len s =
    pick (flag 0x10 (get_or s 0 0)) (get_or s 2 0)
    (((get_or s 2 0 * 256 + get_or s 3 0) * 256 + get_or s 4 0) * 256 + get_or s 5 0)

unfoldable pub id_len : List ℕ → ℕ
id_len s = pick (flag 0x08 (get_or s 0 0)) (get_or s (pick (flag 0x10 (get_or s 0 0)) 3 6) 0) 0

-- Lengths of a tag image that holds one record, over unbounded numbers.
-- NFC Forum Type 5 Tag, capability container and TLV blocks; NDEF 1.0, section 3.2 (record layout), 3.2.4 (short record);
-- URI RTD 1.0, section 3.2; Text RTD 1.0, section 3.2.
--
--   sat n            == n as a caller gets it: past 64 bits, the largest 64-bit number
--   head_len p        == header, type length and payload length of a record with p bytes of payload: the length takes 1 byte or 4
--   record_len k p    == a record: its head, a type name of k bytes, p bytes of payload
--   block_len n       == what stands before n bytes in a block: its type, and the length in 1 byte or 3
--   image_len k p     == container (8), block, record, terminator (1)
--   uri_payload_len n     == the payload of a URI of n bytes: the prefix byte and the rest
--   text_payload_len n    == the payload of a text of n bytes: status, two letters of language, the text
use Rattle.std.specs.Prelude.{ℕ, ◌+◌, min, ltb, leb}
use Rattle.slices.specs.Pick.{pick}

abbrev pub sat : ℕ → ℕ
sat n = min n 0xffff_ffff_ffff_ffff

abbrev pub head_len : ℕ → ℕ
head_len p = pick (leb p 255) 3 6

unfoldable pub record_len : ℕ → ℕ → ℕ
record_len k p = head_len p + k + p

abbrev pub block_len : ℕ → ℕ
block_len n = pick (ltb n 255) 2 4

unfoldable pub image_len : ℕ → ℕ → ℕ
unfolding record_len
image_len k p = 8 + block_len (record_len k p) + record_len k p + 1

abbrev pub uri_payload_len : ℕ → ℕ
uri_payload_len n = n + 1

abbrev pub text_payload_len : ℕ → ℕ
text_payload_len n = n + 3

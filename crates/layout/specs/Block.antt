-- Blocks: what stands in a tag after its container, one after the other.
-- NFC Forum Type 5 Tag, TLV blocks (type, length, value); document 01, 'Bytes of an image (lib.rs)'.
--
--   block_length n   == a length in its shortest form: one byte below 255, else FF and two bytes, high byte first
--   message_head n   == what stands before a message of n bytes: type 03 and the length
--   message body    == the block that holds the message `body`
--   terminator      == FE, after which nothing counts
use Rattle.std.specs.Prelude.{List, [], ◌∷◌, ◌++◌, ℕ, length, ltb}
use Rattle.slices.specs.Pick.{pick}
use Rattle.slices.specs.Bytes.{be}

unfoldable pub block_length : ℕ → List ℕ
block_length n = pick (ltb n 255) (be 1 n) (0xFF ∷ be 2 n)

unfoldable pub message_head : ℕ → List ℕ
message_head n = 0x03 ∷ block_length n

unfoldable pub message : List ℕ → List ℕ
message body = message_head (length body) ++ body

abbrev pub terminator : List ℕ
terminator = 0xFE ∷ []

-- One block of what a phone wrote: its length, and what it is.
-- Document 01, 'Bytes from a phone'; NFC Forum Type 5 Tag, TLV blocks.
--
--   span at len             == the part of an image that begins at `at` and has len bytes
--   length_of len size      == the length len, in size bytes
--   tlv_length s            == the length that s, the bytes after a block's type, begins with, and how many bytes it takes: one, or FF and
--                             two more, high byte first; None where they are not all there
--   body_of s t from len    == the block s of type t whose len bytes begin at `from`: None where they run past s; type 03 is the message
--   on_length s t l         == the block s of type t, by its length
--   block_of s              == what stands at the front of the blocks s: nothing or FE, the end; 00, one byte; else a block with a length
use Rattle.std.specs.Prelude.{List, ℕ, ◌+◌, ◌*◌, length, get_or, drop, ltb, eqb, Option, Some, None}
use Rattle.slices.specs.Pick.{pick}
use Rattle.tlv.specs.declared.Span.{Span}
use Rattle.tlv.specs.declared.Length.{Length}
use Rattle.tlv.specs.declared.Block.{Block}
use Rattle.tlv.specs.declared.Block.TheVariants.{Over, Body, Stop}

abbrev pub span : ℕ → ℕ → Span
span at len = record { at = at; len = len }

abbrev pub length_of : ℕ → ℕ → Length
length_of len size = record { len = len; size = size }

unfoldable pub tlv_length : List ℕ → Option Length
tlv_length s =
    pick (eqb (length s) 0) None
    (pick (eqb (get_or s 0 0) 0xFF)
    (pick (ltb (length s) 3) None (Some (length_of (get_or s 1 0 * 256 + get_or s 2 0) 3)))
    (Some (length_of (get_or s 0 0) 1)))

unfoldable pub body_of : List ℕ → ℕ → ℕ → ℕ → Option Block
body_of s t from len =
    pick (ltb (length s) (from + len)) None
    (Some (pick (eqb t 0x03) (Body (span from len)) (Over (from + len))))

abbrev pub on_length : List ℕ → ℕ → Option Length → Option Block
on_length s t (Some l) = body_of s t (1 + l.size) l.len
on_length s t None = None

unfoldable pub block_of : List ℕ → Option Block
block_of s =
    pick (eqb (length s) 0) (Some Stop)
    (pick (eqb (get_or s 0 0) 0x00) (Some (Over 1))
    (pick (eqb (get_or s 0 0) 0xFE) (Some Stop)
    (on_length s (get_or s 0 0) (tlv_length (drop 1 s)))))

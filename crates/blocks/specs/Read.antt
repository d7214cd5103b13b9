-- Reading what a phone wrote: the container, the blocks after it, the message among them.
-- Document 01, 'Bytes from a phone'; NFC Forum Type 5 Tag, capability container and TLV blocks.
--
--   Read                    == what reading an image answers: where the message stands, or why there is none
--   found place len         == a message of len bytes at that place
--   on_block at b           == a walk's turn at `at`: on past a block that is stepped over, or the answer
--   message_from image at   == the message of the blocks from `at` on
--   e1_len third            == bytes of a container that begins with E1: eight where its third byte is 0, else four
--   container_len s         == bytes of the container: by its third byte after E1, eight after E2; any other is none
--   in_container image c    == the message of an image whose container is c; one not all there, or with the top two bits of byte 1 not
--                              01, is none
--   read_of image           == the message of an image
--   unread_number why       == document 01's number of a refusal: 11, 12, 13
--   number_of m             == document 01's number: that, and 0 where there is a message
use Rattle.std.specs.Prelude.{List, ℕ, ◌+◌, ◌-◌, ◌/◌, length, get_or, drop, ltb, eqb, Option, Some, None, Result, Ok, Err}
use Rattle.slices.specs.Pick.{pick}
use Rattle.slices.specs.Walk.{Next, more, done, walk}
use Rattle.tlv.specs.declared.Span.{Span}
use Rattle.tlv.specs.declared.Block.{Block}
use Rattle.tlv.specs.declared.Block.TheVariants.{Over, Body, Stop}
use Rattle.tlv.specs.Blocks.{span, block_of}
use Rattle.blocks.specs.declared.Unread.{Unread}
use Rattle.blocks.specs.declared.Unread.TheVariants.{NoContainer, NoMessage, Truncated}

abbrev pub Read : Type 0
Read = Result Span Unread

abbrev pub found : ℕ → ℕ → Read
found place len = Ok (span place len)

abbrev pub on_block : ℕ → Option Block → Next ℕ Read
on_block at (Some (Over n)) = more (at + n)
on_block at (Some (Body b)) = done (found (at + b.at) b.len)
on_block at (Some Stop) = done (Err NoMessage)
on_block at None = done (Err Truncated)

unfoldable pub message_from : List ℕ → ℕ → Read
message_from image at = walk (λ a. on_block a (block_of (drop a image))) (Err NoMessage) (λ a. length image - a) at

abbrev pub e1_len : ℕ → ℕ
e1_len third = pick (eqb third 0) 8 4

unfoldable pub container_len : List ℕ → Option ℕ
container_len s =
    pick (ltb (length s) 3) None
    (pick (eqb (get_or s 0 0) 0xE1) (Some (e1_len (get_or s 2 0)))
    (pick (eqb (get_or s 0 0) 0xE2) (Some 8) None))

abbrev pub in_container : List ℕ → Option ℕ → Read
in_container image (Some n) =
    pick (ltb (length image) n) (Err NoContainer)
    (pick (eqb (get_or image 1 0 / 64) 1) (message_from image n) (Err NoContainer))
in_container image None = Err NoContainer

unfoldable pub read_of : List ℕ → Read
read_of image = in_container image (container_len image)

abbrev pub unread_number : Unread → ℕ
unread_number NoContainer = 11
unread_number NoMessage = 12
unread_number Truncated = 13

abbrev pub number_of : Read → ℕ
number_of (Ok m) = 0
number_of (Err why) = unread_number why

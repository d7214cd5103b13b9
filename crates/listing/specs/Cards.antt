-- The bench cards of document 01 that are read, listed: each is what the definitions compute to.
--
--   Cards   == the cards' listings, a field each
--   cards   == they hold
use Rattle.std.specs.Prelude.{◌≡◌, refl, List, [], ◌∷◌, ◌++◌, ℕ}
use Rattle.slices.specs.Walk.{walk, walk_f}
use Rattle.tlv.specs.Blocks.{tlv_length, body_of, block_of}
use Rattle.blocks.specs.Read.{message_from, container_len, read_of}
use Rattle.heads.specs.Heads.{head_len, payload_len, id_len}
use Rattle.records.specs.Parse.{whole_of, parse_of}
use Rattle.pieces.specs.Parts.{part_of}
use Rattle.walk.specs.Step.{step_of}
use Rattle.walk.specs.Walked.{walked_from}
use Rattle.digits.specs.Text.{decimal_f, decimal, hex_of, type_word}
use Rattle.listing.specs.Listing.{record_line, record_lines, ok_line, refused_line, listed, of_message, listing_of}

-- the container of an image with an area of 8,184 bytes
abbrev container : List ℕ
container = 0xE2 ∷ 0x40 ∷ 0x00 ∷ 0x01 ∷ 0x00 ∷ 0x00 ∷ 0x03 ∷ 0xFF ∷ []

-- `ok 0`
abbrev none : List ℕ
none = 0x6F ∷ 0x6B ∷ 0x20 ∷ 0x30 ∷ 0x0A ∷ []

-- `refused 1`, and a second digit
abbrev refused : ℕ → List ℕ
refused d = 0x72 ∷ 0x65 ∷ 0x66 ∷ 0x75 ∷ 0x73 ∷ 0x65 ∷ 0x64 ∷ 0x20 ∷ 0x31 ∷ d ∷ 0x0A ∷ []

pub record Cards : Type 0 where
  -- `1 1 1 54 0 9`, then `ok 1`
  pub card1 : listing_of (container ++ (0x03 ∷ 0x0D ∷ 0xD1 ∷ 0x01 ∷ 0x09 ∷ 0x54 ∷ 0x02 ∷ 0x65 ∷ 0x6E ∷ 0x4D ∷ 0x41 ∷ 0x52 ∷ 0x43 ∷ 0x48 ∷ 0x31 ∷ 0xFE ∷ []))
      ≡ 0x31 ∷ 0x20 ∷ 0x31 ∷ 0x20 ∷ 0x31 ∷ 0x20 ∷ 0x35 ∷ 0x34 ∷ 0x20 ∷ 0x30 ∷ 0x20 ∷ 0x39 ∷ 0x0A ∷ 0x6F ∷ 0x6B ∷ 0x20 ∷ 0x31 ∷ 0x0A ∷ []
  pub card2 : listing_of (container ++ (0x03 ∷ 0x00 ∷ 0xFE ∷ [])) ≡ none
  pub card5 : listing_of (0xE1 ∷ 0x40 ∷ 0x01 ∷ 0x00 ∷ 0x03 ∷ 0x00 ∷ 0xFE ∷ []) ≡ none
  pub card5·more : listing_of (0xE1 ∷ 0x40 ∷ 0x00 ∷ 0x01 ∷ 0x00 ∷ 0x00 ∷ 0x03 ∷ 0xFF ∷ 0x03 ∷ 0x00 ∷ 0xFE ∷ []) ≡ none
  pub card6 : listing_of (0xE1 ∷ []) ≡ refused 0x31
  pub card6·alone : listing_of container ≡ refused 0x32
  pub card6·version : listing_of (0xE2 ∷ 0x80 ∷ 0x00 ∷ 0x01 ∷ 0x00 ∷ 0x00 ∷ 0x03 ∷ 0xFF ∷ []) ≡ refused 0x31
  pub card7 : listing_of (container ++ (0x03 ∷ 0x05 ∷ 0x00 ∷ 0x00 ∷ 0x00 ∷ 0x00 ∷ [])) ≡ refused 0x33
  pub card7·length : listing_of (container ++ (0x03 ∷ 0xFF ∷ 0x00 ∷ [])) ≡ refused 0x33
  pub card8 : listing_of (container ++ (0x03 ∷ 0x01 ∷ 0x20 ∷ 0xFE ∷ [])) ≡ refused 0x34

pub cards : Cards
unfolding walk walk_f tlv_length body_of block_of message_from container_len read_of head_len payload_len id_len whole_of parse_of part_of step_of walked_from decimal_f decimal hex_of type_word record_line record_lines ok_line refused_line listed of_message listing_of
cards = record {
  card1 = refl;
  card2 = refl;
  card5 = refl;
  card5·more = refl;
  card6 = refl;
  card6·alone = refl;
  card6·version = refl;
  card7 = refl;
  card7·length = refl;
  card8 = refl;
}

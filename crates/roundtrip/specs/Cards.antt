-- The bench cards of document 01, as one theorem about the definitions: each is what the definitions compute to.
--
--   Cards   == the cards, a field each (card 3 is `card3` and `card3·more`, and so on)
--   cards   == they hold
use Rattle.std.specs.Prelude.{◌≡◌, refl, Ok, Err, [], ◌∷◌, replicate}
use Rattle.slices.specs.Walk.{walk, walk_f}
use Rattle.slices.specs.Bytes.{be}
use Rattle.utf8.specs.Utf8.{table, fits, row_len, first_len, utf8_step, utf8}
use Rattle.layout.specs.Lengths.{record_len, image_len}
use Rattle.layout.specs.Container.{container}
use Rattle.layout.specs.Block.{block_length, message_head, message}
use Rattle.layout.specs.Record.{header, record_head, record_bytes}
use Rattle.layout.specs.Payload.{text_payload}
use Rattle.layout.specs.Image.{image_of, empty_image, text_image}
use Rattle.layout.specs.declared.refusal.Refusal.TheVariants.{TooLong, RecordTooLong}
use Rattle.blocks.specs.declared.Unread.TheVariants.{NoContainer, NoMessage, Truncated}
use Rattle.tlv.specs.Blocks.{tlv_length, body_of, block_of}
use Rattle.blocks.specs.Read.{found, message_from, container_len, read_of}
use Rattle.heads.specs.Heads.{head_len, payload_len, id_len}
use Rattle.records.specs.Parse.{whole_of, parse_of}
use Rattle.walk.specs.Step.{step_of}
use Rattle.walk.specs.Walked.{ended, chunked, listing, walked_from, walked}
use Rattle.judging.specs.Judge.{verdict, checks}
use Rattle.image.specs.Builds.{text_verdict}
use Rattle.empty.specs.Empty.{empty_verdict}
use Rattle.protocol.specs.Mark.{wipe_end, none}
use Rattle.protocol.specs.Write.{write_user}
use Rattle.protocol.specs.Trace.{trace}
use Rattle.protocol.specs.Cards.{row_sizes, obliging}
use Rattle.protocol.proofs.Theorems as session

pub record Cards : Type 0 where
  pub card1 : text_image 8184 (0x4D ∷ 0x41 ∷ 0x52 ∷ 0x43 ∷ 0x48 ∷ 0x31 ∷ []) ≡ 0xE2 ∷ 0x40 ∷ 0x00 ∷ 0x01 ∷ 0x00 ∷ 0x00 ∷ 0x03 ∷ 0xFF ∷ 0x03 ∷ 0x0D ∷ 0xD1 ∷ 0x01 ∷ 0x09 ∷ 0x54 ∷ 0x02 ∷ 0x65 ∷ 0x6E ∷ 0x4D ∷ 0x41 ∷ 0x52 ∷ 0x43 ∷ 0x48 ∷ 0x31 ∷ 0xFE ∷ []
  pub card1·fits : text_verdict 24 8184 (0x4D ∷ 0x41 ∷ 0x52 ∷ 0x43 ∷ 0x48 ∷ 0x31 ∷ []) ≡ Ok tt
  pub card1·room : text_verdict 23 8184 (0x4D ∷ 0x41 ∷ 0x52 ∷ 0x43 ∷ 0x48 ∷ 0x31 ∷ []) ≡ Err (TooLong 24 23)
  pub card2 : empty_image 8184 ≡ 0xE2 ∷ 0x40 ∷ 0x00 ∷ 0x01 ∷ 0x00 ∷ 0x00 ∷ 0x03 ∷ 0xFF ∷ 0x03 ∷ 0x00 ∷ 0xFE ∷ []
  pub card2·fits : empty_verdict 11 8184 ≡ Ok tt
  pub card2·room : empty_verdict 10 8184 ≡ Err (TooLong 11 10)
  pub card3 : (record_len 1 250 ≡ 254) × (image_len 1 250 ≡ 265) × (block_length 254 ≡ 0xFE ∷ [])
  pub card3·more : (record_len 1 251 ≡ 255) × (image_len 1 251 ≡ 268) × (block_length 255 ≡ 0xFF ∷ 0x00 ∷ 0xFF ∷ [])
  pub card4 : (record_len 1 255 ≡ 259) × (image_len 1 255 ≡ 272)
  pub card4·more : (record_len 1 256 ≡ 263) × (image_len 1 256 ≡ 276)
  pub card5 : (read_of (0xE1 ∷ 0x40 ∷ 0x01 ∷ 0x00 ∷ 0x03 ∷ 0x00 ∷ 0xFE ∷ []) ≡ found 6 0) × (walked (0xE1 ∷ 0x40 ∷ 0x01 ∷ 0x00 ∷ 0x03 ∷ 0x00 ∷ 0xFE ∷ []) 6 6 ≡ listing [] ended)
  pub card5·long : (read_of (0xE1 ∷ 0x40 ∷ 0x00 ∷ 0x01 ∷ 0x00 ∷ 0x00 ∷ 0x03 ∷ 0xFF ∷ 0x03 ∷ 0x00 ∷ 0xFE ∷ []) ≡ found 10 0) × (walked (0xE1 ∷ 0x40 ∷ 0x00 ∷ 0x01 ∷ 0x00 ∷ 0x00 ∷ 0x03 ∷ 0xFF ∷ 0x03 ∷ 0x00 ∷ 0xFE ∷ []) 10 10 ≡ listing [] ended)
  pub card6 : read_of (0xE1 ∷ []) ≡ Err NoContainer
  pub card6·alone : read_of (0xE2 ∷ 0x40 ∷ 0x00 ∷ 0x01 ∷ 0x00 ∷ 0x00 ∷ 0x03 ∷ 0xFF ∷ []) ≡ Err NoMessage
  pub card6·version : read_of (0xE2 ∷ 0x80 ∷ 0x00 ∷ 0x01 ∷ 0x00 ∷ 0x00 ∷ 0x03 ∷ 0xFF ∷ []) ≡ Err NoContainer
  pub card7 : read_of (0xE2 ∷ 0x40 ∷ 0x00 ∷ 0x01 ∷ 0x00 ∷ 0x00 ∷ 0x03 ∷ 0xFF ∷ 0x03 ∷ 0x05 ∷ 0x01 ∷ 0x02 ∷ 0x03 ∷ 0x04 ∷ []) ≡ Err Truncated
  pub card7·escape : read_of (0xE2 ∷ 0x40 ∷ 0x00 ∷ 0x01 ∷ 0x00 ∷ 0x00 ∷ 0x03 ∷ 0xFF ∷ 0x03 ∷ 0xFF ∷ 0x00 ∷ []) ≡ Err Truncated
  pub card8 : (read_of (0xE2 ∷ 0x40 ∷ 0x00 ∷ 0x01 ∷ 0x00 ∷ 0x00 ∷ 0x03 ∷ 0xFF ∷ 0x03 ∷ 0x01 ∷ 0x20 ∷ 0xFE ∷ []) ≡ found 10 1) × (walked (0xE2 ∷ 0x40 ∷ 0x00 ∷ 0x01 ∷ 0x00 ∷ 0x00 ∷ 0x03 ∷ 0xFF ∷ 0x03 ∷ 0x01 ∷ 0x20 ∷ 0xFE ∷ []) 10 11 ≡ listing [] chunked)
  pub card9 : row_sizes (trace (write_user none 10 (replicate 20 7)) obliging) ≡ 6 ∷ 14 ∷ []
  pub card10 : wipe_end 17 ≡ 32
  pub card11 : (record_len 1 65528 ≡ 65535) × (verdict (checks 65549 8184 1 65528) ≡ Ok tt)
  pub card11·more : verdict (checks 65549 8184 1 65529) ≡ Err (RecordTooLong 65536)

pub cards : Cards
unfolding walk walk_f be table fits row_len first_len utf8_step utf8 record_len image_len container block_length message_head message header record_head record_bytes text_payload image_of checks tlv_length body_of block_of message_from container_len read_of head_len payload_len id_len whole_of parse_of step_of walked_from
cards = record {
  card1 = refl;
  card1·fits = refl;
  card1·room = refl;
  card2 = refl;
  card2·fits = refl;
  card2·room = refl;
  card3 = (refl, refl, refl);
  card3·more = (refl, refl, refl);
  card4 = (refl, refl);
  card4·more = (refl, refl);
  card5 = (refl, refl);
  card5·long = (refl, refl);
  card6 = refl;
  card6·alone = refl;
  card6·version = refl;
  card7 = refl;
  card7·escape = refl;
  card8 = (refl, refl);
  card9 = (session.cards).nine;
  card10 = (session.cards).ten;
  card11 = (refl, refl);
  card11·more = refl;
}

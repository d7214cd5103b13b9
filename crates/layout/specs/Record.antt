-- A record, as bytes.
-- NFC Forum NDEF 1.0, section 3.2 (record layout) and 3.2.1 to 3.2.12 (its fields).
--
--   Fields                    == what a record says: begin (MB, 3.2.1) and last (ME, 3.2.2) of its message; short (SR, 3.2.4): its
--                                payload's length takes one byte; named (IL, 3.2.5): it has an id, with a length; its type name
--                                format (TNF, 3.2.6); its type name, id and payload
--   header b l s i format     == the first byte. The chunk flag (CF, 3.2.3) is clear: a record split in chunks is not built here
--   record_head b l s i f k p n == header, type length k, payload length p in one byte or four, id length n if there is an id
--   record_bytes r             == the head, then type name, id and payload
--   whole format kind payload == the fields of the one record of a message: no id, the short form where the payload allows it
use Rattle.std.specs.Prelude.{Bool, true, false, List, [], ◌∷◌, ◌++◌, ℕ, ◌+◌, length, leb}
use Rattle.slices.specs.Pick.{pick}
use Rattle.slices.specs.Bytes.{be}

pub record Fields : Type 0 where
  pub begin : Bool
  pub last : Bool
  pub short : Bool
  pub named : Bool
  pub format : ℕ
  pub kind : List ℕ
  pub id : List ℕ
  pub payload : List ℕ

unfoldable pub header : Bool → Bool → Bool → Bool → ℕ → ℕ
header begin last short named format = pick begin 0x80 0 + pick last 0x40 0 + pick short 0x10 0 + pick named 0x08 0 + format

unfoldable pub record_head : Bool → Bool → Bool → Bool → ℕ → ℕ → ℕ → ℕ → List ℕ
unfolding header
record_head begin last short named format k p n =
    header begin last short named format ∷ k ∷ be (pick short 1 4) p ++ pick named (n ∷ []) []

unfoldable pub record_bytes : Fields → List ℕ
unfolding record_head
record_bytes r =
    record_head r.begin r.last r.short r.named r.format (length r.kind) (length r.payload) (length r.id)
    ++ r.kind
    ++ r.id
    ++ r.payload

abbrev pub whole : ℕ → List ℕ → List ℕ → Fields
whole format kind payload =
    record {
      begin = true;
      last = true;
      short = leb (length payload) 255;
      named = false;
      format = format;
      kind = kind;
      id = [];
      payload = payload;
    }

-- Records as the document writes them, with no word of reading: `record_bytes r` of `layout` are the bytes of the fields r.
-- NFC Forum NDEF 1.0, section 3.2 (record layout), 3.2.1 to 3.2.12 (its fields and their sizes).
--
--   Bytes s           == every element of s is a byte
--   Allowed r         == the fields r have the sizes that a record allows: a format of three bits (3.2.6); lengths of the type name and
--                        of the id in a byte; the payload's length in one byte, or in four (3.2.4); no id where there is no flag for it
--   head_of r          == what stands before the type name of r
--   places_of r        == where the parts of r stand in its bytes
--   Begins s r rest   == s begins with a record of the allowed fields r, and `rest` follows
--   RecordAt s p      == s begins with a record whose places are p, and whose parts are the parts of s at those places
use Rattle.std.specs.Prelude.{◌≡◌, false, List, [], ◌++◌, ℕ, ◌<◌, ◌^◌, length, get_or}
use Rattle.slices.specs.Pick.{pick}
use Rattle.layout.specs.Record.{Fields, record_head, record_bytes}
use Rattle.records.specs.declared.Record.{Record}
use Rattle.pieces.specs.Parts.{kind_of, id_of, payload_of}

abbrev pub Bytes : List ℕ → Type 0
Bytes s = (k : ℕ) → get_or s k 0 < 256

pub record Allowed (r : Fields) : Type 0 where
  pub format-fits : r.format < 8
  pub kind_fits : length r.kind < 256
  pub id-fits : length r.id < 256
  pub payload-fits : length r.payload < pick r.short 256 (2 ^ 32)
  pub unnamed : r.named ≡ false → r.id ≡ []

abbrev pub head_of : Fields → List ℕ
head_of r =
    record_head r.begin r.last r.short r.named r.format (length r.kind) (length r.payload) (length r.id)

abbrev pub places_of : Fields → Record
places_of r =
    record {
      format = r.format;
      last = r.last;
      kind = length (head_of r);
      kind_len = length r.kind;
      id_len = length r.id;
      payload_len = length r.payload;
    }

pub record Begins (s : List ℕ) (r : Fields) (rest : List ℕ) : Type 0 where
  pub allowed : Allowed r
  pub bytes : s ≡ record_bytes r ++ rest

pub record RecordAt (s : List ℕ) (p : Record) : Type 0 where
  pub fields : Fields
  pub rest : List ℕ
  pub begins : Begins s fields rest
  pub places : p ≡ places_of fields
  pub kind-part : kind_of s p ≡ fields.kind
  pub id-part : id_of s p ≡ fields.id
  pub payload-part : payload_of s p ≡ fields.payload

-- The parts of a record in an image.
-- Document 01, 'What must change shape': a part is empty if outside the image. That a part is never clipped, so that one which is only
-- partly inside is empty too, is our decision (docs/DECISIONS.md, 13).
-- NFC Forum NDEF 1.0, section 3.2 (type, id and payload stand in this order), 3.2.6 (format 1: a well-known type).
--
--   part_of s at len              == the len bytes of s at `at`, if they are all there; else none
--   kind_of, id_of, payload_of s r  == type name, id and payload of the record r in s, one after the other
--   one_byte s b                  == s is the one byte b
--   is_of s r name                == r is of format 1, and its type name is the one byte `name`
use Rattle.std.specs.Prelude.{List, [], ◌∷◌, Bool, false, ℕ, ◌+◌, length, take, drop, leb, eqb}
use Rattle.slices.specs.Pick.{pick}
use Rattle.records.specs.declared.Record.{Record}

unfoldable pub part_of : List ℕ → ℕ → ℕ → List ℕ
part_of s at len = pick (leb (at + len) (length s)) (take len (drop at s)) []

abbrev pub kind_of : List ℕ → Record → List ℕ
kind_of s r = part_of s r.kind r.kind_len

abbrev pub id_of : List ℕ → Record → List ℕ
id_of s r = part_of s (r.kind + r.kind_len) r.id_len

abbrev pub payload_of : List ℕ → Record → List ℕ
payload_of s r = part_of s (r.kind + r.kind_len + r.id_len) r.payload_len

abbrev pub one_byte : List ℕ → ℕ → Bool
one_byte [] b = false
one_byte (x ∷ []) b = eqb x b
one_byte (x ∷ y ∷ s) b = false

unfoldable pub is_of : List ℕ → Record → ℕ → Bool
is_of s r name = pick (eqb r.format 1) (one_byte (kind_of s r) name) false

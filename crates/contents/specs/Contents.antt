-- What a text record says. Document 01, 'Bytes from a phone' (Text); NFC Forum Text RTD 1.0, section 3.2.
--
--   payload_at r     == the place of a record's payload
--   text_in p at     == the text in the payload p, which stands at `at`: the first byte's top bit is clear (UTF-8), its low six bits,
--                      the language code's length, are at most the bytes that follow, and the remainder is UTF-8
--   text_of s r      == the text of the record r in the image s: format 1, type exactly "T"
use Rattle.std.specs.Prelude.{List, [], ◌∷◌, ℕ, ◌+◌, ◌-◌, ◌%◌, length, drop, leb, ltb, Option, Some, None}
use Rattle.slices.specs.Pick.{pick}
use Rattle.utf8.specs.Utf8.{utf8}
use Rattle.records.specs.declared.Record.{Record}
use Rattle.pieces.specs.Parts.{payload_of, is_of}
use Rattle.tlv.specs.declared.Span.{Span}
use Rattle.tlv.specs.Blocks.{span}

abbrev pub payload_at : Record → ℕ
payload_at r = r.kind + r.kind_len + r.id_len

unfoldable pub text_in : List ℕ → ℕ → Option Span
text_in [] at = None
text_in (status ∷ rest) at =
    pick (ltb status 128)
    (pick (leb (status % 64) (length rest))
    (pick (utf8 (drop (status % 64) rest)) (Some (span (at + (status % 64 + 1)) (length rest - status % 64))) None)
    None)
    None

unfoldable pub text_of : List ℕ → Record → Option Span
text_of s r = pick (is_of s r 0x54) (text_in (payload_of s r) (payload_at r)) None

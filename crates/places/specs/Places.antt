-- The parts of a record by their places.
-- Document 01, 'What must change shape': a part is empty if outside the image. That a part is never clipped, so that one which is only
-- partly inside is none, is our decision (docs/DECISIONS.md, 13).
--
--   part_at s at len                  == the len bytes of s at `at`, if they are all there: their place and length
--   kind_part, id_part, payload_part s r == type name, id and payload of the record r in s, one after the other
--   part_number p                     == 1 where there is a part, else 0
--   part_numbers p                    == its place and length, else zeros
use Rattle.std.specs.Prelude.{List, [], ◌∷◌, ℕ, ◌+◌, length, replicate, leb, Option, Some, None}
use Rattle.slices.specs.Pick.{pick}
use Rattle.records.specs.declared.Record.{Record}
use Rattle.contents.specs.Contents.{payload_at}
use Rattle.tlv.specs.declared.Span.{Span}
use Rattle.tlv.specs.Blocks.{span}

unfoldable pub part_at : List ℕ → ℕ → ℕ → Option Span
part_at s at len = pick (leb (at + len) (length s)) (Some (span at len)) None

abbrev pub kind_part : List ℕ → Record → Option Span
kind_part s r = part_at s r.kind r.kind_len

abbrev pub id_part : List ℕ → Record → Option Span
id_part s r = part_at s (r.kind + r.kind_len) r.id_len

abbrev pub payload_part : List ℕ → Record → Option Span
payload_part s r = part_at s (payload_at r) r.payload_len

abbrev pub part_number : Option Span → ℕ
part_number (Some p) = 1
part_number None = 0

abbrev pub part_numbers : Option Span → List ℕ
part_numbers (Some p) = p.at ∷ p.len ∷ []
part_numbers None = replicate 2 0

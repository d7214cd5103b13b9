-- A cursor, and a step of it.
-- Document 01, 'Bytes from a phone' (walking stops after the record with flag 40, after a refusal, or quietly when no bytes remain)
-- and 'What must change shape' (a cursor outside the image is at its end).
--
--   Entry                 == what stands at a cursor: a record, nothing at the end, or why no record stands there
--   start_of m            == the cursor at the first record of the message m; where there is none, a cursor at its end
--   stop e end           == a step that finds e and ends the walk
--   shift by r           == the record r, its places `by` bytes further on
--   record_at at end r    == the record r of the bytes from `at` on, and the place after it: the end where it is the last
--   on_parsed at end p    == the step at `at`, by what stands at the front of the bytes there; after a refusal, the end
--   left s at end        == the bytes from `at` to the message's end
--   step_of s at end      == what stands at a cursor of the image s, and the next place
--   number_of e           == document 01's number: 13, 14, and 0 for a record and for the end
use Rattle.std.specs.Prelude.{List, ℕ, ◌+◌, ◌-◌, length, take, drop, leb, ltb, Option, Some, None, Result, Ok, Err}
use Rattle.slices.specs.Pick.{pick}
use Rattle.layout.specs.Lengths.{sat}
use Rattle.tlv.specs.declared.Span.{Span}
use Rattle.blocks.specs.declared.Unread.{Unread}
use Rattle.records.specs.declared.Record.{Record}
use Rattle.records.specs.declared.Malformed.{Malformed}
use Rattle.records.specs.Parse.{parse_of, end_of, malformed_number}
use Rattle.walk.specs.declared.Cursor.{Cursor}
use Rattle.walk.specs.declared.Stepped.{Stepped}

abbrev pub Entry : Type 0
Entry = Result (Option Record) Malformed

abbrev pub start_of : Result Span Unread → Cursor
start_of (Ok m) = record { at = m.at; end = sat (m.at + m.len) }
start_of (Err why) = record { at = 0; end = 0 }

abbrev pub stop : Entry → ℕ → Stepped
stop e end = record { entry = e; next = end }

abbrev pub shift : ℕ → Record → Record
shift by r =
    record {
      format = r.format;
      last = r.last;
      kind = by + r.kind;
      kind_len = r.kind_len;
      id_len = r.id_len;
      payload_len = r.payload_len;
    }

abbrev pub record_at : ℕ → ℕ → Record → Stepped
record_at at end r =
    record {
      entry = Ok (Some (shift at r));
      next = pick r.last end (at + end_of r);
    }

abbrev pub on_parsed : ℕ → ℕ → Result Record Malformed → Stepped
on_parsed at end (Ok r) = record_at at end r
on_parsed at end (Err why) = stop (Err why) end

abbrev pub left : List ℕ → ℕ → ℕ → List ℕ
left s at end = take (end - at) (drop at s)

unfoldable pub step_of : List ℕ → ℕ → ℕ → Stepped
step_of s at end =
    pick (ltb (length s) end) (stop (Ok None) end) (pick (leb end at) (stop (Ok None) end) (on_parsed at end (parse_of (left s at end))))

abbrev pub number_of : Entry → ℕ
number_of (Ok found) = 0
number_of (Err why) = malformed_number why

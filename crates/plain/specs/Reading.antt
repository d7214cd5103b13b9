-- A cursor and a record's places as plain numbers. Document 01, 'What must change shape' and 'Bytes from a phone'.
--
--   cursor_numbers c   == a cursor as two numbers: where the next record begins, where the message ends
--   cursor_of l        == the cursor that two numbers say
--   yes b             == 1 for true, 0 for false
--   places_of r        == a record as six numbers: its format, 1 or 0 for the last, and its four places
--   record_of l        == the record that six numbers say: any `last` but 0 is the last, a format over 255 is none that a record has
--   entry_number e     == what stands at a cursor: 0 for a record, document 01's 13 or 14, 255 at the end
--   entry_places e     == the record's six numbers, zeros where there is none
use Rattle.std.specs.Prelude.{Bool, not, List, [], ◌∷◌, ℕ, min, get_or, replicate, eqb, Some, None, Ok, Err}
use Rattle.slices.specs.Pick.{pick}
use Rattle.records.specs.declared.Record.{Record}
use Rattle.records.specs.Parse.{malformed_number}
use Rattle.walk.specs.declared.Cursor.{Cursor}
use Rattle.walk.specs.Step.{Entry}

abbrev pub cursor_numbers : Cursor → List ℕ
cursor_numbers c = c.at ∷ c.end ∷ []

abbrev pub cursor_of : List ℕ → Cursor
cursor_of l = record { at = get_or l 0 0; end = get_or l 1 0 }

abbrev pub yes : Bool → ℕ
yes b = pick b 1 0

abbrev pub places_of : Record → List ℕ
places_of r = r.format ∷ pick r.last 1 0 ∷ r.kind ∷ r.kind_len ∷ r.id_len ∷ r.payload_len ∷ []

abbrev pub record_of : List ℕ → Record
record_of l =
    record {
      format = min (get_or l 0 0) 255;
      last = not (eqb (get_or l 1 0) 0);
      kind = get_or l 2 0;
      kind_len = get_or l 3 0;
      id_len = get_or l 4 0;
      payload_len = get_or l 5 0;
    }

abbrev pub entry_number : Entry → ℕ
entry_number (Ok (Some r)) = 0
entry_number (Ok None) = 255
entry_number (Err why) = malformed_number why

abbrev pub entry_places : Entry → List ℕ
entry_places (Ok (Some r)) = places_of r
entry_places (Ok None) = replicate 6 0
entry_places (Err why) = replicate 6 0

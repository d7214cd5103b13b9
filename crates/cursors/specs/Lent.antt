-- A cursor that moves on.
-- Document 01, 'Bytes from a phone' and 'What must change shape'.
--
--   entry_of s c          == what stands at the cursor c
--   moved s c            == the cursor c, moved on
use Rattle.std.specs.Prelude.{List, ℕ}
use Rattle.walk.specs.declared.Cursor.{Cursor}
use Rattle.walk.specs.Step.{Entry, step_of}

abbrev pub entry_of : List ℕ → Cursor → Entry
entry_of s c = (step_of s c.at c.end).entry

abbrev pub moved : List ℕ → Cursor → Cursor
moved s c = record { at = (step_of s c.at c.end).next; end = c.end }

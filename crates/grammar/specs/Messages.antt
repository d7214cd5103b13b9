-- A message as the documents write it, with no word of a cursor: records one after the other, and how they end.
-- NFC Forum NDEF 1.0, section 2.3.1 (message) and 3.2 (record layout); document 01, 'Bytes from a phone'.
--
--   Message rs e s     == the bytes s are a message of the fields rs, one record after the other, and it ends as e says: with no bytes
--                         left, or with the record that has flag 40, whatever follows it; refused at bytes that begin with the chunk
--                         flag, or at bytes that begin with no record
--   places_from at rs   == the places of the records rs, the first of which begins at `at`
--   listed at rs e     == the walk that finds those records and ends so
--   Lists at w s       == the walk w, from `at` on, lists the records of a message whose bytes are s, and ends as it does
use Rattle.std.specs.Prelude.{◌≡◌, true, false, List, [], ◌∷◌, ◌++◌, ℕ, ◌+◌, ◌<◌, length, get_or}
use Rattle.layout.specs.Record.{Fields, record_bytes}
use Rattle.records.specs.declared.Record.{Record}
use Rattle.heads.specs.Heads.{flag}
use Rattle.grammar.specs.Records.{Allowed, Begins, places_of}
use Rattle.walk.specs.Step.{shift}
use Rattle.walk.specs.Walked.{Ending, ended, truncated, chunked, Walked, listing}

pub data Message : List Fields → Ending → List ℕ → Type 0 where
  no_bytes : Message [] ended []
  last : {r : Fields} (rest : List ℕ) → Allowed r → r.last ≡ true → Message (r ∷ []) ended (record_bytes r ++ rest)
  more : {r : Fields} {rs : List Fields} {e : Ending} {s : List ℕ} → Allowed r → r.last ≡ false → Message rs e s → Message (r ∷ rs) e (record_bytes r ++ s)
  in_chunks : {s : List ℕ} → 0 < length s → flag 0x20 (get_or s 0 0) ≡ true → Message [] chunked s
  cut_short : {s : List ℕ} → 0 < length s → flag 0x20 (get_or s 0 0) ≡ false → ((r : Fields) (rest : List ℕ) → Begins s r rest → ⊥) → Message [] truncated s

abbrev pub places_from : ℕ → List Fields → List Record
places_from at [] = []
places_from at (r ∷ rs) = shift at (places_of r) ∷ places_from (at + length (record_bytes r)) rs

abbrev pub listed : ℕ → List Fields → Ending → Walked
listed at rs e = listing (places_from at rs) e

pub record Lists (at : ℕ) (w : Walked) (s : List ℕ) : Type 0 where
  pub fields : List Fields
  pub written : Message fields w.ending s
  pub places : w.records ≡ places_from at fields

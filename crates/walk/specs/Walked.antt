-- The walk as a list: the records of a message in their order, and how the walk ended.
-- Document 01, 'Bytes from a phone'.
--
--   Ending               == the end of the message, or a refusal
--   ending_number e       == document 01's number: 0 at the end, else 13 or 14
--   ending_of why         == a walk that is refused so
--   Walked               == the records, and how the walk ended
--   before rs w          == the records rs, and then the walk w
--   listing rs e         == the records rs, and the ending e
--   Turn                 == a place, and the records before it
--   on_entry next rs e    == a turn that found e after the records rs: on to the next place, or the end
--   turn s end t         == a turn from t: one record more and the next place, or the end
--   walked_from s end t   == the walk from t
--   walked s at end      == the records of the image s from `at` to `end`
--   on_step e w           == the walk by its first entry e: a record and then the walk w, or the end
--
-- `Walked-step`, in proofs/Walks, is the equation that a reader expects: the cursor's step, and then the walk from the next place.
use Rattle.std.specs.Prelude.{List, [], ◌∷◌, ◌++◌, ℕ, ◌-◌, Some, None, Ok, Err}
use Rattle.slices.specs.Walk.{Next, more, done, walk}
use Rattle.records.specs.declared.Record.{Record}
use Rattle.records.specs.declared.Malformed.{Malformed}
use Rattle.records.specs.declared.Malformed.TheVariants.{Truncated, Chunked}
use Rattle.walk.specs.Step.{Entry, step_of}

pub data Ending : Type 0 where
  ended : Ending
  truncated : Ending
  chunked : Ending

abbrev pub ending_number : Ending → ℕ
ending_number ended = 0
ending_number truncated = 13
ending_number chunked = 14

abbrev pub ending_of : Malformed → Ending
ending_of Truncated = truncated
ending_of Chunked = chunked

pub record Walked : Type 0 where
  pub records : List Record
  pub ending : Ending

abbrev pub before : List Record → Walked → Walked
before rs w = record { records = rs ++ w.records; ending = w.ending }

abbrev pub listing : List Record → Ending → Walked
listing rs e = record { records = rs; ending = e }

-- a turn's place and the records so far
pub record Turn : Type 0 where
  pub place : ℕ
  pub so_far : List Record

abbrev pub on_entry : ℕ → List Record → Entry → Next Turn Walked
on_entry next rs (Ok (Some r)) = more (record { place = next; so_far = rs ++ (r ∷ []) })
on_entry next rs (Ok None) = done (listing rs ended)
on_entry next rs (Err why) = done (listing rs (ending_of why))

abbrev pub turn : List ℕ → ℕ → Turn → Next Turn Walked
turn s end t = on_entry (step_of s t.place end).next t.so_far (step_of s t.place end).entry

unfoldable pub walked_from : List ℕ → ℕ → Turn → Walked
walked_from s end t = walk (turn s end) (listing [] ended) (λ u. end - u.place) t

abbrev pub walked : List ℕ → ℕ → ℕ → Walked
walked s at end = walked_from s end (record { place = at; so_far = [] })

abbrev pub on_step : Entry → Walked → Walked
on_step (Ok (Some r)) w = before (r ∷ []) w
on_step (Ok None) w = listing [] ended
on_step (Err why) w = listing [] (ending_of why)

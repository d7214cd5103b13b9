-- Document 01's numbers and values for a refused build.
--
--   number_of why    == 1 to 5
--   values_of why    == what the number carries: needed and room with 2, the record's length with 3
--   verdict_number v == 0 where the build goes on, else the refusal's number
use Rattle.std.specs.Prelude.{List, [], ◌∷◌, ℕ, Result, Ok, Err}
use Rattle.layout.specs.declared.refusal.Refusal.{Refusal}
use Rattle.layout.specs.declared.refusal.Refusal.TheVariants.{TypeTooLong, TooLong, RecordTooLong, AreaTooBig, NotUtf8}

abbrev pub number_of : Refusal → ℕ
number_of TypeTooLong = 1
number_of (TooLong needed room) = 2
number_of (RecordTooLong len) = 3
number_of AreaTooBig = 4
number_of NotUtf8 = 5

abbrev pub values_of : Refusal → List ℕ
values_of TypeTooLong = []
values_of (TooLong needed room) = needed ∷ room ∷ []
values_of (RecordTooLong len) = len ∷ []
values_of AreaTooBig = []
values_of NotUtf8 = []

abbrev pub verdict_number : {A : Type 0} → Result A Refusal → ℕ
verdict_number (Ok given) = 0
verdict_number (Err why) = number_of why

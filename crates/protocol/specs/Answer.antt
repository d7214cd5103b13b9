-- What a call answers. Source: tag.rs, `TagError`; document 01, 'Numbers a caller gets', 21 to 26.
--
--   error_number e    == the number of a refusal
--   answer_number a   == the number of an answer: 0 where the call did what was asked
--   answer_value a    == the value beside it: 1 where `rf_wrote` says yes, else 0
--   Progress S        == where a reply leads a machine whose states are S: on, to its end, or to a refusal
use Rattle.std.specs.Prelude.{ℕ, true, false, Result, Ok, Err, Option}
use Rattle.protocol.specs.declared.answer.TagError.{TagError}
use Rattle.protocol.specs.declared.answer.TagError.TheVariants.{NoAnswer, NotThePart, Busy, Refused, RfStuck, NotTaken}
use Rattle.protocol.specs.declared.answer.Answer.{Answer}
use Rattle.protocol.specs.declared.answer.Answer.TheVariants.{Done, Wrote}

abbrev pub error_number : TagError → ℕ
error_number NoAnswer = 21
error_number NotThePart = 22
error_number Busy = 23
error_number Refused = 24
error_number RfStuck = 25
error_number NotTaken = 26

abbrev pub answer_number : Result Answer TagError → ℕ
answer_number (Ok a) = 0
answer_number (Err e) = error_number e

abbrev pub answer_value : Result Answer TagError → ℕ
answer_value (Ok Done) = 0
answer_value (Ok (Wrote true)) = 1
answer_value (Ok (Wrote false)) = 0
answer_value (Err e) = 0

abbrev pub Progress : Type 0 → Type 0
Progress S = Result (Option S) TagError

-- How many rows a reply counts. Source: document 01, the paragraph 'Added' of 'A session's transfers (tag.rs)'. That the stage tells it,
-- with no trace kept, is how the code is arranged: `counts_rows` (kept/proofs/Theorems) proves it equal to what the trace counts.
--
--   asks_row a          == the transfer is a row write
--   WriteRow w b, StageRow st b == whether a write, or a stage, waits on one: however many bytes were lent to the call
--   StageCount st ack k == k is what the reply counts
use Rattle.std.specs.Prelude.{◌≡◌, Bool, true, false, ℕ}
use Rattle.machine.specs.declared.ask.Ask.{Ask}
use Rattle.machine.specs.declared.ask.Ask.TheVariants as A
use Rattle.writing.specs.Write.{write_ask}
use Rattle.writing.specs.declared.write.Write.{Write}
use Rattle.stages.specs.Turns.{stage_ask}
use Rattle.stages.specs.declared.stage.Stage.{Stage}
use Rattle.session.specs.Steps.{counted}

abbrev pub asks_row : Ask → Bool
asks_row (A.Address dev) = false
asks_row (A.Byte dev at value) = false
asks_row A.Password = false
asks_row (A.Zeros at) = true
asks_row (A.Row at from n) = true
asks_row (A.Read dev at n) = false
asks_row (A.Delay ms) = false

abbrev pub WriteRow : Write → Bool → Type 0
WriteRow w b = (n : ℕ) → b ≡ asks_row (write_ask n w)

abbrev pub StageRow : Stage → Bool → Type 0
StageRow st b = (n : ℕ) → b ≡ asks_row (stage_ask n st)

abbrev pub StageCount : Stage → Bool → ℕ → Type 0
StageCount st ack k = (n : ℕ) → k ≡ counted (stage_ask n st) ack

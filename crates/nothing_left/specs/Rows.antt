-- Which rows a call programs. Source: document 01, `scrub`: it programs exactly the non-zero rows below the rounded mark.
--
--   row_at e                 == the place of an acknowledged row write, or nothing
--   programmed es           == the places of those among the exchanges es, in their order
--   non_zero_rows n at bs     == the places of those of the n rows from `at` that are not zero
--   Exact m p o             == a wipe of the part p with the mark at m came to o: exactly the non-zero rows below the rounded mark were
--                              programmed, from the first to the last, and reported; the bytes below it are zero, the others as before
use Rattle.std.specs.Prelude.{◌≡◌, ◌&&◌, List, [], ◌∷◌, ◌++◌, ℕ, zero, suc, ◌+◌, ◌/◌, ◌≤◌, ◌<◌, length, get_or, take, drop, Ok}
use Rattle.scan.specs.Rows.{row}
use Rattle.scan.specs.Zeros.{blank}
use Rattle.protocol.specs.Transfer.{sent, is_row, place_of}
use Rattle.protocol.specs.Tag.{user, user_memory}
use Rattle.protocol.specs.Mark.{Mark, none, wipe_end}
use Rattle.protocol.specs.Trace.{Exchange}
use Rattle.protocol.specs.Proc.{when◌then◌else◌}
use Rattle.protocol.specs.declared.answer.Answer.TheVariants.{Done}
use Rattle.part.specs.Part.{Part}
use Rattle.nothing_left.specs.Runs.{Outcome}

abbrev pub row_at : Exchange → List ℕ
row_at e = when is_row user user_memory e.transfer && e.reply.ack then place_of (sent e.transfer) ∷ [] else []

abbrev pub programmed : List Exchange → List ℕ
programmed [] = []
programmed (e ∷ es) = row_at e ++ programmed es

abbrev pub non_zero_rows : ℕ → ℕ → List ℕ → List ℕ
non_zero_rows zero at bs = []
non_zero_rows (suc n) at bs = (when blank (take row (drop at bs)) then [] else at ∷ []) ++ non_zero_rows n (at + row) bs

pub record Exact (m : Mark) (p : Part) (o : Outcome) : Type 0 where
  pub answer : o.end.answer ≡ Ok Done
  pub mark : o.end.mark ≡ none
  pub rows : programmed o.passed ≡ non_zero_rows (wipe_end m / row) 0 p.memory
  pub report : o.end.report.rows ≡ length (non_zero_rows (wipe_end m / row) 0 p.memory)
  pub below : (i : ℕ) → i < wipe_end m → get_or o.part.memory i 0 ≡ 0
  pub above : (i : ℕ) → wipe_end m ≤ i → get_or o.part.memory i 0 ≡ get_or p.memory i 0

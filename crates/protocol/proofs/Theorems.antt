-- What holds of the calls, whatever the part replies.
use mathlib.Core.Path.{◌≡◌, refl, ap, ◌∙◌}
use Prim.Native.Nat.{◌≤◌}
use lib.ListN.{length}
use native.Mathlib.Omega.{arith}
use Rattle.protocol.specs.Mark.{Mark, wipe_end, none, widened}
use Rattle.protocol.specs.Proc.{done}
use Rattle.protocol.specs.Call.{Call}
use Rattle.protocol.specs.Call as call
use Rattle.protocol.specs.Calls.{call_of, plain}
use Rattle.protocol.specs.Write.{write_user}
use Rattle.protocol.specs.Scrub as s
use Rattle.protocol.specs.Trace.{Replies, trace, rest, answer_of, transfers, rows_in, nothing, talk, end_of}
use Rattle.protocol.specs.Bound.{AtMost, Every, OneRow}
use Rattle.protocol.specs.Cards.{Cards}
use Rattle.protocol.proofs.Runs as runs
use Rattle.protocol.proofs.Bounds.{most_counted, most_bind, most_scrub}
use Rattle.protocol.proofs.OneRows.{each_every, each_call}
use Rattle.scan.specs.Rows.{row_len, row_count}

-- every call ends, after as many replies as its trace has exchanges
pub ends : (c : Call) (m : Mark) (ρ : Replies) → rest (length (trace (call_of c m) ρ)) (call_of c m) ρ ≡ done (answer_of (call_of c m) ρ)
ends c m ρ = runs.ends (call_of c m) ρ

-- the rows that are reported are the acknowledged row writes of the trace
pub rows : (c : Call) (m : Mark) (ρ : Replies) → (end_of (talk m nothing (call_of c m)) ρ).report.rows ≡ rows_in (trace (call_of c m) ρ)
rows c m ρ =
    ap (λ e. e.report.rows) (runs.seen (call_of c m) m nothing ρ) ∙ runs.rows-counted (trace (call_of c m) ρ) nothing ∙ omega arith

-- the wipe makes at most 51,968 transfers, delays not counted
pub scrub-transfers : (m : Mark) (ρ : Replies) → transfers (trace (call_of call.scrub m) ρ) ≤ 51968
unfolding AtMost
scrub-transfers m ρ = most_counted 51968 (call_of call.scrub m) (most_bind 51968 0 (s.scrub m) _ (most_scrub m) answers) ρ
  where
    answers : (r : _) → AtMost 0 (done (plain r))
    answers r = tt

-- no row write of any call touches two rows
pub never_two_rows : (c : Call) (m : Mark) (ρ : Replies) → Every OneRow (trace (call_of c m) ρ)
never_two_rows c m ρ = each_every OneRow (call_of c m) (each_call c m) ρ

-- bench cards 9 and 10
pub cards : Cards
unfolding write_user wipe_end none widened row_len row_count
cards = record { nine = refl; ten = refl }

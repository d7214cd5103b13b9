-- What a session does, whatever is replied.
use mathlib.Core.Path.{subst}
use Rattle.protocol.specs.Mark.{Mark}
use Rattle.protocol.specs.Call.{Call}
use Rattle.protocol.specs.Calls.{call_of}
use Rattle.protocol.specs.Trace.{Replies, trace, answer_of, mark_of, nothing, report_on, End}
use Rattle.protocol.proofs.Runs.{seen}
use Rattle.stages.specs.Turns.{start_of, lent_to}
use Rattle.runs.specs.Runs.{Runs}
use Rattle.runs.proofs.Bridge.{session_starts}
use Rattle.runs.proofs.Drive.{runs_along}

-- Every call, from every mark, with any replies whatever: the session asks for exactly the transfers of the definition's trace,
-- and ends with its answer, its mark and the report over that trace.
pub session_runs : (c : Call) (m : Mark) (ρ : Replies)
    → Runs (lent_to c) nothing (start_of c m) ρ (trace (call_of c m) ρ)
    (record { answer = answer_of (call_of c m) ρ; mark = mark_of m (call_of c m) ρ; report = report_on nothing (trace (call_of c m) ρ) })
session_runs c m ρ =
    subst (λ (e : End). Runs (lent_to c) nothing (start_of c m) ρ (trace (call_of c m) ρ) e) (seen (call_of c m) m nothing ρ)
    (runs_along (lent_to c) (call_of c m) m nothing (start_of c m) ρ (session_starts c m nothing))

-- Laws of runs: a call ends, and what its host sees at the end is its answer, its mark, and the report over its trace.
use mathlib.Core.Path.{◌≡◌, refl}
use mathlib.Core.List.{List, [], ◌∷◌}
use Prim.Native.Nat.{◌+◌}
use native.Mathlib.Omega.{arith}
use lib.ListN.{length}
use Rattle.std.specs.Prelude.{Result}
use Rattle.protocol.specs.Mark.{Mark}
use Rattle.protocol.specs.Proc.{Proc, done, ask, mark}
use Rattle.protocol.specs.Trace.{Replies, later, Exchange, trace, rest, answer_of, mark_of, rows_in, Report, noted, report_on, talk, end_of}
use Rattle.protocol.specs.declared.answer.TagError.{TagError}
use Rattle.protocol.specs.declared.answer.Answer.{Answer}

-- after as many replies as its trace has, a procedure has answered
pub ends : {A : Type 0} (p : Proc A) (ρ : Replies) → rest (length (trace p ρ)) p ρ ≡ done (answer_of p ρ)
ends (done a) ρ = refl
ends (ask t k) ρ = ends (k (ρ 0)) (later ρ)
ends (mark m p) ρ = ends p ρ

-- what the host sees at the end
pub seen : (p : Proc (Result Answer TagError)) (m : Mark) (r : Report) (ρ : Replies)
    → end_of (talk m r p) ρ ≡ record { answer = answer_of p ρ; mark = mark_of m p ρ; report = report_on r (trace p ρ) }
seen (done a) m r ρ = refl
seen (ask t k) m r ρ = seen (k (ρ 0)) m (noted r (record { transfer = t; reply = ρ 0 })) (later ρ)
seen (mark n p) m r ρ = seen p n r ρ

-- the report's rows are the acknowledged row writes
pub rows-counted : (es : List Exchange) (r : Report) → (report_on r es).rows ≡ r.rows + rows_in es
rows-counted [] r = omega arith
rows-counted (e ∷ es) r = let i = rows-counted es (noted r e) in omega arith

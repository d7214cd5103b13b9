-- A host drives a session: it sends what is asked for, and gives the replies. Source: document 01, 'A session's transfers (tag.rs)', last
-- paragraph. `session_runs` (proofs/Theorems): every call runs so, whatever is replied, and as protocol's tree does.
--
--   Runs lent r t ρ es end   == from the turn t and the report r, with the replies ρ, the exchanges are es and the call ends as `end`
use Rattle.std.specs.Prelude.{◌≡◌, List, [], ◌∷◌, ℕ, length, Result}
use Rattle.protocol.specs.Transfer.{Transfer}
use Rattle.protocol.specs.Mark.{Mark}
use Rattle.protocol.specs.Trace.{Replies, later, Exchange, Report, noted, End}
use Rattle.protocol.specs.declared.answer.TagError.{TagError}
use Rattle.protocol.specs.declared.answer.Answer.{Answer}
use Rattle.machine.specs.Ask.{meant}
use Rattle.stages.specs.Turns.{stage_ask, stage_step}
use Rattle.stages.specs.declared.stage.Stage.{Stage}
use Rattle.stages.specs.declared.stage.Turn.{Turn}
use Rattle.stages.specs.declared.stage.Turn.TheVariants.{Open, Over}

pub data Runs (lent : List ℕ) : Report → Turn → Replies → List Exchange → End → Type 0 where
  ends : {r : Report} {m : Mark} {a : Result Answer TagError} {ρ : Replies} → Runs lent r (Over m a) ρ [] (record { answer = a; mark = m; report = r })
  goes : {r : Report} {m : Mark} {st : Stage} {ρ : Replies} {t : Transfer} {es : List Exchange} {e : End}
      → t ≡ meant lent (stage_ask (length lent) st)
      → Runs lent (noted r (record { transfer = t; reply = ρ 0 })) (stage_step lent m st (ρ 0).ack (ρ 0).got) (later ρ) es e
      → Runs lent r (Open m st) ρ (record { transfer = t; reply = ρ 0 } ∷ es) e

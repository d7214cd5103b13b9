-- A host drives a session, and the session counts its rows as its code does. Source: document 01, the paragraph 'Added' of 'A session's
-- transfers (tag.rs)'. `session_drives` (proofs/Theorems): so runs every call with the mark inside the part, as protocol's tree does.
--
--   Drives lent k t ρ es end  == from the turn t, with k rows programmed so far and the replies ρ, the exchanges are es and the call ends
--                                as `end`; its report is the session's own count (`counted`)
use Rattle.std.specs.Prelude.{◌≡◌, List, [], ◌∷◌, ℕ, ◌+◌, length, Result}
use Rattle.protocol.specs.Transfer.{Transfer}
use Rattle.protocol.specs.Mark.{Mark}
use Rattle.protocol.specs.Trace.{Replies, later, Exchange, End}
use Rattle.protocol.specs.declared.answer.TagError.{TagError}
use Rattle.protocol.specs.declared.answer.Answer.{Answer}
use Rattle.machine.specs.Ask.{meant}
use Rattle.stages.specs.Turns.{stage_ask, stage_step}
use Rattle.stages.specs.declared.stage.Stage.{Stage}
use Rattle.stages.specs.declared.stage.Turn.{Turn}
use Rattle.stages.specs.declared.stage.Turn.TheVariants.{Open, Over}
use Rattle.session.specs.Steps.{counted}

pub data Drives (lent : List ℕ) : ℕ → Turn → Replies → List Exchange → End → Type 0 where
  ends : {k : ℕ} {m : Mark} {a : Result Answer TagError} {ρ : Replies} → Drives lent k (Over m a) ρ [] (record { answer = a; mark = m; report = record { rows = k } })
  goes : {k : ℕ} {m : Mark} {st : Stage} {ρ : Replies} {t : Transfer} {es : List Exchange} {e : End} → t ≡ meant lent (stage_ask (length lent) st)
      → Drives lent (k + counted (stage_ask (length lent) st) (ρ 0).ack) (stage_step lent m st (ρ 0).ack (ρ 0).got) (later ρ) es e
      → Drives lent k (Open m st) ρ (record { transfer = t; reply = ρ 0 } ∷ es) e

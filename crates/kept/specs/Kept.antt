-- The sessions that calls leave, whatever is replied. Source: document 01, 'Numbers a caller gets', 34: 'no state' is every byte string but
-- the states of these sessions (docs/DECISIONS.md, 24; `kept_exactly` in proofs/Theorems).
--
--   Kept s           == some calls, with some replies, leave the session s: a new one, one whose call was started, one that took a reply
--   asked a          == how many bytes the transfer a reads
--   Answers a got    == the bytes `got` can be the reply to a: so many, or more
-- With each reply come the bytes that were lent: as many as the session says, otherwise any.
use Rattle.std.specs.Prelude.{◌≡◌, Bool, List, ℕ, ◌+◌, ◌≤◌, length, Some}
use Rattle.protocol.specs.Mark.{Mark, given}
use Rattle.protocol.specs.Call.{Call}
use Rattle.machine.specs.declared.ask.Ask.{Ask}
use Rattle.machine.specs.declared.ask.Ask.TheVariants as A
use Rattle.stages.specs.Turns.{stage_ask, stage_step, start_of, lent_to}
use Rattle.stages.specs.declared.stage.Stage.{Stage}
use Rattle.session.specs.Steps.{idle, entered, counted}
use Rattle.session.specs.declared.session.Session.{Session}
use Rattle.kept.specs.Bytes.{Bytes}

abbrev pub asked : Ask → ℕ
asked (A.Address dev) = 0
asked (A.Byte dev at value) = 0
asked A.Password = 0
asked (A.Zeros at) = 0
asked (A.Row at from n) = 0
asked (A.Read dev at n) = n
asked (A.Delay ms) = 0

pub record Answers (a : Ask) (got : List ℕ) : Type 0 where
  pub bytes : Bytes got
  pub enough : asked a ≤ length got

pub data Kept : Session → Type 0 where
  new : (n : ℕ) → Kept (idle (given n))
  started : (m : Mark) (c : Call) → Kept (idle m) → Bytes (lent_to c) → Kept (entered 0 (length (lent_to c)) (start_of c m))
  replied : (s : Session) (st : Stage) (lent : List ℕ) (ack : Bool) (got : List ℕ) → Kept s → s.now ≡ Some st → length lent ≡ s.lent
      → Bytes lent → Answers (stage_ask s.lent st) got
      → Kept (entered (s.rows + counted (stage_ask s.lent st) ack) s.lent (stage_step lent s.mark st ack got))

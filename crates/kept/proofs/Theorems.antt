-- What calls leave of a session, and what is kept of it.
use mathlib.Core.Path.{◌≡◌, sym, ap, ◌∙◌}
use mathlib.Core.Bool.{Bool, true}
use mathlib.Core.List.{List}
use mathlib.Core.Logic.{◌↔◌}
use Prim.Native.Nat.{ℕ, ◌+◌, ◌≤◌}
use lib.ListN.{length}
use Rattle.std.specs.Prelude.{Some}
use Rattle.protocol.specs.Mark.{Mark, given}
use Rattle.protocol.specs.Transfer.{Reply}
use Rattle.protocol.specs.Trace.{rows_of}
use Rattle.protocol.specs.Call.{Call}
use Rattle.machine.specs.Ask.{meant}
use Rattle.stages.specs.Able.{Able}
use Rattle.stages.specs.Turns.{stage_ask, stage_step, start_of, lent_to}
use Rattle.stages.specs.declared.stage.Stage.{Stage}
use Rattle.session.specs.Sound.{sound}
use Rattle.session.specs.Steps.{idle, entered, counted, out_of}
use Rattle.session.specs.declared.session.Session.{Session}
use Rattle.state.specs.Bytes.{encode, decode_of}
use Rattle.kept.specs.Bytes.{Bytes}
use Rattle.kept.specs.Kept.{Kept}
use Rattle.kept.proofs.Sounds as sounds
use Rattle.kept.proofs.Ables as ables
use Rattle.kept.proofs.Counts as counts
use Rattle.kept.proofs.Decode as decode
use Rattle.kept.proofs.Exactly as exactly

-- `sound` is exact: it holds of the sessions that some calls, with some replies, leave, and of no other
pub left_exactly : (s : Session) → Kept s ↔ (sound s ≡ true)
left_exactly s = (sounds.left-sound s, exactly.sound-left s)

-- the three ways to such a session: a new one, a call that is started, a reply that is taken
pub new-sound : (n : ℕ) → sound (idle (given n)) ≡ true
new-sound = sounds.new-sound

pub start_sound : (c : Call) (m : Mark) → m ≤ 8192 → sound (entered 0 (length (lent_to c)) (start_of c m)) ≡ true
start_sound = sounds.start_sound

pub step-sound : (s : Session) (st : Stage) (lent : List ℕ) (ack : Bool) (got : List ℕ) → sound s ≡ true → s.now ≡ Some st → length lent ≡ s.lent
    → sound (entered (s.rows + counted (stage_ask s.lent st) ack) s.lent (stage_step lent s.mark st ack got)) ≡ true
step-sound = sounds.step-sound

-- from each of them the next step can be taken, whatever is replied
pub able : (s : Session) (st : Stage) (o : ℕ) → sound s ≡ true → s.now ≡ Some st → o ≡ out_of st → Able s.lent o st × (s.mark ≤ 8192)
able = ables.able

-- and it counts the rows that the definition's report counts
pub counts_rows : (s : Session) (st : Stage) (lent : List ℕ) (r : Reply) → sound s ≡ true → s.now ≡ Some st → length lent ≡ s.lent
    → rows_of (record { transfer = meant lent (stage_ask s.lent st); reply = r }) ≡ counted (stage_ask s.lent st) r.ack
counts_rows = counts.counts_rows

-- a session that was encoded is decoded
pub decode_encode : (s : Session) → sound s ≡ true → decode_of (encode s) ≡ Some s
decode_encode = decode.decode_encode

-- and nothing else is: bytes that are decoded are the state of a session that calls leave
pub decode_only : (l : List ℕ) (s : Session) → Bytes l → decode_of l ≡ Some s → (sound s ≡ true) × (encode s ≡ l)
decode_only = decode.decode_only

-- so the states are the bytes of the sessions that calls leave
pub kept_exactly : (l : List ℕ) (s : Session) → Bytes l → (decode_of l ≡ Some s) ↔ (Kept s × (encode s ≡ l))
kept_exactly l s b = (
  λ e. let h = decode.decode_only l s b e in (exactly.sound-left s h.0, h.1),
  λ h. sym (ap decode_of h.1) ∙ decode.decode_encode s (sounds.left-sound s h.0),
)

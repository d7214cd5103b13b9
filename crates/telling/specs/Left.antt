-- What an entry point leaves. Source: document 01, 'Session checks' and the paragraph 'Added' of 'A session's transfers (tag.rs)'.
--
--   Left                        == the step that is returned, and the state, transfer and reply buffers afterwards
--   Leaves l given s t r        == an entry point returned the step `given` and left s, t and r: all as l says
--   misuse_number e              == the number of a refusal: 31 to 34
--   refused_left n s t r         == a refusal 31 to 34: everything untouched, no rows
--   settled lent rows turn t r  == a call that goes on, or answers, with `rows` rows programmed and the data `lent`: before the answer
--                                  the bytes to send stand in the transfer buffer, zeros after them up to 19; at the answer the first 19
--                                  and 64 bytes are zero. Bytes past these never change
--   into_out st                  == the bytes that st reads go into `out`
--   short t r                   == a transfer buffer of t bytes is under 19, or a reply buffer of r under 64
--   opened_of s t r              == whether a call may be started on the state s, with a transfer buffer of t bytes and a reply buffer of r:
--                                  34, 32, 33 (under 19, under 64)
--   opened_by, opened_now         == the same, on what was decoded; on its mark and what is under way
--   mark_of o                    == the mark of a session on which a call may be started; none where it is refused
--   misfit q st t r lent out    == a lent length is wrong for the stage st of the session q: transfer or reply buffer, data, `out`
--   heard_of s t r lent out      == whether the state s takes a reply with these buffers: 34, 31, 33
--   heard_by, heard_now           == the same, on what was decoded; on its session and what is under way
--   waits_on lent st             == the transfer that st waits on; framed: its bytes over the first 19 of the transfer buffer
--   start_left c s t r           == the call c started on the state s: 34, 32, 33, or its first transfer, or its answer
--   reply_left s t r lent out ack == a reply given: 34, 31, 33, or the next transfer, or the answer
--   next_left s t r lent out     == the open call's transfer once more: 34, 31, 33, or the transfer, nothing else changed
--   started_left, replied_left, repeated_left == the same three, on what was found open or heard
--   new_state s n, new_step s     == a session made in s: 34 for a wrong length alone
--   dirty_step s                 == the mark of the session in s, or 34. dirty_decoded: the same, on what was decoded
use Rattle.std.specs.Prelude.{◌≡◌, ℕ, ◌+◌, Bool, true, false, not, ◌||◌, List, ◌++◌, eqb, ltb, length, drop, replicate, Option, Some, None, Result, Ok, Err}
use Rattle.slices.specs.Pick.{pick}
use Rattle.protocol.specs.Transfer.{Transfer, sent}
use Rattle.protocol.specs.Mark.{Mark}
use Rattle.protocol.specs.Mark as mark
use Rattle.protocol.specs.Mark.{none}
use Rattle.protocol.specs.Call.{Call}
use Rattle.protocol.specs.Answer.{answer_number, answer_value}
use Rattle.machine.specs.Ask.{meant}
use Rattle.stages.specs.Turns.{stage_ask, stage_step, start_of, lent_to}
use Rattle.stages.specs.Able.{got_by}
use Rattle.stages.specs.declared.stage.Stage.{Stage}
use Rattle.stages.specs.declared.stage.Stage.TheVariants as G
use Rattle.stages.specs.declared.stage.Turn.{Turn}
use Rattle.stages.specs.declared.stage.Turn.TheVariants.{Open, Over}
use Rattle.session.specs.Steps.{idle, entered, counted, out_of}
use Rattle.session.specs.declared.session.Session.{Session}
use Rattle.state.specs.Bytes.{state_length, encode, decode_of}
use Rattle.telling.specs.declared.opening.Misuse.{Misuse}
use Rattle.telling.specs.declared.opening.Misuse.TheVariants as M
use Rattle.telling.specs.declared.opening.Heard.{Heard}
use Rattle.telling.specs.Step.{transfer_length, reply_length, answer_step, transfer_step, padded}

pub record Left : Type 0 where
  pub step : ℕ
  pub state : List ℕ
  pub transfer : List ℕ
  pub reply : List ℕ

pub record Leaves (l : Left) (given : ℕ) (s t r : List ℕ) : Type 0 where
  pub step : given ≡ l.step
  pub state : s ≡ l.state
  pub transfer : t ≡ l.transfer
  pub reply : r ≡ l.reply

abbrev pub misuse_number : Misuse → ℕ
misuse_number M.NoCallOpen = 31
misuse_number M.CallOpen = 32
misuse_number M.WrongLength = 33
misuse_number M.NoState = 34

abbrev pub refused_left : ℕ → List ℕ → List ℕ → List ℕ → Left
refused_left n s t r = record { step = answer_step n 0 0; state = s; transfer = t; reply = r }

abbrev pub into_out : Stage → Bool
into_out G.Identify = false
into_out (G.Prepare s) = false
into_out (G.WaitReady w) = false
into_out (G.ReadUser at n) = true
into_out (G.Write w) = false
into_out (G.Switching s) = false
into_out G.RfWrote = false
into_out (G.WholeOff s) = false
into_out G.WholeStatus = false
into_out G.WholeRead = true
into_out (G.Wipe s) = false
into_out (G.BeginSetup s) = false
into_out (G.BeginOff s) = false
into_out G.LiveStatus = false
into_out (G.FinishOff s) = false
into_out (G.FinishStatus stuck) = false
into_out (G.FinishWipe stuck s) = false

-- the transfer that a stage waits on
abbrev pub waits_on : List ℕ → Stage → Transfer
waits_on lent st = meant lent (stage_ask (length lent) st)

abbrev pub framed : List ℕ → Stage → List ℕ → List ℕ
framed lent st t = padded (sent (waits_on lent st)) ++ drop transfer_length t

abbrev pub settled : List ℕ → ℕ → Turn → List ℕ → List ℕ → Left
settled lent rows (Open m st) t r = record {
  step = transfer_step (into_out st) (waits_on lent st);
  state = encode (entered rows (length lent) (Open m st));
  transfer = framed lent st t;
  reply = r;
}
settled lent rows (Over m a) t r = record {
  step = answer_step (answer_number a) rows (answer_value a);
  state = encode (idle m);
  transfer = replicate transfer_length 0 ++ drop transfer_length t;
  reply = replicate reply_length 0 ++ drop reply_length r;
}

abbrev pub short : ℕ → ℕ → Bool
short t r = ltb t transfer_length || ltb r reply_length

-- a call may be started with the mark at m, or the refusal's number
abbrev pub opened_now : Mark → Option Stage → ℕ → ℕ → Result Mark Misuse
opened_now m (Some st) t r = Err M.CallOpen
opened_now m None t r = pick (short t r) (Err M.WrongLength) (Ok m)

abbrev pub opened_by : Option Session → ℕ → ℕ → Result Mark Misuse
opened_by None t r = Err M.NoState
opened_by (Some q) t r = opened_now q.mark q.now t r

abbrev pub opened_of : List ℕ → ℕ → ℕ → Result Mark Misuse
opened_of s t r = opened_by (decode_of s) t r

abbrev pub mark_of : Result Mark Misuse → Mark
mark_of (Ok m) = m
mark_of (Err e) = none

abbrev pub started_left : Result Mark Misuse → List ℕ → Turn → List ℕ → List ℕ → List ℕ → Left
started_left (Ok m) lent turn s t r = settled lent 0 turn t r
started_left (Err e) lent turn s t r = refused_left (misuse_number e) s t r

abbrev pub start_left : Call → List ℕ → List ℕ → List ℕ → Left
start_left c s t r =
    started_left (opened_of s (length t) (length r)) (lent_to c) (start_of c (mark_of (opened_of s (length t) (length r)))) s t r

-- the lent buffers have another length than they may have: transfer and reply buffer, data and `out`
abbrev pub misfit : Session → Stage → ℕ → ℕ → ℕ → ℕ → Bool
misfit q st t r lent out = short t r || not (eqb lent q.lent) || not (eqb out (out_of st))

-- a reply may be taken: the mark, the rows and the stage; or the refusal's number
abbrev pub heard_now : Session → Option Stage → ℕ → ℕ → ℕ → ℕ → Result Heard Misuse
heard_now q None t r lent out = Err M.NoCallOpen
heard_now q (Some st) t r lent out =
    pick (misfit q st t r lent out) (Err M.WrongLength) (Ok (record { mark = q.mark; rows = q.rows; stage = st }))

abbrev pub heard_by : Option Session → ℕ → ℕ → ℕ → ℕ → Result Heard Misuse
heard_by None t r lent out = Err M.NoState
heard_by (Some q) t r lent out = heard_now q q.now t r lent out

abbrev pub heard_of : List ℕ → List ℕ → List ℕ → List ℕ → List ℕ → Result Heard Misuse
heard_of s t r lent out = heard_by (decode_of s) (length t) (length r) (length lent) (length out)

abbrev pub replied_left : Result Heard Misuse → List ℕ → List ℕ → List ℕ → List ℕ → List ℕ → Bool → Left
replied_left (Err e) s t r lent out ack = refused_left (misuse_number e) s t r
replied_left (Ok h) s t r lent out ack =
    settled lent (h.rows + counted (stage_ask (length lent) h.stage) ack) (stage_step lent h.mark h.stage ack (got_by h.stage r out)) t r

abbrev pub reply_left : List ℕ → List ℕ → List ℕ → List ℕ → List ℕ → ℕ → Left
reply_left s t r lent out ack = replied_left (heard_of s t r lent out) s t r lent out (not (eqb ack 0))

abbrev pub repeated_left : Result Heard Misuse → List ℕ → List ℕ → List ℕ → List ℕ → Left
repeated_left (Err e) s t r lent = refused_left (misuse_number e) s t r
repeated_left (Ok h) s t r lent =
    record { step = transfer_step (into_out h.stage) (waits_on lent h.stage); state = s; transfer = framed lent h.stage t; reply = r }

abbrev pub next_left : List ℕ → List ℕ → List ℕ → List ℕ → List ℕ → Left
next_left s t r lent out = repeated_left (heard_of s t r lent out) s t r lent

abbrev pub new_state : List ℕ → ℕ → List ℕ
new_state s n = pick (eqb (length s) state_length) (encode (idle (mark.given n))) s

abbrev pub new_step : List ℕ → ℕ
new_step s = pick (eqb (length s) state_length) (answer_step 0 0 0) (answer_step 34 0 0)

abbrev pub dirty_decoded : Option Session → ℕ
dirty_decoded None = answer_step 34 0 0
dirty_decoded (Some q) = answer_step 0 0 q.mark

abbrev pub dirty_step : List ℕ → ℕ
dirty_step s = dirty_decoded (decode_of s)

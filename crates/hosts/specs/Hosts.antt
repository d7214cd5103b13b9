-- A host, as the loop in include/skipnadur.h: it has the step's number, the state's bytes and its own buffers, and nothing else. It takes
-- the step apart, does on the bus what it says, hands the reply in, and stops at an answer. Source: document 01, the paragraph 'Added' of
-- 'A session's transfers (tag.rs)'; the loop and the helpers of include/skipnadur.h. Document 01 asks more of a host: here what it puts
-- into reply buffer and `out` is anything, and so is its answer after a delay.
--
--   kind_of s, address_of s, send_of s, read_of s, delay_of s == the fields of the step s, as the header's helpers take them out
--   Bus                 == what is done on the bus: bytes sent to an address; bytes sent, then so many read; a wait
--   on_bus x             == what the transfer x is there
--   asked_by s t         == what the step s asks for, with the transfer buffer t
--   Act, act e, acts es == what was done, whether it was acknowledged, and the bytes in the buffer that was to be read into; the same of
--                          the exchange e, of the exchanges es
--   done l ack r out    == what the host does on what was left, l, where it hands in `ack`, the reply buffer r and `out`
--   out_for c            == how many bytes `out` has in the call c
--   Hosts lent o l es e == from what an entry point left, l, with the data `lent` and an `out` of o bytes: the host has done es so far, and
--                          the last entry point left e. Its buffers keep their lengths; what stands in them, and whether the part
--                          acknowledged, is anything
--   replies_of es        == the replies that it handed in
--   Answered c m es e   == es and e are the definition's run of the call c from the mark m, with these replies: its transfers, answer,
--                          rows and mark
--   Agrees c m es e     == so far es is the beginning of that run, never longer than it, and all of it once a step is an answer
use Rattle.std.specs.Prelude.{◌≡◌, false, not, List, [], ◌∷◌, ◌++◌, ℕ, zero, suc, ◌/◌, ◌%◌, ◌≤◌, eqb, length, take}
use Rattle.slices.specs.Pick.{pick}
use Rattle.protocol.specs.Transfer.{Transfer, Reply, write, write_read, delay}
use Rattle.protocol.specs.Mark.{Mark}
use Rattle.protocol.specs.Call.{Call}
use Rattle.protocol.specs.Call as call
use Rattle.protocol.specs.Calls.{call_of}
use Rattle.protocol.specs.Trace.{Replies, Exchange, trace, answer_of, mark_of, report_on, nothing}
use Rattle.protocol.specs.Answer.{answer_number, answer_value}
use Rattle.session.specs.Steps.{idle}
use Rattle.state.specs.Bytes.{encode}
use Rattle.telling.specs.Step.{answer_step}
use Rattle.telling.specs.Left.{Left, reply_left}

abbrev pub kind_of : ℕ → ℕ
kind_of s = s % 256

abbrev pub address_of : ℕ → ℕ
address_of s = s / 256 % 256

abbrev pub send_of : ℕ → ℕ
send_of s = s / 65536 % 65536

abbrev pub read_of : ℕ → ℕ
read_of s = s / 4294967296 % 65536

abbrev pub delay_of : ℕ → ℕ
delay_of s = s / 4294967296

pub data Bus : Type 0 where
  sends : ℕ → List ℕ → Bus
  reads : ℕ → List ℕ → ℕ → Bus
  waits : ℕ → Bus

abbrev pub on_bus : Transfer → Bus
on_bus (write dev head payload) = sends dev (head ++ payload)
on_bus (write_read dev head n) = reads dev head n
on_bus (delay ms) = waits ms

-- kinds 1 and 4; 2 and 3 read
abbrev pub asked_by : ℕ → List ℕ → Bus
asked_by s t =
    pick (eqb (kind_of s) 1) (sends (address_of s) (take (send_of s) t))
    (pick (eqb (kind_of s) 4) (waits (delay_of s)) (reads (address_of s) (take (send_of s) t) (read_of s)))

pub record Act : Type 0 where
  pub bus : Bus
  pub reply : Reply

abbrev pub act : Exchange → Act
act e = record { bus = on_bus e.transfer; reply = e.reply }

abbrev pub acts : List Exchange → List Act
acts [] = []
acts (e ∷ es) = act e ∷ acts es

abbrev pub out_for : Call → ℕ
out_for (call.read_user at n) = n
out_for (call.read_whole n) = n
out_for call.identify = 0
out_for call.prepare = 0
out_for call.wait_ready = 0
out_for (call.write at bs) = 0
out_for call.rf_off = 0
out_for call.rf_on = 0
out_for call.rf_wrote = 0
out_for call.scrub = 0
out_for call.begin = 0
out_for call.go_live = 0
out_for call.finish = 0

-- a reply is handed in as a number: 0 for refused
abbrev pub done : Left → ℕ → List ℕ → List ℕ → Act
done l ack r out = record {
  bus = asked_by l.step l.transfer;
  reply = record { ack = not (eqb ack 0); got = pick (eqb (kind_of l.step) 3) out r };
}

pub data Hosts (lent : List ℕ) (o : ℕ) : Left → List Act → Left → Type 0 where
  here : {l : Left} → Hosts lent o l [] l
  carried : {l e : Left} {es : List Act} (ack : ℕ) (r out : List ℕ) → (kind_of l.step ≡ 0 → ⊥) → length r ≡ length l.reply → length out ≡ o
      → Hosts lent o (reply_left l.state l.transfer r lent out ack) es e → Hosts lent o l (done l ack r out ∷ es) e

abbrev pub replies_of : List Act → Replies
replies_of [] n = record { ack = false; got = [] }
replies_of (a ∷ es) zero = a.reply
replies_of (a ∷ es) (suc n) = replies_of es n

pub record Answered (c : Call) (m : Mark) (es : List Act) (e : Left) : Type 0 where
  pub bus : es ≡ acts (trace (call_of c m) (replies_of es))
  pub step : e.step
      ≡ answer_step (answer_number (answer_of (call_of c m) (replies_of es))) (report_on nothing (trace (call_of c m) (replies_of es))).rows
      (answer_value (answer_of (call_of c m) (replies_of es)))
  pub state : e.state ≡ encode (idle (mark_of m (call_of c m) (replies_of es)))

pub record Agrees (c : Call) (m : Mark) (es : List Act) (e : Left) : Type 0 where
  pub begun : es ≡ take (length es) (acts (trace (call_of c m) (replies_of es)))
  pub within : length es ≤ length (trace (call_of c m) (replies_of es))
  pub answered : kind_of e.step ≡ 0 → Answered c m es e

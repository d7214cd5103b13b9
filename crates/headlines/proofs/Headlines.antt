-- What the library promises: read this file first. Each theorem is one citation; the words in it are definitions under specs/, and the
-- public calls equal these definitions by their contracts (docs/PROMISES.md).
--
--   reads_back             == a built image whose record has at most 65,535 bytes reads as one message of exactly that record
--   text_back              == `text` gives the text of a text image
--   labels_differ          == two texts with one image are one text; so HOXA13 is never HOXA1
--   records_differ         == two records that read back from one image have one format, type name and payload
--   begun-is-whole         == `begin`, a payload of the announced length and `finish` leave what the whole builder leaves
--   cards                  == document 01's eleven bench cards are what the definitions compute to
--   session_drives         == any replies whatever: a call asks for the definition's transfers, ends with its answer and its mark, and the
--                             rows that it counts are the acknowledged row writes
--   drives_once            == and there is no other run: the replies decide the exchanges and the end
--   hosts_agree            == so for a C host that has the step's number, the state's bytes and its buffers alone: whatever it hands in, the
--                             bus sees the definition's transfers, and the last step and state are its answer, rows and mark
--   kept_exactly           == state bytes are read exactly where calls leave them
--   nothing_left           == after any history of calls, phones and cuts: power-up and an uncut `begin` leave all 8,192 bytes zero
--   covered_or_reported    == in a session without a cut every non-zero byte lies below the mark, or the part reports a phone's write
--   finish_leaves_nothing  == `finish`, whenever it comes, answers Ok with RF off, the mark 0, all bytes zero
--   scrub_exact            == `scrub` programs exactly the non-zero rows below the rounded mark, and changes no byte at or above it
--   once                   == only one answer meets a promise that is an equation
use Rattle.std.specs.Prelude.{Ok}
use mathlib.Core.Path.{◌≡◌}
use mathlib.Core.Bool.{true, false}
use mathlib.Core.List.{List, ◌++◌}
use mathlib.Core.Logic.{◌⊎◌, ◌↔◌}
use Prim.Native.Nat.{ℕ, ◌≤◌, ◌<◌}
use lib.ListN.{length}
use Rattle.std.specs.Prelude.{Some}
use Rattle.utf8.specs.Utf8.{utf8}
use Rattle.layout.specs.Lengths.{record_len}
use Rattle.layout.specs.Record.{Fields, whole}
use Rattle.layout.specs.Payload.{well_known, text_kind, text_payload, english}
use Rattle.layout.specs.Image.{image, text_image}
use Rattle.judging.specs.Judge.{after}
use Rattle.contents.specs.Contents.{text_of}
use Rattle.roundtrip.specs.Trip as trip
use Rattle.roundtrip.specs.Differ as differ
use Rattle.roundtrip.specs.Begun as begun
use Rattle.roundtrip.specs.Cards as card
use Rattle.protocol.specs.Mark.{Mark}
use Rattle.protocol.specs.Mark as mark
use Rattle.protocol.specs.Call.{Call, begin, finish, scrub}
use Rattle.protocol.specs.Calls.{call_of}
use Rattle.protocol.specs.Trace.{Replies, Exchange, End, trace, answer_of, mark_of, nothing, report_on}
use Rattle.stages.specs.Turns.{start_of, lent_to}
use Rattle.stages.specs.declared.stage.Turn.{Turn}
use Rattle.session.specs.Steps.{idle}
use Rattle.session.specs.declared.session.Session.{Session}
use Rattle.state.specs.Bytes.{encode, decode_of}
use Rattle.kept.specs.Bytes.{Bytes}
use Rattle.kept.specs.Kept.{Kept}
use Rattle.kept.proofs.Theorems as kept
use Rattle.drives.specs.Drives.{Drives}
use Rattle.drives.proofs.Theorems as drives
use Rattle.telling.specs.Left.{Left, start_left}
use Rattle.hosts.specs.Hosts.{Act, out_for, Hosts, Agrees}
use Rattle.hosts.proofs.Theorems as hosts
use Rattle.part.specs.Part.{Part, ThePart, rf_on, free}
use Rattle.nothing_left.specs.Runs.{Moments, run, Clean}
use Rattle.nothing_left.specs.Histories.{PowerUp}
use Rattle.nothing_left.specs.Sessions as order
use Rattle.nothing_left.specs.Rows.{Exact}
use Rattle.nothing_left.proofs.Theorems as demand
use Rattle.once.proofs.Theorems as one

pub reads_back : (area format : ℕ) (kind payload : List ℕ) → format < 8 → length kind ≤ 255 → record_len (length kind) (length payload) ≤ 65535
    → trip.ReadsBack (image area (whole format kind payload)) (whole format kind payload)
reads_back = trip.reads_back

pub text_back : (area : ℕ) (t : List ℕ) (b : trip.ReadsBack (text_image area t) (whole well_known text_kind (text_payload english t))) → utf8 t ≡ true
    → trip.Says (text_image area t) (text_of (text_image area t) b.places) t
text_back = trip.text_back

pub labels_differ : (area : ℕ) (t u : List ℕ) → text_image area t ≡ text_image area u → t ≡ u
labels_differ = differ.text_of_image

pub records_differ : (img : List ℕ) (r q : Fields) → trip.ReadsBack img r → trip.ReadsBack img q → trip.Same r q
records_differ = trip.one_record

pub begun-is-whole : (area format : ℕ) (kind head rest : List ℕ) {out o₁ o₂ o₃ : List ℕ} {place end close : ℕ}
    → begun.Begun area format kind head rest out o₁ o₂ o₃ place end close → o₃ ≡ after (Ok tt) (image area (whole format kind (head ++ rest))) out
begun-is-whole = begun.begun-is-whole

pub cards : card.Cards
cards = card.cards

pub session_drives : (c : Call) (m : Mark) (ρ : Replies) → m ≤ 8192
    → Drives (lent_to c) 0 (start_of c m) ρ (trace (call_of c m) ρ)
    (record { answer = answer_of (call_of c m) ρ; mark = mark_of m (call_of c m) ρ; report = report_on nothing (trace (call_of c m) ρ) })
session_drives = drives.session_drives

pub drives_once : (lent : List ℕ) (k : ℕ) (t : Turn) (ρ : Replies) (es : List Exchange) (e : End) (fs : List Exchange) (f : End)
    → Drives lent k t ρ es e → Drives lent k t ρ fs f → (es ≡ fs) × (e ≡ f)
drives_once = drives.drives_once

pub hosts_agree : (c : Call) (m : Mark) (s t r : List ℕ) (es : List Act) (e : Left) → decode_of s ≡ Some (idle m) → 19 ≤ length t → 64 ≤ length r
    → Hosts (lent_to c) (out_for c) (start_left c s t r) es e → Agrees c m es e
hosts_agree = hosts.hosts_agree

pub kept_exactly : (l : List ℕ) (s : Session) → Bytes l → (decode_of l ≡ Some s) ↔ (Kept s × (encode s ≡ l))
kept_exactly = kept.kept_exactly

pub nothing_left : {p : Part} → PowerUp p → (w : Moments) → Clean (run begin mark.whole p w)
nothing_left = demand.nothing_left

pub covered_or_reported : {f : order.Phase} {m : Mark} {p : Part} → order.Session f m p → (p.registers.reported ≡ true) ⊎ order.Covered m p.memory
covered_or_reported = demand.covered_or_reported

pub finish_leaves_nothing : {f : order.Phase} {m : Mark} {p : Part} → order.Session f m p → (w : Moments) → Clean (run finish m p w)
finish_leaves_nothing = demand.finish_leaves_nothing

pub scrub_exact : {p : Part} → ThePart p → rf_on p.registers ≡ false → free p.registers ≡ true → (m : Mark) (w : Moments) → Exact m p (run scrub m p w)
scrub_exact = demand.scrub_exact

pub once : {A : Type 0} {said x y : A} → x ≡ said → y ≡ said → x ≡ y
once = one.once

-- What the checks of an entry point say where they pass.
use mathlib.Core.Path.{◌≡◌, refl, sym, subst, ap, ◌∙◌}
use mathlib.Core.Bool.{Bool, true, false, not, ◌||◌, ◌&&◌}
use mathlib.Core.List.{List}
use Prim.Native.Nat.{ℕ, ◌+◌, ◌≤◌, ◌<◌}
use native.Mathlib.Omega.{arith}
use lib.Dec.{eqb, ltb}
use lib.ListN.{length}
use borrow.Author.Tests.{eqb-true, ltb-false, not-false}
use Rattle.std.specs.Prelude.{Option, Some, None, Result, Ok, Err}
use Rattle.slices.specs.Pick.{pick}
use Rattle.slices.proofs.Truths.{both, either_no}
use Rattle.protocol.specs.Mark.{Mark}
use Rattle.protocol.specs.Call.{Call}
use Rattle.stages.specs.Turns.{stage_ask, stage_step, start_of, lent_to}
use Rattle.stages.specs.declared.stage.Stage.{Stage}
use Rattle.stages.specs.declared.stage.Turn.{Turn}
use Rattle.session.specs.Sound.{sound}
use Rattle.session.specs.Steps.{counted, out_of}
use Rattle.session.specs.declared.session.Session.{Session}
use Rattle.numbers.specs.Flat.{flatten}
use Rattle.numbers.specs.From.{session_from}
use Rattle.state.specs.Bytes.{flat_of, same_flat, decode_flat, decode_of}
use Rattle.numbers.specs.declared.flat.Flat.{Flat}
use Rattle.kept.proofs.Sounds.{mark-inside, start_sound, step-sound}
use Rattle.kept.proofs.Small.{flat_small}
use Rattle.kept.proofs.Decode.{now_counts}
use Rattle.telling.specs.Left.{short, opened_now, opened_by, opened_of, misfit, heard_now, heard_by}
use Rattle.telling.specs.Fit.{StageFits, TurnFits}
use Rattle.stages.specs.Able.{Able}
use Rattle.kept.proofs.Ables.{able}
use Rattle.telling.specs.declared.opening.Misuse.{Misuse}
use Rattle.telling.specs.declared.opening.Misuse.TheVariants as M
use Rattle.telling.specs.declared.opening.Heard.{Heard}
use Rattle.entry.specs.Going.{Going, Inside}
use Rattle.entry.proofs.Asks.{stage_fits, turn-fits}

-- bytes that are read as a session are twenty, and the session is one that calls leave
flat_says : (f : Flat) (q : Session) (b : Bool) → (same_flat (flatten (session_from f)) f && sound (session_from f)) ≡ b
    → pick b (Some (session_from f)) None ≡ Some q → sound q ≡ true
flat_says f q true e h =
    let g : session_from f ≡ q = cc in
    sym (ap sound g) ∙ (both (same_flat (flatten (session_from f)) f) (sound (session_from f)) e).1
flat_says f q false e h = absurd (let z : ◌≡◌ {A = ℕ} 0 1 = cc in omega arith)

decoded_if : (l : List ℕ) (q : Session) (b : Bool) → eqb (length l) 20 ≡ b → pick b (decode_flat (flat_of l)) None ≡ Some q
    → (length l ≡ 20) × (sound q ≡ true)
decoded_if l q true e h = (eqb-true (length l) 20 e, flat_says (flat_of l) q _ refl h)
decoded_if l q false e h = absurd (let z : ◌≡◌ {A = ℕ} 0 1 = cc in omega arith)

pub decoded_says : (l : List ℕ) (q : Session) → decode_of l ≡ Some q → (length l ≡ 20) × (sound q ≡ true)
decoded_says l q h = decoded_if l q (eqb (length l) 20) refl h

pub decoded_inside : (l : List ℕ) (d : Option Session) → d ≡ decode_of l → Inside d
decoded_inside l (Some q) e = mark-inside q (decoded_says l q (sym e)).1
decoded_inside l None e = tt

long : (t r : ℕ) → short t r ≡ false → (19 ≤ t) × (64 ≤ r)
long t r e = let h = either_no (ltb t 19) (ltb r 64) e in (ltb-false t 19 h.0, ltb-false r 64 h.1)

-- a call that may be started: the lengths of its buffers, and the mark
idle-says : (m k : Mark) (n : Option Stage) (t r : ℕ) (b : Bool) → short t r ≡ b → opened_now m n t r ≡ Ok k → (19 ≤ t) × (64 ≤ r) × (k ≡ m)
idle-says m k (Some st) t r b e h = absurd (let z : ◌≡◌ {A = ℕ} 0 1 = cc in omega arith)
idle-says m k None t r true e h =
    let g : ◌≡◌ {A = Result Mark Misuse} (Err M.WrongLength) (Ok k) = sym (ap (λ (x : Bool). pick x (Err M.WrongLength) (Ok m)) e) ∙ h in
    absurd (let z : ◌≡◌ {A = ℕ} 0 1 = cc in omega arith)
idle-says m k None t r false e h =
    let g : ◌≡◌ {A = Result Mark Misuse} (Ok m) (Ok k) = sym (ap (λ (x : Bool). pick x (Err M.WrongLength) (Ok m)) e) ∙ h in
    let q : k ≡ m = cc in
    ((long t r e).0, (long t r e).1, q)

opened_if : (l : List ℕ) (k : Mark) (d : Option Session) (t r : ℕ) → d ≡ decode_of l → opened_by d t r ≡ Ok k
    → (length l ≡ 20) × (19 ≤ t) × (64 ≤ r) × (k ≤ 8192)
opened_if l k None t r ed h = absurd (let z : ◌≡◌ {A = ℕ} 0 1 = cc in omega arith)
opened_if l k (Some q) t r ed h =
    let s = decoded_says l q (sym ed) in
    let i = idle-says q.mark k q.now t r (short t r) refl h in
    (s.0, i.0, i.1, subst (λ (x : ℕ). x ≤ 8192) (sym i.2) (mark-inside q s.1))

pub opened-says : (l : List ℕ) (k : Mark) (t r : ℕ) → opened_of l t r ≡ Ok k → (length l ≡ 20) × (19 ≤ t) × (64 ≤ r) × (k ≤ 8192)
opened-says l k t r h = opened_if l k (decode_of l) t r refl h

-- its first turn fits them
pub start_fits : (c : Call) (m : Mark) (turn : Turn) → m ≤ 8192 → turn ≡ start_of c m → TurnFits (length (lent_to c)) turn
start_fits c m turn h e =
    subst (TurnFits (length (lent_to c))) (sym e) (turn-fits 0 (length (lent_to c)) (start_of c m) (start_sound c m h))

-- a reply that is taken
module _ (l : List ℕ) (t r lent out : ℕ) (g : Heard) where
  open_says : (q : Session) (x : Stage) (b : Bool) → q.now ≡ Some x → sound q ≡ true → length l ≡ 20 → misfit q x t r lent out ≡ b
      → pick (misfit q x t r lent out) (Err M.WrongLength) (Ok (record { mark = q.mark; rows = q.rows; stage = x })) ≡ Ok g → Going (length l) t r lent out g
  open_says q x true en es el eb h =
      let k : ◌≡◌ {A = Result Heard Misuse} (Err M.WrongLength) (Ok g) =
      sym (ap (λ (z : Bool). pick z (Err M.WrongLength) (Ok (record { mark = q.mark; rows = q.rows; stage = x }))) eb) ∙ h in
      absurd (let z : ◌≡◌ {A = ℕ} 0 1 = cc in omega arith)
  open_says q x false en es el eb h =
      let k : ◌≡◌ {A = Result Heard Misuse} (Ok (record { mark = q.mark; rows = q.rows; stage = x })) (Ok g) =
      sym (ap (λ (z : Bool). pick z (Err M.WrongLength) (Ok (record { mark = q.mark; rows = q.rows; stage = x }))) eb) ∙ h in
      let a : ◌≡◌ {A = Heard} (record { mark = q.mark; rows = q.rows; stage = x }) g = cc in
      let f = either_no (short t r || not (eqb lent q.lent)) (not (eqb out (out_of x))) eb in
      let n = either_no (short t r) (not (eqb lent q.lent)) f.0 in
      let d : lent ≡ q.lent = eqb-true lent q.lent (not-false (eqb lent q.lent) n.1) in
      let w : out ≡ out_of x = eqb-true out (out_of x) (not-false (eqb out (out_of x)) f.1) in
      let s : ◌≡◌ {A = Session} q (record { mark = q.mark; rows = q.rows; lent = lent; now = Some x }) =
      λ i. record { mark = q.mark; rows = q.rows; lent = sym d i; now = en i } in
      subst (Going (length l) t r lent out) a
      (record {
        state = el;
        transfer = (long t r n.0).0;
        reply = (long t r n.0).1;
        whole = w;
        sane = sym (ap sound s) ∙ es;
      })

  -- by whether the buffers fit the stage that is open
  heard_open : (q : Session) (n : Option Stage) → q.now ≡ n → sound q ≡ true → length l ≡ 20 → heard_now q n t r lent out ≡ Ok g
      → Going (length l) t r lent out g
  heard_open q None en es el h = absurd (let z : ◌≡◌ {A = ℕ} 0 1 = cc in omega arith)
  heard_open q (Some x) en es el h = open_says q x (misfit q x t r lent out) en es el refl h

  heard_if : (d : Option Session) → d ≡ decode_of l → heard_by d t r lent out ≡ Ok g → Going (length l) t r lent out g
  heard_if None ed h = absurd (let z : ◌≡◌ {A = ℕ} 0 1 = cc in omega arith)
  heard_if (Some q) ed h =
      let s = decoded_says l q (sym ed) in
      heard_open q q.now refl s.1 s.0 h

  pub heard-says : heard_by (decode_of l) t r lent out ≡ Ok g → Going (length l) t r lent out g
  heard-says h = heard_if (decode_of l) refl h

-- rows are few
pub rows_few : (q : Session) → sound q ≡ true → q.rows < 65000
rows_few q e = let h = (flat_small q e).rows in subst (λ (k : ℕ). k < 65000) (now_counts q.mark q.rows q.lent q.now).1 h

-- the session that a reply was heard of
abbrev session_of : Heard → ℕ → Session
session_of h n = record { mark = h.mark; rows = h.rows; lent = n; now = Some h.stage }

-- what follows a reply fits too
pub goes_on : (lent : List ℕ) (o : ℕ) (l t r : ℕ) (h : Heard) (ack : Bool) (got : List ℕ) → Going l t r (length lent) o h
    → TurnFits (length lent) (stage_step lent h.mark h.stage ack got)
goes_on lent o l t r h ack got g =
    turn-fits (h.rows + counted (stage_ask (length lent) h.stage) ack) (length lent) (stage_step lent h.mark h.stage ack got)
    (step-sound (session_of h (length lent)) h.stage lent ack got g.sane refl refl)

pub count_small : (l t r n o : ℕ) (h : Heard) → Going l t r n o h → h.rows < 65000
count_small l t r n o h g = rows_few (session_of h n) g.sane

-- the stage that goes on can ask, and can take its step
pub next_fits : (l t r n o : ℕ) (h : Heard) → Going l t r n o h → (19 ≤ t) × StageFits n h.stage
next_fits l t r n o h g = (g.transfer, stage_fits (session_of h n) h.stage g.sane refl)

pub steps_able : (l t r n o : ℕ) (h : Heard) → Going l t r n o h → Able n o h.stage × (h.mark ≤ 8192) × (64 ≤ r)
steps_able l t r n o h g =
    let a = able (session_of h n) h.stage o g.sane refl g.whole in
    (a.0, a.1, g.reply)

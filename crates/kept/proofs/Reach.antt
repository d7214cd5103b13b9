-- From one session that calls leave to the next.
--
--   at m rows n st   == the session with the stage st open
use mathlib.Core.Path.{◌≡◌, refl, sym, subst, ap, ◌∙◌}
use mathlib.Core.Bool.{Bool}
use mathlib.Core.List.{List, []}
use Prim.Native.Nat.{ℕ, zero, suc, ◌+◌, ◌≤◌}
use native.Mathlib.Omega.{arith}
use lib.ListN.{length}
use Rattle.std.specs.Prelude.{Some}
use Rattle.protocol.specs.Mark.{Mark}
use Rattle.protocol.specs.Call.{Call}
use Rattle.machine.specs.declared.ask.Ask.{Ask}
use Rattle.stages.specs.Turns.{stage_ask, stage_step, start_of, lent_to}
use Rattle.stages.specs.declared.stage.Stage.{Stage}
use Rattle.stages.specs.declared.stage.Turn.{Turn}
use Rattle.stages.specs.declared.stage.Turn.TheVariants.{Open}
use Rattle.session.specs.Steps.{idle, entered, counted}
use Rattle.session.specs.declared.session.Session.{Session}
use Rattle.kept.specs.Bytes.{Bytes}
use Rattle.kept.specs.Kept.{Answers, Kept, new, started, replied}
use Rattle.kept.proofs.Replies.{bytes-none}
use Rattle.kept.proofs.Marks.{given-same}

abbrev pub at : Mark → ℕ → ℕ → Stage → Session
at m rows n st = record { mark = m; rows = rows; lent = n; now = Some st }

pub left-idle : (m : Mark) → m ≤ 8192 → Kept (idle m)
left-idle m h = subst (λ (k : Mark). Kept (idle k)) (given-same m h) (new m)

-- a call that begins with a transfer
pub called : (c : Call) (m k : Mark) (n : ℕ) (st : Stage) → m ≤ 8192 → length (lent_to c) ≡ n → Bytes (lent_to c) → start_of c m ≡ Open k st → Kept (at k 0 n st)
called c m k n st h l b e =
    subst (λ (j : ℕ). Kept (at k 0 j st)) l
    (subst (λ (t : Turn). Kept (entered 0 (length (lent_to c)) t)) e (started m c (left-idle m h) b))

-- a reply that leads to another transfer
pub onto : (m k : Mark) (rows more n : ℕ) (st nx : Stage) (a : Ask) (lent : List ℕ) (ack : Bool) (got : List ℕ) → stage_ask n st ≡ a → length lent ≡ n
    → Bytes lent → Answers a got → stage_step lent m st ack got ≡ Open k nx → rows + counted a ack ≡ more → Kept (at m rows n st) → Kept (at k more n nx)
onto m k rows more n st nx a lent ack got q l b g e c h =
    subst (λ (r : ℕ). Kept (at k r n nx)) (ap (λ (x : Ask). rows + counted x ack) q ∙ c)
    (subst (λ (t : Turn). Kept (entered (rows + counted (stage_ask n st) ack) n t)) e
    (replied (at m rows n st) st lent ack got h refl l b (subst (λ (x : Ask). Answers x got) (sym q) g)))

-- one without data that counts no row
pub along : (m : Mark) (st nx : Stage) (a : Ask) (ack : Bool) (got : List ℕ) → stage_ask 0 st ≡ a → Answers a got
    → stage_step [] m st ack got ≡ Open m nx → counted a ack ≡ 0 → Kept (at m 0 0 st) → Kept (at m 0 0 nx)
along m st nx a ack got q g e c h = onto m m 0 0 0 st nx a [] ack got q refl bytes-none g e (omega (arith, c)) h

-- what holds at a number and goes down by one holds below it
pub downward : (P : ℕ → Type 0) → ((n : ℕ) → P (suc n) → P n) → (k n : ℕ) → P (k + n) → P n
downward P d zero n h = subst P (let e : 0 + n ≡ n = omega arith in e) h
downward P d (suc k) n h = d n (downward P d k (suc n) (subst P (let e : suc k + n ≡ k + suc n = omega arith in e) h))

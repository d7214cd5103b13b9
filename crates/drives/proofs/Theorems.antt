-- Every call, from every mark, with any replies whatever: the session asks for exactly the transfers of the definition's trace, ends with
-- its answer and its mark, and the rows that it counted are the acknowledged row writes of that trace.
use mathlib.Core.Path.{◌≡◌, refl, sym, subst, ap, ap₂, ◌∙◌}
use mathlib.Core.Bool.{true}
use mathlib.Core.List.{List, ◌∷◌}
use Prim.Native.Nat.{ℕ, ◌+◌, ◌≤◌}
use lib.ListN.{length}
use Rattle.std.specs.Prelude.{Some}
use Rattle.protocol.specs.Transfer.{Transfer}
use Rattle.protocol.specs.Mark.{Mark}
use Rattle.protocol.specs.Call.{Call}
use Rattle.protocol.specs.Calls.{call_of}
use Rattle.protocol.specs.Trace.{Replies, later, Exchange, trace, answer_of, mark_of, rows_of, Report, nothing, noted, report_on, End}
use Rattle.stages.specs.Turns.{stage_ask, stage_step, start_of, lent_to}
use Rattle.stages.specs.declared.stage.Turn.{Turn}
use Rattle.session.specs.Sound.{sound}
use Rattle.session.specs.Steps.{entered, counted}
use Rattle.session.specs.declared.session.Session.{Session}
use Rattle.runs.specs.Runs.{Runs}
use Rattle.runs.specs.Runs as runs
use Rattle.runs.proofs.Theorems.{session_runs}
use Rattle.kept.proofs.Theorems.{start_sound, step-sound, counts_rows}
use Rattle.drives.specs.Drives.{Drives, ends, goes}

drives : (lent : List ℕ) (r : Report) (t : Turn) (ρ : Replies) (es : List Exchange) (e : End) → Runs lent r t ρ es e
    → sound (entered r.rows (length lent) t) ≡ true → Drives lent r.rows t ρ es e
drives lent r t ρ es e runs.ends s = ends
drives lent r t ρ es e (runs.goes {m = m} {st = st} {t = x} {es = fs} et d) s =
    let q : Session = record { mark = m; rows = r.rows; lent = length lent; now = Some st } in
    let c : rows_of (record { transfer = x; reply = ρ 0 }) ≡ counted (stage_ask (length lent) st) (ρ 0).ack =
    ap (λ (y : Transfer). rows_of (record { transfer = y; reply = ρ 0 })) et ∙ counts_rows q st lent (ρ 0) s refl refl in
    let k : (noted r (record { transfer = x; reply = ρ 0 })).rows ≡ r.rows + counted (stage_ask (length lent) st) (ρ 0).ack = ap (λ (n : ℕ). r.rows + n) c in
    let u : Turn = stage_step lent m st (ρ 0).ack (ρ 0).got in
    let z : sound (entered (noted r (record { transfer = x; reply = ρ 0 })).rows (length lent) u) ≡ true =
    ap (λ (n : ℕ). sound (entered n (length lent) u)) k ∙ step-sound q st lent (ρ 0).ack (ρ 0).got s refl refl in
    goes et (subst (λ (n : ℕ). Drives lent n u (later ρ) fs e) k (drives lent (noted r (record { transfer = x; reply = ρ 0 })) u (later ρ) fs e d z))

pub session_drives : (c : Call) (m : Mark) (ρ : Replies) → m ≤ 8192
    → Drives (lent_to c) 0 (start_of c m) ρ (trace (call_of c m) ρ)
    (record { answer = answer_of (call_of c m) ρ; mark = mark_of m (call_of c m) ρ; report = report_on nothing (trace (call_of c m) ρ) })
session_drives c m ρ h = drives (lent_to c) nothing (start_of c m) ρ (trace (call_of c m) ρ) _ (session_runs c m ρ) (start_sound c m h)

-- And no other run: the replies decide the exchanges and the end.
pub drives_once : (lent : List ℕ) (k : ℕ) (t : Turn) (ρ : Replies) (es : List Exchange) (e : End) (fs : List Exchange) (f : End)
    → Drives lent k t ρ es e → Drives lent k t ρ fs f → (es ≡ fs) × (e ≡ f)
drives_once lent k t ρ es e fs f ends ends = (refl, refl)
drives_once lent k t ρ es e fs f (goes {t = x} {es = ds} p d) (goes {t = y} {es = gs} q g) =
    let r = drives_once lent _ _ (later ρ) ds e gs f d g in
    (ap₂ (λ (u : Transfer) (l : List Exchange). record { transfer = u; reply = ρ 0 } ∷ l) (p ∙ sym q) r.0, r.1)

-- Whatever a host does that carries the steps out: the bus sees the definition's transfers, and the answer, the rows and the mark are its own.
use mathlib.Core.Path.{◌≡◌, refl, sym, ap, ap₂, subst, ◌∙◌}
use mathlib.Core.Bool.{Bool, true, false, not}
use mathlib.Core.List.{List, ◌∷◌, ◌++◌}
use Prim.Native.Nat.{ℕ, ◌+◌, ◌-◌, ◌≤◌}
use native.Mathlib.Omega.{arith}
use lib.Dec.{eqb}
use lib.ListN.{length, take, drop, replicate, length-append, length-replicate}
use Rattle.std.specs.Prelude.{Some}
use Rattle.slices.specs.Pick.{pick}
use Rattle.protocol.specs.Transfer.{Transfer, Reply, write_read, place, sent}
use Rattle.protocol.specs.Tag.{user, user_memory}
use Rattle.protocol.specs.Mark.{Mark}
use Rattle.protocol.specs.Call.{Call}
use Rattle.protocol.specs.Trace.{Exchange, End}
use Rattle.protocol.specs.Answer.{answer_number, answer_value}
use Rattle.stages.specs.Turns.{stage_ask, stage_step, start_of, lent_to}
use Rattle.stages.specs.Able.{got_by}
use Rattle.stages.specs.declared.stage.Stage.{Stage}
use Rattle.stages.specs.declared.stage.Stage.TheVariants as G
use Rattle.stages.specs.declared.stage.Turn.{Turn}
use Rattle.stages.specs.declared.stage.Turn.TheVariants.{Open, Over}
use Rattle.session.specs.Sound.{sound}
use Rattle.session.specs.Steps.{idle, entered, counted}
use Rattle.state.specs.Bytes.{encode, decode_of}
use Rattle.telling.specs.Step.{answer_step, transfer_step, padded}
use Rattle.telling.specs.Left.{Left, into_out, waits_on, framed, settled, start_left, reply_left}
use Rattle.telling.specs.Fit.{StageFits, TurnFits}
use Rattle.kept.proofs.Theorems.{start_sound, step-sound}
use Rattle.entry.proofs.Asks.{turn-fits}
use Rattle.entry.proofs.Opens.{decoded_inside}
use Rattle.drives.specs.Drives.{Drives, ends, goes}
use Rattle.drives.proofs.Theorems.{session_drives}
use Rattle.hosts.specs.Hosts.{kind_of, Bus, on_bus, asked_by, Act, acts, out_for, Hosts, here, carried, replies_of, Agrees}
use Rattle.hosts.proofs.Fields.{kind-answer, kind-transfer, kind-reply, kind_out, asked_is}
use Rattle.hosts.proofs.Nears.{stage_near}
use Rattle.hosts.proofs.Outs.{Out, step_out, start_out}
use Rattle.hosts.proofs.Goes.{start_goes, reply-goes}

in_reply : (x : Transfer) (r out : List ℕ) → pick (eqb (kind_of (transfer_step false x)) 3) out r ≡ r
in_reply x r out = ap (λ (b : Bool). pick b out r) (kind-reply x)

in_out : (dev : ℕ) (head : List ℕ) (n : ℕ) (r out : List ℕ) → pick (eqb (kind_of (transfer_step true (write_read dev head n))) 3) out r ≡ out
in_out dev head n r out = ap (λ (b : Bool). pick b out r) (kind_out dev head n)

-- the host finds the bytes of a read where the session looks for them
got-is : (lent : List ℕ) (st : Stage) (r out : List ℕ) → pick (eqb (kind_of (transfer_step (into_out st) (waits_on lent st))) 3) out r ≡ got_by st r out
got-is lent (G.ReadUser at k) r out = in_out user (place at) k r out
got-is lent G.WholeRead r out = in_out user (place 0) user_memory r out
got-is lent G.Identify r out = in_reply (waits_on lent G.Identify) r out
got-is lent (G.Prepare s) r out = in_reply (waits_on lent (G.Prepare s)) r out
got-is lent (G.WaitReady w) r out = in_reply (waits_on lent (G.WaitReady w)) r out
got-is lent (G.Write w) r out = in_reply (waits_on lent (G.Write w)) r out
got-is lent (G.Switching s) r out = in_reply (waits_on lent (G.Switching s)) r out
got-is lent G.RfWrote r out = in_reply (waits_on lent G.RfWrote) r out
got-is lent (G.WholeOff s) r out = in_reply (waits_on lent (G.WholeOff s)) r out
got-is lent G.WholeStatus r out = in_reply (waits_on lent G.WholeStatus) r out
got-is lent (G.Wipe s) r out = in_reply (waits_on lent (G.Wipe s)) r out
got-is lent (G.BeginSetup s) r out = in_reply (waits_on lent (G.BeginSetup s)) r out
got-is lent (G.BeginOff s) r out = in_reply (waits_on lent (G.BeginOff s)) r out
got-is lent G.LiveStatus r out = in_reply (waits_on lent G.LiveStatus) r out
got-is lent (G.FinishOff s) r out = in_reply (waits_on lent (G.FinishOff s)) r out
got-is lent (G.FinishStatus stuck) r out = in_reply (waits_on lent (G.FinishStatus stuck)) r out
got-is lent (G.FinishWipe stuck s) r out = in_reply (waits_on lent (G.FinishWipe stuck s)) r out

-- the transfer buffer is long enough after a step too
framed-long : (lent : List ℕ) (st : Stage) (t : List ℕ) → 19 ≤ length (framed lent st t)
framed-long lent st t =
    let bs : List ℕ = sent (waits_on lent st) in
    let a : length (padded bs ++ drop 19 t) ≡ length (padded bs) + length (drop 19 t) = length-append (padded bs) (drop 19 t) in
    let b : length (padded bs) ≡ length bs + length {A = ℕ} (replicate (19 - length bs) 0) = length-append bs (replicate (19 - length bs) 0) in
    let c : length {A = ℕ} (replicate (19 - length bs) 0) ≡ 19 - length bs = length-replicate (19 - length bs) 0 in
    omega arith

-- the step and the transfer buffer say what the stage waits on
said : (lent : List ℕ) (k : ℕ) (m : Mark) (st : Stage) (t : List ℕ) → sound (entered k (length lent) (Open m st)) ≡ true
    → asked_by (transfer_step (into_out st) (waits_on lent st)) (framed lent st t) ≡ on_bus (waits_on lent st)
unfolding TurnFits StageFits
said lent k m st t s =
    asked_is (into_out st) lent (stage_ask (length lent) st) (drop 19 t) (stage_near (length lent) st) (turn-fits k (length lent) (Open m st) s).1

-- what a host has done so far, beside the run that its replies make
record Along (es : List Act) (e : Left) (xs : List Exchange) (end : End) : Type 0 where
  begun : es ≡ take (length es) (acts xs)
  within : length es ≤ length xs
  bus : kind_of e.step ≡ 0 → es ≡ acts xs
  step : kind_of e.step ≡ 0 → e.step ≡ answer_step (answer_number end.answer) end.report.rows (answer_value end.answer)
  state : kind_of e.step ≡ 0 → e.state ≡ encode (idle end.mark)

along : (lent : List ℕ) (o k : ℕ) (u : Turn) (t r : List ℕ) (l : Left) (es : List Act) (e : Left) (xs : List Exchange) (end : End)
    → l ≡ settled lent k u t r → sound (entered k (length lent) u) ≡ true → Out o u → 19 ≤ length t → 64 ≤ length r
    → Drives lent k u (replies_of es) xs end → Hosts lent o l es e → Along es e xs end
along lent o k (Over m a) t r l es e xs end el s h ht hr ends here = record {
  begun = refl;
  within = omega arith;
  bus = λ z. refl;
  step = λ z. ap (λ (x : Left). x.step) el;
  state = λ z. ap (λ (x : Left). x.state) el;
}
along lent o k (Over m a) t r l es e xs end el s h ht hr d (carried ack q out nz eq eo f) =
    absurd (nz (ap (λ (x : Left). kind_of x.step) el ∙ kind-answer (answer_number a) k (answer_value a)))
along lent o k (Open m st) t r l es e xs end el s h ht hr d here =
    let no : kind_of l.step ≡ 0 → ⊥ =
    λ z. kind-transfer (into_out st) (waits_on lent st) (sym (ap (λ (x : Left). kind_of x.step) el) ∙ z) in
    record {
      begun = refl;
      within = omega arith;
      bus = λ z. absurd (no z);
      step = λ z. absurd (no z);
      state = λ z. absurd (no z);
    }
along lent o k (Open m st) t r l es e xs end el s h ht hr (goes {t = x} {es = ys} p d) (carried {es = fs} ack q out nz eq eo f) =
    let b : Bool = not (eqb ack 0) in
    let hq : 64 ≤ length q = subst (λ (n : ℕ). 64 ≤ n) (sym (eq ∙ ap (λ (x : Left). length x.reply) el)) hr in
    let u : Turn = stage_step lent m st b (got_by st q out) in
    let n : ℕ = k + counted (stage_ask (length lent) st) b in
    let en : reply_left l.state l.transfer q lent out ack ≡ settled lent n u (framed lent st t) q =
    ap (λ (x : Left). reply_left x.state x.transfer q lent out ack) el
    ∙ reply-goes m k st lent (framed lent st t) q out ack s (framed-long lent st t) hq (eo ∙ sym h) in
    let sn = step-sound (record { mark = m; rows = k; lent = length lent; now = Some st }) st lent b (got_by st q out) s refl refl in
    let hn = subst (λ (j : ℕ). Out j u) h (step_out lent m st b (got_by st q out)) in
    let g : pick (eqb (kind_of l.step) 3) out q ≡ got_by st q out =
    ap (λ (x : Left). pick (eqb (kind_of x.step) 3) out q) el ∙ got-is lent st q out in
    let dn = subst (λ (y : List ℕ). Drives lent n (stage_step lent m st b y) (replies_of fs) ys end) g d in
    let i = along lent o n u (framed lent st t) q _ fs e ys end en sn hn (framed-long lent st t) hq dn f in
    let y : Reply = record { ack = b; got = pick (eqb (kind_of l.step) 3) out q } in
    let w : asked_by l.step l.transfer ≡ on_bus x = ap (λ (x : Left). asked_by x.step x.transfer) el ∙ said lent k m st t s ∙ ap on_bus (sym p) in
    record {
      begun = ap₂ (λ (x : Bus) (z : List Act). record { bus = x; reply = y } ∷ z) w i.begun;
      within = (let j = i.within in omega arith);
      bus = λ z. ap₂ (λ (x : Bus) (z : List Act). record { bus = x; reply = y } ∷ z) w (i.bus z);
      step = i.step;
      state = i.state;
    }

-- Any host, any replies: what the bus sees is the beginning of the definition's run, it is never longer, and with the answer it is all of it.
pub hosts_agree : (c : Call) (m : Mark) (s t r : List ℕ) (es : List Act) (e : Left) → decode_of s ≡ Some (idle m) → 19 ≤ length t → 64 ≤ length r
    → Hosts (lent_to c) (out_for c) (start_left c s t r) es e → Agrees c m es e
hosts_agree c m s t r es e d ht hr h =
    let hm : m ≤ 8192 = decoded_inside s (Some (idle m)) (sym d) in
    let i = along (lent_to c) (out_for c) 0 (start_of c m) t r _ es e _ _ (start_goes c m s t r d ht hr) (start_sound c m hm) (start_out c m) ht hr
    (session_drives c m (replies_of es) hm) h in
    record {
      begun = i.begun;
      within = i.within;
      answered = λ z. record { bus = i.bus z; step = i.step z; state = i.state z };
    }

-- The short way leaves what the general way leaves.
use mathlib.Core.Path.{◌≡◌, refl, sym, subst, ap, ◌∙◌}
use mathlib.Core.Bool.{Bool, true, false, not, ◌&&◌, ◌||◌}
use mathlib.Core.Logic.{◌⊎◌, inl, inr}
use mathlib.Core.List.{List, [], ◌++◌}
use Prim.Native.Nat.{ℕ, zero, suc, ◌+◌, ◌≤◌, ◌<◌}
use native.Mathlib.Omega.{arith}
use lib.Dec.{eqb, ltb, leb}
use lib.ListN.{length, drop}
use borrow.Author.Tests.{eqb-true, ltb-true, ltb-false, leb-true, not-false, le-leb, le-ltb, eq-eqb}
use Rattle.std.specs.Prelude.{Option, Some, None, Ok}
use Rattle.slices.specs.Bytes.{Wrote}
use Rattle.slices.proofs.Truths.{both, both_so, either, either_no}
use Rattle.protocol.specs.Transfer.{Transfer, sent}
use Rattle.machine.specs.Ask.{meant}
use Rattle.machine.specs.Wait.{wait_ask}
use Rattle.machine.specs.declared.ask.Ask.{Ask}
use Rattle.machine.specs.declared.wait.Wait.{Wait}
use Rattle.machine.specs.declared.wait.Wait.TheVariants as W
use Rattle.wipe.specs.Scrub.{scrub_ask, scrub_step}
use Rattle.wipe.specs.declared.scrub.Scrub.{Scrub}
use Rattle.wipe.specs.declared.scrub.Scrub.TheVariants as C
use Rattle.stages.specs.Turns.{stage_ask, stage_step, wipe_turn, finish_turn}
use Rattle.stages.specs.Able.{got_by}
use Rattle.stages.specs.declared.stage.Stage.{Stage}
use Rattle.stages.specs.declared.stage.Turn.TheVariants.{Open}
use Rattle.session.specs.Sound.{scrub_sound, stage_sound, sound}
use Rattle.session.specs.Steps.{counted, out_of}
use Rattle.session.specs.declared.session.Session.{Session}
use Rattle.numbers.specs.Flat.{scrub_code, scrub_place, stage_tag, stage_code, stage_place, flatten}
use Rattle.numbers.specs.declared.flat.Flat.{Flat}
use Rattle.state.specs.Bytes.{bytes_of, flat_of, decode_flat, decode_of}
use Rattle.kept.proofs.Decode.{flat_decoded}
use Rattle.telling.specs.Step.{transfer_step, padded, ask_step, AskFits}
use Rattle.telling.proofs.Frames.{ask-step, put_all, put_frame}
use Rattle.telling.specs.Left.{Left, misfit, heard_by, settled, replied_left, reply_left}
use Rattle.wiping.specs.Onward.{wipes, wipe_stage, wiping, moved, noted, Fits, Move, Moves, short_left, Short}
use Rattle.wiping.specs.declared.after.Onward.{Onward}
use Rattle.wiping.specs.declared.short.Next.{Next}

below_two : (Q : ℕ → Type 0) → Q 0 → Q 1 → (k : ℕ) → k < 2 → Q k
below_two Q a b zero h = a
below_two Q a b (suc zero) h = b
below_two Q a b (suc (suc k)) h = absurd (omega arith)

module _ (P : ℕ → ℕ → Type 0) (a : P 12 0) (b : P 18 0) (c : P 18 1) where
  one_of : (tag which : ℕ) → ((eqb tag 12 && eqb which 0) ≡ true) ⊎ ((eqb tag 18 && ltb which 2) ≡ true) → P tag which
  one_of tag which (inl h) =
      let g = both (eqb tag 12) (eqb which 0) h in
      subst (λ (w : ℕ). P tag w) (sym (eqb-true which 0 g.1)) (subst (λ (t : ℕ). P t 0) (sym (eqb-true tag 12 g.0)) a)
  one_of tag which (inr h) =
      let g = both (eqb tag 18) (ltb which 2) h in
      subst (λ (t : ℕ). P t which) (sym (eqb-true tag 18 g.0)) (below_two (P 18) b c which (ltb-true which 2 g.1))

  -- what holds of the three stages that wipe
  by_tag : (tag which : ℕ) → wipes tag which ≡ true → P tag which
  by_tag tag which e = one_of tag which (either (eqb tag 12 && eqb which 0) (eqb tag 18 && ltb which 2) e)

stage_is : (s : Scrub) (tag which : ℕ) → wipes tag which ≡ true
    → (stage_tag (wipe_stage tag which s) ≡ tag) × (stage_code (wipe_stage tag which s) ≡ scrub_code which s) × (stage_place (wipe_stage tag which s) ≡ scrub_place s)
stage_is s =
    by_tag (λ (t w : ℕ). (stage_tag (wipe_stage t w s) ≡ t) × (stage_code (wipe_stage t w s) ≡ scrub_code w s) × (stage_place (wipe_stage t w s) ≡ scrub_place s))
    (refl, refl, refl) (refl, refl, refl) (refl, refl, refl)

stage_sane : (m rows : ℕ) (s : Scrub) → scrub_sound m rows s ≡ true → (tag which : ℕ) → wipes tag which ≡ true → stage_sound m rows 0 (wipe_stage tag which s) ≡ true
stage_sane m rows s h = by_tag (λ (t w : ℕ). stage_sound m rows 0 (wipe_stage t w s) ≡ true) h h h

no_out : (s : Scrub) (tag which : ℕ) → wipes tag which ≡ true → out_of (wipe_stage tag which s) ≡ 0
no_out s = by_tag (λ (t w : ℕ). out_of (wipe_stage t w s) ≡ 0) refl refl refl

count-is : (n : ℕ) (s : Scrub) (tag which : ℕ) → wipes tag which ≡ true → counted (stage_ask n (wipe_stage tag which s)) true ≡ counted (scrub_ask s) true
count-is n s = by_tag (λ (t w : ℕ). counted (stage_ask n (wipe_stage t w s)) true ≡ counted (scrub_ask s) true) refl refl refl

step_is : (lent r out : List ℕ) (m : ℕ) (s next : Scrub) → scrub_step s true r ≡ Ok (Some next) → (tag which : ℕ) → wipes tag which ≡ true
    → stage_step lent m (wipe_stage tag which s) true (got_by (wipe_stage tag which s) r out) ≡ Open m (wipe_stage tag which next)
step_is lent r out m s next e =
    by_tag (λ (t w : ℕ). stage_step lent m (wipe_stage t w s) true (got_by (wipe_stage t w s) r out) ≡ Open m (wipe_stage t w next))
    (ap (wipe_turn m) e) (ap (finish_turn m false) e) (ap (finish_turn m true) e)

wait_meant : (lent : List ℕ) (w : Wait) → meant lent (wait_ask w) ≡ meant [] (wait_ask w)
wait_meant lent (W.Poll n) = refl
wait_meant lent (W.Pause n) = refl

-- a wipe sends none of the data
wipe_meant : (lent : List ℕ) (s : Scrub) → meant lent (scrub_ask s) ≡ meant [] (scrub_ask s)
wipe_meant lent (C.Read p) = refl
wipe_meant lent (C.Row p r) = refl
wipe_meant lent (C.Wait p r w) = wait_meant lent w
wipe_meant lent (C.Reread p) = refl

module _ (lent t r : List ℕ) (m n : ℕ) (next : Scrub) where
  abbrev left_by : ℕ → ℕ → ℕ → Transfer → Left
  left_by tag which k x = record {
    step = transfer_step false x;
    state = bytes_of (record { stage = tag; code = scrub_code which next; place = scrub_place next; mark = m; rows = n; lent = k });
    transfer = padded (sent x) ++ drop 19 t;
    reply = r;
  }

  settles : length lent ≡ 0 → (tag which : ℕ) → wipes tag which ≡ true
      → settled lent n (Open m (wipe_stage tag which next)) t r ≡ left_by tag which 0 (meant [] (scrub_ask next))
  settles e =
      let x = wipe_meant lent next in
      by_tag (λ (tag which : ℕ). settled lent n (Open m (wipe_stage tag which next)) t r ≡ left_by tag which 0 (meant [] (scrub_ask next)))
      (λ i. left_by 12 0 (e i) (x i)) (λ i. left_by 18 0 (e i) (x i)) (λ i. left_by 18 1 (e i) (x i))

module _ (f : Flat) (s : Scrub) (w : wipes f.stage f.code.which ≡ true) (e : f.lent ≡ 0) (inside : f.mark ≤ 8192) (h : Fits f s)
    (sane : scrub_sound f.mark f.rows s ≡ true) where
  flat_own : f ≡ flatten (wiping f f.rows s)
  flat_own =
      let g = stage_is s f.stage f.code.which w in
      let t = sym g.0 in
      let c = h.code ∙ sym g.1 in
      let p = h.place ∙ sym g.2 in
      λ i. record { stage = t i; code = c i; place = p i; mark = f.mark; rows = f.rows; lent = e i }

  flat_sound : sound (wiping f f.rows s) ≡ true
  flat_sound = both_so _ _ (le-leb f.mark 8192 inside) (stage_sane f.mark f.rows s sane f.stage f.code.which w)

  flat_wipes : decode_flat f ≡ Some (wiping f f.rows s)
  flat_wipes = ap decode_flat flat_own ∙ flat_decoded (wiping f f.rows s) flat_sound

fit_all : (q : Session) (st : Stage) (t r lent out : ℕ) → 19 ≤ t → 64 ≤ r → lent ≡ q.lent → out ≡ out_of st → misfit q st t r lent out ≡ false
fit_all q st t r lent out ht hr el eo = rw (le-ltb t 19 ht, le-ltb r 64 hr, eq-eqb lent q.lent el, eq-eqb out (out_of st) eo)

module _ (l t r lent out : List ℕ) (ack : ℕ) (long : length l ≡ 20) (ht : 19 ≤ length t) (hr : 64 ≤ length r) (hl : length lent ≡ 0) (ho : length out ≡ 0)
    (yes : not (eqb ack 0) ≡ true) where
  heard-is : (q : Session) (st : Stage) → decode_flat (flat_of l) ≡ Some q → q.now ≡ Some st → q.lent ≡ 0 → out_of st ≡ 0
      → heard_by (decode_of l) (length t) (length r) (length lent) (length out) ≡ Ok (record { mark = q.mark; rows = q.rows; stage = st })
  heard-is q st d o z k =
      let n : decode_of l ≡ Some q = rw (eq-eqb (length l) 20 long) d in
      let a : misfit q st (length t) (length r) (length lent) (length out) ≡ false = fit_all q st (length t) (length r) (length lent) (length out) ht hr (hl ∙ sym z) (ho ∙ sym k) in
      rw (n, o, a)

  pub short-is : (f : Flat) → f ≡ flat_of l → (n : ℕ) (next : Scrub) → wipes f.stage f.code.which ≡ true → f.lent ≡ 0 → f.mark ≤ 8192 → Move f r n next
      → reply_left l t r lent out ack ≡ short_left (moved f n next) next t r
  short-is f ef n next w e inside v =
      let s = v.from in
      let st = wipe_stage f.stage f.code.which s in
      let o = v.onto in
      let d : decode_flat (flat_of l) ≡ Some (wiping f f.rows s) = ap decode_flat (sym ef) ∙ flat_wipes f s w e inside v.fits o.sane in
      let hd = heard-is (wiping f f.rows s) st d refl refl (no_out s f.stage f.code.which w) in
      let k : f.rows + counted (stage_ask (length lent) st) true ≡ n = ap (λ (c : ℕ). f.rows + c) (count-is (length lent) s f.stage f.code.which w) ∙ sym o.count in
      let u = step_is lent r out f.mark s next o.step f.stage f.code.which w in
      (λ i. replied_left (hd i) l t r lent out (yes i))
      ∙ ((λ i. settled lent (k i) (u i) t r) ∙ settles lent t r f.mark n next hl f.stage f.code.which w)

  short-by : (f : Flat) (o : Option Onward) (x : Option Next) → f ≡ flat_of l → wipes f.stage f.code.which ≡ true → f.lent ≡ 0 → f.mark ≤ 8192 → Moves f r o
      → x ≡ noted f o → Short l t r lent out ack x
  short-by f (Some o) x ef w e inside v ex =
      subst (Short l t r lent out ack) (sym ex) (long, ht, short-is f ef o.rows o.wipe w e inside v)
  short-by f None x ef w e inside v ex = subst (Short l t r lent out ack) (sym ex) tt

-- what the checks of the short way say where they pass
passed : (ack t r lent out : ℕ) → (eqb ack 0 || ltb t 19 || ltb r 64 || not (eqb lent 0) || not (eqb out 0)) ≡ false
    → (not (eqb ack 0) ≡ true) × (19 ≤ t) × (64 ≤ r) × (lent ≡ 0) × (out ≡ 0)
passed ack t r lent out e =
    let h4 = either_no _ (not (eqb out 0)) e in
    let h3 = either_no _ (not (eqb lent 0)) h4.0 in
    let h2 = either_no _ (ltb r 64) h3.0 in
    let h1 = either_no (eqb ack 0) (ltb t 19) h2.0 in
    (ap not h1.0, ltb-false t 19 h1.1, ltb-false r 64 h2.1, eqb-true lent 0 (not-false _ h3.1), eqb-true out 0 (not-false _ h4.1))

wiping-says : (f : Flat) (b : Bool) → b ≡ wipes f.stage f.code.which → (b && eqb f.lent 0 && leb f.mark 8192) ≡ true
    → (wipes f.stage f.code.which ≡ true) × (f.lent ≡ 0) × (f.mark ≤ 8192)
wiping-says f b eb e =
    let h2 = both _ (leb f.mark 8192) e in
    let h1 = both b (eqb f.lent 0) h2.0 in
    (sym eb ∙ h1.0, eqb-true f.lent 0 h1.1, leb-true f.mark 8192 h2.1)

-- the wipe may move
pub moves_may : (ack t r lent out : ℕ) (f : Flat) (b : Bool) → (eqb ack 0 || ltb t 19 || ltb r 64 || not (eqb lent 0) || not (eqb out 0)) ≡ false
    → b ≡ wipes f.stage f.code.which → (b && eqb f.lent 0 && leb f.mark 8192) ≡ true → (f.mark ≤ 8192) × (64 ≤ r)
moves_may ack t r lent out f b e eb h = ((wiping-says f b eb h).2, (passed ack t r lent out e).2)

-- what the code of `next_of` comes to
pub next-is : (l t r lent out : List ℕ) (ack : ℕ) (f : Flat) (b : Bool) (o : Option Onward) (x : Option Next) → length l ≡ 20
    → (eqb ack 0 || ltb (length t) 19 || ltb (length r) 64 || not (eqb (length lent) 0) || not (eqb (length out) 0)) ≡ false
    → f ≡ flat_of l → b ≡ wipes f.stage f.code.which → (b && eqb f.lent 0 && leb f.mark 8192) ≡ true → Moves f r o → x ≡ noted f o
    → Short l t r lent out ack x
next-is l t r lent out ack f b o x long e ef eb h v ex =
    let p = passed ack (length t) (length r) (length lent) (length out) e in
    let w = wiping-says f b eb h in
    short-by l t r lent out ack long p.1 p.2 p.3 p.4 p.0 f o x ef w.0 w.1 w.2 v ex

pub wait_fits : (n : ℕ) (w : Wait) → AskFits n (wait_ask w)
wait_fits n (W.Poll k) = tt
wait_fits n (W.Pause k) = tt

pub scrub-fits : (n : ℕ) (s : Scrub) → AskFits n (scrub_ask s)
scrub-fits n (C.Read p) = omega arith
scrub-fits n (C.Row p r) = tt
scrub-fits n (C.Wait p r w) = wait_fits n w
scrub-fits n (C.Reread p) = omega arith

-- the transfer of a step, and its number, as the code has them
pub asks-is : (s : Scrub) (a : Ask) (frame t sending : List ℕ) (j step : ℕ) → a ≡ scrub_ask s → frame ≡ padded (sent (meant [] a)) → Wrote t 0 frame sending j
    → step ≡ ask_step false a → (step ≡ transfer_step false (meant [] (scrub_ask s))) × (sending ≡ padded (sent (meant [] (scrub_ask s))) ++ drop 19 t)
asks-is s a frame t sending j step ea ef wf es = (
  (es ∙ ap (ask_step false) ea) ∙ ask-step false [] (scrub_ask s) (scrub-fits 0 s),
  put_frame t frame sending [] j (scrub_ask s) (scrub-fits 0 s) (ef ∙ ap (λ (x : Ask). padded (sent (meant [] x))) ea) wf,
)

-- what the code of `leave` comes to
pub leave_is : (s : Scrub) (f : Flat) (a : Ask) (b state after : List ℕ) (k : ℕ) (frame t sending : List ℕ) (j step : ℕ) → length state ≡ 20 → b ≡ bytes_of f
    → Wrote state 0 b after k → a ≡ scrub_ask s → frame ≡ padded (sent (meant [] a)) → Wrote t 0 frame sending j → step ≡ ask_step false a
    → (step ≡ transfer_step false (meant [] (scrub_ask s))) × (after ≡ bytes_of f) × (sending ≡ padded (sent (meant [] (scrub_ask s))) ++ drop 19 t)
leave_is s f a b state after k frame t sending j step n eb wb ea ef wf es =
    let h = asks-is s a frame t sending j step ea ef wf es in
    (h.0, put_all state b after k (n ∙ sym (ap length eb)) wb ∙ eb, h.1)

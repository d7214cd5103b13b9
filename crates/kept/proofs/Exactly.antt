-- Every sound session is one that some calls leave.
use mathlib.Core.Path.{◌≡◌, refl, sym, subst, ap}
use mathlib.Core.Bool.{Bool, true, false, not, ◌&&◌}
use mathlib.Core.List.{List, [], ◌∷◌}
use Prim.Native.Nat.{ℕ, ◌≤◌, ◌<◌}
use native.Mathlib.Omega.{arith}
use lib.ListN.{length, replicate, length-replicate}
use lib.Dec.{eqb, leb}
use borrow.Author.Tests.{eqb-true, not-true}
use Rattle.std.specs.Prelude.{Option, Some, None, Err}
use Rattle.slices.specs.Pick.{pick}
use Rattle.slices.proofs.Truths.{both}
use Rattle.protocol.specs.Mark.{Mark, wipe_end}
use Rattle.protocol.specs.Write.{past}
use Rattle.protocol.specs.Call.{Call}
use Rattle.protocol.specs.Call as call
use Rattle.protocol.specs.declared.answer.TagError.TheVariants.{NotTaken}
use Rattle.machine.specs.Wait.{wait_new}
use Rattle.machine.specs.Switch.{switch_new}
use Rattle.machine.specs.declared.wait.Wait.{Wait}
use Rattle.machine.specs.declared.switch.Switch.{Switch}
use Rattle.machine.specs.declared.switch.Switch.TheVariants.{Look, Rest}
use Rattle.setup.specs.declared.setup.Setup.{Setup}
use Rattle.setup.specs.declared.setup.Setup.TheVariants as I
use Rattle.wipe.specs.Scrub.{chunk_from}
use Rattle.wipe.specs.declared.scrub.Scrub.{Scrub}
use Rattle.wipe.specs.declared.scrub.Scrub.TheVariants as C
use Rattle.writing.specs.declared.write.Write.{Write}
use Rattle.stages.specs.Turns.{stage_ask, stage_step, start_of, lent_to, wait_turn, prepare_turn, begin_turn, switch_turn, whole_turn, begin_off_turn, finish_off_turn, wipe_turn, finish_turn}
use Rattle.stages.specs.declared.stage.Stage.{Stage}
use Rattle.stages.specs.declared.stage.Stage.TheVariants as G
use Rattle.stages.specs.declared.stage.Turn.TheVariants as D
use Rattle.session.specs.Sound.{wait_sound, setup_sound, switch_sound, off_sound, scrub_sound, plain, stage_sound, now_sound, sound}
use Rattle.session.specs.Steps.{counted}
use Rattle.session.specs.declared.session.Session.{Session}
use Rattle.kept.specs.Bytes.{Bytes}
use Rattle.kept.specs.Kept.{asked, Kept}
use Rattle.kept.proofs.Replies.{bytes-none, bytes-zeros, says-one}
use Rattle.kept.proofs.Chunks.{scrub-says}
use Rattle.kept.proofs.Pieces.{write-says}
use Rattle.kept.proofs.Sounds.{mark-inside}
use Rattle.kept.proofs.Reach.{at, left-idle, called, along}
use Rattle.kept.proofs.ReachMachines.{wait_reached, switch_reached, off_reached, setup_reached}
use Rattle.kept.proofs.ReachWipes.{scrub-reached}
use Rattle.kept.proofs.ReachWrites.{write-reached}

module _ (m : Mark) (h : m ≤ 8192) where
  abbrev Here : Stage → Type 0
  Here st = Kept (at m 0 0 st)

  -- the calls that begin with one transfer, whatever they are given
  starts : (c : Call) (st : Stage) → lent_to c ≡ [] → start_of c m ≡ D.Open m st → Here st
  starts c st l e = called c m m 0 st h (ap length l) (subst Bytes (sym l) bytes-none) e

  -- a reply of one byte
  reply : (st nx : Stage) (x : ℕ) → asked (stage_ask 0 st) ≤ 1 → x < 256 → stage_step [] m st true (x ∷ []) ≡ D.Open m nx → counted (stage_ask 0 st) true ≡ 0 → Here st → Here nx
  reply st nx x n b = along m st nx (stage_ask 0 st) true (x ∷ []) refl (says-one (stage_ask 0 st) x n b)

  waits : (w : Wait) → wait_sound w ≡ true → Here (G.WaitReady w)
  waits w e =
      wait_reached m 0 0 [] refl bytes-none G.WaitReady (λ x y ack q. ap (wait_turn m) q) (λ x. refl) w e
      (starts call.wait_ready (G.WaitReady wait_new) refl refl)

  prepares : (s : Setup) → setup_sound s ≡ true → Here (G.Prepare s)
  prepares s e =
      setup_reached m G.Prepare (λ x y ack got q. ap (prepare_turn m) q) (λ x. refl)
      (starts call.prepare (G.Prepare I.Identify) refl refl) s e

  reads : (a k : ℕ) → past a k ≡ false → Here (G.ReadUser a k)
  reads a k e = starts (call.read_user a k) (G.ReadUser a k) refl (ap (λ (b : Bool). pick b (D.Over m (Err NotTaken)) (D.Open m (G.ReadUser a k))) e)

  switches : (s : Switch) → switch_sound s ≡ true → Here (G.Switching s)
  switches s e =
      switch_reached m G.Switching (λ x y ack v q. ap (switch_turn m) q) (λ x. refl) s e
      (starts call.rf_on (G.Switching (switch_new true)) refl refl) (starts call.rf_off (G.Switching (switch_new false)) refl refl)

  whole_off : (s : Switch) → off_sound s ≡ true → Here (G.WholeOff s)
  whole_off s e =
      off_reached m G.WholeOff (λ x y ack v q. ap (whole_turn m) q) (λ x. refl) s e
      (starts (call.read_whole 8192) (G.WholeOff (switch_new false)) refl refl)

  -- RF reads as off
  whole_status : Here G.WholeStatus
  whole_status = reply (G.WholeOff (Look false 9)) G.WholeStatus 4 (omega arith) (omega arith) refl refl (whole_off (Look false 9) refl)

  whole-read : Here G.WholeRead
  whole-read = reply G.WholeStatus G.WholeRead 0 (omega arith) (omega arith) refl refl whole_status

  begins : Here (G.BeginSetup I.Identify)
  begins = starts call.begin (G.BeginSetup I.Identify) refl refl

  begin_setup : (s : Setup) → setup_sound s ≡ true → Here (G.BeginSetup s)
  begin_setup s e = setup_reached m G.BeginSetup (λ x y ack got q. ap (begin_turn m) q) (λ x. refl) begins s e

  begin_off : (s : Switch) → off_sound s ≡ true → Here (G.BeginOff s)
  begin_off s e =
      off_reached m G.BeginOff (λ x y ack v q. ap (begin_off_turn m) q) (λ x. refl) s e
      (reply (G.BeginSetup I.Events) (G.BeginOff (switch_new false)) 0x85 (omega arith) (omega arith) refl refl (begin_setup I.Events refl))

  finish_off : (s : Switch) → off_sound s ≡ true → Here (G.FinishOff s)
  finish_off s e =
      off_reached m G.FinishOff (λ x y ack v q. ap (finish_off_turn m) q) (λ x. refl) s e
      (starts call.finish (G.FinishOff (switch_new false)) refl refl)

  -- RF was stuck after the last try, or reads as off
  finish_status : (stuck : Bool) → Here (G.FinishStatus stuck)
  finish_status true = reply (G.FinishOff (Rest false 0)) (G.FinishStatus true) 0 (omega arith) (omega arith) refl refl (finish_off (Rest false 0) refl)
  finish_status false = reply (G.FinishOff (Look false 9)) (G.FinishStatus false) 4 (omega arith) (omega arith) refl refl (finish_off (Look false 9) refl)

  wipes : (rows : ℕ) (s : Scrub) → scrub_sound m rows s ≡ true → Kept (at m rows 0 (G.Wipe s))
  wipes rows s e =
      scrub-reached m G.Wipe (λ x y ack got q. ap (wipe_turn m) q) (λ x. refl)
      (λ left q. starts call.scrub _ refl (ap (λ (k : ℕ). wipe_turn m (chunk_from k 0 (wipe_end m))) q)) rows s (scrub-says m rows s e)

  -- no phone wrote
  finish-wipes : (stuck : Bool) (rows : ℕ) (s : Scrub) → scrub_sound m rows s ≡ true → Kept (at m rows 0 (G.FinishWipe stuck s))
  finish-wipes stuck rows s e =
      scrub-reached m (G.FinishWipe stuck) (λ x y ack got q. ap (finish_turn m stuck) q) (λ x. refl)
      (λ left q. reply (G.FinishStatus stuck) (G.FinishWipe stuck (C.Read (record { left = left; at = 0; end = wipe_end m }))) 0 (omega arith) (omega arith)
      (ap (λ (k : ℕ). finish_turn m stuck (chunk_from k 0 (wipe_end m))) q) refl (finish_status stuck))
      rows s (scrub-says m rows s e)

  -- the data of a write: as many bytes as it has
  writes : (rows n : ℕ) (w : Write) → stage_sound m rows n (G.Write w) ≡ true → Kept (at m rows n (G.Write w))
  writes rows n w e =
      let bs : List ℕ = replicate n 0 in
      let l : length bs ≡ n = length-replicate n 0 in
      subst (λ (k : ℕ). Kept (at m rows k (G.Write w))) l
      (write-reached m h bs (bytes-zeros n) rows w (write-says m (length bs) rows w (subst (λ (k : ℕ). stage_sound m rows k (G.Write w) ≡ true) (sym l) e)))

  -- no rows, and no data
  plainly : (rows n : ℕ) (st : Stage) → plain rows n ≡ true → Here st → Kept (at m rows n st)
  plainly rows n st e x =
      let a = both (eqb rows 0) (eqb n 0) e in
      subst (λ (k : ℕ). Kept (at m k n st)) (sym (eqb-true rows 0 a.0)) (subst (λ (k : ℕ). Kept (at m 0 k st)) (sym (eqb-true n 0 a.1)) x)

  -- a machine in a stage with no rows and no data
  within : (rows n : ℕ) (st : Stage) (b : Bool) → (plain rows n && b) ≡ true → (b ≡ true → Here st) → Kept (at m rows n st)
  within rows n st b e f = let a = both (plain rows n) b e in plainly rows n st a.0 (f a.1)

  wiping : (rows n : ℕ) (st : Stage) (b : Bool) → (eqb n 0 && b) ≡ true → (b ≡ true → Kept (at m rows 0 st)) → Kept (at m rows n st)
  wiping rows n st b e f = let a = both (eqb n 0) b e in subst (λ (k : ℕ). Kept (at m rows k st)) (sym (eqb-true n 0 a.0)) (f a.1)

  stage_left : (rows n : ℕ) (st : Stage) → stage_sound m rows n st ≡ true → Kept (at m rows n st)
  stage_left rows n G.Identify e = plainly rows n G.Identify e (starts call.identify G.Identify refl refl)
  stage_left rows n (G.Prepare s) e = within rows n (G.Prepare s) (setup_sound s) e (prepares s)
  stage_left rows n (G.WaitReady w) e = within rows n (G.WaitReady w) (wait_sound w) e (waits w)
  stage_left rows n (G.ReadUser a k) e = within rows n (G.ReadUser a k) (not (past a k)) e (λ q. reads a k (not-true (past a k) q))
  stage_left rows n (G.Write w) e = writes rows n w e
  stage_left rows n (G.Switching s) e = within rows n (G.Switching s) (switch_sound s) e (switches s)
  stage_left rows n G.RfWrote e = plainly rows n G.RfWrote e (starts call.rf_wrote G.RfWrote refl refl)
  stage_left rows n (G.WholeOff s) e = within rows n (G.WholeOff s) (off_sound s) e (whole_off s)
  stage_left rows n G.WholeStatus e = plainly rows n G.WholeStatus e whole_status
  stage_left rows n G.WholeRead e = plainly rows n G.WholeRead e whole-read
  stage_left rows n (G.Wipe s) e = wiping rows n (G.Wipe s) (scrub_sound m rows s) e (wipes rows s)
  stage_left rows n (G.BeginSetup s) e = within rows n (G.BeginSetup s) (setup_sound s) e (begin_setup s)
  stage_left rows n (G.BeginOff s) e = within rows n (G.BeginOff s) (off_sound s) e (begin_off s)
  stage_left rows n G.LiveStatus e = plainly rows n G.LiveStatus e (starts call.go_live G.LiveStatus refl refl)
  stage_left rows n (G.FinishOff s) e = within rows n (G.FinishOff s) (off_sound s) e (finish_off s)
  stage_left rows n (G.FinishStatus stuck) e = plainly rows n (G.FinishStatus stuck) e (finish_status stuck)
  stage_left rows n (G.FinishWipe stuck s) e = wiping rows n (G.FinishWipe stuck s) (scrub_sound m rows s) e (finish-wipes stuck rows s)

  now_left : (rows n : ℕ) (now : Option Stage) → now_sound m rows n now ≡ true → Kept (record { mark = m; rows = rows; lent = n; now = now })
  now_left rows n None e =
      let a = both (eqb rows 0) (eqb n 0) e in
      subst (λ (k : ℕ). Kept (record { mark = m; rows = k; lent = n; now = None })) (sym (eqb-true rows 0 a.0))
      (subst (λ (k : ℕ). Kept (record { mark = m; rows = 0; lent = k; now = None })) (sym (eqb-true n 0 a.1)) (left-idle m h))
  now_left rows n (Some st) e = stage_left rows n st e

pub sound-left : (s : Session) → sound s ≡ true → Kept s
sound-left s e =
    now_left s.mark (mark-inside s e) s.rows s.lent s.now (both (leb s.mark 8192) (now_sound s.mark s.rows s.lent s.now) e).1

-- What a session counts is what the definition's report counts: acknowledged row writes.
use mathlib.Core.Path.{◌≡◌, refl, sym, subst, ap}
use mathlib.Core.Bool.{Bool, true, false, ◌&&◌}
use mathlib.Core.List.{List}
use Prim.Native.Nat.{ℕ, ◌+◌, ◌-◌, ◌*◌, ◌/◌, ◌%◌, ◌≤◌, ◌<◌}
use native.Mathlib.Omega.{arith}
use lib.ListN.{length, take, drop, length-take, length-drop}
use lib.Dec.{eqb}
use borrow.Author.Tests.{lt-ltb}
use Rattle.std.specs.Prelude.{Some}
use Rattle.slices.specs.Pick.{pick}
use Rattle.slices.proofs.Truths.{both, both_so}
use Rattle.scan.proofs.Cutting.{row-some, row_most}
use Rattle.protocol.specs.Mark.{Mark}
use Rattle.protocol.specs.Transfer.{write, Reply, place, is_row}
use Rattle.protocol.specs.Tag.{user, user_memory}
use Rattle.protocol.specs.Scrub.{zero_row}
use Rattle.protocol.specs.Trace.{rows_of}
use Rattle.machine.specs.Ask.{meant}
use Rattle.machine.specs.Wait.{wait_ask}
use Rattle.machine.specs.Switch.{switch_ask}
use Rattle.setup.specs.Setup.{setup_ask}
use Rattle.wipe.specs.Scrub.{scrub_ask}
use Rattle.writing.specs.Write.{write_ask, piece_of}
use Rattle.machine.specs.declared.ask.Ask.{Ask}
use Rattle.machine.specs.declared.wait.Wait.{Wait}
use Rattle.machine.specs.declared.wait.Wait.TheVariants.{Poll, Pause}
use Rattle.machine.specs.declared.switch.Switch.{Switch}
use Rattle.machine.specs.declared.switch.Switch.TheVariants.{Flip, Clear, Look, Rest}
use Rattle.password.specs.declared.Open.TheVariants as O
use Rattle.storing.specs.declared.Store.TheVariants as T
use Rattle.setup.specs.declared.setup.Setup.{Setup}
use Rattle.setup.specs.declared.setup.Setup.TheVariants as I
use Rattle.wipe.specs.declared.scrub.Scrub.{Scrub}
use Rattle.wipe.specs.declared.scrub.Scrub.TheVariants as C
use Rattle.writing.specs.declared.write.Write.{Write}
use Rattle.writing.specs.declared.write.Write.TheVariants as K
use Rattle.stages.specs.Turns.{stage_ask}
use Rattle.stages.specs.declared.stage.Stage.{Stage}
use Rattle.stages.specs.declared.stage.Stage.TheVariants as G
use Rattle.session.specs.Sound.{scrub_sound, stage_sound, sound}
use Rattle.session.specs.Steps.{counted}
use Rattle.session.specs.declared.session.Session.{Session}
use Rattle.kept.proofs.Chunks.{ScrubIn, stop-inside, scrub-says}
use Rattle.kept.proofs.Pieces.{WriteIn, write-says}
use Rattle.kept.proofs.Sounds.{mark-inside, open_sound_lem}

-- data for a place of the memory is a row write
row_write : (at : ℕ) (payload : List ℕ) → at < 8192 → 0 < length payload → is_row user user_memory (write user (place at) payload) ≡ true
row_write at payload h g =
    let e : at / 256 % 256 * 256 + at % 256 ≡ at = omega arith in
    both_so _ _ (lt-ltb 0 (length payload) g) (lt-ltb (at / 256 % 256 * 256 + at % 256) 8192 (omega (arith, e, h)))

row_counts : (at : ℕ) (payload : List ℕ) (r : Reply) → at < 8192 → 0 < length payload
    → rows_of (record { transfer = write user (place at) payload; reply = r }) ≡ pick r.ack 1 0
row_counts at payload r h g = ap (λ (b : Bool). pick (b && r.ack) 1 0) (row_write at payload h g)

module _ (lent : List ℕ) (r : Reply) where
  -- the transfer counts as the session counts it
  abbrev Counts : Ask → Type 0
  Counts a = rows_of (record { transfer = meant lent a; reply = r }) ≡ counted a r.ack

  wait_counts : (w : Wait) → Counts (wait_ask w)
  wait_counts (Poll n) = refl
  wait_counts (Pause n) = refl

  -- RF_MNGT_Dyn lies past the memory
  switch_counts : (s : Switch) → Counts (switch_ask s)
  switch_counts (Flip true n) = refl
  switch_counts (Flip false n) = refl
  switch_counts (Clear n) = refl
  switch_counts (Look on n) = refl
  switch_counts (Rest on n) = refl

  setup_counts : (s : Setup) → Counts (setup_ask s)
  setup_counts I.Identify = refl
  setup_counts I.Config = refl
  setup_counts (I.Open f O.Present) = refl
  setup_counts (I.Open f (O.Wait w)) = wait_counts w
  setup_counts (I.Open f O.Look) = refl
  setup_counts (I.Store j T.Send) = refl
  setup_counts (I.Store j T.Pause) = refl
  setup_counts (I.Store j (T.Wait w)) = wait_counts w
  setup_counts (I.Store j T.Look) = refl
  setup_counts I.Events = refl

  scrub_counts : (m : Mark) (rows : ℕ) (s : Scrub) → ScrubIn m rows s → Counts (scrub_ask s)
  scrub_counts m rows (C.Read p) h = refl
  scrub_counts m rows (C.Row p q) h =
      let g = (stop-inside m p h.0).0 in
      let k = h.1 in
      let l = k.here in
      row_counts q.row zero_row r (omega (arith, g, l)) (omega arith)
  scrub_counts m rows (C.Wait p q w) h = wait_counts w
  scrub_counts m rows (C.Reread p) h = refl

  write_counts : (m : Mark) (rows : ℕ) (w : Write) → m ≤ 8192 → WriteIn m (length lent) rows w → Counts (write_ask (length lent) w)
  write_counts m rows (K.Row p) l h =
      let i = h.0 in
      let f = i.fits in
      let g = i.more in
      let s = row-some (p.start + p.done) (length lent - p.done) (omega (arith, g)) in
      let t = (row_most (p.start + p.done) (length lent - p.done)).0 in
      let d = length-drop p.done lent in
      let n = length-take (piece_of p (length lent)) (drop p.done lent) in
      row_counts (p.start + p.done) (take (piece_of p (length lent)) (drop p.done lent)) r (omega (arith, f, g)) (omega (arith, s, t, d, n))
  write_counts m rows (K.Wait p w) l h = wait_counts w
  write_counts m rows (K.Check c) l h = refl

  stage_counts : (m : Mark) (rows : ℕ) (st : Stage) → m ≤ 8192 → stage_sound m rows (length lent) st ≡ true → Counts (stage_ask (length lent) st)
  stage_counts m rows G.Identify l e = refl
  stage_counts m rows (G.Prepare s) l e = setup_counts s
  stage_counts m rows (G.WaitReady w) l e = wait_counts w
  stage_counts m rows (G.ReadUser at k) l e = refl
  stage_counts m rows (G.Write w) l e = write_counts m rows w l (write-says m (length lent) rows w e)
  stage_counts m rows (G.Switching s) l e = switch_counts s
  stage_counts m rows G.RfWrote l e = refl
  stage_counts m rows (G.WholeOff s) l e = switch_counts s
  stage_counts m rows G.WholeStatus l e = refl
  stage_counts m rows G.WholeRead l e = refl
  stage_counts m rows (G.Wipe s) l e = scrub_counts m rows s (scrub-says m rows s (both (eqb (length lent) 0) (scrub_sound m rows s) e).1)
  stage_counts m rows (G.BeginSetup s) l e = setup_counts s
  stage_counts m rows (G.BeginOff s) l e = switch_counts s
  stage_counts m rows G.LiveStatus l e = refl
  stage_counts m rows (G.FinishOff s) l e = switch_counts s
  stage_counts m rows (G.FinishStatus stuck) l e = refl
  stage_counts m rows (G.FinishWipe stuck s) l e = scrub_counts m rows s (scrub-says m rows s (both (eqb (length lent) 0) (scrub_sound m rows s) e).1)

pub counts_rows : (s : Session) (st : Stage) (lent : List ℕ) (r : Reply) → sound s ≡ true → s.now ≡ Some st → length lent ≡ s.lent
    → rows_of (record { transfer = meant lent (stage_ask s.lent st); reply = r }) ≡ counted (stage_ask s.lent st) r.ack
counts_rows s st lent r e o l =
    subst (λ (n : ℕ). rows_of (record { transfer = meant lent (stage_ask n st); reply = r }) ≡ counted (stage_ask n st) r.ack) l
    (stage_counts lent r s.mark s.rows st (mark-inside s e) (subst (λ (n : ℕ). stage_sound s.mark s.rows n st ≡ true) (sym l) (open_sound_lem s st e o)))

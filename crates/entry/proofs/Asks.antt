-- What a session that calls leave asks for fits the buffers.
use mathlib.Core.Path.{◌≡◌, refl}
use mathlib.Core.Bool.{Bool, true, false, not, ◌&&◌}
use Prim.Native.Nat.{ℕ, ◌+◌, ◌-◌, ◌≤◌}
use native.Mathlib.Omega.{arith}
use lib.Dec.{eqb}
use borrow.Author.Tests.{eqb-true, ltb-false, not-true}
use Rattle.std.specs.Prelude.{Some}
use Rattle.scan.proofs.Cutting.{row_most}
use Rattle.protocol.specs.Write.{past}
use Rattle.machine.specs.Switch.{switch_ask}
use Rattle.machine.specs.declared.switch.Switch.{Switch}
use Rattle.machine.specs.declared.switch.Switch.TheVariants as S
use Rattle.setup.specs.Setup.{setup_ask}
use Rattle.password.specs.declared.Open.TheVariants as O
use Rattle.storing.specs.declared.Store.TheVariants as T
use Rattle.setup.specs.declared.setup.Setup.{Setup}
use Rattle.setup.specs.declared.setup.Setup.TheVariants as U
use Rattle.writing.specs.Write.{write_ask}
use Rattle.writing.specs.declared.write.Write.{Write}
use Rattle.writing.specs.declared.write.Write.TheVariants as K
use Rattle.stages.specs.Turns.{stage_ask}
use Rattle.stages.specs.Able.{Able}
use Rattle.stages.specs.declared.stage.Stage.{Stage}
use Rattle.stages.specs.declared.stage.Stage.TheVariants as G
use Rattle.stages.specs.declared.stage.Turn.{Turn}
use Rattle.stages.specs.declared.stage.Turn.TheVariants.{Open, Over}
use Rattle.session.specs.Sound.{stage_sound, sound, plain}
use Rattle.session.specs.Steps.{entered, out_of}
use Rattle.session.specs.declared.session.Session.{Session}
use Rattle.slices.proofs.Truths.{both}
use Rattle.kept.proofs.Pieces.{WriteIn, write-says}
use Rattle.kept.proofs.Sounds.{mark-inside, open_sound_lem}
use Rattle.kept.proofs.Ables.{able}
use Rattle.wiping.proofs.Shorts.{wait_fits, scrub-fits}
use Rattle.telling.specs.Step.{AskFits}
use Rattle.telling.specs.Fit.{StageFits, TurnFits}

flip_asks : (n : ℕ) (on : Bool) (k : ℕ) → AskFits n (switch_ask (S.Flip on k))
flip_asks n true k = tt
flip_asks n false k = tt

switch_asks : (n : ℕ) (s : Switch) → AskFits n (switch_ask s)
switch_asks n (S.Flip on k) = flip_asks n on k
switch_asks n (S.Clear k) = tt
switch_asks n (S.Look on k) = omega arith
switch_asks n (S.Rest on k) = tt

setup_asks : (n : ℕ) (s : Setup) → AskFits n (setup_ask s)
setup_asks n U.Identify = omega arith
setup_asks n U.Config = omega arith
setup_asks n (U.Open first O.Present) = tt
setup_asks n (U.Open first (O.Wait w)) = wait_fits n w
setup_asks n (U.Open first O.Look) = omega arith
setup_asks n (U.Store j T.Send) = tt
setup_asks n (U.Store j T.Pause) = tt
setup_asks n (U.Store j (T.Wait w)) = wait_fits n w
setup_asks n (U.Store j T.Look) = omega arith
setup_asks n U.Events = omega arith

write-asks : (m n rows : ℕ) (w : Write) → WriteIn m n rows w → AskFits n (write_ask n w)
write-asks m n rows (K.Row p) h =
    let i = h.0 in
    let d = i.more in
    let r = row_most (p.start + p.done) (n - p.done) in
    (omega (arith, d, r.0), r.1)
write-asks m n rows (K.Wait p w) h = wait_fits n w
write-asks m n rows (K.Check c) h = omega arith

stage_asks : (m rows n : ℕ) (st : Stage) → stage_sound m rows n st ≡ true → AskFits n (stage_ask n st)
stage_asks m rows n G.Identify e = omega arith
stage_asks m rows n (G.Prepare s) e = setup_asks n s
stage_asks m rows n (G.WaitReady w) e = wait_fits n w
stage_asks m rows n (G.ReadUser at k) e =
    let h = ltb-false 8192 (at + k) (not-true (past at k) (both (plain rows n) (not (past at k)) e).1) in omega (arith, h)
stage_asks m rows n (G.Write w) e = write-asks m n rows w (write-says m n rows w e)
stage_asks m rows n (G.Switching s) e = switch_asks n s
stage_asks m rows n G.RfWrote e = omega arith
stage_asks m rows n (G.WholeOff s) e = switch_asks n s
stage_asks m rows n G.WholeStatus e = omega arith
stage_asks m rows n G.WholeRead e = omega arith
stage_asks m rows n (G.Wipe s) e = scrub-fits n s
stage_asks m rows n (G.BeginSetup s) e = setup_asks n s
stage_asks m rows n (G.BeginOff s) e = switch_asks n s
stage_asks m rows n G.LiveStatus e = omega arith
stage_asks m rows n (G.FinishOff s) e = switch_asks n s
stage_asks m rows n (G.FinishStatus stuck) e = omega arith
stage_asks m rows n (G.FinishWipe stuck s) e = scrub-fits n s

-- data is lent to a write alone, and no more than the part holds
none_lent : (rows n : ℕ) (b : Bool) → (plain rows n && b) ≡ true → n ≤ 8192
none_lent rows n b e = let h = eqb-true n 0 (both (eqb rows 0) (eqb n 0) (both (plain rows n) b e).0).1 in omega (arith, h)

plain_lent : (rows n : ℕ) → plain rows n ≡ true → n ≤ 8192
plain_lent rows n e = let h = eqb-true n 0 (both (eqb rows 0) (eqb n 0) e).1 in omega (arith, h)

write_lent : (m n rows : ℕ) (w : Write) → m ≤ 8192 → WriteIn m n rows w → n ≤ 8192
write_lent m n rows (K.Row p) l h = let i = h.0 in let f = i.fits in omega (arith, l, f)
write_lent m n rows (K.Wait p w) l h = let i = h.0 in let f = i.fits in omega (arith, l, f)
write_lent m n rows (K.Check c) l h = let i = h.0 in let f = i.fits in omega (arith, l, f)

wipe_lent : (n : ℕ) (b : Bool) → (eqb n 0 && b) ≡ true → n ≤ 8192
wipe_lent n b e = let h = eqb-true n 0 (both (eqb n 0) b e).0 in omega (arith, h)

stage_lent : (m rows n : ℕ) (st : Stage) → m ≤ 8192 → stage_sound m rows n st ≡ true → n ≤ 8192
stage_lent m rows n G.Identify l e = plain_lent rows n e
stage_lent m rows n (G.Prepare s) l e = none_lent rows n _ e
stage_lent m rows n (G.WaitReady w) l e = none_lent rows n _ e
stage_lent m rows n (G.ReadUser at k) l e = none_lent rows n _ e
stage_lent m rows n (G.Write w) l e = write_lent m n rows w l (write-says m n rows w e)
stage_lent m rows n (G.Switching s) l e = none_lent rows n _ e
stage_lent m rows n G.RfWrote l e = plain_lent rows n e
stage_lent m rows n (G.WholeOff s) l e = none_lent rows n _ e
stage_lent m rows n G.WholeStatus l e = plain_lent rows n e
stage_lent m rows n G.WholeRead l e = plain_lent rows n e
stage_lent m rows n (G.Wipe s) l e = wipe_lent n _ e
stage_lent m rows n (G.BeginSetup s) l e = none_lent rows n _ e
stage_lent m rows n (G.BeginOff s) l e = none_lent rows n _ e
stage_lent m rows n G.LiveStatus l e = plain_lent rows n e
stage_lent m rows n (G.FinishOff s) l e = none_lent rows n _ e
stage_lent m rows n (G.FinishStatus stuck) l e = plain_lent rows n e
stage_lent m rows n (G.FinishWipe stuck s) l e = wipe_lent n _ e

-- a stage that can take its step can ask
able_ask : (n : ℕ) (st : Stage) → Able n (out_of st) st → Able n 8192 st
able_ask n G.Identify h = tt
able_ask n (G.Prepare s) h = tt
able_ask n (G.WaitReady w) h = tt
able_ask n (G.ReadUser at k) h = tt
able_ask n (G.Write w) h = h
able_ask n (G.Switching s) h = tt
able_ask n G.RfWrote h = tt
able_ask n (G.WholeOff s) h = tt
able_ask n G.WholeStatus h = tt
able_ask n G.WholeRead h = refl
able_ask n (G.Wipe s) h = h
able_ask n (G.BeginSetup s) h = tt
able_ask n (G.BeginOff s) h = tt
able_ask n G.LiveStatus h = tt
able_ask n (G.FinishOff s) h = tt
able_ask n (G.FinishStatus stuck) h = tt
able_ask n (G.FinishWipe stuck s) h = h

pub stage_fits : (q : Session) (st : Stage) → sound q ≡ true → q.now ≡ Some st → StageFits q.lent st
unfolding StageFits
stage_fits q st e o =
    let s = open_sound_lem q st e o in
    (able_ask q.lent st (able q st (out_of st) e o refl).0, stage_asks q.mark q.rows q.lent st s, stage_lent q.mark q.rows q.lent st (mark-inside q e) s)

pub turn-fits : (rows n : ℕ) (t : Turn) → sound (entered rows n t) ≡ true → TurnFits n t
unfolding TurnFits
turn-fits rows n (Open m st) e = stage_fits (record { mark = m; rows = rows; lent = n; now = Some st }) st e refl
turn-fits rows n (Over m a) e = tt

-- A sound session can take its next step, whatever is replied.
use mathlib.Core.Path.{◌≡◌, refl, subst, sym}
use mathlib.Core.Bool.{true}
use Prim.Native.Nat.{ℕ, ◌≤◌}
use native.Mathlib.Omega.{arith}
use lib.Dec.{eqb}
use Rattle.std.specs.Prelude.{Some}
use Rattle.protocol.specs.Mark.{Mark}
use Rattle.wipe.specs.Scrub.{Near}
use Rattle.wipe.specs.declared.scrub.Scrub.{Scrub}
use Rattle.wipe.specs.declared.scrub.Scrub.TheVariants as C
use Rattle.writing.specs.Write.{Inside}
use Rattle.writing.specs.declared.write.Write.{Write}
use Rattle.writing.specs.declared.write.Write.TheVariants as K
use Rattle.stages.specs.Able.{Able}
use Rattle.stages.specs.declared.stage.Stage.{Stage}
use Rattle.stages.specs.declared.stage.Stage.TheVariants as G
use Rattle.session.specs.Sound.{scrub_sound, stage_sound, sound}
use Rattle.session.specs.Steps.{out_of}
use Rattle.session.specs.declared.session.Session.{Session}
use Rattle.slices.proofs.Truths.{both}
use Rattle.kept.proofs.Chunks.{ScrubIn, stop-inside, scrub-says}
use Rattle.kept.proofs.Pieces.{WriteIn, write-says}
use Rattle.kept.proofs.Sounds.{mark-inside, open_sound_lem}

pub scrub_near : (m : Mark) (rows : ℕ) (s : Scrub) → ScrubIn m rows s → Near s
scrub_near m rows (C.Read p) h = let g = (stop-inside m p h.0).1 in omega (arith, g)
scrub_near m rows (C.Row p r) h = tt
scrub_near m rows (C.Wait p r w) h =
    let g = (stop-inside m p h.0).1 in
    let k = h.1 in
    let l = k.here in
    omega (arith, g, l)
scrub_near m rows (C.Reread p) h = let g = (stop-inside m p h.0).1 in omega (arith, g)

write-inside : (m : Mark) (n rows : ℕ) (w : Write) → m ≤ 8192 → WriteIn m n rows w → Inside n w
write-inside m n rows (K.Row p) l h =
    let i = h.0 in
    let f = i.fits in
    let g = i.more in
    (omega (arith, f, g), omega (arith, g), omega (arith, f))
write-inside m n rows (K.Wait p w) l h =
    let i = h.0 in
    let f = i.fits in
    let g = i.more in
    (omega (arith, f, g), omega (arith, g), omega (arith, f))
write-inside m n rows (K.Check c) l h =
    let i = h.0 in
    let f = i.fits in
    let g = i.more in
    (omega (arith, f, g), omega (arith, g), omega (arith, f))

stage_able : (m : Mark) (rows n : ℕ) (st : Stage) → m ≤ 8192 → stage_sound m rows n st ≡ true → Able n (out_of st) st
stage_able m rows n G.Identify l e = tt
stage_able m rows n (G.Prepare s) l e = tt
stage_able m rows n (G.WaitReady w) l e = tt
stage_able m rows n (G.ReadUser at k) l e = tt
stage_able m rows n (G.Write w) l e = write-inside m n rows w l (write-says m n rows w e)
stage_able m rows n (G.Switching s) l e = tt
stage_able m rows n G.RfWrote l e = tt
stage_able m rows n (G.WholeOff s) l e = tt
stage_able m rows n G.WholeStatus l e = tt
stage_able m rows n G.WholeRead l e = refl
stage_able m rows n (G.Wipe s) l e = scrub_near m rows s (scrub-says m rows s (both (eqb n 0) (scrub_sound m rows s) e).1)
stage_able m rows n (G.BeginSetup s) l e = tt
stage_able m rows n (G.BeginOff s) l e = tt
stage_able m rows n G.LiveStatus l e = tt
stage_able m rows n (G.FinishOff s) l e = tt
stage_able m rows n (G.FinishStatus stuck) l e = tt
stage_able m rows n (G.FinishWipe stuck s) l e = scrub_near m rows s (scrub-says m rows s (both (eqb n 0) (scrub_sound m rows s) e).1)

pub able : (s : Session) (st : Stage) (o : ℕ) → sound s ≡ true → s.now ≡ Some st → o ≡ out_of st → Able s.lent o st × (s.mark ≤ 8192)
able s st o e g q =
    let m = mark-inside s e in
    (subst (λ (k : ℕ). Able s.lent k st) (sym q) (stage_able s.mark s.rows s.lent st m (open_sound_lem s st e g)), m)

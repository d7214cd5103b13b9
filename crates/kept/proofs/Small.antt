-- The numbers of a sound session go into two bytes each.
--
--   Small f   == those of f that are written as two bytes do, and the rows leave room to count on
use mathlib.Core.Path.{◌≡◌}
use mathlib.Core.Bool.{Bool, true, not, ◌&&◌}
use Prim.Native.Nat.{ℕ, ◌+◌, ◌-◌, ◌/◌, ◌≤◌, ◌<◌}
use native.Mathlib.Omega.{arith}
use lib.Dec.{eqb, leb}
use borrow.Author.Tests.{ltb-false, eqb-true, not-true}
use Rattle.std.specs.Prelude.{Option, Some, None}
use Rattle.protocol.specs.Mark.{Mark}
use Rattle.protocol.specs.Write.{past}
use Rattle.wipe.specs.declared.scrub.Chunk.{Chunk}
use Rattle.wipe.specs.declared.scrub.Scrub.{Scrub}
use Rattle.wipe.specs.declared.scrub.Scrub.TheVariants as C
use Rattle.writing.specs.declared.write.Piece.{Piece}
use Rattle.writing.specs.declared.write.Write.{Write}
use Rattle.writing.specs.declared.write.Write.TheVariants as K
use Rattle.stages.specs.declared.stage.Stage.{Stage}
use Rattle.stages.specs.declared.stage.Stage.TheVariants as G
use Rattle.session.specs.Sound.{setup_sound, wait_sound, switch_sound, off_sound, scrub_sound, plain, stage_sound, now_sound, sound}
use Rattle.session.specs.declared.session.Session.{Session}
use Rattle.slices.proofs.Truths.{both}
use Rattle.numbers.specs.Flat.{bits_of, place_at, no_place, scrub_place, write_place, stage_place, now_flat, flatten}
use Rattle.numbers.specs.declared.flat.Place.{Place}
use Rattle.numbers.specs.declared.flat.Flat.{Flat}
use Rattle.kept.proofs.Rows.{count_most}
use Rattle.kept.proofs.Chunks.{ChunkIn, ScrubIn, stop-inside, scrub-says}
use Rattle.kept.proofs.Pieces.{PieceIn, WriteIn, write-says}
use Rattle.kept.proofs.Sounds.{mark-inside}

pub record SmallPlace (p : Place) : Type 0 where
  pub left : p.left < 65536
  pub at : p.at < 65536
  pub end : p.end < 65536
  pub row : p.row < 65536

pub record Small (f : Flat) : Type 0 where
  pub mark : f.mark < 65536
  pub rows : f.rows < 65000
  pub lent : f.lent < 65536
  pub place : SmallPlace f.place

-- a stage: its rows, its data and its place
record SmallStage (k n : ℕ) (p : Place) : Type 0 where
  pub rows : k < 65000
  pub lent : n < 65536
  pub place : SmallPlace p

nowhere : SmallPlace no_place
nowhere = record { left = omega arith; at = omega arith; end = omega arith; row = omega arith }

plain-small : (rows n : ℕ) (p : Place) → plain rows n ≡ true → SmallPlace p → SmallStage rows n p
plain-small rows n p e s =
    let a = both (eqb rows 0) (eqb n 0) e in
    let h = eqb-true rows 0 a.0 in
    let g = eqb-true n 0 a.1 in
    record { rows = omega (arith, h); lent = omega (arith, g); place = s }

-- a machine that is nowhere
still : (rows n : ℕ) (b : Bool) → (plain rows n && b) ≡ true → SmallStage rows n no_place
still rows n b e = plain-small rows n no_place (both (plain rows n) b e).0 nowhere

-- a chunk of a wipe, and a row
chunk_small : (m : Mark) (bits row : ℕ) (p : Chunk) → ChunkIn m p → row < 65536
    → SmallPlace (record { bits = bits; left = p.left; at = p.at; end = p.end; row = row })
chunk_small m bits row p i h =
    let k = stop-inside m p i in
    let k0 = k.0 in
    let k1 = k.1 in
    let l = i.left in
    record { left = omega (arith, l, k0); at = omega (arith, k1); end = omega (arith, k0); row = h }

scrub-small : (m : Mark) (rows n : ℕ) (s : Scrub) → n ≡ 0 → ScrubIn m rows s → SmallStage rows n (scrub_place s)
scrub-small m rows n (C.Read p) e h =
    let k = (stop-inside m p h.0).1 in
    let r = h.1 in
    record { rows = omega (arith, r, k); lent = omega (arith, e); place = chunk_small m 0 0 p h.0 (omega arith) }
scrub-small m rows n (C.Row p q) e h =
    let k = (stop-inside m p h.0).0 in
    let l = h.1.here in
    let r = h.2 in
    record { rows = omega (arith, r, l, k); lent = omega (arith, e); place = chunk_small m (bits_of q) q.row p h.0 (omega (arith, l, k)) }
scrub-small m rows n (C.Wait p q w) e h =
    let k = (stop-inside m p h.0).0 in
    let l = h.1.here in
    let r = h.3 in
    record { rows = omega (arith, r, l, k); lent = omega (arith, e); place = chunk_small m (bits_of q) q.row p h.0 (omega (arith, l, k)) }
scrub-small m rows n (C.Reread p) e h =
    let k = (stop-inside m p h.0).0 in
    let r = h.2 in
    record { rows = omega (arith, r, k); lent = omega (arith, e); place = chunk_small m 0 0 p h.0 (omega arith) }

piece_small : (m : Mark) (rows n : ℕ) (p : Piece) → m ≤ 8192 → PieceIn m n p → rows + p.start / 16 ≤ (p.start + p.done) / 16 + 1
    → SmallStage rows n (place_at p.left p.start 0 p.done)
piece_small m rows n p l i r =
    let f = i.fits in
    let g = i.more in
    let e = i.left in
    let c = count_most (p.start + p.done) (n - p.done) in
    record {
      rows = omega (arith, r, f, g);
      lent = omega (arith, f);
      place = record { left = omega (arith, f, e, c); at = omega (arith, f); end = omega arith; row = omega (arith, f, g) };
    }

write-small : (m : Mark) (rows n : ℕ) (w : Write) → m ≤ 8192 → WriteIn m n rows w → SmallStage rows n (write_place w)
write-small m rows n (K.Row p) l h = let r = h.1 in piece_small m rows n p l h.0 (omega (arith, r))
write-small m rows n (K.Wait p w) l h = let r = h.1 in piece_small m rows n p l h.0 (omega (arith, r))
write-small m rows n (K.Check c) l h =
    let i = h.0 in
    let f = i.fits in
    let g = i.more in
    let e = i.left in
    let r = h.1 in
    record {
      rows = omega (arith, r, f, g);
      lent = omega (arith, f);
      place = record { left = omega (arith, e, f); at = omega (arith, f); end = omega arith; row = omega (arith, f, g) };
    }

stage_small : (m : Mark) (rows n : ℕ) (st : Stage) → m ≤ 8192 → stage_sound m rows n st ≡ true → SmallStage rows n (stage_place st)
stage_small m rows n G.Identify l e = plain-small rows n no_place e nowhere
stage_small m rows n (G.Prepare s) l e = still rows n (setup_sound s) e
stage_small m rows n (G.WaitReady w) l e = still rows n (wait_sound w) e
stage_small m rows n (G.ReadUser at k) l e =
    let a = both (plain rows n) (not (past at k)) e in
    let g = ltb-false 8192 (at + k) (not-true (past at k) a.1) in
    plain-small rows n _ a.0 (record { left = omega arith; at = omega (arith, g); end = omega (arith, g); row = omega arith })
stage_small m rows n (G.Write w) l e = write-small m rows n w l (write-says m n rows w e)
stage_small m rows n (G.Switching s) l e = still rows n (switch_sound s) e
stage_small m rows n G.RfWrote l e = plain-small rows n no_place e nowhere
stage_small m rows n (G.WholeOff s) l e = still rows n (off_sound s) e
stage_small m rows n G.WholeStatus l e = plain-small rows n no_place e nowhere
stage_small m rows n G.WholeRead l e = plain-small rows n no_place e nowhere
stage_small m rows n (G.Wipe s) l e = let a = both (eqb n 0) (scrub_sound m rows s) e in scrub-small m rows n s (eqb-true n 0 a.0) (scrub-says m rows s a.1)
stage_small m rows n (G.BeginSetup s) l e = still rows n (setup_sound s) e
stage_small m rows n (G.BeginOff s) l e = still rows n (off_sound s) e
stage_small m rows n G.LiveStatus l e = plain-small rows n no_place e nowhere
stage_small m rows n (G.FinishOff s) l e = still rows n (off_sound s) e
stage_small m rows n (G.FinishStatus stuck) l e = plain-small rows n no_place e nowhere
stage_small m rows n (G.FinishWipe stuck s) l e = let a = both (eqb n 0) (scrub_sound m rows s) e in scrub-small m rows n s (eqb-true n 0 a.0) (scrub-says m rows s a.1)

now_small : (m rows n : ℕ) (now : Option Stage) → m ≤ 8192 → now_sound m rows n now ≡ true → Small (now_flat m rows n now)
now_small m rows n None l e =
    let a = plain-small rows n no_place e nowhere in
    record { mark = omega (arith, l); rows = a.rows; lent = a.lent; place = nowhere }
now_small m rows n (Some st) l e =
    let a = stage_small m rows n st l e in
    record { mark = omega (arith, l); rows = a.rows; lent = a.lent; place = a.place }

pub flat_small : (s : Session) → sound s ≡ true → Small (flatten s)
flat_small s e = now_small s.mark s.rows s.lent s.now (mark-inside s e) (both (leb s.mark 8192) (now_sound s.mark s.rows s.lent s.now) e).1

-- What the tests say of a wipe: the chunk and the row that it is at, and the rows that it has programmed.
--
--   stop_of p             == where the chunk p stops
--   ChunkIn m p          == p is a chunk of the wipe from the mark m
--   RowIn p r            == the row is one of that chunk, and so is each row that is still to be programmed
--   ScrubIn m rows s     == a wipe from the mark m is at s with `rows` rows programmed
-- `scrub-says` and `scrub_so`: that is what `scrub_sound` tests.
use mathlib.Core.Path.{◌≡◌, refl, sym, subst, ◌∙◌}
use mathlib.Core.Bool.{Bool, true, false, ◌&&◌}
use Prim.Native.Nat.{ℕ, ◌+◌, ◌-◌, ◌/◌, ◌%◌, ◌≤◌, ◌<◌, min}
use native.Mathlib.Omega.{arith}
use lib.Dec.{eqb, ltb, leb}
use borrow.Author.Tests.{ltb-true, leb-true, eqb-true, lt-ltb, le-leb, eq-eqb}
use Rattle.protocol.specs.Mark.{Mark, wipe_end}
use Rattle.protocol.proofs.Marks.{wipe_rows, wipe_inside}
use Rattle.wipe.specs.declared.scrub.Chunk.{Chunk}
use Rattle.wipe.specs.declared.scrub.Rows.{Rows}
use Rattle.wipe.specs.declared.scrub.Scrub.{Scrub}
use Rattle.wipe.specs.declared.scrub.Scrub.TheVariants as C
use Rattle.session.specs.Sound.{wait_sound, chunk_stop, to_come, row_sound, scrub_sound}
use Rattle.slices.proofs.Truths.{both, both_so, chosen, pick_yes, pick_true, pick_so}

abbrev pub stop_of : Chunk → ℕ
stop_of p = min p.end (p.at + 64)

pub record ChunkIn (m : Mark) (p : Chunk) : Type 0 where
  pub end : p.end ≡ wipe_end m
  pub some : p.at < p.end
  pub even : p.at % 64 ≡ 0
  pub left : p.left ≡ (p.end - p.at - 1) / 64

pub record RowIn (p : Chunk) (r : Rows) : Type 0 where
  pub here : r.row < stop_of p
  pub same : r.row / 64 ≡ p.at / 64
  pub even : r.row % 16 ≡ 0
  pub x : r.x ≡ true → r.row + 16 < stop_of p
  pub y : r.y ≡ true → r.row + 32 < stop_of p
  pub z : r.z ≡ true → r.row + 48 < stop_of p

abbrev pub ScrubIn : Mark → ℕ → Scrub → Type 0
ScrubIn m rows (C.Read p) = ChunkIn m p × (rows ≤ p.at / 16)
ScrubIn m rows (C.Row p r) = ChunkIn m p × RowIn p r × (rows ≤ r.row / 16)
ScrubIn m rows (C.Wait p r w) = ChunkIn m p × RowIn p r × (0 < rows) × (rows ≤ r.row / 16 + 1) × (wait_sound w ≡ true)
ScrubIn m rows (C.Reread p) = ChunkIn m p × (0 < rows) × (rows ≤ stop_of p / 16)

chunk-says : (m : Mark) (p : Chunk) → 0 < chunk_stop m p → ChunkIn m p
chunk-says m p h =
    let a = chosen (eqb p.end (wipe_end m)) _ h in
    let b = chosen (ltb p.at p.end) _ a.1 in
    let c = chosen (eqb (p.at % 64) 0 && eqb p.left ((p.end - p.at - 1) / 64)) _ b.1 in
    let d = both (eqb (p.at % 64) 0) (eqb p.left ((p.end - p.at - 1) / 64)) c.0 in
    record {
      end = eqb-true p.end (wipe_end m) a.0;
      some = ltb-true p.at p.end b.0;
      even = eqb-true (p.at % 64) 0 d.0;
      left = eqb-true p.left ((p.end - p.at - 1) / 64) d.1;
    }

chunk_so : (m : Mark) (p : Chunk) → ChunkIn m p → chunk_stop m p ≡ stop_of p
chunk_so m p i =
    pick_yes _ _ 0 (eq-eqb p.end (wipe_end m) i.end)
    ∙ pick_yes _ _ 0 (lt-ltb p.at p.end i.some)
    ∙ pick_yes _ (stop_of p) 0 (both_so _ _ (eq-eqb (p.at % 64) 0 i.even) (eq-eqb p.left ((p.end - p.at - 1) / 64) i.left))

-- a chunk has a first byte, and stops with a row
stop-some : (m : Mark) (p : Chunk) → ChunkIn m p → 0 < stop_of p
stop-some m p i = let h = i.some in omega arith

pub stop-rows : (m : Mark) (p : Chunk) → ChunkIn m p → stop_of p % 16 ≡ 0
stop-rows m p i =
    let h : p.end % 16 ≡ 0 = subst (λ (n : ℕ). n % 16 ≡ 0) (sym i.end) (wipe_rows m) in
    let g = i.even in
    omega arith

pub stop-inside : (m : Mark) (p : Chunk) → ChunkIn m p → (p.end ≤ 8192) × (p.at < 8192)
stop-inside m p i =
    let h = i.end in
    let g = i.some in
    let k = wipe_inside m in
    (omega (arith, h, k), omega (arith, h, g, k))

to_come_says : (b : Bool) (at stop : ℕ) → to_come b at stop ≡ true → b ≡ true → at < stop
to_come_says true at stop e h = ltb-true at stop e
to_come_says false at stop e h = absurd (let z : ◌≡◌ {A = ℕ} 0 1 = cc in omega arith)

to_come_so : (b : Bool) (at stop : ℕ) → (b ≡ true → at < stop) → to_come b at stop ≡ true
to_come_so true at stop h = lt-ltb at stop (h refl)
to_come_so false at stop h = refl

-- a row before the stop of a chunk
row-says : (m : Mark) (p : Chunk) (r : Rows) → row_sound (chunk_stop m p) p r ≡ true → ChunkIn m p × RowIn p r
row-says m p r e =
    let a = pick_true (ltb r.row (chunk_stop m p)) _ e in
    let l = ltb-true r.row (chunk_stop m p) a.0 in
    let i = chunk-says m p (omega (arith, l)) in
    let s = chunk_so m p i in
    let b4 = both _ (to_come r.z (r.row + 48) (chunk_stop m p)) a.1 in
    let b3 = both _ (to_come r.y (r.row + 32) (chunk_stop m p)) b4.0 in
    let b2 = both _ (to_come r.x (r.row + 16) (chunk_stop m p)) b3.0 in
    let b1 = both (eqb (r.row / 64) (p.at / 64)) (eqb (r.row % 16) 0) b2.0 in (
      i,
      record {
        here = subst (λ (n : ℕ). r.row < n) s l;
        same = eqb-true (r.row / 64) (p.at / 64) b1.0;
        even = eqb-true (r.row % 16) 0 b1.1;
        x = λ h. subst (λ (n : ℕ). r.row + 16 < n) s (to_come_says r.x (r.row + 16) (chunk_stop m p) b2.1 h);
        y = λ h. subst (λ (n : ℕ). r.row + 32 < n) s (to_come_says r.y (r.row + 32) (chunk_stop m p) b3.1 h);
        z = λ h. subst (λ (n : ℕ). r.row + 48 < n) s (to_come_says r.z (r.row + 48) (chunk_stop m p) b4.1 h);
      },
    )

row_so : (m : Mark) (p : Chunk) (r : Rows) → ChunkIn m p → RowIn p r → row_sound (chunk_stop m p) p r ≡ true
row_so m p r i q =
    subst (λ (n : ℕ). row_sound n p r ≡ true) (sym (chunk_so m p i))
    (pick_so _ _ (lt-ltb r.row (stop_of p) q.here)
    (both_so _ _ (both_so _ _ (both_so _ _ (both_so _ _
    (eq-eqb (r.row / 64) (p.at / 64) q.same) (eq-eqb (r.row % 16) 0 q.even))
    (to_come_so r.x (r.row + 16) (stop_of p) q.x))
    (to_come_so r.y (r.row + 32) (stop_of p) q.y))
    (to_come_so r.z (r.row + 48) (stop_of p) q.z)))

pub scrub-says : (m : Mark) (rows : ℕ) (s : Scrub) → scrub_sound m rows s ≡ true → ScrubIn m rows s
scrub-says m rows (C.Read p) e =
    let a = both (ltb 0 (chunk_stop m p)) (leb rows (p.at / 16)) e in
    (chunk-says m p (ltb-true 0 (chunk_stop m p) a.0), leb-true rows (p.at / 16) a.1)
scrub-says m rows (C.Row p r) e =
    let a = both (row_sound (chunk_stop m p) p r) (leb rows (r.row / 16)) e in
    let b = row-says m p r a.0 in
    (b.0, b.1, leb-true rows (r.row / 16) a.1)
scrub-says m rows (C.Wait p r w) e =
    let a3 = both _ (wait_sound w) e in
    let a2 = both _ (leb rows (r.row / 16 + 1)) a3.0 in
    let a1 = both (row_sound (chunk_stop m p) p r) (ltb 0 rows) a2.0 in
    let b = row-says m p r a1.0 in
    (b.0, b.1, ltb-true 0 rows a1.1, leb-true rows (r.row / 16 + 1) a2.1, a3.1)
scrub-says m rows (C.Reread p) e =
    let a = both (ltb 0 rows) (leb rows (chunk_stop m p / 16)) e in
    let h = ltb-true 0 rows a.0 in
    let g = leb-true rows (chunk_stop m p / 16) a.1 in
    let i = chunk-says m p (omega (arith, h, g)) in
    (i, h, subst (λ (n : ℕ). rows ≤ n / 16) (chunk_so m p i) g)

pub scrub_so : (m : Mark) (rows : ℕ) (s : Scrub) → ScrubIn m rows s → scrub_sound m rows s ≡ true
scrub_so m rows (C.Read p) h =
    both_so _ _ (subst (λ (n : ℕ). ltb 0 n ≡ true) (sym (chunk_so m p h.0)) (lt-ltb 0 (stop_of p) (stop-some m p h.0))) (le-leb rows (p.at / 16) h.1)
scrub_so m rows (C.Row p r) h = both_so _ _ (row_so m p r h.0 h.1) (le-leb rows (r.row / 16) h.2)
scrub_so m rows (C.Wait p r w) h =
    both_so _ _ (both_so _ _ (both_so _ _ (row_so m p r h.0 h.1) (lt-ltb 0 rows h.2)) (le-leb rows (r.row / 16 + 1) h.3)) h.4
scrub_so m rows (C.Reread p) h =
    both_so _ _ (lt-ltb 0 rows h.1) (subst (λ (n : ℕ). leb rows (n / 16) ≡ true) (sym (chunk_so m p h.0)) (le-leb rows (stop_of p / 16) h.2))

-- A wipe keeps its place: each step of a wipe from the mark m is one.
use mathlib.Core.Path.{◌≡◌, refl, sym, subst}
use mathlib.Core.Bool.{Bool, true, false, not}
use mathlib.Core.List.{List, [], ◌∷◌}
use mathlib.Core.Logic.{⊎_elim}
use Prim.Native.Nat.{ℕ, zero, suc, ◌+◌, ◌-◌, ◌/◌, ◌%◌, ◌≤◌, ◌<◌}
use native.Mathlib.Omega.{arith}
use lib.ListN.{length, take, drop, length-take}
use lib.Seq.{drop-drop}
use Rattle.std.specs.Prelude.{Ok, Err, Some, None}
use Rattle.slices.proofs.Cases.{lt_or_ge, pick_cases}
use Rattle.slices.proofs.Truths.{not-both, never}
use Rattle.scan.specs.Zeros.{blank}
use Rattle.scan.proofs.Blanks.{blank_none}
use Rattle.protocol.specs.Mark.{Mark, wipe_end}
use Rattle.protocol.specs.Answer.{Progress}
use Rattle.protocol.specs.Scrub.{dirty_rows}
use Rattle.protocol.specs.Write.{chunks}
use Rattle.machine.specs.Wait.{wait_step}
use Rattle.machine.specs.declared.wait.Wait.{Wait}
use Rattle.wipe.specs.Scrub.{size_of, chunk_from, scrub_new, next_chunk, next_row, after_read, waited_step, scrub_step, scrub_ask}
use Rattle.wipe.specs.declared.scrub.Chunk.{Chunk}
use Rattle.wipe.specs.declared.scrub.Rows.{Rows}
use Rattle.wipe.specs.declared.scrub.Scrub.{Scrub}
use Rattle.wipe.specs.declared.scrub.Scrub.TheVariants as C
use Rattle.session.specs.Steps.{counted}
use Rattle.kept.proofs.Machines.{GoesOn, WaitedIn, wait_kept, wait_counts}
use Rattle.kept.proofs.Chunks.{stop_of, ChunkIn, RowIn, ScrubIn, stop-rows}

abbrev pub ScrubbedIn : Mark → ℕ → Progress Scrub → Type 0
ScrubbedIn m rows x = GoesOn (λ (s : Scrub). ScrubIn m rows s) x

-- the chunk at `at`, of which and of the ones after it there are `left`
chunk-from : (m : Mark) (rows left at : ℕ) → at % 64 ≡ 0 → rows ≤ at / 16 → left ≡ (wipe_end m - at + 63) / 64
    → ScrubbedIn m rows (chunk_from left at (wipe_end m))
chunk-from m rows zero at h g e = tt
chunk-from m rows (suc left) at h g e =
    let q : at < wipe_end m = omega (arith, e) in
    let l : left ≡ (wipe_end m - at - 1) / 64 = omega (arith, e, q) in
    (record { end = refl; some = q; even = h; left = l }, g)

pub scrub-new : (m : Mark) → ScrubbedIn m 0 (scrub_new (wipe_end m))
scrub-new m = chunk-from m 0 (chunks (wipe_end m)) 0 refl (omega arith) (omega arith)

-- after a chunk, with no more rows programmed than lie before its stop
next-chunk : (m : Mark) (rows : ℕ) (p : Chunk) → ChunkIn m p → rows ≤ stop_of p / 16 → ScrubbedIn m rows (next_chunk p)
next-chunk m rows p i h =
    let s = i.some in
    let v = i.even in
    let l = i.left in
    subst (λ (n : ℕ). ScrubbedIn m rows (chunk_from p.left (p.at + 64) n)) (sym i.end)
    (chunk-from m rows p.left (p.at + 64) (omega (arith, v)) (omega (arith, h)) (let e = i.end in omega (arith, s, l, e)))

-- a row of a chunk, with which of the next three are to be programmed
row_in : (m : Mark) (p : Chunk) (at : ℕ) (x y z : Bool) → ChunkIn m p → p.at ≤ at → at % 16 ≡ 0 → at < stop_of p
    → (x ≡ true → at + 16 < stop_of p) → (y ≡ true → at + 32 < stop_of p) → (z ≡ true → at + 48 < stop_of p)
    → RowIn p (record { row = at; x = x; y = y; z = z })
row_in m p at x y z i l v h fx fy fz = let k = i.even in record { here = h; same = omega (arith, h, k, l); even = v; x = fx; y = fy; z = fz }

-- the next row, of up to three that may be programmed; where none is, the chunk is read again, and one was programmed before
next_row_lem : (m : Mark) (rows at : ℕ) (p : Chunk) (x y z : Bool) → ChunkIn m p → p.at ≤ at → at ≤ stop_of p → at % 16 ≡ 0 → rows ≤ at / 16
    → (x ≡ false → y ≡ false → z ≡ false → 0 < rows)
    → (x ≡ true → at < stop_of p) → (y ≡ true → at + 16 < stop_of p) → (z ≡ true → at + 32 < stop_of p)
    → ScrubIn m rows (next_row p at (x ∷ y ∷ z ∷ []))
next_row_lem m rows at p true y z i l u v h g fx fy fz = (i, row_in m p at y z false i l v (fx refl) fy fz never, h)
next_row_lem m rows at p false true z i l u v h g fx fy fz =
    (i, row_in m p (at + 16) z false false i (omega arith) (omega arith) (fy refl) (λ e. let q = fz e in omega (arith, q)) never never, omega (arith, h))
next_row_lem m rows at p false false true i l u v h g fx fy fz =
    let q = fz refl in
    (i, row_in m p (at + 16 + 16) false false false i (omega arith) (omega arith) (omega (arith, q)) never never never, omega (arith, h))
next_row_lem m rows at p false false false i l u v h g fx fy fz = (i, g refl refl refl, omega (arith, h, u))

-- after the read of a chunk: its first row that is not zero, or the next chunk
module _ (m : Mark) (rows : ℕ) (p : Chunk) (i : ChunkIn m p) (h : rows ≤ p.at / 16) where
  rest-rows : (b c d : Bool) → (b ≡ false → c ≡ false → d ≡ false → 0 < rows)
      → (b ≡ true → p.at + 16 < stop_of p) → (c ≡ true → p.at + 32 < stop_of p) → (d ≡ true → p.at + 48 < stop_of p)
      → ScrubIn m rows (next_row p (p.at + 16) (b ∷ c ∷ d ∷ []))
  rest-rows b c d g fb fc fd =
      let s = i.some in
      let v = i.even in
      let t = stop-rows m p i in
      next_row_lem m rows (p.at + 16) p b c d i (omega arith) (omega (arith, s, v, t)) (omega (arith, v)) (omega (arith, h)) g fb
      (λ e. let q = fc e in omega (arith, q)) (λ e. let q = fd e in omega (arith, q))

  after_read_lem : (a b c d : Bool) → (b ≡ true → p.at + 16 < stop_of p) → (c ≡ true → p.at + 32 < stop_of p) → (d ≡ true → p.at + 48 < stop_of p)
      → ScrubbedIn m rows (after_read p (a ∷ b ∷ c ∷ d ∷ []))
  after_read_lem true b c d fb fc fd =
      let s = i.some in
      let v = i.even in
      (i, row_in m p p.at b c d i (omega arith) (omega (arith, v)) (omega (arith, s)) fb fc fd, h)
  after_read_lem false true c d fb fc fd = rest-rows true c d (λ e. never (sym e)) fb fc fd
  after_read_lem false false true d fb fc fd = rest-rows false true d (λ _ e. never (sym e)) fb fc fd
  after_read_lem false false false true fb fc fd = rest-rows false false true (λ _ _ e. never (sym e)) fb fc fd
  after_read_lem false false false false fb fc fd = let s = i.some in next-chunk m rows p i (omega (arith, h, s))

-- a row that is not zero begins inside the bytes
dirty_inside : (l : List ℕ) (k : ℕ) → not (blank (take 16 (drop k l))) ≡ true → k < length l
dirty_inside l k e = ⊎_elim (λ h. h) (λ h. absurd (not-both (blank (take 16 (drop k l))) (sym (blank_none l k h)) (clean (blank (take 16 (drop k l))) e))) (lt_or_ge k (length l))
  where
    clean : (b : Bool) → not b ≡ true → b ≡ false
    clean true e = sym e
    clean false e = refl

read_kept : (m : Mark) (rows : ℕ) (p : Chunk) (l : List ℕ) → ChunkIn m p → rows ≤ p.at / 16 → length l ≤ size_of p.at p.end
    → ScrubbedIn m rows (after_read p (dirty_rows 4 l))
read_kept m rows p l i h n =
    after_read_lem m rows p i h
    (not (blank (take 16 l))) (not (blank (take 16 (drop 16 l)))) (not (blank (take 16 (drop 16 (drop 16 l))))) (not (blank (take 16 (drop 16 (drop 16 (drop 16 l))))))
    (λ e. let q = dirty_inside l 16 e in omega (arith, q, n))
    (λ e. let q = dirty_inside l 32 (subst (λ (t : List ℕ). not (blank (take 16 t)) ≡ true) (drop-drop 16 16 l) e) in omega (arith, q, n))
    (λ e. let q = dirty_inside l 48 (subst (λ (t : List ℕ). not (blank (take 16 t)) ≡ true) (drop-drop 16 32 l) (subst (λ (t : List ℕ). not (blank (take 16 (drop 16 t))) ≡ true) (drop-drop 16 16 l) e)) in omega (arith, q, n))

waited_kept : (m : Mark) (rows : ℕ) (p : Chunk) (r : Rows) (x : Progress Wait) → ChunkIn m p → RowIn p r → 0 < rows → rows ≤ r.row / 16 + 1 → WaitedIn x
    → ScrubbedIn m rows (waited_step p r x)
waited_kept m rows p r (Ok (Some w)) i q g h e = (i, q, g, h, e)
waited_kept m rows p r (Ok None) i q g h e =
    let k = i.even in
    let a = q.here in
    let s = q.same in
    let v = q.even in
    let t = stop-rows m p i in
    next_row_lem m rows (r.row + 16) p r.x r.y r.z i (omega (arith, k, s)) (omega (arith, a, v, t)) (omega (arith, v)) (omega (arith, h)) (λ _ _ _. g)
    q.x (λ e. let f = q.y e in omega (arith, f)) (λ e. let f = q.z e in omega (arith, f))
waited_kept m rows p r (Err t) i q g h e = tt

pub scrub_kept : (m : Mark) (rows : ℕ) (s : Scrub) (ack : Bool) (got : List ℕ) → ScrubIn m rows s
    → ScrubbedIn m (rows + counted (scrub_ask s) ack) (scrub_step s ack got)
scrub_kept m rows (C.Read p) true got h =
    let e : rows + 0 ≡ rows = omega arith in
    rw e (read_kept m rows p (take (size_of p.at p.end) got) h.0 h.1 (omega (arith, length-take (size_of p.at p.end) got)))
scrub_kept m rows (C.Read p) false got h = tt
scrub_kept m rows (C.Row p r) true got h = let g = h.2 in (h.0, h.1, omega arith, omega (arith, g), refl)
scrub_kept m rows (C.Row p r) false got h = tt
scrub_kept m rows (C.Wait p r w) ack got h =
    let e : rows + counted (scrub_ask (C.Wait p r w)) ack ≡ rows = omega (arith, wait_counts w ack) in
    rw e (waited_kept m rows p r (wait_step w ack) h.0 h.1 h.2 h.3 (wait_kept w ack h.4))
scrub_kept m rows (C.Reread p) true got h =
    let e : rows + 0 ≡ rows = omega arith in
    rw e (pick_cases (ScrubbedIn m rows) (blank (take (size_of p.at p.end) got)) (λ _. next-chunk m rows p h.0 h.2) (λ _. tt))
scrub_kept m rows (C.Reread p) false got h = tt

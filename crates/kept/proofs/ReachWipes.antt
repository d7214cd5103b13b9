-- A wipe reaches every place of its, with any number of the rows before it programmed: a chunk that reads as zero is passed,
-- and a row that does not is programmed.
use mathlib.Core.Path.{◌≡◌, refl, sym, subst, ◌∙◌}
use mathlib.Core.Bool.{Bool, true}
use mathlib.Core.List.{List, []}
use mathlib.Core.Logic.{⊎_elim}
use Prim.Native.Nat.{ℕ, zero, suc, ◌+◌, ◌-◌, ◌/◌, ◌≤◌, ◌<◌}
use native.Mathlib.Omega.{arith}
use Rattle.std.specs.Prelude.{Ok, Some}
use Rattle.slices.proofs.Cases.{lt_or_ge}
use Rattle.protocol.specs.Mark.{Mark, wipe_end}
use Rattle.protocol.specs.Write.{chunks}
use Rattle.machine.specs.Wait.{wait_new}
use Rattle.wipe.specs.Scrub.{next_chunk, scrub_step, scrub_ask}
use Rattle.wipe.specs.declared.scrub.Chunk.{Chunk}
use Rattle.wipe.specs.declared.scrub.Rows.{Rows}
use Rattle.wipe.specs.declared.scrub.Scrub.{Scrub}
use Rattle.wipe.specs.declared.scrub.Scrub.TheVariants as C
use Rattle.stages.specs.Turns.{stage_ask, stage_step}
use Rattle.stages.specs.declared.stage.Stage.{Stage}
use Rattle.stages.specs.declared.stage.Turn.TheVariants as D
use Rattle.session.specs.Steps.{counted}
use Rattle.kept.specs.Kept.{Answers, Kept}
use Rattle.kept.proofs.Replies.{bytes-none, says_none}
use Rattle.kept.proofs.Chunks.{stop_of, ChunkIn, RowIn, ScrubIn, stop-rows}
use Rattle.kept.proofs.ReachFound.{before, last_of, prev_of, before_in, before-stop, last_in, prev_in, no_z, zeros, says-zeros, next-read, next-reread, found_any}
use Rattle.kept.proofs.Reach.{at, onto}
use Rattle.kept.proofs.ReachMachines.{wait_reached}

next-before : (p : Chunk) → 64 ≤ p.at → next_chunk (before p) ≡ Ok (Some (C.Read p))
next-before p h =
    let e : p.at - 64 + 64 ≡ p.at = omega (arith, h) in
    λ i. Ok (Some (C.Read (record { left = p.left; at = e i; end = p.end })))

module _ (m : Mark) (f : Scrub → Stage)
    (step : (s t : Scrub) (ack : Bool) (got : List ℕ) → scrub_step s ack got ≡ Ok (Some t) → stage_step [] m (f s) ack got ≡ D.Open m (f t))
    (asks : (s : Scrub) → stage_ask 0 (f s) ≡ scrub_ask s)
    (begun : (left : ℕ) → chunks (wipe_end m) ≡ suc left → Kept (at m 0 0 (f (C.Read (record { left = left; at = 0; end = wipe_end m }))))) where
  abbrev Here : ℕ → Scrub → Type 0
  Here rows s = Kept (at m rows 0 (f s))

  moves : (rows more : ℕ) (s t : Scrub) (got : List ℕ) → Answers (scrub_ask s) got → scrub_step s true got ≡ Ok (Some t) → rows + counted (scrub_ask s) true ≡ more
      → Here rows s → Here more t
  moves rows more s t got g e c = onto m m rows more 0 (f s) (f t) (scrub_ask s) [] true got (asks s) refl bytes-none g (step s t true got e) c

  -- the first chunk
  first_chunk : (p : Chunk) → ChunkIn m p → p.at ≡ 0 → Here 0 (C.Read p)
  first_chunk p i e =
      let n = i.end in
      let s = i.some in
      let l = i.left in
      let c : chunks (wipe_end m) ≡ suc p.left = omega (arith, n, s, l, e) in
      subst (λ (q : Chunk). Here 0 (C.Read q)) (λ k. record { left = p.left; at = sym e k; end = sym n k }) (begun p.left c)

  -- a row is programmed, and waited out
  row-waits : (rows : ℕ) (p : Chunk) (r : Rows) → 0 < rows → Here (rows - 1) (C.Row p r) → Here rows (C.Wait p r wait_new)
  row-waits rows p r h = moves (rows - 1) rows (C.Row p r) (C.Wait p r wait_new) [] (says_none (scrub_ask (C.Row p r)) refl) refl (omega (arith, h))

  -- after the last row the chunk is read again
  rows_end : (rows : ℕ) (p : Chunk) → 0 < rows → Here (rows - 1) (C.Row p (last_of p)) → Here rows (C.Reread p)
  rows_end rows p h g = moves rows rows (C.Wait p (last_of p) wait_new) (C.Reread p) [] (says_none (scrub_ask (C.Wait p (last_of p) wait_new)) refl) refl (omega arith) (row-waits rows p (last_of p) h g)

  -- a chunk from the one before it: with no row programmed, or with its last one
  chunk_next : (rows : ℕ) (p : Chunk) → ChunkIn m p → 0 < p.at → Here 0 (C.Read (before p)) → (0 < rows → Here (rows - 1) (C.Row (before p) (last_of (before p)))) → Here rows (C.Read p)
  chunk_next rows p i h none some =
      let v = i.even in
      let g : 64 ≤ p.at = omega (arith, v, h) in
      ⊎_elim
      (λ k. moves rows rows (C.Reread (before p)) (C.Read p) zeros (says-zeros (before p)) (sym (next-reread (before p)) ∙ next-before p g) (omega arith) (rows_end rows (before p) k (some k)))
      (λ k. let z : 0 ≡ rows = omega (arith, k) in
      subst (λ (n : ℕ). Here n (C.Read p)) z
      (moves 0 0 (C.Read (before p)) (C.Read p) zeros (says-zeros (before p)) (sym (next-read m (before p) (before_in m p i h)) ∙ next-before p g) (omega arith) none))
      (lt_or_ge 0 rows)

  -- a row from the read of its chunk, or from the row before it
  row_next : (rows : ℕ) (p : Chunk) (r : Rows) → ChunkIn m p → RowIn p r → rows ≤ r.row / 16
      → (rows ≤ p.at / 16 → Here rows (C.Read p)) → (p.at < r.row → 0 < rows → Here (rows - 1) (C.Row p (prev_of r))) → Here rows (C.Row p r)
  row_next rows p r i q h read prev =
      let v = i.even in
      let w = q.even in
      ⊎_elim
      (λ g. let u : p.at < r.row = omega (arith, g, h, v, w) in
      let n : 0 < rows = omega (arith, g) in
      let b : r.row - 16 + 16 ≡ r.row = omega (arith, u, v, w) in
      let ez = no_z m p i r q (omega (arith, u, v, w)) in
      moves rows rows (C.Wait p (prev_of r) wait_new) (C.Row p r) [] (says_none (scrub_ask (C.Wait p (prev_of r) wait_new)) refl)
      (λ k. Ok (Some (C.Row p (record { row = b k; x = r.x; y = r.y; z = sym ez k })))) (omega arith)
      (row-waits rows p (prev_of r) n (prev u n)))
      (λ g. let a = found_any m p r i q in moves rows rows (C.Read p) (C.Row p r) a.got a.answers a.leads (omega arith) (read g))
      (lt_or_ge (p.at / 16) rows)

  -- every chunk and every row up to a place
  record Upto (n : ℕ) : Type 0 where
    pub chunk : (rows : ℕ) (p : Chunk) → ChunkIn m p → p.at / 16 ≤ n → rows ≤ p.at / 16 → Here rows (C.Read p)
    pub row : (rows : ℕ) (p : Chunk) (r : Rows) → ChunkIn m p → RowIn p r → r.row / 16 ≤ n → rows ≤ r.row / 16 → Here rows (C.Row p r)

  from_start : (rows : ℕ) (p : Chunk) → ChunkIn m p → p.at ≡ 0 → rows ≤ p.at / 16 → Here rows (C.Read p)
  from_start rows p i e h = subst (λ (n : ℕ). Here n (C.Read p)) (let z : 0 ≡ rows = omega (arith, e, h) in z) (first_chunk p i e)

  upto_none : Upto 0
  upto_none = record {
    chunk = chunk-none;
    row = λ rows p r i q l h.
        let v = i.even in
        let s = q.same in
        let w = q.even in
        let z : r.row ≡ 0 = omega (arith, l, w) in
        let e : p.at ≡ 0 = omega (arith, v, s, z) in
        row_next rows p r i q h (λ g. from_start rows p i e g) (λ u _. absurd (omega (arith, u, z)));
  }
    where
      chunk-none : (rows : ℕ) (p : Chunk) → ChunkIn m p → p.at / 16 ≤ 0 → rows ≤ p.at / 16 → Here rows (C.Read p)
      chunk-none rows p i l h = let v = i.even in from_start rows p i (omega (arith, l, v)) h

  module _ (n : ℕ) (u : Upto n) where
    chunk-more : (rows : ℕ) (p : Chunk) → ChunkIn m p → p.at / 16 ≤ suc n → rows ≤ p.at / 16 → Here rows (C.Read p)
    chunk-more rows p i l h =
        let v = i.even in
        ⊎_elim
        (λ g. let b = before_in m p i g in
        let s = before-stop m p i g in
        chunk_next rows p i g (u.chunk 0 (before p) b (omega (arith, l, g, v)) (omega arith))
        (λ k. u.row (rows - 1) (before p) (last_of (before p)) b (last_in m (before p) b) (omega (arith, s, l, g, v)) (omega (arith, s, h, k))))
        (λ g. from_start rows p i (omega (arith, g)) h)
        (lt_or_ge 0 p.at)

    row_more : (rows : ℕ) (p : Chunk) (r : Rows) → ChunkIn m p → RowIn p r → r.row / 16 ≤ suc n → rows ≤ r.row / 16 → Here rows (C.Row p r)
    row_more rows p r i q l h =
        let v = i.even in
        let w = q.even in
        let s = q.same in
        row_next rows p r i q h (λ g. chunk-more rows p i (omega (arith, v, s, l)) g)
        (λ g k. u.row (rows - 1) p (prev_of r) i (prev_in m p i r q g) (omega (arith, g, l)) (omega (arith, h, k)))

  upto : (n : ℕ) → Upto n
  upto zero = upto_none
  upto (suc n) = record { chunk = chunk-more n (upto n); row = row_more n (upto n) }

  waits : (rows : ℕ) (p : Chunk) (r : Rows) → ChunkIn m p → RowIn p r → 0 < rows → rows ≤ r.row / 16 + 1 → Here rows (C.Wait p r wait_new)
  waits rows p r i q g h = row-waits rows p r g ((upto (r.row / 16)).row (rows - 1) p r i q (omega arith) (omega (arith, g, h)))

  pub scrub-reached : (rows : ℕ) (s : Scrub) → ScrubIn m rows s → Here rows s
  scrub-reached rows (C.Read p) h = (upto (p.at / 16)).chunk rows p h.0 (omega arith) h.1
  scrub-reached rows (C.Row p r) h = (upto (r.row / 16)).row rows p r h.0 h.1 (omega arith) h.2
  scrub-reached rows (C.Wait p r w) h =
      wait_reached m rows 0 [] refl bytes-none (λ x. f (C.Wait p r x)) (λ x y ack q. step (C.Wait p r x) (C.Wait p r y) ack [] (rw q))
      (λ x. asks (C.Wait p r x)) w h.4 (waits rows p r h.0 h.1 h.2 h.3)
  scrub-reached rows (C.Reread p) h =
      let i = h.0 in
      let s = i.some in
      let t = stop-rows m p i in
      let l = h.2 in
      let g = h.1 in
      rows_end rows p g ((upto (stop_of p / 16)).row (rows - 1) p (last_of p) i (last_in m p i) (omega (arith, t)) (omega (arith, s, t, l, g)))

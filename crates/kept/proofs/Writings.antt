-- A write keeps its place: each step of a write below the mark m is one.
use mathlib.Core.Path.{◌≡◌, refl, ap, ap₂, ◌∙◌}
use mathlib.Core.Bool.{Bool, true, false, ◌&&◌}
use mathlib.Core.List.{List}
use mathlib.Core.Logic.{◌⊎◌, inl, inr, ⊎_elim}
use Prim.Native.Nat.{ℕ, zero, suc, ◌+◌, ◌-◌, ◌/◌, ◌%◌, ◌≤◌, ◌<◌}
use native.Mathlib.Omega.{arith}
use lib.ListN.{length, take, drop}
use Rattle.std.specs.Prelude.{Ok, Err, Some, None}
use Rattle.slices.proofs.Cases.{lt_or_ge, pick_cases}
use Rattle.scan.specs.Rows.{row_count}
use Rattle.scan.specs.Zeros.{alike}
use Rattle.scan.proofs.Cutting.{count-more, count_none, row-some, row_room, row_most}
use Rattle.protocol.specs.Mark.{Mark}
use Rattle.protocol.specs.Answer.{Progress}
use Rattle.protocol.specs.Write.{chunks}
use Rattle.protocol.specs.declared.answer.TagError.TheVariants.{NotTaken}
use Rattle.machine.specs.Wait.{wait_step}
use Rattle.machine.specs.declared.wait.Wait.{Wait}
use Rattle.writing.specs.Write.{piece_of, chunk_of, check_from, check_new, piece_from, write_new, piece_waited, write_step, write_ask}
use Rattle.writing.specs.declared.write.Piece.{Piece}
use Rattle.writing.specs.declared.write.Write.{Write}
use Rattle.writing.specs.declared.write.Write.TheVariants as K
use Rattle.session.specs.Steps.{counted}
use Rattle.session.proofs.Unders.{count-some}
use Rattle.kept.proofs.Rows.{row_full}
use Rattle.kept.proofs.Machines.{GoesOn, WaitedIn, wait_kept, wait_counts}
use Rattle.kept.proofs.Pieces.{PieceIn, WriteIn}

abbrev pub WrittenIn : Mark → ℕ → ℕ → Progress Write → Type 0
WrittenIn m len rows x = GoesOn (λ (w : Write). WriteIn m len rows w) x

-- `left` chunks from `done` on
check_from_lem : (m : Mark) (len rows left start done : ℕ) (same : Bool) → start + len ≤ m → done % 64 ≡ 0 → left ≡ (len - done + 63) / 64
    → rows + start / 16 ≡ (start + len - 1) / 16 + 1 → (done ≡ 0 → same ≡ true) → WrittenIn m len rows (check_from left start done same)
check_from_lem m len rows zero start done same f v e r h = pick_cases (WrittenIn m len rows) same {x = (Ok None)} {y = Err NotTaken} (λ _. tt) (λ _. tt)
check_from_lem m len rows (suc left) start done same f v e r h =
    let g : done < len = omega (arith, e) in
    let l : left ≡ (len - done - 1) / 64 = omega (arith, e, g) in
    (record { fits = f; more = g; even = v; left = l; same = ⊎_elim (λ z. inl (h (omega (arith, z)))) (λ z. inr z) (lt_or_ge done 1) }, r)

-- `left` rows from `done` on: up to the end of a row, or of the bytes
piece_from_lem : (m : Mark) (len rows left start done : ℕ) → start + len ≤ m → left ≡ row_count (start + done) (len - done)
    → (done < len → (done ≡ 0) ⊎ ((start + done) % 16 ≡ 0)) → (done < len → rows + start / 16 ≡ (start + done) / 16)
    → (len ≤ done → 0 < len → rows + start / 16 ≡ (start + len - 1) / 16 + 1)
    → WrittenIn m len rows (piece_from left start done len)
piece_from_lem m len rows zero start done f e d r x = ⊎_elim some none (lt_or_ge 0 len)
  where
    over : len ≤ done
    over = ⊎_elim (λ h. let c = count-some (start + done) (len - done) (omega (arith, h)) in absurd (omega (arith, e, c))) (λ h. h) (lt_or_ge done len)

    some : 0 < len → WrittenIn m len rows (check_new start len)
    some h = check_from_lem m len rows (chunks len) start 0 true f refl (omega arith) (x over h) (λ _. refl)

    none : len ≤ 0 → WrittenIn m len rows (check_new start len)
    none h = let z : chunks len ≡ 0 = omega (arith, h) in rw z tt
piece_from_lem m len rows (suc left) start done f e d r x =
    ⊎_elim (λ h. (record { fits = f; more = h; edge = d h; left = omega (arith, e) }, r h)) (λ h. absurd (none h)) (lt_or_ge done len)
  where
    none : len ≤ done → ⊥
    none h =
        let z : len - done ≡ 0 = omega (arith, h) in
        let q : suc left ≡ 0 = e ∙ ap (row_count (start + done)) z ∙ count_none (start + done) in
        omega (arith, q)

pub write_new_lem : (m : Mark) (at len : ℕ) → at + len ≤ m → WrittenIn m len 0 (write_new at len)
write_new_lem m at len f =
    let e : at + 0 ≡ at = omega arith in
    let z : len - 0 ≡ len = omega arith in
    piece_from_lem m len 0 (row_count at len) at 0 f (rw (e, z)) (λ _. inl refl) (λ _. rw e (omega arith)) (λ h g. absurd (omega (arith, h, g)))

-- the row after one: that one ends its row, or the bytes
module _ (m : Mark) (len : ℕ) (p : Piece) (i : PieceIn m len p) where
  next-count : p.left ≡ row_count (p.start + (p.done + piece_of p len)) (len - (p.done + piece_of p len))
  next-count =
      let g = i.more in
      let l = i.left in
      let c = count-more (p.start + p.done) (len - p.done) (omega (arith, g)) in
      let h : p.left ≡ row_count (p.start + p.done + piece_of p len) (len - p.done - piece_of p len) = omega (arith, l, c) in
      let k : p.start + p.done + piece_of p len ≡ p.start + (p.done + piece_of p len) = omega arith in
      let n : len - p.done - piece_of p len ≡ len - (p.done + piece_of p len) = omega arith in
      h ∙ ap₂ row_count k n

  next_full : p.done + piece_of p len < len → (p.start + p.done) % 16 + piece_of p len ≡ 16
  next_full h = row_full (p.start + p.done) (len - p.done) (omega (arith, h))

  next_piece_lem : (rows : ℕ) → rows + p.start / 16 ≡ (p.start + p.done) / 16 + 1
      → WrittenIn m len rows (piece_from p.left p.start (p.done + piece_of p len) len)
  next_piece_lem rows r =
      let g = i.more in
      let s = row-some (p.start + p.done) (len - p.done) (omega (arith, g)) in
      let room = row_room (p.start + p.done) (len - p.done) in
      let most = (row_most (p.start + p.done) (len - p.done)).0 in
      piece_from_lem m len rows p.left p.start (p.done + piece_of p len) i.fits next-count
      (λ h. let q = next_full h in inr (omega (arith, q)))
      (λ h. let q = next_full h in omega (arith, q, r))
      (λ h _. let q : p.done + piece_of p len ≡ len = omega (arith, h, most, g) in omega (arith, q, r, room, s))

waited_kept : (m : Mark) (len rows : ℕ) (p : Piece) (x : Progress Wait) → PieceIn m len p → rows + p.start / 16 ≡ (p.start + p.done) / 16 + 1 → WaitedIn x
    → WrittenIn m len rows (piece_waited p x len)
waited_kept m len rows p (Ok (Some w)) i r e = (i, r, e)
waited_kept m len rows p (Ok None) i r e = next_piece_lem m len p i rows r
waited_kept m len rows p (Err t) i r e = tt

pub write_kept : (m : Mark) (rows : ℕ) (w : Write) (ack : Bool) (got lent : List ℕ) → WriteIn m (length lent) rows w
    → WrittenIn m (length lent) (rows + counted (write_ask (length lent) w) ack) (write_step w ack got lent)
write_kept m rows (K.Row p) true got lent h = let r = h.1 in (h.0, omega (arith, r), refl)
write_kept m rows (K.Row p) false got lent h = tt
write_kept m rows (K.Wait p w) ack got lent h =
    let e : rows + counted (write_ask (length lent) (K.Wait p w)) ack ≡ rows = omega (arith, wait_counts w ack) in
    rw e (waited_kept m (length lent) rows p (wait_step w ack) h.0 h.1 (wait_kept w ack h.2))
write_kept m rows (K.Check c) true got lent h =
    let e : rows + 0 ≡ rows = omega arith in
    let i = h.0 in
    let g = i.more in
    let v = i.even in
    let l = i.left in
    rw e
    (check_from_lem m (length lent) rows c.left c.start (c.done + 64)
    (c.alike && alike (take (chunk_of c.done (length lent)) got) (take 64 (drop c.done lent)))
    i.fits (omega (arith, v)) (omega (arith, g, l)) h.1 (λ z. absurd (omega (arith, z))))
write_kept m rows (K.Check c) false got lent h = tt

-- A write reaches every row and every chunk of its: each row is acknowledged, and each chunk reads back as it was written, or not.
use mathlib.Core.Path.{◌≡◌, refl, sym, subst, ap, ap₂, ◌∙◌}
use mathlib.Core.Bool.{Bool, true, false}
use mathlib.Core.List.{List, [], ◌∷◌}
use mathlib.Core.Logic.{◌⊎◌, inl, inr, ⊎_elim}
use Prim.Native.Nat.{ℕ, zero, suc, ◌+◌, ◌-◌, ◌*◌, ◌/◌, ◌%◌, ◌≤◌, ◌<◌}
use native.Mathlib.Omega.{arith}
use lib.ListN.{length, get_or, take, drop, replicate, length-take, length-drop}
use lib.Seq.{take_all, drop-cons}
use lib.Dec.{eqb}
use borrow.Author.Tests.{le-ltb, eqb-true, eqb-false, eq-eqb, ne_eqb}
use Rattle.std.specs.Prelude.{Ok, Err, Some}
use Rattle.slices.specs.Pick.{pick}
use Rattle.slices.proofs.Cases.{lt_or_ge, pick_cases}
use Rattle.slices.proofs.Truths.{either_way}
use Rattle.scan.specs.Rows.{row_len, row_count}
use Rattle.scan.specs.Zeros.{alike}
use Rattle.scan.proofs.Cutting.{count-more}
use Rattle.protocol.specs.Mark.{Mark, widened}
use Rattle.protocol.specs.Write.{chunks}
use Rattle.protocol.specs.Call as call
use Rattle.protocol.specs.declared.answer.TagError.TheVariants.{NotTaken}
use Rattle.machine.specs.Wait.{wait_new}
use Rattle.writing.specs.Write.{piece_of, chunk_of, check_from, piece_from, write_new, write_step, write_ask}
use Rattle.writing.specs.declared.write.Piece.{Piece}
use Rattle.writing.specs.declared.write.Check.{Check}
use Rattle.writing.specs.declared.write.Write.{Write}
use Rattle.writing.specs.declared.write.Write.TheVariants as K
use Rattle.stages.specs.Turns.{write_turn}
use Rattle.stages.specs.declared.stage.Stage.TheVariants as G
use Rattle.stages.specs.declared.stage.Turn.TheVariants as D
use Rattle.session.specs.Steps.{counted}
use Rattle.session.proofs.Unders.{count-some}
use Rattle.kept.specs.Bytes.{Bytes}
use Rattle.kept.specs.Kept.{Answers, Kept}
use Rattle.kept.proofs.Marks.{widened_same}
use Rattle.kept.proofs.Rows.{count-one, prev_len}
use Rattle.kept.proofs.Pieces.{PieceIn, CheckIn, WriteIn}
use Rattle.kept.proofs.Replies.{bytes-more, bytes-zeros, bytes_take, bytes_drop, says_none}
use Rattle.kept.proofs.Reach.{at, called, onto}
use Rattle.kept.proofs.ReachMachines.{wait_reached}

-- the row before one that begins a row of the memory
abbrev prev_of : Piece → Piece
prev_of p = record { left = suc p.left; start = p.start; done = p.done - 16 }

alike_same : (l : List ℕ) → alike l l ≡ true
alike_same [] = refl
alike_same (x ∷ xs) = rw (eq-eqb x x refl) (alike_same xs)

-- a byte that is not y, and bytes that begin with it
abbrev other : ℕ → ℕ
other y = pick (eqb y 0) 1 0

other_byte : (y : ℕ) → other y < 256
other_byte y = pick_cases (λ (x : ℕ). x < 256) (eqb y 0) (λ _. omega arith) (λ _. omega arith)

other_differs : (y : ℕ) → eqb (other y) y ≡ false
other_differs y =
    either_way (eqb y 0)
    (λ e. let z = eqb-true y 0 e in rw e (ne_eqb 1 y (λ q. omega (arith, z, q))))
    (λ e. rw e (ne_eqb 0 y (λ q. eqb-false y 0 e (sym q))))

alike-not : (k y : ℕ) (xs ys : List ℕ) → 0 < k → alike (take k (other y ∷ xs)) (take 64 (y ∷ ys)) ≡ false
alike-not zero y xs ys h = absurd (omega (arith, h))
alike-not (suc k) y xs ys h = rw (other_differs y)

module _ (m : Mark) (n : ℕ) (p : Piece) (i : PieceIn m n p) (h : 0 < p.done) where
  edge_row : (p.start + p.done) % 16 ≡ 0
  edge_row = ⊎_elim (λ z. absurd (omega (arith, z, h))) (λ z. z) i.edge

  prev_piece : p.done - 16 + piece_of (prev_of p) n ≡ p.done
  prev_piece = omega (arith, prev_len p.start p.done n h i.more edge_row)

  prev_count : row_count (p.start + (p.done - 16)) (n - (p.done - 16)) ≡ 1 + row_count (p.start + p.done) (n - p.done)
  prev_count =
      let g = i.more in
      let e = prev_len p.start p.done n h g edge_row in
      let a : p.start + (p.done - 16) + row_len (p.start + (p.done - 16)) (n - (p.done - 16)) ≡ p.start + p.done = omega (arith, e) in
      let b : n - (p.done - 16) - row_len (p.start + (p.done - 16)) (n - (p.done - 16)) ≡ n - p.done = omega (arith, e, g) in
      count-more (p.start + (p.done - 16)) (n - (p.done - 16)) (omega (arith, g)) ∙ ap₂ (λ (x y : ℕ). 1 + row_count x y) a b

  prev_in : PieceIn m n (prev_of p)
  prev_in =
      let g = i.more in
      let v = edge_row in
      let l = i.left in
      let d = prev_count in
      let s = count-some (p.start + p.done) (n - p.done) (omega (arith, g)) in
      record {
        fits = i.fits;
        more = omega (arith, g);
        edge = ⊎_elim (λ q. inl (omega (arith, q))) (λ q. inr (omega (arith, q, v))) (lt_or_ge p.done 16);
        left = omega (arith, l, d, s);
      }

-- where the last row of n bytes begins
record Last (start n : ℕ) : Type 0 where
  pub done : ℕ
  pub more : done < n
  pub edge : (done ≡ 0) ⊎ ((start + done) % 16 ≡ 0)
  pub one : (start + done) % 16 + (n - done) ≤ 16
  pub row : (start + done) / 16 ≡ (start + n - 1) / 16

last_row : (start n : ℕ) → 0 < n → Last start n
last_row start n h = ⊎_elim only after (lt_or_ge ((start + n - 1) / 16 * 16) start)
  where
    only : (start + n - 1) / 16 * 16 < start → Last start n
    only q =
        let e : start + 0 ≡ start = omega arith in
        record { done = 0; more = h; edge = inl refl; one = rw e (omega (arith, q, h)); row = rw e (omega (arith, q, h)) }

    after : start ≤ (start + n - 1) / 16 * 16 → Last start n
    after q =
        let e : start + ((start + n - 1) / 16 * 16 - start) ≡ (start + n - 1) / 16 * 16 = omega (arith, q) in
        let z : (start + n - 1) / 16 * 16 % 16 ≡ 0 = omega arith in
        record {
          done = (start + n - 1) / 16 * 16 - start;
          more = omega (arith, h);
          edge = inr (rw (e, z));
          one = rw (e, z) (omega (arith, q, h));
          row = rw e (omega arith);
        }

module _ (m : Mark) (inside : m ≤ 8192) (bs : List ℕ) (are : Bytes bs) where
  abbrev Here : ℕ → Write → Type 0
  Here rows w = Kept (at m rows (length bs) (G.Write w))

  moves : (rows more : ℕ) (w v : Write) (got : List ℕ) → Answers (write_ask (length bs) w) got → write_step w true got bs ≡ Ok (Some v)
      → rows + counted (write_ask (length bs) w) true ≡ more → Here rows w → Here more v
  moves rows more w v got g e c = onto m m rows more (length bs) (G.Write w) (G.Write v) (write_ask (length bs) w) bs true got refl refl are g (ap (write_turn m) e) c

  first_piece : (p : Piece) → PieceIn m (length bs) p → p.done ≡ 0 → Here 0 (K.Row p)
  first_piece p i z =
      let f = i.fits in
      let g = i.more in
      let l = i.left in
      let a : p.start + p.done ≡ p.start = omega (arith, z) in
      let b : length bs - p.done ≡ length bs = omega (arith, z) in
      let d : p.left ≡ row_count p.start (length bs) - 1 = l ∙ ap₂ (λ (x y : ℕ). row_count x y - 1) a b in
      let s = count-some p.start (length bs) (omega (arith, g)) in
      let c : row_count p.start (length bs) ≡ suc p.left = omega (arith, d, s) in
      called (call.write p.start bs) m m (length bs) (G.Write (K.Row p)) inside refl are
      (ap (λ (t : Bool). pick t (D.Over m (Err NotTaken)) (write_turn (widened m p.start (p.start + length bs)) (write_new p.start (length bs))))
      (le-ltb 8192 (p.start + length bs) (omega (arith, f)))
      ∙ ap₂ (λ (k : Mark) (x : ℕ). write_turn k (piece_from x p.start 0 (length bs))) (widened_same m p.start (p.start + length bs) f) c
      ∙ (λ j. D.Open m (G.Write (K.Row (record { left = p.left; start = p.start; done = sym z j })))))

  row-waits : (rows : ℕ) (p : Piece) → 0 < rows → Here (rows - 1) (K.Row p) → Here rows (K.Wait p wait_new)
  row-waits rows p h = moves (rows - 1) rows (K.Row p) (K.Wait p wait_new) [] (says_none (write_ask (length bs) (K.Row p)) refl) refl (omega (arith, h))

  piece_next : (rows : ℕ) (p : Piece) → PieceIn m (length bs) p → 0 < p.done → 0 < rows → Here (rows - 1) (K.Row (prev_of p)) → Here rows (K.Row p)
  piece_next rows p i h g k =
      let e = prev_piece m (length bs) p i h in
      moves rows rows (K.Wait (prev_of p) wait_new) (K.Row p) [] (says_none (write_ask (length bs) (K.Wait (prev_of p) wait_new)) refl)
      (λ j. Ok (Some (K.Row (record { left = p.left; start = p.start; done = e j })))) (omega arith)
      (row-waits rows (prev_of p) g k)

  piece_zero : (rows : ℕ) (p : Piece) → p.done ≡ 0 → PieceIn m (length bs) p → rows + p.start / 16 ≡ (p.start + p.done) / 16 → Here rows (K.Row p)
  piece_zero rows p z i r = subst (λ (n : ℕ). Here n (K.Row p)) (let e : 0 ≡ rows = omega (arith, r, z) in e) (first_piece p i z)

  pieces : (k rows : ℕ) (p : Piece) → p.done ≤ k → PieceIn m (length bs) p → rows + p.start / 16 ≡ (p.start + p.done) / 16 → Here rows (K.Row p)
  pieces zero rows p l i r = piece_zero rows p (omega (arith, l)) i r
  pieces (suc k) rows p l i r = ⊎_elim (later (pieces k)) (λ h. piece_zero rows p (omega (arith, h)) i r) (lt_or_ge 0 p.done)
    where
      later : ((rows : ℕ) (p : Piece) → p.done ≤ k → PieceIn m (length bs) p → rows + p.start / 16 ≡ (p.start + p.done) / 16 → Here rows (K.Row p))
          → 0 < p.done → Here rows (K.Row p)
      later fewer h =
          let v = edge_row m (length bs) p i h in
          let d : (p.start + p.done) / 16 ≡ (p.start + (p.done - 16)) / 16 + 1 = omega (arith, v, h) in
          let s : p.start / 16 ≤ (p.start + (p.done - 16)) / 16 = omega arith in
          let g : 0 < rows = omega (arith, r, d, s) in
          piece_next rows p i h g (fewer (rows - 1) (prev_of p) (omega (arith, l, h)) (prev_in m (length bs) p i h) (omega (arith, r, d, g)))

  waits : (rows : ℕ) (p : Piece) → PieceIn m (length bs) p → rows + p.start / 16 ≡ (p.start + p.done) / 16 + 1 → Here rows (K.Wait p wait_new)
  waits rows p i r =
      let s : p.start / 16 ≤ (p.start + p.done) / 16 = omega arith in
      let g : 0 < rows = omega (arith, r, s) in
      row-waits rows p g (pieces p.done (rows - 1) p (omega arith) i (omega (arith, r, g)))

  -- all rows are programmed
  all_rows : (start : ℕ) (rows : ℕ) → start + length bs ≤ m → 0 < length bs → rows + start / 16 ≡ (start + length bs - 1) / 16 + 1
      → (done : ℕ) × Here rows (K.Wait (record { left = 0; start = start; done = done }) wait_new)
  all_rows start rows f g r =
      let d = last_row start (length bs) g in
      let q = d.row in
      let k = d.more in
      let c = count-one (start + d.done) (length bs - d.done) (omega (arith, k)) d.one in
      (d.done, waits rows (record { left = 0; start = start; done = d.done }) (record { fits = f; more = k; edge = d.edge; left = omega (arith, c) }) (omega (arith, r, q)))

  first_check : (rows : ℕ) (c : Check) → CheckIn m (length bs) c → c.done ≡ 0 → c.alike ≡ true → rows + c.start / 16 ≡ (c.start + length bs - 1) / 16 + 1 → Here rows (K.Check c)
  first_check rows c i z y r =
      let g = i.more in
      let l = i.left in
      let n : chunks (length bs) ≡ suc c.left = omega (arith, l, z, g) in
      let d = all_rows c.start rows i.fits (omega (arith, g)) r in
      moves rows rows (K.Wait (record { left = 0; start = c.start; done = d.0 }) wait_new) (K.Check c) []
      (says_none (write_ask (length bs) (K.Wait (record { left = 0; start = c.start; done = d.0 }) wait_new)) refl)
      (ap (λ (x : ℕ). check_from x c.start 0 true) n ∙ (λ j. Ok (Some (K.Check (record { left = c.left; start = c.start; done = sym z j; alike = sym y j })))))
      (omega arith) d.1

  -- the chunk before one, which was alike
  abbrev back_of : Check → Check
  back_of c = record { left = suc c.left; start = c.start; done = c.done - 64; alike = true }

  back_in : (c : Check) → CheckIn m (length bs) c → 0 < c.done → CheckIn m (length bs) (back_of c)
  back_in c i h =
      let g = i.more in
      let v = i.even in
      let l = i.left in
      record { fits = i.fits; more = omega (arith, g); even = omega (arith, v, h); left = omega (arith, l, v, h, g); same = inl refl }

  -- what is read back after d bytes: the same, or not
  record Back (d : ℕ) (same : Bool) : Type 0 where
    pub got : List ℕ
    pub bytes : Bytes got
    pub enough : chunk_of d (length bs) ≤ length got
    pub says : alike (take (chunk_of d (length bs)) got) (take 64 (drop d bs)) ≡ same

  read_same : (d : ℕ) → Back d true
  read_same d =
      let a = length-take 64 (drop d bs) in
      let b = length-drop d bs in
      record {
        got = take 64 (drop d bs);
        bytes = bytes_take 64 (drop d bs) (bytes_drop d bs are);
        enough = omega (arith, a, b);
        says = ap (λ (l : List ℕ). alike l (take 64 (drop d bs))) (take_all (chunk_of d (length bs)) (take 64 (drop d bs)) (omega (arith, a, b))) ∙ alike_same (take 64 (drop d bs));
      }

  read-other : (d : ℕ) → d < length bs → Back d false
  read-other d h =
      let y = get_or bs d 0 in
      record {
        got = other y ∷ replicate 63 0;
        bytes = bytes-more (other y) (replicate 63 0) (other_byte y) (bytes-zeros 63);
        enough = omega arith;
        says = ap (λ (l : List ℕ). alike (take (chunk_of d (length bs)) (other y ∷ replicate 63 0)) (take 64 l)) (drop-cons bs d 0 h)
            ∙ alike-not (chunk_of d (length bs)) y (replicate 63 0) (drop (suc d) bs) (omega (arith, h));
      }

  check_next : (rows : ℕ) (c : Check) → CheckIn m (length bs) c → 0 < c.done → Back (c.done - 64) c.alike → Here rows (K.Check (back_of c)) → Here rows (K.Check c)
  check_next rows c i h k =
      let v = i.even in
      let d : c.done - 64 + 64 ≡ c.done = omega (arith, v, h) in
      let e = k.says in
      moves rows rows (K.Check (back_of c)) (K.Check c) k.got (record { bytes = k.bytes; enough = k.enough })
      (λ j. Ok (Some (K.Check (record { left = c.left; start = c.start; done = d j; alike = e j })))) (omega arith)

  checks : (k rows : ℕ) (c : Check) → c.done ≤ k → c.alike ≡ true → CheckIn m (length bs) c → rows + c.start / 16 ≡ (c.start + length bs - 1) / 16 + 1 → Here rows (K.Check c)
  checks zero rows c l y i r = first_check rows c i (omega (arith, l)) y r
  checks (suc k) rows c l y i r =
      ⊎_elim
      (λ h. check_next rows c i h (subst (Back (c.done - 64)) (sym y) (read_same (c.done - 64))) (checks k rows (back_of c) (omega (arith, l, h)) refl (back_in c i h) r))
      (λ h. first_check rows c i (omega (arith, h)) y r)
      (lt_or_ge 0 c.done)

  -- one that was not alike has another before it
  unlike : (rows : ℕ) (c : Check) → c.alike ≡ false → 0 < c.done → CheckIn m (length bs) c → rows + c.start / 16 ≡ (c.start + length bs - 1) / 16 + 1 → Here rows (K.Check c)
  unlike rows c y h i r =
      let g = i.more in
      check_next rows c i h (subst (Back (c.done - 64)) (sym y) (read-other (c.done - 64) (omega (arith, g)))) (checks c.done rows (back_of c) (omega arith) refl (back_in c i h) r)

  pub write-reached : (rows : ℕ) (w : Write) → WriteIn m (length bs) rows w → Here rows w
  write-reached rows (K.Row p) h = pieces p.done rows p (omega arith) h.0 h.1
  write-reached rows (K.Wait p w) h =
      wait_reached m rows (length bs) bs refl are (λ x. G.Write (K.Wait p x)) (λ x y ack q. rw q) (λ x. refl) w h.2 (waits rows p h.0 h.1)
  write-reached rows (K.Check c) h =
      let i = h.0 in
      ⊎_elim (λ y. checks c.done rows c (omega arith) y i h.1)
      (λ g. either_way c.alike (λ y. checks c.done rows c (omega arith) y i h.1) (λ y. unlike rows c y g i h.1)) i.same

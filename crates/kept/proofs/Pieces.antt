-- What the tests say of a write: the row or the chunk that it is at, and the rows that it has programmed.
--
--   PieceIn m len p        == p is a row of a write of `len` bytes below the mark m
--   CheckIn m len c        == c is a chunk that such a write reads back
--   WriteIn m len rows w   == such a write is at w with `rows` rows programmed
-- `write-says` and `write_so`: that is what `write_sound` tests.
use mathlib.Core.Path.{◌≡◌, refl, ap, ◌∙◌}
use mathlib.Core.Bool.{Bool, true, ◌&&◌, ◌||◌}
use mathlib.Core.Logic.{◌⊎◌, inl, inr, ⊎_elim}
use Prim.Native.Nat.{ℕ, ◌+◌, ◌-◌, ◌/◌, ◌%◌, ◌≤◌, ◌<◌}
use native.Mathlib.Omega.{arith}
use lib.Dec.{eqb, ltb}
use borrow.Author.Tests.{ltb-true, eqb-true, lt-ltb, le-leb, eq-eqb}
use Rattle.scan.specs.Rows.{row_count}
use Rattle.protocol.specs.Mark.{Mark}
use Rattle.writing.specs.declared.write.Piece.{Piece}
use Rattle.writing.specs.declared.write.Check.{Check}
use Rattle.writing.specs.declared.write.Write.{Write}
use Rattle.writing.specs.declared.write.Write.TheVariants as K
use Rattle.session.specs.Sound.{wait_sound, under, rows_to, piece_rows, check_rows, write_sound}
use Rattle.slices.proofs.Truths.{both, both_so, either, either_left, either_right, chosen, pick_yes}
use Rattle.session.proofs.Unders.{under-says}

pub record PieceIn (m : Mark) (len : ℕ) (p : Piece) : Type 0 where
  pub fits : p.start + len ≤ m
  pub more : p.done < len
  pub edge : (p.done ≡ 0) ⊎ ((p.start + p.done) % 16 ≡ 0)
  pub left : p.left ≡ row_count (p.start + p.done) (len - p.done) - 1

pub record CheckIn (m : Mark) (len : ℕ) (c : Check) : Type 0 where
  pub fits : c.start + len ≤ m
  pub more : c.done < len
  pub even : c.done % 64 ≡ 0
  pub left : c.left ≡ (len - c.done - 1) / 64
  pub same : (c.alike ≡ true) ⊎ (0 < c.done)

abbrev pub WriteIn : Mark → ℕ → ℕ → Write → Type 0
WriteIn m len rows (K.Row p) = PieceIn m len p × (rows + p.start / 16 ≡ (p.start + p.done) / 16)
WriteIn m len rows (K.Wait p w) = PieceIn m len p × (rows + p.start / 16 ≡ (p.start + p.done) / 16 + 1) × (wait_sound w ≡ true)
WriteIn m len rows (K.Check c) = CheckIn m len c × (rows + c.start / 16 ≡ (c.start + len - 1) / 16 + 1)

under_so : (m start len done : ℕ) → start + len ≤ m → done < len → under m start len done ≡ true
under_so m start len done h g =
    both_so _ _ (both_so _ _ (le-leb start m (omega arith)) (le-leb len (m - start) (omega arith))) (lt-ltb done len g)

-- the rows up to the place `at`
rows-up : (start at : ℕ) → start ≤ at → rows_to start (at + 1) + start / 16 ≡ at / 16 + 1
rows-up start at h = let e : at + 1 - 1 ≡ at = omega arith in rw e (let q : start / 16 ≤ at / 16 = omega arith in omega (arith, q))

piece_says : (m len : ℕ) (p : Piece) → 0 < piece_rows m len p → PieceIn m len p
piece_says m len p h =
    let a = chosen (under m p.start len p.done) _ h in
    let b = chosen ((eqb p.done 0 || eqb ((p.start + p.done) % 16) 0) && eqb p.left (row_count (p.start + p.done) (len - p.done) - 1)) _ a.1 in
    let u = under-says m p.start len p.done _ refl a.0 in
    let u0 = u.0 in
    let u1 = u.1 in
    let c = both (eqb p.done 0 || eqb ((p.start + p.done) % 16) 0) (eqb p.left (row_count (p.start + p.done) (len - p.done) - 1)) b.0 in
    record {
      fits = omega (arith, u0, u1);
      more = u.2;
      edge = ⊎_elim (λ e. inl (eqb-true p.done 0 e)) (λ e. inr (eqb-true ((p.start + p.done) % 16) 0 e)) (either (eqb p.done 0) (eqb ((p.start + p.done) % 16) 0) c.0);
      left = eqb-true p.left (row_count (p.start + p.done) (len - p.done) - 1) c.1;
    }

edge_so : (done at : ℕ) → (done ≡ 0) ⊎ (at % 16 ≡ 0) → (eqb done 0 || eqb (at % 16) 0) ≡ true
edge_so done at (inl e) = either_left (eqb done 0) (eqb (at % 16) 0) (eq-eqb done 0 e)
edge_so done at (inr e) = either_right (eqb done 0) (eqb (at % 16) 0) (eq-eqb (at % 16) 0 e)

piece_so : (m len : ℕ) (p : Piece) → PieceIn m len p → piece_rows m len p ≡ rows_to p.start (p.start + p.done + 1)
piece_so m len p i =
    pick_yes _ _ 0 (under_so m p.start len p.done i.fits i.more)
    ∙ pick_yes _ (rows_to p.start (p.start + p.done + 1)) 0
    (both_so _ _ (edge_so p.done (p.start + p.done) i.edge) (eq-eqb p.left (row_count (p.start + p.done) (len - p.done) - 1) i.left))

piece_rows_lem : (m len : ℕ) (p : Piece) → PieceIn m len p → piece_rows m len p + p.start / 16 ≡ (p.start + p.done) / 16 + 1
piece_rows_lem m len p i = ap (λ (n : ℕ). n + p.start / 16) (piece_so m len p i) ∙ rows-up p.start (p.start + p.done) (omega arith)

check_says : (m len : ℕ) (c : Check) → 0 < check_rows m len c → CheckIn m len c
check_says m len c h =
    let a = chosen (under m c.start len c.done) _ h in
    let b = chosen (eqb (c.done % 64) 0 && eqb c.left ((len - c.done - 1) / 64) && (c.alike || ltb 0 c.done)) _ a.1 in
    let u = under-says m c.start len c.done _ refl a.0 in
    let u0 = u.0 in
    let u1 = u.1 in
    let d = both (eqb (c.done % 64) 0 && eqb c.left ((len - c.done - 1) / 64)) (c.alike || ltb 0 c.done) b.0 in
    let e = both (eqb (c.done % 64) 0) (eqb c.left ((len - c.done - 1) / 64)) d.0 in
    record {
      fits = omega (arith, u0, u1);
      more = u.2;
      even = eqb-true (c.done % 64) 0 e.0;
      left = eqb-true c.left ((len - c.done - 1) / 64) e.1;
      same = ⊎_elim (λ q. inl q) (λ q. inr (ltb-true 0 c.done q)) (either c.alike (ltb 0 c.done) d.1);
    }

same_so : (b : Bool) (done : ℕ) → (b ≡ true) ⊎ (0 < done) → (b || ltb 0 done) ≡ true
same_so b done (inl e) = either_left b (ltb 0 done) e
same_so b done (inr e) = either_right b (ltb 0 done) (lt-ltb 0 done e)

check_so : (m len : ℕ) (c : Check) → CheckIn m len c → check_rows m len c ≡ rows_to c.start (c.start + len)
check_so m len c i =
    pick_yes _ _ 0 (under_so m c.start len c.done i.fits i.more)
    ∙ pick_yes _ (rows_to c.start (c.start + len)) 0
    (both_so _ _ (both_so _ _ (eq-eqb (c.done % 64) 0 i.even) (eq-eqb c.left ((len - c.done - 1) / 64) i.left)) (same_so c.alike c.done i.same))

check_rows_lem : (m len : ℕ) (c : Check) → CheckIn m len c → check_rows m len c + c.start / 16 ≡ (c.start + len - 1) / 16 + 1
check_rows_lem m len c i =
    let g = i.more in
    let e : c.start + len ≡ c.start + len - 1 + 1 = omega (arith, g) in
    ap (λ (n : ℕ). n + c.start / 16) (check_so m len c i ∙ ap (rows_to c.start) e) ∙ rows-up c.start (c.start + len - 1) (omega (arith, g))

pub write-says : (m len rows : ℕ) (w : Write) → write_sound m len rows w ≡ true → WriteIn m len rows w
write-says m len rows (K.Row p) e =
    let a = both (ltb 0 (piece_rows m len p)) (eqb rows (piece_rows m len p - 1)) e in
    let h = ltb-true 0 (piece_rows m len p) a.0 in
    let i = piece_says m len p h in
    let q = eqb-true rows (piece_rows m len p - 1) a.1 in
    (i, omega (arith, h, q, piece_rows_lem m len p i))
write-says m len rows (K.Wait p w) e =
    let a2 = both _ (wait_sound w) e in
    let a1 = both (ltb 0 rows) (eqb rows (piece_rows m len p)) a2.0 in
    let h = ltb-true 0 rows a1.0 in
    let q = eqb-true rows (piece_rows m len p) a1.1 in
    let i = piece_says m len p (omega (arith, h, q)) in
    (i, omega (arith, q, piece_rows_lem m len p i), a2.1)
write-says m len rows (K.Check c) e =
    let a = both (ltb 0 rows) (eqb rows (check_rows m len c)) e in
    let h = ltb-true 0 rows a.0 in
    let q = eqb-true rows (check_rows m len c) a.1 in
    let i = check_says m len c (omega (arith, h, q)) in
    (i, omega (arith, q, check_rows_lem m len c i))

pub write_so : (m len rows : ℕ) (w : Write) → WriteIn m len rows w → write_sound m len rows w ≡ true
write_so m len rows (K.Row p) h =
    let q = piece_rows_lem m len p h.0 in
    let g = h.1 in
    let k : p.start / 16 ≤ (p.start + p.done) / 16 = omega arith in
    both_so _ _ (lt-ltb 0 (piece_rows m len p) (omega (arith, q, k))) (eq-eqb rows (piece_rows m len p - 1) (omega (arith, q, g)))
write_so m len rows (K.Wait p w) h =
    let q = piece_rows_lem m len p h.0 in
    let g = h.1 in
    let k : p.start / 16 ≤ (p.start + p.done) / 16 = omega arith in
    both_so _ _ (both_so _ _ (lt-ltb 0 rows (omega (arith, g, k))) (eq-eqb rows (piece_rows m len p) (omega (arith, q, g)))) h.2
write_so m len rows (K.Check c) h =
    let i = h.0 in
    let j = i.more in
    let q = check_rows_lem m len c i in
    let g = h.1 in
    let k : c.start / 16 ≤ (c.start + len - 1) / 16 = omega (arith, j) in
    both_so _ _ (lt-ltb 0 rows (omega (arith, g, k))) (eq-eqb rows (check_rows m len c) (omega (arith, q, g)))

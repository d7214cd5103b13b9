-- Rows, chunks and the wipe, in a world where the memory is known.
use mathlib.Core.Path.{◌≡◌, refl, ap}
use mathlib.Core.Bool.{Bool, true, false}
use mathlib.Core.List.{List, [], ◌∷◌, ◌++◌}
use Prim.Native.Nat.{ℕ, ◌+◌, ◌-◌, ◌*◌, ◌%◌, ◌≤◌, ◌<◌}
use native.Mathlib.Omega.{arith}
use lib.Dec.{eqb, ltb, leb}
use lib.ListN.{length}
use borrow.Author.Tests.{lt-ltb, le-leb, ne_eqb}
use Rattle.slices.specs.Bytes.{splice}
use Rattle.protocol.specs.Transfer.{write, place, place_of}
use Rattle.protocol.specs.Tag.{user, ready_polls}
use Rattle.protocol.specs.Mark.{Mark}
use Rattle.protocol.specs.Proc.{Res, ok}
use Rattle.protocol.specs.Write.{program_row}
use Rattle.protocol.specs.Scrub.{zero_row, program_rows}
use Rattle.part.specs.Part.{Part}
use Rattle.part.specs.Orders.{order_of, in_row}
use Rattle.part.specs.Looks.{look_of}
use Rattle.part.specs.declared.order.Order.TheVariants.{Row}
use Rattle.part.specs.declared.look.Look.TheVariants.{Memory}
use Rattle.nothing_left.proofs.Always.{always, rows_on, onto, always_done, always_bind}
use Rattle.nothing_left.proofs.Steps.{yes, wait_ready_lem, write-taken, obeyed}
use Rattle.nothing_left.proofs.Worlds.{Room}

pub place_back : (a : ℕ) (bs : List ℕ) → a < 65536 → place_of (place a ++ bs) ≡ a
place_back a bs h = omega arith

-- a row write is one, for the part
pub row_order : (a : ℕ) (bs : List ℕ) → a < 8192 → order_of user (place a ++ bs) ≡ Row a
unfolding order_of
row_order a bs h =
    let e : place_of (place a ++ bs) ≡ a = place_back a bs (omega arith) in
    let f : eqb (length (place a ++ bs)) 0 ≡ false = ne_eqb (length (place a ++ bs)) 0 (λ x. omega arith) in
    let g : eqb (place_of (place a ++ bs)) 0x2003 ≡ false = ne_eqb (place_of (place a ++ bs)) 0x2003 (λ x. omega arith) in
    rw f (rw g (ap Row e))

pub row-noted : (a : ℕ) (bs R : List ℕ) → a < 8192 → 0 < length bs → rows_on (write user (place a) bs) (yes []) R ≡ a ∷ R
row-noted a bs R h l =
    let e : place_of (place a) ≡ a = place_back a [] (omega arith) in
    let f : ltb 0 (length bs) ≡ true = lt-ltb 0 (length bs) l in
    let g : ltb (place_of (place a)) 8192 ≡ true = lt-ltb (place_of (place a)) 8192 (omega arith) in
    rw f (rw g (ap (λ (x : ℕ). x ∷ R) (place_back a bs (omega arith))))

pub row_fits : (a n : ℕ) → a < 8192 → 0 < n → a % 16 + n ≤ 16 → in_row a n ≡ true
row_fits a n h l f = rw (lt-ltb 0 n l) (rw (lt-ltb a 8192 h) (le-leb n (16 - a % 16) (omega arith)))

-- a read of user memory is one
pub memory-look : (a n : ℕ) → a + n ≤ 8192 → look_of user (place a) n ≡ Memory a
unfolding look_of
memory-look a n h =
    let e : place_of (place a) ≡ a = place_back a [] (omega arith) in
    let f : leb (place_of (place a) + n) 8192 ≡ true = le-leb (place_of (place a) + n) 8192 (omega arith) in
    rw f (ap Memory e)

-- the rows of which the bit is set
abbrev pub marked : ℕ → List Bool → List ℕ
marked at [] = []
marked at (true ∷ bits) = at ∷ marked (at + 16) bits
marked at (false ∷ bits) = marked (at + 16) bits

-- the memory after them
abbrev pub zero_rows : ℕ → List Bool → List ℕ → List ℕ
zero_rows at [] M = M
zero_rows at (true ∷ bits) M = zero_rows (at + 16) bits (splice M at zero_row)
zero_rows at (false ∷ bits) M = zero_rows (at + 16) bits M

module _ (Ph : Part → Part → Type 0) (F : List ℕ → Part → Type 0) (W : Room Ph F) where
  pub program-row : (Q : Res Unit → Mark → List ℕ → Part → Type 0) (m : Mark) (R M : List ℕ) (a : ℕ) (bs : List ℕ)
      → a < 8192 → 0 < length bs → a % 16 + length bs ≤ 16
      → ((p : Part) → F (splice M a bs) p → p.registers.busy ≡ 0 → Q (ok tt) m (a ∷ R) p)
      → (p : Part) → F M p → p.registers.busy ≡ 0 → always Ph (program_row a bs) Q m R p
  program-row Q m R M a bs h l f post p i z =
      write-taken Ph W.timeless (F M) (W.stable M) _ Q m R user (place a) bs (Row a) (length bs) bs (a ∷ R)
      (row_order a bs h) (omega arith) refl (row-noted a bs R h l)
      (λ _ _. row_fits a (length bs) h l f)
      (λ q j y c. wait_ready_lem Ph W.timeless (F (splice M a bs)) (W.stable (splice M a bs)) Q m (a ∷ R) post ready_polls
      (obeyed (Row a) (length bs) bs c q) (W.row M a bs (length bs) c q j) (omega arith))
      p i z

  pub program-rows : (Q : Res Unit → Mark → List ℕ → Part → Type 0) (m : Mark) (bits : List Bool) (R M : List ℕ) (at : ℕ)
      → at % 16 ≡ 0 → at + 16 * length bits ≤ 8192
      → ((p : Part) → F (zero_rows at bits M) p → p.registers.busy ≡ 0 → Q (ok tt) m (onto (marked at bits) R) p)
      → (p : Part) → F M p → p.registers.busy ≡ 0 → always Ph (program_rows at bits) Q m R p
  program-rows Q m [] R M at d h post p i z = always_done Ph (ok tt) Q m R p (post p i z)
  program-rows Q m (true ∷ bits) R M at d h post p i z =
      always_bind Ph (program_row at zero_row) _ Q m R p
      (program-row _ m R M at zero_row (omega arith) (omega arith) (omega arith)
      (λ q j y. program-rows Q m bits (at ∷ R) (splice M at zero_row) (at + 16) (omega arith) (omega arith) post q j y) p i z)
  program-rows Q m (false ∷ bits) R M at d h post p i z = program-rows Q m bits R M (at + 16) (omega arith) (omega arith) post p i z

-- What holds whenever a procedure ends on the part, whatever the cycles and the phones are.
--
--   Phone p q           == what a phone may do: nothing, or with RF on any change of bytes, which is reported where GPO1 says so
--   Still p q           == nothing happens
--   always Ph q Q m R p == each run of the procedure q from the part p, with the mark at m and the rows R programmed (the last one first),
--                          ends with an answer, a mark, rows and a part for which Q holds. Ph is what may happen between two transfers
-- `always_run`: what always holds, holds of a run.
use mathlib.Core.Path.{◌≡◌, refl, ap, subst, sym, ◌∙◌}
use mathlib.Core.Bool.{Bool, true, false, ◌&&◌}
use mathlib.Core.List.{List, [], ◌∷◌, ◌++◌}
use Prim.Native.Nat.{ℕ, suc, ◌+◌, ◌≤◌}
use lib.Dec.{leb}
use lib.ListN.{length}
use borrow.Author.Tests.{eqb-true, leb-true}
use Rattle.slices.specs.Pick.{pick}
use Rattle.slices.specs.Bytes.{splice}
use Rattle.slices.proofs.Truths.{and_left, and_right}
use Rattle.protocol.specs.Transfer.{Transfer, Reply, sent, is_row, place_of}
use Rattle.protocol.specs.Tag.{user, user_memory}
use Rattle.protocol.specs.Mark.{Mark}
use Rattle.protocol.specs.Setup.{reports}
use Rattle.protocol.specs.Proc.{Proc, done, ask, mark, ◌>>=◌, when◌then◌else◌}
use Rattle.protocol.specs.Trace.{answer_of, mark_of, trace}
use Rattle.part.specs.Part.{Part, rf_on, with_reported}
use Rattle.part.specs.Bus.{reply_of, after_of}
use Rattle.part.specs.Power.{Visit, still, writes, visited, reached}
use Rattle.nothing_left.specs.Runs.{Moments, onwards, replies, part_of}
use Rattle.nothing_left.specs.Rows.{row_at, programmed}

-- the part with other bytes, written by a phone
abbrev pub touched : List ℕ → Part → Part
touched bs p = record {
  identity = p.identity;
  memory = bs;
  registers = with_reported (when reports p.registers.gpo1 then true else p.registers.reported) p.registers;
}

pub data Phone (p : Part) : Part → Type 0 where
  quiet : Phone p p
  wrote : (at : ℕ) (bs : List ℕ) → p.registers.rf ≡ 0 → at + length bs ≤ 8192 → Phone p (touched (splice p.memory at bs) p)

pub data Still (p : Part) : Part → Type 0 where
  same : Still p p

pub visit_phone : (v : Visit) (p : Part) → Phone p (visited v p)
visit_phone still p = quiet
visit_phone (writes at bs) p = go (reached at (length bs) p.registers) refl
  where
    go : (b : Bool) → reached at (length bs) p.registers ≡ b → Phone p (visited (writes at bs) p)
    go true e =
        let h = and_left (rf_on p.registers) (leb (at + length bs) 8192) e in
        let l = and_right (rf_on p.registers) (leb (at + length bs) 8192) e in
        rw e (wrote at bs (eqb-true p.registers.rf 0 h) (leb-true (at + length bs) 8192 l))
    go false e = rw e quiet

-- a row that this transfer programs, in front of those before it
abbrev pub rows_on : Transfer → Reply → List ℕ → List ℕ
rows_on t r R = row_at (record { transfer = t; reply = r }) ++ R

unfoldable pub always : {A : Type 0} → (Part → Part → Type 0) → Proc A → (A → Mark → List ℕ → Part → Type 0) → Mark → List ℕ → Part → Type 0
always Ph (done a) Q m R p = Q a m R p
always Ph (ask t k) Q m R p = (q : Part) → Ph p q → (c : ℕ) → always Ph (k (reply_of t q)) Q m (rows_on t (reply_of t q) R) (after_of t c q)
always Ph (mark n k) Q m R p = always Ph k Q n R p

-- a list onto another, turned round
abbrev pub onto : List ℕ → List ℕ → List ℕ
onto [] R = R
onto (x ∷ xs) R = onto xs (x ∷ R)

pub onto_append : (xs ys R : List ℕ) → onto (xs ++ ys) R ≡ onto ys (onto xs R)
onto_append [] ys R = refl
onto_append (x ∷ xs) ys R = onto_append xs ys (x ∷ R)

-- a row or none
onto-row : (b : Bool) (a : ℕ) (R : List ℕ) → onto (pick b (a ∷ []) []) R ≡ pick b (a ∷ []) [] ++ R
onto-row true a R = refl
onto-row false a R = refl

pub always_run : {A : Type 0} (Ph : Part → Part → Type 0) (q : Proc A) (Q : A → Mark → List ℕ → Part → Type 0) (m : Mark) (R : List ℕ) (p : Part) (w : Moments)
    → ((n : ℕ) (x : Part) → Ph x (visited (w n).phone x)) → always Ph q Q m R p
    → Q (answer_of q (replies q p w)) (mark_of m q (replies q p w)) (onto (programmed (trace q (replies q p w))) R) (part_of q p w)
unfolding always
always_run Ph (done a) Q m R p w f h = h
always_run Ph (ask t k) Q m R p w f h =
    let v = visited (w 0).phone p in
    let r = reply_of t v in
    let rest = replies (k r) (after_of t (w 0).cycle v) (onwards w) in
    let e : onto (programmed (trace (k r) rest)) (rows_on t r R) ≡ onto (row_at (record { transfer = t; reply = r }) ++ programmed (trace (k r) rest)) R =
    sym (onto_append (row_at (record { transfer = t; reply = r })) (programmed (trace (k r) rest)) R
    ∙ ap (onto (programmed (trace (k r) rest))) (onto-row (is_row user user_memory t && r.ack) (place_of (sent t)) R)) in
    subst (λ (l : List ℕ). Q (answer_of (k r) rest) (mark_of m (k r) rest) l (part_of (k r) (after_of t (w 0).cycle v) (onwards w))) e
    (always_run Ph (k r) Q m (rows_on t r R) (after_of t (w 0).cycle v) (onwards w) (λ n x. f (suc n) x) (h v (f 0 p) (w 0).cycle))
always_run Ph (mark n k) Q m R p w f h = always_run Ph k Q n R p w f h

-- with any phones
pub phones-run : {A : Type 0} (q : Proc A) (Q : A → Mark → List ℕ → Part → Type 0) (m : Mark) (R : List ℕ) (p : Part) (w : Moments) → always Phone q Q m R p
    → Q (answer_of q (replies q p w)) (mark_of m q (replies q p w)) (onto (programmed (trace q (replies q p w))) R) (part_of q p w)
phones-run q Q m R p w h = always_run Phone q Q m R p w (λ n x. visit_phone (w n).phone x) h

module _ (Ph : Part → Part → Type 0) where
  pub always_done : {A : Type 0} (a : A) (Q : A → Mark → List ℕ → Part → Type 0) (m : Mark) (R : List ℕ) (p : Part) → Q a m R p → always Ph (done a) Q m R p
  unfolding always
  always_done a Q m R p h = h

  pub always_mark : {A : Type 0} (n : Mark) (k : Proc A) (Q : A → Mark → List ℕ → Part → Type 0) (m : Mark) (R : List ℕ) (p : Part)
      → always Ph k Q n R p → always Ph (mark n k) Q m R p
  unfolding always
  always_mark n k Q m R p h = h

  pub always_bind : {A B : Type 0} (q : Proc A) (f : A → Proc B) (Q : B → Mark → List ℕ → Part → Type 0) (m : Mark) (R : List ℕ) (p : Part)
      → always Ph q (λ a n S x. always Ph (f a) Q n S x) m R p → always Ph (q >>= f) Q m R p
  unfolding always
  always_bind (done a) f Q m R p h = h
  always_bind (ask t k) f Q m R p h = λ x ph c. always_bind (k (reply_of t x)) f Q m _ (after_of t c x) (h x ph c)
  always_bind (mark n k) f Q m R p h = always_bind k f Q n R p h

  pub always_mono : {A : Type 0} (q : Proc A) (Q S : A → Mark → List ℕ → Part → Type 0)
      → ((a : A) (m : Mark) (R : List ℕ) (p : Part) → Q a m R p → S a m R p) → (m : Mark) (R : List ℕ) (p : Part)
      → always Ph q Q m R p → always Ph q S m R p
  unfolding always
  always_mono (done a) Q S f m R p h = f a m R p h
  always_mono (ask t k) Q S f m R p h = λ x ph c. always_mono (k (reply_of t x)) Q S f m _ (after_of t c x) (h x ph c)
  always_mono (mark n k) Q S f m R p h = always_mono k Q S f n R p h

  pub always_both : {A : Type 0} (q : Proc A) (Q S : A → Mark → List ℕ → Part → Type 0) (m : Mark) (R : List ℕ) (p : Part)
      → always Ph q Q m R p → always Ph q S m R p → always Ph q (λ a n L x. Q a n L x × S a n L x) m R p
  unfolding always
  always_both (done a) Q S m R p h g = (h, g)
  always_both (ask t k) Q S m R p h g = λ x ph c. always_both (k (reply_of t x)) Q S m _ (after_of t c x) (h x ph c) (g x ph c)
  always_both (mark n k) Q S m R p h g = always_both k Q S n R p h g

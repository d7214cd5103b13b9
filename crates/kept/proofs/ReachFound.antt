-- What a wipe has to read to go on where it should: zeros, or rows that are not zero.
--
--   before p, last_of p, prev_of r   == the chunk before p, the last row of p, the row before r
--   zeros                          == what is read of a chunk that is passed
--   Found p r                      == what is read of the chunk p so that the first row that is programmed is r
use mathlib.Core.Path.{◌≡◌, refl, sym, subst, ap, ◌∙◌}
use mathlib.Core.Bool.{Bool, true, false, not, ◌&&◌}
use mathlib.Core.List.{List, [], ◌∷◌, ◌++◌}
use Prim.Native.Nat.{ℕ, zero, suc, ◌+◌, ◌-◌, ◌*◌, ◌/◌, ◌≤◌, ◌<◌}
use native.Mathlib.Omega.{arith}
use lib.ListN.{take, replicate}
use lib.Dec.{eqb}
use Rattle.std.specs.Prelude.{Ok, Err, Some}
use Rattle.slices.specs.Pick.{pick}
use Rattle.slices.proofs.Truths.{false_of, never}
use Rattle.scan.proofs.Blanks.{blank-take}
use Rattle.protocol.specs.Mark.{Mark}
use Rattle.protocol.specs.Scrub.{dirty_rows}
use Rattle.protocol.specs.declared.answer.TagError.TheVariants.{NotTaken}
use Rattle.wipe.specs.Scrub.{size_of, next_chunk, after_read, read_step, reread_step, scrub_ask}
use Rattle.wipe.specs.declared.scrub.Chunk.{Chunk}
use Rattle.wipe.specs.declared.scrub.Rows.{Rows}
use Rattle.wipe.specs.declared.scrub.Scrub.TheVariants as C
use Rattle.numbers.specs.Flat.{bit_of}
use Rattle.kept.specs.Bytes.{Bytes}
use Rattle.kept.specs.Kept.{Answers}
use Rattle.kept.proofs.Replies.{bytes-none, bytes-more, bytes-zeros, bytes-both}
use Rattle.kept.proofs.Chunks.{stop_of, ChunkIn, RowIn, stop-rows}

abbrev pub before : Chunk → Chunk
before p = record { left = suc p.left; at = p.at - 64; end = p.end }

abbrev pub last_of : Chunk → Rows
last_of p = record { row = stop_of p - 16; x = false; y = false; z = false }

abbrev pub prev_of : Rows → Rows
prev_of r = record { row = r.row - 16; x = true; y = r.x; z = r.y }

module _ (m : Mark) (p : Chunk) (i : ChunkIn m p) where
  pub before_in : 0 < p.at → ChunkIn m (before p)
  before_in h =
      let s = i.some in
      let v = i.even in
      let l = i.left in
      record { end = i.end; some = omega (arith, s); even = omega (arith, v, h); left = omega (arith, s, v, l, h) }

  pub before-stop : 0 < p.at → stop_of (before p) ≡ p.at
  before-stop h =
      let s = i.some in
      let v = i.even in
      omega (arith, s, v, h)

  pub last_in : RowIn p (last_of p)
  last_in =
      let s = i.some in
      let v = i.even in
      let t = stop-rows m p i in
      record { here = omega (arith, s); same = omega (arith, s, v, t); even = omega (arith, t); x = never; y = never; z = never }

  module _ (r : Rows) (q : RowIn p r) where
    pub prev_in : p.at < r.row → RowIn p (prev_of r)
    prev_in h =
        let v = i.even in
        let w = q.even in
        let g = q.here in
        let s = q.same in
        let k : 16 ≤ r.row = omega (arith, h, v, w) in
        record {
          here = omega (arith, g);
          same = omega (arith, h, v, w, s);
          even = omega (arith, w);
          x = λ _. omega (arith, g, k);
          y = λ e. let u = q.x e in omega (arith, u);
          z = λ e. let u = q.y e in omega (arith, u);
        }

    -- the rows that are to come are rows of the chunk
    no_x : p.at + 48 ≤ r.row → r.x ≡ false
    no_x h = false_of r.x (λ e. let u = q.x e in omega (arith, u, h))

    no_y : p.at + 32 ≤ r.row → r.y ≡ false
    no_y h = false_of r.y (λ e. let u = q.y e in omega (arith, u, h))

    pub no_z : p.at + 16 ≤ r.row → r.z ≡ false
    no_z h = false_of r.z (λ e. let u = q.z e in omega (arith, u, h))

-- a row whose first byte is 1 or 0
abbrev mem : Bool → List ℕ → List ℕ
mem b l = bit_of b ∷ (replicate 15 0 ++ l)

dirty : (b : Bool) → not (eqb (bit_of b) 0 && true) ≡ b
dirty true = refl
dirty false = refl

mem_bytes : (b : Bool) (l : List ℕ) → Bytes l → Bytes (mem b l)
mem_bytes true l h = bytes-more 1 (replicate 15 0 ++ l) (omega arith) (bytes-both (replicate 15 0) l (bytes-zeros 15) h)
mem_bytes false l h = bytes-more 0 (replicate 15 0 ++ l) (omega arith) (bytes-both (replicate 15 0) l (bytes-zeros 15) h)

-- a row that is not read is not found
unread : (b : Bool) (n k : ℕ) → k ≤ n → (b ≡ true → n < k) → false ≡ b
unread b n k l f = sym (false_of b (λ e. let h = f e in omega (arith, h, l)))

-- what four such rows are found to be, of which the first k are read
module _ (a b c d : Bool) where
  abbrev four : List ℕ
  four = mem a (mem b (mem c (mem d [])))

  abbrev FourOf : ℕ → Type 0
  FourOf k = dirty_rows 4 (take (k * 16) four) ≡ a ∷ b ∷ c ∷ d ∷ []

  dirty_four : (k : ℕ) → 0 < k → k ≤ 4 → (b ≡ true → 1 < k) → (c ≡ true → 2 < k) → (d ≡ true → 3 < k) → FourOf k
  dirty_four zero h u fb fc fd = absurd (omega (arith, h))
  dirty_four (suc zero) h u fb fc fd =
      let eb = unread b 1 1 (omega arith) fb in
      let ec = unread c 2 1 (omega arith) fc in
      let ed = unread d 3 1 (omega arith) fd in
      λ i. dirty a i ∷ eb i ∷ ec i ∷ ed i ∷ []
  dirty_four (suc (suc zero)) h u fb fc fd =
      let ec = unread c 2 2 (omega arith) fc in
      let ed = unread d 3 2 (omega arith) fd in
      λ i. dirty a i ∷ dirty b i ∷ ec i ∷ ed i ∷ []
  dirty_four (suc (suc (suc zero))) h u fb fc fd = let ed = unread d 3 3 (omega arith) fd in λ i. dirty a i ∷ dirty b i ∷ dirty c i ∷ ed i ∷ []
  dirty_four (suc (suc (suc (suc zero)))) h u fb fc fd = λ i. dirty a i ∷ dirty b i ∷ dirty c i ∷ dirty d i ∷ []
  dirty_four (suc (suc (suc (suc (suc k))))) h u fb fc fd = absurd (omega (arith, u))

four_bytes : (a b c d : Bool) → Bytes (four a b c d)
four_bytes a b c d =
    mem_bytes a (mem b (mem c (mem d []))) (mem_bytes b (mem c (mem d [])) (mem_bytes c (mem d []) (mem_bytes d [] bytes-none)))

pub record Found (p : Chunk) (r : Rows) : Type 0 where
  pub got : List ℕ
  pub answers : Answers (scrub_ask (C.Read p)) got
  pub leads : read_step p true got ≡ Ok (Some (C.Row p r))

-- four rows are found as they are
module _ (m : Mark) (p : Chunk) (i : ChunkIn m p) (a b c d : Bool)
    (fb : b ≡ true → p.at + 16 < stop_of p) (fc : c ≡ true → p.at + 32 < stop_of p) (fd : d ≡ true → p.at + 48 < stop_of p) where
  four_read : dirty_rows 4 (take (size_of p.at p.end) (four a b c d)) ≡ a ∷ b ∷ c ∷ d ∷ []
  four_read =
      let s = i.some in
      let v = i.even in
      let t = stop-rows m p i in
      let k = size_of p.at p.end / 16 in
      let w : stop_of p ≡ p.at + k * 16 = omega (arith, s, v, t) in
      let z : k * 16 ≡ size_of p.at p.end = omega (arith, s, w) in
      subst (λ (n : ℕ). dirty_rows 4 (take n (four a b c d)) ≡ a ∷ b ∷ c ∷ d ∷ []) z
      (dirty_four a b c d k (omega (arith, s, w)) (omega arith)
      (λ h. let u = fb h in omega (arith, u, w)) (λ h. let u = fc h in omega (arith, u, w)) (λ h. let u = fd h in omega (arith, u, w)))

  found : (r : Rows) → after_read p (a ∷ b ∷ c ∷ d ∷ []) ≡ Ok (Some (C.Row p r)) → Found p r
  found r e = record { got = four a b c d; answers = record { bytes = four_bytes a b c d; enough = omega arith }; leads = ap (after_read p) four_read ∙ e }

-- a chunk of zeros: the next one is read
abbrev pub zeros : List ℕ
zeros = four false false false false

pub says-zeros : (p : Chunk) → Answers (scrub_ask (C.Read p)) zeros
says-zeros p = record { bytes = four_bytes false false false false; enough = omega arith }

pub next-read : (m : Mark) (p : Chunk) → ChunkIn m p → next_chunk p ≡ read_step p true zeros
next-read m p i = ap (after_read p) (sym (four_read m p i false false false false never never never))

pub next-reread : (p : Chunk) → next_chunk p ≡ reread_step p true zeros
next-reread p = ap (λ (b : Bool). pick b (next_chunk p) (Err NotTaken)) (sym (blank-take (size_of p.at p.end) zeros refl))

module _ (m : Mark) (p : Chunk) (r : Rows) (i : ChunkIn m p) (q : RowIn p r) where
  -- r is the row j of its chunk
  found_at : (j : ℕ) → p.at + j * 16 ≡ r.row → Found p r
  found_at zero e =
      let b : p.at ≡ r.row = omega (arith, e) in
      found m p i true r.x r.y r.z
      (λ h. let u = q.x h in omega (arith, u, e)) (λ h. let u = q.y h in omega (arith, u, e)) (λ h. let u = q.z h in omega (arith, u, e)) r
      (λ k. Ok (Some (C.Row p (record { row = b k; x = r.x; y = r.y; z = r.z }))))
  found_at (suc zero) e =
      let g = q.here in
      let ez = no_z m p i r q (omega (arith, e)) in
      found m p i false true r.x r.y (λ _. omega (arith, e, g)) (λ h. let u = q.x h in omega (arith, u, e)) (λ h. let u = q.y h in omega (arith, u, e)) r
      (λ k. Ok (Some (C.Row p (record { row = e k; x = r.x; y = r.y; z = sym ez k }))))
  found_at (suc (suc zero)) e =
      let g = q.here in
      let b : p.at + 16 + 16 ≡ r.row = omega (arith, e) in
      let ez = no_z m p i r q (omega (arith, e)) in
      let ey = no_y m p i r q (omega (arith, e)) in
      found m p i false false true r.x never (λ _. omega (arith, e, g)) (λ h. let u = q.x h in omega (arith, u, e)) r
      (λ k. Ok (Some (C.Row p (record { row = b k; x = r.x; y = sym ey k; z = sym ez k }))))
  found_at (suc (suc (suc zero))) e =
      let g = q.here in
      let b : p.at + 16 + 16 + 16 ≡ r.row = omega (arith, e) in
      let ez = no_z m p i r q (omega (arith, e)) in
      let ey = no_y m p i r q (omega (arith, e)) in
      let ex = no_x m p i r q (omega (arith, e)) in
      found m p i false false false true never never (λ _. omega (arith, e, g)) r
      (λ k. Ok (Some (C.Row p (record { row = b k; x = sym ex k; y = sym ey k; z = sym ez k }))))
  found_at (suc (suc (suc (suc j)))) e = let g = q.here in absurd (omega (arith, e, g))

  pub found_any : Found p r
  found_any =
      let v = i.even in
      let w = q.even in
      let s = q.same in
      found_at ((r.row - p.at) / 16) (omega (arith, v, w, s))

-- The machine of the wipe: its steps as the code takes them.
use mathlib.Core.Path.{◌≡◌, refl, ap, fun_ext, ◌∙◌}
use mathlib.Core.List.{List, [], ◌∷◌, ◌++◌}
use mathlib.Core.Bool.{Bool, true, false, not, ◌||◌}
use Prim.Native.Nat.{ℕ, zero, suc, ◌+◌, ◌-◌}
use native.Mathlib.Omega.{arith}
use lib.ListN.{take, drop}
use lib.Seq.{drop-drop}
use Rattle.std.specs.Prelude.{Ok, Err, Some, None}
use Rattle.slices.specs.Pick.{pick}
use Rattle.scan.specs.Zeros.{blank}
use Rattle.protocol.specs.Answer.{Progress}
use Rattle.protocol.specs.Proc.{Proc, done, ask, Res, ok, try, fine, refuse}
use Rattle.protocol.specs.Scrub.{dirty_rows, some, program_rows, reread, scrub_to, zero_row}
use Rattle.protocol.specs.Write.{program_row}
use Rattle.protocol.specs.declared.answer.TagError.TheVariants.{NoAnswer, NotTaken}
use Rattle.machine.specs.Ask.{meant}
use Rattle.machine.specs.Wait.{wait_new, wait_ask, wait_step, resume_wait, after_wait}
use Rattle.wipe.specs.Scrub.{size_of, chunk_from, next_chunk, next_row, after_read, read_step, reread_step, row_step, bits, waited_step, scrub_step, scrub_ask, onward, rows_then, resume_scrub, after_scrub}
use Rattle.machine.specs.declared.wait.Wait as wait
use Rattle.wipe.specs.declared.scrub.Chunk.{Chunk}
use Rattle.wipe.specs.declared.scrub.Rows.{Rows}
use Rattle.wipe.specs.declared.scrub.Scrub.{Scrub}
use Rattle.wipe.specs.declared.scrub.Scrub.TheVariants.{Read, Row, Wait, Reread}
use Rattle.machine.proofs.Waits.{wait_bridge}

-- the code counts down by one
pub chunk-from : (left at end : ℕ) → (left ≡ 0 → ⊥) → Ok (Some (Read (record { left = left - 1; at = at; end = end }))) ≡ chunk_from left at end
chunk-from zero at end h = absurd (h refl)
chunk-from (suc l) at end h = ap (λ (k : ℕ). Ok (Some (Read (record { left = k; at = at; end = end })))) (omega arith)

-- the first row is clean, and one of the others is not, or none is
pub some-found : (p : Chunk) (a b c d : Bool) → a ≡ false → b || c || d ≡ true → Ok (Some (next_row p (p.at + 16) (b ∷ c ∷ d ∷ []))) ≡ after_read p (a ∷ b ∷ c ∷ d ∷ [])
some-found p true b c d e f = absurd (let z : ◌≡◌ {A = ℕ} 0 1 = cc in omega arith)
some-found p false true c d e f = refl
some-found p false false true d e f = refl
some-found p false false false true e f = refl
some-found p false false false false e f = absurd (let z : ◌≡◌ {A = ℕ} 0 1 = cc in omega arith)

pub none_found : (p : Chunk) (a b c d : Bool) → a ≡ false → b || c || d ≡ false → next_chunk p ≡ after_read p (a ∷ b ∷ c ∷ d ∷ [])
none_found p true b c d e f = absurd (let z : ◌≡◌ {A = ℕ} 0 1 = cc in omega arith)
none_found p false true c d e f = absurd (let z : ◌≡◌ {A = ℕ} 0 1 = cc in omega arith)
none_found p false false true d e f = absurd (let z : ◌≡◌ {A = ℕ} 0 1 = cc in omega arith)
none_found p false false false true e f = absurd (let z : ◌≡◌ {A = ℕ} 0 1 = cc in omega arith)
none_found p false false false false e f = refl

four_rows : (x : List ℕ) (a b c d : Bool)
    → a ≡ not (blank (take 16 (drop 0 x))) → b ≡ not (blank (take 16 (drop 16 x))) → c ≡ not (blank (take 16 (drop 32 x)))
    → d ≡ not (blank (take 16 (drop 48 x))) → a ∷ b ∷ c ∷ d ∷ [] ≡ dirty_rows 4 x
four_rows x a b c d ea eb ec ed = rw (drop-drop 16 16 x, drop-drop 16 32 x) (rw (ea, eb, ec, ed))

module _ (p : Chunk) (ack : Bool) (l : List ℕ) (n : ℕ) where
  pub read_law : (a b c d : Bool) (r : Progress Scrub) → ack ≡ true → n ≡ size_of p.at p.end
      → a ≡ not (blank (take 16 (drop 0 (take n l)))) → b ≡ not (blank (take 16 (drop 16 (take n l))))
      → c ≡ not (blank (take 16 (drop 32 (take n l)))) → d ≡ not (blank (take 16 (drop 48 (take n l))))
      → r ≡ after_read p (a ∷ b ∷ c ∷ d ∷ []) → r ≡ read_step p ack l
  read_law a b c d r e en ea eb ec ed er =
      er ∙ ap (after_read p) (four_rows (take n l) a b c d ea eb ec ed) ∙ rw (e, ← en)

  pub reread_clean : (t : Bool) → ack ≡ true → n ≡ size_of p.at p.end → t ≡ blank (take n l) → t ≡ true → next_chunk p ≡ reread_step p ack l
  reread_clean t e en et ht = rw (e, ← en, ← et, ht)

  pub reread_dirty : (t : Bool) → ack ≡ true → n ≡ size_of p.at p.end → t ≡ blank (take n l) → t ≡ false → Err NotTaken ≡ reread_step p ack l
  reread_dirty t e en et ht = rw (e, ← en, ← et, ht)

-- a row more that is not to be programmed changes nothing
pad : (bs : List Bool) (at : ℕ) → program_rows at bs ≡ program_rows at (bs ++ false ∷ [])
pad [] at = refl
pad (true ∷ bs) at = ap (λ (m : Proc (Res Unit)). try (program_row at zero_row) (λ _. m)) (pad bs (at + 16))
pad (false ∷ bs) at = pad bs (at + 16)

next_row_lem : (p : Chunk) (at : ℕ) (x y z : Bool) → rows_then p (program_rows at (x ∷ y ∷ z ∷ [])) ≡ resume_scrub (next_row p at (x ∷ y ∷ z ∷ []))
next_row_lem p at true y z = ap (rows_then p) (pad (true ∷ y ∷ z ∷ []) at)
next_row_lem p at false true z = ap (rows_then p) (pad (true ∷ z ∷ []) (at + 16) ∙ pad (true ∷ z ∷ false ∷ []) (at + 16))
next_row_lem p at false false true = refl
next_row_lem p at false false false = refl

pub chunks_on : (left at end : ℕ) → scrub_to left at end ≡ after_scrub (chunk_from left at end)
chunks_on zero at end = refl
chunks_on (suc left) at end = refl

after_read_lem : (p : Chunk) (a b c d : Bool)
    → try (try (program_rows p.at (a ∷ b ∷ c ∷ d ∷ [])) (λ _. pick (some (a ∷ b ∷ c ∷ d ∷ [])) (reread p.at (size_of p.at p.end)) fine)) (λ _. onward p)
    ≡ after_scrub (after_read p (a ∷ b ∷ c ∷ d ∷ []))
after_read_lem p true b c d = refl
after_read_lem p false true c d = next_row_lem p (p.at + 16) true c d
after_read_lem p false false true d = next_row_lem p (p.at + 16) false true d
after_read_lem p false false false true = refl
after_read_lem p false false false false = chunks_on p.left (p.at + 64) p.end

read_case : (p : Chunk) (g : List ℕ) (b : Bool)
    → try (try (pick b (done (ok (take (size_of p.at p.end) g))) (refuse NoAnswer)) (λ l.
    try (program_rows p.at (dirty_rows 4 l)) (λ _. pick (some (dirty_rows 4 l)) (reread p.at (size_of p.at p.end)) fine))) (λ _. onward p)
    ≡ after_scrub (read_step p b g)
read_case p g true =
    let x = take (size_of p.at p.end) g in
    after_read_lem p (not (blank (take 16 x))) (not (blank (take 16 (drop 16 x)))) (not (blank (take 16 (drop 16 (drop 16 x))))) (not (blank (take 16 (drop 16 (drop 16 (drop 16 x))))))
read_case p g false = refl

row_case : (p : Chunk) (r : Rows) (b : Bool)
    → rows_then p (try (try (pick b fine (refuse NoAnswer)) (λ _. resume_wait wait_new)) (λ _. program_rows (r.row + 16) (bits r)))
    ≡ after_scrub (row_step p r b)
row_case p r true = refl
row_case p r false = refl

waited_case : (p : Chunk) (r : Rows) (x : Progress wait.Wait)
    → rows_then p (try (after_wait x) (λ _. program_rows (r.row + 16) (bits r))) ≡ after_scrub (waited_step p r x)
waited_case p r (Ok (Some w)) = refl
waited_case p r (Ok None) = next_row_lem p (r.row + 16) r.x r.y r.z
waited_case p r (Err e) = refl

reread_case : (p : Chunk) (d b : Bool) (g : List ℕ) → d ≡ blank (take (size_of p.at p.end) g)
    → try (try (pick b (done (ok (take (size_of p.at p.end) g))) (refuse NoAnswer)) (λ l. pick (blank l) fine (refuse NotTaken))) (λ _. onward p)
    ≡ after_scrub (reread_step p b g)
reread_case p true true g e = rw (← e) (chunks_on p.left (p.at + 64) p.end)
reread_case p false true g e = rw (← e)
reread_case p d false g e = refl

-- the machine does what the tree says
pub scrub_bridge : (lent : List ℕ) (s : Scrub) → resume_scrub s ≡ ask (meant lent (scrub_ask s)) (λ r. after_scrub (scrub_step s r.ack r.got))
scrub_bridge lent (Read p) = ap (ask (meant lent (scrub_ask (Read p)))) (fun_ext (λ r. read_case p r.got r.ack))
scrub_bridge lent (Row p t) = ap (ask (meant lent (scrub_ask (Row p t)))) (fun_ext (λ r. row_case p t r.ack))
scrub_bridge lent (Wait p t w) =
    ap (λ (m : Proc (Res Unit)). rows_then p (try m (λ _. program_rows (t.row + 16) (bits t)))) (wait_bridge lent w)
    ∙ ap (ask (meant lent (wait_ask w))) (fun_ext (λ r. waited_case p t (wait_step w r.ack)))
scrub_bridge lent (Reread p) =
    ap (ask (meant lent (scrub_ask (Reread p)))) (fun_ext (λ r. reread_case p (blank (take (size_of p.at p.end) r.got)) r.ack r.got refl))

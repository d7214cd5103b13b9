-- The machine of `write`: its steps as the code takes them, and that it does what the tree says.
use mathlib.Core.Path.{◌≡◌, refl, sym, ap, ap₂, fun_ext, ◌∙◌}
use mathlib.Core.List.{List}
use mathlib.Core.Bool.{Bool, true, false, ◌&&◌}
use mathlib.Core.Logic.{⊎_elim}
use Prim.Native.Nat.{ℕ, zero, suc, ◌+◌, ◌-◌, ◌≤◌, ◌<◌, min}
use native.Mathlib.Omega.{arith}
use native.Mathlib.Nat.{add_assoc, add-zero}
use lib.ListN.{length, take, drop, length-take, length-drop}
use lib.Seq.{drop-drop, take_all}
use Rattle.std.specs.Prelude.{Ok, Err, Some, None}
use Rattle.slices.specs.Pick.{pick}
use Rattle.slices.proofs.Cases.{lt_or_ge}
use Rattle.scan.specs.Rows.{row_len, row_count}
use Rattle.scan.specs.Zeros.{alike}
use Rattle.protocol.specs.Tag.{user, chunk}
use Rattle.protocol.specs.Answer.{Progress}
use Rattle.protocol.specs.Proc as proc
use Rattle.protocol.specs.Proc.{Proc, ask, Res, ok, try, fine, refuse}
use Rattle.protocol.specs.Bus.{read}
use Rattle.protocol.specs.Write.{program_row, program, read_back, chunks}
use Rattle.protocol.specs.declared.answer.TagError.TheVariants.{NoAnswer}
use Rattle.machine.specs.Ask.{meant}
use Rattle.machine.specs.Wait.{wait_new, wait_ask, wait_step, resume_wait, after_wait}
use Rattle.writing.specs.Write.{piece_of, chunk_of, check_from, check_new, piece_from, write_new, next_piece, piece_step, piece_waited, compared_to, check_step, write_step, write_ask, back_of, rows_on, resume_write, after_write}
use Rattle.machine.specs.declared.wait.Wait as wait
use Rattle.writing.specs.declared.write.Piece.{Piece}
use Rattle.writing.specs.declared.write.Check.{Check}
use Rattle.writing.specs.declared.write.Write.{Write}
use Rattle.writing.specs.declared.write.Write.TheVariants as K
use Rattle.machine.proofs.Waits.{wait_bridge}

-- the code counts down by one
pub check_from_lem : (left start done : ℕ) (same : Bool) → (left ≡ 0 → ⊥)
    → Ok (Some (K.Check (record { left = left - 1; start = start; done = done; alike = same }))) ≡ check_from left start done same
check_from_lem zero start done same h = absurd (h refl)
check_from_lem (suc l) start done same h = ap (λ (k : ℕ). Ok (Some (K.Check (record { left = k; start = start; done = done; alike = same })))) (omega arith)

piece_from_lem : (left start done n : ℕ) → (left ≡ 0 → ⊥) → Ok (Some (K.Row (record { left = left - 1; start = start; done = done }))) ≡ piece_from left start done n
piece_from_lem zero start done n h = absurd (h refl)
piece_from_lem (suc l) start done n h = ap (λ (k : ℕ). Ok (Some (K.Row (record { left = k; start = start; done = done })))) (omega arith)

pub next_piece_lem : (p : Piece) (n k : ℕ) → k ≡ piece_of p n → (p.left ≡ 0 → ⊥)
    → Ok (Some (K.Row (record { left = p.left - 1; start = p.start; done = p.done + k }))) ≡ next_piece p n
next_piece_lem p n k e h =
    ap (λ (j : ℕ). Ok (Some (K.Row (record { left = p.left - 1; start = p.start; done = p.done + j })))) e ∙ piece_from_lem p.left p.start (p.done + piece_of p n) n h

-- a write from its first row, or with no row at all
pub first_piece : (start n k : ℕ) → k ≡ row_count start n → (k ≡ 0 → ⊥) → Ok (Some (K.Row (record { left = k - 1; start = start; done = 0 }))) ≡ write_new start n
first_piece start n k e h = piece_from_lem k start 0 n h ∙ ap (λ (l : ℕ). piece_from l start 0 n) e

pub no_piece : (start n k : ℕ) → k ≡ row_count start n → k ≡ 0 → check_new start n ≡ write_new start n
no_piece start n k e z = ap (λ (l : ℕ). piece_from l start 0 n) (sym z ∙ e)

pub last_piece : (p : Piece) (n : ℕ) → p.left ≡ 0 → check_new p.start n ≡ next_piece p n
last_piece p n e = ap (λ (l : ℕ). piece_from l p.start (p.done + piece_of p n) n) (sym e)

-- the part of the bytes that a chunk is compared with
chunk-take : (d n : ℕ) (l : List ℕ) → n ≡ chunk_of d (length l) → take (d + n - d) (drop d l) ≡ take chunk (drop d l)
chunk-take d n l e = ⊎_elim short long (lt_or_ge (length l - d) 64)
  where
    short : length l - d < 64 → take (d + n - d) (drop d l) ≡ take chunk (drop d l)
    short h = take_all (d + n - d) (drop d l) (omega (arith, length-drop d l)) ∙ sym (take_all 64 (drop d l) (omega (arith, length-drop d l)))

    long : 64 ≤ length l - d → take (d + n - d) (drop d l) ≡ take chunk (drop d l)
    long h = let q : d + n - d ≡ 64 = omega arith in ap (λ (k : ℕ). take k (drop d l)) q

-- both parts that are compared have the chunk's length
pub parts_even : (got lent : List ℕ) (d n : ℕ) → n ≤ length got → d + n ≤ length lent → length (take n got) ≡ length (take (d + n - d) (drop d lent))
parts_even got lent d n h g = simp (length-take, length-drop) (omega arith)

pub check_law : (c : Check) (ack : Bool) (got lent : List ℕ) (n : ℕ) (t : Bool) (r : Progress Write) → ack ≡ true → n ≡ chunk_of c.done (length lent)
    → t ≡ alike (take n got) (take (c.done + n - c.done) (drop c.done lent)) → r ≡ compared_to c (c.alike && t) → r ≡ check_step c ack got lent
check_law c ack got lent n t r e en et er =
    er ∙ ap (λ (b : Bool). compared_to c (c.alike && b))
    (et ∙ ap₂ alike (ap (λ (k : ℕ). take k got) en) (chunk-take c.done n lent en))
    ∙ rw e

-- the read back from its first chunk
back_on : (lent : List ℕ) (k start : ℕ) → read_back k start lent true ≡ after_write lent (check_from k start 0 true)
back_on lent zero start = refl
back_on lent (suc k) start = ap (λ (a : ℕ). read_back (suc k) a lent true) (sym (add-zero start))

-- the rows from `done` on, and the read back after them
rows_on_lem : (lent : List ℕ) (left start at done : ℕ) → at ≡ start + done
    → try (program left at (drop done lent)) (λ _. back_of lent start) ≡ after_write lent (piece_from left start done (length lent))
rows_on_lem lent zero start at done e = back_on lent (chunks (length lent)) start
rows_on_lem lent (suc left) start at done e = ap (λ (a : ℕ). try (program (suc left) a (drop done lent)) (λ _. back_of lent start)) e

-- one row, with the bytes counted from the start
one-row : (lent : List ℕ) (left at done : ℕ)
    → program (suc left) at (drop done lent)
    ≡ try (program_row at (take (row_len at (length lent - done)) (drop done lent)))
    (λ _. program left (at + row_len at (length lent - done)) (drop (done + row_len at (length lent - done)) lent))
one-row lent left at done =
    ap (λ (m : ℕ). try (program_row at (take (row_len at m) (drop done lent))) (λ _. program left (at + row_len at m) (drop (row_len at m) (drop done lent)))) (length-drop done lent)
    ∙ ap (λ (l : List ℕ). try (program_row at (take (row_len at (length lent - done)) (drop done lent))) (λ _. program left (at + row_len at (length lent - done)) l))
    (drop-drop (row_len at (length lent - done)) done lent)

row_case : (lent : List ℕ) (p : Piece) (b : Bool)
    → try (try (try (pick b fine (refuse NoAnswer)) (λ _. resume_wait wait_new)) (λ _. rows_on lent p)) (λ _. back_of lent p.start) ≡ after_write lent (piece_step p b)
row_case lent p true = refl
row_case lent p false = refl

waited_case : (lent : List ℕ) (p : Piece) (x : Progress wait.Wait)
    → try (try (after_wait x) (λ _. rows_on lent p)) (λ _. back_of lent p.start) ≡ after_write lent (piece_waited p x (length lent))
waited_case lent p (Ok (Some w)) = refl
waited_case lent p (Ok None) =
    rows_on_lem lent p.left p.start _ (p.done + piece_of p (length lent)) (add_assoc p.start p.done (piece_of p (length lent)))
waited_case lent p (Err e) = refl

-- the chunks from `done` on
checks_on : (lent : List ℕ) (left start at done : ℕ) (same : Bool) → at ≡ start + done
    → read_back left at (drop done lent) same ≡ after_write lent (check_from left start done same)
checks_on lent zero start at done true e = refl
checks_on lent zero start at done false e = refl
checks_on lent (suc left) start at done same e = ap (λ (a : ℕ). read_back (suc left) a (drop done lent) same) e

one_chunk : (lent : List ℕ) (left at done : ℕ) (same : Bool)
    → read_back (suc left) at (drop done lent) same
    ≡ try (read user at (chunk_of done (length lent))) (λ got. read_back left (at + chunk) (drop (done + chunk) lent) (same && alike got (take chunk (drop done lent))))
one_chunk lent left at done same =
    ap (λ (m : ℕ). try (read user at (min chunk m)) (λ got. read_back left (at + chunk) (drop chunk (drop done lent)) (same && alike got (take chunk (drop done lent))))) (length-drop done lent)
    ∙ ap (λ (l : List ℕ). try (read user at (chunk_of done (length lent))) (λ got. read_back left (at + chunk) l (same && alike got (take chunk (drop done lent)))))
    (drop-drop chunk done lent)

check_case : (lent : List ℕ) (c : Check) (g : List ℕ) (b : Bool)
    → try (pick b (proc.done (ok (take (chunk_of c.done (length lent)) g))) (refuse NoAnswer))
    (λ got. read_back c.left (c.start + c.done + chunk) (drop (c.done + chunk) lent) (c.alike && alike got (take chunk (drop c.done lent))))
    ≡ after_write lent (check_step c b g lent)
check_case lent c g true =
    checks_on lent c.left c.start _ (c.done + chunk)
    (c.alike && alike (take (chunk_of c.done (length lent)) g) (take chunk (drop c.done lent))) (add_assoc c.start c.done chunk)
check_case lent c g false = refl

pub write_bridge : (lent : List ℕ) (w : Write)
    → resume_write lent w ≡ ask (meant lent (write_ask (length lent) w)) (λ r. after_write lent (write_step w r.ack r.got lent))
write_bridge lent (K.Row p) =
    ap (λ (m : Proc (Res Unit)). try m (λ _. back_of lent p.start)) (one-row lent p.left (p.start + p.done) p.done)
    ∙ ap (ask (meant lent (write_ask (length lent) (K.Row p)))) (fun_ext (λ r. row_case lent p r.ack))
write_bridge lent (K.Wait p w) =
    ap (λ (m : Proc (Res Unit)). try (try m (λ _. rows_on lent p)) (λ _. back_of lent p.start)) (wait_bridge lent w)
    ∙ ap (ask (meant lent (wait_ask w))) (fun_ext (λ r. waited_case lent p (wait_step w r.ack)))
write_bridge lent (K.Check c) =
    one_chunk lent c.left (c.start + c.done) c.done c.alike
    ∙ ap (ask (meant lent (write_ask (length lent) (K.Check c)))) (fun_ext (λ r. check_case lent c r.got r.ack))

-- from its first state it is all rows, and the read back
pub write_starts : (lent : List ℕ) (start : ℕ)
    → try (program (row_count start (length lent)) start lent) (λ _. back_of lent start) ≡ after_write lent (write_new start (length lent))
write_starts lent start = rows_on_lem lent (row_count start (length lent)) start start 0 (sym (add-zero start))

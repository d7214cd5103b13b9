-- The machine of `write`, after the mark has moved. Source: tag.rs, `write`, `program`. Its states are from no public document: how a call
-- is kept between two transfers. `write_bridge` (proofs/Writes): the machine does what protocol's tree says.
--
--   piece_of p n              == how many bytes the row has that is programmed, of n bytes in all
--   chunk_of done n           == how many bytes the chunk has that is read back after `done` of n
--   check_from left start done same == `left` chunks to be read back from `done` on, alike so far or not: the first, or the answer
--   check_new start n         == where the read back of n bytes begins: its first chunk, or done where there is none
--   piece_from left start done n == `left` rows to be programmed from `done` on: the first, or the read back
--   write_new start n         == where the writing of n bytes begins
--   write_ask n w             == the transfer that it waits on
--   write_step w ack got lent == where the reply leads; `lent` are the bytes that are written
--   piece_step, piece_waited, check_step == its parts: after a row, in the wait, after a chunk was read back
--   next_piece, compared_to    == where to go on: after a row, after a comparison
--   Inside n w               == the places of w lie inside the n bytes
--   back_of lent start        == the read back of all that was written, as a tree
--   rows_on lent p            == the rows after p, as a tree
--   resume_write lent w       == what remains of `write` from w. after_write: the same after a step
use Rattle.std.specs.Prelude.{ℕ, zero, suc, ◌+◌, ◌-◌, ◌<◌, ◌≤◌, min, List, Bool, true, ◌&&◌, length, take, drop, Ok, Err, Some, None}
use Rattle.slices.specs.Pick.{pick}
use Rattle.scan.specs.Rows.{row_len, row_count}
use Rattle.scan.specs.Zeros.{alike}
use Rattle.protocol.specs.Tag.{user, chunk}
use Rattle.protocol.specs.Answer.{Progress}
use Rattle.protocol.specs.Proc.{Proc, Res, try, fine, refuse}
use Rattle.protocol.specs.Write.{program, read_back, chunks}
use Rattle.protocol.specs.declared.answer.TagError.TheVariants.{NoAnswer, NotTaken}
use Rattle.machine.specs.Wait.{wait_new, wait_ask, wait_step, resume_wait}
use Rattle.machine.specs.declared.ask.Ask.{Ask}
use Rattle.machine.specs.declared.ask.Ask.TheVariants as A
use Rattle.machine.specs.declared.wait.Wait as wait
use Rattle.writing.specs.declared.write.Piece.{Piece}
use Rattle.writing.specs.declared.write.Check.{Check}
use Rattle.writing.specs.declared.write.Write.{Write}
use Rattle.writing.specs.declared.write.Write.TheVariants as K

abbrev pub piece_of : Piece → ℕ → ℕ
piece_of p n = row_len (p.start + p.done) (n - p.done)

abbrev pub chunk_of : ℕ → ℕ → ℕ
chunk_of done n = min chunk (n - done)

-- `left` chunks from `done` on, alike so far or not
abbrev pub check_from : ℕ → ℕ → ℕ → Bool → Progress Write
check_from zero start done same = pick same (Ok None) (Err NotTaken)
check_from (suc left) start done same = Ok (Some (K.Check (record { left = left; start = start; done = done; alike = same })))

abbrev pub check_new : ℕ → ℕ → Progress Write
check_new start n = check_from (chunks n) start 0 true

-- `left` rows from `done` on
abbrev pub piece_from : ℕ → ℕ → ℕ → ℕ → Progress Write
piece_from zero start done n = check_new start n
piece_from (suc left) start done n = Ok (Some (K.Row (record { left = left; start = start; done = done })))

abbrev pub write_new : ℕ → ℕ → Progress Write
write_new start n = piece_from (row_count start n) start 0 n

abbrev pub next_piece : Piece → ℕ → Progress Write
next_piece p n = piece_from p.left p.start (p.done + piece_of p n) n

abbrev pub piece_step : Piece → Bool → Progress Write
piece_step p ack = pick ack (Ok (Some (K.Wait p wait_new))) (Err NoAnswer)

abbrev pub piece_waited : Piece → Progress wait.Wait → ℕ → Progress Write
piece_waited p (Ok (Some w)) n = Ok (Some (K.Wait p w))
piece_waited p (Ok None) n = next_piece p n
piece_waited p (Err e) n = Err e

abbrev pub compared_to : Check → Bool → Progress Write
compared_to c same = check_from c.left c.start (c.done + chunk) same

abbrev pub check_step : Check → Bool → List ℕ → List ℕ → Progress Write
check_step c ack got lent =
    pick ack
    (compared_to c (c.alike && alike (take (chunk_of c.done (length lent)) got) (take chunk (drop c.done lent))))
    (Err NoAnswer)

abbrev pub write_step : Write → Bool → List ℕ → List ℕ → Progress Write
write_step (K.Row p) ack got lent = piece_step p ack
write_step (K.Wait p w) ack got lent = piece_waited p (wait_step w ack) (length lent)
write_step (K.Check c) ack got lent = check_step c ack got lent

abbrev pub write_ask : ℕ → Write → Ask
write_ask n (K.Row p) = A.Row (p.start + p.done) p.done (piece_of p n)
write_ask n (K.Wait p w) = wait_ask w
write_ask n (K.Check c) = A.Read user (c.start + c.done) (chunk_of c.done n)

abbrev pub Inside : ℕ → Write → Type 0
Inside n (K.Row p) = (p.start + p.done < 70000) × (p.done ≤ n) × (n ≤ 8192)
Inside n (K.Wait p w) = (p.start + p.done < 70000) × (p.done ≤ n) × (n ≤ 8192)
Inside n (K.Check c) = (c.start + c.done < 70000) × (c.done ≤ n) × (n ≤ 8192)

-- the read back of all that was written
abbrev pub back_of : List ℕ → ℕ → Proc (Res Unit)
back_of lent start = read_back (chunks (length lent)) start lent true

-- the rows after one
abbrev pub rows_on : List ℕ → Piece → Proc (Res Unit)
rows_on lent p = program p.left (p.start + p.done + piece_of p (length lent)) (drop (p.done + piece_of p (length lent)) lent)

abbrev pub resume_write : List ℕ → Write → Proc (Res Unit)
resume_write lent (K.Row p) = try (program (suc p.left) (p.start + p.done) (drop p.done lent)) (λ _. back_of lent p.start)
resume_write lent (K.Wait p w) = try (try (resume_wait w) (λ _. rows_on lent p)) (λ _. back_of lent p.start)
resume_write lent (K.Check c) = read_back (suc c.left) (c.start + c.done) (drop c.done lent) c.alike

abbrev pub after_write : List ℕ → Progress Write → Proc (Res Unit)
after_write lent (Ok (Some w)) = resume_write lent w
after_write lent (Ok None) = fine
after_write lent (Err e) = refuse e

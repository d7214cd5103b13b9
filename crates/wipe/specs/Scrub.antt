-- The machine of the wipe. Source: tag.rs, `scrub_to`. Its states are from no public document: how a call is kept between two transfers.
-- `scrub_bridge` (proofs/Scrubs): the machine does what protocol's tree says.
--
--   size_of at end            == how many bytes the chunk at `at` has, of a wipe that ends at `end`
--   chunk_from left at end    == the chunk at `at`, with `left` chunks left from it on; done where there is none
--   scrub_new end             == where a wipe to `end` begins: its first chunk, or done where there is none
--   scrub_ask s               == the transfer that it waits on
--   scrub_step s ack got      == where the reply leads
--   read_step, row_step, waited_step, reread_step == its parts: after the read of a chunk, after a row, in the wait, after the second read
--   after_read, next_row, next_chunk == where to go on: after the rows that are not zero are known, after a row, after a chunk
--   bits r                   == which of the three rows after the one that is programmed are to be too
--   Near s                   == the places of s leave room to count on
--   onward p                 == the chunks after p, as a tree
--   rows_then p m             == the rows m of the chunk p, then its second read and the chunks after it, as a tree
--   resume_scrub s            == what remains of `scrub_to` from s. after_scrub: the same after a step
use Rattle.std.specs.Prelude.{ℕ, zero, suc, ◌+◌, ◌-◌, ◌<◌, min, List, [], ◌∷◌, Bool, true, false, take, Ok, Err, Some, None}
use Rattle.slices.specs.Pick.{pick}
use Rattle.scan.specs.Rows.{row}
use Rattle.scan.specs.Zeros.{blank}
use Rattle.protocol.specs.Tag.{user, chunk}
use Rattle.protocol.specs.Answer.{Progress}
use Rattle.protocol.specs.Proc.{Proc, Res, try, fine, refuse}
use Rattle.protocol.specs.Write.{chunks}
use Rattle.protocol.specs.Scrub.{dirty_rows, some, program_rows, reread, scrub_to}
use Rattle.protocol.specs.declared.answer.TagError.TheVariants.{NoAnswer, NotTaken}
use Rattle.machine.specs.Wait.{wait_new, wait_ask, wait_step, resume_wait}
use Rattle.machine.specs.declared.ask.Ask.{Ask}
use Rattle.machine.specs.declared.ask.Ask.TheVariants as A
use Rattle.machine.specs.declared.wait.Wait as wait
use Rattle.wipe.specs.declared.scrub.Chunk.{Chunk}
use Rattle.wipe.specs.declared.scrub.Rows.{Rows}
use Rattle.wipe.specs.declared.scrub.Scrub.{Scrub}
use Rattle.wipe.specs.declared.scrub.Scrub.TheVariants.{Read, Row, Wait, Reread}

abbrev pub size_of : ℕ → ℕ → ℕ
size_of at end = min chunk (end - at)

-- the chunk at `at`, with the number left from it on
abbrev pub chunk_from : ℕ → ℕ → ℕ → Progress Scrub
chunk_from zero at end = Ok None
chunk_from (suc left) at end = Ok (Some (Read (record { left = left; at = at; end = end })))

abbrev pub scrub_new : ℕ → Progress Scrub
scrub_new end = chunk_from (chunks end) 0 end

abbrev pub next_chunk : Chunk → Progress Scrub
next_chunk p = chunk_from p.left (p.at + chunk) p.end

abbrev bit : List Bool → ℕ → Bool
bit [] n = false
bit (b ∷ bits) zero = b
bit (b ∷ bits) (suc n) = bit bits n

abbrev pub next_row : Chunk → ℕ → List Bool → Scrub
next_row p at [] = Reread p
next_row p at (true ∷ bits) = Row p (record { row = at; x = bit bits 0; y = bit bits 1; z = bit bits 2 })
next_row p at (false ∷ bits) = next_row p (at + row) bits

abbrev pub after_read : Chunk → List Bool → Progress Scrub
after_read p bits = pick (some bits) (Ok (Some (next_row p p.at bits))) (next_chunk p)

abbrev pub read_step : Chunk → Bool → List ℕ → Progress Scrub
read_step p ack got = pick ack (after_read p (dirty_rows 4 (take (size_of p.at p.end) got))) (Err NoAnswer)

abbrev pub reread_step : Chunk → Bool → List ℕ → Progress Scrub
reread_step p ack got = pick ack (pick (blank (take (size_of p.at p.end) got)) (next_chunk p) (Err NotTaken)) (Err NoAnswer)

abbrev pub row_step : Chunk → Rows → Bool → Progress Scrub
row_step p r ack = pick ack (Ok (Some (Wait p r wait_new))) (Err NoAnswer)

-- which of the three rows after this one are to be programmed
abbrev pub bits : Rows → List Bool
bits r = r.x ∷ r.y ∷ r.z ∷ []

abbrev pub waited_step : Chunk → Rows → Progress wait.Wait → Progress Scrub
waited_step p r (Ok (Some w)) = Ok (Some (Wait p r w))
waited_step p r (Ok None) = Ok (Some (next_row p (r.row + row) (bits r)))
waited_step p r (Err e) = Err e

abbrev pub scrub_step : Scrub → Bool → List ℕ → Progress Scrub
scrub_step (Read p) ack got = read_step p ack got
scrub_step (Row p r) ack got = row_step p r ack
scrub_step (Wait p r w) ack got = waited_step p r (wait_step w ack)
scrub_step (Reread p) ack got = reread_step p ack got

abbrev pub scrub_ask : Scrub → Ask
scrub_ask (Read p) = A.Read user p.at (size_of p.at p.end)
scrub_ask (Row p r) = A.Zeros r.row
scrub_ask (Wait p r w) = wait_ask w
scrub_ask (Reread p) = A.Read user p.at (size_of p.at p.end)

abbrev pub Near : Scrub → Type 0
Near (Read p) = p.at < 69000
Near (Row p r) = Unit
Near (Wait p r w) = r.row < 69000
Near (Reread p) = p.at < 69000

-- the chunks after this one
abbrev pub onward : Chunk → Proc (Res Unit)
onward p = scrub_to p.left (p.at + chunk) p.end

-- what follows the rows of a chunk of which one was programmed
abbrev pub rows_then : Chunk → Proc (Res Unit) → Proc (Res Unit)
rows_then p m = try (try m (λ _. reread p.at (size_of p.at p.end))) (λ _. onward p)

abbrev pub resume_scrub : Scrub → Proc (Res Unit)
resume_scrub (Read p) = scrub_to (suc p.left) p.at p.end
resume_scrub (Row p r) = rows_then p (program_rows r.row (true ∷ bits r))
resume_scrub (Wait p r w) = rows_then p (try (resume_wait w) (λ _. program_rows (r.row + row) (bits r)))
resume_scrub (Reread p) = try (reread p.at (size_of p.at p.end)) (λ _. onward p)

abbrev pub after_scrub : Progress Scrub → Proc (Res Unit)
after_scrub (Ok (Some s)) = resume_scrub s
after_scrub (Ok None) = fine
after_scrub (Err e) = refuse e

-- The wipe. Source: tag.rs, `scrub`, `scrub_to`.
--
--   zero_row               == a row of zeros
--   dirty_rows k bs        == which of the first k rows of bs are not zero
--   some bits             == one of them is
--   program_rows at bits   == for each row from `at`: program it with zeros where its bit is set
--   reread at n           == read a chunk that was programmed: any byte that is not zero is NotTaken
--   scrub_chunk at n       == read a chunk, program the rows that are not zero, read it again if there was one
--   scrub_to left at end   == `scrub_to` from `at`: while at < end, the chunk at `at`, of which `left` are left
--   scrub m               == `scrub` with the mark at m: Ok sets it to none, a refusal leaves it
use Rattle.std.specs.Prelude.{ℕ, zero, suc, ◌+◌, ◌-◌, min, List, [], ◌∷◌, Bool, true, false, not, take, drop, replicate}
use Rattle.scan.specs.Rows.{row}
use Rattle.scan.specs.Zeros.{blank}
use Rattle.protocol.specs.Tag.{user, chunk}
use Rattle.protocol.specs.Mark.{Mark, none, wipe_end}
use Rattle.protocol.specs.Proc.{Proc, mark, Res, try, fine, refuse, when◌then◌else◌}
use Rattle.protocol.specs.Bus.{read}
use Rattle.protocol.specs.Write.{program_row, chunks}
use Rattle.protocol.specs.declared.answer.TagError.TheVariants.{NotTaken}

abbrev pub zero_row : List ℕ
zero_row = replicate row 0

abbrev pub dirty_rows : ℕ → List ℕ → List Bool
dirty_rows zero bs = []
dirty_rows (suc k) bs = not (blank (take row bs)) ∷ dirty_rows k (drop row bs)

abbrev pub some : List Bool → Bool
some [] = false
some (b ∷ bits) = when b then true else some bits

abbrev pub program_rows : ℕ → List Bool → Proc (Res Unit)
program_rows at [] = fine
program_rows at (true ∷ bits) = try (program_row at zero_row) (λ _. program_rows (at + row) bits)
program_rows at (false ∷ bits) = program_rows (at + row) bits

abbrev pub reread : ℕ → ℕ → Proc (Res Unit)
reread at n = try (read user at n) (λ bs. when blank bs then fine else refuse NotTaken)

abbrev pub scrub_chunk : ℕ → ℕ → Proc (Res Unit)
scrub_chunk at n =
    try (read user at n) (λ bs.
    try (program_rows at (dirty_rows 4 bs)) (λ _.
    when some (dirty_rows 4 bs) then reread at n else fine))

abbrev pub scrub_to : ℕ → ℕ → ℕ → Proc (Res Unit)
scrub_to zero at end = fine
scrub_to (suc left) at end = try (scrub_chunk at (min chunk (end - at))) (λ _. scrub_to left (at + chunk) end)

unfoldable pub scrub : Mark → Proc (Res Unit)
scrub m = try (scrub_to (chunks (wipe_end m)) 0 (wipe_end m)) (λ _. mark none fine)

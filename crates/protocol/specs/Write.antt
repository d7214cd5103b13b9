-- Writing, row by row, and reading back. Source: tag.rs, `program`, `read_user`, `write`.
--
--   program_row at bs           == one row write, waited out
--   program left at bs         == `program`: `left` rows, each up to the end of its row or of the bytes
--   read_back left at bs same   == the loop of `write`: `left` chunks read and compared; a mismatch counts only once all are read
--   chunks n                   == how many chunks n bytes make
--   past at n                  == the exact end of n bytes at `at` lies past the part
--   read_user at n              == `read_user` of n bytes
--   write_user m at bs          == `write` with the mark at m, which moves before the first row goes
use Rattle.std.specs.Prelude.{ℕ, zero, suc, ◌+◌, ◌-◌, ◌/◌, min, List, Bool, true, ◌&&◌, ltb, length, take, drop}
use Rattle.scan.specs.Rows.{row_len, row_count}
use Rattle.scan.specs.Zeros.{alike}
use Rattle.protocol.specs.Transfer.{place}
use Rattle.protocol.specs.Tag.{user_memory, user, chunk, ready_polls}
use Rattle.protocol.specs.Mark.{Mark, widened}
use Rattle.protocol.specs.Proc.{Proc, mark, Res, try, fine, refuse, when◌then◌else◌}
use Rattle.protocol.specs.Bus.{send, read}
use Rattle.protocol.specs.Wait.{wait_ready}
use Rattle.protocol.specs.declared.answer.TagError.TheVariants.{NotTaken}

abbrev pub program_row : ℕ → List ℕ → Proc (Res Unit)
program_row at bs = try (send user (place at) bs) (λ _. wait_ready ready_polls)

abbrev pub program : ℕ → ℕ → List ℕ → Proc (Res Unit)
program zero at bs = fine
program (suc left) at bs =
    try (program_row at (take (row_len at (length bs)) bs)) (λ _.
    program left (at + row_len at (length bs)) (drop (row_len at (length bs)) bs))

abbrev pub read_back : ℕ → ℕ → List ℕ → Bool → Proc (Res Unit)
read_back zero at bs same = when same then fine else refuse NotTaken
read_back (suc left) at bs same =
    try (read user at (min chunk (length bs))) (λ got.
    read_back left (at + chunk) (drop chunk bs) (same && alike got (take chunk bs)))

abbrev pub chunks : ℕ → ℕ
chunks n = (n + (chunk - 1)) / chunk

abbrev pub past : ℕ → ℕ → Bool
past at n = ltb user_memory (at + n)

unfoldable pub read_user : ℕ → ℕ → Proc (Res Unit)
read_user at n = when past at n then refuse NotTaken else try (read user at n) (λ _. fine)

unfoldable pub write_user : Mark → ℕ → List ℕ → Proc (Res Unit)
write_user m at bs =
    when past at (length bs) then refuse NotTaken else
    mark (widened m at (at + length bs))
    (try (program (row_count at (length bs)) at bs) (λ _.
    read_back (chunks (length bs)) at bs true))

-- How an image is closed after a payload that the caller wrote itself.
-- Document 01, 'Numbers a caller gets' (`finish`); lib.rs, `finish`; NFC Forum Type 5 Tag, TLV blocks (FE, the terminator).
--
--   finish_answer room at        == closing an image at a place: 2 where the place is not in the buffer, else the next place
--   finish_after out at          == FE at the place, every other byte kept; refused, every byte kept
use Rattle.std.specs.Prelude.{Result, Ok, Err, List, ℕ, ◌+◌, length, set, leb}
use Rattle.slices.specs.Pick.{pick}
use Rattle.layout.specs.Lengths.{sat}
use Rattle.layout.specs.declared.refusal.Refusal.{Refusal}
use Rattle.layout.specs.declared.refusal.Refusal.TheVariants.{TooLong}

unfoldable pub finish_answer : ℕ → ℕ → Result ℕ Refusal
finish_answer room at = pick (leb room at) (Err (TooLong (sat (at + 1)) room)) (Ok (at + 1))

unfoldable pub finish_after : List ℕ → ℕ → List ℕ
finish_after out at = pick (leb (length out) at) out (set out at 0xFE)

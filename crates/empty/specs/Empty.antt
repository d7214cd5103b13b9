-- Whether an empty image is built: the checks of `judging` that it needs, in their order.
-- Document 01, 'Numbers a caller gets' (2 and 4); lib.rs, `empty_image`.
--
--   empty_verdict room area         == the image of the empty message, which has 11 bytes, built into `room` bytes
use Rattle.std.specs.Prelude.{⊤, Result, [], ◌∷◌, ℕ}
use Rattle.layout.specs.declared.refusal.Refusal.{Refusal}
use Rattle.judging.specs.Judge.{verdict, fewest, area_fits}

abbrev pub empty_verdict : ℕ → ℕ → Result ⊤ Refusal
empty_verdict room area = verdict (fewest 11 room ∷ area_fits area ∷ [])

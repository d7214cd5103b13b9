-- Whether a MIME image is built: the checks of `judging`, in their order, for what goes in.
-- Document 01, 'Numbers a caller gets' (1 to 4); lib.rs, `mime_image`.
--
--   mime_verdict room area kind p   == the image of a MIME payload, built into `room` bytes
use Rattle.std.specs.Prelude.{⊤, Result, List, ℕ, length}
use Rattle.layout.specs.declared.refusal.Refusal.{Refusal}
use Rattle.judging.specs.Judge.{verdict, checks}

abbrev pub mime_verdict : ℕ → ℕ → List ℕ → List ℕ → Result ⊤ Refusal
mime_verdict room area kind p = verdict (checks room area (length kind) (length p))

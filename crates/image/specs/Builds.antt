-- Whether the image of a text or a URI is built: the checks of `judging`, in their order, for what goes in.
-- Document 01, 'Numbers a caller gets' (2 to 5; the type name is one byte, so 1 never comes); lib.rs, `text_image`, `uri_image`.
--
--   text_verdict room area t        == the image of an English text, built into `room` bytes
--   uri_verdict room area code t    == the image of a URI
use Rattle.std.specs.Prelude.{⊤, Result, List, ◌++◌, ℕ, length}
use Rattle.layout.specs.Payload.{text_payload, english, uri_payload}
use Rattle.layout.specs.declared.refusal.Refusal.{Refusal}
use Rattle.judging.specs.Judge.{verdict, checks, encoding}

abbrev pub text_verdict : ℕ → ℕ → List ℕ → Result ⊤ Refusal
text_verdict room area t = verdict (checks room area 1 (length (text_payload english t)) ++ encoding t)

abbrev pub uri_verdict : ℕ → ℕ → ℕ → List ℕ → Result ⊤ Refusal
uri_verdict room area code t = verdict (checks room area 1 (length (uri_payload code t)) ++ encoding t)

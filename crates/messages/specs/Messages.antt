-- What document 01's numbers mean, in one line of English each: 'Numbers a caller gets'.
-- 21 to 26 are the messages of the Rust (tag.rs, TagError::message).
--
--   messages       == the messages of 0 to 35; a number that document 01 does not have has none
--   message_of n    == the message of the number n; 255 is the end of a walk
--   padded n m     == the message m with zeros after it, up to n bytes: C gets 64
use Rattle.std.specs.Prelude.{List, [], ◌∷◌, ◌++◌, ℕ, ◌-◌, length, get_or, replicate, eqb}
use Rattle.slices.specs.Pick.{pick}
use Rattle.uri.specs.Prefixes.{ascii}

unfoldable pub messages : List (List ℕ)
messages =
    ascii "done" ∷
    ascii "the type name is too long" ∷
    ascii "the buffer is too small" ∷
    ascii "the record is too long" ∷
    ascii "the area is too big" ∷
    ascii "the text is not UTF-8" ∷
    [] ∷
    [] ∷
    [] ∷
    [] ∷
    [] ∷
    ascii "no NFC container" ∷
    ascii "no message on the tag" ∷
    ascii "a length runs past the bytes" ∷
    ascii "a record in several pieces" ∷
    [] ∷
    [] ∷
    [] ∷
    [] ∷
    [] ∷
    [] ∷
    ascii "the tag did not answer" ∷
    ascii "not the expected tag" ∷
    ascii "the tag stayed busy" ∷
    ascii "the tag refused setup" ∷
    ascii "NFC would not switch" ∷
    ascii "the tag did not take the write" ∷
    [] ∷
    [] ∷
    [] ∷
    [] ∷
    ascii "no call is open" ∷
    ascii "a call is still open" ∷
    ascii "a buffer of the wrong length" ∷
    ascii "no session in the state bytes" ∷
    ascii "the input is too long" ∷
    []

unfoldable pub message_of : ℕ → List ℕ
message_of n = pick (eqb n 255) (ascii "no more records") (get_or messages n [])

unfoldable pub padded : ℕ → List ℕ → List ℕ
padded n m = m ++ replicate (n - length m) 0

-- What is written before a payload that the caller writes itself.
-- Document 01, 'Numbers a caller gets' (`begin` and its kin) and 'Bytes of an image (lib.rs)'; lib.rs, `open`, `begin_mime`.
--
--   open_bytes area f kind p     == what stands before a payload of p bytes: type name format f, type name kind
use Rattle.std.specs.Prelude.{List, ℕ}
use Rattle.layout.specs.Image.{front}

abbrev pub open_bytes : ℕ → ℕ → List ℕ → ℕ → List ℕ
open_bytes area format kind p = front area format kind p

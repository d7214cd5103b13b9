-- What is written before a URI or a text that the caller writes itself.
-- Document 01, 'Numbers a caller gets' (`begin` and its kin) and 'Bytes of an image (lib.rs)'; lib.rs, `begin`, `begin_text`.
-- What a payload has first: NFC Forum URI RTD 1.0, section 3.2; Text RTD 1.0, section 3.2.
--
--   begin_bytes area code n      == what stands before a URI of n bytes after its prefix, and the prefix's code
--   begin_text_bytes area n       == the same for an English text of n bytes, and what its payload has first
use Rattle.std.specs.Prelude.{List, [], ◌++◌, ℕ}
use Rattle.layout.specs.Lengths.{uri_payload_len, text_payload_len}
use Rattle.layout.specs.Payload.{well_known, text_kind, uri_kind, text_payload, english, uri_payload}
use Rattle.layout.specs.Image.{front}

abbrev pub begin_bytes : ℕ → ℕ → ℕ → List ℕ
begin_bytes area code n = front area well_known uri_kind (uri_payload_len n) ++ uri_payload code []

abbrev pub begin_text_bytes : ℕ → ℕ → List ℕ
begin_text_bytes area n = front area well_known text_kind (text_payload_len n) ++ text_payload english []

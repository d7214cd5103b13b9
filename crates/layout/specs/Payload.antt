-- Payloads of the two well-known records.
-- NFC Forum Text RTD 1.0, section 3.2 (status byte, language code, text); URI RTD 1.0, section 3.2 (identifier code, the rest).
--
--   well_known, mime      == type name formats 1 and 2 (NDEF 1.0, section 3.2.6)
--   text_kind, uri_kind    == the type names "T" and "U"
--   text_payload lang t   == the language code's length as the status byte (UTF-8: bit 7 clear), the language code, the text
--   english              == "en", the language that labels are written in
--   uri_payload code t    == the code of the prefix, and the rest of the URI
use Rattle.std.specs.Prelude.{List, [], ◌∷◌, ◌++◌, ℕ, length}

abbrev pub well_known : ℕ
well_known = 1

abbrev pub mime : ℕ
mime = 2

abbrev pub text_kind : List ℕ
text_kind = 0x54 ∷ []

abbrev pub uri_kind : List ℕ
uri_kind = 0x55 ∷ []

unfoldable pub text_payload : List ℕ → List ℕ → List ℕ
text_payload lang t = length lang ∷ lang ++ t

abbrev pub english : List ℕ
english = 0x65 ∷ 0x6E ∷ []

unfoldable pub uri_payload : ℕ → List ℕ → List ℕ
uri_payload code t = code ∷ t

-- The URI prefixes that one byte stands for.
-- NFC Forum URI Record Type Definition 1.0, section 3.2.2 (URI Identifier Code), table 3; the code is the place in the list.
-- Codes 36 to 255 are reserved there.
--
--   ascii t           == the bytes of a text of ASCII characters
--   prefixes          == the 36 prefixes, from code 0 ("no prefix") on
--   entry p           == a prefix as a row: its length, and its bytes with zeros after them up to 26, which the longest has
--   prefix_answer code == what looking a code up answers: its prefix, where it is one of the 36
use Rattle.std.specs.Prelude.{List, [], ◌∷◌, ◌++◌, ℕ, zero, suc, ◌+◌, ◌-◌, length, get_or, replicate, ltb, Option, Some, None}
use Prim.Native.Char.{code}
use Prim.Native.String.{String, len, char_at}
use Rattle.slices.specs.Pick.{pick}
use Rattle.uri.specs.declared.Row.{Row}

-- n characters from place i on, as numbers
unfoldable codes : ℕ → ℕ → String → List ℕ
codes zero i t = []
codes (suc n) i t = code (char_at t i) ∷ codes n (i + 1) t

unfoldable pub ascii : String → List ℕ
unfolding codes
ascii t = codes (len t) 0 t

unfoldable pub prefixes : List (List ℕ)
prefixes =
    ascii "" ∷
    ascii "http://www." ∷
    ascii "https://www." ∷
    ascii "http://" ∷
    ascii "https://" ∷
    ascii "tel:" ∷
    ascii "mailto:" ∷
    ascii "ftp://anonymous:anonymous@" ∷
    ascii "ftp://ftp." ∷
    ascii "ftps://" ∷
    ascii "sftp://" ∷
    ascii "smb://" ∷
    ascii "nfs://" ∷
    ascii "ftp://" ∷
    ascii "dav://" ∷
    ascii "news:" ∷
    ascii "telnet://" ∷
    ascii "imap:" ∷
    ascii "rtsp://" ∷
    ascii "urn:" ∷
    ascii "pop:" ∷
    ascii "sip:" ∷
    ascii "sips:" ∷
    ascii "tftp:" ∷
    ascii "btspp://" ∷
    ascii "btl2cap://" ∷
    ascii "btgoep://" ∷
    ascii "tcpobex://" ∷
    ascii "irdaobex://" ∷
    ascii "file://" ∷
    ascii "urn:epc:id:" ∷
    ascii "urn:epc:tag:" ∷
    ascii "urn:epc:pat:" ∷
    ascii "urn:epc:raw:" ∷
    ascii "urn:epc:" ∷
    ascii "urn:nfc:" ∷
    []

abbrev pub entry : List ℕ → Row
entry p = record { 0 = length p; 1 = p ++ replicate (26 - length p) 0 }

unfoldable pub prefix_answer : ℕ → Option (List ℕ)
prefix_answer c = pick (ltb c 36) (Some (get_or prefixes c [])) None

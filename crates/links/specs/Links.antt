-- What a URI record says. Document 01, 'Bytes from a phone' (URI); NFC Forum URI RTD 1.0, section 3.2.
--
--   Uri              == a URI: where its rest stands, its prefix's code, and the prefix
--   says l           == the URI that the link l says
--   with_prefix r c p == the URI of the code c whose rest stands at r, by what the code's look-up answers
--   uri_in p at      == the URI in the payload p, which stands at `at`: the first byte is a code of the table, 0 to 35, and the
--                      remainder is UTF-8
--   uri_of s r       == the URI of the record r in the image s: format 1, type exactly "U"
use Rattle.std.specs.Prelude.{List, [], ◌∷◌, ℕ, ◌+◌, length, Option, Some, None}
use Rattle.slices.specs.Pick.{pick}
use Rattle.tlv.specs.declared.Span.{Span}
use Rattle.tlv.specs.Blocks.{span}
use Rattle.utf8.specs.Utf8.{utf8}
use Rattle.uri.specs.Prefixes.{prefix_answer}
use Rattle.records.specs.declared.Record.{Record}
use Rattle.pieces.specs.Parts.{payload_of, is_of}
use Rattle.contents.specs.Contents.{payload_at}
use Rattle.links.specs.declared.Link.{Link}

pub record Uri : Type 0 where
  pub rest : Span
  pub code : ℕ
  pub prefix : List ℕ

abbrev pub says : Link → Uri
says l = record { rest = l.rest; code = l.code; prefix = l.prefix.now }

abbrev pub with_prefix : Span → ℕ → Option (List ℕ) → Option Uri
with_prefix r c (Some p) = Some (record { rest = r; code = c; prefix = p })
with_prefix r c None = None

unfoldable pub uri_in : List ℕ → ℕ → Option Uri
uri_in [] at = None
uri_in (code ∷ rest) at = pick (utf8 rest) (with_prefix (span (at + 1) (length rest)) code (prefix_answer code)) None

unfoldable pub uri_of : List ℕ → Record → Option Uri
uri_of s r = pick (is_of s r 0x55) (uri_in (payload_of s r) (payload_at r)) None

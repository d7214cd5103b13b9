-- A whole image: what a tag holds from its first byte on. Document 01, 'Bytes of an image (lib.rs)'.
--
--   image_of area body         == container, the block with the message `body`, terminator
--   image area r              == the image of a message that is the one record r
--   empty_image area           == the image of a message of no records
--   text_image area t          == the image of an English text
--   uri_image area code t      == the image of a URI: its prefix's code, and the rest
--   mime_image area kind p     == the image of a payload with a MIME type
--   front area f kind p       == what stands before the payload, of p bytes, of such an image
use Rattle.std.specs.Prelude.{true, false, List, [], ◌++◌, ℕ, length, leb}
use Rattle.layout.specs.Lengths.{record_len}
use Rattle.layout.specs.Container.{container}
use Rattle.layout.specs.Block.{message_head, message, terminator}
use Rattle.layout.specs.Record.{Fields, record_head, record_bytes, whole}
use Rattle.layout.specs.Payload.{well_known, mime, text_kind, uri_kind, text_payload, english, uri_payload}

unfoldable pub image_of : ℕ → List ℕ → List ℕ
image_of area body = container area ++ message body ++ terminator

abbrev pub image : ℕ → Fields → List ℕ
image area r = image_of area (record_bytes r)

abbrev pub empty_image : ℕ → List ℕ
empty_image area = image_of area []

abbrev pub text_image : ℕ → List ℕ → List ℕ
text_image area t = image area (whole well_known text_kind (text_payload english t))

abbrev pub uri_image : ℕ → ℕ → List ℕ → List ℕ
uri_image area code t = image area (whole well_known uri_kind (uri_payload code t))

abbrev pub mime_image : ℕ → List ℕ → List ℕ → List ℕ
mime_image area kind p = image area (whole mime kind p)

unfoldable pub front : ℕ → ℕ → List ℕ → ℕ → List ℕ
front area format kind p =
    container area
    ++ message_head (record_len (length kind) p)
    ++ record_head true true (leb p 255) false format (length kind) p 0
    ++ kind

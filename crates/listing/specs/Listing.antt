-- What `listtag` prints of an image.
-- Document 01, end of 'Bench cards'; number 35 and the 8,192 bytes are from 'Numbers a caller gets'.
--
--   record_line n r image     == the line of record number n: number, format, last flag, type, length of the id, length of the payload
--   record_lines k rs image   == the lines of the records rs, before which k others stand
--   ok_line k                 == `ok`, and the number k of records
--   refused_line number       == `refused`, and document 01's number
--   last_line k e             == the line after k records, by how the walk ended
--   listed k image w         == the lines of the walk w, before whose records k others stand
--   of_message image m        == the lines of the message m: its walk, or why there is none
--   listing_of image          == everything that is printed
--   list_room                 == a buffer this long holds every listing: five bytes for each byte of an image, and a last line
--   list_answer room image    == what `list` answers of a buffer of `room` bytes: the listing's length, or 0 where it is shorter than that
--   list_after image out      == the buffer afterwards: the listing in front, or not a byte changed
use Rattle.std.specs.Prelude.{List, [], ◌∷◌, ◌++◌, ℕ, ◌+◌, length, ltb, Ok, Err}
use Rattle.slices.specs.Pick.{pick}
use Rattle.slices.specs.Bytes.{splice}
use Rattle.blocks.specs.Read.{Read, unread_number, read_of}
use Rattle.records.specs.declared.Record.{Record}
use Rattle.pieces.specs.Parts.{kind_of}
use Rattle.walk.specs.Step.{start_of}
use Rattle.walk.specs.Walked.{Ending, ended, truncated, chunked, Walked, ending_number, walked}
use Rattle.digits.specs.Text.{decimal, type_word, line}

unfoldable pub record_line : ℕ → Record → List ℕ → List ℕ
record_line n r image =
    line
    (decimal n
    ∷ decimal r.format
    ∷ decimal (pick r.last 1 0)
    ∷ type_word (kind_of image r)
    ∷ decimal r.id_len
    ∷ decimal r.payload_len
    ∷ [])

unfoldable pub record_lines : ℕ → List Record → List ℕ → List ℕ
record_lines k [] image = []
record_lines k (r ∷ rs) image = record_line (k + 1) r image ++ record_lines (k + 1) rs image

unfoldable pub ok_line : ℕ → List ℕ
ok_line k = line ((0x6F ∷ 0x6B ∷ []) ∷ decimal k ∷ [])

unfoldable pub refused_line : ℕ → List ℕ
refused_line number = line ((0x72 ∷ 0x65 ∷ 0x66 ∷ 0x75 ∷ 0x73 ∷ 0x65 ∷ 0x64 ∷ []) ∷ decimal number ∷ [])

abbrev pub last_line : ℕ → Ending → List ℕ
last_line k ended = ok_line k
last_line k truncated = refused_line (ending_number truncated)
last_line k chunked = refused_line (ending_number chunked)

unfoldable pub listed : ℕ → List ℕ → Walked → List ℕ
listed k image w = record_lines k w.records image ++ last_line (k + length w.records) w.ending

abbrev pub of_message : List ℕ → Read → List ℕ
of_message image (Ok m) = listed 0 image (walked image (start_of (Ok m)).at (start_of (Ok m)).end)
of_message image (Err why) = refused_line (unread_number why)

unfoldable pub listing_of : List ℕ → List ℕ
listing_of image = pick (ltb 8192 (length image)) (refused_line 35) (of_message image (read_of image))

abbrev pub list_room : ℕ
list_room = 40971

unfoldable pub list_answer : ℕ → List ℕ → ℕ
list_answer room image = pick (ltb room list_room) 0 (length (listing_of image))

unfoldable pub list_after : List ℕ → List ℕ → List ℕ
list_after image out = pick (ltb (length out) list_room) out (splice out 0 (listing_of image))

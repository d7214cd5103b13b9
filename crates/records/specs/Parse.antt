-- One record off the front of a message.
-- Document 01, 'Bytes from a phone'; NFC Forum NDEF 1.0, section 3.2 (record layout), 3.2.1 to 3.2.12 (its fields).
--
--   places_in s h k i p        == the places of a record whose type name stands at k, with i bytes of id and p of payload
--   end_of r                   == the place after the record r
--   inside s r                 == the record r of s, or Truncated where it runs past s
--   whole_of s h k i p         == so of the record whose type name stands at k
--   parse_of s                 == the record at the front of s. The chunk flag is judged first; nothing, a head or a part that is not
--                                all there is Truncated. Message-begin and the format are not judged
--   malformed_number why       == document 01's number of a refusal: 13 or 14
--   number_of p                == document 01's number: 13, 14, and 0 for a record
use Rattle.std.specs.Prelude.{List, ℕ, ◌+◌, ◌%◌, length, get_or, ltb, Result, Ok, Err}
use Rattle.slices.specs.Pick.{pick}
use Rattle.heads.specs.Heads.{flag, head_len, payload_len, id_len}
use Rattle.records.specs.declared.Record.{Record}
use Rattle.records.specs.declared.Malformed.{Malformed}
use Rattle.records.specs.declared.Malformed.TheVariants.{Truncated, Chunked}

abbrev pub places_in : List ℕ → ℕ → ℕ → ℕ → ℕ → Record
places_in s h k i p =
    record {
      format = h % 8;
      last = flag 0x40 h;
      kind = k;
      kind_len = get_or s 1 0;
      id_len = i;
      payload_len = p;
    }

abbrev pub end_of : Record → ℕ
end_of r = r.kind + r.kind_len + r.id_len + r.payload_len

abbrev pub inside : List ℕ → Record → Result Record Malformed
inside s r = pick (ltb (length s) (end_of r)) (Err Truncated) (Ok r)

unfoldable pub whole_of : List ℕ → ℕ → ℕ → ℕ → ℕ → Result Record Malformed
whole_of s h k i p = inside s (places_in s h k i p)

unfoldable pub parse_of : List ℕ → Result Record Malformed
parse_of s =
    pick (flag 0x20 (get_or s 0 0)) (Err Chunked)
    (pick (ltb (length s) (head_len (get_or s 0 0))) (Err Truncated)
    (whole_of s (get_or s 0 0) (head_len (get_or s 0 0)) (id_len s) (payload_len s)))

abbrev pub malformed_number : Malformed → ℕ
malformed_number Truncated = 13
malformed_number Chunked = 14

abbrev pub number_of : Result Record Malformed → ℕ
number_of (Ok r) = 0
number_of (Err why) = malformed_number why

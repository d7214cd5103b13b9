-- When a build is refused, and what a build answers and leaves. Document 01, 'Numbers a caller gets'.
--
--   Check                   == a test and the refusal that it gives where it fails
--   verdict checks          == the first refusal in the list, or Ok
--   checks room area k p    == refusals 1 to 4 in their order, for a type name of k bytes and a payload of p
--   encoding t              == refusal 5: the text t is UTF-8
--   fewest n room           == refusal 2 alone, for n bytes
--   area_fits area           == refusal 4 alone: the area is at most 524,287
--   answer v bs             == what a build with verdict v answers, where the bytes that it writes are bs
--   after v bs out          == what then stands in the buffer: bs in front and the rest kept, or, refused, every byte as it was
--   built_number b           == document 01's number of an answer: 0, or the refusal's
--   built_values b           == its values: the place, or what the refusal carries
use Rattle.std.specs.Prelude.{⊤, Bool, not, List, [], ◌∷◌, ◌++◌, ℕ, length, drop, ltb, Result, Ok, Err}
use Rattle.slices.specs.Pick.{pick}
use Rattle.layout.specs.Lengths.{sat, record_len, image_len}
use Rattle.layout.specs.Numbers.{number_of, values_of}
use Rattle.layout.specs.declared.refusal.Refusal.{Refusal}
use Rattle.layout.specs.declared.refusal.Refusal.TheVariants.{TypeTooLong, TooLong, RecordTooLong, AreaTooBig, NotUtf8}
use Rattle.utf8.specs.Utf8.{utf8}

pub record Check : Type 0 where
  pub fails : Bool
  pub why : Refusal

abbrev pub verdict : List Check → Result ⊤ Refusal
verdict [] = Ok tt
verdict (c ∷ cs) = pick c.fails (Err c.why) (verdict cs)

abbrev pub fewest : ℕ → ℕ → Check
fewest n room = record { fails = ltb room n; why = TooLong (sat n) room }

abbrev pub area_fits : ℕ → Check
area_fits area = record { fails = ltb 524287 area; why = AreaTooBig }

unfoldable pub checks : ℕ → ℕ → ℕ → ℕ → List Check
checks room area k p =
    (record { fails = ltb 255 k; why = TypeTooLong })
    ∷ fewest (image_len k p) room
    ∷ (record { fails = ltb 65535 (record_len k p); why = RecordTooLong (record_len k p) })
    ∷ area_fits area
    ∷ []

abbrev pub encoding : List ℕ → List Check
encoding t = (record { fails = not (utf8 t); why = NotUtf8 }) ∷ []

abbrev pub answer : Result ⊤ Refusal → List ℕ → Result ℕ Refusal
answer (Ok fits) bs = Ok (length bs)
answer (Err why) bs = Err why

abbrev pub after : Result ⊤ Refusal → List ℕ → List ℕ → List ℕ
after (Ok fits) bs out = bs ++ drop (length bs) out
after (Err why) bs out = out

abbrev pub built_number : Result ℕ Refusal → ℕ
built_number (Ok place) = 0
built_number (Err why) = number_of why

abbrev pub built_values : Result ℕ Refusal → List ℕ
built_values (Ok place) = place ∷ []
built_values (Err why) = values_of why

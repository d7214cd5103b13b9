-- A URI and a prefix as plain numbers. Document 01, 'Bytes from a phone' (URI).
--
--   link_number u    == 1 where there is a URI, else 0
--   link_numbers u   == the place and length of its rest, and its prefix's code, else zeros
--   text_of_row p    == a prefix that was looked up, empty where there is none
--   row_len p        == its length
--   in_row p         == its bytes, with zeros after them up to 26: the longest has 26
use Rattle.std.specs.Prelude.{List, [], ◌∷◌, ◌++◌, ℕ, ◌-◌, length, replicate, Option, Some, None}
use Rattle.links.specs.Links.{Uri}

abbrev pub link_number : Option Uri → ℕ
link_number (Some u) = 1
link_number None = 0

abbrev pub link_numbers : Option Uri → List ℕ
link_numbers (Some u) = u.rest.at ∷ u.rest.len ∷ u.code ∷ []
link_numbers None = replicate 3 0

abbrev pub text_of_row : Option (List ℕ) → List ℕ
text_of_row (Some p) = p
text_of_row None = []

abbrev pub row_len : Option (List ℕ) → ℕ
row_len p = length (text_of_row p)

abbrev pub in_row : Option (List ℕ) → List ℕ
in_row p = text_of_row p ++ replicate (26 - row_len p) 0

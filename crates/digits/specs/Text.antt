-- Numbers and bytes as text, and the words of a line. All of it is ASCII. Source: document 01, end of 'Bench cards' (`listtag`).
--
--   decimal_f f n   == the number n in decimal, by at most f digits
--   decimal n      == the number n in decimal, with no zero in front of another digit
--   hex_digit d     == the digit d below 16: 0 to 9, then a to f in lower case
--   hex_of s        == two such digits for each byte of s, the high one first
--   type_word k     == the type name k in hexadecimal; a dash where it is empty
--   rest ws        == what stands after a word of a line: a space and a word for each of ws, and a line feed
--   line ws        == the words ws with one space between two of them, and a line feed
use Rattle.std.specs.Prelude.{List, [], ◌∷◌, ◌++◌, ℕ, zero, suc, ◌+◌, ◌/◌, ◌%◌, ltb}
use Rattle.slices.specs.Pick.{pick}

unfoldable pub decimal_f : ℕ → ℕ → List ℕ
decimal_f zero n = []
decimal_f (suc f) n = pick (ltb n 10) ((0x30 + n) ∷ []) (decimal_f f (n / 10) ++ ((0x30 + n % 10) ∷ []))

unfoldable pub decimal : ℕ → List ℕ
unfolding decimal_f
decimal n = decimal_f (suc n) n

abbrev pub hex_digit : ℕ → ℕ
hex_digit d = pick (ltb d 10) (0x30 + d) (0x57 + d)

unfoldable pub hex_of : List ℕ → List ℕ
hex_of [] = []
hex_of (b ∷ s) = hex_digit (b / 16) ∷ hex_digit (b % 16) ∷ hex_of s

unfoldable pub type_word : List ℕ → List ℕ
type_word [] = 0x2D ∷ []
type_word (b ∷ s) = hex_of (b ∷ s)

abbrev pub rest : List (List ℕ) → List ℕ
rest [] = 0x0A ∷ []
rest (w ∷ ws) = 0x20 ∷ (w ++ rest ws)

abbrev pub line : List (List ℕ) → List ℕ
line [] = 0x0A ∷ []
line (w ∷ ws) = w ++ rest ws

-- Well-formed UTF-8, as the document has it: The Unicode Standard, section 3.9, definition D92, and
-- table 3-7, "Well-Formed UTF-8 Byte Sequences".
--
--   Range           == a range of bytes
--   lo to hi        == the range of the bytes from lo to hi, both among them
--   inside b range  == the byte b is one of the range
--   table           == table 3-7: a row is the ranges of a character's bytes, in their order
--   fits s row      == the bytes at the front of s are there and stand each in its range of the row
--   row_len s rows   == the length of the first of the rows that s fits, 0 where there is none
--   first_len s      == how many bytes the first character of s takes, 0 where the table has none
--   utf8_step s      == one character off the front of s, or the answer where there is none to take
--   utf8 s          == s is a sequence of characters, each of which fits a row
use Rattle.std.specs.Prelude.{Bool, true, false, ◌&&◌, List, [], ◌∷◌, ℕ, leb, eqb, length, drop}
use Rattle.slices.specs.Pick.{pick}
use Rattle.slices.specs.Walk.{Next, more, done, walk}

infix 70 ◌to◌
pub data Range : Type 0 where
  ◌to◌ : ℕ → ℕ → Range

abbrev pub inside : ℕ → Range → Bool
inside b (lo to hi) = leb lo b && leb b hi

-- first byte, second byte, third byte, fourth byte; beside each row its code points
unfoldable pub table : List (List Range)
table =
    (0x00 to 0x7F ∷ [])  -- U+0000..U+007F
    ∷ (0xC2 to 0xDF ∷ 0x80 to 0xBF ∷ [])  -- U+0080..U+07FF
    ∷ (0xE0 to 0xE0 ∷ 0xA0 to 0xBF ∷ 0x80 to 0xBF ∷ [])  -- U+0800..U+0FFF
    ∷ (0xE1 to 0xEC ∷ 0x80 to 0xBF ∷ 0x80 to 0xBF ∷ [])  -- U+1000..U+CFFF
    ∷ (0xED to 0xED ∷ 0x80 to 0x9F ∷ 0x80 to 0xBF ∷ [])  -- U+D000..U+D7FF
    ∷ (0xEE to 0xEF ∷ 0x80 to 0xBF ∷ 0x80 to 0xBF ∷ [])  -- U+E000..U+FFFF
    ∷ (0xF0 to 0xF0 ∷ 0x90 to 0xBF ∷ 0x80 to 0xBF ∷ 0x80 to 0xBF ∷ [])  -- U+10000..U+3FFFF
    ∷ (0xF1 to 0xF3 ∷ 0x80 to 0xBF ∷ 0x80 to 0xBF ∷ 0x80 to 0xBF ∷ [])  -- U+40000..U+FFFFF
    ∷ (0xF4 to 0xF4 ∷ 0x80 to 0x8F ∷ 0x80 to 0xBF ∷ 0x80 to 0xBF ∷ [])  -- U+100000..U+10FFFF
    ∷ []

unfoldable pub fits : List ℕ → List Range → Bool
fits s [] = true
fits [] (r ∷ row) = false
fits (b ∷ s) (r ∷ row) = inside b r && fits s row

unfoldable pub row_len : List ℕ → List (List Range) → ℕ
row_len s [] = 0
row_len s (row ∷ rows) = pick (fits s row) (length row) (row_len s rows)

unfoldable pub first_len : List ℕ → ℕ
first_len s = row_len s table

unfoldable pub utf8_step : List ℕ → Next (List ℕ) Bool
utf8_step s = pick (eqb (length s) 0) (done true) (pick (eqb (first_len s) 0) (done false) (more (drop (first_len s) s)))

unfoldable pub utf8 : List ℕ → Bool
utf8 s = walk utf8_step false length s

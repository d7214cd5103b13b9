-- Examples of D92 and of the text below table 3-7, written down from memory of the standard and not yet held against it.
use mathlib.Core.Path.{◌≡◌, refl}
use mathlib.Core.Bool.{true, false}
use mathlib.Core.List.{[], ◌∷◌}
use Rattle.slices.specs.Walk.{walk, walk_f}
use Rattle.utf8.specs.Utf8.{table, fits, row_len, first_len, utf8_step, utf8}

-- U+004D U+0430 U+4E8C U+10302
pub d92 : utf8 (0x4D ∷ 0xD0 ∷ 0xB0 ∷ 0xE4 ∷ 0xBA ∷ 0x8C ∷ 0xF0 ∷ 0x90 ∷ 0x8C ∷ 0x82 ∷ []) ≡ true
unfolding utf8 walk walk_f utf8_step first_len row_len fits table
d92 = refl

-- C0 begins no row
pub c0_af : utf8 (0xC0 ∷ 0xAF ∷ []) ≡ false
unfolding utf8 walk walk_f utf8_step first_len row_len fits table
c0_af = refl

-- 9F is no second byte of the row that begins with E0
pub e0_9f_80 : utf8 (0xE0 ∷ 0x9F ∷ 0x80 ∷ []) ≡ false
unfolding utf8 walk walk_f utf8_step first_len row_len fits table
e0_9f_80 = refl

-- every byte is in its range of the last row
pub f4_80_83_92 : utf8 (0xF4 ∷ 0x80 ∷ 0x83 ∷ 0x92 ∷ []) ≡ true
unfolding utf8 walk walk_f utf8_step first_len row_len fits table
f4_80_83_92 = refl

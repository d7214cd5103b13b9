-- A refusal in English words, as a program prints it. From no public document.
--
--   words_of why     == the words, as bytes; with 2 they carry both numbers, in decimal
use Rattle.std.specs.Prelude.{List, ◌++◌, ℕ, codes, decimal}
use Rattle.layout.specs.declared.refusal.Refusal.{Refusal}
use Rattle.layout.specs.declared.refusal.Refusal.TheVariants.{TypeTooLong, TooLong, RecordTooLong, AreaTooBig, NotUtf8}

abbrev pub words_of : Refusal → List ℕ
words_of TypeTooLong = codes "the type name is too long"
words_of (TooLong needed room) =
    codes "the image does not fit; it takes " ++ (decimal needed ++ (codes " bytes, and there is room for " ++ decimal room))
words_of (RecordTooLong len) = codes "the record is over 65,535 bytes"
words_of AreaTooBig = codes "the area is over 524,287 bytes"
words_of NotUtf8 = codes "the label is not UTF-8"

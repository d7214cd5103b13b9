-- The capability container of a Type 5 tag.
-- NFC Forum Type 5 Tag, capability container, the form of eight bytes; document 01, 'Bytes of an image (lib.rs)'.
--
--   container area        == the eight bytes: E2 (blocks are addressed by two bytes), 40 (version 1.0, read and write always), 00 (the
--                            container has eight bytes, and the area stands in bytes 6 and 7), 01 (several blocks may be read at once),
--                            00 00, then the area in blocks of eight bytes, rounded down, as two bytes, high byte first
--   container_answer area  == what is answered: the container, or 4 over 524,287, the last area whose blocks fit two bytes
--   container_bytes c      == the eight bytes that C gets with the answer c: the container, or zeros where it is refused
--   read_only image        == the image with 43 as its access byte, byte 1 (read always, write never), if it has one
use Rattle.std.specs.Prelude.{List, [], ◌∷◌, ℕ, ◌/◌, ltb, Result, Ok, Err}
use Rattle.slices.specs.Pick.{pick}
use Rattle.slices.specs.Bytes.{be}
use Rattle.layout.specs.declared.refusal.Refusal.{Refusal}
use Rattle.layout.specs.declared.refusal.Refusal.TheVariants.{AreaTooBig}

unfoldable pub container : ℕ → List ℕ
container area = 0xE2 ∷ 0x40 ∷ 0x00 ∷ 0x01 ∷ 0x00 ∷ 0x00 ∷ be 2 (area / 8)

unfoldable pub container_answer : ℕ → Result (List ℕ) Refusal
container_answer area = pick (ltb 524287 area) (Err AreaTooBig) (Ok (container area))

abbrev pub container_bytes : Result (List ℕ) Refusal → List ℕ
container_bytes (Ok bytes) = bytes
container_bytes (Err why) = 0 ∷ 0 ∷ 0 ∷ 0 ∷ 0 ∷ 0 ∷ 0 ∷ 0 ∷ []

unfoldable pub read_only : List ℕ → List ℕ
read_only [] = []
read_only (magic ∷ []) = magic ∷ []
read_only (magic ∷ access ∷ rest) = magic ∷ 0x43 ∷ rest

-- The container and the blocks of a tag as the documents write them, with no word of reading.
-- NFC Forum Type 5 Tag, capability container and TLV blocks; document 01, 'Bytes from a phone'.
--
--   Bytes s            == every element of s is a byte
--   Version1 v         == the top two bits of the container's byte 1 are 01
--   Head h             == h is a container: E2 and seven more bytes; E1, its third byte 0, eight in all; any other E1, four
--   Size n l           == the bytes l say the length n: one byte below 255, or FF and two more, small values too
--   Passed b           == b is a block that is stepped over: 00, or a block of any type but 00, 03 and FE
--   Passes bs          == bs are such blocks, one after the other
--   Cut s              == s, the bytes after a block's type, has a length that is not all there, or one beyond the bytes
--   Stops s at m       == the blocks s, which begin at the place `at`, answer m at once: the message; the end or FE; a length that fails
--   Reads s m          == s is a container, blocks that are stepped over, and bytes that answer m
--   MessageAt s p n    == s is a container, blocks that are stepped over, and a message block whose n bytes of body stand at the place p
use Rattle.std.specs.Prelude.{◌≡◌, List, [], ◌∷◌, ◌++◌, ℕ, ◌+◌, ◌/◌, ◌<◌, length, get_or, take, drop, Err}
use Rattle.slices.specs.Bytes.{be}
use Rattle.blocks.specs.declared.Unread.TheVariants.{NoMessage, Truncated}
use Rattle.blocks.specs.Read.{Read, found}

abbrev pub Bytes : List ℕ → Type 0
Bytes s = (k : ℕ) → get_or s k 0 < 256

abbrev pub Version1 : ℕ → Type 0
Version1 v = v / 64 ≡ 1

pub data Head : List ℕ → Type 0 where
  large : {v : ℕ} {rest : List ℕ} → Version1 v → length rest ≡ 6 → Head (0xE2 ∷ v ∷ rest)
  long : {v : ℕ} {rest : List ℕ} → Version1 v → length rest ≡ 5 → Head (0xE1 ∷ v ∷ 0x00 ∷ rest)
  small : {v blocks last : ℕ} → Version1 v → (blocks ≡ 0x00 → ⊥) → Head (0xE1 ∷ v ∷ blocks ∷ last ∷ [])

pub data Size : ℕ → List ℕ → Type 0 where
  one : {n : ℕ} → n < 255 → Size n (n ∷ [])
  three : {n : ℕ} → n < 65536 → Size n (0xFF ∷ be 2 n)

pub data Passed : List ℕ → Type 0 where
  null : Passed (0x00 ∷ [])
  other : {t : ℕ} {l : List ℕ} (body : List ℕ) → (t ≡ 0x00 → ⊥) → (t ≡ 0x03 → ⊥) → (t ≡ 0xFE → ⊥) → Size (length body) l → Passed (t ∷ (l ++ body))

pub data Passes : List ℕ → Type 0 where
  none : Passes []
  first : {b bs : List ℕ} → Passed b → Passes bs → Passes (b ++ bs)

pub data Cut : List ℕ → Type 0 where
  no_length : Cut []
  escape : Cut (0xFF ∷ [])
  half : {x : ℕ} → Cut (0xFF ∷ x ∷ [])
  beyond : {n : ℕ} {l : List ℕ} (rest : List ℕ) → Size n l → length rest < n → Cut (l ++ rest)

pub data Stops : List ℕ → ℕ → Read → Type 0 where
  message : {l : List ℕ} (body rest : List ℕ) {at : ℕ} → Size (length body) l → Stops (0x03 ∷ (l ++ (body ++ rest))) at (found (at + (1 + length l)) (length body))
  no_more : {at : ℕ} → Stops [] at (Err NoMessage)
  terminator : {s : List ℕ} {at : ℕ} → Stops (0xFE ∷ s) at (Err NoMessage)
  cut : {t : ℕ} {s : List ℕ} {at : ℕ} → (t ≡ 0x00 → ⊥) → (t ≡ 0xFE → ⊥) → Cut s → Stops (t ∷ s) at (Err Truncated)

pub record Reads (s : List ℕ) (m : Read) : Type 0 where
  pub head : List ℕ
  pub blocks : List ℕ
  pub tail : List ℕ
  pub is-head : Head head
  pub passed : Passes blocks
  pub whole : s ≡ head ++ (blocks ++ tail)
  pub stops : Stops tail (length head + length blocks) m

pub record MessageAt (s : List ℕ) (place len : ℕ) : Type 0 where
  pub head : List ℕ
  pub blocks : List ℕ
  pub size : List ℕ
  pub body : List ℕ
  pub rest : List ℕ
  pub is-head : Head head
  pub passed : Passes blocks
  pub is-size : Size (length body) size
  pub whole : s ≡ head ++ (blocks ++ (0x03 ∷ (size ++ (body ++ rest))))
  pub place_is : place ≡ length head + length blocks + (1 + length size)
  pub len_is : len ≡ length body
  pub body_at : take len (drop place s) ≡ body

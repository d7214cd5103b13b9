-- Bytes in a lent buffer, and numbers as bytes. From no public document: nothing here knows of tags.
--
--   splice d at bs                  == the bytes d, with bs in the place of what stood at `at`
--   Wrote before at bs after next   == a writer put bs at `at`, kept every other byte, and returns the place after them
--   be n v                          == the low n bytes of the number v, high byte first
use Rattle.std.specs.Prelude.{◌≡◌, List, [], ◌∷◌, ◌++◌, ℕ, zero, suc, ◌+◌, ◌/◌, ◌%◌, length, take, drop}

unfoldable pub splice : List ℕ → ℕ → List ℕ → List ℕ
splice d at bs = take at d ++ (bs ++ drop (at + length bs) d)

pub record Wrote (before : List ℕ) (at : ℕ) (bs after : List ℕ) (next : ℕ) : Type 0 where
  pub bytes : after ≡ splice before at bs
  pub place : next ≡ at + length bs

unfoldable pub be : ℕ → ℕ → List ℕ
be zero v = []
be (suc n) v = be n (v / 256) ++ (v % 256 ∷ [])

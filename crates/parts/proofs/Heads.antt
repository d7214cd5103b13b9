-- The heads of a block and of a record, case by case, as they are written.
use mathlib.Core.Path.{◌≡◌}
use mathlib.Core.Bool.{true, false}
use mathlib.Core.List.{[], ◌∷◌, ◌++◌}
use Prim.Native.Nat.{ℕ, ◌+◌, ◌%◌, ◌≤◌, ◌<◌}
use lib.Dec.{leb}
use borrow.Author.Tests.{le-leb, lt-leb, lt-ltb, le-ltb}
use Rattle.slices.specs.Bytes.{be}
use Rattle.layout.specs.Block.{message_head, block_length}
use Rattle.layout.specs.Record.{record_head, header}

pub message-short : (n : ℕ) → n < 255 → message_head n ≡ 0x03 ∷ n % 256 ∷ []
unfolding message_head block_length be
message-short n h = simp (lt-ltb n 255 h)

pub message-long : (n : ℕ) → 255 ≤ n → message_head n ≡ (0x03 ∷ 0xFF ∷ []) ++ be 2 n
unfolding message_head block_length
message-long n h = simp (le-ltb n 255 h)

module _ (format k p : ℕ) where
  pub record_short : p ≤ 255 → record_head true true (leb p 255) false format k p 0 ≡ (0xD0 + format) ∷ k ∷ p % 256 ∷ []
  unfolding record_head header be
  record_short h = simp (le-leb p 255 h)

  pub record_long : 255 < p → record_head true true (leb p 255) false format k p 0 ≡ ((0xC0 + format) ∷ k ∷ []) ++ be 4 p
  unfolding record_head header be
  record_long h = simp (lt-leb p 255 h)

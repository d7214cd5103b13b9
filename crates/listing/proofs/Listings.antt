-- A listing, case by case.
--
--   too_long          == an image over 8,192 bytes is refused
--   short-enough      == any other has the lines of its message
--   list_none         == a buffer that is too short: 0, and not a byte changed
--   list_done         == any other: the listing is written at its front
use mathlib.Core.Path.{◌≡◌, ap}
use mathlib.Core.List.{List}
use Prim.Native.Nat.{ℕ, ◌≤◌, ◌<◌}
use native.Mathlib.Omega.{arith}
use borrow.Author.Tests.{lt-ltb, le-ltb}
use lib.ListN.{length}
use Rattle.slices.specs.Bytes.{Wrote}
use Rattle.blocks.specs.Read.{Read, read_of}
use Rattle.listing.specs.Listing.{refused_line, of_message, listing_of, list_room, list_answer, list_after}

pub too_long : (image : List ℕ) → 8192 < length image → refused_line 35 ≡ listing_of image
unfolding listing_of
too_long image h = simp (lt-ltb 8192 (length image) h)

pub short-enough : (image : List ℕ) {m : Read} → length image ≤ 8192 → m ≡ read_of image → of_message image m ≡ listing_of image
unfolding listing_of
short-enough image h e = simp (le-ltb 8192 (length image) h) (ap (of_message image) e)

module _ (image out : List ℕ) where
  pub list_none : length out < list_room → (0 ≡ list_answer (length out) image) × (out ≡ list_after image out)
  unfolding list_answer list_after
  list_none h = (simp (lt-ltb (length out) list_room h), simp (lt-ltb (length out) list_room h))

  pub list_done : {after : List ℕ} {n : ℕ} → list_room ≤ length out → Wrote out 0 (listing_of image) after n
      → (n ≡ list_answer (length out) image) × (after ≡ list_after image out)
  unfolding list_answer list_after
  list_done h w =
      let p = w.place in
      (simp (le-ltb (length out) list_room h) (omega arith), simp (le-ltb (length out) list_room h) w.bytes)

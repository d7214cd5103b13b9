-- Laws of an image's parts: how long each is, and an image as its front, its payload and the terminator.
use mathlib.Core.Path.{◌≡◌, refl, ap, ap₂, ◌∙◌}
use mathlib.Core.Bool.{Bool, true, false}
use mathlib.Core.List.{List, [], ◌∷◌, ◌++◌, append_assoc}
use Prim.Native.Nat.{ℕ, suc, ◌+◌}
use native.Mathlib.Omega.{arith}
use lib.ListN.{length, length-append}
use lib.Dec.{leb, ltb}
use Rattle.slices.specs.Pick.{pick}
use Rattle.slices.specs.Bytes.{be}
use Rattle.slices.proofs.Numbers.{be-length}
use Rattle.layout.specs.Lengths.{head_len, record_len, block_len, image_len}
use Rattle.layout.specs.Container.{container}
use Rattle.layout.specs.Block.{block_length, message_head, message, terminator}
use Rattle.layout.specs.Record.{record_head, record_bytes, whole}
use Rattle.layout.specs.Image.{image_of, image, front}
use Rattle.layout.proofs.Sizes.{image-is, record_is}

pub container-length : (area : ℕ) → length (container area) ≡ 8
unfolding container be
container-length area = refl

-- what stands before a message takes as many bytes as `block_len` says
pub message-head-length : (n : ℕ) → length (message_head n) ≡ block_len n
unfolding message_head block_length
message-head-length n = go (ltb n 255)
  where
    go : (b : Bool) → suc (length (pick b (be 1 n) (0xFF ∷ be 2 n))) ≡ pick b 2 4
    go true = omega (arith, be-length 1 n)
    go false = omega (arith, be-length 2 n)

-- and a record's head, with no id, as many as its payload's length asks
pub record_head-length : (begin last short : Bool) (format k p : ℕ)
    → length (record_head begin last short false format k p 0) ≡ pick short 3 6
unfolding record_head
record_head-length begin last true format k p = omega (arith, length-append (be 1 p) [], be-length 1 p)
record_head-length begin last false format k p = omega (arith, length-append (be 4 p) [], be-length 4 p)

module _ (format : ℕ) (kind payload : List ℕ) where
  whole_is : record_bytes (whole format kind payload)
      ≡ record_head true true (leb (length payload) 255) false format (length kind) (length payload) 0 ++ (kind ++ payload)
  unfolding record_bytes
  whole_is = simp append_assoc

  pub record_length : length (record_bytes (whole format kind payload)) ≡ record_len (length kind) (length payload)
  record_length =
      let h = record_head-length true true (leb (length payload) 255) format (length kind) (length payload) in
      let w = ap length whole_is in
      omega (
        arith,
        record_is (length kind) (length payload),
        simp length-append at w,
      )

  -- an image is its front, the payload and the terminator
  pub image-front : (area : ℕ) → image area (whole format kind payload) ≡ front area format kind (length payload) ++ (payload ++ terminator)
  unfolding image_of message front
  image-front area =
      ap₂ (λ (n : ℕ) (l : List ℕ). container area ++ (message_head n ++ l) ++ terminator) record_length whole_is
      ∙ simp append_assoc

-- a front's pieces
pub front_pieces : (area format : ℕ) (kind : List ℕ) (p : ℕ)
    → length (front area format kind p)
    ≡ 8 + length (message_head (record_len (length kind) p)) + length (record_head true true (leb p 255) false format (length kind) p 0) + length kind
unfolding front
front_pieces area format kind p = simp (length-append, container-length)

front_parts : (area format : ℕ) (kind : List ℕ) (p : ℕ)
    → length (front area format kind p) ≡ 8 + block_len (record_len (length kind) p) + head_len p + length kind
front_parts area format kind p = front_pieces area format kind p ∙ simp (message-head-length, record_head-length)

-- a front, with a payload of the length that it announces and the terminator, is as long as `image_len` says
pub front_length : (area format : ℕ) (kind : List ℕ) (p : ℕ) → length (front area format kind p) + p + 1 ≡ image_len (length kind) p
front_length area format kind p =
    omega (arith, front_parts area format kind p, image-is (length kind) p, record_is (length kind) p)

-- and so is the whole image
pub image-length : (area format : ℕ) (kind payload : List ℕ)
    → length (image area (whole format kind payload)) ≡ image_len (length kind) (length payload)
image-length area format kind payload =
    omega (
      arith,
      ap length (image-front format kind payload area),
      length-append (front area format kind (length payload)) (payload ++ terminator),
      length-append payload terminator,
      front_length area format kind (length payload),
    )

-- An image begun, its payload written by the caller, and closed, is the image of the whole builder.
-- Document 01, 'Numbers a caller gets': it counts as finished when `finish` follows right after a payload of the announced length.
--
--   begins                         == the bytes that the begin call of a record writes
--   Begun head rest out o₁ o₂ o₃   == o₁ is the buffer after the front and `head`, o₂ after `rest` was put there, o₃ closed
--   begun-is-whole                 == o₃ is then the buffer that the whole builder leaves
use Rattle.std.specs.Prelude.{◌≡◌, Ok, List, ◌++◌, ℕ, ◌+◌, ◌≤◌, length}
use Rattle.std.proofs.Common.{ap, ◌∙◌, arith, length-append}
use Rattle.slices.specs.Bytes.{Wrote}
use Rattle.slices.proofs.Splice.{chain, splice_front}
use Rattle.layout.specs.Lengths.{image_len}
use Rattle.layout.specs.Record.{whole}
use Rattle.layout.specs.Block.{terminator}
use Rattle.layout.specs.Image.{front, image}
use Rattle.layout.proofs.Images.{front_length}
use Rattle.joins.proofs.Pieces.{pieces}
use Rattle.judging.specs.Judge.{after}

module _ (area format : ℕ) (kind head rest : List ℕ) where
  -- the bytes that the begin call of this record writes
  abbrev pub begins : List ℕ
  begins = front area format kind (length head + length rest) ++ head

  pub record Begun (out o₁ o₂ o₃ : List ℕ) (place end close : ℕ) : Type 0 where
    pub fits : image_len (length kind) (length head + length rest) ≤ length out
    pub opened : Wrote out 0 begins o₁ place
    pub filled : Wrote o₁ place rest o₂ end
    pub closed : Wrote o₂ end terminator o₃ close

  pub begun-is-whole : {out o₁ o₂ o₃ : List ℕ} {place end close : ℕ} → Begun out o₁ o₂ o₃ place end close
      → o₃ ≡ after (Ok tt) (image area (whole format kind (head ++ rest))) out
  begun-is-whole {out} b =
      let n = front_length area format kind (length head + length rest) in
      let l = length-append (front area format kind (length head + length rest)) head in
      let f = b.fits in
      let p = b.opened.place in
      let q = b.filled.place in
      let w = chain (omega arith) (chain (omega arith) b.opened b.filled) b.closed in
      w.bytes
      ∙ splice_front out (front area format kind (length head + length rest) ++ head ++ rest ++ terminator)
      ∙ ap (λ (bs : List ℕ). after (Ok tt) bs out) (pieces area format kind head rest)

use mathlib.Core.Path.{◌≡◌, ap, subst, ◌∙◌}
use mathlib.Core.List.{List}
use Prim.Native.Nat.{ℕ}
use lib.ListN.{length, take}
use lib.Seq.{take-append_seam}
use Rattle.slices.specs.Bytes.{Wrote}
use Rattle.slices.proofs.Splice.{splice_front}
use Rattle.copies.proofs.copy_part.Goals as goal

-- The front of the array is what was copied into it.
-- what was put at the front of other bytes is their front
front_of : {d s after : List ℕ} {r : ℕ} → Wrote d 0 s after r → take (length s) after ≡ s
front_of {d} {s} {after} {r} w = ap (take (length s)) (w.bytes ∙ splice_front d s) ∙ take-append_seam s _

pub returns : goal.returns
returns c = let a = c.args in
    subst (λ (bs : List ℕ). Wrote a.out.now a.at bs c.copy_to-2.new.out c.copy_to-2.result)
    (front_of c.copy_to.ensures) c.copy_to-2.ensures

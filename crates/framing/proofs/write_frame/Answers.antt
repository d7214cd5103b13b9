use native.Mathlib.Omega.{arith}
use mathlib.Core.Path.{ap, ◌∙◌}
use mathlib.Core.List.{List}
use Prim.Native.Nat.{ℕ}
use lib.ListN.{take}
use Rattle.slices.specs.Bytes.{splice}
use Rattle.slices.proofs.Splice.{part-rest}
use Rattle.framing.proofs.Halves.{halves}
use Rattle.framing.proofs.write_frame.Goals as goal

pub returns : goal.returns
returns c = let a = c.args in
    record {
      bytes = c.copy_to-2.ensures.bytes ∙ ap (λ (d : List ℕ). splice d 0 (take 2 a.bytes.now)) (c.copy_to.ensures.bytes ∙ ap (splice a.transfer.now 2) (part-rest a.bytes.now 2)) ∙ halves a.transfer.now a.bytes.now 2 (omega arith) (omega arith);
      place = let l = c.requires.0 in omega arith;
    }

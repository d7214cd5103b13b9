use Rattle.std.proofs.Common.{ℕ, List, length, ◌+◌, ◌≡◌, take, set, get_or, ap, refl, sym, ◌∙◌, arith}
use Rattle.std.proofs.Math.Seq.{take-length}
use Rattle.slices.specs.Bytes.{splice}
use Rattle.slices.proofs.Splice.{splice-none, splice-more}
use Rattle.slices.proofs.copy_to.Goals as goal

pub loop-i-init : goal.loop-i-init
loop-i-init c = (omega arith, sym (splice-none _ _))

pub bounds-out-at : goal.bounds-out-at
bounds-out-at c = omega (arith, c.loop-i.auto.out)

pub loop-i-preserved : goal.loop-i-preserved
loop-i-preserved c = (
  omega arith,
  ap (λ (d : List ℕ). set d (c.args.at + c.loop-i.i) (get_or c.args.src.now c.loop-i.i 0)) c.loop-i.invariant.1
      ∙ splice-more c.args.out.now c.args.at c.args.src.now c.loop-i.i (omega arith) c.requires,
)

pub shape_of-out : goal.shape_of-out
shape_of-out c = c.loop-i.auto.out

pub returns : goal.returns
returns c =
    let e : c.loop-i.i ≡ length c.args.src.now = omega arith in
    record {
      bytes = c.loop-i.invariant.1 ∙ ap (splice _ _) (ap (λ (n : ℕ). take n c.args.src.now) e ∙ take-length _);
      place = refl;
    }

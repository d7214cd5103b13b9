use Rattle.std.proofs.Common.{◌+◌, ◌/◌, ◌≡◌, ℕ, ◌-◌, suc, arith, ap, ap₂, refl, sym, ◌∙◌}
use Rattle.slices.specs.Bytes.{be, splice}
use Rattle.slices.proofs.Splice.{splice-none}
use Rattle.numerals.proofs.Backward.{shift_more, be_length, one_more}
use Rattle.numerals.proofs.put_be.Goals as goal

pub loop-k-init : goal.loop-k-init
unfolding be
loop-k-init g c = let e : g.row.N - g.row.N ≡ 0 = omega arith in rw e (omega arith, refl, sym (splice-none _ _))

pub loop-k-preserved : goal.loop-k-preserved
loop-k-preserved g c =
    let k = c.loop-k.k in
    let m = g.row.N - k in
    let e : g.row.N - (k - 1) ≡ suc m = omega arith in
    let i = c.loop-k.invariant in
    rw e (omega arith, ap (λ (n : ℕ). n / 256) i.1 ∙ shift_more m c.args.v, one_more c.args.out.now c.loop-k.out c.args.at k (k - 1) m c.args.v c.loop-k.left (omega arith) (omega arith) i.1 i.2)

pub returns : goal.returns
returns g c =
    let at : c.args.at + c.loop-k.k ≡ c.args.at = omega arith in
    let all : g.row.N - c.loop-k.k ≡ g.row.N = omega arith in
    record {
      bytes = c.loop-k.invariant.2 ∙ ap₂ (λ (a n : ℕ). splice c.args.out.now a (be n c.args.v)) at all;
      place = ap (λ (n : ℕ). c.args.at + n) (sym (be_length _ _));
    }

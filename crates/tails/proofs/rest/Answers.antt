use mathlib.Core.Path.{ap, ◌∙◌}
use mathlib.Core.Bool.{Bool}
use Prim.Native.Nat.{◌-◌}
use native.Mathlib.Omega.{arith}
use lib.ListN.{length-replicate}
use Rattle.slices.specs.Pick.{pick}
use Rattle.utf8.specs.Utf8.{◌to◌}
use Rattle.utf8.specs.Rest.{rest}
use Rattle.utf8.proofs.Places.{rest-first, rest-next, rest-done, rest-short}
use Rattle.tails.proofs.rest.Goals as goal

pub returns-then-s-i : goal.returns-then-s-i
returns-then-s-i c = rest-short c.args.s.now c.args.i c.args.n (rest c.args.n c.args.lo c.args.hi) (omega arith) (omega (arith, length-replicate (c.args.n - 2) (0x80 to 0xBF)))

pub loop-k-init : goal.loop-k-init
loop-k-init c = (omega arith, rest-first c.args.s.now c.args.i c.args.n _ _ (omega arith) c.inside-ok.ensures)

pub loop-k-preserved : goal.loop-k-preserved
loop-k-preserved c = (omega arith, rest-next c.args.s.now c.args.i c.args.n c.loop-k.k c.loop-k.ok (omega arith) (omega arith) c.inside-ok-in-loop-k.ensures ∙ c.loop-k.invariant.1)

pub returns : goal.returns
returns c = c.when.ensures ∙ ap (λ (b : Bool). pick b c.args.n 0) (rest-done c.args.s.now c.args.i c.args.n c.loop-k.k c.loop-k.ok (omega arith) c.loop-k.invariant.1)

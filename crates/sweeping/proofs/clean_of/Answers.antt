use mathlib.Core.Path.{refl}
use Rattle.wiping.proofs.Sweeps.{head-by, clean_is}
use Rattle.sweeping.proofs.clean_of.Goals as goal

pub returns-then-n-f : goal.returns-then-n-f
returns-then-n-f c = let f = c.flat_of-f in let n = head-by c.args.state.now f.result _ _ f.ensures c.four.ensures.0 c.four-2.ensures.0 in clean_is c.args.state.now c.args.reply.now f.result _ _ c.requires.0 (λ i. (c.shared_slice_known-1.given i).fits) c.requires.1 f.ensures n c.if-n-f.true refl c.passed.result c.passed.ensures

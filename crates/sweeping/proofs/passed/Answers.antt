use Rattle.wiping.proofs.Sweeps.{passes}
use Rattle.sweeping.proofs.passed.Goals as goal

pub returns-then-all_zero : goal.returns-then-all_zero
returns-then-all_zero c = let s = c.args in let k = c.chunk_stop in let z = c.all_zero in passes s.m s.rows k.result s.p s.reply.now z.result k.ensures.0 c.if-chunk_stop-rows.true c.if-next-p.true z.ensures c.if-all_zero.true

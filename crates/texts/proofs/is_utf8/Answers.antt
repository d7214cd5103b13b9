use mathlib.Core.Path.{sym, ◌∙◌}
use native.Mathlib.Omega.{arith}
use Rattle.utf8.proofs.Skips.{skips_on, skips_char, skips_bad, skips_all}
use Rattle.texts.proofs.is_utf8.Goals as goal

pub returns-then-n-eq0 : goal.returns-then-n-eq0
returns-then-n-eq0 c = let l = c.loop-i in sym (l.invariant.same ∙ skips_bad c.args.s.now l.i (omega arith) c.first_len-n.ensures c.if-n-eq0.true)

-- the character at i, which is there
pub overflow_add-i : goal.overflow_add-i
overflow_add-i c = omega (arith, (skips_char c.args.s.now c.loop-i.i (omega arith) c.first_len-n.ensures c.if-n-eq0.false).within)

pub past_like-i-requires : goal.past_like-i-requires
past_like-i-requires c = (skips_char c.args.s.now c.loop-i.i (omega arith) c.first_len-n.ensures c.if-n-eq0.false).within

pub loop-i-preserved : goal.loop-i-preserved
loop-i-preserved c = skips_on c.loop-i.invariant (skips_on (skips_char c.args.s.now c.loop-i.i (omega arith) c.first_len-n.ensures c.if-n-eq0.false) c.past_like-i.ensures)

pub returns : goal.returns
returns c = let l = c.loop-i in sym (l.invariant.same ∙ skips_all c.args.s.now l.i (omega arith))

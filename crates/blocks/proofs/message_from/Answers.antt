use mathlib.Core.Path.{sym, ◌∙◌}
use Rattle.blocks.proofs.Blocks.{found_is, next_there, message_at}
use Rattle.blocks.proofs.message_from.Goals as goal

pub loop-n-preserved : goal.loop-n-preserved
loop-n-preserved c =
    let i = c.loop-n.invariant in
    let found = found_is _ _ i.0 c.in-Some-Over.ensures c.in-Some-Over.field-0-is in
    ((next_there _ _ i.0 found).1, i.1 ∙ message_at _ _ i.0 found)

pub returns-in-Some-Body : goal.returns-in-Some-Body
returns-in-Some-Body c =
    let i = c.loop-n.invariant in
    sym (i.1 ∙ message_at _ _ i.0 (found_is _ _ i.0 c.in-Some-Body.ensures c.in-Some-Body.field-0-is))

pub returns-in-Some-Stop : goal.returns-in-Some-Stop
returns-in-Some-Stop c =
    let i = c.loop-n.invariant in
    sym (i.1 ∙ message_at _ _ i.0 (found_is _ _ i.0 c.in-Some-Stop.ensures c.in-Some-Stop.field-0-is))

pub returns-in-None : goal.returns-in-None
returns-in-None c = let i = c.loop-n.invariant in sym (i.1 ∙ message_at _ _ i.0 c.in-None.ensures)

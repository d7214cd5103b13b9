use Rattle.container.proofs.Access.{marked, unmarked}
use Rattle.container.proofs.set_read_only.Goals as goal

pub returns-then-image-gt1 : goal.returns-then-image-gt1
returns-then-image-gt1 c = marked _ c.if-image-gt1.true

pub returns-else-image-gt1 : goal.returns-else-image-gt1
returns-else-image-gt1 c = unmarked _ c.if-image-gt1.false

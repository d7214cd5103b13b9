use Rattle.incoming.proofs.Presented.{other_length}
use Rattle.incoming.proofs.is_password.Goals as goal

pub returns-else-s-eq19 : goal.returns-else-s-eq19
returns-else-s-eq19 c = other_length c.args.s.now c.if-s-eq19.false

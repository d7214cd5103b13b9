use borrow.Author.Rules.{rules}
use Rattle.machine.proofs.Acks.{was-acked}
use Rattle.writing.proofs.Writes.{check_law, parts_even}
use Rattle.scan.proofs.Cutting.{part_length}
use Rattle.comparing.proofs.check_step.Goals as goal

pub returns : goal.returns
returns c = search (rules, was-acked, check_law, parts_even, part_length)

use borrow.Author.Tests.{not-true, not-false}
use Rattle.shows.proofs.Answered.{read_unsized, out_unsized, read_fills, read_taken, out_read_lem, read-refused, out_kept}
use native.Mathlib.Omega.{arith}
use Rattle.std.proofs.lemmas.Grind.{common_steps}
use Rattle.shows.proofs.read.Goals as goal

pub show-requires : goal.show-requires
show-requires c = grind (arith, common_steps, not-true, not-false, read_unsized, out_unsized, read_fills, read_taken, out_read_lem, read-refused, out_kept)

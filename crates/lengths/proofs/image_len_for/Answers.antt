use Rattle.layout.proofs.Sizes.{image-is, record_is}
use Rattle.lengths.proofs.Heads.{block_at_most, block_sat}
use native.Mathlib.Omega.{arith}
use Rattle.std.proofs.lemmas.Grind.{common_steps}
use Rattle.lengths.proofs.image_len_for.Goals as goal

pub returns : goal.returns
returns c = grind (arith, common_steps, image-is, record_is, block_at_most, block_sat)

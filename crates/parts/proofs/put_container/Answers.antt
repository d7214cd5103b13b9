use Rattle.slices.proofs.Splice.{chain}
use Rattle.layout.specs.Container.{container}
use native.Mathlib.Omega.{arith}
use Rattle.parts.proofs.put_container.Goals as goal

pub returns : goal.returns
unfolding container
returns c = chain (omega arith) c.copy_to-at.ensures c.put_be.ensures

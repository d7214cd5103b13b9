use Rattle.std.proofs.Common.{refl}
use Rattle.slices.proofs.Splice.{splice-one}
use Rattle.slices.proofs.put.Goals as goal

pub returns : goal.returns
returns c = record { bytes = splice-one _ _ _ c.requires; place = refl }

use mathlib.Core.Path.{◌∙◌, ap}
use Rattle.slices.specs.Bytes.{splice}
use Rattle.telling.proofs.Frames.{row-framed}
use Rattle.framing.proofs.row.Goals as goal

pub returns : goal.returns
returns c = c.copy_to.ensures.bytes ∙ ap (λ d. splice d 2 c.args.piece.now) c.head-f.ensures ∙ row-framed c.args.at c.args.piece.now c.requires

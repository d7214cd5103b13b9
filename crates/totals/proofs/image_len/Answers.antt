use mathlib.Core.Path.{ap, ◌∙◌}
use Prim.Native.Nat.{ℕ, ◌+◌}
use Rattle.layout.specs.Lengths.{sat, image_len}
use Rattle.layout.proofs.Sizes.{image-sat}
use Rattle.totals.proofs.image_len.Goals as goal

pub returns : goal.returns
returns c = c.record_image_len.ensures ∙ ap (λ (n : ℕ). sat (image_len 1 n)) c.saturating_add.ensures ∙ image-sat 1 (c.args.uri_len + 1)

use mathlib.Core.Path.{ap, ap₂, ◌∙◌}
use mathlib.Core.List.{List, ◌++◌}
use Prim.Native.Nat.{ℕ}
use lib.ListN.{length}
use Rattle.messages.specs.Messages.{padded}
use Rattle.std.proofs.lemmas.List.{drop-replicate}
use Rattle.phrases.proofs.message.Goals as goal

pub returns : goal.returns
unfolding padded
returns c =
    let e = c.text_of-m.ensures.value in
    (ap length e, ap₂ (λ (l r : List ℕ). l ++ r) c.copy_from_slice.ensures.after (drop-replicate (length c.text_of-m.result.now) 64 0) ∙ ap (padded 64) e)

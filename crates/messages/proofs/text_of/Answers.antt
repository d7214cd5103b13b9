use native.Mathlib.Omega.{arith}
use mathlib.Core.Path.{refl}
use Rattle.messages.specs.Messages.{messages}
use Rattle.messages.proofs.Table.{silent, none}
use Rattle.std.proofs.lemmas.Grind.{common_steps}
use Rattle.messages.proofs.text_of.Goals as goal

-- Each gap between two stretches of numbers.
pub returns-in_default-clause-value : goal.returns-in_default-clause-value
unfolding messages
returns-in_default-clause-value c =
    let n = c.args.number in
    grind (arith, common_steps, silent n 6 5 refl, silent n 15 6 refl, silent n 27 4 refl, none n)

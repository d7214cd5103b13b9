-- A build that answers and is then told, as one.
use mathlib.Core.Path.{◌≡◌, ap, ◌∙◌}
use mathlib.Core.List.{List}
use Prim.Native.Nat.{ℕ}
use Rattle.layout.specs.declared.refusal.Refusal.{Refusal}
use Rattle.std.specs.Prelude.{Result}
use Rattle.judging.specs.Judge.{built_number, built_values}
use Rattle.tells.specs.Builds.{pair_of, Tells}

pub tells : {b was : Result ℕ Refusal} {left out vs : List ℕ} {r : ℕ} → (was ≡ b) × (out ≡ left)
    → (r ≡ built_number was) × (vs ≡ pair_of (built_values was))
    → Tells b left r vs out
tells built told =
    record {
      number = told.0 ∙ ap built_number built.0;
      values = told.1 ∙ ap (λ (x : Result ℕ Refusal). pair_of (built_values x)) built.0;
      bytes = built.1;
    }

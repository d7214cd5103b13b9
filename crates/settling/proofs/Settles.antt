-- What the code of `settle` comes to.
use mathlib.Core.Path.{◌≡◌, sym, ap, subst, ◌∙◌}
use mathlib.Core.List.{List}
use Prim.Native.Nat.{ℕ}
use lib.ListN.{length}
use Rattle.session.specs.Steps.{entered}
use Rattle.session.specs.declared.session.Session.{Session}
use Rattle.state.specs.Bytes.{encode}
use Rattle.stages.specs.declared.stage.Turn.{Turn}
use Rattle.telling.specs.Left.{Leaves, settled}

module _ (lent : List ℕ) (rows : ℕ) (t u : Turn) (et : t ≡ u) (tr r : List ℕ) where
  -- each part, for the turn that it was found to be
  pub settles : (step : ℕ) (state transfer reply : List ℕ)
      → Leaves (settled lent rows u tr r) step state transfer reply → Leaves (settled lent rows t tr r) step state transfer reply
  settles step state transfer reply =
      subst (λ (x : Turn). Leaves (settled lent rows x tr r) step state transfer reply) (sym et)

  pub stored : (state : List ℕ) (s : Session) → state ≡ encode s → s ≡ entered rows (length lent) t → state ≡ encode (entered rows (length lent) u)
  stored state s a b = a ∙ ap encode (b ∙ ap (entered rows (length lent)) et)

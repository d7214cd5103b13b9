-- What a build answers, as C gets it. Document 01, 'Numbers a caller gets'.
--
--   pair_of l                == two numbers: the values l, with zeros after them
--   Tells b left r vs out   == the call returned r and left vs and out: the number of the answer b, its values, and the bytes `left`
--   Builds v bs was r vs out == the same for a build with verdict v that writes the bytes bs into a buffer that held `was`
use Rattle.std.specs.Prelude.{◌≡◌, ⊤, Result, List, [], ◌∷◌, ℕ, get_or}
use Rattle.layout.specs.declared.refusal.Refusal.{Refusal}
use Rattle.judging.specs.Judge.{answer, after, built_number, built_values}

abbrev pub pair_of : List ℕ → List ℕ
pair_of l = get_or l 0 0 ∷ get_or l 1 0 ∷ []

pub record Tells (b : Result ℕ Refusal) (left : List ℕ) (r : ℕ) (vs out : List ℕ) : Type 0 where
  pub number : r ≡ built_number b
  pub values : vs ≡ pair_of (built_values b)
  pub bytes : out ≡ left

abbrev pub Builds : Result ⊤ Refusal → List ℕ → List ℕ → ℕ → List ℕ → List ℕ → Type 0
Builds v bs was r vs out = Tells (answer v bs) (after v bs was) r vs out

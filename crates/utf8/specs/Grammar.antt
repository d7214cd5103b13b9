-- The same document as a relation, for a reader who would rather not follow a computation: `utf8-sound` and `utf8_complete`, in
-- proofs/Grammar, say that `utf8` is true of just the texts.
--
--   Matches c row   == the bytes c are as many as the row's ranges, and each stands in its range
--   Text s          == s is a sequence of characters, each of which matches a row of table 3-7
use mathlib.Core.List.{List, [], ◌∷◌, ◌++◌, Memᴰ}
use Rattle.std.specs.Prelude.{ℕ, ◌≤◌}
use Rattle.utf8.specs.Utf8.{Range, ◌to◌, table}

pub data Matches : List ℕ → List Range → Type 0 where
  end : Matches [] []
  byte : {b lo hi : ℕ} {c : List ℕ} {row : List Range} → lo ≤ b → b ≤ hi → Matches c row → Matches (b ∷ c) (lo to hi ∷ row)

pub data Text : List ℕ → Type 0 where
  none : Text []
  char : {c s : List ℕ} {row : List Range} → Memᴰ row table → Matches c row → Text s → Text (c ++ s)

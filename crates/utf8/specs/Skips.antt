-- What the check of a text passes over. From no public document: how the code passes many characters at once; what is well-formed is table
-- 3-7's (Utf8).
--
--   Skips s i j   == between i and j nothing decides: the text from i is well-formed as the text from j is
use Rattle.std.specs.Prelude.{◌≡◌, List, ℕ, ◌≤◌, length, drop}
use Rattle.utf8.specs.Utf8.{utf8}

pub record Skips (s : List ℕ) (i j : ℕ) : Type 0 where
  pub from : i ≤ j
  pub within : j ≤ length s
  pub same : utf8 (drop i s) ≡ utf8 (drop j s)

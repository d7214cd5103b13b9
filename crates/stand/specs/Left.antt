-- What a recovery left. From no public document: what the program `cuts` counts after each recovery; demand 3 wants none.
--
--   one_if b      == 1 for true, 0 for false
--   left_in bs    == how many bytes are not zero. `none_left` (proofs/Lefts): 0 only where every byte is zero
use Rattle.std.specs.Prelude.{Bool, true, false, not, List, [], ◌∷◌, ℕ, ◌+◌, eqb}

abbrev pub one_if : Bool → ℕ
one_if true = 1
one_if false = 0

unfoldable pub left_in : List ℕ → ℕ
left_in [] = 0
left_in (b ∷ bs) = one_if (not (eqb b 0)) + left_in bs

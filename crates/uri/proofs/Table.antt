-- The code's table is the document's: what stands there at a code is the code's prefix.
--
--   short ps   == none of the texts has over 26 bytes
use mathlib.Core.Path.{◌≡◌, refl, ap, sym, ◌∙◌}
use mathlib.Core.List.{List, [], ◌∷◌, map}
use mathlib.Core.Bool.{Bool, true, ◌&&◌}
use Prim.Native.Nat.{ℕ, zero, suc, ◌<◌, ◌≤◌}
use native.Mathlib.Omega.{arith}
use borrow.Author.Tests.{leb-true}
use lib.Dec.{leb}
use lib.ListN.{length, length-map, get_or, get_or-map, get_or-eq_default}
use Rattle.slices.proofs.Truths.{and_left, and_right}
use Rattle.uri.specs.declared.Row.{Row}
use Rattle.uri.specs.Prefixes.{prefixes, entry}

abbrev pub short : List (List ℕ) → Bool
short [] = true
short (p ∷ ps) = leb (length p) 26 && short ps

short_at : (ps : List (List ℕ)) (n : ℕ) → short ps ≡ true → length (get_or ps n []) ≤ 26
short_at [] n e = omega arith
short_at (p ∷ ps) zero e = leb-true _ _ (and_left _ _ e)
short_at (p ∷ ps) (suc n) e = short_at ps n (and_right _ _ e)

-- an element, whatever is taken where there is none
there : (t : List Row) (k : ℕ) (d e : Row) → k < length t → get_or t k d ≡ get_or t k e
there [] k d e l = absurd (omega arith)
there (x ∷ t) zero d e l = refl
there (x ∷ t) (suc k) d e l = there t k d e (omega arith)

-- what the table of the entries has at a code below 36
pub known : (at code : ℕ) (d : Row) → at < 36 → at ≡ code → length prefixes ≡ 36 → get_or (map entry prefixes) at d ≡ entry (get_or prefixes code [])
known at code d l n k =
    there (map entry prefixes) at d (entry []) (omega (arith, l, k, length-map prefixes entry))
    ∙ get_or-map entry prefixes at [] ∙ ap (λ c. entry (get_or prefixes c [])) n

-- the empty row stands for any other
pub unknown : (code : ℕ) → 36 ≤ code → length prefixes ≡ 36 → entry [] ≡ entry (get_or prefixes code [])
unknown code h k = ap entry (sym (get_or-eq_default prefixes [] (omega (arith, h, k))))

-- and none is longer than 26 bytes
pub most : (r : Row) (code : ℕ) → r ≡ entry (get_or prefixes code []) → short prefixes ≡ true → r.0 ≤ 26
most r code e s = let l : r.0 ≡ length (get_or prefixes code []) = ap (λ r. r.0) e in omega (arith, l, short_at prefixes code s)

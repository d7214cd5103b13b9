-- Laws of a write.
--
--   wrote_as       == the same bytes, written otherwise
--   word_place     == the place after a word and one byte more
--   hex_place      == the place after two digits for each of some bytes
use mathlib.Core.Path.{◌≡◌, subst}
use mathlib.Core.List.{List, [], ◌∷◌, ◌++◌}
use Prim.Native.Nat.{ℕ, ◌+◌, ◌*◌, ◌≤◌}
use native.Mathlib.Omega.{arith}
use lib.ListN.{length, take, length-append}
use lib.Seq.{length-take-le}
use Rattle.slices.specs.Bytes.{Wrote}
use Rattle.digits.specs.Text.{hex_of}
use Rattle.digits.proofs.Texts.{hex_length}

module _ {d e bs : List ℕ} {at n : ℕ} where
  pub wrote_as : {cs : List ℕ} → bs ≡ cs → Wrote d at bs e n → Wrote d at cs e n
  wrote_as q w = subst (λ (l : List ℕ). Wrote d at l e n) q w

pub word_place : {d e : List ℕ} {at n : ℕ} (w : List ℕ) (b : ℕ) → Wrote d at (w ++ (b ∷ [])) e n → n ≡ at + length w + 1
word_place w b q = let p = q.place in omega (arith, length-append w (b ∷ []))

-- where the digits of the first i bytes end
pub hex_place : {o₀ o₁ : List ℕ} {at n : ℕ} (s : List ℕ) (i : ℕ) → i ≤ length s → Wrote o₀ at (hex_of (take i s)) o₁ n → n ≡ at + 2 * i
hex_place s i h w = omega (arith, w.place, hex_length (take i s), length-take-le i s h)

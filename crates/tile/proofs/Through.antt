-- What holds of the registers that the code has made of ten numbers holds of the definition's.
--
--   through g f t    == what is made by g of what f makes of the registers
use mathlib.Core.Path.{◌≡◌, ap, ◌∙◌}
use mathlib.Core.List.{List}
use Prim.Native.Nat.{ℕ}
use Rattle.part.specs.declared.registers.Registers.{Registers}
use Rattle.tens.specs.Tens.{registers_of}

pub through :
    {A B : Type 0} (g : A → B) (f : Registers → A) (t : List ℕ) {r : Registers} {a : A} {b : B}
    → r ≡ registers_of t
    → a ≡ f r
    → b ≡ g a
    → b ≡ g (f (registers_of t))
through g f t e h k = k ∙ ap g (h ∙ ap f e)

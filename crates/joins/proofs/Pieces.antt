-- An image in the order in which it is written: front, the payload in two pieces, terminator.
use mathlib.Core.Path.{◌≡◌, ap, sym, ◌∙◌}
use mathlib.Core.List.{List, ◌++◌, append_assoc}
use Prim.Native.Nat.{ℕ, ◌+◌}
use lib.ListN.{length, length-append}
use Rattle.layout.specs.Record.{whole}
use Rattle.layout.specs.Block.{terminator}
use Rattle.layout.specs.Image.{front, image}
use Rattle.layout.proofs.Images.{container-length, front_length, front_pieces, image-front}
use Rattle.layout.proofs.Sizes.{image-is}

pub pieces : (area format : ℕ) (kind head rest : List ℕ)
    → front area format kind (length head + length rest) ++ head ++ rest ++ terminator ≡ image area (whole format kind (head ++ rest))
pieces area format kind head rest =
    let n = length (head ++ rest) in
    let e : front area format kind n ++ head ++ rest ++ terminator ≡ front area format kind n ++ ((head ++ rest) ++ terminator) = simp append_assoc in
    ap (λ (m : ℕ). front area format kind m ++ head ++ rest ++ terminator) (sym (length-append head rest))
    ∙ e
    ∙ sym (image-front format kind (head ++ rest) area)

-- how long what is written is
pub ruleset sizes = (container-length, front_length, front_pieces, image-is)

use mathlib.Core.Path.{ap}
use mathlib.Core.List.{◌∷◌, [], ◌++◌}
use Prim.Native.Nat.{ℕ}
use Rattle.slices.proofs.Splice.{chain}
use Rattle.digits.specs.Text.{decimal}
use Rattle.digits.proofs.Writes.{wrote_as, word_place}
use native.Mathlib.Omega.{arith}
use Rattle.listing.proofs.put_head.Goals as goal

pub returns : goal.returns
returns c = let p = word_place (decimal c.args.number) 0x20 c.put_number-a.ensures in
    let q = word_place (decimal c.args.format) 0x20 c.put_number-b.ensures in
    let f = ap (λ (n : ℕ). decimal n ++ (0x20 ∷ [])) c.flag.ensures in
    chain (omega arith) (chain (omega arith) c.put_number-a.ensures c.put_number-b.ensures) (wrote_as f c.put_number.ensures)

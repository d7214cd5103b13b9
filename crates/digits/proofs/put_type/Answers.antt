use mathlib.Core.Path.{ap}
use mathlib.Core.List.{List, ◌∷◌, [], ◌++◌}
use Prim.Native.Nat.{ℕ}
use lib.ListN.{length}
use Rattle.slices.proofs.Splice.{chain}
use Rattle.digits.proofs.Texts.{type_empty, type_some, hex_length}
use Rattle.digits.proofs.Writes.{wrote_as}
use native.Mathlib.Omega.{arith}
use Rattle.digits.proofs.put_type.Goals as goal

pub copy_to-requires : goal.copy_to-requires
copy_to-requires c = let k = c.args.kind.now in omega (arith, ap length (type_empty k c.if-kind-eq0.true))

pub returns-then-kind-eq0 : goal.returns-then-kind-eq0
returns-then-kind-eq0 c = wrote_as (ap (λ (l : List ℕ). l ++ (0x20 ∷ [])) (type_empty _ c.if-kind-eq0.true)) c.copy_to.ensures

pub put_hex-a-requires : goal.put_hex-a-requires
put_hex-a-requires c = let k = c.args.kind.now in omega (arith, hex_length k, ap length (type_some k c.if-kind-eq0.false))

pub put-requires : goal.put-requires
put-requires c = let k = c.args.kind.now in omega (arith, c.put_hex-a.ensures.place, ap length (type_some k c.if-kind-eq0.false))

pub returns : goal.returns
returns c = let k = c.args.kind.now in
    wrote_as (ap (λ (l : List ℕ). l ++ (0x20 ∷ [])) (type_some k c.if-kind-eq0.false)) (chain (omega (arith, c.put_hex-a.ensures.place, ap length (type_some k c.if-kind-eq0.false))) c.put_hex-a.ensures c.put.ensures)

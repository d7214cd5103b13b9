use native.Mathlib.Omega.{arith}
use Prim.Native.Nat.{◌+◌, ◌≤◌, ◌/◌, ◌%◌}
use mathlib.Core.Path.{ap}
use mathlib.Core.List.{◌∷◌, []}
use lib.ListN.{length, length-append}
use Rattle.slices.proofs.Splice.{chain}
use Rattle.digits.specs.Text.{decimal}
use Rattle.digits.proofs.Texts.{decimal-small, decimal-more, decimal-some}
use Rattle.digits.proofs.Writes.{wrote_as}
use Rattle.digits.proofs.+put_decimal.Goals as goal

pub put-requires : goal.put-requires
put-requires t c = omega (arith, decimal-some c.args.n, c.requires)

pub returns-then-n-lt10 : goal.returns-then-n-lt10
returns-then-n-lt10 t c = wrote_as (decimal-small c.args.n (omega arith)) c.put.ensures

pub put_decimal-a-requires : goal.put_decimal-a-requires
put_decimal-a-requires t c =
    let n = c.args.n in
    let h : 10 ≤ n = omega arith in
    (omega arith, omega (arith, ap length (decimal-more n h), length-append (decimal (n / 10)) ((0x30 + n % 10) ∷ []), c.requires))

pub put-requires-2 : goal.put-requires-2
put-requires-2 t c =
    let n = c.args.n in
    let h : 10 ≤ n = omega arith in
    omega (arith, ap length (decimal-more n h), length-append (decimal (n / 10)) ((0x30 + n % 10) ∷ []), c.requires, c.put_decimal-a.ensures.place)

pub returns : goal.returns
returns t c =
    let n = c.args.n in
    let h : 10 ≤ n = omega arith in
    let w = c.put_decimal-a.ensures in
    wrote_as (decimal-more n h) (chain (omega (arith, ap length (decimal-more n h), length-append (decimal (n / 10)) ((0x30 + n % 10) ∷ []), c.requires, w.place)) w c.put-2.ensures)

use Prim.Native.Nat.{◌+◌}
use lib.ListN.{length}
use Rattle.slices.proofs.Splice.{chain}
use Rattle.layout.proofs.Images.{front_length}
use Rattle.joins.proofs.Pieces.{pieces}
use native.Mathlib.Omega.{arith}
use Rattle.joins.proofs.put_image.Goals as goal

pub returns : goal.returns
returns c = let a = c.args in
    let f = front_length a.area a.format a.kind.now (length a.head.now + length a.rest.now) in
    rw (← pieces a.area a.format a.kind.now a.head.now a.rest.now)
    (chain (omega (arith, c.put_front-a, c.copy_to-b, c.copy_long-c, c.requires.2)) (chain (omega (arith, c.put_front-a, c.copy_to-b, c.requires.2)) (chain (omega (arith, c.put_front-a, c.requires.2)) c.put_front-a.ensures c.copy_to-b.ensures) c.copy_long-c.ensures) c.put.ensures)

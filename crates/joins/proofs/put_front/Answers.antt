use Rattle.slices.proofs.Splice.{chain}
use Rattle.layout.specs.Image.{front}
use Rattle.layout.proofs.Images.{container-length, front_pieces}
use native.Mathlib.Omega.{arith}
use Rattle.joins.proofs.put_front.Goals as goal

pub returns : goal.returns
unfolding front
returns c = let p = front_pieces c.args.area c.args.format c.args.kind.now c.args.payload in
    let l = container-length c.args.area in
    let r = c.record_len.ensures in
    let b = rw r at c.put_message_head-b.ensures in
    chain (omega arith) (chain (omega arith) (chain (omega arith) c.put_container-a.ensures b) c.put_record_head-c.ensures) c.copy_to.ensures

use Rattle.slices.proofs.Splice.{chain}
use Rattle.slices.specs.Bytes.{be}
use Rattle.parts.proofs.Heads.{record_short, record_long}
use mathlib.Core.Path.{ap}
use lib.ListN.{length}
use native.Mathlib.Omega.{arith}
use Rattle.parts.proofs.put_record_head.Goals as goal

pub put-a-requires : goal.put-a-requires
put-a-requires c = let h = ap length (record_short c.args.format c.args.kind_len c.args.payload c.if-payload-le255.true) in omega arith

pub put-b-requires : goal.put-b-requires
put-b-requires c = let h = ap length (record_short c.args.format c.args.kind_len c.args.payload c.if-payload-le255.true) in omega arith

pub put-requires : goal.put-requires
put-requires c = let h = ap length (record_short c.args.format c.args.kind_len c.args.payload c.if-payload-le255.true) in omega arith

pub returns-then-payload-le255 : goal.returns-then-payload-le255
returns-then-payload-le255 c = let e = record_short c.args.format c.args.kind_len c.args.payload c.if-payload-le255.true in
    let h = ap length e in
    rw e (chain (omega arith) (chain (omega arith) c.put-a.ensures c.put-b.ensures) c.put.ensures)

pub put-a-requires-2 : goal.put-a-requires-2
unfolding be
put-a-requires-2 c = let h = ap length (record_long c.args.format c.args.kind_len c.args.payload c.if-payload-le255.false) in omega arith

pub put-b-requires-2 : goal.put-b-requires-2
unfolding be
put-b-requires-2 c = let h = ap length (record_long c.args.format c.args.kind_len c.args.payload c.if-payload-le255.false) in omega arith

pub put_be-requires : goal.put_be-requires
unfolding be
put_be-requires c = let h = ap length (record_long c.args.format c.args.kind_len c.args.payload c.if-payload-le255.false) in omega arith

pub returns : goal.returns
unfolding be
returns c = let e = record_long c.args.format c.args.kind_len c.args.payload c.if-payload-le255.false in
    let h = ap length e in
    rw e (chain (omega arith) (chain (omega arith) c.put-a-2.ensures c.put-b-2.ensures) c.put_be.ensures)

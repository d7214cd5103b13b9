use Rattle.slices.proofs.Splice.{chain}
use Rattle.slices.specs.Bytes.{be}
use Rattle.parts.proofs.Heads.{message-short, message-long}
use mathlib.Core.Path.{ap}
use lib.ListN.{length}
use native.Mathlib.Omega.{arith}
use Rattle.parts.proofs.put_message_head.Goals as goal

pub put-a-requires : goal.put-a-requires
put-a-requires c = let h = ap length (message-short c.args.n c.if-n-lt255.true) in omega arith

pub put-requires : goal.put-requires
put-requires c = let h = ap length (message-short c.args.n c.if-n-lt255.true) in omega arith

pub returns-then-n-lt255 : goal.returns-then-n-lt255
returns-then-n-lt255 c = let h = ap length (message-short c.args.n c.if-n-lt255.true) in
    rw (message-short c.args.n c.if-n-lt255.true) (chain (omega arith) c.put-a.ensures c.put.ensures)

pub copy_to-a-requires : goal.copy_to-a-requires
unfolding be
copy_to-a-requires c = let h = ap length (message-long c.args.n c.if-n-lt255.false) in omega arith

pub put_be-requires : goal.put_be-requires
unfolding be
put_be-requires c = let h = ap length (message-long c.args.n c.if-n-lt255.false) in omega arith

pub returns : goal.returns
unfolding be
returns c = let h = ap length (message-long c.args.n c.if-n-lt255.false) in
    rw (message-long c.args.n c.if-n-lt255.false) (chain (omega arith) c.copy_to-a.ensures c.put_be.ensures)

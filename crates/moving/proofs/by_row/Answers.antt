use Rattle.wiping.proofs.Wipings.{row_moves, poll_moves}
use Rattle.moving.proofs.by_row.Goals as goal

pub returns-then-c : goal.returns-then-c
returns-then-c c = row_moves c.args.f c.chunk_from.result c.rows_from.result c.after_row.result c.if-p-lt8.true c.if-c.true c.chunk_from.ensures c.rows_from.ensures c.after_row.ensures

pub returns-then-c-2 : goal.returns-then-c-2
returns-then-c-2 c = poll_moves c.args.f c.chunk_from-then-c-2.result c.rows_from-then-c-2.result c.after_poll.result c.if-p-lt8.true c.if-c-2.true c.chunk_from-then-c-2.ensures c.rows_from-then-c-2.ensures c.after_poll.ensures

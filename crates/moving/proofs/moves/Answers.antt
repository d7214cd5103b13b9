use Rattle.moving.proofs.moves.Goals as goal

pub returns-then-c : goal.returns-then-c
returns-then-c c = c.by_row.ensures c.args.reply.now

use mathlib.Core.Path.{refl}
use lib.ListN.{replicate}
use Rattle.telling.proofs.Frames.{put_front}
use Rattle.settling.proofs.clear.Goals as goal

pub returns-clause-transfer_after : goal.returns-clause-transfer_after
returns-clause-transfer_after c = put_front c.args.transfer.now (replicate 19 0) _ _ 19 refl c.copy_to.ensures

pub returns-clause-reply_after : goal.returns-clause-reply_after
returns-clause-reply_after c = put_front c.args.reply.now (replicate 64 0) _ _ 64 refl c.copy_to-2.ensures

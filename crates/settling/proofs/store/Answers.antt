use mathlib.Core.Path.{◌∙◌, ap, sym}
use lib.ListN.{length}
use Rattle.telling.proofs.Frames.{put_all}
use Rattle.settling.proofs.store.Goals as goal

pub returns : goal.returns
returns c = put_all c.args.state.now c.encode.result _ _ (c.requires ∙ sym (ap length c.encode.ensures)) c.copy_to.ensures ∙ c.encode.ensures

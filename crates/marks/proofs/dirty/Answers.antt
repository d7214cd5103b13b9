use Rattle.entry.proofs.Opens.{decoded_inside}
use Rattle.marks.proofs.dirty.Goals as goal

pub dirty_of-requires : goal.dirty_of-requires
dirty_of-requires c = decoded_inside c.args.state.now c.decode.result c.decode.ensures

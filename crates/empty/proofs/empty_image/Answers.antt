use Rattle.std.proofs.Common.{arith}
use Rattle.layout.proofs.Images.{container-length}
use Rattle.empty.proofs.Emptied.{emptied}
use Rattle.empty.proofs.empty_image.Goals as goal

pub copy_to-requires : goal.copy_to-requires
copy_to-requires c = omega (arith, container-length c.args.area, c.put_container-at)

pub returns-clause-value : goal.returns-clause-value
returns-clause-value c = (emptied c.args.out.now c.args.area c.if-out-lt11.false c.if-area-gt524287.false c.put_container-at.ensures c.copy_to.ensures).0

pub returns-clause-out_after : goal.returns-clause-out_after
returns-clause-out_after c = (emptied c.args.out.now c.args.area c.if-out-lt11.false c.if-area-gt524287.false c.put_container-at.ensures c.copy_to.ensures).1

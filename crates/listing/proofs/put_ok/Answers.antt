use Rattle.slices.proofs.Splice.{chain}
use Rattle.listing.specs.Listing.{ok_line}
use Rattle.listing.proofs.Lines.{ok-length}
use native.Mathlib.Omega.{arith}
use Rattle.listing.proofs.put_ok.Goals as goal

pub copy_to-a-requires : goal.copy_to-a-requires
copy_to-a-requires c = omega (arith, ok-length c.args.count)

pub put_number-requires : goal.put_number-requires
put_number-requires c = omega (arith, ok-length c.args.count, c.copy_to-a.ensures.place)

pub returns : goal.returns
unfolding ok_line
returns c = chain (omega (arith, ok-length c.args.count, c.copy_to-a.ensures.place)) c.copy_to-a.ensures c.put_number.ensures

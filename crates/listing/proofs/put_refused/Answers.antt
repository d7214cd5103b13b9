use Rattle.slices.proofs.Splice.{chain}
use Rattle.listing.specs.Listing.{refused_line}
use Rattle.listing.proofs.Lines.{refused-length}
use native.Mathlib.Omega.{arith}
use Rattle.listing.proofs.put_refused.Goals as goal

pub copy_to-a-requires : goal.copy_to-a-requires
copy_to-a-requires c = omega (arith, refused-length c.args.number)

pub put_number-requires : goal.put_number-requires
put_number-requires c = omega (arith, refused-length c.args.number, c.copy_to-a.ensures.place)

pub returns : goal.returns
unfolding refused_line
returns c = chain (omega (arith, refused-length c.args.number, c.copy_to-a.ensures.place)) c.copy_to-a.ensures c.put_number.ensures

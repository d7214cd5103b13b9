use Rattle.slices.proofs.Splice.{chain}
use native.Mathlib.Omega.{arith}
use Rattle.digits.proofs.put_number.Goals as goal

pub returns : goal.returns
returns c = chain (omega arith) c.put_decimal-a.ensures c.put.ensures

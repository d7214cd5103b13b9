use Rattle.layout.proofs.Sizes.{record_is}
use native.Mathlib.Omega.{arith}
use Rattle.parts.proofs.record_len.Goals as goal

pub overflow_add-result : goal.overflow_add-result
overflow_add-result c = let h = record_is c.args.kind_len c.args.payload in omega arith

pub overflow_add-result-2 : goal.overflow_add-result-2
overflow_add-result-2 c = let h = record_is c.args.kind_len c.args.payload in omega arith

pub returns : goal.returns
returns c = let h = record_is c.args.kind_len c.args.payload in omega arith

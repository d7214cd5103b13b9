use mathlib.Core.Path.{refl}
use native.Mathlib.Omega.{arith}
use Rattle.uri.specs.Prefixes.{prefixes, ascii}
use Rattle.uri.proofs.Table.{known, unknown, most}
use Rattle.uri.proofs.uri_row.Goals as goal

pub returns-then-at-lt36-clause-value : goal.returns-then-at-lt36-clause-value
unfolding prefixes ascii
returns-then-at-lt36-clause-value c = known c.from-at.result c.args.code _ (omega (arith, c.if-at-lt36.true)) c.from-at.ensures refl

pub returns-then-at-lt36-clause-upper_bound : goal.returns-then-at-lt36-clause-upper_bound
unfolding prefixes ascii
returns-then-at-lt36-clause-upper_bound c = most _ c.args.code (returns-then-at-lt36-clause-value c) refl

pub returns-else-at-lt36-clause-value : goal.returns-else-at-lt36-clause-value
unfolding prefixes ascii
returns-else-at-lt36-clause-value c = unknown c.args.code (omega (arith, c.if-at-lt36.false, c.from-at.ensures)) refl

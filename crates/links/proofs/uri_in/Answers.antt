use mathlib.Core.Path.{◌∙◌, sym}
use Rattle.links.proofs.Cases.{uri_read}
use native.Mathlib.Omega.{arith}
use Rattle.links.proofs.uri_in.Goals as goal

pub returns-then-is_utf8 : goal.returns-then-is_utf8
returns-then-is_utf8 c = uri_read _ _ (omega arith) (sym c.in_ok-prefix.ensures.value) (sym c.is_utf8.ensures ∙ c.if-is_utf8.true)

pub returns : goal.returns
returns c = uri_read _ _ (omega arith) (sym c.in_ok-prefix.ensures.value) (sym c.is_utf8.ensures ∙ c.if-is_utf8.false)

use mathlib.Core.Path.{◌∙◌, sym}
use Rattle.contents.proofs.Cases.{text_read}
use native.Mathlib.Omega.{arith}
use Rattle.contents.proofs.text_in.Goals as goal

pub returns-then-is_utf8 : goal.returns-then-is_utf8
returns-then-is_utf8 c = text_read _ _ (omega arith) (omega arith) (omega arith) (sym c.is_utf8.ensures ∙ c.if-is_utf8.true)

pub returns : goal.returns
returns c = text_read _ _ (omega arith) (omega arith) (omega arith) (sym c.is_utf8.ensures ∙ c.if-is_utf8.false)

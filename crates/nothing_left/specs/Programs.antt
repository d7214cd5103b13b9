-- What a session runs. From no public document: the form that protocol's trees, which follow tag.rs, share with the wrong ones of Slips.
--
--   Program      == for each call and each mark what is done on the bus, and the answer
use Rattle.std.specs.Prelude.{Result}
use Rattle.protocol.specs.Mark.{Mark}
use Rattle.protocol.specs.Proc.{Proc}
use Rattle.protocol.specs.Call.{Call}
use Rattle.protocol.specs.declared.answer.TagError.{TagError}
use Rattle.protocol.specs.declared.answer.Answer.{Answer}

abbrev pub Program : Type 0
Program = Call → Mark → Proc (Result Answer TagError)

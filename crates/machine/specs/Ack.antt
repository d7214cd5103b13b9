-- Whether a transfer was acknowledged. Source: tag.rs, `impl From<Nack> for TagError`.
--
--   acked ack   == Ok where it was; else NoAnswer
use Rattle.std.specs.Prelude.{Bool, true, false, Result, Ok, Err}
use Rattle.protocol.specs.declared.answer.TagError.{TagError}
use Rattle.protocol.specs.declared.answer.TagError.TheVariants.{NoAnswer}

abbrev pub acked : Bool → Result Unit TagError
acked true = Ok tt
acked false = Err NoAnswer

-- The simulated part for C: its answer as a number. Source: include/skipnadur_tile.h.
--
--   acked a                == an answer's number: 1 acknowledged, 0 refused
use Rattle.std.specs.Prelude.{ℕ}
use Rattle.simulated.specs.declared.Answer.{Answer}
use Rattle.tens.specs.Tens.{number_of}

abbrev pub acked : Answer → ℕ
acked a = number_of a.ack

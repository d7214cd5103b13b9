-- The thirteen calls of a session, each with what it is given. Source: tag.rs, the public functions of `Tag`.
--
--   Call             == one of the thirteen
--   read_user at n    == `read_user` of n bytes at `at`
--   write at bs      == `write` of the bytes bs at `at`
--   read_whole n      == `read_whole` into n bytes
--   identify, prepare, wait_ready, rf_off, rf_on, rf_wrote, scrub, begin, go_live, finish == the function of that name, which is given nothing
use Rattle.std.specs.Prelude.{ℕ, List}

pub data Call : Type 0 where
  identify prepare wait_ready : Call
  read_user : ℕ → ℕ → Call
  write : ℕ → List ℕ → Call
  rf_off rf_on rf_wrote : Call
  read_whole : ℕ → Call
  scrub begin go_live finish : Call

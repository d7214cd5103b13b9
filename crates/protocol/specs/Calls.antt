-- The thirteen calls of a session. Source: tag.rs, the public functions of `Tag`, line by line.
--
--   read_whole m n     == `read_whole` into n bytes: RF off, the status read so that `finish` does not count a write already seen,
--                        one read; the mark becomes what was found
--   begin m           == `begin`: prepare, RF off, and a wipe if the mark is not none. RF is still off afterwards
--   go_live            == `go_live`: the status is read once to clear it, then RF on
--   first_of off r     == `off.and(r)`: the first refusal is the one returned
--   closing m off     == the wipe of `finish`, after RF said `off`
--   finish m          == `finish`: RF off, a phone's write widens the mark to the whole part, the wipe always
--   plain r           == the result r as an answer
--   plainly p         == p, its result as an answer
--   call_of c m        == what the call c does, with the mark at m
use Rattle.std.specs.Prelude.{ℕ, eqb, Result, Ok, Err}
use Rattle.protocol.specs.Tag.{user_memory, user, ready_polls}
use Rattle.protocol.specs.Mark.{Mark, whole, found, is_none}
use Rattle.protocol.specs.Proc.{Proc, done, mark, ◌>>=◌, Res, ok, err, try, fine, refuse, when◌then◌else◌}
use Rattle.protocol.specs.Bus.{read}
use Rattle.protocol.specs.Wait.{wait_ready}
use Rattle.protocol.specs.Rf.{rf_off, rf_on, rf_wrote}
use Rattle.protocol.specs.Call.{Call}
use Rattle.protocol.specs.Call as call
use Rattle.protocol.specs.Setup as setup
use Rattle.protocol.specs.Write as w
use Rattle.protocol.specs.Scrub as s
use Rattle.protocol.specs.declared.answer.TagError.{TagError}
use Rattle.protocol.specs.declared.answer.TagError.TheVariants.{NotTaken}
use Rattle.protocol.specs.declared.answer.Answer.{Answer}
use Rattle.protocol.specs.declared.answer.Answer.TheVariants.{Done, Wrote}

unfoldable pub read_whole : Mark → ℕ → Proc (Res Unit)
read_whole m n =
    when eqb n user_memory then
    try rf_off (λ _.
    rf_wrote >>= λ _.
    try (read user 0 user_memory) (λ out.
    mark (found out) fine))
    else refuse NotTaken

unfoldable pub begin : Mark → Proc (Res Unit)
begin m =
    try setup.prepare (λ _.
    try rf_off (λ _.
    when is_none m then fine else s.scrub m))

unfoldable pub go_live : Proc (Res Unit)
go_live = rf_wrote >>= λ _. rf_on

abbrev pub first_of : Res Unit → Res Unit → Res Unit
first_of (ok a) r = r
first_of (err e) r = err e

unfoldable pub closing : Mark → Res Unit → Proc (Res Unit)
closing m off = s.scrub m >>= λ wiped. done (first_of off wiped)

unfoldable pub finish : Mark → Proc (Res Unit)
finish m =
    rf_off >>= λ off.
    rf_wrote >>= λ wrote.
    when wrote then mark whole (closing whole off) else closing m off

abbrev pub plain : Res Unit → Result Answer TagError
plain (ok a) = Ok Done
plain (err e) = Err e

abbrev pub plainly : Proc (Res Unit) → Proc (Result Answer TagError)
plainly p = p >>= λ r. done (plain r)

abbrev pub call_of : Call → Mark → Proc (Result Answer TagError)
call_of call.identify m = plainly setup.identify
call_of call.prepare m = plainly setup.prepare
call_of call.wait_ready m = plainly (wait_ready ready_polls)
call_of (call.read_user at n) m = plainly (w.read_user at n)
call_of (call.write at bs) m = plainly (w.write_user m at bs)
call_of call.rf_off m = plainly rf_off
call_of call.rf_on m = plainly rf_on
call_of call.rf_wrote m = rf_wrote >>= λ wrote. done (Ok (Wrote wrote))
call_of (call.read_whole n) m = plainly (read_whole m n)
call_of call.scrub m = plainly (s.scrub m)
call_of call.begin m = plainly (begin m)
call_of call.go_live m = plainly go_live
call_of call.finish m = plainly (finish m)

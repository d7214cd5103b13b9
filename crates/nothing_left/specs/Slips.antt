-- Programs that are wrong in one thing. Each is `call_of` but for what its line names. Crate `thrown_out` has for each a claim of demand 3
-- that it breaks; as `tree_of` each is refused (must-fail/). Source: document 01, 'Slips we have seen' and 'What a reader may rely on'.
--
--   calls_by p w r s b g f  == the thirteen calls, with the given `prepare`, `write`, `read_whole`, `scrub`, `begin`, `go_live` and `finish`
--   closing_by wipe m off   == the end of `finish`, by the given wipe, after RF said `off`: the first refusal is the one returned
--   wiping prep wipe       == the calls with the setup `prep` in `prepare` and `begin`, and `wipe` in `scrub`, `begin` and `finish`
--   refuses_everything      == every call: refused (24), with no transfer
--   wipes_nothing           == the wipe says that nothing is left, with no transfer
--   wipes_first_chunk        == the wipe ends after its first chunk, and says that nothing is left
--   prepare_skips           == `prepare` leaves GPO1 alone
--   wipes_to_mark            == `scrub`: the wipe ends at the mark itself, inside a row
--   begin_early             == `begin`: the wipe first, then RF off
--   goes_live_late           == `go_live`: RF on first, then the status is read
--   finish_trusts           == `finish`: RF off and the wipe to the mark; the status is not read
--   finish_asks_early        == `finish`: the status is read first, then RF off
--   write_forgets           == `write`: the mark does not move
--   reads_early             == `read_whole`: the read first, then RF off and the status
-- A `write` that raises the mark only after its rows is refused in crate `calling` (mark_after_rows): the claims look between two calls.
use Rattle.std.specs.Prelude.{ℕ, min, List, true, eqb, length, Err}
use Rattle.scan.specs.Rows.{row_count}
use Rattle.protocol.specs.Tag.{user_memory, user, system, i2c_cfg, chunk}
use Rattle.protocol.specs.Mark.{Mark, none, whole, found, is_none, wipe_end}
use Rattle.protocol.specs.Proc.{Proc, done, mark, ◌>>=◌, Res, try, fine, refuse, when◌then◌else◌}
use Rattle.protocol.specs.Bus.{read, read_byte}
use Rattle.protocol.specs.Rf.{rf_off, rf_on, rf_wrote}
use Rattle.protocol.specs.Setup.{identify, set_up, prepare}
use Rattle.protocol.specs.Write.{program, read_back, chunks, past, write_user}
use Rattle.protocol.specs.Scrub.{scrub_chunk, scrub_to, scrub}
use Rattle.protocol.specs.Call as call
use Rattle.protocol.specs.Calls.{read_whole, begin, go_live, first_of, closing, finish, plainly, call_of}
use Rattle.protocol.specs.declared.answer.TagError.TheVariants.{NotTaken, Refused}
use Rattle.nothing_left.specs.Programs.{Program}

abbrev pub calls_by : Proc (Res Unit) → (Mark → ℕ → List ℕ → Proc (Res Unit)) → (Mark → ℕ → Proc (Res Unit)) → (Mark → Proc (Res Unit))
    → (Mark → Proc (Res Unit)) → Proc (Res Unit) → (Mark → Proc (Res Unit)) → Program
calls_by p w r s b g f call.identify m = call_of call.identify m
calls_by p w r s b g f call.prepare m = plainly p
calls_by p w r s b g f call.wait_ready m = call_of call.wait_ready m
calls_by p w r s b g f (call.read_user at n) m = call_of (call.read_user at n) m
calls_by p w r s b g f (call.write at bs) m = plainly (w m at bs)
calls_by p w r s b g f call.rf_off m = call_of call.rf_off m
calls_by p w r s b g f call.rf_on m = call_of call.rf_on m
calls_by p w r s b g f call.rf_wrote m = call_of call.rf_wrote m
calls_by p w r s b g f (call.read_whole n) m = plainly (r m n)
calls_by p w r s b g f call.scrub m = plainly (s m)
calls_by p w r s b g f call.begin m = plainly (b m)
calls_by p w r s b g f call.go_live m = plainly g
calls_by p w r s b g f call.finish m = plainly (f m)

-- the end of `finish`, by another wipe
abbrev pub closing_by : (Mark → Proc (Res Unit)) → Mark → Res Unit → Proc (Res Unit)
closing_by wipe m off = wipe m >>= λ wiped. done (first_of off wiped)

abbrev pub wiping : Proc (Res Unit) → (Mark → Proc (Res Unit)) → Program
wiping prep wipe =
    calls_by prep write_user read_whole wipe
    (λ m. try prep (λ _. try rf_off (λ _. when is_none m then fine else wipe m)))
    go_live
    (λ m. rf_off >>= λ off. rf_wrote >>= λ wrote. when wrote then mark whole (closing_by wipe whole off) else closing_by wipe m off)

abbrev pub refuses_everything : Program
refuses_everything c m = done (Err Refused)

abbrev pub wipes_nothing : Program
wipes_nothing = wiping prepare (λ m. mark none fine)

abbrev pub wipes_first_chunk : Program
wipes_first_chunk = wiping prepare (λ m. try (scrub_chunk 0 (min chunk (wipe_end m))) (λ _. mark none fine))

abbrev pub prepare_skips : Program
prepare_skips = wiping (try identify (λ _. try (read_byte system i2c_cfg) (λ cfg. set_up cfg))) scrub

abbrev pub wipes_to_mark : Program
wipes_to_mark = calls_by prepare write_user read_whole (λ m. try (scrub_to (chunks m) 0 m) (λ _. mark none fine)) begin go_live finish

abbrev pub begin_early : Program
begin_early = calls_by prepare write_user read_whole scrub (λ m. try prepare (λ _. try (when is_none m then fine else scrub m) (λ _. rf_off))) go_live finish

abbrev pub goes_live_late : Program
goes_live_late = calls_by prepare write_user read_whole scrub begin (rf_on >>= λ on. rf_wrote >>= λ _. done on) finish

abbrev pub finish_trusts : Program
finish_trusts = calls_by prepare write_user read_whole scrub begin go_live (λ m. rf_off >>= λ off. closing m off)

abbrev pub finish_asks_early : Program
finish_asks_early =
    calls_by prepare write_user read_whole scrub begin go_live
    (λ m. rf_wrote >>= λ wrote. rf_off >>= λ off. when wrote then mark whole (closing whole off) else closing m off)

abbrev pub write_forgets : Program
write_forgets =
    calls_by prepare
    (λ m at bs. when past at (length bs) then refuse NotTaken else
    try (program (row_count at (length bs)) at bs) (λ _. read_back (chunks (length bs)) at bs true))
    read_whole scrub begin go_live finish

abbrev pub reads_early : Program
reads_early =
    calls_by prepare write_user
    (λ m n. when eqb n user_memory then
    try (read user 0 user_memory) (λ out. try rf_off (λ _. rf_wrote >>= λ _. mark (found out) fine))
    else refuse NotTaken)
    scrub begin go_live finish

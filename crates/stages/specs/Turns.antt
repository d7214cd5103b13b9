-- The steps of a session: where the reply to each transfer leads. Source: tag.rs, the public functions of `Tag`. The stages are from no
-- public document: how a call is kept between two transfers. `session_runs` (runs/proofs/Theorems): they do what protocol's trees say.
--
--   stage_ask n st               == the transfer that a stage waits on; n bytes were lent to the call
--   stage_step lent m st ack got == where the reply leads, with the mark at m before it
--   wrote_byte ack v, wrote ack got == whether a phone wrote, by the status that was read: yes too where the read failed
--   identify_turn, prepare_turn, wait_turn, write_turn == what a machine's step means for the call that it serves: `identify`, `prepare`,
--                                  `wait_ready`, `write`
--   switch_turn m x              == the same for `rf_off`, `rf_on` and the end of `go_live`
--   read_turn m ack              == after the read of `read_user`
--   whole_turn, whole_read_turn    == `read_whole`: in its switch; after the whole memory was read
--   wipe_turn m x                == in the wipe of `scrub` and of `begin`
--   begin_turn, begin_off_turn     == `begin`: in its setup; in its switch
--   finish_off_turn, status_turn, finish_turn == `finish`: in its switch; after the status, where a phone's write widens the mark to the whole
--                                  part; in its wipe
--   first_answer stuck a         == what `finish` answers: RfStuck where RF was stuck, else a
--   start_of c m                 == where the call c begins, with the mark at m: its first transfer, or over at once
--   lent_to c                    == the bytes that are lent to it
--   wipe_start m                 == the wipe from its first chunk, or over at once
--   finish_start m stuck         == the same for the wipe of `finish`
use Rattle.std.specs.Prelude.{ℕ, ◌+◌, eqb, List, [], Bool, true, false, length, take, Result, Ok, Err, Some, None}
use Rattle.slices.specs.Pick.{pick}
use Rattle.protocol.specs.Tag.{user, user_memory, system, mem_size, id_length, it_sts_dyn, wrote_bit}
use Rattle.protocol.specs.Mark.{Mark, none, whole, widened, found, is_none, wipe_end}
use Rattle.protocol.specs.Write.{past}
use Rattle.protocol.specs.Answer.{Progress}
use Rattle.protocol.specs.Call.{Call}
use Rattle.protocol.specs.Call as call
use Rattle.setup.specs.declared.setup.Setup.TheVariants as I
use Rattle.protocol.specs.declared.answer.TagError.{TagError}
use Rattle.protocol.specs.declared.answer.Answer.{Answer}
use Rattle.protocol.specs.declared.answer.Answer.TheVariants.{Done, Wrote}
use Rattle.protocol.specs.declared.answer.TagError.TheVariants.{NoAnswer, RfStuck, NotTaken}
use Rattle.machine.specs.Ask.{first}
use Rattle.machine.specs.Wait.{wait_new, wait_ask, wait_step}
use Rattle.machine.specs.Switch.{Switched, switch_new, switch_ask, switch_step}
use Rattle.setup.specs.Setup.{setup_ask, identified, setup_step}
use Rattle.wipe.specs.Scrub.{scrub_new, scrub_ask, scrub_step}
use Rattle.writing.specs.Write.{write_new, write_ask, write_step}
use Rattle.machine.specs.declared.ask.Ask.{Ask}
use Rattle.machine.specs.declared.ask.Ask.TheVariants as A
use Rattle.machine.specs.declared.wait.Wait.{Wait}
use Rattle.setup.specs.declared.setup.Setup.{Setup}
use Rattle.wipe.specs.declared.scrub.Scrub.{Scrub}
use Rattle.writing.specs.declared.write.Write.{Write}
use Rattle.stages.specs.declared.stage.Stage.{Stage}
use Rattle.stages.specs.declared.stage.Stage.TheVariants as G
use Rattle.stages.specs.declared.stage.Turn.{Turn}
use Rattle.stages.specs.declared.stage.Turn.TheVariants.{Open, Over}

abbrev pub stage_ask : ℕ → Stage → Ask
stage_ask n G.Identify = A.Read system mem_size id_length
stage_ask n (G.Prepare s) = setup_ask s
stage_ask n (G.WaitReady w) = wait_ask w
stage_ask n (G.ReadUser at k) = A.Read user at k
stage_ask n (G.Write w) = write_ask n w
stage_ask n (G.Switching s) = switch_ask s
stage_ask n G.RfWrote = A.Read user it_sts_dyn 1
stage_ask n (G.WholeOff s) = switch_ask s
stage_ask n G.WholeStatus = A.Read user it_sts_dyn 1
stage_ask n G.WholeRead = A.Read user 0 user_memory
stage_ask n (G.Wipe s) = scrub_ask s
stage_ask n (G.BeginSetup s) = setup_ask s
stage_ask n (G.BeginOff s) = switch_ask s
stage_ask n G.LiveStatus = A.Read user it_sts_dyn 1
stage_ask n (G.FinishOff s) = switch_ask s
stage_ask n (G.FinishStatus stuck) = A.Read user it_sts_dyn 1
stage_ask n (G.FinishWipe stuck s) = scrub_ask s

-- whether a phone wrote: yes too where the read failed
abbrev pub wrote_byte : Bool → ℕ → Bool
wrote_byte ack v = pick ack (wrote_bit v) true

abbrev pub wrote : Bool → List ℕ → Bool
wrote ack got = wrote_byte ack (first got)

abbrev pub identify_turn : Mark → Progress Setup → Turn
identify_turn m (Ok (Some s)) = Over m (Ok Done)
identify_turn m (Ok None) = Over m (Ok Done)
identify_turn m (Err e) = Over m (Err e)

abbrev pub prepare_turn : Mark → Progress Setup → Turn
prepare_turn m (Ok (Some s)) = Open m (G.Prepare s)
prepare_turn m (Ok None) = Over m (Ok Done)
prepare_turn m (Err e) = Over m (Err e)

abbrev pub wait_turn : Mark → Progress Wait → Turn
wait_turn m (Ok (Some w)) = Open m (G.WaitReady w)
wait_turn m (Ok None) = Over m (Ok Done)
wait_turn m (Err e) = Over m (Err e)

abbrev pub write_turn : Mark → Progress Write → Turn
write_turn m (Ok (Some w)) = Open m (G.Write w)
write_turn m (Ok None) = Over m (Ok Done)
write_turn m (Err e) = Over m (Err e)

abbrev pub switch_turn : Mark → Switched → Turn
switch_turn m (Ok (Some s)) = Open m (G.Switching s)
switch_turn m (Ok None) = Over m (Ok Done)
switch_turn m (Err _) = Over m (Err RfStuck)

abbrev pub whole_turn : Mark → Switched → Turn
whole_turn m (Ok (Some s)) = Open m (G.WholeOff s)
whole_turn m (Ok None) = Open m G.WholeStatus
whole_turn m (Err _) = Over m (Err RfStuck)

abbrev pub wipe_turn : Mark → Progress Scrub → Turn
wipe_turn m (Ok (Some s)) = Open m (G.Wipe s)
wipe_turn m (Ok None) = Over none (Ok Done)
wipe_turn m (Err e) = Over m (Err e)

abbrev pub wipe_start : Mark → Turn
wipe_start m = wipe_turn m (scrub_new (wipe_end m))

abbrev pub begin_turn : Mark → Progress Setup → Turn
begin_turn m (Ok (Some s)) = Open m (G.BeginSetup s)
begin_turn m (Ok None) = Open m (G.BeginOff (switch_new false))
begin_turn m (Err e) = Over m (Err e)

abbrev pub begin_off_turn : Mark → Switched → Turn
begin_off_turn m (Ok (Some s)) = Open m (G.BeginOff s)
begin_off_turn m (Ok None) = pick (is_none m) (Over m (Ok Done)) (wipe_start m)
begin_off_turn m (Err _) = Over m (Err RfStuck)

abbrev pub finish_off_turn : Mark → Switched → Turn
finish_off_turn m (Ok (Some s)) = Open m (G.FinishOff s)
finish_off_turn m (Ok None) = Open m (G.FinishStatus false)
finish_off_turn m (Err _) = Open m (G.FinishStatus true)

-- the first refusal is the one returned
abbrev pub first_answer : Bool → Result Answer TagError → Result Answer TagError
first_answer stuck a = pick stuck (Err RfStuck) a

abbrev pub finish_turn : Mark → Bool → Progress Scrub → Turn
finish_turn m stuck (Ok (Some s)) = Open m (G.FinishWipe stuck s)
finish_turn m stuck (Ok None) = Over none (first_answer stuck (Ok Done))
finish_turn m stuck (Err e) = Over m (first_answer stuck (Err e))

abbrev pub finish_start : Mark → Bool → Turn
finish_start m stuck = finish_turn m stuck (scrub_new (wipe_end m))

-- after the status of `finish`: a phone's write widens the mark to the whole part
abbrev pub status_turn : Mark → Bool → Bool → ℕ → Turn
status_turn m stuck ack v = pick (wrote_byte ack v) (finish_start whole stuck) (finish_start m stuck)

abbrev pub read_turn : Mark → Bool → Turn
read_turn m ack = pick ack (Over m (Ok Done)) (Over m (Err NoAnswer))

-- after the whole memory was read
abbrev pub whole_read_turn : Mark → Bool → List ℕ → Turn
whole_read_turn m ack out = pick ack (Over (found (take user_memory out)) (Ok Done)) (Over m (Err NoAnswer))

abbrev pub stage_step : List ℕ → Mark → Stage → Bool → List ℕ → Turn
stage_step lent m G.Identify ack got = identify_turn m (identified ack got)
stage_step lent m (G.Prepare s) ack got = prepare_turn m (setup_step s ack got)
stage_step lent m (G.WaitReady w) ack got = wait_turn m (wait_step w ack)
stage_step lent m (G.ReadUser at k) ack got = read_turn m ack
stage_step lent m (G.Write w) ack got = write_turn m (write_step w ack got lent)
stage_step lent m (G.Switching s) ack got = switch_turn m (switch_step s ack (first got))
stage_step lent m G.RfWrote ack got = Over m (Ok (Wrote (wrote ack got)))
stage_step lent m (G.WholeOff s) ack got = whole_turn m (switch_step s ack (first got))
stage_step lent m G.WholeStatus ack got = Open m G.WholeRead
stage_step lent m G.WholeRead ack got = whole_read_turn m ack got
stage_step lent m (G.Wipe s) ack got = wipe_turn m (scrub_step s ack got)
stage_step lent m (G.BeginSetup s) ack got = begin_turn m (setup_step s ack got)
stage_step lent m (G.BeginOff s) ack got = begin_off_turn m (switch_step s ack (first got))
stage_step lent m G.LiveStatus ack got = Open m (G.Switching (switch_new true))
stage_step lent m (G.FinishOff s) ack got = finish_off_turn m (switch_step s ack (first got))
stage_step lent m (G.FinishStatus stuck) ack got = status_turn m stuck ack (first got)
stage_step lent m (G.FinishWipe stuck s) ack got = finish_turn m stuck (scrub_step s ack got)

abbrev pub start_of : Call → Mark → Turn
start_of call.identify m = Open m G.Identify
start_of call.prepare m = Open m (G.Prepare I.Identify)
start_of call.wait_ready m = Open m (G.WaitReady wait_new)
start_of (call.read_user at n) m = pick (past at n) (Over m (Err NotTaken)) (Open m (G.ReadUser at n))
start_of (call.write at bs) m =
    pick (past at (length bs)) (Over m (Err NotTaken)) (write_turn (widened m at (at + length bs)) (write_new at (length bs)))
start_of call.rf_off m = Open m (G.Switching (switch_new false))
start_of call.rf_on m = Open m (G.Switching (switch_new true))
start_of call.rf_wrote m = Open m G.RfWrote
start_of (call.read_whole n) m = pick (eqb n user_memory) (Open m (G.WholeOff (switch_new false))) (Over m (Err NotTaken))
start_of call.scrub m = wipe_start m
start_of call.begin m = Open m (G.BeginSetup I.Identify)
start_of call.go_live m = Open m G.LiveStatus
start_of call.finish m = Open m (G.FinishOff (switch_new false))

-- the bytes that are lent to a call
abbrev pub lent_to : Call → List ℕ
lent_to (call.write at bs) = bs
lent_to call.identify = []
lent_to call.prepare = []
lent_to call.wait_ready = []
lent_to (call.read_user at n) = []
lent_to call.rf_off = []
lent_to call.rf_on = []
lent_to call.rf_wrote = []
lent_to (call.read_whole n) = []
lent_to call.scrub = []
lent_to call.begin = []
lent_to call.go_live = []
lent_to call.finish = []

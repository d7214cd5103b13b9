-- `out` has as many bytes in the whole of a call.
use mathlib.Core.Path.{◌≡◌, refl, sym}
use mathlib.Core.Bool.{Bool, true, false}
use mathlib.Core.List.{List}
use Prim.Native.Nat.{ℕ, ◌+◌}
use lib.Dec.{eqb}
use lib.ListN.{length}
use borrow.Author.Tests.{eqb-true}
use Rattle.std.specs.Prelude.{Ok, Err, Some, None}
use Rattle.slices.specs.Pick.{pick}
use Rattle.protocol.specs.Tag.{user_memory}
use Rattle.protocol.specs.Mark.{Mark, whole, widened, is_none, wipe_end}
use Rattle.protocol.specs.Answer.{Progress}
use Rattle.protocol.specs.Write.{past}
use Rattle.protocol.specs.Call.{Call}
use Rattle.protocol.specs.Call as call
use Rattle.protocol.specs.declared.answer.Answer.TheVariants.{Done}
use Rattle.protocol.specs.declared.answer.TagError.TheVariants.{NotTaken}
use Rattle.machine.specs.Ask.{first}
use Rattle.machine.specs.Wait.{wait_step}
use Rattle.machine.specs.Switch.{switch_new, switch_step}
use Rattle.machine.specs.declared.wait.Wait.{Wait}
use Rattle.machine.specs.Switch.{Switched}
use Rattle.setup.specs.Setup.{setup_step, identified}
use Rattle.setup.specs.declared.setup.Setup.{Setup}
use Rattle.wipe.specs.Scrub.{scrub_new, scrub_step}
use Rattle.wipe.specs.declared.scrub.Scrub.{Scrub}
use Rattle.writing.specs.Write.{write_new, write_step}
use Rattle.writing.specs.declared.write.Write.{Write}
use Rattle.stages.specs.Turns.{stage_step, start_of, wrote_byte, identify_turn, prepare_turn, wait_turn, write_turn, switch_turn, whole_turn, wipe_turn, begin_turn, begin_off_turn, finish_off_turn, finish_turn, wipe_start, finish_start}
use Rattle.stages.specs.declared.stage.Stage.{Stage}
use Rattle.stages.specs.declared.stage.Stage.TheVariants as G
use Rattle.stages.specs.declared.stage.Turn.{Turn}
use Rattle.stages.specs.declared.stage.Turn.TheVariants.{Open, Over}
use Rattle.session.specs.Steps.{out_of}
use Rattle.hosts.specs.Hosts.{out_for}

-- where the turn goes on, `out` has o bytes
abbrev pub Out : ℕ → Turn → Type 0
Out o (Open m st) = out_of st ≡ o
Out o (Over m a) = Unit

choice : (o : ℕ) (b : Bool) (x y : Turn) → Out o x → Out o y → Out o (pick b x y)
choice o true x y h g = h
choice o false x y h g = g

identify_out : (m : Mark) (x : Progress Setup) → Out 0 (identify_turn m x)
identify_out m (Ok (Some s)) = tt
identify_out m (Ok None) = tt
identify_out m (Err e) = tt

prepare_out : (m : Mark) (x : Progress Setup) → Out 0 (prepare_turn m x)
prepare_out m (Ok (Some s)) = refl
prepare_out m (Ok None) = tt
prepare_out m (Err e) = tt

wait_out : (m : Mark) (x : Progress Wait) → Out 0 (wait_turn m x)
wait_out m (Ok (Some w)) = refl
wait_out m (Ok None) = tt
wait_out m (Err e) = tt

write_out : (m : Mark) (x : Progress Write) → Out 0 (write_turn m x)
write_out m (Ok (Some w)) = refl
write_out m (Ok None) = tt
write_out m (Err e) = tt

switch_out : (m : Mark) (x : Switched) → Out 0 (switch_turn m x)
switch_out m (Ok (Some s)) = refl
switch_out m (Ok None) = tt
switch_out m (Err e) = tt

whole_out : (m : Mark) (x : Switched) → Out user_memory (whole_turn m x)
whole_out m (Ok (Some s)) = refl
whole_out m (Ok None) = refl
whole_out m (Err e) = tt

wipe_out : (m : Mark) (x : Progress Scrub) → Out 0 (wipe_turn m x)
wipe_out m (Ok (Some s)) = refl
wipe_out m (Ok None) = tt
wipe_out m (Err e) = tt

begin_out : (m : Mark) (x : Progress Setup) → Out 0 (begin_turn m x)
begin_out m (Ok (Some s)) = refl
begin_out m (Ok None) = refl
begin_out m (Err e) = tt

begin_off_out : (m : Mark) (x : Switched) → Out 0 (begin_off_turn m x)
begin_off_out m (Ok (Some s)) = refl
begin_off_out m (Ok None) = choice 0 (is_none m) (Over m (Ok Done)) (wipe_start m) tt (wipe_out m (scrub_new (wipe_end m)))
begin_off_out m (Err e) = tt

finish_off_out : (m : Mark) (x : Switched) → Out 0 (finish_off_turn m x)
finish_off_out m (Ok (Some s)) = refl
finish_off_out m (Ok None) = refl
finish_off_out m (Err e) = refl

finish_out : (m : Mark) (stuck : Bool) (x : Progress Scrub) → Out 0 (finish_turn m stuck x)
finish_out m stuck (Ok (Some s)) = refl
finish_out m stuck (Ok None) = tt
finish_out m stuck (Err e) = tt

-- a reply does not change it
pub step_out : (lent : List ℕ) (m : Mark) (st : Stage) (ack : Bool) (got : List ℕ) → Out (out_of st) (stage_step lent m st ack got)
step_out lent m G.Identify ack got = identify_out m (identified ack got)
step_out lent m (G.Prepare s) ack got = prepare_out m (setup_step s ack got)
step_out lent m (G.WaitReady w) ack got = wait_out m (wait_step w ack)
step_out lent m (G.ReadUser at k) true got = tt
step_out lent m (G.ReadUser at k) false got = tt
step_out lent m (G.Write w) ack got = write_out m (write_step w ack got lent)
step_out lent m (G.Switching s) ack got = switch_out m (switch_step s ack (first got))
step_out lent m G.RfWrote ack got = tt
step_out lent m (G.WholeOff s) ack got = whole_out m (switch_step s ack (first got))
step_out lent m G.WholeStatus ack got = refl
step_out lent m G.WholeRead true got = tt
step_out lent m G.WholeRead false got = tt
step_out lent m (G.Wipe s) ack got = wipe_out m (scrub_step s ack got)
step_out lent m (G.BeginSetup s) ack got = begin_out m (setup_step s ack got)
step_out lent m (G.BeginOff s) ack got = begin_off_out m (switch_step s ack (first got))
step_out lent m G.LiveStatus ack got = refl
step_out lent m (G.FinishOff s) ack got = finish_off_out m (switch_step s ack (first got))
step_out lent m (G.FinishStatus stuck) ack got =
    choice 0 (wrote_byte ack (first got)) (finish_start whole stuck) (finish_start m stuck) (finish_out whole stuck (scrub_new (wipe_end whole)))
    (finish_out m stuck (scrub_new (wipe_end m)))
step_out lent m (G.FinishWipe stuck s) ack got = finish_out m stuck (scrub_step s ack got)

whole_start : (m : Mark) (n : ℕ) (b : Bool) → eqb n user_memory ≡ b → Out n (pick b (Open m (G.WholeOff (switch_new false))) (Over m (Err NotTaken)))
whole_start m n true e = sym (eqb-true n user_memory e)
whole_start m n false e = tt

-- and a call begins with it
pub start_out : (c : Call) (m : Mark) → Out (out_for c) (start_of c m)
start_out call.identify m = refl
start_out call.prepare m = refl
start_out call.wait_ready m = refl
start_out (call.read_user at n) m = choice n (past at n) (Over m (Err NotTaken)) (Open m (G.ReadUser at n)) tt refl
start_out (call.write at bs) m =
    choice 0 (past at (length bs)) (Over m (Err NotTaken)) _ tt (write_out (widened m at (at + length bs)) (write_new at (length bs)))
start_out call.rf_off m = refl
start_out call.rf_on m = refl
start_out call.rf_wrote m = refl
start_out (call.read_whole n) m = whole_start m n (eqb n user_memory) refl
start_out call.scrub m = wipe_out m (scrub_new (wipe_end m))
start_out call.begin m = refl
start_out call.go_live m = refl
start_out call.finish m = refl

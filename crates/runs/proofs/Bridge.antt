-- Each stage of a session asks for what the definition asks for, and goes where it goes, whatever is replied.
use mathlib.Core.Path.{◌≡◌, refl, ap, fun_ext, ◌∙◌}
use mathlib.Core.List.{List}
use mathlib.Core.Bool.{Bool, true, false}
use Prim.Native.Nat.{ℕ, ◌+◌}
use lib.Dec.{eqb}
use lib.ListN.{length, take}
use Rattle.std.specs.Prelude.{Result, Ok, Err, Some, None}
use Rattle.slices.specs.Pick.{pick}
use Rattle.protocol.specs.Transfer.{Transfer, Reply}
use Rattle.protocol.specs.Tag.{user_memory}
use Rattle.protocol.specs.Mark.{Mark, whole, widened, found, is_none, wipe_end}
use Rattle.protocol.specs.Proc.{Proc, done, ask, mark, ◌>>=◌, Res, ok, try, fine, refuse}
use Rattle.protocol.specs.Rf.{rf_off, rf_on}
use Rattle.protocol.specs.Setup.{is_the_part}
use Rattle.protocol.specs.Write.{past, chunks, read_user, write_user}
use Rattle.protocol.specs.Scrub.{scrub}
use Rattle.protocol.specs.Answer.{Progress}
use Rattle.protocol.specs.Call.{Call}
use Rattle.protocol.specs.Call as call
use Rattle.protocol.specs.Calls.{read_whole, begin, go_live, first_of, closing, finish, plainly, call_of}
use Rattle.protocol.specs.Trace.{Report, noted, talk, asks}
use Rattle.protocol.specs.declared.answer.TagError.{TagError}
use Rattle.protocol.specs.declared.answer.Answer.{Answer}
use Rattle.protocol.specs.declared.answer.Answer.TheVariants.{Done}
use Rattle.protocol.specs.declared.answer.TagError.TheVariants.{NoAnswer, NotThePart, NotTaken}
use Rattle.machine.specs.Ask.{meant, first}
use Rattle.machine.specs.Wait.{wait_step, after_wait}
use Rattle.machine.specs.Switch.{Switched, switch_new, switch_step, after_switch}
use Rattle.machine.proofs.Waits.{wait_bridge}
use Rattle.machine.proofs.Switches.{switch_bridge}
use Rattle.setup.specs.Setup.{identified, setup_step, after_setup}
use Rattle.setup.proofs.Setups.{setup_bridge}
use Rattle.wipe.specs.Scrub.{scrub_new, scrub_step, after_scrub}
use Rattle.wipe.proofs.Scrubs.{scrub_bridge, chunks_on}
use Rattle.writing.specs.Write.{write_new, write_step, after_write}
use Rattle.writing.proofs.Writes.{write_bridge, write_starts}
use Rattle.machine.specs.declared.wait.Wait.{Wait}
use Rattle.setup.specs.declared.setup.Setup.{Setup}
use Rattle.wipe.specs.declared.scrub.Scrub.{Scrub}
use Rattle.writing.specs.declared.write.Write.{Write}
use Rattle.stages.specs.Turns.{stage_ask, wrote, identify_turn, prepare_turn, wait_turn, write_turn, switch_turn, whole_turn, wipe_turn, wipe_start, begin_turn, begin_off_turn, finish_off_turn, finish_turn, finish_start, stage_step, start_of, lent_to}
use Rattle.runs.specs.Resume.{wiping, whole_rest, begin_rest, stuck_as, finish_rest, resume_stage, after_turn}
use Rattle.stages.specs.declared.stage.Stage.{Stage}
use Rattle.stages.specs.declared.stage.Stage.TheVariants as G
use Rattle.stages.specs.declared.stage.Turn.{Turn}
use Rattle.stages.specs.declared.stage.Turn.TheVariants.{Open, Over}

module _ (lent : List ℕ) (m : Mark) (q : Report) where
  -- what the step of each machine means for the call that it serves
  prepare_case : (x : Progress Setup) → talk m q (plainly (after_setup x)) ≡ after_turn lent q (prepare_turn m x)
  prepare_case (Ok (Some s)) = refl
  prepare_case (Ok None) = refl
  prepare_case (Err e) = refl

  wait_case : (x : Progress Wait) → talk m q (plainly (after_wait x)) ≡ after_turn lent q (wait_turn m x)
  wait_case (Ok (Some w)) = refl
  wait_case (Ok None) = refl
  wait_case (Err e) = refl

  write_case : (x : Progress Write) → talk m q (plainly (after_write lent x)) ≡ after_turn lent q (write_turn m x)
  write_case (Ok (Some w)) = refl
  write_case (Ok None) = refl
  write_case (Err e) = refl

  switch_case : (x : Switched) → talk m q (plainly (after_switch x)) ≡ after_turn lent q (switch_turn m x)
  switch_case (Ok (Some s)) = refl
  switch_case (Ok None) = refl
  switch_case (Err e) = refl

  whole_case : (x : Switched) → talk m q (plainly (try (after_switch x) (λ _. whole_rest))) ≡ after_turn lent q (whole_turn m x)
  whole_case (Ok (Some s)) = refl
  whole_case (Ok None) = refl
  whole_case (Err e) = refl

  wipe_case : (x : Progress Scrub) → talk m q (plainly (wiping (after_scrub x))) ≡ after_turn lent q (wipe_turn m x)
  wipe_case (Ok (Some s)) = refl
  wipe_case (Ok None) = refl
  wipe_case (Err e) = refl

  -- the wipe from its start
  wipe_start_lem : talk m q (plainly (scrub m)) ≡ after_turn lent q (wipe_start m)
  unfolding scrub
  wipe_start_lem = ap (λ (p : Proc (Res Unit)). talk m q (plainly (wiping p))) (chunks_on (chunks (wipe_end m)) 0 (wipe_end m)) ∙ wipe_case (scrub_new (wipe_end m))

  begin_case : (x : Progress Setup) → talk m q (plainly (try (after_setup x) (λ _. try rf_off (λ _. begin_rest m)))) ≡ after_turn lent q (begin_turn m x)
  unfolding rf_off
  begin_case (Ok (Some s)) = refl
  begin_case (Ok None) = refl
  begin_case (Err e) = refl

  begin-rest : (b : Bool) → talk m q (plainly (pick b fine (scrub m))) ≡ after_turn lent q (pick b (Over m (Ok Done)) (wipe_start m))
  begin-rest true = refl
  begin-rest false = wipe_start_lem

  begin_off_case : (x : Switched) → talk m q (plainly (try (after_switch x) (λ _. begin_rest m))) ≡ after_turn lent q (begin_off_turn m x)
  begin_off_case (Ok (Some s)) = refl
  begin_off_case (Ok None) = begin-rest (is_none m)
  begin_off_case (Err e) = refl

  finish_off_case : (x : Switched) → talk m q (plainly (after_switch x >>= finish_rest m)) ≡ after_turn lent q (finish_off_turn m x)
  finish_off_case (Ok (Some s)) = refl
  finish_off_case (Ok None) = refl
  finish_off_case (Err e) = refl

  finish_case : (stuck : Bool) (x : Progress Scrub)
      → talk m q (plainly (wiping (after_scrub x) >>= λ wiped. done (first_of (stuck_as stuck) wiped))) ≡ after_turn lent q (finish_turn m stuck x)
  finish_case stuck (Ok (Some s)) = refl
  finish_case true (Ok None) = refl
  finish_case false (Ok None) = refl
  finish_case true (Err e) = refl
  finish_case false (Err e) = refl

  -- the wipe of `finish` from its start
  finish_start_lem : (stuck : Bool) → talk m q (plainly (closing m (stuck_as stuck))) ≡ after_turn lent q (finish_start m stuck)
  unfolding closing scrub
  finish_start_lem stuck =
      ap (λ (p : Proc (Res Unit)). talk m q (plainly (wiping p >>= λ wiped. done (first_of (stuck_as stuck) wiped)))) (chunks_on (chunks (wipe_end m)) 0 (wipe_end m))
      ∙ finish_case stuck (scrub_new (wipe_end m))

  identify_case : (g : List ℕ) (b t : Bool) → is_the_part (take 12 g) ≡ t
      → talk m q (plainly (try (pick b (done (ok (take 12 g))) (refuse NoAnswer)) (λ id. pick (is_the_part id) fine (refuse NotThePart))))
      ≡ after_turn lent q (identify_turn m (identified b g))
  identify_case g true true e = rw e
  identify_case g true false e = rw e
  identify_case g false t e = refl

  read_case : (g : List ℕ) (b : Bool) → talk m q (plainly (try (pick b (done (ok g)) (refuse NoAnswer)) (λ _. fine)))
      ≡ after_turn lent q (pick b (Over m (Ok Done)) (Over m (Err NoAnswer)))
  read_case g true = refl
  read_case g false = refl

  whole-read_case : (g : List ℕ) (b : Bool) → talk m q (plainly (try (pick b (done (ok g)) (refuse NoAnswer)) (λ out. mark (found out) fine)))
      ≡ after_turn lent q (pick b (Over (found g) (Ok Done)) (Over m (Err NoAnswer)))
  whole-read_case g true = refl
  whole-read_case g false = refl

finish_status_case : (lent : List ℕ) (m : Mark) (q : Report) (stuck b : Bool)
    → talk m q (plainly (pick b (mark whole (closing whole (stuck_as stuck))) (closing m (stuck_as stuck)))) ≡ after_turn lent q (pick b (finish_start whole stuck) (finish_start m stuck))
finish_status_case lent m q stuck true = finish_start_lem lent whole q stuck
finish_status_case lent m q stuck false = finish_start_lem lent m q stuck

-- a stage, as its host sees it
module _ (lent : List ℕ) (m : Mark) (r : Report) where
  turns : (st : Stage) (t : Transfer) (k : Reply → Proc (Result Answer TagError)) → resume_stage lent m st ≡ ask t k
      → ((x : Reply) (q : Report) → talk m q (k x) ≡ after_turn lent q (stage_step lent m st x.ack x.got))
      → talk m r (resume_stage lent m st) ≡ asks m t (λ x. after_turn lent (noted r (record { transfer = t; reply = x })) (stage_step lent m st x.ack x.got))
  turns st t k e h = ap (talk m r) e ∙ ap (asks m t) (fun_ext (λ x. h x (noted r (record { transfer = t; reply = x }))))

-- THE SESSION DOES WHAT THE DEFINITION SAYS: from every stage of an open call and for every reply
pub session_bridge : (lent : List ℕ) (m : Mark) (r : Report) (st : Stage)
    → talk m r (resume_stage lent m st)
    ≡ asks m (meant lent (stage_ask (length lent) st))
    (λ x. after_turn lent (noted r (record { transfer = meant lent (stage_ask (length lent) st); reply = x })) (stage_step lent m st x.ack x.got))
unfolding go_live rf_on
session_bridge lent m r G.Identify =
    turns lent m r G.Identify _ _ refl (λ x q. identify_case lent m q x.got x.ack (is_the_part (take 12 x.got)) refl)
session_bridge lent m r (G.Prepare s) =
    turns lent m r (G.Prepare s) _ _ (ap plainly (setup_bridge lent s)) (λ x q. prepare_case lent m q (setup_step s x.ack x.got))
session_bridge lent m r (G.WaitReady w) =
    turns lent m r (G.WaitReady w) _ _ (ap plainly (wait_bridge lent w)) (λ x q. wait_case lent m q (wait_step w x.ack))
session_bridge lent m r (G.ReadUser at k) =
    turns lent m r (G.ReadUser at k) _ _ refl (λ x q. read_case lent m q (take k x.got) x.ack)
session_bridge lent m r (G.Write w) =
    turns lent m r (G.Write w) _ _ (ap plainly (write_bridge lent w)) (λ x q. write_case lent m q (write_step w x.ack x.got lent))
session_bridge lent m r (G.Switching s) =
    turns lent m r (G.Switching s) _ _ (ap plainly (switch_bridge lent s)) (λ x q. switch_case lent m q (switch_step s x.ack (first x.got)))
session_bridge lent m r G.RfWrote = turns lent m r G.RfWrote _ _ refl (λ x q. refl)
session_bridge lent m r (G.WholeOff s) =
    turns lent m r (G.WholeOff s) _ _ (ap (λ (p : Proc (Res Unit)). plainly (try p (λ _. whole_rest))) (switch_bridge lent s))
    (λ x q. whole_case lent m q (switch_step s x.ack (first x.got)))
session_bridge lent m r G.WholeStatus = turns lent m r G.WholeStatus _ _ refl (λ x q. refl)
session_bridge lent m r G.WholeRead = turns lent m r G.WholeRead _ _ refl (λ x q. whole-read_case lent m q (take user_memory x.got) x.ack)
session_bridge lent m r (G.Wipe s) =
    turns lent m r (G.Wipe s) _ _ (ap (λ (p : Proc (Res Unit)). plainly (wiping p)) (scrub_bridge lent s)) (λ x q. wipe_case lent m q (scrub_step s x.ack x.got))
session_bridge lent m r (G.BeginSetup s) =
    turns lent m r (G.BeginSetup s) _ _ (ap (λ (p : Proc (Res Unit)). plainly (try p (λ _. try rf_off (λ _. begin_rest m)))) (setup_bridge lent s))
    (λ x q. begin_case lent m q (setup_step s x.ack x.got))
session_bridge lent m r (G.BeginOff s) =
    turns lent m r (G.BeginOff s) _ _ (ap (λ (p : Proc (Res Unit)). plainly (try p (λ _. begin_rest m))) (switch_bridge lent s))
    (λ x q. begin_off_case lent m q (switch_step s x.ack (first x.got)))
session_bridge lent m r G.LiveStatus = turns lent m r G.LiveStatus _ _ refl (λ x q. refl)
session_bridge lent m r (G.FinishOff s) =
    turns lent m r (G.FinishOff s) _ _ (ap (λ (p : Proc (Res Unit)). plainly (p >>= finish_rest m)) (switch_bridge lent s))
    (λ x q. finish_off_case lent m q (switch_step s x.ack (first x.got)))
session_bridge lent m r (G.FinishStatus stuck) =
    turns lent m r (G.FinishStatus stuck) _ _ refl (λ x q. finish_status_case lent m q stuck (wrote x.ack x.got))
session_bridge lent m r (G.FinishWipe stuck s) =
    turns lent m r (G.FinishWipe stuck s) _ _
    (ap (λ (p : Proc (Res Unit)). plainly (wiping p >>= λ wiped. done (first_of (stuck_as stuck) wiped))) (scrub_bridge lent s))
    (λ x q. finish_case lent m q stuck (scrub_step s x.ack x.got))

past_case : (m : Mark) (q : Report) (lent : List ℕ) (b : Bool) (p : Proc (Res Unit)) (t : Turn) → talk m q (plainly p) ≡ after_turn lent q t
    → talk m q (plainly (pick b (refuse NotTaken) p)) ≡ after_turn lent q (pick b (Over m (Err NotTaken)) t)
past_case m q lent true p t e = refl
past_case m q lent false p t e = e

-- and every call starts where the definition starts
pub session_starts : (c : Call) (m : Mark) (r : Report) → talk m r (call_of c m) ≡ after_turn (lent_to c) r (start_of c m)
unfolding read_user write_user rf_off rf_on read_whole begin go_live finish
session_starts call.identify m r = refl
session_starts call.prepare m r = refl
session_starts call.wait_ready m r = refl
session_starts (call.read_user at n) m r = past_case m r _ (past at n) _ (Open m (G.ReadUser at n)) refl
session_starts (call.write at bs) m r =
    past_case m r bs (past at (length bs)) _ (write_turn (widened m at (at + length bs)) (write_new at (length bs)))
    (ap (λ (p : Proc (Res Unit)). talk (widened m at (at + length bs)) r (plainly p)) (write_starts bs at)
    ∙ write_case bs (widened m at (at + length bs)) r (write_new at (length bs)))
session_starts call.rf_off m r = refl
session_starts call.rf_on m r = refl
session_starts call.rf_wrote m r = refl
session_starts (call.read_whole n) m r = whole_start (eqb n user_memory)
  where
    whole_start : (b : Bool) → talk m r (plainly (pick b (try rf_off (λ _. whole_rest)) (refuse NotTaken))) ≡ after_turn (lent_to (call.read_whole n)) r (pick b (Open m (G.WholeOff (switch_new false))) (Over m (Err NotTaken)))
    whole_start true = refl
    whole_start false = refl
session_starts call.scrub m r = wipe_start_lem _ m r
session_starts call.begin m r = refl
session_starts call.go_live m r = refl
session_starts call.finish m r = refl

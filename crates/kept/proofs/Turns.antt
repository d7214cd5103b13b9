-- Every turn of a call leaves a sound session.
--
--   TurnIn rows n t   == the turn t of a call with `rows` rows programmed and n bytes of data leaves one
use mathlib.Core.Path.{◌≡◌, refl, sym, subst}
use mathlib.Core.Bool.{Bool, true, false}
use mathlib.Core.List.{List}
use Prim.Native.Nat.{ℕ, ◌+◌, ◌≤◌}
use native.Mathlib.Omega.{arith}
use lib.ListN.{length, take, length-take}
use lib.Dec.{eqb}
use borrow.Author.Tests.{ltb-false, eqb-true, le-leb, eq-eqb}
use Rattle.std.specs.Prelude.{Ok, Err, Some, None}
use Rattle.slices.specs.Pick.{pick}
use Rattle.slices.proofs.Cases.{pick_cases}
use Rattle.slices.proofs.Truths.{both, both_so}
use Rattle.protocol.specs.Mark.{Mark, whole, widened, is_none, wipe_end}
use Rattle.protocol.proofs.Marks.{inside-none, inside-whole, inside-widened, inside_found}
use Rattle.protocol.specs.Answer.{Progress}
use Rattle.protocol.specs.Write.{past}
use Rattle.protocol.specs.Call.{Call}
use Rattle.protocol.specs.Call as call
use Rattle.machine.specs.Ask.{first}
use Rattle.machine.specs.Wait.{wait_step}
use Rattle.machine.specs.Switch.{switch_step}
use Rattle.setup.specs.Setup.{setup_step, identified}
use Rattle.wipe.specs.Scrub.{scrub_new, scrub_step}
use Rattle.writing.specs.Write.{write_new, write_step}
use Rattle.machine.specs.declared.wait.Wait.{Wait}
use Rattle.machine.specs.Switch.{Switched}
use Rattle.setup.specs.declared.setup.Setup.{Setup}
use Rattle.wipe.specs.declared.scrub.Scrub.{Scrub}
use Rattle.writing.specs.declared.write.Write.{Write}
use Rattle.stages.specs.Turns.{stage_ask, wrote_byte, identify_turn, prepare_turn, wait_turn, write_turn, switch_turn, whole_turn, wipe_turn, wipe_start, begin_turn, begin_off_turn, finish_off_turn, finish_turn, finish_start, stage_step, start_of, lent_to}
use Rattle.stages.specs.declared.stage.Stage.{Stage}
use Rattle.stages.specs.declared.stage.Stage.TheVariants as G
use Rattle.stages.specs.declared.stage.Turn.{Turn}
use Rattle.stages.specs.declared.stage.Turn.TheVariants.{Open, Over}
use Rattle.session.specs.Sound.{setup_sound, wait_sound, switch_sound, off_sound, scrub_sound, plain, stage_sound, sound}
use Rattle.session.specs.Steps.{entered, counted}
use Rattle.kept.proofs.Marks.{widened-past}
use Rattle.kept.proofs.Machines.{WaitedIn, wait_kept, wait_counts, SwitchedIn, switch_kept, off_kept, switch_counts, SetupIn, setup_kept, setup_counts}
use Rattle.kept.proofs.Chunks.{scrub-says, scrub_so}
use Rattle.kept.proofs.Pieces.{write-says, write_so}
use Rattle.kept.proofs.Wipes.{ScrubbedIn, scrub-new, scrub_kept}
use Rattle.kept.proofs.Writings.{WrittenIn, write_new_lem, write_kept}

abbrev pub TurnIn : ℕ → ℕ → Turn → Type 0
TurnIn rows n (Open m st) = (m ≤ 8192) × (stage_sound m rows n st ≡ true)
TurnIn rows n (Over m a) = m ≤ 8192

pub turn-sound : (rows n : ℕ) (t : Turn) → TurnIn rows n t → sound (entered rows n t) ≡ true
turn-sound rows n (Open m st) h = both_so _ _ (le-leb m 8192 h.0) h.1
turn-sound rows n (Over m a) h = both_so _ _ (le-leb m 8192 h) refl

-- a call without rows and without data stays so
plain_kept : (rows n k : ℕ) → plain rows n ≡ true → k ≡ 0 → plain (rows + k) n ≡ true
plain_kept rows n k e z =
    let a = both (eqb rows 0) (eqb n 0) e in
    let h = eqb-true rows 0 a.0 in
    both_so _ _ (eq-eqb (rows + k) 0 (omega (arith, h, z))) a.1

-- and so does one without data whose rows are counted
wipe_turn_lem : (m : Mark) (rows n : ℕ) (x : Progress Scrub) → m ≤ 8192 → eqb n 0 ≡ true → ScrubbedIn m rows x → TurnIn rows n (wipe_turn m x)
wipe_turn_lem m rows n (Ok (Some s)) h e i = (h, both_so _ _ e (scrub_so m rows s i))
wipe_turn_lem m rows n (Ok None) h e i = inside-none
wipe_turn_lem m rows n (Err t) h e i = h

finish-turn : (m : Mark) (rows n : ℕ) (stuck : Bool) (x : Progress Scrub) → m ≤ 8192 → eqb n 0 ≡ true → ScrubbedIn m rows x → TurnIn rows n (finish_turn m stuck x)
finish-turn m rows n stuck (Ok (Some s)) h e i = (h, both_so _ _ e (scrub_so m rows s i))
finish-turn m rows n stuck (Ok None) h e i = inside-none
finish-turn m rows n stuck (Err t) h e i = h

write-turn : (m : Mark) (rows n : ℕ) (x : Progress Write) → m ≤ 8192 → WrittenIn m n rows x → TurnIn rows n (write_turn m x)
write-turn m rows n (Ok (Some w)) h i = (h, write_so m n rows w i)
write-turn m rows n (Ok None) h i = h
write-turn m rows n (Err t) h i = h

module _ (m : Mark) (h : m ≤ 8192) where
  wipe_start_lem : (n : ℕ) → eqb n 0 ≡ true → TurnIn 0 n (wipe_start m)
  wipe_start_lem n e = wipe_turn_lem m 0 n (scrub_new (wipe_end m)) h e (scrub-new m)

  finish_start_lem : (n : ℕ) (stuck : Bool) → eqb n 0 ≡ true → TurnIn 0 n (finish_start m stuck)
  finish_start_lem n stuck e = finish-turn m 0 n stuck (scrub_new (wipe_end m)) h e (scrub-new m)

  -- what the step of each machine means for the call that it serves
  module _ (rows n : ℕ) (p : plain rows n ≡ true) where
    identify-turn : (x : Progress Setup) → TurnIn rows n (identify_turn m x)
    identify-turn (Ok (Some s)) = h
    identify-turn (Ok None) = h
    identify-turn (Err t) = h

    prepare-turn : (x : Progress Setup) → SetupIn x → TurnIn rows n (prepare_turn m x)
    prepare-turn (Ok (Some s)) e = (h, both_so _ _ p e)
    prepare-turn (Ok None) e = h
    prepare-turn (Err t) e = h

    wait_turn_lem : (x : Progress Wait) → WaitedIn x → TurnIn rows n (wait_turn m x)
    wait_turn_lem (Ok (Some w)) e = (h, both_so _ _ p e)
    wait_turn_lem (Ok None) e = h
    wait_turn_lem (Err t) e = h

    switch_turn_lem : (x : Switched) → SwitchedIn switch_sound x → TurnIn rows n (switch_turn m x)
    switch_turn_lem (Ok (Some s)) e = (h, both_so _ _ p e)
    switch_turn_lem (Ok None) e = h
    switch_turn_lem (Err t) e = h

    whole-turn : (x : Switched) → SwitchedIn off_sound x → TurnIn rows n (whole_turn m x)
    whole-turn (Ok (Some s)) e = (h, both_so _ _ p e)
    whole-turn (Ok None) e = (h, p)
    whole-turn (Err t) e = h

    begin-turn : (x : Progress Setup) → SetupIn x → TurnIn rows n (begin_turn m x)
    begin-turn (Ok (Some s)) e = (h, both_so _ _ p e)
    begin-turn (Ok None) e = (h, both_so _ _ p refl)
    begin-turn (Err t) e = h

    finish_off_turn_lem : (x : Switched) → SwitchedIn off_sound x → TurnIn rows n (finish_off_turn m x)
    finish_off_turn_lem (Ok (Some s)) e = (h, both_so _ _ p e)
    finish_off_turn_lem (Ok None) e = (h, p)
    finish_off_turn_lem (Err t) e = (h, p)

    -- a wipe begins with no row programmed
    begin_off_turn_lem : (x : Switched) → SwitchedIn off_sound x → TurnIn rows n (begin_off_turn m x)
    begin_off_turn_lem (Ok (Some s)) e = (h, both_so _ _ p e)
    begin_off_turn_lem (Ok None) e =
        let a = both (eqb rows 0) (eqb n 0) p in
        pick_cases (TurnIn rows n) (is_none m) (λ _. h)
        (λ _. subst (λ (k : ℕ). TurnIn k n (wipe_start m)) (sym (eqb-true rows 0 a.0)) (wipe_start_lem n a.1))
    begin_off_turn_lem (Err t) e = h

status_turn_lem : (m : Mark) (rows n : ℕ) (stuck b : Bool) → m ≤ 8192 → plain rows n ≡ true → TurnIn rows n (pick b (finish_start whole stuck) (finish_start m stuck))
status_turn_lem m rows n stuck b h p =
    let a = both (eqb rows 0) (eqb n 0) p in
    subst (λ (k : ℕ). TurnIn k n (pick b (finish_start whole stuck) (finish_start m stuck))) (sym (eqb-true rows 0 a.0))
    (pick_cases (TurnIn 0 n) b (λ _. finish_start_lem whole inside-whole n stuck a.1) (λ _. finish_start_lem m h n stuck a.1))

-- a reply to an open stage
pub step_in : (m : Mark) (rows : ℕ) (lent : List ℕ) (st : Stage) (ack : Bool) (got : List ℕ) → m ≤ 8192 → stage_sound m rows (length lent) st ≡ true
    → TurnIn (rows + counted (stage_ask (length lent) st) ack) (length lent) (stage_step lent m st ack got)
step_in m rows lent G.Identify ack got h e = identify-turn m h (rows + 0) (length lent) (plain_kept rows (length lent) 0 e refl) (identified ack got)
step_in m rows lent (G.Prepare s) ack got h e =
    let a = both (plain rows (length lent)) (setup_sound s) e in
    prepare-turn m h _ (length lent) (plain_kept rows (length lent) _ a.0 (setup_counts s ack)) (setup_step s ack got) (setup_kept s ack got a.1)
step_in m rows lent (G.WaitReady w) ack got h e =
    let a = both (plain rows (length lent)) (wait_sound w) e in
    wait_turn_lem m h _ (length lent) (plain_kept rows (length lent) _ a.0 (wait_counts w ack)) (wait_step w ack) (wait_kept w ack a.1)
step_in m rows lent (G.ReadUser at k) true got h e = h
step_in m rows lent (G.ReadUser at k) false got h e = h
step_in m rows lent (G.Write w) ack got h e =
    write-turn m _ (length lent) (write_step w ack got lent) h (write_kept m rows w ack got lent (write-says m (length lent) rows w e))
step_in m rows lent (G.Switching s) ack got h e =
    let a = both (plain rows (length lent)) (switch_sound s) e in
    switch_turn_lem m h _ (length lent) (plain_kept rows (length lent) _ a.0 (switch_counts s ack)) (switch_step s ack (first got)) (switch_kept s ack (first got) a.1)
step_in m rows lent G.RfWrote ack got h e = h
step_in m rows lent (G.WholeOff s) ack got h e =
    let a = both (plain rows (length lent)) (off_sound s) e in
    whole-turn m h _ (length lent) (plain_kept rows (length lent) _ a.0 (switch_counts s ack)) (switch_step s ack (first got)) (off_kept s ack (first got) a.1)
step_in m rows lent G.WholeStatus ack got h e = (h, plain_kept rows (length lent) 0 e refl)
step_in m rows lent G.WholeRead true got h e = inside_found (take 8192 got) (omega (arith, length-take 8192 got))
step_in m rows lent G.WholeRead false got h e = h
step_in m rows lent (G.Wipe s) ack got h e =
    let a = both (eqb (length lent) 0) (scrub_sound m rows s) e in
    wipe_turn_lem m _ (length lent) (scrub_step s ack got) h a.0 (scrub_kept m rows s ack got (scrub-says m rows s a.1))
step_in m rows lent (G.BeginSetup s) ack got h e =
    let a = both (plain rows (length lent)) (setup_sound s) e in
    begin-turn m h _ (length lent) (plain_kept rows (length lent) _ a.0 (setup_counts s ack)) (setup_step s ack got) (setup_kept s ack got a.1)
step_in m rows lent (G.BeginOff s) ack got h e =
    let a = both (plain rows (length lent)) (off_sound s) e in
    begin_off_turn_lem m h _ (length lent) (plain_kept rows (length lent) _ a.0 (switch_counts s ack)) (switch_step s ack (first got)) (off_kept s ack (first got) a.1)
step_in m rows lent G.LiveStatus ack got h e = (h, both_so _ _ (plain_kept rows (length lent) 0 e refl) refl)
step_in m rows lent (G.FinishOff s) ack got h e =
    let a = both (plain rows (length lent)) (off_sound s) e in
    finish_off_turn_lem m h _ (length lent) (plain_kept rows (length lent) _ a.0 (switch_counts s ack)) (switch_step s ack (first got)) (off_kept s ack (first got) a.1)
step_in m rows lent (G.FinishStatus stuck) ack got h e =
    status_turn_lem m (rows + 0) (length lent) stuck (wrote_byte ack (first got)) h (plain_kept rows (length lent) 0 e refl)
step_in m rows lent (G.FinishWipe stuck s) ack got h e =
    let a = both (eqb (length lent) 0) (scrub_sound m rows s) e in
    finish-turn m _ (length lent) stuck (scrub_step s ack got) h a.0 (scrub_kept m rows s ack got (scrub-says m rows s a.1))

-- a call, started
pub start_in : (c : Call) (m : Mark) → m ≤ 8192 → TurnIn 0 (length (lent_to c)) (start_of c m)
start_in call.identify m h = (h, refl)
start_in call.prepare m h = (h, refl)
start_in call.wait_ready m h = (h, refl)
start_in (call.read_user at n) m h = pick_cases (TurnIn 0 0) (past at n) (λ _. h) (λ e. (h, rw e))
start_in (call.write at bs) m h =
    pick_cases (TurnIn 0 (length bs)) (past at (length bs)) (λ _. h)
    (λ e. let l = ltb-false 8192 (at + length bs) e in
    write-turn (widened m at (at + length bs)) 0 (length bs) (write_new at (length bs)) (inside-widened m at (at + length bs) h l)
    (write_new_lem (widened m at (at + length bs)) at (length bs) (widened-past m at (at + length bs))))
start_in call.rf_off m h = (h, refl)
start_in call.rf_on m h = (h, refl)
start_in call.rf_wrote m h = (h, refl)
start_in (call.read_whole n) m h = pick_cases (TurnIn 0 0) (eqb n 8192) (λ _. (h, refl)) (λ _. h)
start_in call.scrub m h = wipe_start_lem m h 0 refl
start_in call.begin m h = (h, refl)
start_in call.go_live m h = (h, refl)
start_in call.finish m h = (h, refl)

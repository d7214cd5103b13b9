-- The machines that program no row keep their counts: a wait, a switch, the setup.
use mathlib.Core.Path.{◌≡◌, refl}
use mathlib.Core.Bool.{Bool, true, false, not, ◌&&◌}
use mathlib.Core.List.{List}
use Prim.Native.Nat.{ℕ, zero, suc}
use native.Mathlib.Omega.{arith}
use lib.ListN.{take}
use lib.Dec.{eqb, ltb}
use borrow.Author.Tests.{ltb-true, lt-ltb}
use Rattle.std.specs.Prelude.{Result, Ok, Err, Option, Some, None}
use Rattle.slices.proofs.Cases.{pick_cases}
use Rattle.slices.proofs.Truths.{both, both_so}
use Rattle.protocol.specs.Tag.{open_bit}
use Rattle.protocol.specs.Answer.{Progress}
use Rattle.protocol.specs.Setup.{is_the_part, is_set_up, reports}
use Rattle.machine.specs.Ask.{first}
use Rattle.machine.specs.Wait.{wait_step, wait_ask, poll_after}
use Rattle.machine.specs.Switch.{switch_step, switch_ask, wanted, try_after}
use Rattle.password.specs.Open.{open_step, open_waited}
use Rattle.storing.specs.Store.{store_step, store_waited}
use Rattle.setup.specs.Setup.{setup_step, setup_ask, job_value, setup_opened, setup_stored}
use Rattle.machine.specs.declared.wait.Wait.{Wait}
use Rattle.machine.specs.declared.wait.Wait.TheVariants.{Poll, Pause}
use Rattle.machine.specs.declared.switch.Switch.{Switch}
use Rattle.machine.specs.declared.switch.Switch.TheVariants.{Flip, Clear, Look, Rest}
use Rattle.machine.specs.Switch.{Switched}
use Rattle.password.specs.declared.Open.{Open}
use Rattle.password.specs.declared.Open.TheVariants as O
use Rattle.storing.specs.declared.Store.{Store}
use Rattle.storing.specs.declared.Store.TheVariants as T
use Rattle.setup.specs.declared.setup.Job.{Job}
use Rattle.setup.specs.declared.setup.Job.TheVariants as J
use Rattle.setup.specs.declared.setup.Setup.{Setup}
use Rattle.setup.specs.declared.setup.Setup.TheVariants as I
use Rattle.session.specs.Sound.{wait_sound, open_sound, store_sound, setup_sound, switch_sound, off_sound}
use Rattle.session.specs.Steps.{counted}

-- where a machine goes on, P holds of its state; one that has ended is not asked
abbrev pub GoesOn : {S E : Type 0} → (S → Type 0) → Result (Option S) E → Type 0
GoesOn P (Ok (Some s)) = P s
GoesOn P (Ok None) = Unit
GoesOn P (Err e) = Unit

-- a machine that goes on is sound
abbrev pub WaitedIn : Progress Wait → Type 0
WaitedIn x = GoesOn (λ (w : Wait). wait_sound w ≡ true) x

abbrev pub SwitchedIn : (Switch → Bool) → Switched → Type 0
SwitchedIn f x = GoesOn (λ (s : Switch). f s ≡ true) x

abbrev OpenedIn : Progress Open → Type 0
OpenedIn x = GoesOn (λ (o : Open). open_sound o ≡ true) x

abbrev StoredIn : Progress Store → Type 0
StoredIn x = GoesOn (λ (s : Store). store_sound s ≡ true) x

abbrev pub SetupIn : Progress Setup → Type 0
SetupIn x = GoesOn (λ (s : Setup). setup_sound s ≡ true) x

down : (n k : ℕ) → ltb (suc n) k ≡ true → ltb n k ≡ true
down n k e = lt-ltb n k (omega (arith, ltb-true (suc n) k e))

poll-after : (n : ℕ) → ltb n 100 ≡ true → WaitedIn (poll_after n)
poll-after zero e = tt
poll-after (suc n) e = down n 100 e

pub wait_kept : (w : Wait) (ack : Bool) → wait_sound w ≡ true → WaitedIn (wait_step w ack)
wait_kept (Poll n) true e = tt
wait_kept (Poll n) false e = e
wait_kept (Pause n) ack e = poll-after n e

pub wait_counts : (w : Wait) (ack : Bool) → counted (wait_ask w) ack ≡ 0
wait_counts (Poll n) ack = refl
wait_counts (Pause n) ack = refl

try-after : (on : Bool) (n : ℕ) → ltb n 10 ≡ true → SwitchedIn switch_sound (try_after on n)
try-after on zero e = tt
try-after on (suc n) e = down n 10 e

pub switch_kept : (s : Switch) (ack : Bool) (v : ℕ) → switch_sound s ≡ true → SwitchedIn switch_sound (switch_step s ack v)
switch_kept (Flip true n) true v e = e
switch_kept (Flip false n) true v e = e
switch_kept (Flip on n) false v e = e
switch_kept (Clear n) true v e = e
switch_kept (Clear n) false v e = e
switch_kept (Look on n) true v e = pick_cases (SwitchedIn switch_sound) (wanted on v) (λ _. tt) (λ _. e)
switch_kept (Look on n) false v e = e
switch_kept (Rest on n) ack v e = try-after on n e

try_off : (on : Bool) (n : ℕ) → (not on && ltb n 10) ≡ true → SwitchedIn off_sound (try_after on n)
try_off on zero e = tt
try_off on (suc n) e = let a = both (not on) (ltb (suc n) 10) e in both_so _ _ a.0 (down n 10 a.1)

-- RF that is turned off is never turned on
pub off_kept : (s : Switch) (ack : Bool) (v : ℕ) → off_sound s ≡ true → SwitchedIn off_sound (switch_step s ack v)
off_kept (Flip true n) ack v e = absurd (let z : ◌≡◌ {A = ℕ} 0 1 = cc in omega arith)
off_kept (Flip false n) true v e = e
off_kept (Flip false n) false v e = e
off_kept (Clear n) ack v e = absurd (let z : ◌≡◌ {A = ℕ} 0 1 = cc in omega arith)
off_kept (Look on n) true v e = pick_cases (SwitchedIn off_sound) (wanted on v) (λ _. tt) (λ _. e)
off_kept (Look on n) false v e = e
off_kept (Rest on n) ack v e = try_off on n e

pub switch_counts : (s : Switch) (ack : Bool) → counted (switch_ask s) ack ≡ 0
switch_counts (Flip true n) ack = refl
switch_counts (Flip false n) ack = refl
switch_counts (Clear n) ack = refl
switch_counts (Look on n) ack = refl
switch_counts (Rest on n) ack = refl

open_waited_lem : (x : Progress Wait) → WaitedIn x → OpenedIn (open_waited x)
open_waited_lem (Ok (Some w)) h = h
open_waited_lem (Ok None) h = refl
open_waited_lem (Err e) h = tt

open_kept : (o : Open) (ack : Bool) (v : ℕ) → open_sound o ≡ true → OpenedIn (open_step o ack v)
open_kept O.Present true v e = refl
open_kept O.Present false v e = tt
open_kept (O.Wait w) ack v e = open_waited_lem (wait_step w ack) (wait_kept w ack e)
open_kept O.Look true v e = pick_cases OpenedIn (open_bit v) (λ _. tt) (λ _. tt)
open_kept O.Look false v e = tt

store_waited_lem : (x : Progress Wait) → WaitedIn x → StoredIn (store_waited x)
store_waited_lem (Ok (Some w)) h = h
store_waited_lem (Ok None) h = refl
store_waited_lem (Err e) h = tt

store_kept : (value : ℕ) (s : Store) (ack : Bool) (v : ℕ) → store_sound s ≡ true → StoredIn (store_step value s ack v)
store_kept value T.Send true v e = refl
store_kept value T.Send false v e = tt
store_kept value T.Pause ack v e = refl
store_kept value (T.Wait w) ack v e = store_waited_lem (wait_step w ack) (wait_kept w ack e)
store_kept value T.Look true v e = pick_cases StoredIn (eqb v value) (λ _. tt) (λ _. tt)
store_kept value T.Look false v e = tt

setup_opened_lem : (f : Bool) (x : Progress Open) → OpenedIn x → SetupIn (setup_opened f x)
setup_opened_lem f (Ok (Some o)) h = h
setup_opened_lem true (Ok None) h = refl
setup_opened_lem false (Ok None) h = refl
setup_opened_lem f (Err e) h = tt

setup_stored_lem : (j : Job) (x : Progress Store) → StoredIn x → SetupIn (setup_stored j x)
setup_stored_lem j (Ok (Some s)) h = h
setup_stored_lem J.Config (Ok None) h = refl
setup_stored_lem J.Sleep (Ok None) h = refl
setup_stored_lem J.Events (Ok None) h = tt
setup_stored_lem j (Err e) h = tt

pub setup_kept : (s : Setup) (ack : Bool) (got : List ℕ) → setup_sound s ≡ true → SetupIn (setup_step s ack got)
setup_kept I.Identify true got e = pick_cases SetupIn (is_the_part (take 12 got)) (λ _. refl) (λ _. tt)
setup_kept I.Identify false got e = tt
setup_kept I.Config true got e = pick_cases SetupIn (is_set_up (first got)) (λ _. refl) (λ _. refl)
setup_kept I.Config false got e = tt
setup_kept (I.Open f o) ack got e = setup_opened_lem f (open_step o ack (first got)) (open_kept o ack (first got) e)
setup_kept (I.Store j s) ack got e = setup_stored_lem j (store_step (job_value j) s ack (first got)) (store_kept (job_value j) s ack (first got) e)
setup_kept I.Events true got e = pick_cases SetupIn (reports (first got)) (λ _. tt) (λ _. refl)
setup_kept I.Events false got e = tt

pub setup_counts : (s : Setup) (ack : Bool) → counted (setup_ask s) ack ≡ 0
setup_counts I.Identify ack = refl
setup_counts I.Config ack = refl
setup_counts (I.Open f O.Present) ack = refl
setup_counts (I.Open f (O.Wait w)) ack = wait_counts w ack
setup_counts (I.Open f O.Look) ack = refl
setup_counts (I.Store j T.Send) ack = refl
setup_counts (I.Store j T.Pause) ack = refl
setup_counts (I.Store j (T.Wait w)) ack = wait_counts w ack
setup_counts (I.Store j T.Look) ack = refl
setup_counts I.Events ack = refl

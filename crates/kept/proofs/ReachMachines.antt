-- The machines that program no row reach every state of theirs: a wait, a switch, the setup.
use mathlib.Core.Path.{◌≡◌, refl, subst}
use mathlib.Core.Bool.{Bool, true, false}
use mathlib.Core.List.{List, [], ◌∷◌, ◌++◌}
use Prim.Native.Nat.{ℕ, suc, ◌+◌, ◌-◌, ◌≤◌, ◌<◌}
use native.Mathlib.Omega.{arith}
use lib.ListN.{length, replicate}
use lib.Dec.{ltb}
use borrow.Author.Tests.{ltb-true}
use Rattle.std.specs.Prelude.{Ok, Some}
use Rattle.protocol.specs.Mark.{Mark}
use Rattle.machine.specs.Wait.{wait_new, wait_ask, wait_step}
use Rattle.machine.specs.Switch.{switch_new, switch_ask, switch_step}
use Rattle.setup.specs.Setup.{setup_ask, setup_step}
use Rattle.machine.specs.declared.wait.Wait.{Wait}
use Rattle.machine.specs.declared.wait.Wait.TheVariants.{Poll, Pause}
use Rattle.machine.specs.declared.switch.Switch.{Switch}
use Rattle.machine.specs.declared.switch.Switch.TheVariants.{Flip, Clear, Look, Rest}
use Rattle.password.specs.declared.Open.{Open}
use Rattle.password.specs.declared.Open.TheVariants as O
use Rattle.storing.specs.declared.Store.{Store}
use Rattle.storing.specs.declared.Store.TheVariants as T
use Rattle.setup.specs.declared.setup.Job.{Job}
use Rattle.setup.specs.declared.setup.Job.TheVariants as J
use Rattle.setup.specs.declared.setup.Setup.{Setup}
use Rattle.setup.specs.declared.setup.Setup.TheVariants as I
use Rattle.stages.specs.Turns.{stage_ask, stage_step}
use Rattle.stages.specs.declared.stage.Stage.{Stage}
use Rattle.stages.specs.declared.stage.Turn.TheVariants as D
use Rattle.session.specs.Sound.{wait_sound, open_sound, store_sound, setup_sound, switch_sound, off_sound}
use Rattle.kept.specs.Bytes.{Bytes}
use Rattle.kept.specs.Kept.{asked, Answers, Kept}
use Rattle.kept.proofs.Machines.{wait_counts, switch_counts, setup_counts}
use Rattle.kept.proofs.Replies.{bytes-none, bytes-more, bytes-zeros, bytes-both, says_none, says-one}
use Rattle.kept.proofs.Reach.{at, onto, along, downward}

wait_asked : (w : Wait) → asked (wait_ask w) ≡ 0
wait_asked (Poll n) = refl
wait_asked (Pause n) = refl

switch_asked : (s : Switch) → asked (switch_ask s) ≤ 1
switch_asked (Flip true n) = omega arith
switch_asked (Flip false n) = omega arith
switch_asked (Clear n) = omega arith
switch_asked (Look on n) = omega arith
switch_asked (Rest on n) = omega arith

-- a wait inside a stage
module _ (m : Mark) (rows n : ℕ) (lent : List ℕ) (l : length lent ≡ n) (b : Bytes lent) (f : Wait → Stage)
    (step : (w v : Wait) (ack : Bool) → wait_step w ack ≡ Ok (Some v) → stage_step lent m (f w) ack [] ≡ D.Open m (f v))
    (asks : (w : Wait) → stage_ask n (f w) ≡ wait_ask w) where
  polls : (w v : Wait) (ack : Bool) → wait_step w ack ≡ Ok (Some v) → Kept (at m rows n (f w)) → Kept (at m rows n (f v))
  polls w v ack e =
      onto m m rows rows n (f w) (f v) (wait_ask w) lent ack [] (asks w) l b (says_none (wait_ask w) (wait_asked w)) (step w v ack e) (omega (arith, wait_counts w ack))

  paused : (k : ℕ) → Kept (at m rows n (f (Poll k))) → Kept (at m rows n (f (Pause k)))
  paused k = polls (Poll k) (Pause k) false refl

  again : (k : ℕ) → Kept (at m rows n (f (Poll (suc k)))) → Kept (at m rows n (f (Poll k)))
  again k h = polls (Pause (suc k)) (Poll k) true refl (paused (suc k) h)

  polled : (k : ℕ) → ltb k 100 ≡ true → Kept (at m rows n (f wait_new)) → Kept (at m rows n (f (Poll k)))
  polled k e h =
      let g = ltb-true k 100 e in
      let q : 99 ≡ 99 - k + k = omega (arith, g) in
      downward (λ (i : ℕ). Kept (at m rows n (f (Poll i)))) again (99 - k) k (subst (λ (i : ℕ). Kept (at m rows n (f (Poll i)))) q h)

  pub wait_reached : (w : Wait) → wait_sound w ≡ true → Kept (at m rows n (f wait_new)) → Kept (at m rows n (f w))
  wait_reached (Poll k) e h = polled k e h
  wait_reached (Pause k) e h = paused k (polled k e h)

-- RF, switched inside a stage
module _ (m : Mark) (f : Switch → Stage)
    (step : (s t : Switch) (ack : Bool) (v : ℕ) → switch_step s ack v ≡ Ok (Some t) → stage_step [] m (f s) ack (v ∷ []) ≡ D.Open m (f t))
    (asks : (s : Switch) → stage_ask 0 (f s) ≡ switch_ask s) where
  abbrev Here : Switch → Type 0
  Here s = Kept (at m 0 0 (f s))

  moves : (s t : Switch) (ack : Bool) → switch_step s ack 0 ≡ Ok (Some t) → Here s → Here t
  moves s t ack e =
      along m (f s) (f t) (switch_ask s) ack (0 ∷ []) (asks s) (says-one (switch_ask s) 0 (switch_asked s) (omega arith)) (step s t ack 0 e) (switch_counts s ack)

  again_on : (on : Bool) (k : ℕ) → Here (Flip on (suc k)) → Here (Flip on k)
  again_on on k h = moves (Rest on (suc k)) (Flip on k) true refl (moves (Flip on (suc k)) (Rest on (suc k)) false refl h)

  flips : (on : Bool) (k : ℕ) → ltb k 10 ≡ true → Here (switch_new on) → Here (Flip on k)
  flips on k e h =
      let g = ltb-true k 10 e in
      let q : 9 ≡ 9 - k + k = omega (arith, g) in
      downward (λ (i : ℕ). Here (Flip on i)) (again_on on) (9 - k) k (subst (λ (i : ℕ). Here (Flip on i)) q h)

  looks : (on : Bool) (k : ℕ) → Here (Flip on k) → Here (Look on k)
  looks true k h = moves (Clear k) (Look true k) true refl (moves (Flip true k) (Clear k) true refl h)
  looks false k h = moves (Flip false k) (Look false k) true refl h

  pub switch_reached : (s : Switch) → switch_sound s ≡ true → Here (switch_new true) → Here (switch_new false) → Here s
  switch_reached (Flip true k) e h g = flips true k e h
  switch_reached (Flip false k) e h g = flips false k e g
  switch_reached (Clear k) e h g = moves (Flip true k) (Clear k) true refl (flips true k e h)
  switch_reached (Look true k) e h g = looks true k (flips true k e h)
  switch_reached (Look false k) e h g = looks false k (flips false k e g)
  switch_reached (Rest true k) e h g = moves (Flip true k) (Rest true k) false refl (flips true k e h)
  switch_reached (Rest false k) e h g = moves (Flip false k) (Rest false k) false refl (flips false k e g)

  pub off_reached : (s : Switch) → off_sound s ≡ true → Here (switch_new false) → Here s
  off_reached (Flip true k) e g = absurd (let z : ◌≡◌ {A = ℕ} 0 1 = cc in omega arith)
  off_reached (Flip false k) e g = flips false k e g
  off_reached (Clear k) e g = absurd (let z : ◌≡◌ {A = ℕ} 0 1 = cc in omega arith)
  off_reached (Look true k) e g = absurd (let z : ◌≡◌ {A = ℕ} 0 1 = cc in omega arith)
  off_reached (Look false k) e g = looks false k (flips false k e g)
  off_reached (Rest true k) e g = absurd (let z : ◌≡◌ {A = ℕ} 0 1 = cc in omega arith)
  off_reached (Rest false k) e g = moves (Flip false k) (Rest false k) false refl (flips false k e g)

-- what a part of the right kind says of itself: MEM_SIZE, and at the end of the UID its prefix
abbrev part_end : List ℕ
part_end = replicate 9 0 ++ (0xE0 ∷ [])

abbrev the_part : List ℕ
the_part = 255 ∷ 7 ∷ part_end

part_bytes : Bytes the_part
part_bytes =
    bytes-more 255 (7 ∷ part_end) (omega arith) (bytes-more 7 part_end (omega arith)
    (bytes-both (replicate 9 0) (0xE0 ∷ []) (bytes-zeros 9) (bytes-more 0xE0 [] (omega arith) bytes-none)))

-- the setup inside a stage
module _ (m : Mark) (f : Setup → Stage)
    (step : (s t : Setup) (ack : Bool) (got : List ℕ) → setup_step s ack got ≡ Ok (Some t) → stage_step [] m (f s) ack got ≡ D.Open m (f t))
    (asks : (s : Setup) → stage_ask 0 (f s) ≡ setup_ask s) (begun : Kept (at m 0 0 (f I.Identify))) where
  abbrev Now : Setup → Type 0
  Now s = Kept (at m 0 0 (f s))

  goes : (s t : Setup) (got : List ℕ) → Answers (setup_ask s) got → setup_step s true got ≡ Ok (Some t) → Now s → Now t
  goes s t got g e = along m (f s) (f t) (setup_ask s) true got (asks s) g (step s t true got e) (setup_counts s true)

  -- a transfer that reads nothing, and one that reads a byte
  does : (s t : Setup) → asked (setup_ask s) ≡ 0 → setup_step s true [] ≡ Ok (Some t) → Now s → Now t
  does s t n = goes s t [] (says_none (setup_ask s) n)

  reads : (s t : Setup) (x : ℕ) → asked (setup_ask s) ≤ 1 → x < 256 → setup_step s true (x ∷ []) ≡ Ok (Some t) → Now s → Now t
  reads s t x n h = goes s t (x ∷ []) (says-one (setup_ask s) x n h)

  config : Now I.Config
  config = goes I.Identify I.Config the_part (record { bytes = part_bytes; enough = omega arith }) refl begun

  events : Now I.Events
  events = reads I.Config I.Events 0x3A (omega arith) (omega arith) refl config

  presents : (b : Bool) → Now (I.Open b O.Present)
  presents true = reads I.Config (I.Open true O.Present) 0 (omega arith) (omega arith) refl config
  presents false = reads I.Events (I.Open false O.Present) 0 (omega arith) (omega arith) refl events

  open_waits : (b : Bool) (w : Wait) → wait_sound w ≡ true → Now (I.Open b (O.Wait w))
  open_waits b w e =
      wait_reached m 0 0 [] refl bytes-none (λ x. f (I.Open b (O.Wait x)))
      (λ x y ack q. step (I.Open b (O.Wait x)) (I.Open b (O.Wait y)) ack [] (rw q)) (λ x. asks (I.Open b (O.Wait x))) w e
      (does (I.Open b O.Present) (I.Open b (O.Wait wait_new)) refl refl (presents b))

  opens : (b : Bool) (o : Open) → open_sound o ≡ true → Now (I.Open b o)
  opens b O.Present e = presents b
  opens b (O.Wait w) e = open_waits b w e
  opens b O.Look e = does (I.Open b (O.Wait wait_new)) (I.Open b O.Look) refl refl (open_waits b wait_new refl)

  -- a byte that is written, from its first transfer
  store_waits : (j : Job) (w : Wait) → wait_sound w ≡ true → Now (I.Store j T.Send) → Now (I.Store j (T.Wait w))
  store_waits j w e h =
      wait_reached m 0 0 [] refl bytes-none (λ x. f (I.Store j (T.Wait x)))
      (λ x y ack q. step (I.Store j (T.Wait x)) (I.Store j (T.Wait y)) ack [] (rw q)) (λ x. asks (I.Store j (T.Wait x))) w e
      (does (I.Store j T.Pause) (I.Store j (T.Wait wait_new)) refl refl (does (I.Store j T.Send) (I.Store j T.Pause) refl refl h))

  stores : (j : Job) (s : Store) → store_sound s ≡ true → Now (I.Store j T.Send) → Now (I.Store j s)
  stores j T.Send e h = h
  stores j T.Pause e h = does (I.Store j T.Send) (I.Store j T.Pause) refl refl h
  stores j (T.Wait w) e h = store_waits j w e h
  stores j T.Look e h = does (I.Store j (T.Wait wait_new)) (I.Store j T.Look) refl refl (store_waits j wait_new refl h)

  -- the first byte of the setup that is done once
  sends-first : Now (I.Store J.Config T.Send)
  sends-first = reads (I.Open true O.Look) (I.Store J.Config T.Send) 1 (omega arith) (omega arith) refl (opens true O.Look refl)

  sends : (j : Job) → Now (I.Store j T.Send)
  sends J.Config = sends-first
  sends J.Sleep = reads (I.Store J.Config T.Look) (I.Store J.Sleep T.Send) 0x3A (omega arith) (omega arith) refl (stores J.Config T.Look refl sends-first)
  sends J.Events = reads (I.Open false O.Look) (I.Store J.Events T.Send) 1 (omega arith) (omega arith) refl (opens false O.Look refl)

  pub setup_reached : (s : Setup) → setup_sound s ≡ true → Now s
  setup_reached I.Identify e = begun
  setup_reached I.Config e = config
  setup_reached (I.Open b o) e = opens b o e
  setup_reached (I.Store j s) e = stores j s e (sends j)
  setup_reached I.Events e = events

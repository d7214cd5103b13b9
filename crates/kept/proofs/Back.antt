-- The numbers of a session are its own: read back they give that session.
use mathlib.Core.Path.{◌≡◌, refl, ap, ap₂, ◌∙◌}
use mathlib.Core.Bool.{Bool, true, false}
use Prim.Native.Nat.{ℕ, ◌+◌, ◌*◌, ◌/◌, ◌%◌}
use lib.Dec.{eqb}
use Rattle.std.specs.Prelude.{Option, Some, None}
use Rattle.slices.specs.Pick.{pick}
use Rattle.machine.specs.declared.wait.Wait.{Wait}
use Rattle.machine.specs.declared.wait.Wait.TheVariants as W
use Rattle.machine.specs.declared.switch.Switch.{Switch}
use Rattle.machine.specs.declared.switch.Switch.TheVariants as S
use Rattle.password.specs.declared.Open.{Open}
use Rattle.password.specs.declared.Open.TheVariants as O
use Rattle.storing.specs.declared.Store.{Store}
use Rattle.storing.specs.declared.Store.TheVariants as T
use Rattle.setup.specs.declared.setup.Job.{Job}
use Rattle.setup.specs.declared.setup.Job.TheVariants as J
use Rattle.setup.specs.declared.setup.Setup.{Setup}
use Rattle.setup.specs.declared.setup.Setup.TheVariants as U
use Rattle.wipe.specs.declared.scrub.Chunk.{Chunk}
use Rattle.wipe.specs.declared.scrub.Rows.{Rows}
use Rattle.wipe.specs.declared.scrub.Scrub.{Scrub}
use Rattle.wipe.specs.declared.scrub.Scrub.TheVariants as C
use Rattle.writing.specs.declared.write.Write.{Write}
use Rattle.writing.specs.declared.write.Write.TheVariants as K
use Rattle.stages.specs.declared.stage.Stage.{Stage}
use Rattle.stages.specs.declared.stage.Stage.TheVariants as G
use Rattle.session.specs.declared.session.Session.{Session}
use Rattle.numbers.specs.Flat.{bit_of, wait_code, job_code, open_code, store_code, setup_code, switch_code, scrub_code, write_code, row_place, scrub_place, write_place, stage_tag, stage_code, stage_place, now_flat, flatten}
use Rattle.numbers.specs.From.{wait_from, setup_from, switch_from, rows_from, scrub_from, write_from, now_from, session_from}

bit_back : (b : Bool) → eqb (bit_of b) 1 ≡ b
bit_back true = refl
bit_back false = refl

wait_back : (phase which : ℕ) (w : Wait) → wait_from (wait_code phase which w) ≡ w
wait_back phase which (W.Poll n) = refl
wait_back phase which (W.Pause n) = refl

open_back : (f : Bool) (o : Open) → setup_from (open_code f o) ≡ U.Open f o
open_back f O.Present = ap (λ (b : Bool). U.Open b O.Present) (bit_back f)
open_back f (O.Wait (W.Poll n)) = ap (λ (b : Bool). U.Open b (O.Wait (W.Poll n))) (bit_back f)
open_back f (O.Wait (W.Pause n)) = ap (λ (b : Bool). U.Open b (O.Wait (W.Pause n))) (bit_back f)
open_back f O.Look = ap (λ (b : Bool). U.Open b O.Look) (bit_back f)

job_back : (j : Job) → pick (eqb (job_code j) 1) J.Config (pick (eqb (job_code j) 2) J.Sleep J.Events) ≡ j
job_back J.Config = refl
job_back J.Sleep = refl
job_back J.Events = refl

store_back : (j : Job) (s : Store) → setup_from (store_code j s) ≡ U.Store j s
store_back j T.Send = ap (λ (k : Job). U.Store k T.Send) (job_back j)
store_back j T.Pause = ap (λ (k : Job). U.Store k T.Pause) (job_back j)
store_back j (T.Wait (W.Poll n)) = ap (λ (k : Job). U.Store k (T.Wait (W.Poll n))) (job_back j)
store_back j (T.Wait (W.Pause n)) = ap (λ (k : Job). U.Store k (T.Wait (W.Pause n))) (job_back j)
store_back j T.Look = ap (λ (k : Job). U.Store k T.Look) (job_back j)

setup_back : (s : Setup) → setup_from (setup_code s) ≡ s
setup_back U.Identify = refl
setup_back U.Config = refl
setup_back (U.Open f o) = open_back f o
setup_back (U.Store j s) = store_back j s
setup_back U.Events = refl

switch_back : (s : Switch) → switch_from (switch_code s) ≡ s
switch_back (S.Flip on n) = ap (λ (b : Bool). S.Flip b n) (bit_back on)
switch_back (S.Clear n) = refl
switch_back (S.Look on n) = ap (λ (b : Bool). S.Look b n) (bit_back on)
switch_back (S.Rest on n) = ap (λ (b : Bool). S.Rest b n) (bit_back on)

-- three bits of a number
bits_back : (x y z : Bool)
    → (eqb ((bit_of x + 2 * bit_of y + 4 * bit_of z) % 2) 1 ≡ x) × (eqb ((bit_of x + 2 * bit_of y + 4 * bit_of z) / 2 % 2) 1 ≡ y)
    × (eqb ((bit_of x + 2 * bit_of y + 4 * bit_of z) / 4 % 2) 1 ≡ z)
bits_back true true true = (refl, refl, refl)
bits_back true true false = (refl, refl, refl)
bits_back true false true = (refl, refl, refl)
bits_back true false false = (refl, refl, refl)
bits_back false true true = (refl, refl, refl)
bits_back false true false = (refl, refl, refl)
bits_back false false true = (refl, refl, refl)
bits_back false false false = (refl, refl, refl)

rows_back : (p : Chunk) (r : Rows) → rows_from (row_place p r) ≡ r
rows_back p r = let e = bits_back r.x r.y r.z in λ i. record { row = r.row; x = e.0 i; y = e.1 i; z = e.2 i }

scrub_back : (stuck : ℕ) (s : Scrub) → scrub_from (scrub_code stuck s) (scrub_place s) ≡ s
scrub_back stuck (C.Read p) = refl
scrub_back stuck (C.Row p r) = ap (C.Row p) (rows_back p r)
scrub_back stuck (C.Wait p r (W.Poll n)) = ap (λ (q : Rows). C.Wait p q (W.Poll n)) (rows_back p r)
scrub_back stuck (C.Wait p r (W.Pause n)) = ap (λ (q : Rows). C.Wait p q (W.Pause n)) (rows_back p r)
scrub_back stuck (C.Reread p) = refl

scrub_which : (stuck : ℕ) (s : Scrub) → (scrub_code stuck s).which ≡ stuck
scrub_which stuck (C.Read p) = refl
scrub_which stuck (C.Row p r) = refl
scrub_which stuck (C.Wait p r (W.Poll n)) = refl
scrub_which stuck (C.Wait p r (W.Pause n)) = refl
scrub_which stuck (C.Reread p) = refl

write_back : (w : Write) → write_from (write_code w) (write_place w) ≡ w
write_back (K.Row p) = refl
write_back (K.Wait p (W.Poll n)) = refl
write_back (K.Wait p (W.Pause n)) = refl
write_back (K.Check c) =
    let e = bit_back c.alike in
    λ i. K.Check (record { left = c.left; start = c.start; done = c.done; alike = e i })

stage_back : (st : Stage) → now_from (stage_tag st) (stage_code st) (stage_place st) ≡ Some st
stage_back G.Identify = refl
stage_back (G.Prepare s) = ap (λ (x : Setup). Some (G.Prepare x)) (setup_back s)
stage_back (G.WaitReady w) = ap (λ (x : Wait). Some (G.WaitReady x)) (wait_back 0 0 w)
stage_back (G.ReadUser at n) = refl
stage_back (G.Write w) = ap (λ (x : Write). Some (G.Write x)) (write_back w)
stage_back (G.Switching s) = ap (λ (x : Switch). Some (G.Switching x)) (switch_back s)
stage_back G.RfWrote = refl
stage_back (G.WholeOff s) = ap (λ (x : Switch). Some (G.WholeOff x)) (switch_back s)
stage_back G.WholeStatus = refl
stage_back G.WholeRead = refl
stage_back (G.Wipe s) = ap (λ (x : Scrub). Some (G.Wipe x)) (scrub_back 0 s)
stage_back (G.BeginSetup s) = ap (λ (x : Setup). Some (G.BeginSetup x)) (setup_back s)
stage_back (G.BeginOff s) = ap (λ (x : Switch). Some (G.BeginOff x)) (switch_back s)
stage_back G.LiveStatus = refl
stage_back (G.FinishOff s) = ap (λ (x : Switch). Some (G.FinishOff x)) (switch_back s)
stage_back (G.FinishStatus stuck) = ap (λ (b : Bool). Some (G.FinishStatus b)) (bit_back stuck)
stage_back (G.FinishWipe stuck s) =
    ap₂ (λ (b : Bool) (x : Scrub). Some (G.FinishWipe b x)) (ap (λ (n : ℕ). eqb n 1) (scrub_which (bit_of stuck) s) ∙ bit_back stuck) (scrub_back (bit_of stuck) s)

now_back : (m r l : ℕ) (n : Option Stage) → session_from (now_flat m r l n) ≡ record { mark = m; rows = r; lent = l; now = n }
now_back m r l None = refl
now_back m r l (Some st) = ap {B = Session} (λ (n : Option Stage). record { mark = m; rows = r; lent = l; now = n }) (stage_back st)

pub flat_back : (s : Session) → session_from (flatten s) ≡ s
flat_back s = now_back s.mark s.rows s.lent s.now

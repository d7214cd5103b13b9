-- A session as numbers: the layout of the state's bytes, by name. From no public document: docs/ARCHITECTURE.md, 'The state'.
--
--   flatten s                 == the numbers of the session s
--   now_flat mark rows lent now == the same, by its mark, the rows programmed, the length of the data, and what is under way
--   stage_tag st               == 2 to 18, by the order of the stages; 1 is between two calls. No state begins with a zero byte
--   stage_code st, stage_place st == what its machine is at, and where
--   code_of phase inner which count == what a machine is at: its tag, the tag of the machine inside it, a choice, the polls or tries left
--   no_code                    == zeros: no machine
--   job_code j                 == which byte a setup writes: 1 I2C_CFG, 2 RF_MNGT, 3 GPO1
--   wait_code, open_code, store_code, setup_code, switch_code, scrub_code, write_code == the tags of each machine, and of a wait inside it:
--                                1 polls, 2 pauses
--   place_at left at end row   == where it is, with no rows to come: what is left of the loop, the place, the end, the row
--   no_place                   == zeros: no place
--   scrub_place, write_place, row_place, chunk_place == their places
--   bit_of b, bits_of r         == a bool as 0 or 1; the three rows to come as bits 0 to 2
use Rattle.std.specs.Prelude.{ℕ, ◌+◌, ◌*◌, Bool, true, false, Option, Some, None}
use Rattle.machine.specs.declared.wait.Wait.{Wait}
use Rattle.machine.specs.declared.wait.Wait.TheVariants as W
use Rattle.machine.specs.declared.switch.Switch.{Switch}
use Rattle.machine.specs.declared.switch.Switch.TheVariants as S
use Rattle.password.specs.declared.Open.{Open}
use Rattle.password.specs.declared.Open.TheVariants as O
use Rattle.storing.specs.declared.Store.{Store}
use Rattle.storing.specs.declared.Store.TheVariants as T
use Rattle.setup.specs.declared.setup.Job.{Job}
use Rattle.setup.specs.declared.setup.Job.TheVariants as J
use Rattle.setup.specs.declared.setup.Setup.{Setup}
use Rattle.setup.specs.declared.setup.Setup.TheVariants as U
use Rattle.wipe.specs.declared.scrub.Chunk.{Chunk}
use Rattle.wipe.specs.declared.scrub.Rows.{Rows}
use Rattle.wipe.specs.declared.scrub.Scrub.{Scrub}
use Rattle.wipe.specs.declared.scrub.Scrub.TheVariants as C
use Rattle.writing.specs.declared.write.Write.{Write}
use Rattle.writing.specs.declared.write.Write.TheVariants as K
use Rattle.stages.specs.declared.stage.Stage.{Stage}
use Rattle.stages.specs.declared.stage.Stage.TheVariants as G
use Rattle.session.specs.declared.session.Session.{Session}
use Rattle.numbers.specs.declared.flat.Code.{Code}
use Rattle.numbers.specs.declared.flat.Place.{Place}
use Rattle.numbers.specs.declared.flat.Flat.{Flat}

abbrev pub bit_of : Bool → ℕ
bit_of true = 1
bit_of false = 0

abbrev pub code_of : ℕ → ℕ → ℕ → ℕ → Code
code_of phase inner which count = record { phase = phase; inner = inner; which = which; count = count }

abbrev pub no_code : Code
no_code = code_of 0 0 0 0

abbrev pub wait_code : ℕ → ℕ → Wait → Code
wait_code phase which (W.Poll n) = code_of phase 1 which n
wait_code phase which (W.Pause n) = code_of phase 2 which n

abbrev pub open_code : Bool → Open → Code
open_code first O.Present = code_of 4 3 (bit_of first) 0
open_code first (O.Wait w) = wait_code 4 (bit_of first) w
open_code first O.Look = code_of 4 4 (bit_of first) 0

abbrev pub job_code : Job → ℕ
job_code J.Config = 1
job_code J.Sleep = 2
job_code J.Events = 3

abbrev pub store_code : Job → Store → Code
store_code j T.Send = code_of 5 3 (job_code j) 0
store_code j T.Pause = code_of 5 4 (job_code j) 0
store_code j (T.Wait w) = wait_code 5 (job_code j) w
store_code j T.Look = code_of 5 5 (job_code j) 0

abbrev pub setup_code : Setup → Code
setup_code U.Identify = code_of 1 0 0 0
setup_code U.Config = code_of 2 0 0 0
setup_code (U.Open first o) = open_code first o
setup_code (U.Store j t) = store_code j t
setup_code U.Events = code_of 3 0 0 0

abbrev pub switch_code : Switch → Code
switch_code (S.Flip on n) = code_of 1 0 (bit_of on) n
switch_code (S.Clear n) = code_of 2 0 0 n
switch_code (S.Look on n) = code_of 3 0 (bit_of on) n
switch_code (S.Rest on n) = code_of 4 0 (bit_of on) n

abbrev pub scrub_code : ℕ → Scrub → Code
scrub_code stuck (C.Read p) = code_of 1 0 stuck 0
scrub_code stuck (C.Row p r) = code_of 2 0 stuck 0
scrub_code stuck (C.Wait p r w) = wait_code 3 stuck w
scrub_code stuck (C.Reread p) = code_of 4 0 stuck 0

abbrev pub write_code : Write → Code
write_code (K.Row p) = code_of 1 0 0 0
write_code (K.Wait p w) = wait_code 2 0 w
write_code (K.Check c) = code_of 3 0 (bit_of c.alike) 0

abbrev pub place_at : ℕ → ℕ → ℕ → ℕ → Place
place_at left at end row = record { bits = 0; left = left; at = at; end = end; row = row }

abbrev pub no_place : Place
no_place = place_at 0 0 0 0

abbrev pub bits_of : Rows → ℕ
bits_of r = bit_of r.x + 2 * bit_of r.y + 4 * bit_of r.z

abbrev pub chunk_place : Chunk → Place
chunk_place p = place_at p.left p.at p.end 0

abbrev pub row_place : Chunk → Rows → Place
row_place p r = record { bits = bits_of r; left = p.left; at = p.at; end = p.end; row = r.row }

abbrev pub scrub_place : Scrub → Place
scrub_place (C.Read p) = chunk_place p
scrub_place (C.Row p r) = row_place p r
scrub_place (C.Wait p r w) = row_place p r
scrub_place (C.Reread p) = chunk_place p

abbrev pub write_place : Write → Place
write_place (K.Row p) = place_at p.left p.start 0 p.done
write_place (K.Wait p w) = place_at p.left p.start 0 p.done
write_place (K.Check c) = place_at c.left c.start 0 c.done

abbrev pub stage_tag : Stage → ℕ
stage_tag G.Identify = 2
stage_tag (G.Prepare s) = 3
stage_tag (G.WaitReady w) = 4
stage_tag (G.ReadUser at n) = 5
stage_tag (G.Write w) = 6
stage_tag (G.Switching s) = 7
stage_tag G.RfWrote = 8
stage_tag (G.WholeOff s) = 9
stage_tag G.WholeStatus = 10
stage_tag G.WholeRead = 11
stage_tag (G.Wipe s) = 12
stage_tag (G.BeginSetup s) = 13
stage_tag (G.BeginOff s) = 14
stage_tag G.LiveStatus = 15
stage_tag (G.FinishOff s) = 16
stage_tag (G.FinishStatus stuck) = 17
stage_tag (G.FinishWipe stuck s) = 18

abbrev pub stage_code : Stage → Code
stage_code G.Identify = no_code
stage_code (G.Prepare s) = setup_code s
stage_code (G.WaitReady w) = wait_code 0 0 w
stage_code (G.ReadUser at n) = no_code
stage_code (G.Write w) = write_code w
stage_code (G.Switching s) = switch_code s
stage_code G.RfWrote = no_code
stage_code (G.WholeOff s) = switch_code s
stage_code G.WholeStatus = no_code
stage_code G.WholeRead = no_code
stage_code (G.Wipe s) = scrub_code 0 s
stage_code (G.BeginSetup s) = setup_code s
stage_code (G.BeginOff s) = switch_code s
stage_code G.LiveStatus = no_code
stage_code (G.FinishOff s) = switch_code s
stage_code (G.FinishStatus stuck) = code_of 0 0 (bit_of stuck) 0
stage_code (G.FinishWipe stuck s) = scrub_code (bit_of stuck) s

abbrev pub stage_place : Stage → Place
stage_place G.Identify = no_place
stage_place (G.Prepare s) = no_place
stage_place (G.WaitReady w) = no_place
stage_place (G.ReadUser at n) = place_at 0 at n 0
stage_place (G.Write w) = write_place w
stage_place (G.Switching s) = no_place
stage_place G.RfWrote = no_place
stage_place (G.WholeOff s) = no_place
stage_place G.WholeStatus = no_place
stage_place G.WholeRead = no_place
stage_place (G.Wipe s) = scrub_place s
stage_place (G.BeginSetup s) = no_place
stage_place (G.BeginOff s) = no_place
stage_place G.LiveStatus = no_place
stage_place (G.FinishOff s) = no_place
stage_place (G.FinishStatus stuck) = no_place
stage_place (G.FinishWipe stuck s) = scrub_place s

abbrev pub now_flat : ℕ → ℕ → ℕ → Option Stage → Flat
now_flat mark rows lent None = record { stage = 1; code = no_code; place = no_place; mark = mark; rows = rows; lent = lent }
now_flat mark rows lent (Some st) = record { stage = stage_tag st; code = stage_code st; place = stage_place st; mark = mark; rows = rows; lent = lent }

abbrev pub flatten : Session → Flat
flatten s = now_flat s.mark s.rows s.lent s.now

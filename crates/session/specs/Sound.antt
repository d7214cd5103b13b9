-- The sessions that calls leave: between two transfers, and between two calls. Source: document 01, 'Numbers a caller gets', 34. The tests
-- are from no public document: `left_exactly` (kept/proofs/Theorems) proves that they hold of these sessions and of no other.
--
--   sound s                    == some calls, with some replies, leave the session s
--   now_sound m rows lent now   == the same for what is under way, with the mark at m, `rows` rows programmed and `lent` bytes of data
--   stage_sound m rows lent st  == the same for a stage
--   plain rows lent            == nothing is programmed and nothing lent: every stage but those of a write and a wipe
--   wait_sound, open_sound, store_sound, setup_sound == polls below the hundred
--   switch_sound s              == tries below the ten; off_sound: the same for a switch that turns RF off
--   chunk_stop m p              == where the chunk p of a wipe from the mark m stops; 0 for a chunk that no such wipe has
--   to_come bit at stop         == the row at `at` lies before `stop`, if `bit` says that it is still to be programmed
--   row_sound stop p r          == the row is one of the chunk that ends at `stop`, and so is each row that is still to be programmed
--   scrub_sound m rows s        == no more rows are programmed than lie before the place that the wipe is at
--   under m start len done     == the `len` bytes from `start` lie below the mark m, and fewer than `len` are done
--   rows_to start end           == how many rows the bytes from `start` to `end` touch
--   piece_rows m len p          == the rows of a write of `len` bytes up to its row p, that one too; 0 where p is none of them
--   check_rows m len c          == the rows of a write, all of them; 0 where c is not one of the chunks that are read back
--   write_sound m len rows w    == the rows programmed are those up to the place that the write is at
use Rattle.std.specs.Prelude.{ℕ, ◌+◌, ◌-◌, ◌*◌, ◌/◌, ◌%◌, min, Bool, true, false, not, ◌&&◌, ◌||◌, eqb, ltb, leb, Option, Some, None}
use Rattle.slices.specs.Pick.{pick}
use Rattle.scan.specs.Rows.{row, row_count}
use Rattle.protocol.specs.Tag.{user_memory, ready_polls, rf_tries, chunk}
use Rattle.protocol.specs.Mark.{Mark, wipe_end}
use Rattle.protocol.specs.Write.{past}
use Rattle.machine.specs.declared.wait.Wait.{Wait}
use Rattle.machine.specs.declared.wait.Wait.TheVariants as W
use Rattle.machine.specs.declared.switch.Switch.{Switch}
use Rattle.machine.specs.declared.switch.Switch.TheVariants as S
use Rattle.password.specs.declared.Open.{Open}
use Rattle.password.specs.declared.Open.TheVariants as O
use Rattle.storing.specs.declared.Store.{Store}
use Rattle.storing.specs.declared.Store.TheVariants as T
use Rattle.setup.specs.declared.setup.Setup.{Setup}
use Rattle.setup.specs.declared.setup.Setup.TheVariants as U
use Rattle.wipe.specs.declared.scrub.Chunk.{Chunk}
use Rattle.wipe.specs.declared.scrub.Rows.{Rows}
use Rattle.wipe.specs.declared.scrub.Scrub.{Scrub}
use Rattle.wipe.specs.declared.scrub.Scrub.TheVariants as C
use Rattle.writing.specs.declared.write.Piece.{Piece}
use Rattle.writing.specs.declared.write.Check.{Check}
use Rattle.writing.specs.declared.write.Write.{Write}
use Rattle.writing.specs.declared.write.Write.TheVariants as K
use Rattle.stages.specs.declared.stage.Stage.{Stage}
use Rattle.stages.specs.declared.stage.Stage.TheVariants as G
use Rattle.session.specs.declared.session.Session.{Session}

abbrev pub wait_sound : Wait → Bool
wait_sound (W.Poll n) = ltb n ready_polls
wait_sound (W.Pause n) = ltb n ready_polls

abbrev pub open_sound : Open → Bool
open_sound O.Present = true
open_sound (O.Wait w) = wait_sound w
open_sound O.Look = true

abbrev pub store_sound : Store → Bool
store_sound T.Send = true
store_sound T.Pause = true
store_sound (T.Wait w) = wait_sound w
store_sound T.Look = true

abbrev pub setup_sound : Setup → Bool
setup_sound U.Identify = true
setup_sound U.Config = true
setup_sound (U.Open first o) = open_sound o
setup_sound (U.Store j s) = store_sound s
setup_sound U.Events = true

abbrev pub switch_sound : Switch → Bool
switch_sound (S.Flip on n) = ltb n rf_tries
switch_sound (S.Clear n) = ltb n rf_tries
switch_sound (S.Look on n) = ltb n rf_tries
switch_sound (S.Rest on n) = ltb n rf_tries

abbrev pub off_sound : Switch → Bool
off_sound (S.Flip on n) = not on && ltb n rf_tries
off_sound (S.Clear n) = false
off_sound (S.Look on n) = not on && ltb n rf_tries
off_sound (S.Rest on n) = not on && ltb n rf_tries

abbrev pub chunk_stop : Mark → Chunk → ℕ
chunk_stop m p =
    pick (eqb p.end (wipe_end m))
    (pick (ltb p.at p.end)
    (pick (eqb (p.at % chunk) 0 && eqb p.left ((p.end - p.at - 1) / chunk)) (min p.end (p.at + chunk)) 0) 0) 0

-- a row that is still to be programmed lies before `stop`
abbrev pub to_come : Bool → ℕ → ℕ → Bool
to_come bit at stop = not bit || ltb at stop

abbrev pub row_sound : ℕ → Chunk → Rows → Bool
row_sound stop p r =
    pick (ltb r.row stop)
    (eqb (r.row / chunk) (p.at / chunk) && eqb (r.row % row) 0
    && to_come r.x (r.row + row) stop && to_come r.y (r.row + 2 * row) stop && to_come r.z (r.row + 3 * row) stop) false

abbrev pub scrub_sound : Mark → ℕ → Scrub → Bool
scrub_sound m rows (C.Read p) = ltb 0 (chunk_stop m p) && leb rows (p.at / row)
scrub_sound m rows (C.Row p r) = row_sound (chunk_stop m p) p r && leb rows (r.row / row)
scrub_sound m rows (C.Wait p r w) = row_sound (chunk_stop m p) p r && ltb 0 rows && leb rows (r.row / row + 1) && wait_sound w
scrub_sound m rows (C.Reread p) = ltb 0 rows && leb rows (chunk_stop m p / row)

-- the bytes from `start` lie below the mark, and `done` of them are done, not all
abbrev pub under : Mark → ℕ → ℕ → ℕ → Bool
under m start len done = leb start m && leb len (m - start) && ltb done len

-- the rows that the bytes from `start` to `end` touch
abbrev pub rows_to : ℕ → ℕ → ℕ
rows_to start end = (end - 1) / row - start / row + 1

abbrev pub piece_rows : Mark → ℕ → Piece → ℕ
piece_rows m len p =
    pick (under m p.start len p.done)
    (pick ((eqb p.done 0 || eqb ((p.start + p.done) % row) 0) && eqb p.left (row_count (p.start + p.done) (len - p.done) - 1))
    (rows_to p.start (p.start + p.done + 1)) 0) 0

abbrev pub check_rows : Mark → ℕ → Check → ℕ
check_rows m len c =
    pick (under m c.start len c.done)
    (pick (eqb (c.done % chunk) 0 && eqb c.left ((len - c.done - 1) / chunk) && (c.alike || ltb 0 c.done))
    (rows_to c.start (c.start + len)) 0) 0

abbrev pub write_sound : Mark → ℕ → ℕ → Write → Bool
write_sound m len rows (K.Row p) = ltb 0 (piece_rows m len p) && eqb rows (piece_rows m len p - 1)
write_sound m len rows (K.Wait p w) = ltb 0 rows && eqb rows (piece_rows m len p) && wait_sound w
write_sound m len rows (K.Check c) = ltb 0 rows && eqb rows (check_rows m len c)

abbrev pub plain : ℕ → ℕ → Bool
plain rows lent = eqb rows 0 && eqb lent 0

abbrev pub stage_sound : Mark → ℕ → ℕ → Stage → Bool
stage_sound m rows lent G.Identify = plain rows lent
stage_sound m rows lent (G.Prepare s) = plain rows lent && setup_sound s
stage_sound m rows lent (G.WaitReady w) = plain rows lent && wait_sound w
stage_sound m rows lent (G.ReadUser at n) = plain rows lent && not (past at n)
stage_sound m rows lent (G.Write w) = write_sound m lent rows w
stage_sound m rows lent (G.Switching s) = plain rows lent && switch_sound s
stage_sound m rows lent G.RfWrote = plain rows lent
stage_sound m rows lent (G.WholeOff s) = plain rows lent && off_sound s
stage_sound m rows lent G.WholeStatus = plain rows lent
stage_sound m rows lent G.WholeRead = plain rows lent
stage_sound m rows lent (G.Wipe s) = eqb lent 0 && scrub_sound m rows s
stage_sound m rows lent (G.BeginSetup s) = plain rows lent && setup_sound s
stage_sound m rows lent (G.BeginOff s) = plain rows lent && off_sound s
stage_sound m rows lent G.LiveStatus = plain rows lent
stage_sound m rows lent (G.FinishOff s) = plain rows lent && off_sound s
stage_sound m rows lent (G.FinishStatus stuck) = plain rows lent
stage_sound m rows lent (G.FinishWipe stuck s) = eqb lent 0 && scrub_sound m rows s

abbrev pub now_sound : Mark → ℕ → ℕ → Option Stage → Bool
now_sound m rows lent None = plain rows lent
now_sound m rows lent (Some st) = stage_sound m rows lent st

abbrev pub sound : Session → Bool
sound s = leb s.mark user_memory && now_sound s.mark s.rows s.lent s.now

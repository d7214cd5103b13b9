-- The session that numbers are. From no public document: the way back from the numbers of Flat.
--
--   session_from f     == the session whose numbers f are; some session where they are none's (`flatten` of it is then another)
--   now_from tag c p   == the stage of that tag, from what its machine is at, c, and where, p; below 2 nothing is under way
--   start_from, whole_from, end_from == the same for the stages 2 to 7, 8 to 13, 14 to 18
--   wait_from c, open_from c, store_from c, setup_from c, switch_from c == each machine, from what it is at
--   job_from c         == which byte a setup writes
--   scrub_from c p, write_from c p == a wipe and a write, from what they are at and where
--   chunk_from p, rows_from p == the chunk of a wipe; the row that it programs, and which of the three after it are to be
--   piece_from p, check_from c p == the row of a write; the chunk that it reads back
use Rattle.std.specs.Prelude.{ℕ, ◌/◌, ◌%◌, eqb, ltb, Option, Some, None}
use Rattle.slices.specs.Pick.{pick}
use Rattle.machine.specs.declared.wait.Wait.{Wait}
use Rattle.machine.specs.declared.wait.Wait.TheVariants as W
use Rattle.machine.specs.declared.switch.Switch.{Switch}
use Rattle.machine.specs.declared.switch.Switch.TheVariants as S
use Rattle.password.specs.declared.Open.{Open}
use Rattle.password.specs.declared.Open.TheVariants as O
use Rattle.storing.specs.declared.Store.{Store}
use Rattle.storing.specs.declared.Store.TheVariants as T
use Rattle.setup.specs.declared.setup.Job.{Job}
use Rattle.setup.specs.declared.setup.Job.TheVariants as J
use Rattle.setup.specs.declared.setup.Setup.{Setup}
use Rattle.setup.specs.declared.setup.Setup.TheVariants as U
use Rattle.wipe.specs.declared.scrub.Chunk.{Chunk}
use Rattle.wipe.specs.declared.scrub.Rows.{Rows}
use Rattle.wipe.specs.declared.scrub.Scrub.{Scrub}
use Rattle.wipe.specs.declared.scrub.Scrub.TheVariants as C
use Rattle.writing.specs.declared.write.Piece.{Piece}
use Rattle.writing.specs.declared.write.Check.{Check}
use Rattle.writing.specs.declared.write.Write.{Write}
use Rattle.writing.specs.declared.write.Write.TheVariants as K
use Rattle.stages.specs.declared.stage.Stage.{Stage}
use Rattle.stages.specs.declared.stage.Stage.TheVariants as G
use Rattle.session.specs.declared.session.Session.{Session}
use Rattle.numbers.specs.declared.flat.Code.{Code}
use Rattle.numbers.specs.declared.flat.Place.{Place}
use Rattle.numbers.specs.declared.flat.Flat.{Flat}

abbrev pub wait_from : Code → Wait
wait_from c = pick (eqb c.inner 1) (W.Poll c.count) (W.Pause c.count)

abbrev pub open_from : Code → Open
open_from c = pick (eqb c.inner 3) O.Present (pick (eqb c.inner 4) O.Look (O.Wait (wait_from c)))

abbrev pub job_from : Code → Job
job_from c = pick (eqb c.which 1) J.Config (pick (eqb c.which 2) J.Sleep J.Events)

abbrev pub store_from : Code → Store
store_from c =
    pick (eqb c.inner 3) T.Send (pick (eqb c.inner 4) T.Pause (pick (eqb c.inner 5) T.Look (T.Wait (wait_from c))))

abbrev pub setup_from : Code → Setup
setup_from c =
    pick (eqb c.phase 1) U.Identify
    (pick (eqb c.phase 2) U.Config
    (pick (eqb c.phase 3) U.Events
    (pick (eqb c.phase 4) (U.Open (eqb c.which 1) (open_from c))
    (U.Store (job_from c) (store_from c)))))

abbrev pub switch_from : Code → Switch
switch_from c =
    pick (eqb c.phase 1) (S.Flip (eqb c.which 1) c.count)
    (pick (eqb c.phase 2) (S.Clear c.count)
    (pick (eqb c.phase 3) (S.Look (eqb c.which 1) c.count)
    (S.Rest (eqb c.which 1) c.count)))

abbrev pub chunk_from : Place → Chunk
chunk_from p = record { left = p.left; at = p.at; end = p.end }

abbrev pub rows_from : Place → Rows
rows_from p = record { row = p.row; x = eqb (p.bits % 2) 1; y = eqb (p.bits / 2 % 2) 1; z = eqb (p.bits / 4 % 2) 1 }

abbrev pub scrub_from : Code → Place → Scrub
scrub_from c p =
    pick (eqb c.phase 1) (C.Read (chunk_from p))
    (pick (eqb c.phase 2) (C.Row (chunk_from p) (rows_from p))
    (pick (eqb c.phase 3) (C.Wait (chunk_from p) (rows_from p) (wait_from c))
    (C.Reread (chunk_from p))))

abbrev pub piece_from : Place → Piece
piece_from p = record { left = p.left; start = p.at; done = p.row }

abbrev pub check_from : Code → Place → Check
check_from c p = record { left = p.left; start = p.at; done = p.row; alike = eqb c.which 1 }

abbrev pub write_from : Code → Place → Write
write_from c p =
    pick (eqb c.phase 1) (K.Row (piece_from p))
    (pick (eqb c.phase 2) (K.Wait (piece_from p) (wait_from c))
    (K.Check (check_from c p)))

abbrev pub start_from : ℕ → Code → Place → Stage
start_from tag c p =
    pick (eqb tag 2) G.Identify
    (pick (eqb tag 3) (G.Prepare (setup_from c))
    (pick (eqb tag 4) (G.WaitReady (wait_from c))
    (pick (eqb tag 5) (G.ReadUser p.at p.end)
    (pick (eqb tag 6) (G.Write (write_from c p))
    (G.Switching (switch_from c))))))

abbrev pub whole_from : ℕ → Code → Place → Stage
whole_from tag c p =
    pick (eqb tag 8) G.RfWrote
    (pick (eqb tag 9) (G.WholeOff (switch_from c))
    (pick (eqb tag 10) G.WholeStatus
    (pick (eqb tag 11) G.WholeRead
    (pick (eqb tag 12) (G.Wipe (scrub_from c p))
    (G.BeginSetup (setup_from c))))))

abbrev pub end_from : ℕ → Code → Place → Stage
end_from tag c p =
    pick (eqb tag 14) (G.BeginOff (switch_from c))
    (pick (eqb tag 15) G.LiveStatus
    (pick (eqb tag 16) (G.FinishOff (switch_from c))
    (pick (eqb tag 17) (G.FinishStatus (eqb c.which 1))
    (G.FinishWipe (eqb c.which 1) (scrub_from c p)))))

abbrev pub now_from : ℕ → Code → Place → Option Stage
now_from tag c p =
    pick (ltb tag 2) None
    (pick (ltb tag 8) (Some (start_from tag c p))
    (pick (ltb tag 14) (Some (whole_from tag c p))
    (Some (end_from tag c p))))

abbrev pub session_from : Flat → Session
session_from f = record { mark = f.mark; rows = f.rows; lent = f.lent; now = now_from f.stage f.code f.place }

-- When a stage can take a step: what it will count on, index and read lies where it may.
-- From no public document: what the code requires of a stage. `able` (kept/proofs/Theorems): the stage of a session that calls leave can.
--
--   Able n o st      == the places of st lie inside the n bytes of data and leave room to count on, and `out`, of o bytes, holds the whole
--                       memory where st reads that
--   got_by st reply out == where the bytes stand that st reads: in `out` for `read_user` and the whole memory, else in the reply buffer
use Rattle.std.specs.Prelude.{◌≡◌, List, ℕ}
use Rattle.protocol.specs.Tag.{user_memory}
use Rattle.wipe.specs.Scrub.{Near}
use Rattle.writing.specs.Write.{Inside}
use Rattle.stages.specs.declared.stage.Stage.{Stage}
use Rattle.stages.specs.declared.stage.Stage.TheVariants as G

abbrev pub Able : ℕ → ℕ → Stage → Type 0
Able n o G.Identify = Unit
Able n o (G.Prepare s) = Unit
Able n o (G.WaitReady w) = Unit
Able n o (G.ReadUser at k) = Unit
Able n o (G.Write w) = Inside n w
Able n o (G.Switching s) = Unit
Able n o G.RfWrote = Unit
Able n o (G.WholeOff s) = Unit
Able n o G.WholeStatus = Unit
Able n o G.WholeRead = o ≡ user_memory
Able n o (G.Wipe s) = Near s
Able n o (G.BeginSetup s) = Unit
Able n o (G.BeginOff s) = Unit
Able n o G.LiveStatus = Unit
Able n o (G.FinishOff s) = Unit
Able n o (G.FinishStatus stuck) = Unit
Able n o (G.FinishWipe stuck s) = Near s

abbrev pub got_by : Stage → List ℕ → List ℕ → List ℕ
got_by G.Identify reply out = reply
got_by (G.Prepare s) reply out = reply
got_by (G.WaitReady w) reply out = reply
got_by (G.ReadUser at k) reply out = out
got_by (G.Write w) reply out = reply
got_by (G.Switching s) reply out = reply
got_by G.RfWrote reply out = reply
got_by (G.WholeOff s) reply out = reply
got_by G.WholeStatus reply out = reply
got_by G.WholeRead reply out = out
got_by (G.Wipe s) reply out = reply
got_by (G.BeginSetup s) reply out = reply
got_by (G.BeginOff s) reply out = reply
got_by G.LiveStatus reply out = reply
got_by (G.FinishOff s) reply out = reply
got_by (G.FinishStatus stuck) reply out = reply
got_by (G.FinishWipe stuck s) reply out = reply

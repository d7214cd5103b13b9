-- The claims of demand 3, of any program. proofs/Theorems has them for the program of crate `protocol`, crate `thrown_out` for each program
-- of Slips one that fails. Source: document 01, 'Session order'.
--
--   NothingLeft t            == `begin` after any power-up, with the mark at the whole part, ends Clean
--   CoveredOrReported t      == between two calls of a session the mark Covers every non-zero byte, or a phone's write is reported
--   FinishLeavesNothing t    == `finish`, whenever it comes in a session, ends Clean
--   ScrubExact t             == `scrub` with RF off and no cycle running is Exact
use Rattle.std.specs.Prelude.{◌≡◌, true, false, ◌⊎◌}
use Rattle.protocol.specs.Mark.{Mark, whole}
use Rattle.protocol.specs.Call.{begin, finish, scrub}
use Rattle.part.specs.Part.{Part, ThePart, rf_on, free}
use Rattle.nothing_left.specs.Programs.{Program}
use Rattle.nothing_left.specs.Runs.{Moments, run_by, Clean}
use Rattle.nothing_left.specs.Histories.{PowerUpBy}
use Rattle.nothing_left.specs.Sessions.{Phase, SessionBy, Covered}
use Rattle.nothing_left.specs.Rows.{Exact}

abbrev pub NothingLeft : Program → Type 0
NothingLeft t = (p : Part) → PowerUpBy t p → (w : Moments) → Clean (run_by t begin whole p w)

abbrev pub CoveredOrReported : Program → Type 0
CoveredOrReported t = (f : Phase) (m : Mark) (p : Part) → SessionBy t f m p → (p.registers.reported ≡ true) ⊎ Covered m p.memory

abbrev pub FinishLeavesNothing : Program → Type 0
FinishLeavesNothing t = (f : Phase) (m : Mark) (p : Part) → SessionBy t f m p → (w : Moments) → Clean (run_by t finish m p w)

abbrev pub ScrubExact : Program → Type 0
ScrubExact t =
    (p : Part) → ThePart p → rf_on p.registers ≡ false → free p.registers ≡ true → (m : Mark) (w : Moments) → Exact m p (run_by t scrub m p w)

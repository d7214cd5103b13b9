-- Demand 3: nothing is left behind. Each claim is over every run of the calls of crate `protocol` on the part of crate `part`: whatever
-- the cycles take, whatever phones write while RF is on, whatever a cut leaves. What the words mean is in specs/. Crate `thrown_out` has
-- wrong programs for which they fail.
use mathlib.Core.Path.{◌≡◌}
use mathlib.Core.Bool.{true, false}
use mathlib.Core.Logic.{◌⊎◌}
use lib.ListN.{length, get_or}
use borrow.Author.Tests.{eqb-true}
use Rattle.protocol.specs.Mark.{Mark, whole}
use Rattle.protocol.specs.Proc.{done}
use Rattle.protocol.specs.Call.{Call, begin, finish, scrub}
use Rattle.protocol.specs.Trace.{rest}
use Rattle.part.specs.Part.{Part, ThePart, rf_on, free}
use Rattle.part.proofs.General.{fresh, fresh_is}
use Rattle.nothing_left.specs.Trees.{tree_of}
use Rattle.nothing_left.specs.Runs.{Moments, replies, run, Clean}
use Rattle.nothing_left.specs.Histories.{PowerUp}
use Rattle.nothing_left.specs.Sessions.{Phase, Session, Covered}
use Rattle.nothing_left.specs.Rows.{Exact}
use Rattle.nothing_left.proofs.Lives.{powered-up}
use Rattle.nothing_left.proofs.Begins.{begins_clean}
use Rattle.nothing_left.proofs.Ordered.{session_holds, holds_kept, session_finish}
use Rattle.nothing_left.proofs.Exact.{wipe_exact}
use Rattle.nothing_left.proofs.Witnesses.{torn, torn_byte_lem, Uncovered, uncovered, run_ends}

-- Power-ups, calls in any order with any marks, phones and cuts, however many; then power-up and `begin` with the mark at the whole part:
-- it answers Ok, RF is off, the mark is none, all 8,192 bytes are zero.
pub nothing_left : {p : Part} → PowerUp p → (w : Moments) → Clean (run begin whole p w)
nothing_left {p} u = begins_clean p (powered-up p u).0 (powered-up p u).1

-- In a session in document 01's order, between any two calls: every non-zero byte is covered by the mark, or the part still reports a
-- phone's write.
pub covered_or_reported : {f : Phase} {m : Mark} {p : Part} → Session f m p → (p.registers.reported ≡ true) ⊎ Covered m p.memory
covered_or_reported {f} {m} {p} s = (holds_kept f m p (session_holds f m p s)).known

-- And `finish`, whenever it comes, answers Ok with RF off, the mark none, all bytes zero.
pub finish_leaves_nothing : {f : Phase} {m : Mark} {p : Part} → Session f m p → (w : Moments) → Clean (run finish m p w)
finish_leaves_nothing {f} {m} {p} s = session_finish f m p s

-- `scrub` with RF off and no cycle running programs exactly the non-zero rows below the rounded mark, and changes no byte at or above it.
-- Between two calls of a session no cycle runs.
pub scrub_exact : {p : Part} → ThePart p → rf_on p.registers ≡ false → free p.registers ≡ true → (m : Mark) (w : Moments) → Exact m p (run scrub m p w)
scrub_exact {p} t off idle m w = wipe_exact p t.bytes off (eqb-true p.registers.busy 0 idle) m w

pub scrub_exact_in_session : {f : Phase} {m : Mark} {p : Part} → Session f m p → rf_on p.registers ≡ false → (w : Moments) → Exact m p (run scrub m p w)
scrub_exact_in_session {f} {m} {p} s off w =
    let k = holds_kept f m p (session_holds f m p s) in
    wipe_exact p k.settled.intact.len off k.idle m w

-- The claims are not empty. There is such a part; a history in which a cut inside a cycle left a byte that nobody wrote; a session in
-- which a phone wrote a byte that no mark covers; and each call ends, for every choice of what happens.
pub a_part : ThePart fresh
a_part = fresh_is

pub a_tear : get_or torn.memory 0 0 ≡ 7
a_tear = torn_byte_lem

pub a_phone : Uncovered
a_phone = uncovered

pub a_run : (c : Call) (m : Mark) (p : Part) (w : Moments) → rest (length (run c m p w).passed) (tree_of c m) (replies (tree_of c m) p w) ≡ done (run c m p w).end.answer
a_run c m p w = run_ends c m p w

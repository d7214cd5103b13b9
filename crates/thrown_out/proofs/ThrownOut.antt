-- Wrong programs that demand 3 throws out. Read it after nothing_left/proofs/Theorems. What they do is in nothing_left/specs/Slips, the
-- claims in nothing_left/specs/Claims.
-- For each there is a power-up, a session or a part on which a claim fails; the proofs, in Slips and Earlys, give it.
use mathlib.Core.Path.{◌≡◌, refl}
use Rattle.protocol.specs.Mark.{Mark}
use Rattle.protocol.specs.Setup as setup
use Rattle.protocol.specs.Write as w
use Rattle.protocol.specs.Scrub as s
use Rattle.protocol.specs.Call.{Call, identify, prepare, wait_ready, read_user, write, rf_off, rf_on, rf_wrote, read_whole, scrub, begin, go_live, finish}
use Rattle.protocol.specs.Calls as calls
use Rattle.protocol.specs.Calls.{call_of}
use Rattle.nothing_left.specs.Trees.{tree_of}
use Rattle.nothing_left.specs.Slips.{calls_by, wiping, refuses_everything, wipes_nothing, wipes_first_chunk, wipes_to_mark, prepare_skips, begin_early, goes_live_late, finish_trusts, finish_asks_early, write_forgets, reads_early}
use Rattle.nothing_left.specs.Claims.{NothingLeft, CoveredOrReported, FinishLeavesNothing, ScrubExact}
use Rattle.thrown_out.proofs.Slips as slip
use Rattle.thrown_out.proofs.Earlys as early
use Rattle.nothing_left.proofs.Theorems.{nothing_left, covered_or_reported, finish_leaves_nothing, scrub_exact}

-- The right program meets every claim: these are the theorems.
pub right_begins : NothingLeft tree_of
right_begins p u = nothing_left u

pub right_covers : CoveredOrReported tree_of
right_covers f m p k = covered_or_reported k

pub right_finishes : FinishLeavesNothing tree_of
right_finishes f m p k = finish_leaves_nothing k

pub right_scrubs : ScrubExact tree_of
right_scrubs p t = scrub_exact t

-- The session that refuses everything: `begin` does not answer Ok.
pub refuses_everything_lem : NothingLeft refuses_everything → ⊥
refuses_everything_lem = slip.refuses_everything_lem

-- The wipe that sends nothing: after power-up and `begin` the first byte is 1 as before.
pub wipes-nothing : NothingLeft wipes_nothing → ⊥
wipes-nothing = slip.wipes-nothing

-- The wipe of the first chunk that claims the rest: after power-up and `begin` the byte at 64 is 1 as before.
pub wipes-first-chunk : NothingLeft wipes_first_chunk → ⊥
wipes-first-chunk = slip.wipes-first-chunk

-- The wipe that stops at the mark inside a row: with the mark at 1 it leaves the second byte.
pub wipes_to_mark_lem : ScrubExact wipes_to_mark → ⊥
wipes_to_mark_lem = slip.wipes_to_mark_lem

-- `begin` that wipes before RF is off: a phone writes behind the wipe, and `begin` answers Ok.
pub begin_early_lem : NothingLeft begin_early → ⊥
begin_early_lem = early.begin_early_lem

-- `prepare` that leaves GPO1 alone: after `go_live` a phone writes, and the part reports nothing.
pub prepare_skips_lem : CoveredOrReported prepare_skips → ⊥
prepare_skips_lem = slip.prepare_skips_lem

-- The status read after RF is on: a phone writes in between, and its report is lost.
pub goes_live_late_lem : CoveredOrReported goes_live_late → ⊥
goes_live_late_lem = slip.goes_live_late_lem

-- `finish` that trusts the mark: a phone wrote where no mark reaches, and its byte is left.
pub finish_trusts_lem : FinishLeavesNothing finish_trusts → ⊥
finish_trusts_lem = slip.finish_trusts_lem

-- `finish` that reads the status before RF is off: a phone writes in between, and its byte is left.
pub finish-asks_early : FinishLeavesNothing finish_asks_early → ⊥
finish-asks_early = slip.finish-asks_early

-- `write` that does not move the mark: the byte that it wrote is covered by nothing.
pub write_forgets_lem : CoveredOrReported write_forgets → ⊥
write_forgets_lem = slip.write_forgets_lem

-- `read_whole` that reads before RF is off: a phone writes behind the read, and its report is lost.
pub reads_early_lem : CoveredOrReported reads_early → ⊥
reads_early_lem = slip.reads_early_lem

-- The wrong programs differ from the right one in what is put in, and in nothing else: with the right calls the two forms are it.
pub but_for_that : (c : Call) (m : Mark) → calls_by setup.prepare w.write_user calls.read_whole s.scrub calls.begin calls.go_live calls.finish c m ≡ call_of c m
but_for_that identify m = refl
but_for_that prepare m = refl
but_for_that wait_ready m = refl
but_for_that (read_user at n) m = refl
but_for_that (write at bs) m = refl
but_for_that rf_off m = refl
but_for_that rf_on m = refl
but_for_that rf_wrote m = refl
but_for_that (read_whole n) m = refl
but_for_that scrub m = refl
but_for_that begin m = refl
but_for_that go_live m = refl
but_for_that finish m = refl

pub wiping_right : (c : Call) (m : Mark) → wiping setup.prepare s.scrub c m ≡ call_of c m
unfolding calls.begin calls.closing calls.finish
wiping_right c m = but_for_that c m

-- The steps of a session by value: what a call leaves, and what it counts.
-- Source: document 01, the paragraph 'Added' of 'A session's transfers (tag.rs)', for the rows and `out`. The session is from no public
-- document: what is kept of a call between two transfers.
--
--   idle m                 == the session between two calls, with the mark at m
--   entered rows lent t    == the session after the turn t of a call with `rows` rows programmed and `lent` bytes of data
--   counted a ack          == 1 for a row write that was acknowledged, else 0
--   out_of st               == how many bytes `out` has in the call that st belongs to: 0 for a call that takes none
use Rattle.std.specs.Prelude.{ℕ, Bool, Some, None}
use Rattle.slices.specs.Pick.{pick}
use Rattle.protocol.specs.Tag.{user_memory}
use Rattle.protocol.specs.Mark.{Mark}
use Rattle.machine.specs.declared.ask.Ask.{Ask}
use Rattle.machine.specs.declared.ask.Ask.TheVariants as A
use Rattle.stages.specs.declared.stage.Stage.{Stage}
use Rattle.stages.specs.declared.stage.Stage.TheVariants as G
use Rattle.stages.specs.declared.stage.Turn.{Turn}
use Rattle.stages.specs.declared.stage.Turn.TheVariants.{Open, Over}
use Rattle.session.specs.declared.session.Session.{Session}

abbrev pub idle : Mark → Session
idle m = record { mark = m; rows = 0; lent = 0; now = None }

abbrev pub entered : ℕ → ℕ → Turn → Session
entered rows lent (Open m st) = record { mark = m; rows = rows; lent = lent; now = Some st }
entered rows lent (Over m a) = idle m

abbrev pub counted : Ask → Bool → ℕ
counted (A.Address dev) ack = 0
counted (A.Byte dev at value) ack = 0
counted A.Password ack = 0
counted (A.Zeros at) ack = pick ack 1 0
counted (A.Row at from n) ack = pick ack 1 0
counted (A.Read dev at n) ack = 0
counted (A.Delay ms) ack = 0

abbrev pub out_of : Stage → ℕ
out_of G.Identify = 0
out_of (G.Prepare s) = 0
out_of (G.WaitReady w) = 0
out_of (G.ReadUser at n) = n
out_of (G.Write w) = 0
out_of (G.Switching s) = 0
out_of G.RfWrote = 0
out_of (G.WholeOff s) = user_memory
out_of G.WholeStatus = user_memory
out_of G.WholeRead = user_memory
out_of (G.Wipe s) = 0
out_of (G.BeginSetup s) = 0
out_of (G.BeginOff s) = 0
out_of G.LiveStatus = 0
out_of (G.FinishOff s) = 0
out_of (G.FinishStatus stuck) = 0
out_of (G.FinishWipe stuck s) = 0

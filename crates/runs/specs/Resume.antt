-- What remains of a call from each stage, as a tree. From no public document: how a call is kept between two transfers. `session_bridge`
-- (proofs/Bridge): the rest of protocol's tree from a stage is the stage's transfer, and then the rest from where its reply leads.
--
--   resume_stage lent m st    == the rest of the call from st, with the mark at m and `lent` the bytes that were lent
--   after_turn lent r t       == the same after a step, as its host sees it, with the report r
--   wiping p                 == a wipe and the mark that it leaves
--   whole_read                == the rest of `read_whole` from its read on: the mark becomes what was found
--   whole_rest                == the same from the status on
--   begin_rest m              == the rest of `begin` after RF is off: the wipe, if the mark m is not none
--   finish_rest m off         == the rest of `finish` from the status on, after RF said `off`
--   stuck_as stuck            == what RF said: Ok, or RfStuck
use Rattle.std.specs.Prelude.{List, Bool, true, false, ℕ, Result, Ok}
use Rattle.slices.specs.Pick.{pick}
use Rattle.protocol.specs.Tag.{user, user_memory}
use Rattle.protocol.specs.Mark.{Mark, none, whole, found, is_none}
use Rattle.protocol.specs.Proc.{Proc, done, mark, ◌>>=◌, Res, ok, err, try, fine}
use Rattle.protocol.specs.Bus.{read}
use Rattle.protocol.specs.Rf.{rf_off, rf_wrote}
use Rattle.protocol.specs.Setup.{identify}
use Rattle.protocol.specs.Scrub.{scrub}
use Rattle.protocol.specs.Calls.{go_live, first_of, closing, plainly}
use Rattle.protocol.specs.Trace.{Report, Talk, talk, over}
use Rattle.protocol.specs.declared.answer.TagError.{TagError}
use Rattle.protocol.specs.declared.answer.Answer.{Answer}
use Rattle.protocol.specs.declared.answer.Answer.TheVariants.{Wrote}
use Rattle.protocol.specs.declared.answer.TagError.TheVariants.{RfStuck}
use Rattle.machine.specs.Wait.{resume_wait}
use Rattle.machine.specs.Switch.{resume_switch}
use Rattle.setup.specs.Setup.{resume_setup}
use Rattle.wipe.specs.Scrub.{resume_scrub}
use Rattle.writing.specs.Write.{resume_write}
use Rattle.stages.specs.declared.stage.Stage.{Stage}
use Rattle.stages.specs.declared.stage.Stage.TheVariants as G
use Rattle.stages.specs.declared.stage.Turn.{Turn}
use Rattle.stages.specs.declared.stage.Turn.TheVariants.{Open, Over}

abbrev pub wiping : Proc (Res Unit) → Proc (Res Unit)
wiping p = try p (λ _. mark none fine)

abbrev pub whole_read : Proc (Res Unit)
whole_read = try (read user 0 user_memory) (λ out. mark (found out) fine)

abbrev pub whole_rest : Proc (Res Unit)
whole_rest = rf_wrote >>= λ _. whole_read

abbrev pub begin_rest : Mark → Proc (Res Unit)
begin_rest m = pick (is_none m) fine (scrub m)

abbrev pub stuck_as : Bool → Res Unit
stuck_as true = err RfStuck
stuck_as false = ok tt

abbrev pub finish_rest : Mark → Res Unit → Proc (Res Unit)
finish_rest m off = rf_wrote >>= λ wrote. pick wrote (mark whole (closing whole off)) (closing m off)

abbrev pub resume_stage : List ℕ → Mark → Stage → Proc (Result Answer TagError)
resume_stage lent m G.Identify = plainly identify
resume_stage lent m (G.Prepare s) = plainly (resume_setup s)
resume_stage lent m (G.WaitReady w) = plainly (resume_wait w)
resume_stage lent m (G.ReadUser at k) = plainly (try (read user at k) (λ _. fine))
resume_stage lent m (G.Write w) = plainly (resume_write lent w)
resume_stage lent m (G.Switching s) = plainly (resume_switch s)
resume_stage lent m G.RfWrote = rf_wrote >>= λ wrote. done (Ok (Wrote wrote))
resume_stage lent m (G.WholeOff s) = plainly (try (resume_switch s) (λ _. whole_rest))
resume_stage lent m G.WholeStatus = plainly whole_rest
resume_stage lent m G.WholeRead = plainly whole_read
resume_stage lent m (G.Wipe s) = plainly (wiping (resume_scrub s))
resume_stage lent m (G.BeginSetup s) = plainly (try (resume_setup s) (λ _. try rf_off (λ _. begin_rest m)))
resume_stage lent m (G.BeginOff s) = plainly (try (resume_switch s) (λ _. begin_rest m))
resume_stage lent m G.LiveStatus = plainly go_live
resume_stage lent m (G.FinishOff s) = plainly (resume_switch s >>= finish_rest m)
resume_stage lent m (G.FinishStatus stuck) = plainly (finish_rest m (stuck_as stuck))
resume_stage lent m (G.FinishWipe stuck s) = plainly (wiping (resume_scrub s) >>= λ wiped. done (first_of (stuck_as stuck) wiped))

abbrev pub after_turn : List ℕ → Report → Turn → Talk
after_turn lent r (Open m st) = talk m r (resume_stage lent m st)
after_turn lent r (Over m a) = over a m r

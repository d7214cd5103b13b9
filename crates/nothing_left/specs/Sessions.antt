-- A session that is not cut. Source: document 01, 'Session order'.
--
--   Phase                == `quiet`, or `live`: after `go_live` or `rf_on`, until the next Ok `read_whole` or `finish`
--   calm c               == c is not one of `begin`, `go_live`, `rf_wrote`, the calls that a live session may not make
--   allowed f c          == the call c may come in the phase f
--   ended f a            == the phase after a `read_whole` or `finish` that answered a: `quiet` after an Ok, else f as before
--   later f c a          == the phase after the call c answered a
--   SessionBy t f m p    == a session of the program t has come this far: from power-up by `begin` with the mark at the whole part, then
--                           calls in this order and phones between them. The phase is f, the mark m, the part p
--   Session f m p        == the same with the calls that the theorems are about
--   Covered m bs         == every byte that is not zero lies where the mark m says that one may
use Rattle.std.specs.Prelude.{◌≡◌, Bool, true, false, List, ℕ, get_or, Result, Ok, Err}
use Rattle.protocol.specs.Mark.{Mark, Covers, whole}
use Rattle.protocol.specs.Call.{Call, identify, prepare, wait_ready, read_user, write, rf_off, rf_on, rf_wrote, read_whole, scrub, begin, go_live, finish}
use Rattle.protocol.specs.declared.answer.TagError.{TagError}
use Rattle.protocol.specs.declared.answer.Answer.{Answer}
use Rattle.protocol.specs.declared.answer.Answer.TheVariants.{Done, Wrote}
use Rattle.part.specs.Part.{Part}
use Rattle.part.specs.Power.{Visit, visited}
use Rattle.nothing_left.specs.Programs.{Program}
use Rattle.nothing_left.specs.Trees.{tree_of}
use Rattle.nothing_left.specs.Runs.{Moments, run_by}
use Rattle.nothing_left.specs.Histories.{PowerUpBy}

pub data Phase : Type 0 where
  quiet live : Phase

abbrev pub calm : Call → Bool
calm identify = true
calm prepare = true
calm wait_ready = true
calm (read_user at n) = true
calm (write at bs) = true
calm rf_off = true
calm rf_on = true
calm rf_wrote = false
calm (read_whole n) = true
calm scrub = true
calm begin = false
calm go_live = false
calm finish = true

abbrev pub allowed : Phase → Call → Bool
allowed quiet c = true
allowed live c = calm c

-- the phase f, or `quiet` after an Ok
abbrev pub ended : Phase → Result Answer TagError → Phase
ended f (Ok Done) = quiet
ended f (Ok (Wrote b)) = f
ended f (Err e) = f

abbrev pub later : Phase → Call → Result Answer TagError → Phase
later f identify a = f
later f prepare a = f
later f wait_ready a = f
later f (read_user at n) a = f
later f (write at bs) a = f
later f rf_off a = f
later f rf_on a = live
later f rf_wrote a = f
later f (read_whole n) a = ended f a
later f scrub a = f
later f begin a = f
later f go_live a = live
later f finish a = ended f a

pub data SessionBy (t : Program) : Phase → Mark → Part → Type 0 where
  first : {p : Part} → PowerUpBy t p → (w : Moments) → SessionBy t quiet (run_by t begin whole p w).end.mark (run_by t begin whole p w).part
  phone : {f : Phase} {m : Mark} {p : Part} → SessionBy t f m p → (v : Visit) → SessionBy t f m (visited v p)
  next : {f : Phase} {m : Mark} {p : Part} → SessionBy t f m p → (c : Call) → allowed f c ≡ true → (w : Moments)
      → SessionBy t (later f c (run_by t c m p w).end.answer) (run_by t c m p w).end.mark (run_by t c m p w).part

abbrev pub Session : Phase → Mark → Part → Type 0
Session = SessionBy tree_of

unfoldable pub Covered : Mark → List ℕ → Type 0
Covered m bs = (i : ℕ) → (get_or bs i 0 ≡ 0 → ⊥) → Covers m i

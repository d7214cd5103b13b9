-- The claims are not empty: a part, a session in which a phone writes where no mark reaches, and the run for every choice.
--
--   torn            == a part after a cut inside a cycle
--   Uncovered       == a session, live, whose part reports a phone's write and holds a byte that is not zero and that no mark Covers
use mathlib.Core.Path.{◌≡◌, refl, ap, sym, ◌∙◌}
use mathlib.Core.Bool.{true, false}
use mathlib.Core.List.{[], ◌∷◌}
use lib.ListN.{length, get_or}
use Rattle.slices.specs.Bytes.{splice}
use Rattle.scan.specs.Rows.{row_count, row_len}
use Rattle.protocol.specs.Mark.{Mark, Covers, none}
use Rattle.protocol.specs.Proc.{done}
use Rattle.protocol.specs.Rf.{rf_on}
use Rattle.protocol.specs.Call.{Call, write}
use Rattle.protocol.specs.Call as call
use Rattle.protocol.specs.Write.{write_user}
use Rattle.protocol.specs.Calls.{go_live}
use Rattle.protocol.specs.Trace.{rest, nothing}
use Rattle.protocol.proofs.Runs as runs
use Rattle.protocol.proofs.Marks.{covers-none}
use Rattle.part.specs.Part.{Part}
use Rattle.part.specs.Orders.{order_of}
use Rattle.part.specs.Looks.{look_of}
use Rattle.part.specs.Power.{still, writes, cut}
use Rattle.part.proofs.General.{fresh}
use Rattle.nothing_left.specs.Trees.{tree_of}
use Rattle.nothing_left.specs.Runs.{Moments, replies, run_by, run}
use Rattle.nothing_left.specs.Histories.{calls, lived}
use Rattle.nothing_left.specs.Sessions.{live, Session, phone, next}
use Rattle.nothing_left.proofs.Opened.{calm, begun}

-- the call ends: after as many replies as it has exchanges it has answered
pub run_ends : (c : Call) (m : Mark) (p : Part) (w : Moments) → rest (length (run c m p w).passed) (tree_of c m) (replies (tree_of c m) p w) ≡ done (run c m p w).end.answer
unfolding run_by
run_ends c m p w = runs.ends (tree_of c m) (replies (tree_of c m) p w) ∙ ap done (sym (ap (λ x. x.answer) (runs.seen (tree_of c m) m nothing (replies (tree_of c m) p w))))

-- one byte is written into the fresh part, and the power is cut inside the cycle of that row
unfoldable pub torn : Part
torn = cut (record { bytes = 7 ∷ []; old = false }) (lived tree_of (calls (write 0 (1 ∷ [])) none 1 (λ n. record { phone = still; cycle = 5 }) ∷ []) fresh)

pub torn_byte_lem : get_or torn.memory 0 0 ≡ 7
unfolding torn fresh write_user row_count row_len order_of splice
torn_byte_lem = refl

pub record Uncovered : Type 0 where
  pub mark : Mark
  pub part : Part
  pub session : Session live mark part
  pub report : part.registers.reported ≡ true
  pub byte : get_or part.memory 0 0 ≡ 1
  pub uncovered : Covers mark 0 → ⊥

-- it goes live, and a phone writes its byte
pub uncovered : Uncovered
unfolding run_by go_live rf_on none order_of look_of splice
uncovered = record {
  mark = none;
  part = _;
  session = phone (next (begun tree_of refl).session call.go_live refl calm) (writes 0 (1 ∷ []));
  report = refl;
  byte = refl;
  uncovered = covers-none 0;
}

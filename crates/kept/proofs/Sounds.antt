-- Every session that calls leave is sound: a new one, one after a start, one after a reply.
use mathlib.Core.Path.{◌≡◌, refl, sym, subst, ap, ◌∙◌}
use mathlib.Core.Bool.{Bool, true}
use mathlib.Core.List.{List}
use Prim.Native.Nat.{ℕ, ◌+◌, ◌≤◌}
use lib.ListN.{length}
use lib.Dec.{leb}
use borrow.Author.Tests.{leb-true, le-leb}
use Rattle.std.specs.Prelude.{Some}
use Rattle.protocol.specs.Mark.{Mark, given}
use Rattle.protocol.proofs.Marks.{inside-given}
use Rattle.protocol.specs.Call.{Call}
use Rattle.stages.specs.Turns.{stage_ask, stage_step, start_of, lent_to}
use Rattle.stages.specs.declared.stage.Stage.{Stage}
use Rattle.session.specs.Sound.{stage_sound, now_sound, sound}
use Rattle.session.specs.Steps.{idle, entered, counted}
use Rattle.session.specs.declared.session.Session.{Session}
use Rattle.slices.proofs.Truths.{both, both_so}
use Rattle.kept.specs.Kept.{Kept, new, started, replied}
use Rattle.kept.proofs.Turns.{turn-sound, step_in, start_in}

-- what a sound session says of its mark and of its open stage
pub mark-inside : (s : Session) → sound s ≡ true → s.mark ≤ 8192
mark-inside s e = leb-true s.mark 8192 (both (leb s.mark 8192) (now_sound s.mark s.rows s.lent s.now) e).0

pub open_sound_lem : (s : Session) (st : Stage) → sound s ≡ true → s.now ≡ Some st → stage_sound s.mark s.rows s.lent st ≡ true
open_sound_lem s st e o =
    sym (ap (now_sound s.mark s.rows s.lent) o) ∙ (both (leb s.mark 8192) (now_sound s.mark s.rows s.lent s.now) e).1

pub new-sound : (n : ℕ) → sound (idle (given n)) ≡ true
new-sound n = both_so _ _ (le-leb (given n) 8192 (inside-given n)) refl

pub start_sound : (c : Call) (m : Mark) → m ≤ 8192 → sound (entered 0 (length (lent_to c)) (start_of c m)) ≡ true
start_sound c m h = turn-sound 0 (length (lent_to c)) (start_of c m) (start_in c m h)

pub step-sound : (s : Session) (st : Stage) (lent : List ℕ) (ack : Bool) (got : List ℕ) → sound s ≡ true → s.now ≡ Some st → length lent ≡ s.lent
    → sound (entered (s.rows + counted (stage_ask s.lent st) ack) s.lent (stage_step lent s.mark st ack got)) ≡ true
step-sound s st lent ack got e o l =
    subst (λ (n : ℕ). sound (entered (s.rows + counted (stage_ask n st) ack) n (stage_step lent s.mark st ack got)) ≡ true) l
    (turn-sound (s.rows + counted (stage_ask (length lent) st) ack) (length lent) (stage_step lent s.mark st ack got)
    (step_in s.mark s.rows lent st ack got (mark-inside s e) (subst (λ (n : ℕ). stage_sound s.mark s.rows n st ≡ true) (sym l) (open_sound_lem s st e o))))

-- so is every session that some calls leave
pub left-sound : (s : Session) → Kept s → sound s ≡ true
left-sound s (new n) = new-sound n
left-sound s (started m c l b) = start_sound c m (mark-inside (idle m) (left-sound (idle m) l))
left-sound s (replied t st lent ack got l o n b a) = step-sound t st lent ack got (left-sound t l) o n

-- What the entry points do with a session that calls leave: they start its calls and take its replies exactly as the definition does.
use mathlib.Core.Path.{◌≡◌, refl, ap, ◌∙◌}
use mathlib.Core.Bool.{Bool, true, false, not}
use mathlib.Core.List.{List}
use Prim.Native.Nat.{ℕ, ◌+◌, ◌≤◌}
use lib.Dec.{eqb}
use lib.ListN.{length}
use borrow.Author.Tests.{le-ltb, eq-eqb}
use Rattle.std.specs.Prelude.{Option, Some, Result, Ok, Err}
use Rattle.slices.specs.Pick.{pick}
use Rattle.protocol.specs.Mark.{Mark}
use Rattle.protocol.specs.Call.{Call}
use Rattle.stages.specs.Turns.{stage_ask, stage_step, start_of, lent_to}
use Rattle.stages.specs.Able.{got_by}
use Rattle.stages.specs.declared.stage.Stage.{Stage}
use Rattle.session.specs.Sound.{sound}
use Rattle.session.specs.Steps.{idle, counted, out_of}
use Rattle.session.specs.declared.session.Session.{Session}
use Rattle.state.specs.Bytes.{encode, decode_of}
use Rattle.kept.proofs.Theorems.{decode_encode}
use Rattle.telling.specs.Left.{settled, short, misfit, opened_by, mark_of, started_left, start_left, heard_by, replied_left, reply_left}
use Rattle.telling.specs.declared.opening.Misuse.{Misuse}
use Rattle.telling.specs.declared.opening.Misuse.TheVariants as M
use Rattle.telling.specs.declared.opening.Heard.{Heard}

long-enough : (t r : ℕ) → 19 ≤ t → 64 ≤ r → short t r ≡ false
long-enough t r h g = rw (le-ltb t 19 h, le-ltb r 64 g)

-- a call on the bytes of a session that is idle
pub start_goes : (c : Call) (m : Mark) (s t r : List ℕ) → decode_of s ≡ Some (idle m) → 19 ≤ length t → 64 ≤ length r
    → start_left c s t r ≡ settled (lent_to c) 0 (start_of c m) t r
start_goes c m s t r e ht hr =
    let o : opened_by (Some (idle m)) (length t) (length r) ≡ Ok m =
    ap (λ (b : Bool). pick b (Err M.WrongLength) (Ok m)) (long-enough (length t) (length r) ht hr) in
    ap (λ (x : Result Mark Misuse). started_left x (lent_to c) (start_of c (mark_of x)) s t r) (ap (λ (d : Option Session). opened_by d (length t) (length r)) e ∙ o)

module _ (m : Mark) (k : ℕ) (st : Stage) (lent t r out : List ℕ) (ack : ℕ) where
  abbrev session : Session
  session = record { mark = m; rows = k; lent = length lent; now = Some st }

  -- a reply on the bytes of a session with an open call
  pub reply-goes : sound session ≡ true → 19 ≤ length t → 64 ≤ length r → length out ≡ out_of st
      → reply_left (encode session) t r lent out ack
      ≡ settled lent (k + counted (stage_ask (length lent) st) (not (eqb ack 0))) (stage_step lent m st (not (eqb ack 0)) (got_by st r out)) t r
  reply-goes e ht hr ho =
      let f : misfit session st (length t) (length r) (length lent) (length out) ≡ false =
      rw (le-ltb (length t) 19 ht, le-ltb (length r) 64 hr, eq-eqb (length lent) (length lent) refl, eq-eqb (length out) (out_of st) ho) in
      let h : heard_by (Some session) (length t) (length r) (length lent) (length out) ≡ Ok (record { mark = m; rows = k; stage = st }) =
      ap (λ (b : Bool). pick b (Err M.WrongLength) (Ok (record { mark = m; rows = k; stage = st }))) f in
      ap (λ (x : Result Heard Misuse). replied_left x (encode session) t r lent out (not (eqb ack 0)))
      (ap (λ (d : Option Session). heard_by d (length t) (length r) (length lent) (length out)) (decode_encode session e) ∙ h)

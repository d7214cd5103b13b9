-- What the code of an entry point comes to.
use mathlib.Core.Path.{◌≡◌, sym, subst, ap, ◌∙◌}
use mathlib.Core.Bool.{Bool, true, false, not}
use mathlib.Core.List.{List}
use Prim.Native.Nat.{ℕ, ◌+◌, ◌≤◌, ◌<◌}
use native.Mathlib.Omega.{arith}
use lib.Dec.{eqb}
use lib.ListN.{length}
use borrow.Author.Tests.{eq-eqb, ne_eqb}
use Rattle.std.specs.Prelude.{Option, Result, Ok}
use Rattle.protocol.specs.Mark.{Mark, given}
use Rattle.protocol.specs.Call.{Call}
use Rattle.machine.specs.declared.ask.Ask.{Ask}
use Rattle.machine.specs.declared.ask.Ask.TheVariants as A
use Rattle.stages.specs.Turns.{stage_ask, stage_step, start_of, lent_to}
use Rattle.stages.specs.Able.{got_by}
use Rattle.stages.specs.declared.stage.Turn.{Turn}
use Rattle.session.specs.Steps.{idle, counted}
use Rattle.session.specs.declared.session.Session.{Session}
use Rattle.state.specs.Bytes.{encode, decode_of}
use Rattle.telling.specs.Step.{answer_step}
use Rattle.telling.specs.Left.{Left, Leaves, settled, opened_of, mark_of, started_left, start_left, heard_of, replied_left, reply_left, repeated_left, next_left, new_step, new_state, dirty_decoded, dirty_step}
use Rattle.telling.specs.declared.opening.Misuse.{Misuse}
use Rattle.telling.specs.declared.opening.Heard.{Heard}
use Rattle.entry.specs.Going.{Going}
use Rattle.entry.proofs.Opens.{count_small}

pub leaves_as : (a b : Left) → a ≡ b → (step : ℕ) (state transfer reply : List ℕ) → Leaves a step state transfer reply → Leaves b step state transfer reply
leaves_as a b e step state transfer reply = subst (λ (x : Left). Leaves x step state transfer reply) e

-- a call started on what was found open
pub start_is : (c : Call) (s t r : List ℕ) (o p : Result Mark Misuse) → o ≡ opened_of s (length t) (length r) → o ≡ p
    → started_left p (lent_to c) (start_of c (mark_of p)) s t r ≡ start_left c s t r
start_is c s t r o p eo ep = ap (λ (x : Result Mark Misuse). started_left x (lent_to c) (start_of c (mark_of x)) s t r) (sym ep ∙ eo)

-- a reply, or the same transfer once more, on what was heard
pub reply-is : (s t r lent out : List ℕ) (ack : ℕ) (h g : Result Heard Misuse) → h ≡ heard_of s t r lent out → h ≡ g
    → replied_left g s t r lent out (not (eqb ack 0)) ≡ reply_left s t r lent out ack
reply-is s t r lent out ack h g eh eg = ap (λ (x : Result Heard Misuse). replied_left x s t r lent out (not (eqb ack 0))) (sym eg ∙ eh)

pub next-is : (s t r lent out : List ℕ) (h g : Result Heard Misuse) → h ≡ heard_of s t r lent out → h ≡ g → repeated_left g s t r lent ≡ next_left s t r lent out
next-is s t r lent out h g eh eg = ap (λ (x : Result Heard Misuse). repeated_left x s t r lent) (sym eg ∙ eh)

-- a call that goes on
pub go_is : (s t r lent out : List ℕ) (h : Heard) (ack : Bool) (a : Ask) (k : ℕ) (turn : Turn) → a ≡ stage_ask (length lent) h.stage → k ≡ counted a ack
    → turn ≡ stage_step lent h.mark h.stage ack (got_by h.stage r out) → settled lent (h.rows + k) turn t r ≡ replied_left (Ok h) s t r lent out ack
go_is s t r lent out h ack a k turn ea ek et =
    let e : k ≡ counted (stage_ask (length lent) h.stage) ack = ek ∙ ap (λ (x : Ask). counted x ack) ea in
    λ i. settled lent (h.rows + e i) (et i) t r

count-one : (a : Ask) (ack : Bool) → counted a ack ≤ 1
count-one (A.Address dev) ack = omega arith
count-one (A.Byte dev at value) ack = omega arith
count-one A.Password ack = omega arith
count-one (A.Zeros at) true = omega arith
count-one (A.Zeros at) false = omega arith
count-one (A.Row at from n) true = omega arith
count-one (A.Row at from n) false = omega arith
count-one (A.Read dev at n) ack = omega arith
count-one (A.Delay ms) ack = omega arith

-- one row more still fits
pub one_more : (l t r n o : ℕ) (h : Heard) (a : Ask) (ack : Bool) (k : ℕ) → Going l t r n o h → k ≡ counted a ack → h.rows + k < 65536
one_more l t r n o h a ack k g e =
    let f = count_small l t r n o h g in
    let c = count-one a ack in
    omega (arith, f, c, e)

-- a new session's state, and the mark of one
pub new-long : (s state : List ℕ) (mark step : ℕ) (q : Session) → length s ≡ 20 → q ≡ idle (given mark) → state ≡ encode q → step ≡ answer_step 0 0 0
    → (step ≡ new_step s) × (state ≡ new_state s mark)
new-long s state mark step q h eq es et = (rw (eq-eqb (length s) 20 h) et, rw (eq-eqb (length s) 20 h) (es ∙ ap encode eq))

pub new-short : (s : List ℕ) (mark step : ℕ) → (length s ≡ 20 → ⊥) → step ≡ answer_step 34 0 0 → (step ≡ new_step s) × (s ≡ new_state s mark)
new-short s mark step h et = (rw (ne_eqb (length s) 20 h) et, rw (ne_eqb (length s) 20 h))

pub dirty_is : (l : List ℕ) (d : Option Session) (step : ℕ) → d ≡ decode_of l → step ≡ dirty_decoded d → step ≡ dirty_step l
dirty_is l d step ed es = es ∙ ap dirty_decoded ed

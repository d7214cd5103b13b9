-- A part of which everything is known, and a session opened on it.
--
--   held g v b n k M     == a part that is set up: GPO1 is g, RF_MNGT_Dyn is v, b is reported, n ms are left of the cycle k, the memory is M
--   calm                 == no phones, and cycles that end at once
--   eager                == a phone writes a byte before every transfer, as far as RF is on
--   late k               == no phone for k transfers, then that one
--   Blank g a n x        == a call that answered a with the mark n left the part x: Ok, none, all zero, RF off, nothing reported
--   Opened t g           == a session of the program t after `begin`
use mathlib.Core.Path.{◌≡◌, refl, ap, subst, sym, ◌∙◌}
use mathlib.Core.Bool.{Bool, false}
use mathlib.Core.List.{List, [], ◌∷◌}
use Prim.Native.Nat.{ℕ, zero, suc, min}
use native.Mathlib.Omega.{arith}
use lib.ListN.{length, replicate, length-replicate}
use Rattle.std.specs.Prelude.{Result, Ok}
use Rattle.protocol.specs.Mark.{Mark, none, whole, is_none}
use Rattle.protocol.specs.Proc.{done}
use Rattle.protocol.specs.Rf.{rf_off}
use Rattle.protocol.specs.Scrub.{scrub}
use Rattle.protocol.specs.Call as call
use Rattle.protocol.specs.Calls.{begin, plain, plainly, call_of}
use Rattle.protocol.specs.Trace.{nothing, answer_of, mark_of}
use Rattle.protocol.specs.declared.answer.TagError.{TagError}
use Rattle.protocol.specs.declared.answer.Answer.{Answer}
use Rattle.protocol.specs.declared.answer.Answer.TheVariants.{Done}
use Rattle.protocol.proofs.Runs as runs
use Rattle.part.specs.Part.{Part, ThePart}
use Rattle.part.specs.Orders.{order_of}
use Rattle.part.specs.Looks.{look_of}
use Rattle.part.specs.Power.{still, writes}
use Rattle.part.specs.declared.order.Order.TheVariants as order
use Rattle.part.specs.declared.registers.Cycle.{Cycle}
use Rattle.part.specs.declared.registers.Cycle.TheVariants.{Nothing, Row}
use Rattle.part.proofs.General.{fresh, fresh_is}
use Rattle.nothing_left.specs.Programs.{Program}
use Rattle.nothing_left.specs.Slips.{prepare_skips}
use Rattle.nothing_left.specs.Runs.{Moments, replies, part_of, run_by, Empty}
use Rattle.nothing_left.specs.Histories.{PowerUpBy, up}
use Rattle.nothing_left.specs.Sessions.{quiet, SessionBy, first}
use Rattle.nothing_left.proofs.Always.{Still, same, always, always_run, always_done, always_bind}
use Rattle.nothing_left.proofs.Steps.{slept, obeyed, still_timeless}
use Rattle.nothing_left.proofs.Worlds.{Room}
use Rattle.nothing_left.proofs.Chunks.{wipes}
use Rattle.nothing_left.proofs.Coverings.{covered_whole, emptied}

abbrev pub held : ℕ → ℕ → Bool → ℕ → Cycle → List ℕ → Part
held g v b n k M = record {
  identity = fresh.identity;
  memory = M;
  registers = record { gpo1 = g; mngt = 0; cfg = 0x3A; rf = v; session = false; reported = b; busy = n; cycle = k };
}

abbrev pub calm : Moments
calm n = record { phone = still; cycle = 0 }

abbrev pub eager : Moments
eager n = record { phone = writes 0 (1 ∷ []); cycle = 0 }

abbrev pub late : ℕ → Moments
late zero n = eager n
late (suc k) zero = calm 0
late (suc k) (suc n) = late k n

pub zeros : List ℕ
zeros = replicate 8192 0

pub zeros-length : length zeros ≡ 8192
unfolding zeros
zeros-length = length-replicate {A = ℕ} 8192 0

pub held_is : (g v : ℕ) (b : Bool) (M : List ℕ) → length M ≡ 8192 → ThePart (held g v b 0 Nothing M)
held_is g v b M l =
    record { identified = fresh_is.identified; size = fresh_is.size; uid = fresh_is.uid; bytes = l; cfg = refl; mngt = refl; busy = omega arith; cycle = tt }

-- it may be met at power-up
pub powered : (t : Program) (g : ℕ) (M : List ℕ) → length M ≡ 8192 → PowerUpBy t (held g 0 false 0 Nothing M)
powered t g M l = up (held_is g 0 false M l) [] (record { bytes = []; old = false })

-- the part with the memory M, whatever its cycle
record Stands (g v : ℕ) (b : Bool) (M : List ℕ) (p : Part) : Type 0 where
  left : ℕ
  cycle : Cycle
  is : p ≡ held g v b left cycle M

standing : (g v : ℕ) (b : Bool) → Room Still (Stands g v b)
standing g v b = record {
  timeless = still_timeless;
  stable = λ M. record { phone = kept M; clock = λ p n i. record { left = n; cycle = i.cycle; is = ap (slept n) i.is } };
  memory = λ M p i. ap (λ (x : Part). x.memory) i.is;
  row = λ M a bs n c p i. record { left = min c 99; cycle = Row a n; is = ap (obeyed (order.Row a) n bs c) i.is };
}
  where
    kept : (M : List ℕ) (p q : Part) → Still p q → Stands g v b M p → Stands g v b M q
    kept M p q same i = i

pub record Blank (g : ℕ) (a : Result Answer TagError) (n : Mark) (x : Part) : Type 0 where
  pub memory : List ℕ
  pub cycle : Cycle
  pub answer : a ≡ Ok Done
  pub mark : n ≡ none
  pub is : x ≡ held g 4 false 0 cycle memory
  pub empty : Empty memory

-- how the wipe of the whole part ends on it
swept : (g : ℕ) (M : List ℕ) → length M ≡ 8192
    → let p = held g 4 false 0 Nothing M in
    let q = plainly (scrub whole) in
    Blank g (answer_of q (replies q p calm)) (mark_of whole q (replies q p calm)) (part_of q p calm)
swept g M l =
    always_run Still (plainly (scrub whole)) (λ a n S x. Blank g a n x) whole [] (held g 4 false 0 Nothing M) calm (λ n x. same)
    (always_bind Still (scrub whole) (λ r. done (plain r)) (λ a n S x. Blank g a n x) whole [] (held g 4 false 0 Nothing M)
    (wipes Still (Stands g 4 false) (standing g 4 false) (λ a n S x. always Still (done (plain a)) (λ b j T y. Blank g b j y) n S x) whole whole [] M l
    (λ x N i v u. always_done Still (Ok Done) (λ b j T y. Blank g b j y) none _ x (record {
      memory = N;
      cycle = i.cycle;
      answer = refl;
      mark = refl;
      is = i.is ∙ ap (λ (n : ℕ). held g 4 false n i.cycle N) (sym (ap (λ (y : Part). y.registers.busy) i.is) ∙ u);
      empty = emptied whole M N l (covered_whole M l) v;
    }))
    (held g 4 false 0 Nothing M) (record { left = 0; cycle = Nothing; is = refl }) refl))

-- `begin`, as it is, on a part whose GPO1 is right
right_begin : (M : List ℕ) → length M ≡ 8192
    → let o = run_by call_of call.begin whole (held 0x85 0 false 0 Nothing M) calm in Blank 0x85 o.end.answer o.end.mark o.part
unfolding run_by begin rf_off is_none whole order_of look_of fresh
right_begin M l =
    rw (runs.seen (call_of call.begin whole) whole nothing (replies (call_of call.begin whole) (held 0x85 0 false 0 Nothing M) calm)) (swept 0x85 M l)

-- and one that leaves GPO1 alone, on a part whose GPO1 reports nothing
pub skipping_begin : (M : List ℕ) → length M ≡ 8192
    → let o = run_by prepare_skips call.begin whole (held 0x88 0 false 0 Nothing M) calm in Blank 0x88 o.end.answer o.end.mark o.part
unfolding run_by begin rf_off is_none whole order_of look_of fresh
skipping_begin M l =
    rw (runs.seen (prepare_skips call.begin whole) whole nothing (replies (prepare_skips call.begin whole) (held 0x88 0 false 0 Nothing M) calm)) (swept 0x88 M l)

pub record Opened (t : Program) (g : ℕ) : Type 0 where
  pub memory : List ℕ
  pub cycle : Cycle
  pub empty : Empty memory
  pub session : SessionBy t quiet none (held g 4 false 0 cycle memory)

pub opened : (t : Program) (g : ℕ) (M : List ℕ) → length M ≡ 8192
    → (let o = run_by t call.begin whole (held g 0 false 0 Nothing M) calm in Blank g o.end.answer o.end.mark o.part) → Opened t g
opened t g M l h = record {
  memory = h.memory;
  cycle = h.cycle;
  empty = h.empty;
  session = subst (λ (n : Mark). SessionBy t quiet n (held g 4 false 0 h.cycle h.memory)) h.mark
      (subst (λ (x : Part). SessionBy t quiet (run_by t call.begin whole (held g 0 false 0 Nothing M) calm).end.mark x) h.is
      (first (powered t g M l) calm));
}

-- a program whose `begin` is right
pub begun : (t : Program) → t call.begin whole ≡ call_of call.begin whole → Opened t 0x85
unfolding run_by
begun t e = opened t 0x85 zeros zeros-length (rw e (right_begin zeros zeros-length))

-- The machine of `rf_off` and `rf_on` does what the tree says.
use mathlib.Core.Path.{◌≡◌, refl, ap, fun_ext}
use mathlib.Core.Bool.{Bool, true, false}
use mathlib.Core.List.{List, [], ◌∷◌}
use Prim.Native.Nat.{ℕ, zero, suc, ◌-◌}
use native.Mathlib.Omega.{arith}
use Rattle.std.specs.Prelude.{Ok, Some}
use Rattle.slices.specs.Pick.{pick}
use Rattle.protocol.specs.Transfer.{place}
use Rattle.protocol.specs.Tag.{user, rf_mngt_dyn, rf_tries}
use Rattle.protocol.specs.Proc.{done, ask, ◌>>=◌, both}
use Rattle.protocol.specs.Bus.{taken}
use Rattle.protocol.specs.Rf.{tries}
use Rattle.machine.specs.Ask.{meant, first}
use Rattle.machine.specs.Switch.{switch_new, switch_ask, wanted, looked, try_after, switch_step, tried, look, resume_switch, after_switch, Switched}
use Rattle.machine.specs.declared.switch.Switch.{Switch}
use Rattle.machine.specs.declared.switch.Switch.TheVariants.{Flip, Clear, Look, Rest}

-- the code counts down by one
pub try-after : (on : Bool) (n : ℕ) → (n ≡ 0 → ⊥) → ◌≡◌ {A = Switched} (Ok (Some (Flip on (n - 1)))) (try_after on n)
try-after on zero h = absurd (h refl)
try-after on (suc n) h = ap (λ (k : ℕ). Ok (Some (Flip on k))) (omega arith)

-- the switch was acknowledged, or not
flip_case : (on : Bool) (n v : ℕ) (b : Bool)
    → pick b (pick on (both (taken user (place rf_mngt_dyn) (0 ∷ [])) (look true)) (look false)) (done false) >>= tried on n ≡ after_switch (switch_step (Flip on n) b v)
flip_case true n v true = refl
flip_case false n v true = refl
flip_case on n v false = refl

clear_case : (n v : ℕ) (b : Bool) → pick b (look true) (done false) >>= tried true n ≡ after_switch (switch_step (Clear n) b v)
clear_case n v true = refl
clear_case n v false = refl

-- the look was acknowledged or not, and read as wanted or not
look_case : (on : Bool) (n v : ℕ) (b w : Bool) → wanted on v ≡ w → tried on n (pick b (wanted on v) false) ≡ after_switch (looked on n b v)
look_case on n v true true e = rw e
look_case on n v true false e = rw e
look_case on n v false w e = refl

pub switch_bridge : (lent : List ℕ) (s : Switch) → resume_switch s ≡ ask (meant lent (switch_ask s)) (λ r. after_switch (switch_step s r.ack (first r.got)))
switch_bridge lent (Flip true n) = ap (ask (meant lent (switch_ask (Flip true n)))) (fun_ext (λ r. flip_case true n (first r.got) r.ack))
switch_bridge lent (Flip false n) = ap (ask (meant lent (switch_ask (Flip false n)))) (fun_ext (λ r. flip_case false n (first r.got) r.ack))
switch_bridge lent (Clear n) = ap (ask (meant lent (switch_ask (Clear n)))) (fun_ext (λ r. clear_case n (first r.got) r.ack))
switch_bridge lent (Look on n) =
    ap (ask (meant lent (switch_ask (Look on n)))) (fun_ext (λ r. look_case on n (first r.got) r.ack (wanted on (first r.got)) refl))
switch_bridge lent (Rest on zero) = refl
switch_bridge lent (Rest on (suc n)) = refl

-- from its first state it is all ten tries
pub switch_starts : (on : Bool) → resume_switch (switch_new on) ≡ tries on rf_tries
switch_starts on = refl

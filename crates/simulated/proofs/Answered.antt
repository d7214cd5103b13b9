-- What the simulated part answers to a write, case by case, over plain variables.
use mathlib.Core.Path.{◌≡◌, refl, ap, ap₂, sym, ◌∙◌}
use mathlib.Core.Bool.{Bool, true, false, ◌&&◌}
use mathlib.Core.List.{List}
use Prim.Native.Nat.{ℕ, ◌-◌, ◌<◌}
use native.Mathlib.Omega.{arith}
use lib.Dec.{eqb, ltb}
use lib.ListN.{length, drop}
use borrow.Author.Tests.{eq-eqb, ltb-true}
use Rattle.slices.proofs.Truths.{and_left, and_right}
use Rattle.part.specs.Orders.{order_of, takes, accepted, ordered, stored}
use Rattle.simulated.specs.Simulated.{Stores, refused_by, wrote, memory_wrote}
use Rattle.part.specs.declared.order.Order.{Order}
use Rattle.part.specs.declared.order.Order.TheVariants as order
use Rattle.part.specs.declared.registers.Registers.{Registers}
use Rattle.simulated.specs.declared.Answer.{Answer}
use Rattle.part.proofs.Stays.{row_inside}

-- what is taken can be stored
pub takes_stores : (o : Order) (s m : ℕ) (r : Registers) → m ≡ 8192 → takes o (s - 2) r ≡ true → Stores o s m
takes_stores order.Poll s m r e t = tt
takes_stores (order.Row at) s m r e t =
    let l : 0 < s - 2 = ltb-true 0 (s - 2) (and_left (ltb 0 (s - 2)) (ltb at 8192) (and_left (ltb 0 (s - 2) && ltb at 8192) _ t)) in
    (omega arith, omega (arith, row_inside at (s - 2) t))
takes_stores (order.Dynamic v) s m r e t = tt
takes_stores order.Password s m r e t = tt
takes_stores (order.Byte at v) s m r e t = tt
takes_stores order.SwitchOn s m r e t = tt
takes_stores order.SwitchOff s m r e t = tt
takes_stores order.Unknown s m r e t = tt

module _ (dev : ℕ) (sent memory : List ℕ) (ms : ℕ) (r : Registers) (l : length memory ≡ 8192)
    (o : Order) (eo : o ≡ order_of dev sent) (n : ℕ) (en : n ≡ length sent - 2) (b : Bool) (eb : b ≡ takes o n r) where
  judged : (c : Bool) → eqb r.busy 0 && b ≡ c → accepted dev sent r ≡ c
  judged c e = ap₂ (λ (x : Order) (k : ℕ). eqb r.busy 0 && takes x k r) (sym eo) (sym en) ∙ ap (λ (x : Bool). eqb r.busy 0 && x) (sym eb) ∙ e

  pub write_stores : eqb r.busy 0 && b ≡ true → Stores o (length sent) (length memory)
  write_stores e = takes_stores o (length sent) (length memory) r l (ap (λ (k : ℕ). takes o k r) (sym en) ∙ sym eb ∙ and_right (eqb r.busy 0) b e)

  module _ (e : eqb r.busy 0 && b ≡ true) where
    pub write-taken : (s : Registers) → s ≡ ordered o n ms r → ◌≡◌ {A = Answer} (record { ack = true; registers = s }) (wrote dev sent ms memory r)
    write-taken s es =
        let f : s ≡ ordered (order_of dev sent) (length sent - 2) ms r = es ∙ ap₂ (λ (x : Order) (k : ℕ). ordered x k ms r) eo en in
        rw (eq-eqb (length memory) 8192 l) (rw (judged true e) (ap (λ (x : Registers). record { ack = true; registers = x }) f))

    pub write-stored : (N : List ℕ) → N ≡ stored o (drop 2 sent) memory → N ≡ memory_wrote dev sent memory r
    write-stored N es = rw (eq-eqb (length memory) 8192 l) (rw (judged true e) (es ∙ ap (λ (x : Order). stored x (drop 2 sent) memory) eo))

  module _ (e : eqb r.busy 0 && b ≡ false) where
    pub write-refused : (t : Answer) → t ≡ refused_by r → t ≡ wrote dev sent ms memory r
    write-refused t et = rw (eq-eqb (length memory) 8192 l) (rw (judged false e) et)

    pub write_kept : memory ≡ memory_wrote dev sent memory r
    write_kept = rw (eq-eqb (length memory) 8192 l) (rw (judged false e) refl)

-- Switching RF off: it goes off at the first try.
use mathlib.Core.Path.{◌≡◌, refl}
use mathlib.Core.List.{List, []}
use Prim.Native.Nat.{ℕ, ◌/◌, ◌%◌, ◌≤◌, ◌<◌}
use native.Mathlib.Omega.{arith}
use borrow.Author.Tests.{eq-eqb}
use Rattle.protocol.specs.Transfer.{place}
use Rattle.protocol.specs.Tag.{user, rf_switch_off, rf_mngt_dyn}
use Rattle.protocol.specs.Mark.{Mark}
use Rattle.protocol.specs.Proc.{Res, ok}
use Rattle.protocol.specs.Rf.{rf_off}
use Rattle.part.specs.Part.{Part}
use Rattle.part.specs.Orders.{order_of}
use Rattle.part.specs.Looks.{look_of}
use Rattle.part.specs.declared.order.Order.TheVariants.{SwitchOff}
use Rattle.part.specs.declared.look.Look.TheVariants.{Dynamic}
use Rattle.nothing_left.proofs.Always.{always, always_done}
use Rattle.nothing_left.proofs.Steps.{Stable, Timeless, obeyed, write-taken, read_taken}

-- RF_MNGT_Dyn after the switch
pub record Silent (p : Part) : Type 0 where
  pub off : 4 ≤ p.registers.rf
  pub top : p.registers.rf < 8

-- from I before the switch to K, which may know the part at that moment
pub switched_off : (Ph : Part → Part → Type 0) → Timeless Ph → (I : Part → Type 0) → Stable Ph I → ((p : Part) → I p → p.registers.cfg ≡ 0x3A)
    → (K : Part → Part → Type 0) → ((q : Part) → Stable Ph (K q)) → ((q : Part) (c : ℕ) → I q → K q (obeyed SwitchOff 0 [] c q)) → ((q p : Part) → K q p → Silent p)
    → (Q : Res Unit → Mark → List ℕ → Part → Type 0) (m : Mark) (R : List ℕ)
    → ((q : Part) → I q → (p : Part) → K q p → p.registers.busy ≡ 0 → Q (ok tt) m R p)
    → (p : Part) → I p → p.registers.busy ≡ 0 → always Ph rf_off Q m R p
unfolding rf_off order_of look_of
switched_off Ph timeless I st cfg K stK into silent Q m R post p i z =
    write-taken Ph timeless I st _ Q m R rf_switch_off [] [] SwitchOff 0 [] R refl refl refl refl (λ q j. rw (cfg q j))
    (λ q j y c.
    read_taken Ph timeless (K q) (stK q) _ Q m R user (place rf_mngt_dyn) 1 Dynamic refl refl
    (λ x k u. let s = silent q x k in
    rw (eq-eqb (x.registers.rf / 4 % 2) 1 (omega (arith, s.off, s.top))) (always_done Ph (ok tt) Q m R x (post q j x k u)))
    (obeyed SwitchOff 0 [] c q) (into q c j) y)
    p i z

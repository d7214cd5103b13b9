-- Procedures that lose no report, and leave no cycle running.
--
--   Settled p        == the part is whole, and set up to be switched and to report
--   Gentle t         == the transfer t keeps a part settled, and its report if it has one
--   Calm t           == it begins no cycle
--   Idle q           == where no cycle runs before q, none does after it, whatever phones do and whatever is answered
--   Tame q           == each transfer of q is gentle, and q is idle
--   Setting at v     == the system bytes that the calls write
use mathlib.Core.Path.{◌≡◌, refl, ◌∙◌}
use mathlib.Core.Bool.{Bool, true, false, ◌&&◌}
use mathlib.Core.List.{List, ◌++◌}
use Prim.Native.Nat.{ℕ, ◌-◌}
use native.Mathlib.Omega.{arith}
use lib.Dec.{eqb}
use lib.ListN.{length}
use Rattle.slices.proofs.Cases.{pick_cases}
use Rattle.protocol.specs.Transfer.{Transfer, write, write_read, delay, Reply, place_of}
use Rattle.protocol.specs.Tag.{gpo1, rf_mngt, i2c_cfg, gpo1_value, rf_mngt_value, i2c_cfg_value, rf_mngt_dyn}
use Rattle.protocol.specs.Mark.{Mark}
use Rattle.protocol.specs.Proc.{Proc, done, ask, mark, ◌>>=◌, Res, ok, err, or_else, try, when◌then◌else◌}
use Rattle.protocol.specs.Bound.{Each}
use Rattle.protocol.proofs.OneRows.{each_bind}
use Rattle.part.specs.Part.{Part}
use Rattle.part.specs.Orders.{order_of, user_order, accepted, ordered}
use Rattle.part.specs.Looks.{look_of, looked, answered}
use Rattle.part.specs.Bus.{reply_of, after_of}
use Rattle.part.specs.declared.registers.Registers.{Registers}
use Rattle.part.specs.declared.order.Order.{Order}
use Rattle.part.specs.declared.order.Order.TheVariants.{Poll, Row, Dynamic, Password, Byte, SwitchOn, SwitchOff, Unknown}
use Rattle.part.specs.declared.look.Look.{Look}
use Rattle.part.specs.declared.look.Look.TheVariants as look
use Rattle.nothing_left.proofs.Always.{Phone, always, always_done, always_bind, always_mono, always_mark}
use Rattle.nothing_left.proofs.Steps.{phone_timeless}
use Rattle.nothing_left.proofs.Lives.{Intact}

-- what is set up in the registers
pub record Set (r : Registers) : Type 0 where
  pub cfg : r.cfg ≡ i2c_cfg_value
  pub gpo : r.gpo1 ≡ gpo1_value

pub record Settled (p : Part) : Type 0 where
  pub intact : Intact p
  pub set : Set p.registers

-- from registers to registers: set up if they were, and a report is not lost
pub record Keeps (r s : Registers) : Type 0 where
  pub set : Set r → Set s
  pub report : r.reported ≡ true → s.reported ≡ true

pub record Gentle (t : Transfer) : Type 0 where
  pub keeps : (c : ℕ) (p : Part) → Keeps p.registers (after_of t c p).registers

unfoldable pub Calm : Transfer → Type 0
Calm t = (c : ℕ) (p : Part) → p.registers.busy ≡ 0 → (after_of t c p).registers.busy ≡ 0

keeps_same : (r : Registers) → Keeps r r
keeps_same r = record { set = λ s. s; report = λ e. e }

pub data Setting : ℕ → ℕ → Type 0 where
  gpo : Setting gpo1 gpo1_value
  mngt : Setting rf_mngt rf_mngt_value
  cfg : Setting i2c_cfg i2c_cfg_value

-- an order that the calls give
abbrev pub Proper : Order → Type 0
Proper Poll = Unit
Proper (Row at) = Unit
Proper (Dynamic v) = Unit
Proper Password = Unit
Proper (Byte at v) = Setting at v
Proper SwitchOn = Unit
Proper SwitchOff = Unit
Proper Unknown = Unit

keeps_byte : (at v n c : ℕ) (r : Registers) → Setting at v → Keeps r (ordered (Byte at v) n c r)
keeps_byte at v n c r gpo = record { set = λ s. record { cfg = s.cfg; gpo = refl }; report = λ e. e }
keeps_byte at v n c r mngt = record { set = λ s. record { cfg = s.cfg; gpo = s.gpo }; report = λ e. e }
keeps_byte at v n c r cfg = record { set = λ s. record { cfg = refl; gpo = s.gpo }; report = λ e. e }

keeps_order : (o : Order) (n c : ℕ) (r : Registers) → Proper o → Keeps r (ordered o n c r)
keeps_order Poll n c r f = keeps_same r
keeps_order (Row at) n c r f = record { set = λ s. record { cfg = s.cfg; gpo = s.gpo }; report = λ e. e }
keeps_order (Dynamic v) n c r f = record { set = λ s. record { cfg = s.cfg; gpo = s.gpo }; report = λ e. e }
keeps_order Password n c r f = record { set = λ s. record { cfg = s.cfg; gpo = s.gpo }; report = λ e. e }
keeps_order (Byte at v) n c r f = keeps_byte at v n c r f
keeps_order SwitchOn n c r f = record { set = λ s. record { cfg = s.cfg; gpo = s.gpo }; report = λ e. e }
keeps_order SwitchOff n c r f = record { set = λ s. record { cfg = s.cfg; gpo = s.gpo }; report = λ e. e }
keeps_order Unknown n c r f = keeps_same r

pub gentle_write : (dev : ℕ) (head payload : List ℕ) → Proper (order_of dev (head ++ payload)) → Gentle (write dev head payload)
gentle_write dev head payload f = record {
  keeps = λ c p.
      pick_cases (λ (s : Registers). Keeps p.registers s) (accepted dev (head ++ payload) p.registers)
      (λ _. keeps_order (order_of dev (head ++ payload)) (length (head ++ payload) - 2) c p.registers f) (λ _. keeps_same p.registers);
}

-- every order at the user address is proper
pub proper_user : (sent : List ℕ) → Proper (user_order sent)
proper_user sent =
    pick_cases Proper (eqb (length sent) 0) (λ _. tt) (λ _.
    pick_cases Proper (eqb (place_of sent) rf_mngt_dyn && eqb (length sent) 3) (λ _. tt) (λ _. tt))

-- an order that begins no cycle
abbrev pub Brief : Order → Type 0
Brief Poll = Unit
Brief (Row at) = ⊥
Brief (Dynamic v) = Unit
Brief Password = Unit
Brief (Byte at v) = ⊥
Brief SwitchOn = Unit
Brief SwitchOff = Unit
Brief Unknown = Unit

brief_order : (o : Order) (n c : ℕ) (r : Registers) → Brief o → r.busy ≡ 0 → (ordered o n c r).busy ≡ 0
brief_order Poll n c r f z = z
brief_order (Row at) n c r f z = absurd f
brief_order (Dynamic v) n c r f z = z
brief_order Password n c r f z = z
brief_order (Byte at v) n c r f z = absurd f
brief_order SwitchOn n c r f z = z
brief_order SwitchOff n c r f z = z
brief_order Unknown n c r f z = z

pub calm_write : (dev : ℕ) (head payload : List ℕ) → Brief (order_of dev (head ++ payload)) → Calm (write dev head payload)
unfolding Calm
calm_write dev head payload f c p z =
    pick_cases (λ (s : Registers). s.busy ≡ 0) (accepted dev (head ++ payload) p.registers)
    (λ _. brief_order (order_of dev (head ++ payload)) (length (head ++ payload) - 2) c p.registers f z) (λ _. z)

-- a read that leaves the status alone
abbrev pub Harmless : Look → Type 0
Harmless (look.Memory at) = Unit
Harmless look.Dynamic = Unit
Harmless look.Session = Unit
Harmless look.Status = ⊥
Harmless (look.Byte at) = Unit
Harmless look.Identity = Unit
Harmless look.Unknown = Unit

harmless_look : (l : Look) (r : Registers) → Harmless l → looked l r ≡ r
harmless_look (look.Memory at) r f = refl
harmless_look look.Dynamic r f = refl
harmless_look look.Session r f = refl
harmless_look look.Status r f = absurd f
harmless_look (look.Byte at) r f = refl
harmless_look look.Identity r f = refl
harmless_look look.Unknown r f = refl

pub gentle_read : (dev : ℕ) (head : List ℕ) (n : ℕ) → Harmless (look_of dev head n) → Gentle (write_read dev head n)
gentle_read dev head n f = record {
  keeps = λ c p.
      pick_cases (λ (s : Registers). Keeps p.registers s) (answered dev head n p.registers)
      (λ _. rw (harmless_look (look_of dev head n) p.registers f) (keeps_same p.registers)) (λ _. keeps_same p.registers);
}

looked-busy : (l : Look) (r : Registers) → (looked l r).busy ≡ r.busy
looked-busy (look.Memory at) r = refl
looked-busy look.Dynamic r = refl
looked-busy look.Session r = refl
looked-busy look.Status r = refl
looked-busy (look.Byte at) r = refl
looked-busy look.Identity r = refl
looked-busy look.Unknown r = refl

pub calm_read : (dev : ℕ) (head : List ℕ) (n : ℕ) → Calm (write_read dev head n)
unfolding Calm
calm_read dev head n c p z =
    pick_cases (λ (s : Registers). s.busy ≡ 0) (answered dev head n p.registers) (λ _. looked-busy (look_of dev head n) p.registers ∙ z) (λ _. z)

pub gentle_delay : (ms : ℕ) → Gentle (delay ms)
gentle_delay ms = record { keeps = λ c p. record { set = λ s. record { cfg = s.cfg; gpo = s.gpo }; report = λ e. e } }

pub calm-delay : (ms : ℕ) → Calm (delay ms)
unfolding Calm
calm-delay ms c p z = omega arith

abbrev pub Free : {A : Type 0} → A → Mark → List ℕ → Part → Type 0
Free a m R p = p.registers.busy ≡ 0

unfoldable pub Idle : {A : Type 0} → Proc A → Type 0
Idle q = (m : Mark) (R : List ℕ) (p : Part) → p.registers.busy ≡ 0 → always Phone q Free m R p

pub record Tame {A : Type 0} (q : Proc A) : Type 0 where
  pub each : Each Gentle q
  pub idle : Idle q

pub tame_done : {A : Type 0} (a : A) → Tame (done a)
unfolding Idle Each
tame_done a = record { each = tt; idle = λ m R p z. always_done Phone a Free m R p z }

pub tame_ask : {A : Type 0} (t : Transfer) (k : Reply → Proc A) → Gentle t → Calm t → ((r : Reply) → Tame (k r)) → Tame (ask t k)
unfolding Idle Calm Each always
tame_ask t k g c h = record {
  each = (g, λ r. (h r).each);
  idle = λ m R p z q ph n. (h (reply_of t q)).idle m _ (after_of t n q) (c n q (phone_timeless p q ph ∙ z));
}

pub tame_bind : {A B : Type 0} (q : Proc A) (f : A → Proc B) → Tame q → ((a : A) → Tame (f a)) → Tame (q >>= f)
unfolding Idle
tame_bind q f h g = record {
  each = each_bind Gentle q f h.each (λ a. (g a).each);
  idle = λ m R p z. always_bind Phone q f Free m R p (always_mono Phone q Free (λ a n S x. always Phone (f a) Free n S x) (λ a n S x y. (g a).idle n S x y) m R p (h.idle m R p z));
}

pub tame_try : {A B : Type 0} (q : Proc (Res A)) (f : A → Proc (Res B)) → Tame q → ((a : A) → Tame (f a)) → Tame (try q f)
tame_try q f h g = tame_bind q (or_else f) h on
  where
    on : (a : Res _) → Tame (or_else f a)
    on (ok a) = g a
    on (err e) = tame_done (err e)

pub tame_if : {A : Type 0} (b : Bool) (q r : Proc A) → Tame q → Tame r → Tame (when b then q else r)
tame_if true q r h g = h
tame_if false q r h g = g

pub tame_mark : {A : Type 0} (n : Mark) (q : Proc A) → Tame q → Tame (mark n q)
unfolding Idle Each
tame_mark n q h = record { each = h.each; idle = λ m R p z. always_mark Phone n q Free m R p (h.idle n R p z) }

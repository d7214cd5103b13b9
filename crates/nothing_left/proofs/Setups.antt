-- `prepare` on the part, while phones may write: it ends with the part set up and reporting.
--
--   Known c g o p   == I2C_CFG is c, GPO1 is g, the session is open or not, and the part is whole
use mathlib.Core.Path.{◌≡◌, refl, ◌∙◌}
use mathlib.Core.Bool.{Bool, true, false}
use mathlib.Core.List.{List, [], ◌∷◌, ◌++◌}
use Prim.Native.Nat.{ℕ}
use native.Mathlib.Omega.{arith}
use lib.ListN.{length}
use borrow.Author.Tests.{eqb-true, eq-eqb}
use Rattle.slices.proofs.Splice.{splice-length}
use Rattle.protocol.specs.Transfer.{place}
use Rattle.protocol.specs.Tag.{user, system, gpo1, rf_mngt, i2c_cfg, mem_size, i2c_pwd, i2c_sso_dyn, id_length, i2c_cfg_value, rf_mngt_value, gpo1_value, password, system_write_ms, ready_polls, open_bit}
use Rattle.protocol.specs.Mark.{Mark}
use Rattle.protocol.specs.Proc.{Res, ok, try, unless}
use Rattle.protocol.specs.Wait.{wait_ready}
use Rattle.protocol.specs.Setup.{identify, open_session, write_system, is_set_up, reports, set_up, reporting, prepare}
use Rattle.part.specs.Part.{Part, byte_at, fits}
use Rattle.part.specs.Orders.{order_of}
use Rattle.part.specs.Looks.{look_of, bit}
use Rattle.part.specs.declared.order.Order.TheVariants as order
use Rattle.part.specs.declared.look.Look.TheVariants as look
use Rattle.nothing_left.proofs.Always.{Phone, quiet, wrote, always, always_done, always_bind}
use Rattle.nothing_left.proofs.Steps.{Stable, phone_timeless, obeyed, wait_ready_lem, write-taken, read_taken, delay-passed}
use Rattle.nothing_left.proofs.Worlds.{Named}

pub record Known (c g : ℕ) (o : Bool) (p : Part) : Type 0 where
  pub cfg : p.registers.cfg ≡ c
  pub gpo : p.registers.gpo1 ≡ g
  pub session : p.registers.session ≡ o
  pub len : length p.memory ≡ 8192
  pub named : Named p

pub known_stable : (c g : ℕ) (o : Bool) → Stable Phone (Known c g o)
known_stable c g o = record { phone = kept; clock = λ p b i. record { cfg = i.cfg; gpo = i.gpo; session = i.session; len = i.len; named = i.named } }
  where
    kept : (p q : Part) → Phone p q → Known c g o p → Known c g o q
    kept p q quiet i = i
    kept p q (wrote at bs h l) i = record {
      cfg = i.cfg;
      gpo = i.gpo;
      session = i.session;
      named = i.named;
      len = splice-length p.memory at bs (omega (arith, i.len)) ∙ i.len;
    }

-- and RF_MNGT is set
record Slept (c g : ℕ) (o : Bool) (p : Part) : Type 0 where
  known : Known c g o p
  mngt : p.registers.mngt ≡ rf_mngt_value

slept_stable : (c g : ℕ) (o : Bool) → Stable Phone (Slept c g o)
slept_stable c g o = record { phone = kept; clock = λ p b i. record { known = (known_stable c g o).clock p b i.known; mngt = i.mngt } }
  where
    kept : (p q : Part) → Phone p q → Slept c g o p → Slept c g o q
    kept p q quiet i = i
    kept p q (wrote at bs h l) i = record { known = (known_stable c g o).phone p q (wrote at bs h l) i.known; mngt = i.mngt }

module _ (Q : Res Unit → Mark → List ℕ → Part → Type 0) (m : Mark) (R : List ℕ) where
  module _ (c g : ℕ) (o : Bool) where
    identifies : ((p : Part) → Known c g o p → p.registers.busy ≡ 0 → Q (ok tt) m R p)
        → (p : Part) → Known c g o p → p.registers.busy ≡ 0 → always Phone identify Q m R p
    unfolding look_of
    identifies post p i z =
        read_taken Phone phone_timeless (Known c g o) (known_stable c g o) _ Q m R system (place mem_size) id_length look.Identity refl refl
        (λ q j y. rw j.named (always_done Phone (ok tt) Q m R q (post q j y))) p i z

    opens : ((p : Part) → Known c g true p → p.registers.busy ≡ 0 → Q (ok tt) m R p)
        → (p : Part) → Known c g o p → p.registers.busy ≡ 0 → always Phone open_session Q m R p
    unfolding order_of look_of
    opens post p i z =
        write-taken Phone phone_timeless (Known c g o) (known_stable c g o) _ Q m R system (place i2c_pwd) password order.Password 17 password R refl refl refl refl
        (λ _ _. refl)
        (λ q j y ms.
        always_bind Phone (wait_ready ready_polls) _ Q m R _
        (wait_ready_lem Phone phone_timeless (Known c g true) (known_stable c g true) _ m R
        (λ x k u. read_taken Phone phone_timeless (Known c g true) (known_stable c g true) _ Q m R user (place i2c_sso_dyn) 1 look.Session refl refl
        (λ x₁ k₁ u₁.
        let e : open_bit (bit x₁.registers.session 1) ≡ true = rw k₁.session in
        rw e (always_done Phone (ok tt) Q m R x₁ (post x₁ k₁ u₁))) x k u)
        ready_polls _ (record { cfg = j.cfg; gpo = j.gpo; session = refl; len = j.len; named = j.named }) (omega arith)))
        p i z

  -- a system byte is written, waited out and read back
  writes_byte : (I K : Part → Type 0) → Stable Phone I → Stable Phone K → (at v : ℕ)
      → order_of system (place at ++ v ∷ []) ≡ order.Byte at v → look_of system (place at) 1 ≡ look.Byte at → fits at v ≡ true
      → ((p : Part) → I p → p.registers.session ≡ true)
      → ((p : Part) (c : ℕ) → I p → K (obeyed (order.Byte at v) 1 (v ∷ []) c p))
      → ((p : Part) → K p → byte_at at p.registers ≡ v)
      → ((p : Part) → K p → p.registers.busy ≡ 0 → Q (ok tt) m R p)
      → (p : Part) → I p → p.registers.busy ≡ 0 → always Phone (write_system at v) Q m R p
  writes_byte I K sI sK at v eo el ef io ik kv post p i z =
      write-taken Phone phone_timeless I sI _ Q m R system (place at) (v ∷ []) (order.Byte at v) 1 (v ∷ []) R eo refl refl refl
      (λ q j. rw (io q j) ef)
      (λ q j y c.
      delay-passed Phone phone_timeless K sK _ Q m R system_write_ms 99
      (λ q₁ k₁ b₁. always_bind Phone (wait_ready ready_polls) _ Q m R q₁
      (wait_ready_lem Phone phone_timeless K sK _ m R
      (λ q₂ k₂ y₂. read_taken Phone phone_timeless K sK _ Q m R system (place at) 1 (look.Byte at) el refl
      (λ q₃ k₃ y₃. rw (eq-eqb (byte_at at q₃.registers) v (kv q₃ k₃)) (always_done Phone (ok tt) Q m R q₃ (post q₃ k₃ y₃))) q₂ k₂ y₂)
      ready_polls q₁ k₁ (omega arith)))
      (obeyed (order.Byte at v) 1 (v ∷ []) c q) (ik q c j) (omega arith))
      p i z

module _ (Q : Res Unit → Mark → List ℕ → Part → Type 0) (m : Mark) (R : List ℕ) where
  -- GPO1, where it is not set
  gpo_set : (g : ℕ) (o : Bool)
      → ((p : Part) (o : Bool) → Known i2c_cfg_value gpo1_value o p → p.registers.busy ≡ 0 → Q (ok tt) m R p)
      → (d : Bool) → reports g ≡ d → (p : Part) → Known i2c_cfg_value g o p → p.registers.busy ≡ 0
      → always Phone (unless d (try open_session (λ _. write_system gpo1 gpo1_value))) Q m R p
  unfolding order_of look_of
  gpo_set g o post true e p i z =
      always_done Phone (ok tt) Q m R p
      (post p o (record { cfg = i.cfg; gpo = i.gpo ∙ eqb-true g gpo1_value e; session = i.session; len = i.len; named = i.named }) z)
  gpo_set g o post false e p i z =
      always_bind Phone open_session _ Q m R p
      (opens _ m R i2c_cfg_value g o (λ q j y.
      writes_byte Q m R (Known i2c_cfg_value g true) (Known i2c_cfg_value gpo1_value true) (known_stable i2c_cfg_value g true) (known_stable i2c_cfg_value gpo1_value true)
      gpo1 gpo1_value refl refl refl (λ x k. k.session)
      (λ x c k. record { cfg = k.cfg; gpo = refl; session = k.session; len = k.len; named = k.named }) (λ x k. k.gpo) (λ x k u. post x true k u) q j y) p i z)

  -- I2C_CFG and RF_MNGT, where I2C_CFG is not set
  cfg-set : (c g : ℕ) (o : Bool)
      → ((p : Part) (o : Bool) → Known i2c_cfg_value g o p → p.registers.busy ≡ 0 → Q (ok tt) m R p)
      → (d : Bool) → is_set_up c ≡ d → (p : Part) → Known c g o p → p.registers.busy ≡ 0
      → always Phone (unless d (try open_session (λ _. try (write_system i2c_cfg i2c_cfg_value) (λ _. write_system rf_mngt rf_mngt_value)))) Q m R p
  unfolding order_of look_of
  cfg-set c g o post true e p i z =
      always_done Phone (ok tt) Q m R p
      (post p o (record { cfg = i.cfg ∙ eqb-true c i2c_cfg_value e; gpo = i.gpo; session = i.session; len = i.len; named = i.named }) z)
  cfg-set c g o post false e p i z =
      always_bind Phone open_session _ Q m R p
      (opens _ m R c g o (λ q j y.
      always_bind Phone (write_system i2c_cfg i2c_cfg_value) _ Q m R q
      (writes_byte _ m R (Known c g true) (Known i2c_cfg_value g true) (known_stable c g true) (known_stable i2c_cfg_value g true)
      i2c_cfg i2c_cfg_value refl refl refl (λ x k. k.session)
      (λ x n k. record { cfg = refl; gpo = k.gpo; session = k.session; len = k.len; named = k.named }) (λ x k. k.cfg)
      (λ x k u.
      writes_byte Q m R (Known i2c_cfg_value g true) (Slept i2c_cfg_value g true) (known_stable i2c_cfg_value g true) (slept_stable i2c_cfg_value g true)
      rf_mngt rf_mngt_value refl refl refl (λ x₁ k₁. k₁.session)
      (λ x₁ n k₁. record { known = record { cfg = k₁.cfg; gpo = k₁.gpo; session = k₁.session; len = k₁.len; named = k₁.named }; mngt = refl })
      (λ x₁ k₁. k₁.mngt) (λ x₁ k₁ u₁. post x₁ true k₁.known u₁) x k u) q j y)) p i z)

module _ (Q : Res Unit → Mark → List ℕ → Part → Type 0) (m : Mark) (R : List ℕ)
    (post : (p : Part) (o : Bool) → Known i2c_cfg_value gpo1_value o p → p.registers.busy ≡ 0 → Q (ok tt) m R p) where
  reports-set : (g : ℕ) (o : Bool) (p : Part) → Known i2c_cfg_value g o p → p.registers.busy ≡ 0 → always Phone reporting Q m R p
  unfolding look_of
  reports-set g o p i z =
      read_taken Phone phone_timeless (Known i2c_cfg_value g o) (known_stable i2c_cfg_value g o) _ Q m R system (place gpo1) 1 (look.Byte gpo1) refl refl
      (λ q j y. gpo_set Q m R g o post (reports q.registers.gpo1) (rw j.gpo) q j y) p i z

  pub prepares : (c g : ℕ) (o : Bool) (p : Part) → Known c g o p → p.registers.busy ≡ 0 → always Phone prepare Q m R p
  unfolding look_of
  prepares c g o p i z =
      always_bind Phone identify _ Q m R p
      (identifies _ m R c g o (λ q j y.
      read_taken Phone phone_timeless (Known c g o) (known_stable c g o) _ Q m R system (place i2c_cfg) 1 (look.Byte i2c_cfg) refl refl
      (λ q₁ j₁ y₁.
      always_bind Phone (set_up q₁.registers.cfg) _ Q m R q₁
      (cfg-set _ m R c g o (λ q₂ o₂ j₂ y₂. reports-set g o₂ q₂ j₂ y₂) (is_set_up q₁.registers.cfg) (rw j₁.cfg) q₁ j₁ y₁))
      q j y) p i z)

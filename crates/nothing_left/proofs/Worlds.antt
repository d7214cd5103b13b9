-- Worlds in which the memory is known: what may happen between two transfers, and what is known of the part meanwhile.
--
--   Named p          == its identification is that of the part
--   Off M p          == RF is off, the part is set up, its memory is M: phones change nothing
--   Ready M p        == the part is set up, its memory is M; to be used where no phone writes
--   Mute M p         == RF is off, the memory is M, and nothing else is known
--   Room Ph F        == what the laws of rows and of the wipe ask of such a fact F
--   World Ph F       == what those of the other calls ask
use mathlib.Core.Path.{◌≡◌, refl, ap}
use mathlib.Core.Bool.{true}
use mathlib.Core.List.{List, []}
use Prim.Native.Nat.{ℕ, ◌≤◌, ◌<◌}
use native.Mathlib.Omega.{arith}
use lib.ListN.{take}
use Rattle.slices.specs.Bytes.{splice}
use Rattle.protocol.specs.Setup.{is_the_part}
use Rattle.part.specs.Part.{Part}
use Rattle.part.specs.declared.order.Order.TheVariants.{Row, SwitchOff}
use Rattle.nothing_left.proofs.Always.{Phone, quiet, wrote, Still, same}
use Rattle.nothing_left.proofs.Steps.{Stable, Timeless, phone_timeless, still_timeless, obeyed}

abbrev pub Named : Part → Type 0
Named p = is_the_part (take 12 p.identity) ≡ true

pub record Off (M : List ℕ) (p : Part) : Type 0 where
  pub off : 4 ≤ p.registers.rf
  pub top : p.registers.rf < 8
  pub cfg : p.registers.cfg ≡ 0x3A
  pub gpo : p.registers.gpo1 ≡ 0x85
  pub named : Named p
  pub memory : p.memory ≡ M

pub record Ready (M : List ℕ) (p : Part) : Type 0 where
  pub cfg : p.registers.cfg ≡ 0x3A
  pub gpo : p.registers.gpo1 ≡ 0x85
  pub named : Named p
  pub memory : p.memory ≡ M

pub record Mute (M : List ℕ) (p : Part) : Type 0 where
  pub off : p.registers.rf ≡ 0 → ⊥
  pub memory : p.memory ≡ M

pub record Room (Ph : Part → Part → Type 0) (F : List ℕ → Part → Type 0) : Type 0 where
  pub timeless : Timeless Ph
  pub stable : (M : List ℕ) → Stable Ph (F M)
  pub memory : (M : List ℕ) (p : Part) → F M p → p.memory ≡ M
  pub row : (M : List ℕ) (a : ℕ) (bs : List ℕ) (n c : ℕ) (p : Part) → F M p → F (splice M a bs) (obeyed (Row a) n bs c p)

pub record World (Ph : Part → Part → Type 0) (F : List ℕ → Part → Type 0) : Type 0 where
  pub room : Room Ph F
  pub steady : (p q : Part) → Ph p q → q.registers.rf ≡ p.registers.rf
  pub ready : (M : List ℕ) (p : Part) → F M p → Ready M p
  pub silence : (M : List ℕ) (c : ℕ) (p : Part) → F M p → F M (obeyed SwitchOff 0 [] c p)

phone_steady : (p q : Part) → Phone p q → q.registers.rf ≡ p.registers.rf
phone_steady p q quiet = refl
phone_steady p q (wrote at bs h l) = refl

still_steady : (p q : Part) → Still p q → q.registers.rf ≡ p.registers.rf
still_steady p q same = refl

pub off_stable : (M : List ℕ) → Stable Phone (Off M)
off_stable M = record { phone = kept; clock = λ p b i. record { off = i.off; top = i.top; cfg = i.cfg; gpo = i.gpo; named = i.named; memory = i.memory } }
  where
    kept : (p q : Part) → Phone p q → Off M p → Off M q
    kept p q quiet i = i
    kept p q (wrote at bs h l) i = absurd (omega (arith, i.off))

pub off_world : World Phone Off
off_world = record {
  room = record {
    timeless = phone_timeless;
    stable = off_stable;
    memory = λ M p i. i.memory;
    row = λ M a bs n c p i. record { off = i.off; top = i.top; cfg = i.cfg; gpo = i.gpo; named = i.named; memory = ap (λ (m : List ℕ). splice m a bs) i.memory };
  };
  steady = phone_steady;
  ready = λ M p i. record { cfg = i.cfg; gpo = i.gpo; named = i.named; memory = i.memory };
  silence = λ M c p i. record { off = omega arith; top = omega arith; cfg = i.cfg; gpo = i.gpo; named = i.named; memory = i.memory };
}

pub ready_world : World Still Ready
ready_world = record {
  room = record {
    timeless = still_timeless;
    memory = λ M p i. i.memory;
    stable = λ M. record { phone = kept M; clock = λ p b i. record { cfg = i.cfg; gpo = i.gpo; named = i.named; memory = i.memory } };
    row = λ M a bs n c p i. record { cfg = i.cfg; gpo = i.gpo; named = i.named; memory = ap (λ (m : List ℕ). splice m a bs) i.memory };
  };
  steady = still_steady;
  ready = λ M p i. i;
  silence = λ M c p i. record { cfg = i.cfg; gpo = i.gpo; named = i.named; memory = i.memory };
}
  where
    kept : (M : List ℕ) (p q : Part) → Still p q → Ready M p → Ready M q
    kept M p q same i = i

mute_stable : (M : List ℕ) → Stable Phone (Mute M)
mute_stable M = record { phone = kept; clock = λ p b i. record { off = i.off; memory = i.memory } }
  where
    kept : (p q : Part) → Phone p q → Mute M p → Mute M q
    kept p q quiet i = i
    kept p q (wrote at bs h l) i = absurd (i.off h)

pub mute_room : Room Phone Mute
mute_room = record {
  timeless = phone_timeless;
  stable = mute_stable;
  memory = λ M p i. i.memory;
  row = λ M a bs n c p i. record { off = i.off; memory = ap (λ (m : List ℕ). splice m a bs) i.memory };
}

-- Calls that keep what a session knows: with RF off no phone writes, and every non-zero byte stays covered; otherwise that, or a report.
--
--   Safe F m p     == in the world F the mark m Covers the memory, and no cycle runs
--   Kept m p       == the part is settled, no cycle runs, and the mark Covers the memory or a phone's write is reported
use mathlib.Core.Path.{◌≡◌, refl, ap, subst, sym, ◌∙◌}
use mathlib.Core.Bool.{true}
use mathlib.Core.Logic.{◌⊎◌, inl, inr}
use mathlib.Core.List.{List}
use Prim.Native.Nat.{ℕ, ◌+◌}
use lib.ListN.{length}
use Rattle.protocol.specs.Mark.{Mark, none}
use Rattle.protocol.specs.Tag.{ready_polls}
use Rattle.protocol.specs.Proc.{Proc}
use Rattle.protocol.specs.Wait.{wait_ready}
use Rattle.protocol.specs.Rf.{rf_off}
use Rattle.protocol.specs.Setup.{identify, prepare}
use Rattle.protocol.specs.Write.{read_user, write_user}
use Rattle.protocol.specs.Scrub.{scrub}
use Rattle.part.specs.Part.{Part}
use Rattle.nothing_left.specs.Sessions.{Covered}
use Rattle.nothing_left.proofs.Always.{Phone, quiet, wrote, Still, always, always_mono, always_both}
use Rattle.nothing_left.proofs.Worlds.{World, Off, off_stable, Ready}
use Rattle.nothing_left.proofs.Chunks.{wipes}
use Rattle.nothing_left.proofs.Coverings.{covered_empty, covered_written, emptied}
use Rattle.nothing_left.proofs.Tames.{Settled, Tame, Free, Idle}
use Rattle.nothing_left.proofs.Lifts.{Told, told_wrote, told_kept, lift}
use Rattle.nothing_left.proofs.InWorlds as world

pub record Safe (F : List ℕ → Part → Type 0) (m : Mark) (p : Part) : Type 0 where
  pub memory : List ℕ
  pub here : F memory p
  pub len : length memory ≡ 8192
  pub covered : Covered m memory
  pub idle : p.registers.busy ≡ 0

pub record Kept (m : Mark) (p : Part) : Type 0 where
  pub settled : Settled p
  pub idle : p.registers.busy ≡ 0
  pub known : (p.registers.reported ≡ true) ⊎ Covered m p.memory

module _ (Ph : Part → Part → Type 0) (F : List ℕ → Part → Type 0) (W : World Ph F) (m : Mark) (R : List ℕ) where
  abbrev Ends : {A : Type 0} → A → Mark → List ℕ → Part → Type 0
  Ends a n S x = Safe F n x

  safely : {M : List ℕ} → length M ≡ 8192 → Covered m M → (p : Part) → F M p → p.registers.busy ≡ 0 → Safe F m p
  safely {M} l c p i z = record { memory = M; here = i; len = l; covered = c; idle = z }

  pub safe_identify : (p : Part) → Safe F m p → always Ph identify Ends m R p
  safe_identify p s = world.identifies Ph F W Ends m R s.memory (safely s.len s.covered) p s.here s.idle

  pub safe_prepare : (p : Part) → Safe F m p → always Ph prepare Ends m R p
  safe_prepare p s = world.prepares Ph F W Ends m R s.memory (safely s.len s.covered) p s.here s.idle

  pub safe_wait : (p : Part) → Safe F m p → always Ph (wait_ready ready_polls) Ends m R p
  safe_wait p s = world.waits Ph F W Ends m R s.memory (safely s.len s.covered) p s.here s.idle

  pub safe_off : (p : Part) → Safe F m p → always Ph rf_off Ends m R p
  safe_off p s = world.off Ph F W Ends m R s.memory (safely s.len s.covered) p s.here s.idle

  pub safe_read : (at n : ℕ) (p : Part) → Safe F m p → always Ph (read_user at n) Ends m R p
  safe_read at n p s = world.reads Ph F W Ends m R s.memory at n (λ a. safely s.len s.covered) p s.here s.idle

  pub safe_write : (at : ℕ) (bs : List ℕ) (p : Part) → Safe F m p → always Ph (write_user m at bs) Ends m R p
  safe_write at bs p s =
      world.writes Ph F W Ends m m R s.memory at bs s.len (safely s.len s.covered)
      (λ h a x N S k c u. record { memory = N; here = k; len = c.len ∙ s.len; covered = covered_written m at (at + length bs) s.memory N c s.covered; idle = u })
      p s.here s.idle

  pub safe_scrub : (p : Part) → Safe F m p → always Ph (scrub m) Ends m R p
  safe_scrub p s =
      wipes Ph F W.room Ends m m R s.memory s.len
      (λ x N k w u. record {
        memory = N;
        here = k;
        len = w.changed.len ∙ s.len;
        idle = u;
        covered = covered_empty none N (emptied m s.memory N s.len s.covered w);
      })
      p s.here s.idle

-- a phone changes nothing while RF is off
pub safe_phone : (m : Mark) (p q : Part) → Phone p q → Safe Off m p → Safe Off m q
safe_phone m p q ph s = record {
  memory = s.memory;
  here = (off_stable s.memory).phone p q ph s.here;
  len = s.len;
  covered = s.covered;
  idle = timeless p q ph ∙ s.idle;
}
  where
    timeless : (p q : Part) → Phone p q → q.registers.busy ≡ p.registers.busy
    timeless p q quiet = refl
    timeless p q (wrote at bs h l) = refl

pub kept_told : (m : Mark) (p : Part) → Told p → p.registers.busy ≡ 0 → Kept m p
kept_told m p t z = record { settled = t.settled; idle = z; known = inl t.report }

-- and otherwise what it writes is reported
pub kept_phone : (m : Mark) (p q : Part) → Phone p q → Kept m p → Kept m q
kept_phone m p q quiet k = k
kept_phone m p q (wrote at bs h l) k = kept_told m q (told_wrote p at bs l k.settled) k.idle

pub kept_safe : (m : Mark) (p : Part) → Safe Off m p → Kept m p
kept_safe m p s =
    let o = s.here in
    record {
      settled = record {
        intact = record { len = ap length o.memory ∙ s.len; named = o.named };
        set = record { cfg = o.cfg; gpo = o.gpo };
      };
      idle = s.idle;
      known = inr (subst (λ (M : List ℕ). Covered m M) (sym o.memory) s.covered);
    }

-- a tame procedure that is safe without phones keeps it with them
pub live_keeps : {A : Type 0} (q : Proc A) → Tame q → (m : Mark) (R : List ℕ)
    → ((p : Part) → Safe Ready m p → always Still q (λ a n S x. Safe Ready n x) m R p)
    → (p : Part) → Kept m p → always Phone q (λ a n S x. Kept n x) m R p
unfolding Idle
live_keeps q t m R h p k = go k.known
  where
    ends : (n : Mark) (x : Part) → (Told x ⊎ (Settled x × Safe Ready n x)) × (x.registers.busy ≡ 0) → Kept n x
    ends n x (inl y, z) = kept_told n x y z
    ends n x (inr y, z) = record { settled = y.0; idle = z; known = inr (subst (λ (M : List ℕ). Covered n M) (sym y.1.here.memory) y.1.covered) }

    go : (p.registers.reported ≡ true) ⊎ Covered m p.memory → always Phone q (λ a n S x. Kept n x) m R p
    go (inl e) =
        always_mono Phone q (λ a n S x. Told x × (x.registers.busy ≡ 0)) (λ a n S x. Kept n x) (λ a n S x y. kept_told n x y.0 y.1) m R p
        (always_both Phone q (λ a n S x. Told x) Free m R p
        (told_kept q t.each m R p (record { settled = k.settled; report = e })) (t.idle m R p k.idle))
    go (inr c) =
        always_mono Phone q (λ a n S x. (Told x ⊎ (Settled x × Safe Ready n x)) × (x.registers.busy ≡ 0)) (λ a n S x. Kept n x) (λ a n S x y. ends n x y) m R p
        (always_both Phone q (λ a n S x. Told x ⊎ (Settled x × Safe Ready n x)) Free m R p
        (lift q t.each (λ a n S x. Safe Ready n x) m R p k.settled
        (h p (record {
          memory = p.memory;
          here = record { cfg = k.settled.set.cfg; gpo = k.settled.set.gpo; named = k.settled.intact.named; memory = refl };
          len = k.settled.intact.len;
          covered = c;
          idle = k.idle;
        })))
        (t.idle m R p k.idle))

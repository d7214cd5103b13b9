-- From runs without phones to runs with phones: either no phone wrote and all is as without, or the part reports it.
--
--   Told p     == the part is settled and reports a phone's write
use mathlib.Core.Path.{◌≡◌}
use mathlib.Core.Bool.{true}
use mathlib.Core.Logic.{◌⊎◌, inl, inr}
use mathlib.Core.List.{List}
use Prim.Native.Nat.{ℕ, ◌+◌, ◌≤◌}
use lib.ListN.{length}
use Rattle.slices.specs.Bytes.{splice}
use Rattle.protocol.specs.Transfer.{Transfer, Reply}
use Rattle.protocol.specs.Mark.{Mark}
use Rattle.protocol.specs.Setup.{reports}
use Rattle.protocol.specs.Proc.{Proc, done, ask, mark}
use Rattle.protocol.specs.Bound.{Each}
use Rattle.part.specs.Part.{Part}
use Rattle.part.specs.Bus.{reply_of, after_of}
use Rattle.nothing_left.proofs.Always.{Phone, quiet, wrote, Still, same, touched, always, rows_on}
use Rattle.nothing_left.proofs.Lives.{intact_after}
use Rattle.nothing_left.proofs.Tames.{Settled, Gentle}
use Rattle.slices.proofs.Splice.{splice-length}
use native.Mathlib.Omega.{arith}
use mathlib.Core.Path.{◌∙◌}

pub record Told (p : Part) : Type 0 where
  pub settled : Settled p
  pub report : p.registers.reported ≡ true

-- a phone that writes on a settled part is reported
pub told_wrote : (p : Part) (at : ℕ) (bs : List ℕ) → at + length bs ≤ 8192 → Settled p → Told (touched (splice p.memory at bs) p)
told_wrote p at bs l i =
    let e : reports p.registers.gpo1 ≡ true = rw i.set.gpo in
    record {
      settled = record {
        intact = record { len = splice-length p.memory at bs (omega (arith, i.intact.len)) ∙ i.intact.len; named = i.intact.named };
        set = record { cfg = i.set.cfg; gpo = i.set.gpo };
      };
      report = rw e;
    }

pub told-phone : (p q : Part) → Phone p q → Told p → Told q
told-phone p q quiet i = i
told-phone p q (wrote at bs h l) i = told_wrote p at bs l i.settled

settled-after : (t : Transfer) (c : ℕ) (p : Part) → Gentle t → Settled p → Settled (after_of t c p)
settled-after t c p g i = record { intact = intact_after t c p i.intact; set = (g.keeps c p).set i.set }

told-after : (t : Transfer) (c : ℕ) (p : Part) → Gentle t → Told p → Told (after_of t c p)
told-after t c p g i = record { settled = settled-after t c p g i.settled; report = (g.keeps c p).report i.report }

-- a report is not lost
pub told_kept : {A : Type 0} (q : Proc A) → Each Gentle q → (m : Mark) (R : List ℕ) (p : Part) → Told p → always Phone q (λ a n S x. Told x) m R p
unfolding always Each
told_kept (done a) f m R p h = h
told_kept (ask t k) f m R p h = λ q ph c. told_kept (k (reply_of t q)) (f.1 (reply_of t q)) m (rows_on t (reply_of t q) R) (after_of t c q) (told-after t c q f.0 (told-phone p q ph h))
told_kept (mark n k) f m R p h = told_kept k f n R p h

weaker : {A : Type 0} (q : Proc A) (Q : A → Mark → List ℕ → Part → Type 0) (m : Mark) (R : List ℕ) (p : Part)
    → always Phone q (λ a n S x. Told x) m R p → always Phone q (λ a n S x. Told x ⊎ (Settled x × Q a n S x)) m R p
unfolding always
weaker (done a) Q m R p h = inl h
weaker (ask t k) Q m R p h = λ q ph c. weaker (k (reply_of t q)) Q m (rows_on t (reply_of t q) R) (after_of t c q) (h q ph c)
weaker (mark n k) Q m R p h = weaker k Q n R p h

pub lift : {A : Type 0} (q : Proc A) → Each Gentle q → (Q : A → Mark → List ℕ → Part → Type 0) (m : Mark) (R : List ℕ) (p : Part)
    → Settled p → always Still q Q m R p → always Phone q (λ a n S x. Told x ⊎ (Settled x × Q a n S x)) m R p
unfolding always Each
lift (done a) f Q m R p i h = inr (i, h)
lift (ask t k) f Q m R p i h = λ q ph c. go q ph c (λ r S x. lift (k r) (f.1 r) Q m S x)
  where
    go : (q : Part) → Phone p q → (c : ℕ)
        → ((r : Reply) (S : List ℕ) (x : Part) → Settled x → always Still (k r) Q m S x → always Phone (k r) (λ a n S x. Told x ⊎ (Settled x × Q a n S x)) m S x)
        → always Phone (k (reply_of t q)) (λ a n S x. Told x ⊎ (Settled x × Q a n S x)) m (rows_on t (reply_of t q) R) (after_of t c q)
    go q quiet c rec = rec (reply_of t p) (rows_on t (reply_of t p) R) (after_of t c p) (settled-after t c p f.0 i) (h p same c)
    go q (wrote at bs z l) c rec =
        weaker (k (reply_of t q)) Q m (rows_on t (reply_of t q) R) (after_of t c q)
        (told_kept (k (reply_of t q)) (f.1 (reply_of t q)) m (rows_on t (reply_of t q) R) (after_of t c q) (told-after t c q f.0 (told_wrote p at bs l i)))
lift (mark n k) f Q m R p i h = lift k f Q n R p i h

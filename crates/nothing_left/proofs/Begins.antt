-- `begin` after power-up.
use mathlib.Core.Path.{◌≡◌, refl, ap, ◌∙◌}
use mathlib.Core.Bool.{Bool}
use mathlib.Core.List.{List, []}
use Prim.Native.Nat.{ℕ}
use native.Mathlib.Omega.{arith}
use lib.ListN.{length}
use borrow.Author.Tests.{ne_eqb}
use Rattle.std.specs.Prelude.{Ok}
use Rattle.protocol.specs.Mark.{Mark, none, whole, is_none}
use Rattle.protocol.specs.Proc.{Proc, done, ◌>>=◌, Res, ok}
use Rattle.protocol.specs.Setup.{prepare}
use Rattle.protocol.specs.Rf.{rf_off}
use Rattle.protocol.specs.Call.{Call}
use Rattle.protocol.specs.Call as call
use Rattle.protocol.specs.Calls.{begin, plain}
use Rattle.protocol.specs.Trace.{nothing}
use Rattle.protocol.specs.declared.answer.Answer.TheVariants.{Done}
use Rattle.protocol.proofs.Runs as runs
use Rattle.part.specs.Part.{Part}
use Rattle.nothing_left.specs.Trees.{tree_of}
use Rattle.nothing_left.specs.Runs.{Moments, replies, part_of, run_by, run, Empty, Clean}
use Rattle.nothing_left.proofs.Always.{Phone, always, phones-run, always_done, always_bind, always_mono}
use Rattle.nothing_left.proofs.Steps.{phone_timeless}
use Rattle.nothing_left.proofs.Worlds.{Off, off_stable, off_world}
use Rattle.nothing_left.proofs.Chunks.{wipes}
use Rattle.nothing_left.proofs.Setups.{Known, known_stable, prepares}
use Rattle.nothing_left.proofs.Switches.{switched_off}
use Rattle.nothing_left.proofs.Coverings.{covered_whole, emptied}
use Rattle.nothing_left.proofs.Lives.{Intact}

-- Ok, nothing left, RF off, no cycle
pub record Cleaned {A : Type 0} (good : A) (a : A) (m : Mark) (p : Part) : Type 0 where
  pub answer : a ≡ good
  pub mark : m ≡ none
  pub off : Off p.memory p
  pub empty : Empty p.memory
  pub idle : p.registers.busy ≡ 0

pub cleaned_wipe : (m : Mark) (p : Part) (N : List ℕ) → Off N p → Empty N → p.registers.busy ≡ 0 → Cleaned {A = Res Unit} (ok tt) (ok tt) none p
cleaned_wipe m p N o e z =
    record {
      answer = refl;
      mark = refl;
      idle = z;
      empty = rw o.memory e;
      off = record { off = o.off; top = o.top; cfg = o.cfg; gpo = o.gpo; named = o.named; memory = refl };
    }

-- RF goes off while phones may write until it does
pub rf_off_lem : (Q : Res Unit → Mark → List ℕ → Part → Type 0) (m : Mark) (R : List ℕ) (o : Bool)
    → ((p : Part) (M : List ℕ) → length M ≡ 8192 → Off M p → p.registers.busy ≡ 0 → Q (ok tt) m R p)
    → (p : Part) → Known 0x3A 0x85 o p → p.registers.busy ≡ 0 → always Phone rf_off Q m R p
rf_off_lem Q m R o post p i z =
    switched_off Phone phone_timeless (Known 0x3A 0x85 o) (known_stable 0x3A 0x85 o) (λ q j. j.cfg)
    (λ q. Off q.memory) (λ q. off_stable q.memory)
    (λ q c j. record { off = omega arith; top = omega arith; cfg = j.cfg; gpo = j.gpo; named = j.named; memory = refl })
    (λ q x k. record { off = k.off; top = k.top })
    Q m R (λ q j x k u. post x q.memory j.len k u) p i z

pub begins : (c g : ℕ) (o : Bool) (μ : Mark) (R : List ℕ) (p : Part) → Known c g o p → p.registers.busy ≡ 0
    → always Phone (begin whole) (λ a n S x. Cleaned (ok tt) a n x) μ R p
unfolding begin is_none whole
begins c g o μ R p i z =
    always_bind Phone prepare _ _ μ R p
    (prepares _ μ R (λ q o₁ j y.
    always_bind Phone rf_off _ _ μ R q
    (rf_off_lem _ μ R o₁ (λ x M l k u.
    wipes Phone Off off_world.room _ whole μ R M l
    (λ x₁ N k₁ w u₁. cleaned_wipe whole x₁ N k₁ (emptied whole M N l (covered_whole M l) w) u₁) x k u) q j y)) c g o p i z)

-- what always holds at the end of a call, as its host sees it
pub clean_run : (c : Call) (m : Mark) (p : Part) → always Phone (tree_of c m) (λ a n S x. Cleaned (Ok Done) a n x) m [] p → (w : Moments) → Clean (run c m p w)
unfolding run_by
clean_run c m p h w =
    let k = phones-run (tree_of c m) (λ a n S x. Cleaned (Ok Done) a n x) m [] p w h in
    let e = runs.seen (tree_of c m) m nothing (replies (tree_of c m) p w) in
    record {
      answer = ap (λ x. x.answer) e ∙ k.answer;
      mark = ap (λ x. x.mark) e ∙ k.mark;
      silent = ne_eqb (part_of (tree_of c m) p w).registers.rf 0 (λ z. omega (arith, k.off.off));
      empty = k.empty;
      idle = k.idle;
    }

-- a call that answers Ok(()) is done
pub plainly_clean : (q : Proc (Res Unit)) (m : Mark) (R : List ℕ) (p : Part) → always Phone q (λ a n S x. Cleaned (ok tt) a n x) m R p
    → always Phone (q >>= (λ r. done (plain r))) (λ a n S x. Cleaned (Ok Done) a n x) m R p
plainly_clean q m R p h =
    always_bind Phone q _ _ m R p
    (always_mono Phone q _ _ (λ a n S x k. always_done Phone (plain a) _ n S x
    (record { answer = ap plain k.answer; mark = k.mark; off = k.off; empty = k.empty; idle = k.idle })) m R p h)

pub begins_clean : (p : Part) → Intact p → p.registers.busy ≡ 0 → (w : Moments) → Clean (run call.begin whole p w)
unfolding begin
begins_clean p i z =
    clean_run call.begin whole p
    (plainly_clean (begin whole) whole [] p
    (begins p.registers.cfg p.registers.gpo1 p.registers.session whole [] p
    (record { cfg = refl; gpo = refl; session = refl; len = i.len; named = i.named }) z))

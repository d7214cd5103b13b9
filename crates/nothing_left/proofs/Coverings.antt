-- What a mark covers, and what a wipe up to it leaves.
use mathlib.Core.Path.{◌≡◌, refl, ◌∙◌}
use mathlib.Core.Bool.{Bool, true, false}
use mathlib.Core.Logic.{◌⊎◌, inl, inr, ⊎_elim}
use mathlib.Core.List.{List}
use Prim.Native.Nat.{ℕ, ◌≤◌, ◌<◌}
use native.Mathlib.Omega.{arith}
use lib.Dec.{eqb}
use lib.ListN.{length, get_or, get_or-eq_default}
use borrow.Author.Tests.{eqb-true, eqb-false}
use Rattle.slices.proofs.Cases.{lt_or_ge}
use Rattle.protocol.specs.Mark.{Mark, Covers, whole, widened, found, wipe_end}
use Rattle.protocol.proofs.Marks.{covers-whole, covers_kept, covers-written, covers-found, covers_wiped}
use Rattle.nothing_left.specs.Runs.{Empty}
use Rattle.nothing_left.specs.Sessions.{Covered}
use Rattle.nothing_left.proofs.Memories.{Changed, Wiped}

pub zero_or_not : (n : ℕ) → (n ≡ 0) ⊎ (n ≡ 0 → ⊥)
zero_or_not n = go (eqb n 0) refl
  where
    go : (b : Bool) → eqb n 0 ≡ b → (n ≡ 0) ⊎ (n ≡ 0 → ⊥)
    go true e = inl (eqb-true n 0 e)
    go false e = inr (eqb-false n 0 e)

inside : (M : List ℕ) → length M ≡ 8192 → (i : ℕ) → (get_or M i 0 ≡ 0 → ⊥) → i < 8192
inside M l i n = ⊎_elim (λ h. h) (λ h. absurd (n (get_or-eq_default M 0 (omega arith)))) (lt_or_ge i 8192)

pub covered_whole : (M : List ℕ) → length M ≡ 8192 → Covered whole M
unfolding Covered
covered_whole M l i n = covers-whole i (inside M l i n)

pub covered_empty : (m : Mark) (M : List ℕ) → Empty M → Covered m M
unfolding Covered
covered_empty m M e i n = absurd (n (e.zero i))

pub covered_found : (M : List ℕ) → Covered (found M) M
unfolding Covered
covered_found M i n = covers-found M i n

-- after a write from lo up to hi
pub covered_written : (m : Mark) (lo hi : ℕ) (M N : List ℕ) → Changed lo hi M N → Covered m M → Covered (widened m lo hi) N
unfolding Covered
covered_written m lo hi M N c v i n = ⊎_elim (λ h. same (inl h)) (λ h. ⊎_elim (λ g. covers-written m lo hi i h g) (λ g. same (inr g)) (lt_or_ge i hi)) (lt_or_ge i lo)
  where
    same : (i < lo) ⊎ (hi ≤ i) → Covers (widened m lo hi) i
    same s = covers_kept m lo hi i (v i (λ e. n (c.outside i s ∙ e)))

-- after a wipe of all that is covered
pub emptied : (m : Mark) (M N : List ℕ) → length M ≡ 8192 → Covered m M → Wiped 0 (wipe_end m) M N → Empty N
unfolding Covered
emptied m M N l v w = record { size = w.changed.len ∙ l; zero = λ i. ⊎_elim (λ h. w.zeros i (omega arith) h) (beyond i) (lt_or_ge i (wipe_end m)) }
  where
    beyond : (i : ℕ) → wipe_end m ≤ i → get_or N i 0 ≡ 0
    beyond i h = w.changed.outside i (inr h) ∙ ⊎_elim (λ e. e) (λ n. absurd (let g = covers_wiped m i (inside M l i n) (v i n) in omega arith)) (zero_or_not (get_or M i 0))

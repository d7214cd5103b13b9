-- What a write and a wipe leave in the memory.
--
--   Changed lo hi M N   == N is M but for the bytes from lo up to hi
--   Wiped lo hi M N     == and those are zero
use mathlib.Core.Path.{◌≡◌, refl, ap, subst, sym, ◌∙◌}
use mathlib.Core.Logic.{◌⊎◌, inl, inr, ⊎_elim}
use mathlib.Core.List.{List, ◌++◌}
use Prim.Native.Nat.{ℕ, ◌+◌, ◌-◌, ◌≤◌, ◌<◌}
use native.Mathlib.Omega.{arith}
use native.Mathlib.Nat.{add_assoc}
use lib.ListN.{length, get_or, take, drop, replicate, length-take, length-drop, get_or-replicate, get_or-append}
use lib.Seq.{get_or-take, get_or-drop, length-take-le, get_or-append-add, ext_get_or}
use Rattle.slices.specs.Bytes.{splice}
use Rattle.slices.proofs.Splice.{splice-length}
use Rattle.slices.proofs.Cases.{lt_or_ge}

pub record Changed (lo hi : ℕ) (M N : List ℕ) : Type 0 where
  pub len : length N ≡ length M
  pub outside : (i : ℕ) → (i < lo) ⊎ (hi ≤ i) → get_or N i 0 ≡ get_or M i 0

pub record Wiped (lo hi : ℕ) (M N : List ℕ) : Type 0 where
  pub changed : Changed lo hi M N
  pub zeros : (i : ℕ) → lo ≤ i → i < hi → get_or N i 0 ≡ 0

get_or-shift : (xs ys : List ℕ) (n i : ℕ) → length xs ≡ n → get_or (xs ++ ys) (n + i) 0 ≡ get_or ys i 0
get_or-shift xs ys n i e = subst (λ (m : ℕ). get_or (xs ++ ys) (m + i) 0 ≡ get_or ys i 0) e (get_or-append-add xs ys i 0)

pub at_eq : (M : List ℕ) {a b : ℕ} → a ≡ b → get_or M a 0 ≡ get_or M b 0
at_eq M e = ap (λ (x : ℕ). get_or M x 0) e

module _ (M : List ℕ) (a : ℕ) (bs : List ℕ) (h : a + length bs ≤ length M) where
  below : (i : ℕ) → i < a → get_or (splice M a bs) i 0 ≡ get_or M i 0
  unfolding splice
  below i g =
      let l : i < length (take a M) = simp length-take (omega arith) in
      get_or-append (take a M) (bs ++ drop (a + length bs) M) 0 i l ∙ get_or-take a M i 0 g

  within : (i : ℕ) → i < length bs → get_or (splice M a bs) (a + i) 0 ≡ get_or bs i 0
  unfolding splice
  within i g =
      get_or-shift (take a M) (bs ++ drop (a + length bs) M) a i (length-take-le a M (omega arith))
      ∙ get_or-append bs (drop (a + length bs) M) 0 i g

  above : (i : ℕ) → get_or (splice M a bs) (a + length bs + i) 0 ≡ get_or M (a + length bs + i) 0
  unfolding splice
  above i =
      ap (λ (n : ℕ). get_or (take a M ++ (bs ++ drop (a + length bs) M)) n 0) (add_assoc a (length bs) i)
      ∙ get_or-shift (take a M) (bs ++ drop (a + length bs) M) a (length bs + i) (length-take-le a M (omega arith))
      ∙ get_or-append-add bs (drop (a + length bs) M) i 0
      ∙ get_or-drop (a + length bs) M i 0

  pub changed_splice : Changed a (a + length bs) M (splice M a bs)
  changed_splice = record { len = splice-length M a bs h; outside = λ i s. ⊎_elim (below i) (over i) s }
    where
      over : (i : ℕ) → a + length bs ≤ i → get_or (splice M a bs) i 0 ≡ get_or M i 0
      over i g = at_eq (splice M a bs) (omega arith) ∙ above (i - (a + length bs)) ∙ at_eq M (omega arith)

pub changed_none : (lo hi : ℕ) (M : List ℕ) → Changed lo hi M M
changed_none lo hi M = record { len = refl; outside = λ i s. refl }

pub changed_on : {lo mid hi : ℕ} {M N O : List ℕ} → lo ≤ mid → mid ≤ hi → Changed lo mid M N → Changed mid hi N O → Changed lo hi M O
changed_on {lo} {mid} {hi} l h c d = record {
  len = d.len ∙ c.len;
  outside = λ i s. d.outside i (⊎_elim (λ g. inl (omega arith)) (λ g. inr g) s) ∙ c.outside i (⊎_elim (λ g. inl g) (λ g. inr (omega arith)) s);
}

pub wiped_none : (at : ℕ) (M : List ℕ) → Wiped at at M M
wiped_none at M = record { changed = changed_none at at M; zeros = λ i l h. absurd (omega arith) }

pub wiped_on : {lo mid hi : ℕ} {M N O : List ℕ} → lo ≤ mid → mid ≤ hi → Wiped lo mid M N → Wiped mid hi N O → Wiped lo hi M O
wiped_on {lo} {mid} {hi} {M} {N} {O} l h c d = record {
  changed = changed_on l h c.changed d.changed;
  zeros = λ i g k. ⊎_elim (λ x. d.changed.outside i (inl x) ∙ c.zeros i g x) (λ x. d.zeros i x k) (lt_or_ge i mid);
}

pub wiped_row : (at : ℕ) (M : List ℕ) → at + 16 ≤ length M → Wiped at (at + 16) M (splice M at (replicate 16 0))
wiped_row at M h = record {
  changed = changed_splice M at (replicate 16 0) h;
  zeros = λ i g k. at_eq (splice M at (replicate 16 0)) (omega arith) ∙ within M at (replicate 16 0) h (i - at) (omega arith) ∙ get_or-replicate 16 (i - at) 0 0 (omega arith);
}

pub wiped_clean : (at : ℕ) (M : List ℕ) → ((i : ℕ) → at ≤ i → i < at + 16 → get_or M i 0 ≡ 0) → Wiped at (at + 16) M M
wiped_clean at M z = record { changed = changed_none at (at + 16) M; zeros = z }

-- a part that lies outside of what was changed is as it was
pub part_same : (at n : ℕ) (M N : List ℕ) → length N ≡ length M → ((i : ℕ) → at ≤ i → get_or N i 0 ≡ get_or M i 0) → take n (drop at N) ≡ take n (drop at M)
part_same at n M N e f =
    let l : length (take n (drop at N)) ≡ length (take n (drop at M)) = simp (length-take, length-drop) (omega arith) in
    ext_get_or 0 (take n (drop at N)) (take n (drop at M)) l (λ i h.
    let g : i < n = omega (arith, length-take n (drop at N)) in
    get_or-take n (drop at N) i 0 g ∙ get_or-drop at N i 0 ∙ f (at + i) (omega arith) ∙ sym (get_or-drop at M i 0) ∙ sym (get_or-take n (drop at M) i 0 g))

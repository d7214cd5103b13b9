-- A copy that is under way: what is written, and what of the slice is still to come.
use mathlib.Core.Path.{◌≡◌, refl, ap, sym, subst, ◌∙◌}
use mathlib.Core.List.{List, [], ◌∷◌, ◌++◌}
use Prim.Native.Nat.{ℕ, ◌+◌, ◌≤◌}
use native.Mathlib.Omega.{arith}
use Rattle.std.proofs.Common.{append_assoc, append-nil}
use lib.ListN.{length, length-append}
use Rattle.slices.specs.Bytes.{Wrote}
use Rattle.slices.proofs.Splice.{chain, splice-none}

-- `done` is written and `rest` is not
pub record Copied (before : List ℕ) (at : ℕ) (src rest after : List ℕ) (next : ℕ) : Type 0 where
  pub done : List ℕ
  pub cut : src ≡ done ++ rest
  pub wrote : Wrote before at done after next

pub copied_none : (before : List ℕ) (at : ℕ) (src : List ℕ) → Copied before at src src before at
copied_none before at src = record { done = []; cut = refl; wrote = record { bytes = sym (splice-none _ _); place = omega arith } }

-- there is room for what is still to come
pub copied_room : {before src rest after : List ℕ} {at next : ℕ} → at + length src ≤ length before → Copied before at src rest after next → next + length rest ≤ length before
copied_room {rest = rest} fits c = omega (arith, fits, c.wrote.place, ap length c.cut, length-append c.done rest)

-- the next part
pub copied_on : {before src part rest after later : List ℕ} {at next n : ℕ} → at + length src ≤ length before
    → Copied before at src (part ++ rest) after next → Wrote after next part later n → Copied before at src rest later n
copied_on {part = part} {rest} fits c w =
    let room = copied_room fits c in
    record {
      done = c.done ++ part;
      cut = c.cut ∙ sym (append_assoc c.done part rest);
      wrote = chain (omega (arith, room)) c.wrote w;
    }

-- nothing is still to come
pub copied_all : {before src after : List ℕ} {at next : ℕ} (rest : List ℕ) → length rest ≡ 0 → Copied before at src rest after next → Wrote before at src after next
copied_all {before} {src} {after} {at} {next} [] e c = subst (λ (bs : List ℕ). Wrote before at bs after next) (sym (c.cut ∙ append-nil c.done)) c.wrote
copied_all (b ∷ bs) e c = absurd (omega arith)

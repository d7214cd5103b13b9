-- The URI of a payload, case by case, as it is read.
use mathlib.Core.Path.{◌≡◌, refl, ap, sym, ◌∙◌}
use mathlib.Core.Bool.{Bool, true, false}
use mathlib.Core.List.{List, [], ◌∷◌}
use Prim.Native.Nat.{ℕ, suc, ◌+◌, ◌-◌, ◌<◌}
use native.Mathlib.Omega.{arith}
use lib.ListN.{length, get_or, take, drop}
use Rattle.std.specs.Prelude.{Option, None}
use Rattle.slices.specs.Pick.{pick}
use Rattle.slices.proofs.Splice.{part-rest}
use Rattle.tlv.specs.Blocks.{span}
use Rattle.utf8.specs.Utf8.{utf8}
use Rattle.uri.specs.Prefixes.{prefix_answer}
use Rattle.links.specs.Links.{Uri, with_prefix, uri_in}

pub uri_empty : (p : List ℕ) (at : ℕ) → length p ≡ 0 → None ≡ uri_in p at
unfolding uri_in
uri_empty [] at h = refl
uri_empty (b ∷ s) at h = absurd (omega arith)

either : (u : Bool) → ◌≡◌ {A = Option Uri} None (pick u None None)
either true = refl
either false = refl

pub uri_unknown : (p : List ℕ) (at : ℕ) → 0 < length p → prefix_answer (get_or p 0 0) ≡ None → None ≡ uri_in p at
unfolding uri_in
uri_unknown [] at h e = absurd (omega arith)
uri_unknown (b ∷ s) at h e = either (utf8 s) ∙ ap (λ (x : Option (List ℕ)). pick (utf8 s) (with_prefix (span (at + 1) (length s)) b x) None) (sym e)

pub uri_read : (p : List ℕ) (at : ℕ) {x : Option (List ℕ)} {u : Bool} → 0 < length p → prefix_answer (get_or p 0 0) ≡ x
    → utf8 (take (length p - 1) (drop 1 p)) ≡ u
    → pick u (with_prefix (span (at + 1) (length p - 1)) (get_or p 0 0) x) None ≡ uri_in p at
unfolding uri_in
uri_read [] at h e f = absurd (omega arith)
uri_read (b ∷ s) at h e f =
    let n : suc (length s) - 1 ≡ length s = omega arith in
    let d : utf8 s ≡ _ = ap utf8 (sym (part-rest (b ∷ s) 1)) ∙ f in
    simp (e, d, n)

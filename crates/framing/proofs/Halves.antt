-- Bytes that are written in two parts, the second part first.
--
--   halves   == so the whole is written
use native.Mathlib.Omega.{arith}
use mathlib.Core.Path.{◌≡◌, ap, ap₂, sym, ◌∙◌}
use mathlib.Core.List.{List, ◌++◌, append_assoc}
use Prim.Native.Nat.{ℕ, ◌+◌, ◌≤◌}
use lib.ListN.{length, take, drop, length-drop, take-append-drop}
use lib.Seq.{length-take-le, drop_at}
use Rattle.slices.specs.Bytes.{splice}
use Rattle.slices.proofs.Splice.{splice-is, splice_front}

pub halves : (d f : List ℕ) (n : ℕ) → n ≤ length f → length f ≤ length d → splice (splice d n (drop n f)) 0 (take n f) ≡ splice d 0 f
halves d f n h k =
    let rest : n + length (drop n f) ≡ length f = omega (arith, length-drop n f) in
    splice_front (splice d n (drop n f)) (take n f)
    ∙ ap₂ (λ (m : ℕ) (l : List ℕ). take n f ++ drop m l) (length-take-le n f h) (splice-is d n (drop n f))
    ∙ ap (λ (l : List ℕ). take n f ++ l) (drop_at (take n d) (drop n f ++ drop (n + length (drop n f)) d) n (length-take-le n d (omega arith)))
    ∙ sym (append_assoc (take n f) (drop n f) (drop (n + length (drop n f)) d))
    ∙ ap₂ (λ (l : List ℕ) (m : ℕ). l ++ drop m d) (take-append-drop n f) rest
    ∙ sym (splice_front d f)

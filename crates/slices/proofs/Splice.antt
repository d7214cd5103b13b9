-- Laws of `splice` and `Wrote`: writes after one another are one write.
use mathlib.Core.Path.{◌≡◌, refl, ap, ap₂, sym, ◌∙◌}
use mathlib.Core.List.{List, [], ◌∷◌, ◌++◌, append_assoc, append-nil}
use Prim.Native.Nat.{ℕ, ◌+◌, ◌-◌, ◌≤◌, ◌<◌}
use native.Mathlib.Omega.{arith}
use native.Mathlib.Nat.{add_assoc, add-zero, zero-add}
use native.Mathlib.Numerals.{add-one}
use lib.ListN.{length, take, drop, set, get_or, length-append, length-drop, take-append-drop}
use lib.Seq.{length-take-le, take_at, drop_at, drop-drop, drop-length, set_split, take-suc, take_all}
use Rattle.slices.specs.Bytes.{splice, Wrote}

pub splice-is : (d : List ℕ) (at : ℕ) (bs : List ℕ) → splice d at bs ≡ take at d ++ (bs ++ drop (at + length bs) d)
unfolding splice
splice-is d at bs = refl

module _ (d : List ℕ) (at : ℕ) (bs : List ℕ) (fits : at + length bs ≤ length d) where
  pub splice-head : length (take at d ++ bs) ≡ at + length bs
  splice-head = length-append (take at d) bs ∙ ap (λ (n : ℕ). n + length bs) (length-take-le at d (omega arith))

  pub splice-length : length (splice d at bs) ≡ length d
  unfolding splice
  splice-length =
      let h : at ≤ length d = omega arith in
      omega (arith, length-append (take at d) (bs ++ drop (at + length bs) d), length-append bs (drop (at + length bs) d), length-drop (at + length bs) d, length-take-le at d h)

  pub splice-take : take (at + length bs) (splice d at bs) ≡ take at d ++ bs
  unfolding splice
  splice-take = rw (← append_assoc (take at d) bs (drop (at + length bs) d)) (take_at (take at d ++ bs) (drop (at + length bs) d) _ splice-head)

  pub splice-drop : drop (at + length bs) (splice d at bs) ≡ drop (at + length bs) d
  unfolding splice
  splice-drop = rw (← append_assoc (take at d) bs (drop (at + length bs) d)) (drop_at (take at d ++ bs) (drop (at + length bs) d) _ splice-head)

  pub splice-splice : (cs : List ℕ) → splice (splice d at bs) (at + length bs) cs ≡ splice d at (bs ++ cs)
  splice-splice cs =
      splice-is (splice d at bs) (at + length bs) cs
      ∙ ap₂ (λ (l r : List ℕ). l ++ (cs ++ r)) splice-take
      (sym (drop-drop (length cs) (at + length bs) (splice d at bs)) ∙ ap (λ (l : List ℕ). drop (length cs) l) splice-drop ∙ drop-drop (length cs) (at + length bs) d)
      ∙ simp (splice-is, append_assoc, length-append, add_assoc)

pub splice-one : (d : List ℕ) (at b : ℕ) → at < length d → set d at b ≡ splice d at (b ∷ [])
unfolding splice
splice-one d at b h = set_split d at b h ∙ ap (λ (n : ℕ). take at d ++ b ∷ drop n d) (sym (add-one at))

-- at the front: the bytes, then the rest of the buffer
pub splice_front : (d bs : List ℕ) → splice d 0 bs ≡ bs ++ drop (length bs) d
unfolding splice
splice_front d bs = simp zero-add

-- over the whole buffer: the bytes alone
pub splice-whole : (d bs : List ℕ) → length d ≡ length bs → splice d 0 bs ≡ bs
splice-whole d bs e = splice_front d bs ∙ ap (λ (n : ℕ). bs ++ drop n d) (sym e) ∙ ap (λ (l : List ℕ). bs ++ l) (drop-length d) ∙ append-nil bs

-- nothing written
pub splice-none : (d : List ℕ) (at : ℕ) → splice d at [] ≡ d
unfolding splice
splice-none d at = simp (add-zero, take-append-drop)

module _ {o₀ o₁ o₂ : List ℕ} {at n₁ n₂ : ℕ} {bs cs : List ℕ} where
  -- two writes, the second where the first ended, are one
  pub chain : n₁ ≤ length o₀ → Wrote o₀ at bs o₁ n₁ → Wrote o₁ n₁ cs o₂ n₂ → Wrote o₀ at (bs ++ cs) o₂ n₂
  chain h w v =
      let p = w.place in
      record {
        bytes = v.bytes ∙ ap₂ (λ (l : List ℕ) (n : ℕ). splice l n cs) w.bytes w.place ∙ splice-splice o₀ at bs (omega arith) cs;
        place = let e = length-append bs cs in let q = v.place in omega arith;
      }

-- one more byte of a copy
pub splice-more : (d : List ℕ) (at : ℕ) (s : List ℕ) (i : ℕ) → i < length s → at + length s ≤ length d
    → set (splice d at (take i s)) (at + i) (get_or s i 0) ≡ splice d at (take (i + 1) s)
splice-more d at s i h fits =
    let l : length (take i s) ≡ i = length-take-le i s (omega arith) in
    let k = splice-length d at (take i s) (omega arith) in
    splice-one (splice d at (take i s)) (at + i) (get_or s i 0) (omega arith)
    ∙ ap (λ (n : ℕ). splice (splice d at (take i s)) (at + n) (get_or s i 0 ∷ [])) (sym l)
    ∙ splice-splice d at (take i s) (omega arith) (get_or s i 0 ∷ [])
    ∙ ap (splice d at) (sym (take-suc s i 0 h) ∙ ap (λ (n : ℕ). take n s) (sym (add-one i)))

-- a part `&s[n..]` is the rest
pub part-rest : (s : List ℕ) (n : ℕ) → take (length s - n) (drop n s) ≡ drop n s
part-rest s n = take_all (length s - n) (drop n s) (omega (arith, length-drop n s))

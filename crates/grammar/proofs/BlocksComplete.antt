-- What the grammar writes is read back.
--
--   size-read      == a length is read, whatever follows it
--   passed-read    == a block that is stepped over is stepped over
--   stops-read     == blocks that answer at once are read as that answer
--   passes_read    == and so are they after blocks that are stepped over
--   head_read      == after a container the blocks are read
use mathlib.Core.Path.{◌≡◌, refl, ap, sym, subst, ◌∙◌}
use mathlib.Core.List.{List, [], ◌∷◌, ◌++◌, append_assoc}
use Prim.Native.Nat.{ℕ, ◌+◌, ◌*◌, ◌/◌, ◌%◌, ◌≤◌, ◌<◌}
use native.Mathlib.Omega.{arith}
use borrow.Author.Tests.{eq-eqb, ne_eqb, lt-ltb, le-ltb}
use lib.ListN.{length, get_or, drop, length-append}
use lib.Seq.{drop_at, drop-drop}
use lib.Dec.{eqb}
use Rattle.std.specs.Prelude.{Option, Some, None}
use Rattle.slices.specs.Pick.{pick}
use Rattle.slices.specs.Bytes.{be}
use Rattle.slices.specs.Walk.{on_next}
use Rattle.tlv.specs.declared.Block.{Block}
use Rattle.tlv.specs.declared.Block.TheVariants as block
use Rattle.tlv.specs.Blocks.{span, length_of, tlv_length, body_of, on_length, block_of}
use Rattle.blocks.specs.Read.{Read, on_block, message_from, container_len, read_of}
use Rattle.grammar.specs.Blocks.{Version1, Head, large, long, small, Size, one, three, Passed, null, other, Passes, none, first, Cut, no_length, escape, half, beyond, Stops, message, no_more, terminator, cut}
use Rattle.blocks.proofs.Blocks.{message-step}

pub size-read : (n : ℕ) (l s : List ℕ) → Size n l → tlv_length (l ++ s) ≡ Some (length_of n (length l))
unfolding tlv_length be
size-read n l s (one h) =
    let z : length ((n ∷ []) ++ s) ≡ 0 → ⊥ = (λ e. omega arith) in
    let e : n ≡ 0xFF → ⊥ = (λ f. omega arith) in
    simp (ne_eqb _ _ z, ne_eqb _ _ e)
size-read n l s (three h) =
    let z : length (0xFF ∷ n / 256 % 256 ∷ n % 256 ∷ s) ≡ 0 → ⊥ = (λ e. omega arith) in
    let k : 3 ≤ length (0xFF ∷ n / 256 % 256 ∷ n % 256 ∷ s) = omega arith in
    let v : n / 256 % 256 * 256 + n % 256 ≡ n = omega arith in
    simp (ne_eqb _ _ z, le-ltb _ _ k, v)

module _ (t : ℕ) (a : t ≡ 0x00 → ⊥) (b : t ≡ 0xFE → ⊥) where
  -- a block with a length
  typed_read : (s : List ℕ) → block_of (t ∷ s) ≡ on_length (t ∷ s) t (tlv_length s)
  unfolding block_of
  typed_read s =
      let z : length (t ∷ s) ≡ 0 → ⊥ = (λ e. omega arith) in
      simp (ne_eqb _ _ z, ne_eqb _ _ a, ne_eqb _ _ b)

  sized-read : (n : ℕ) (l s : List ℕ) → Size n l → block_of (t ∷ (l ++ s)) ≡ body_of (t ∷ (l ++ s)) t (1 + length l) n
  sized-read n l s h = typed_read (l ++ s) ∙ ap (on_length (t ∷ (l ++ s)) t) (size-read n l s h)

  -- all there
  whole-read : (l body s : List ℕ) → Size (length body) l
      → block_of (t ∷ (l ++ (body ++ s))) ≡ Some (pick (eqb t 0x03) (block.Body (span (1 + length l) (length body))) (block.Over (1 + length l + length body)))
  unfolding body_of
  whole-read l body s h =
      let k : 1 + length l + length body ≤ length (t ∷ (l ++ (body ++ s)))
      = omega (arith, length-append l (body ++ s), length-append body s) in
      sized-read (length body) l (body ++ s) h ∙ simp (le-ltb _ _ k)

  cut-read : (s : List ℕ) → Cut s → block_of (t ∷ s) ≡ None
  unfolding tlv_length body_of
  cut-read s no_length = typed_read []
  cut-read s escape = typed_read (0xFF ∷ [])
  cut-read s (half {x}) = typed_read (0xFF ∷ x ∷ [])
  cut-read s (beyond {n} {l} rest h few) =
      let k : length (t ∷ (l ++ rest)) < 1 + length l + n = omega (arith, length-append l rest) in
      sized-read n l rest h ∙ simp (lt-ltb _ _ k)

pub passed-read : (b s : List ℕ) → Passed b → block_of (b ++ s) ≡ Some (block.Over (length b))
unfolding block_of
passed-read b s null =
    let z : length ((0x00 ∷ []) ++ s) ≡ 0 → ⊥ = (λ e. omega arith) in
    simp (ne_eqb _ _ z)
passed-read b s (other {t} {l} body x y z h) =
    let e : 1 + length l + length body ≡ length (t ∷ (l ++ body)) = omega (arith, length-append l body) in
    ap (λ (r : List ℕ). block_of (t ∷ r)) (append_assoc l body s)
    ∙ whole-read t x z l body s h
    ∙ simp (ne_eqb _ _ y) (ap (λ (n : ℕ). Some (block.Over n)) e)

pub stops-read : (s : List ℕ) (at : ℕ) (m : Read) → Stops s at m → (k : ℕ → Read) → on_next (on_block at (block_of s)) k ≡ m
unfolding block_of
stops-read s at m (message {l} body rest h) k =
    ap (λ (b : Option Block). on_next (on_block at b) k) (whole-read 0x03 (λ e. omega arith) (λ e. omega arith) l body rest h)
stops-read s at m no_more k = refl
stops-read s at m (terminator {s = u}) k =
    let z : length (0xFE ∷ u) ≡ 0 → ⊥ = (λ e. omega arith) in
    simp (ne_eqb _ _ z)
stops-read s at m (cut {t} {s = u} a b c) k = ap (λ (x : Option Block). on_next (on_block at x) k) (cut-read t a b u c)

module _ (image : List ℕ) where
  pub passes_read : (blocks tail : List ℕ) (at : ℕ) (m : Read) → Passes blocks → drop at image ≡ blocks ++ tail
      → Stops tail (at + length blocks) m → message_from image at ≡ m
  passes_read blocks tail at m none e h =
      let z : at + 0 ≡ at = omega arith in
      message-step image at
      ∙ ap (λ (r : List ℕ). on_next (on_block at (block_of r)) (message_from image)) e
      ∙ stops-read tail at m (subst (λ (n : ℕ). Stops tail n m) z h) (message_from image)
  passes_read blocks tail at m (first {b} {bs} p ps) e h =
      let f : drop at image ≡ b ++ (bs ++ tail) = e ∙ append_assoc b bs tail in
      let g : drop (at + length b) image ≡ bs ++ tail
      = sym (drop-drop (length b) at image) ∙ ap (drop (length b)) f ∙ drop_at b (bs ++ tail) (length b) refl in
      let n : at + length (b ++ bs) ≡ at + length b + length bs = omega (arith, length-append b bs) in
      message-step image at
      ∙ ap (λ (r : List ℕ). on_next (on_block at (block_of r)) (message_from image)) f
      ∙ ap (λ (x : Option Block). on_next (on_block at x) (message_from image)) (passed-read b (bs ++ tail) p)
      ∙ passes_read bs tail (at + length b) m ps g (subst (λ (k : ℕ). Stops tail k m) n h)

-- a container that is all there
opened : (s : List ℕ) (n : ℕ) → container_len s ≡ Some n → n ≤ length s → Version1 (get_or s 1 0) → read_of s ≡ message_from s n
unfolding read_of
opened s n e k v = simp (e, le-ltb _ _ k, eq-eqb _ _ v)

pub head_read : (h s : List ℕ) → Head h → read_of (h ++ s) ≡ message_from (h ++ s) (length h)
unfolding container_len
head_read h s (large {v} {rest} ver six) =
    let f : length (0xE2 ∷ v ∷ rest) ≡ 8 = omega arith in
    let k : 8 ≤ length (0xE2 ∷ v ∷ (rest ++ s)) = omega (arith, length-append rest s) in
    let t : 3 ≤ length (0xE2 ∷ v ∷ (rest ++ s)) = omega arith in
    opened (0xE2 ∷ v ∷ (rest ++ s)) 8 (simp (le-ltb _ _ t)) k ver ∙ ap (message_from (0xE2 ∷ v ∷ (rest ++ s))) (sym f)
head_read h s (long {v} {rest} ver five) =
    let f : length (0xE1 ∷ v ∷ 0x00 ∷ rest) ≡ 8 = omega arith in
    let k : 8 ≤ length (0xE1 ∷ v ∷ 0x00 ∷ (rest ++ s)) = omega (arith, length-append rest s) in
    let t : 3 ≤ length (0xE1 ∷ v ∷ 0x00 ∷ (rest ++ s)) = omega arith in
    opened (0xE1 ∷ v ∷ 0x00 ∷ (rest ++ s)) 8 (simp (le-ltb _ _ t)) k ver
    ∙ ap (message_from (0xE1 ∷ v ∷ 0x00 ∷ (rest ++ s))) (sym f)
head_read h s (small {v} {blocks} {last} ver some) =
    let k : 4 ≤ length (0xE1 ∷ v ∷ blocks ∷ last ∷ s) = omega arith in
    let t : 3 ≤ length (0xE1 ∷ v ∷ blocks ∷ last ∷ s) = omega arith in
    opened (0xE1 ∷ v ∷ blocks ∷ last ∷ s) 4 (simp (le-ltb _ _ t, ne_eqb _ _ some)) k ver

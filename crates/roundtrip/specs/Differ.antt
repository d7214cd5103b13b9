-- Two images of one kind are the same only where their payloads are: a label cannot be taken for another.
-- From no public document: theorems about the bytes of document 01, 'Bytes of an image (lib.rs)'.
--
--   fronts, rests      == lists in two pieces are equal piece by piece, where the first pieces are equally long
--   payload_of_image   == equal images of one type have equal payloads
--   text_of_image      == equal images of texts are of one text
--   uri_of_image       == equal images of URIs have one prefix and one rest
use Rattle.std.specs.Prelude.{◌≡◌, refl, List, [], ◌∷◌, ◌++◌, ℕ, ◌≤◌, ◌<◌, length, take, drop}
use Rattle.std.proofs.Common.{ap, sym, ◌∙◌, ⊎_elim, arith, take_at, drop_at, le-leb, lt-ltb, le-ltb}
use Rattle.slices.proofs.Cases.{lt_or_ge}
use Rattle.layout.specs.Lengths.{head_len, block_len, record_len, image_len}
use Rattle.layout.specs.Record.{whole}
use Rattle.layout.specs.Block.{terminator}
use Rattle.layout.specs.Payload.{text_payload, english, uri_payload}
use Rattle.layout.specs.Image.{image, front, text_image, uri_image}
use Rattle.layout.proofs.Images.{image-front, image-length}
use Rattle.layout.proofs.Sizes.{image-is, record_is}
use Rattle.std.proofs.lemmas.Bool.{lt-leb}

-- a longer payload has a longer image
module _ (k p q : ℕ) (l : p < q) where
  heads : head_len p ≤ head_len q
  heads =
      ⊎_elim
      (λ h. let e : head_len p ≡ 6 = simp (lt-leb p 255 h) in let f : head_len q ≡ 6 = simp (lt-leb q 255 (omega arith)) in omega arith)
      (λ h. ⊎_elim
      (λ g. let e : head_len p ≡ 3 = simp (le-leb p 255 h) in let f : head_len q ≡ 6 = simp (lt-leb q 255 g) in omega arith)
      (λ g. let e : head_len p ≡ 3 = simp (le-leb p 255 h) in let f : head_len q ≡ 3 = simp (le-leb q 255 g) in omega arith)
      (lt_or_ge 255 q))
      (lt_or_ge 255 p)

  blocks : (m n : ℕ) → m < n → block_len m ≤ block_len n
  blocks m n h =
      ⊎_elim
      (λ g. ⊎_elim
      (λ j. let e : block_len m ≡ 2 = simp (lt-ltb m 255 g) in let f : block_len n ≡ 2 = simp (lt-ltb n 255 j) in omega arith)
      (λ j. let e : block_len m ≡ 2 = simp (lt-ltb m 255 g) in let f : block_len n ≡ 4 = simp (le-ltb n 255 j) in omega arith)
      (lt_or_ge n 255))
      (λ g. let e : block_len m ≡ 4 = simp (le-ltb m 255 g) in let f : block_len n ≡ 4 = simp (le-ltb n 255 (omega arith)) in omega arith)
      (lt_or_ge m 255)

  longer : image_len k p < image_len k q
  longer =
      let a = record_is k p in
      let b = record_is k q in
      let h = heads in
      let r : record_len k p < record_len k q = omega arith in
      omega (arith, image-is k p, image-is k q, blocks (record_len k p) (record_len k q) r)

same_length : (k p q : ℕ) → image_len k p ≡ image_len k q → p ≡ q
same_length k p q e =
    ⊎_elim (λ h. let l = longer k p q h in absurd (omega arith)) (λ h. ⊎_elim (λ g. let l = longer k q p g in absurd (omega arith)) (λ g. omega arith) (lt_or_ge q p)) (lt_or_ge p q)

-- two lists whose fronts are equally long are equal piece by piece
module _ (a b x y : List ℕ) (n : length a ≡ length b) (e : a ++ x ≡ b ++ y) where
  pub fronts : a ≡ b
  fronts = sym (take_at a x (length a) refl) ∙ ap (take (length a)) e ∙ take_at b y (length a) (sym n)

  pub rests : x ≡ y
  rests = sym (drop_at a x (length a) refl) ∙ ap (drop (length a)) e ∙ drop_at b y (length a) (sym n)

module _ (area format : ℕ) (kind p q : List ℕ) where
  pub payload_of_image : image area (whole format kind p) ≡ image area (whole format kind q) → p ≡ q
  payload_of_image e =
      let n : length p ≡ length q =
      same_length (length kind) (length p) (length q)
      (sym (image-length area format kind p) ∙ ap length e ∙ image-length area format kind q) in
      let f : front area format kind (length p) ++ (p ++ terminator) ≡ front area format kind (length q) ++ (q ++ terminator) =
      sym (image-front format kind p area) ∙ e ∙ image-front format kind q area in
      let g : length (front area format kind (length p)) ≡ length (front area format kind (length q)) =
      ap (λ (m : ℕ). length (front area format kind m)) n in
      fronts p q terminator terminator n (rests (front area format kind (length p)) (front area format kind (length q)) (p ++ terminator) (q ++ terminator) g f)

pub text_of_image : (area : ℕ) (t u : List ℕ) → text_image area t ≡ text_image area u → t ≡ u
unfolding text_payload
text_of_image area t u e =
    rests (2 ∷ english) (2 ∷ english) t u refl (payload_of_image area 1 (0x54 ∷ []) (text_payload english t) (text_payload english u) e)

pub uri_of_image : (area code code' : ℕ) (t u : List ℕ) → uri_image area code t ≡ uri_image area code' u → (code ≡ code') × (t ≡ u)
unfolding uri_payload
uri_of_image area code code' t u e =
    let d = payload_of_image area 1 (0x55 ∷ []) (uri_payload code t) (uri_payload code' u) e in
    (cc, rests (code ∷ []) (code' ∷ []) t u refl d)

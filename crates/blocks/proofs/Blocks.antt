-- The message is found block by block.
--
--   message-step    == the message from a place on, by the block that stands there
--   message_at      == the same, by what the code found there
--   found_is        == what was found, by its kind
--   next_there      == after a block that is stepped over the next place is further on, and not past the end
--   message_there   == a message that stands there ends inside the image
use mathlib.Core.Path.{◌≡◌, refl, ap, sym, ◌∙◌}
use mathlib.Core.List.{List}
use Prim.Native.Nat.{ℕ, ◌+◌, ◌-◌, ◌≤◌, ◌<◌}
use native.Mathlib.Omega.{arith}
use lib.ListN.{length, take, drop, length-drop}
use Rattle.std.specs.Prelude.{Option, Some, None, Err}
use Rattle.slices.specs.Walk.{more, on_next}
use Rattle.slices.proofs.Splice.{part-rest}
use Rattle.slices.proofs.Walks.{walk_step}
use Rattle.tlv.specs.declared.Span.{Span}
use Rattle.tlv.specs.declared.Block.{Block}
use Rattle.tlv.specs.declared.Block.TheVariants.{Over, Body, Stop}
use Rattle.tlv.specs.Blocks.{block_of}
use Rattle.tlv.proofs.Blocks.{over_there, body_there}
use Rattle.blocks.specs.declared.Unread.TheVariants.{NoMessage}
use Rattle.blocks.specs.Read.{on_block, message_from}

module _ (image : List ℕ) where
  fall : (a : ℕ) (b : Option Block) → block_of (drop a image) ≡ b → (t : ℕ) → on_block a b ≡ more t → length image - t < length image - a
  fall a (Some (Over n)) e t m =
      let h = over_there (drop a image) e in
      let k : a + n ≡ t = cc in
      omega (arith, length-drop a image)
  fall a (Some (Body b)) e t m = let z : ◌≡◌ {A = ℕ} 0 1 = cc in omega arith
  fall a (Some Stop) e t m = let z : ◌≡◌ {A = ℕ} 0 1 = cc in omega arith
  fall a None e t m = let z : ◌≡◌ {A = ℕ} 0 1 = cc in omega arith

  pub message-step : (a : ℕ) → message_from image a ≡ on_next (on_block a (block_of (drop a image))) (message_from image)
  unfolding message_from
  message-step a =
      walk_step (λ k. on_block k (block_of (drop k image))) (Err NoMessage) (λ k. length image - k)
      (λ k t e. fall k (block_of (drop k image)) refl t e) a

  -- what the code finds at a place
  module _ (a : ℕ) (inside : a ≤ length image) where
    abbrev Found : Option Block → Type 0
    Found b = b ≡ block_of (take (length image - a) (drop a image))

    pub found_is : {x y : Block} → Found (Some x) → x ≡ y → Found (Some y)
    found_is f e = sym (ap Some e) ∙ f

    there : {b : Option Block} → Found b → block_of (drop a image) ≡ b
    there f = ap block_of (sym (part-rest image a)) ∙ sym f

    pub message_at : {b : Option Block} → Found b → message_from image a ≡ on_next (on_block a b) (message_from image)
    message_at f = message-step a ∙ ap (λ (x : Option Block). on_next (on_block a x) (message_from image)) (there f)

    pub next_there : {n : ℕ} → Found (Some (Over n)) → (0 < n) × (a + n ≤ length image)
    next_there f =
        let h = over_there (drop a image) (there f) in
        (h.0, omega (arith, length-drop a image))

    pub message_there : {m : Span} → Found (Some (Body m)) → a + m.at + m.len ≤ length image
    message_there f =
        let h = body_there (drop a image) (there f) in
        omega (arith, length-drop a image)

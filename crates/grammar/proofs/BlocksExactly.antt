-- What reading an image answers, by the grammar: the crate's headline theorems.
--
--   read_exactly           == an image is read as m, which is not 'no container', exactly where the grammar writes it so
--   message_exactly        == 0, a message at a place: exactly where a container, blocks that are stepped over and a message block with
--                             its body at that place stand in front
--   message-inside         == a message that is found lies inside the image
--   no_container_exactly   == 11 exactly where the image begins with no container
--   no_message_exactly     == 12 exactly where the blocks end, by their bytes or by FE, before a message
--   truncated_exactly      == 13 exactly where a block before the message, or the message's, has a length that fails
use mathlib.Core.Path.{◌≡◌, refl, ap, ap₂, sym, subst, ◌∙◌}
use mathlib.Core.List.{List, ◌∷◌, ◌++◌, append_assoc}
use mathlib.Core.Logic.{◌↔◌, ⊎_elim}
use Prim.Native.Nat.{ℕ, ◌+◌, ◌≤◌}
use native.Mathlib.Omega.{arith}
use lib.ListN.{length, take, drop, length-append}
use lib.Seq.{drop_at, take_at}
use lib.Dec.{eqb}
use Rattle.std.specs.Prelude.{Ok, Err}
use Rattle.slices.specs.Pick.{pick}
use Rattle.blocks.specs.declared.Unread.TheVariants.{NoContainer, NoMessage, Truncated}
use Rattle.tlv.specs.declared.Span.{Span}
use Rattle.tlv.specs.Blocks.{span}
use Rattle.blocks.specs.Read.{Read, found, message_from, read_of, number_of}
use Rattle.grammar.specs.Blocks.{Bytes, Head, Size, Stops, message, no_more, terminator, cut, Reads, MessageAt}
use Rattle.grammar.proofs.BlocksComplete.{passes_read, head_read}
use Rattle.grammar.proofs.BlocksSound.{message_said, Headed, head_or_none}

-- what the grammar writes is read so
written : (s : List ℕ) (m : Read) → Reads s m → read_of s ≡ m
written s m r =
    let d = drop_at r.head (r.blocks ++ r.tail) (length r.head) refl in
    ap read_of r.whole
    ∙ head_read r.head (r.blocks ++ r.tail) r.is-head
    ∙ passes_read (r.head ++ (r.blocks ++ r.tail)) r.blocks r.tail (length r.head) m r.passed d r.stops

-- a refusal, by its number
refusal : ℕ → Read
refusal n = pick (eqb n 11) (Err NoContainer) (pick (eqb n 12) (Err NoMessage) (Err Truncated))

told : (m : Read) {n : ℕ} → number_of m ≡ n → (n ≡ 0 → ⊥) → m ≡ refusal n
unfolding refusal
told (Ok m) e z = absurd (z (sym e))
told (Err NoContainer) e z = ap refusal e
told (Err NoMessage) e z = ap refusal e
told (Err Truncated) e z = ap refusal e

never : (tail : List ℕ) (at : ℕ) (m : Read) → Stops tail at m → m ≡ Err NoContainer → ⊥
never tail at m (message body rest h) e = let z : ◌≡◌ {A = ℕ} 0 1 = cc in omega arith
never tail at m no_more e = let z : ◌≡◌ {A = ℕ} 0 1 = cc in omega arith
never tail at m terminator e = let z : ◌≡◌ {A = ℕ} 0 1 = cc in omega arith
never tail at m (cut a b c) e = let z : ◌≡◌ {A = ℕ} 0 1 = cc in omega arith

same_found : {at len p n : ℕ} → found at len ≡ found p n → (at ≡ p) × (len ≡ n)
same_found {at} {len} {p} {n} e =
    let f : span at len ≡ span p n = cc in
    (ap (λ (b : Span). b.at) f, ap (λ (b : Span). b.len) f)

-- blocks that answer with a message begin with it
record Begins (tail : List ℕ) (at place len : ℕ) : Type 0 where
  size : List ℕ
  body : List ℕ
  rest : List ℕ
  is-size : Size (length body) size
  whole : tail ≡ 0x03 ∷ (size ++ (body ++ rest))
  place_is : place ≡ at + (1 + length size)
  len_is : len ≡ length body

begins : (tail : List ℕ) (at : ℕ) (m : Read) → Stops tail at m → (place len : ℕ) → m ≡ found place len → Begins tail at place len
begins tail at m (message {l} body rest h) place len e =
    let same = same_found e in
    record { size = l; body = body; rest = rest; is-size = h; whole = refl; place_is = sym same.0; len_is = sym same.1 }
begins tail at m no_more place len e = let z : ◌≡◌ {A = ℕ} 0 1 = cc in absurd (omega arith)
begins tail at m terminator place len e = let z : ◌≡◌ {A = ℕ} 0 1 = cc in absurd (omega arith)
begins tail at m (cut a b c) place len e = let z : ◌≡◌ {A = ℕ} 0 1 = cc in absurd (omega arith)

module _ (s : List ℕ) (bytes : Bytes s) where
  -- an image with a container is read as the grammar writes it
  after-head : (h : Headed s) → Reads s (read_of s)
  after-head h =
      let d : drop (length h.head) s ≡ h.rest
      = ap (drop (length h.head)) h.whole ∙ drop_at h.head h.rest (length h.head) refl in
      let e : message_from s (length h.head) ≡ read_of s
      = sym (ap read_of h.whole ∙ head_read h.head h.rest h.is-head
      ∙ ap (λ (l : List ℕ). message_from l (length h.head)) (sym h.whole)) in
      let r = message_said s bytes (length h.head) in
      record {
        head = h.head;
        blocks = r.blocks;
        tail = r.tail;
        is-head = h.is-head;
        passed = r.passed;
        whole = h.whole ∙ ap (λ (l : List ℕ). h.head ++ l) (sym d ∙ r.whole);
        stops = subst (λ (m : Read). Stops r.tail (length h.head + length r.blocks) m) e r.stops;
      }

  pub read_exactly : (m : Read) → (m ≡ Err NoContainer → ⊥) → (read_of s ≡ m) ↔ Reads s m
  read_exactly m n =
      ((λ e. subst (Reads s) e (⊎_elim after-head (λ z. absurd (n (sym e ∙ z))) (head_or_none s))), written s m)

  pub no_container_exactly : (number_of (read_of s) ≡ 11) ↔ ((h t : List ℕ) → Head h → s ≡ h ++ t → ⊥)
  unfolding refusal
  no_container_exactly = (
    (λ n h t hd e.
        let r = after-head (record { head = h; rest = t; is-head = hd; whole = e }) in
        never r.tail (length r.head + length r.blocks) (read_of s) r.stops (told (read_of s) n (λ z. omega arith))),
    (λ no. ⊎_elim (λ h. absurd (no h.head h.rest h.is-head h.whole)) (λ z. ap number_of z) (head_or_none s)),
  )

  pub no_message_exactly : (number_of (read_of s) ≡ 12) ↔ Reads s (Err NoMessage)
  unfolding refusal
  no_message_exactly =
      let r = read_exactly (Err NoMessage) (λ e. let z : ◌≡◌ {A = ℕ} 0 1 = cc in omega arith) in
      ((λ n. r.0 (told (read_of s) n (λ z. omega arith))), λ w. ap number_of (r.1 w))

  pub truncated_exactly : (number_of (read_of s) ≡ 13) ↔ Reads s (Err Truncated)
  unfolding refusal
  truncated_exactly =
      let r = read_exactly (Err Truncated) (λ e. let z : ◌≡◌ {A = ℕ} 0 1 = cc in omega arith) in
      ((λ n. r.0 (told (read_of s) n (λ z. omega arith))), λ w. ap number_of (r.1 w))

  module _ (place len : ℕ) where
    at_place : Reads s (found place len) → MessageAt s place len
    at_place r =
        let b = begins r.tail (length r.head + length r.blocks) (found place len) r.stops place len refl in
        let front = r.head ++ (r.blocks ++ (0x03 ∷ b.size)) in
        let w : s ≡ r.head ++ (r.blocks ++ (0x03 ∷ (b.size ++ (b.body ++ b.rest))))
        = r.whole ∙ ap (λ (l : List ℕ). r.head ++ (r.blocks ++ l)) b.whole in
        let f : s ≡ front ++ (b.body ++ b.rest) = w ∙ simp append_assoc in
        let l : length front ≡ place
        = omega (arith, b.place_is, length-append r.head (r.blocks ++ (0x03 ∷ b.size)), length-append r.blocks (0x03 ∷ b.size)) in
        record {
          head = r.head;
          blocks = r.blocks;
          size = b.size;
          body = b.body;
          rest = b.rest;
          is-head = r.is-head;
          passed = r.passed;
          is-size = b.is-size;
          whole = w;
          place_is = b.place_is;
          len_is = b.len_is;
          body_at =
              ap (take len) (ap (drop place) f ∙ drop_at front (b.body ++ b.rest) place l)
              ∙ take_at b.body b.rest len (sym b.len_is);
        }

    from_place : MessageAt s place len → Reads s (found place len)
    from_place a =
        record {
          head = a.head;
          blocks = a.blocks;
          tail = 0x03 ∷ (a.size ++ (a.body ++ a.rest));
          is-head = a.is-head;
          passed = a.passed;
          whole = a.whole;
          stops =
              subst (Stops (0x03 ∷ (a.size ++ (a.body ++ a.rest))) (length a.head + length a.blocks))
              (sym (ap₂ found a.place_is a.len_is)) (message a.body a.rest a.is-size);
        }

    pub message_exactly : (read_of s ≡ found place len) ↔ MessageAt s place len
    message_exactly =
        let r = read_exactly (found place len) (λ e. let z : ◌≡◌ {A = ℕ} 0 1 = cc in omega arith) in
        ((λ e. at_place (r.0 e)), λ a. r.1 (from_place a))

    pub message-inside : read_of s ≡ found place len → place + len ≤ length s
    message-inside e =
        let a = message_exactly.0 e in
        omega (
          arith,
          a.place_is,
          a.len_is,
          ap length a.whole,
          length-append a.head (a.blocks ++ (0x03 ∷ (a.size ++ (a.body ++ a.rest)))),
          length-append a.blocks (0x03 ∷ (a.size ++ (a.body ++ a.rest))),
          length-append a.size (a.body ++ a.rest),
          length-append a.body a.rest,
        )

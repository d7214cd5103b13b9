-- What is read is what the grammar writes.
--
--   size_said      == a length that is read is written so, or is not all there
--   block_said     == so is a block
--   message_said   == the blocks from a place on are blocks that are stepped over, and bytes that give the answer
--   head_or_none   == an image begins with a container, or is read as having none
use mathlib.Core.Path.{◌≡◌, refl, ap, ap₂, sym, subst, ◌∙◌}
use mathlib.Core.List.{List, [], ◌∷◌, ◌++◌, append_assoc}
use mathlib.Core.Logic.{◌⊎◌, inl, inr}
use Prim.Native.Nat.{ℕ, zero, suc, ◌+◌, ◌-◌, ◌*◌, ◌/◌, ◌%◌, ◌≤◌, ◌<◌}
use native.Mathlib.Omega.{arith}
use borrow.Author.Tests.{eqb-true, eqb-false, ltb-true, ltb-false}
use lib.ListN.{length, get_or, take, drop, length-append, length-drop, take-append-drop}
use lib.Seq.{drop_at, drop-drop, get_or-drop, length-take-le}
use lib.Dec.{eqb, ltb}
use Rattle.std.specs.Prelude.{Option, Some, None, Err}
use Rattle.slices.specs.Bytes.{be}
use Rattle.slices.specs.Walk.{on_next}
use Rattle.slices.proofs.Cases.{pick_cases}
use Rattle.tlv.specs.declared.Length.{Length}
use Rattle.tlv.specs.declared.Block.{Block}
use Rattle.tlv.specs.declared.Block.TheVariants as block
use Rattle.blocks.specs.declared.Unread.TheVariants.{NoContainer, NoMessage, Truncated}
use Rattle.tlv.specs.Blocks.{tlv_length, body_of, on_length, block_of}
use Rattle.blocks.specs.Read.{Read, found, on_block, message_from, container_len, in_container, read_of}
use Rattle.grammar.specs.Blocks.{Bytes, Version1, Head, large, long, small, Size, one, three, Passed, null, other, Passes, none, first, Cut, no_length, escape, half, beyond, Stops, message, no_more, terminator, cut}
use Rattle.blocks.proofs.Blocks.{message-step}

-- two bytes are those of the number that they say
two_bytes : (a b : ℕ) → a < 256 → b < 256 → be 2 (a * 256 + b) ≡ a ∷ b ∷ []
unfolding be
two_bytes a b h k =
    let q : (a * 256 + b) / 256 ≡ a = omega arith in
    let r : (a * 256 + b) % 256 ≡ b = omega arith in
    let t : a % 256 ≡ a = omega arith in
    rw (q, r, t)

-- s begins with a length n that takes `size` bytes
record Sized (s : List ℕ) (n size : ℕ) : Type 0 where
  length-bytes : List ℕ
  rest : List ℕ
  is-size : Size n length-bytes
  whole : s ≡ length-bytes ++ rest
  takes : size ≡ length length-bytes

abbrev Said : List ℕ → Option Length → Type 0
Said s (Some l) = Sized s l.len l.size
Said s None = Cut s

escaped : (a : ℕ) (s : List ℕ) → a ≡ 0xFF → Cut (0xFF ∷ s) → Cut (a ∷ s)
escaped a s e c = subst (λ (n : ℕ). Cut (n ∷ s)) (sym e) c

single : (a : ℕ) (s : List ℕ) → a < 256 → (a ≡ 0xFF → ⊥) → Sized (a ∷ s) a 1
single a s h n =
    let k : a < 255 = omega arith in
    record { length-bytes = a ∷ []; rest = s; is-size = one k; whole = refl; takes = refl }

triple : (a b c : ℕ) (s : List ℕ) → b < 256 → c < 256 → a ≡ 0xFF → Sized (a ∷ b ∷ c ∷ s) (b * 256 + c) 3
triple a b c s h k e =
    let t = two_bytes b c h k in
    let l : b * 256 + c < 65536 = omega arith in
    record {
      length-bytes = 0xFF ∷ be 2 (b * 256 + c);
      rest = s;
      is-size = three l;
      whole = rw (e, t);
      takes = rw t;
    }

size_said : (s : List ℕ) → Bytes s → Said s (tlv_length s)
unfolding tlv_length
size_said [] bytes = no_length
size_said (a ∷ []) bytes =
    pick_cases (Said (a ∷ [])) (eqb a 0xFF) (λ e. escaped a [] (eqb-true _ _ e) escape) (λ e. single a [] (bytes 0) (eqb-false _ _ e))
size_said (a ∷ b ∷ []) bytes =
    pick_cases (Said (a ∷ b ∷ [])) (eqb a 0xFF) (λ e. escaped a (b ∷ []) (eqb-true _ _ e) half)
    (λ e. single a (b ∷ []) (bytes 0) (eqb-false _ _ e))
size_said (a ∷ b ∷ c ∷ s) bytes =
    pick_cases (Said (a ∷ b ∷ c ∷ s)) (eqb (length (a ∷ b ∷ c ∷ s)) 0)
    (λ z. let n : length (a ∷ b ∷ c ∷ s) ≡ 0 = eqb-true _ _ z in absurd (omega arith)) (λ _.
    pick_cases (Said (a ∷ b ∷ c ∷ s)) (eqb a 0xFF)
    (λ e. pick_cases (Said (a ∷ b ∷ c ∷ s)) (ltb (length (a ∷ b ∷ c ∷ s)) 3) (λ l. let n : length (a ∷ b ∷ c ∷ s) < 3 = ltb-true _ _ l in absurd (omega arith))
    (λ _. triple a b c s (bytes 1) (bytes 2) (eqb-true _ _ e)))
    (λ e. single a (b ∷ c ∷ s) (bytes 0) (eqb-false _ _ e)))

-- what stands in front, by the block that is read
record Over (r : List ℕ) (n : ℕ) : Type 0 where
  block : List ℕ
  rest : List ℕ
  passed : Passed block
  whole : r ≡ block ++ rest
  takes : n ≡ length block

abbrev Shown : List ℕ → Option Block → Type 0
Shown r (Some (block.Over n)) = Over r n
Shown r (Some (block.Body b)) = (at : ℕ) → Stops r at (found (at + b.at) b.len)
Shown r (Some block.Stop) = (at : ℕ) → Stops r at (Err NoMessage)
Shown r None = (at : ℕ) → Stops r at (Err Truncated)

-- a block with a length: its body is all there, or not
module _ (t : ℕ) (s : List ℕ) (a : t ≡ 0x00 → ⊥) (b : t ≡ 0xFE → ⊥) where
  beyond-shown : (n size : ℕ) → Sized s n size → length (t ∷ s) < 1 + size + n → (at : ℕ) → Stops (t ∷ s) at (Err Truncated)
  beyond-shown n size z h at =
      let w = z.whole in
      let k : length z.rest < n = omega (arith, z.takes, ap length w, length-append z.length-bytes z.rest) in
      cut a b (subst Cut (sym w) (beyond z.rest z.is-size k))

  module _ (n size : ℕ) (z : Sized s n size) (h : 1 + size + n ≤ length (t ∷ s)) where
    body : List ℕ
    body = take n z.rest

    body-length : length body ≡ n
    unfolding body
    body-length = length-take-le n z.rest (omega (arith, z.takes, ap length z.whole, length-append z.length-bytes z.rest))

    body-size : Size (length body) z.length-bytes
    body-size = subst (λ (m : ℕ). Size m z.length-bytes) (sym body-length) z.is-size

    whole_is : s ≡ z.length-bytes ++ (body ++ drop n z.rest)
    unfolding body
    whole_is = z.whole ∙ ap (λ (l : List ℕ). z.length-bytes ++ l) (sym (take-append-drop n z.rest))

    message-shown : t ≡ 0x03 → (at : ℕ) → Stops (t ∷ s) at (found (at + (1 + size)) n)
    message-shown e at =
        subst (λ (m : Read). Stops (t ∷ s) at m) (ap₂ (λ (i j : ℕ). found (at + (1 + i)) j) (sym z.takes) body-length)
        (subst (λ (r : List ℕ). Stops r at (found (at + (1 + length z.length-bytes)) (length body)))
        (sym (ap₂ (λ (x : ℕ) (l : List ℕ). x ∷ l) e whole_is)) (message body (drop n z.rest) body-size))

    over-shown : (t ≡ 0x03 → ⊥) → Over (t ∷ s) (1 + size + n)
    over-shown e =
        let l = body-length in
        record {
          block = t ∷ (z.length-bytes ++ body);
          rest = drop n z.rest;
          passed = other body a e b body-size;
          whole = ap (λ (l : List ℕ). t ∷ l) (whole_is ∙ sym (append_assoc z.length-bytes body (drop n z.rest)));
          takes = omega (arith, z.takes, length-append z.length-bytes body);
        }

  sized-shown : (n size : ℕ) → Sized s n size → Shown (t ∷ s) (body_of (t ∷ s) t (1 + size) n)
  unfolding body_of
  sized-shown n size z =
      pick_cases (Shown (t ∷ s)) (ltb (length (t ∷ s)) (1 + size + n)) (λ l. beyond-shown n size z (ltb-true _ _ l)) (λ l.
      pick_cases (λ (x : Block). Shown (t ∷ s) (Some x)) (eqb t 0x03) (λ e. message-shown n size z (ltb-false _ _ l) (eqb-true _ _ e))
      (λ e. over-shown n size z (ltb-false _ _ l) (eqb-false _ _ e)))

  length-shown : (q : Option Length) → Said s q → Shown (t ∷ s) (on_length (t ∷ s) t q)
  length-shown (Some l) z = sized-shown l.len l.size z
  length-shown None c = λ at. cut a b c

block_said : (r : List ℕ) → Bytes r → Shown r (block_of r)
unfolding block_of
block_said [] bytes = λ at. no_more
block_said (t ∷ s) bytes =
    pick_cases (Shown (t ∷ s)) (eqb (length (t ∷ s)) 0) (λ z. let n : length (t ∷ s) ≡ 0 = eqb-true _ _ z in absurd (omega arith)) (λ _.
    pick_cases (Shown (t ∷ s)) (eqb t 0x00) (λ e. nothing (eqb-true _ _ e)) (λ a.
    pick_cases (Shown (t ∷ s)) (eqb t 0xFE) (λ e at. subst (λ (n : ℕ). Stops (n ∷ s) at (Err NoMessage)) (sym (eqb-true _ _ e)) terminator) (λ b.
    length-shown t s (eqb-false _ _ a) (eqb-false _ _ b) (tlv_length s) (size_said s (λ k. bytes (suc k))))))
  where
    nothing : t ≡ 0x00 → Over (t ∷ s) 1
    nothing e = record { block = 0x00 ∷ []; rest = s; passed = null; whole = ap (λ (n : ℕ). n ∷ s) e; takes = refl }

-- the blocks from a place on
pub record Reach (image : List ℕ) (at : ℕ) (m : Read) : Type 0 where
  pub blocks : List ℕ
  pub tail : List ℕ
  pub passed : Passes blocks
  pub whole : drop at image ≡ blocks ++ tail
  pub stops : Stops tail (at + length blocks) m

module _ (image : List ℕ) (bytes : Bytes image) where
  at_once : (at : ℕ) (m : Read) → Stops (drop at image) at m → Reach image at m
  at_once at m h =
      let z : at ≡ at + 0 = omega arith in
      record {
        blocks = [];
        tail = drop at image;
        passed = none;
        whole = refl;
        stops = subst (λ (n : ℕ). Stops (drop at image) n m) z h;
      }

  after : (at n : ℕ) (m : Read) (o : Over (drop at image) n) → Reach image (at + n) m → Reach image at m
  after at n m o r =
      let d : drop (at + n) image ≡ o.rest
      = sym (drop-drop n at image) ∙ ap (drop n) o.whole ∙ drop_at o.block o.rest n (sym o.takes) in
      let p : at + n + length r.blocks ≡ at + length (o.block ++ r.blocks)
      = omega (arith, o.takes, length-append o.block r.blocks) in
      record {
        blocks = o.block ++ r.blocks;
        tail = r.tail;
        passed = first o.passed r.passed;
        whole =
            o.whole
            ∙ ap (λ (l : List ℕ). o.block ++ l) (sym d ∙ r.whole)
            ∙ sym (append_assoc o.block r.blocks r.tail);
        stops = subst (λ (k : ℕ). Stops r.tail k m) p r.stops;
      }

  -- one block, where the blocks after it are known
  turn : (at : ℕ) (b : Option Block) → Shown (drop at image) b
      → ((n : ℕ) → Over (drop at image) n → Reach image (at + n) (message_from image (at + n)))
      → Reach image at (on_next (on_block at b) (message_from image))
  turn at (Some (block.Over n)) o later = after at n (message_from image (at + n)) o (later n o)
  turn at (Some (block.Body b)) h later = at_once at (found (at + b.at) b.len) (h at)
  turn at (Some block.Stop) h later = at_once at (Err NoMessage) (h at)
  turn at None h later = at_once at (Err Truncated) (h at)

  shown : (at : ℕ) → Shown (drop at image) (block_of (drop at image))
  shown at = block_said (drop at image) (λ k. rw (get_or-drop at image k 0) (bytes (at + k)))

  some-taken : (b : List ℕ) → Passed b → 0 < length b
  some-taken b null = omega arith
  some-taken b (other {t} {l} body x y z h) = omega arith

  reached : (f at : ℕ) → length image - at < f → Reach image at (message_from image at)
  reached zero at h = absurd (omega arith)
  reached (suc f) at h =
      subst (Reach image at) (sym (message-step image at))
      (turn at (block_of (drop at image)) (shown at) (λ n o.
      let k = some-taken o.block o.passed in
      let l : length o.block ≤ length (drop at image) = omega (arith, ap length o.whole, length-append o.block o.rest) in
      reached f (at + n) (omega (arith, o.takes, length-drop at image))))

  pub message_said : (at : ℕ) → Reach image at (message_from image at)
  message_said at = reached (suc (length image - at)) at (omega arith)

-- an image that begins with a container
pub record Headed (s : List ℕ) : Type 0 where
  pub head : List ℕ
  pub rest : List ℕ
  pub is-head : Head head
  pub whole : s ≡ head ++ rest

large-head : (s : List ℕ) → 8 ≤ length s → get_or s 0 0 ≡ 0xE2 → Version1 (get_or s 1 0) → Headed s
large-head [] h e v = absurd (omega arith)
large-head (a ∷ []) h e v = absurd (omega arith)
large-head (a ∷ b ∷ s) h e v =
    let six : length (take 6 s) ≡ 6 = length-take-le 6 s (omega arith) in
    record {
      head = 0xE2 ∷ b ∷ take 6 s;
      rest = drop 6 s;
      is-head = large v six;
      whole = ap₂ (λ (x : ℕ) (l : List ℕ). x ∷ b ∷ l) e (sym (take-append-drop 6 s));
    }

long-head : (s : List ℕ) → 8 ≤ length s → get_or s 0 0 ≡ 0xE1 → get_or s 2 0 ≡ 0x00 → Version1 (get_or s 1 0) → Headed s
long-head [] h e z v = absurd (omega arith)
long-head (a ∷ []) h e z v = absurd (omega arith)
long-head (a ∷ b ∷ []) h e z v = absurd (omega arith)
long-head (a ∷ b ∷ c ∷ s) h e z v =
    let five : length (take 5 s) ≡ 5 = length-take-le 5 s (omega arith) in
    record {
      head = 0xE1 ∷ b ∷ 0x00 ∷ take 5 s;
      rest = drop 5 s;
      is-head = long v five;
      whole = ap₂ (λ (x y : ℕ). x ∷ b ∷ y ∷ s) e z ∙ ap (λ (l : List ℕ). 0xE1 ∷ b ∷ 0x00 ∷ l) (sym (take-append-drop 5 s));
    }

small-head : (s : List ℕ) → 4 ≤ length s → get_or s 0 0 ≡ 0xE1 → (get_or s 2 0 ≡ 0x00 → ⊥) → Version1 (get_or s 1 0) → Headed s
small-head [] h e z v = absurd (omega arith)
small-head (a ∷ []) h e z v = absurd (omega arith)
small-head (a ∷ b ∷ []) h e z v = absurd (omega arith)
small-head (a ∷ b ∷ c ∷ []) h e z v = absurd (omega arith)
small-head (a ∷ b ∷ c ∷ d ∷ s) h e z v =
    record { head = 0xE1 ∷ b ∷ c ∷ d ∷ []; rest = s; is-head = small v z; whole = ap (λ (x : ℕ). x ∷ b ∷ c ∷ d ∷ s) e }

module _ (s : List ℕ) where
  abbrev Opens : Option ℕ → Type 0
  Opens (Some n) = n ≤ length s → Version1 (get_or s 1 0) → Headed s
  Opens None = Unit {0}

  opens : Opens (container_len s)
  unfolding container_len
  opens =
      pick_cases Opens (ltb (length s) 3) (λ _. tt) (λ _.
      pick_cases Opens (eqb (get_or s 0 0) 0xE1)
      (λ e. pick_cases (λ (n : ℕ). Opens (Some n)) (eqb (get_or s 2 0) 0) (λ n h v. long-head s h (eqb-true _ _ e) (eqb-true _ _ n) v)
      (λ n h v. small-head s h (eqb-true _ _ e) (eqb-false _ _ n) v))
      (λ _. pick_cases Opens (eqb (get_or s 0 0) 0xE2) (λ e h v. large-head s h (eqb-true _ _ e) v) (λ _. tt)))

  abbrev HeadOr : Read → Type 0
  HeadOr m = Headed s ⊎ (m ≡ Err NoContainer)

  in_container_or_none : (c : Option ℕ) → Opens c → HeadOr (in_container s c)
  in_container_or_none (Some n) o =
      pick_cases HeadOr (ltb (length s) n) (λ _. inr refl) (λ h.
      pick_cases HeadOr (eqb (get_or s 1 0 / 64) 1) (λ v. inl (o (ltb-false _ _ h) (eqb-true _ _ v))) (λ _. inr refl))
  in_container_or_none None o = inr refl

  pub head_or_none : HeadOr (read_of s)
  unfolding read_of
  head_or_none = in_container_or_none (container_len s) opens

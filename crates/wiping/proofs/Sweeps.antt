-- The read of a clean chunk leaves what the general way leaves.
use mathlib.Core.Path.{◌≡◌, refl, sym, ap, subst, ◌∙◌}
use mathlib.Core.Bool.{Bool, true, not, ◌&&◌, ◌||◌}
use mathlib.Core.Logic.{⊎_elim}
use mathlib.Core.List.{List, [], ◌∷◌}
use Prim.Native.Nat.{ℕ, ◌+◌, ◌-◌, ◌*◌, ◌/◌, ◌%◌, ◌≤◌, ◌<◌}
use native.Mathlib.Omega.{arith}
use lib.Dec.{eqb, ltb, leb}
use lib.ListN.{length, take}
use borrow.Author.Tests.{eqb-true, leb-true, eq-eqb}
use Rattle.std.specs.Prelude.{Option, Some, None}
use Rattle.slices.specs.Bytes.{splice}
use Rattle.slices.proofs.Truths.{both, both_so, either}
use Rattle.scan.specs.Zeros.{blank}
use Rattle.protocol.specs.Tag.{user}
use Rattle.machine.specs.declared.ask.Ask.TheVariants as A
use Rattle.wipe.specs.Scrub.{size_of, scrub_ask}
use Rattle.wipe.specs.declared.scrub.Chunk.{Chunk}
use Rattle.wipe.specs.declared.scrub.Scrub.TheVariants.{Read}
use Rattle.session.specs.Sound.{chunk_stop, scrub_sound}
use Rattle.numbers.specs.From.{chunk_from}
use Rattle.numbers.specs.declared.flat.Flat.{Flat}
use Rattle.state.specs.Bytes.{bytes_of, two_at, flat_of}
use Rattle.kept.specs.Bytes.{Bytes}
use Rattle.kept.proofs.Decode.{bytes_are}
use Rattle.kept.proofs.Chunks.{stop-inside, scrub-says}
use Rattle.wiping.specs.Onward.{wipes, bare, moved, Onto, Move}
use Rattle.wiping.specs.Sweep.{Whole, Passes, head_of, chunk_bytes, swept, swept_left, Follows, Clean}
use Rattle.wiping.proofs.Cleans.{not_last, clean_led}
use Rattle.wiping.proofs.Wipings.{bare-says, read-sane, leads_led, read_moves}
use Rattle.wiping.proofs.Shorts.{short-is}

-- what the code of `passed` comes to
pub passes : (m rows stop : ℕ) (p : Chunk) (got : List ℕ) (b : Bool) → stop ≡ chunk_stop m p → (ltb 0 stop && leb rows (p.at / 16)) ≡ true
    → p.at + 64 + 64 ≤ p.end → b ≡ blank (take 64 got) → b ≡ true
    → Passes m rows p got (Some (record { left = p.left - 1; at = p.at + 64; end = p.end }))
passes m rows stop p got b es h1 j eb hb =
    let s = read-sane m rows stop p es h1 in
    let i : p.at + 64 ≤ p.end = omega arith in
    let k = not_last m rows p s j in
    ((omega (arith, k), refl, refl), j, leads_led m rows (Read p) got _ _ s refl refl (clean_led rows p got b k i eb hb))

-- only the four bytes of the chunk change
four_move : (f : Flat) (p : Chunk) → f.code.phase ≡ 1 → bare f.code f.place ≡ true → f.lent ≡ 0 → p.end ≡ f.place.end
    → bytes_of (moved f f.rows (Read p)) ≡ splice (bytes_of f) 12 (chunk_bytes p)
unfolding splice
four_move f p k b z e =
    let h = bare-says f.code f.place b in
    ap bytes_of
    (λ i. record {
      stage = f.stage;
      code = record { phase = sym k i; inner = sym h.0 i; which = f.code.which; count = sym h.1 i };
      place = record { bits = sym h.2 i; left = p.left; at = p.at; end = e i; row = sym h.3 i };
      mark = f.mark;
      rows = f.rows;
      lent = sym z i;
    })

-- tags and row, from the number that they make
head-is : (s p i w c b r k e : ℕ) → s < 256 → p < 256 → i < 256 → w < 256 → c < 256 → b < 256 → k < 256 → e < 256
    → s + 256 * p + 65536 * i + 16777216 * w + 4294967296 * (c + 256 * b + 65536 * r) ≡ k + 256 + 16777216 * e
    → (s ≡ k) × (p ≡ 1) × (i ≡ 0) × (w ≡ e) × (c ≡ 0) × (b ≡ 0) × (r ≡ 0)
head-is s p i w c b r k e hs hp hi hw hc hb hk he h =
    (omega arith, omega arith, omega arith, omega arith, omega arith, omega arith, omega arith)

-- it is of two numbers of four bytes
pub head-by : (l : List ℕ) (f : Flat) (a b : ℕ) → f ≡ flat_of l → a ≡ two_at l 0 + 65536 * two_at l 2 → b ≡ two_at l 4 + 65536 * two_at l 6
    → a + 4294967296 * b ≡ head_of f
head-by l f a b ef ea eb =
    let h : a + 4294967296 * b ≡ head_of (flat_of l) = omega (arith, ea, eb) in
    h ∙ sym (ap head_of ef)

-- these are the numbers of a wipe that reads a chunk
pub record Reads (f : Flat) : Type 0 where
  pub wiper : wipes f.stage f.code.which ≡ true
  pub phase : f.code.phase ≡ 1
  pub bared : bare f.code f.place ≡ true

-- the tags are bytes
abbrev TagsFit : Flat → Type 0
TagsFit f =
    (f.stage < 256) × (f.code.phase < 256) × (f.code.inner < 256) × (f.code.which < 256) × (f.code.count < 256) × (f.place.bits < 256)

pub tags_fit : (l : List ℕ) (f : Flat) → Bytes l → f ≡ flat_of l → TagsFit f
tags_fit l f bytes ef = subst TagsFit (sym ef) (bytes 0, bytes 1, bytes 2, bytes 3, bytes 4, bytes 5)

module _ (f : Flat) (fit : TagsFit f) where
  reads_as : (k e : ℕ) → k < 256 → e < 256 → wipes k e ≡ true → head_of f ≡ k + 256 + 16777216 * e → Reads f
  reads_as k e hk he g h =
      let t = head-is f.stage f.code.phase f.code.inner f.code.which f.code.count f.place.bits f.place.row k e fit.0 fit.1 fit.2 fit.3 fit.4 fit.5 hk he h in
      let inner = both_so _ _ (eq-eqb f.code.inner 0 t.2) (eq-eqb f.code.count 0 t.4) in
      record {
        wiper = (λ j. wipes (t.0 j) (t.3 j)) ∙ g;
        phase = t.1;
        bared = both_so _ _ (both_so _ _ inner (eq-eqb f.place.bits 0 t.5)) (eq-eqb f.place.row 0 t.6);
      }

  -- 12, 18, and 18 with RF stuck
  reads-by : (n : ℕ) → n ≡ head_of f → (eqb n 268 || eqb n 274 || eqb n 16777490) ≡ true → Reads f
  reads-by n en e =
      let alone : eqb n 268 ≡ true → Reads f = λ y. reads_as 12 0 (omega arith) (omega arith) refl (sym en ∙ eqb-true n 268 y) in
      let off : eqb n 274 ≡ true → Reads f = λ y. reads_as 18 0 (omega arith) (omega arith) refl (sym en ∙ eqb-true n 274 y) in
      let stuck : eqb n 16777490 ≡ true → Reads f = λ y. reads_as 18 1 (omega arith) (omega arith) refl (sym en ∙ eqb-true n 16777490 y) in
      ⊎_elim (λ x. ⊎_elim alone off (either (eqb n 268) (eqb n 274) x)) stuck (either (eqb n 268 || eqb n 274) (eqb n 16777490) e)

-- what the code of `clean_of` tests, n being the head
abbrev tested : ℕ → Flat → Bool
tested n f = (eqb n 268 || eqb n 274 || eqb n 16777490) && leb f.mark 8192

pub sweep_says : (f : Flat) (n : ℕ) → TagsFit f → n ≡ head_of f → tested n f ≡ true → Reads f × (f.mark ≤ 8192)
sweep_says f n fit en e =
    let h = both _ (leb f.mark 8192) e in
    (reads-by f fit n en h.0, leb-true f.mark 8192 h.1)

two_fits : (l : List ℕ) (i : ℕ) → Bytes l → two_at l i < 65536
two_fits l i bytes =
    let h = bytes i in
    let g = bytes (i + 1) in
    omega (arith, h, g)

-- these numbers are of two bytes
abbrev NumbersFit : Flat → Type 0
NumbersFit f = (f.rows < 65536) × (f.lent < 65536) × (f.place.left < 65536) × (f.place.at < 65536)

pub numbers_fit : (l : List ℕ) (f : Flat) → Bytes l → f ≡ flat_of l → NumbersFit f
numbers_fit l f bytes ef =
    subst NumbersFit (sym ef) (two_fits l 16 bytes, two_fits l 18 bytes, two_fits l 12 bytes, two_fits l 14 bytes)

-- rows that lie before a chunk are fewer than 65,536, so that no data is lent
none_lent : (m rows lent : ℕ) (p : Chunk) → scrub_sound m (rows + 65536 * lent) (Read p) ≡ true → lent ≡ 0
none_lent m rows lent p s =
    let h = scrub-says m (rows + 65536 * lent) (Read p) s in
    let i = (stop-inside m p h.0).1 in
    let j = h.1 in
    omega (arith, i, j)

module _ (l r : List ℕ) (f : Flat) (p : Chunk) (n : ℕ) (long : length l ≡ 20) (bytes : Bytes l) (hr : 64 ≤ length r) (ef : f ≡ flat_of l)
    (en : n ≡ head_of f) (e : tested n f ≡ true) (ep : p ≡ chunk_from f.place) where
  clean_to : (q : Chunk) → Passes f.mark (f.rows + 65536 * f.lent) p r (Some q) → Clean l r (Some q)
  clean_to q v = (
    subst (λ (x : Chunk). (x.left ≡ q.left + 1) × (x.at + 64 ≡ q.at) × Whole q) (ep ∙ ap (λ (x : Flat). chunk_from x.place) ef)
        (v.0.0, v.0.1, v.1),
    λ t lent out ack ht hl ho ha.
        let h = sweep_says f n (tags_fit l f bytes ef) en e in
        let z = none_lent f.mark f.rows f.lent p v.2.sane in
        let k : f.rows + 65536 * f.lent ≡ f.rows = omega (arith, z) in
        let o = subst (λ (x : ℕ). Onto f.mark x (Read p) r x (Read q)) k v.2 in
        let four : bytes_of (moved f f.rows (Read q)) ≡ swept l q =
        four_move f q h.0.phase h.0.bared z (v.0.2 ∙ ap (λ (x : Chunk). x.end) ep)
        ∙ ap (λ (x : List ℕ). splice x 12 (chunk_bytes q)) (ap bytes_of ef ∙ bytes_are l long bytes) in
        let move : Move f r f.rows (Read q) = read_moves f p r true (Some (record { rows = f.rows; wipe = Read q })) (sym h.0.bared) refl h.0.phase ep o in
        short-is l t r lent out ack long ht hr hl ho ha f ef f.rows (Read q) h.0.wiper z h.1 move
        ∙ (λ i. record { step = (swept_left l q t r).step; state = four i; transfer = (swept_left l q t r).transfer; reply = r }),
  )

  -- what the code of `clean_of` comes to
  pub clean_is : (x : Option Chunk) → Passes f.mark (f.rows + 65536 * f.lent) p r x → Clean l r x
  clean_is (Some q) v = clean_to q v
  clean_is None v = tt

-- two numbers as one, n, which has the bytes of both
four_bytes : (l a n : ℕ) → l < 65536 → n ≡ l + 65536 * a
    → (n % 256 ≡ l % 256) × (n / 256 % 256 ≡ l / 256 % 256) × (n / 65536 % 256 ≡ a % 256) × (n / 16777216 % 256 ≡ a / 256 % 256)
four_bytes l a n h e = (omega (arith, e), omega (arith, e), omega (arith, h, e), omega (arith, h, e))

-- what the code of `sweep` writes into the state
pub swept-by : (l : List ℕ) (p : Chunk) (f : Flat) (n : ℕ) → Bytes l → f ≡ flat_of l → Follows l p → n ≡ f.place.left + 65536 * f.place.at + 4194303
    → splice l 12 (n % 256 ∷ n / 256 % 256 ∷ n / 65536 % 256 ∷ n / 16777216 % 256 ∷ []) ≡ swept l p
swept-by l p f n bytes ef h e =
    let fit = (numbers_fit l f bytes ef).2 in
    let left : f.place.left ≡ p.left + 1 = ap (λ (x : Flat). x.place.left) ef ∙ h.0 in
    let at : f.place.at + 64 ≡ p.at = ap (λ (x : Flat). x.place.at + 64) ef ∙ h.1 in
    let k = four_bytes p.left p.at n (omega (arith, fit, left)) (omega (arith, e, left, at)) in
    ap (splice l 12) (λ i. k.0 i ∷ k.1 i ∷ k.2 i ∷ k.3 i ∷ [])

-- the transfer that reads a whole chunk
pub whole-asks : (p : Chunk) → Whole p → A.Read user p.at 64 ≡ scrub_ask (Read p)
whole-asks p h =
    let n : 64 ≡ size_of p.at p.end = omega (arith, h) in
    ap (A.Read user p.at) n

-- the lengths with which the code of `reply` looks for a clean chunk
pub sweep_may : (s ack t r lent out : ℕ) → (eqb s 20 && not (eqb ack 0) && leb 19 t && leb 64 r && eqb lent 0 && eqb out 0) ≡ true
    → (s ≡ 20) × (not (eqb ack 0) ≡ true) × (19 ≤ t) × (64 ≤ r) × (lent ≡ 0) × (out ≡ 0)
sweep_may s ack t r lent out e =
    let h5 = both _ (eqb out 0) e in
    let h4 = both _ (eqb lent 0) h5.0 in
    let h3 = both _ (leb 64 r) h4.0 in
    let h2 = both _ (leb 19 t) h3.0 in
    let h1 = both (eqb s 20) (not (eqb ack 0)) h2.0 in
    (eqb-true s 20 h1.0, h1.1, leb-true 19 t h2.1, leb-true 64 r h3.1, eqb-true lent 0 h4.1, eqb-true out 0 h5.1)

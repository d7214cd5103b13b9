-- A record that is read is one that the grammar writes: the bytes begin with it, and its parts are those at the places found.
--
--   sound   == bytes that are read as a record begin with allowed fields whose places those are
use mathlib.Core.Path.{◌≡◌, refl, ap, ap₂, sym, ◌∙◌}
use mathlib.Core.Bool.{Bool, true, false}
use mathlib.Core.List.{List, [], ◌∷◌, ◌++◌}
use Prim.Native.Nat.{ℕ, zero, suc, ◌+◌, ◌%◌, ◌^◌, ◌≤◌, ◌<◌}
use native.Mathlib.Omega.{arith}
use borrow.Author.Tests.{ltb-false}
use lib.ListN.{length, get_or, take, drop, length-drop, take-append-drop}
use lib.Seq.{drop-cons, drop-drop, length-take-le}
use lib.Dec.{ltb}
use Rattle.std.specs.Prelude.{Ok}
use Rattle.slices.specs.Pick.{pick}
use Rattle.slices.specs.Bytes.{be}
use Rattle.slices.proofs.Cases.{pick_cases, pick_else}
use Rattle.layout.specs.Record.{Fields, record_head}
use Rattle.records.specs.declared.Record.{Record}
use Rattle.heads.specs.Heads.{flag, head_len, payload_len, id_len}
use Rattle.records.specs.Parse.{places_in, whole_of, parse_of}
use Rattle.grammar.specs.Records.{Bytes, Allowed, head_of, places_of, Begins, RecordAt}
use Rattle.grammar.proofs.Bits.{header_read, be-one, be_four}
use Rattle.heads.proofs.Heads.{head_at}
use Rattle.grammar.proofs.RecordsComplete.{split, record_at_lem}

-- n elements of s from k on, one by one
up_to : List ℕ → ℕ → ℕ → List ℕ
up_to s k zero = []
up_to s k (suc n) = get_or s k 0 ∷ up_to s (suc k) n

up_to_is : (s : List ℕ) (k n : ℕ) → k + n ≤ length s → take n (drop k s) ≡ up_to s k n
unfolding up_to
up_to_is s k zero h = refl
up_to_is s k (suc n) h =
    ap (take (suc n)) (drop-cons s k 0 (omega arith)) ∙ ap (λ (l : List ℕ). get_or s k 0 ∷ l) (up_to_is s (suc k) n (omega arith))

-- the lengths in a head are those that the grammar writes
module _ (s : List ℕ) (bytes : Bytes s) where
  payload-written : (short : Bool) → flag 0x10 (get_or s 0 0) ≡ short → be (pick short 1 4) (payload_len s) ≡ up_to s 2 (pick short 1 4)
  unfolding payload_len up_to
  payload-written true e = rw e (be-one (get_or s 2 0) (bytes 2))
  payload-written false e = rw e (be_four (get_or s 2 0) (get_or s 3 0) (get_or s 4 0) (get_or s 5 0) (bytes 2) (bytes 3) (bytes 4) (bytes 5))

  payload-small : (short : Bool) → flag 0x10 (get_or s 0 0) ≡ short → payload_len s < pick short 256 (2 ^ 32)
  unfolding payload_len
  payload-small true e = rw e (bytes 2)
  payload-small false e = rw e (omega (arith, bytes 2, bytes 3, bytes 4, bytes 5))

  id-written : (short named : Bool) → flag 0x10 (get_or s 0 0) ≡ short → flag 0x08 (get_or s 0 0) ≡ named
      → pick named (id_len s ∷ []) [] ≡ up_to s (pick short 3 6) (pick named 1 0)
  unfolding id_len up_to
  id-written true true e f = rw (f, e)
  id-written false true e f = rw (f, e)
  id-written short false e f = refl

  id-small : id_len s < 256
  unfolding id_len
  id-small = pick_cases (λ (n : ℕ). n < 256) (flag 0x08 (get_or s 0 0)) (λ _. bytes (pick (flag 0x10 (get_or s 0 0)) 3 6)) (λ _. omega arith)

  id-none : flag 0x08 (get_or s 0 0) ≡ false → id_len s ≡ 0
  unfolding id_len
  id-none e = rw e

  joined : (short named : Bool) → get_or s 0 0 ∷ get_or s 1 0 ∷ (up_to s 2 (pick short 1 4) ++ up_to s (pick short 3 6) (pick named 1 0))
      ≡ up_to s 0 (pick short 3 6 + pick named 1 0)
  unfolding up_to
  joined true true = refl
  joined true false = refl
  joined false true = refl
  joined false false = refl

  abbrev h : ℕ
  h = get_or s 0 0

  head-written : flag 0x20 h ≡ false → head_len h ≤ length s
      → record_head (flag 0x80 h) (flag 0x40 h) (flag 0x10 h) (flag 0x08 h) (h % 8) (get_or s 1 0) (payload_len s) (id_len s) ≡ take (head_len h) s
  unfolding record_head
  head-written chunk fits =
      let l : head_len h ≡ pick (flag 0x10 h) 3 6 + pick (flag 0x08 h) 1 0 = head_at h refl refl in
      rw (header_read h (bytes 0) chunk, payload-written (flag 0x10 h) refl, id-written (flag 0x10 h) (flag 0x08 h) refl refl)
      (joined (flag 0x10 h) (flag 0x08 h) ∙ ap (up_to s 0) (sym l) ∙ sym (up_to_is s 0 (head_len h) (omega arith)))

-- the bytes after `at`, cut once more
cut : (s : List ℕ) (at n : ℕ) → drop at s ≡ take n (drop at s) ++ drop (at + n) s
cut s at n = sym (take-append-drop n (drop at s)) ∙ ap (λ (l : List ℕ). take n (drop at s) ++ l) (drop-drop n at s)

-- the fields that the bytes s say, where k bytes of head are followed by the parts
module _ (s : List ℕ) (k : ℕ) where
  abbrev said : Fields
  said =
      record {
        begin = flag 0x80 (get_or s 0 0);
        last = flag 0x40 (get_or s 0 0);
        short = flag 0x10 (get_or s 0 0);
        named = flag 0x08 (get_or s 0 0);
        format = get_or s 0 0 % 8;
        kind = take (get_or s 1 0) (drop k s);
        id = take (id_len s) (drop (k + get_or s 1 0) s);
        payload = take (payload_len s) (drop (k + get_or s 1 0 + id_len s) s);
      }

  abbrev said_end : ℕ
  said_end = k + get_or s 1 0 + id_len s + payload_len s

  module _ (fits : said_end ≤ length s) where
    kind-length : length said.kind ≡ get_or s 1 0
    kind-length = length-take-le (get_or s 1 0) (drop k s) (omega (arith, length-drop k s))

    id-length : length said.id ≡ id_len s
    id-length = length-take-le (id_len s) (drop (k + get_or s 1 0) s) (omega (arith, length-drop (k + get_or s 1 0) s))

    payload-length : length said.payload ≡ payload_len s
    payload-length =
        length-take-le (payload_len s) (drop (k + get_or s 1 0 + id_len s) s) (omega (arith, length-drop (k + get_or s 1 0 + id_len s) s))

    parts_cut : drop k s ≡ said.kind ++ (said.id ++ (said.payload ++ drop said_end s))
    parts_cut =
        cut s k (get_or s 1 0)
        ∙ ap (λ (l : List ℕ). said.kind ++ l) (cut s (k + get_or s 1 0) (id_len s)
        ∙ ap (λ (l : List ℕ). said.id ++ l) (cut s (k + get_or s 1 0 + id_len s) (payload_len s)))

-- bytes with a whole record in front
module _ (s : List ℕ) (bytes : Bytes s) (chunk : flag 0x20 (get_or s 0 0) ≡ false) (head : head_len (get_or s 0 0) ≤ length s)
    (fits : said_end s (head_len (get_or s 0 0)) ≤ length s) where
  abbrev r : Fields
  r = said s (head_len (get_or s 0 0))

  head-is : head_of r ≡ take (head_len (get_or s 0 0)) s
  head-is =
      rw (kind-length s (head_len (get_or s 0 0)) fits, id-length s (head_len (get_or s 0 0)) fits, payload-length s (head_len (get_or s 0 0)) fits)
      (head-written s bytes chunk head)

  allowed : Allowed r
  allowed =
      let k = kind-length s (head_len (get_or s 0 0)) fits in
      let i = id-length s (head_len (get_or s 0 0)) fits in
      record {
        format-fits = omega arith;
        kind_fits = omega (arith, bytes 1);
        id-fits = omega (arith, id-small s bytes);
        payload-fits = rw (payload-length s (head_len (get_or s 0 0)) fits) (payload-small s bytes (flag 0x10 (get_or s 0 0)) refl);
        unnamed = λ e. ap (λ (n : ℕ). take n (drop (head_len (get_or s 0 0) + get_or s 1 0) s)) (id-none s bytes e);
      }

  begins : Begins s r (drop (said_end s (head_len (get_or s 0 0))) s)
  begins =
      record {
        allowed = allowed;
        bytes =
            sym (take-append-drop (head_len (get_or s 0 0)) s)
            ∙ ap₂ (λ (a b : List ℕ). a ++ b) (sym head-is) (parts_cut s (head_len (get_or s 0 0)) fits)
            ∙ sym (split r (drop (said_end s (head_len (get_or s 0 0))) s));
      }

  places : places_in s (get_or s 0 0) (head_len (get_or s 0 0)) (id_len s) (payload_len s) ≡ places_of r
  places =
      let l = ap length (head-written s bytes chunk head) ∙ length-take-le (head_len (get_or s 0 0)) s head in
      simp (kind-length s (head_len (get_or s 0 0)) fits, id-length s (head_len (get_or s 0 0)) fits, payload-length s (head_len (get_or s 0 0)) fits, l)

pub sound : (s : List ℕ) {p : Record} → Bytes s → parse_of s ≡ Ok p → RecordAt s p
unfolding parse_of whole_of
sound s {p} bytes e =
    let a = pick_else (flag 0x20 (get_or s 0 0)) e (λ f. let z : ◌≡◌ {A = ℕ} 0 1 = cc in omega arith) in
    let b = pick_else (ltb (length s) (head_len (get_or s 0 0))) a.1 (λ f. let z : ◌≡◌ {A = ℕ} 0 1 = cc in omega arith) in
    let c = pick_else (ltb (length s) (said_end s (head_len (get_or s 0 0)))) b.1 (λ f. let z : ◌≡◌ {A = ℕ} 0 1 = cc in omega arith) in
    let head : head_len (get_or s 0 0) ≤ length s = ltb-false _ _ b.0 in
    let fits : said_end s (head_len (get_or s 0 0)) ≤ length s = ltb-false _ _ c.0 in
    let places-are : p ≡ places_in s (get_or s 0 0) (head_len (get_or s 0 0)) (id_len s) (payload_len s) = cc c.1 in
    record_at_lem s p (r s bytes a.0 head fits) (drop (said_end s (head_len (get_or s 0 0))) s) (begins s bytes a.0 head fits)
    (places-are ∙ places s bytes a.0 head fits)

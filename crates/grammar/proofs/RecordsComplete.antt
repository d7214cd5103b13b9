-- A record that is written is read back: its places are found, and its parts stand there.
--
--   split                                 == a record's bytes and what follows are the head, then the parts, then the rest
--   complete                              == the bytes of allowed fields, whatever follows them, are read as the record with their places
--   kind_there, id_there, payload_there   == its parts stand at those places
--   bytes-length                          == a record's bytes end where its places say
--   record_at_lem                             == so bytes that begin with it have a record at those places
use mathlib.Core.Path.{◌≡◌, refl, ap, ap₂, sym, ◌∙◌}
use mathlib.Core.Bool.{Bool, true, false}
use mathlib.Core.List.{List, [], ◌∷◌, ◌++◌, append_assoc}
use Prim.Native.Nat.{ℕ, ◌+◌, ◌^◌, ◌≤◌, ◌<◌}
use native.Mathlib.Omega.{arith}
use borrow.Author.Tests.{le-ltb}
use lib.ListN.{length, get_or, take, drop, length-append}
use lib.Seq.{take_at, drop_at}
use Rattle.std.specs.Prelude.{Ok}
use Rattle.slices.specs.Pick.{pick}
use Rattle.slices.specs.Bytes.{be}
use Rattle.slices.proofs.Numbers.{be-length}
use Rattle.layout.specs.Record.{Fields, header, record_head, record_bytes}
use Rattle.records.specs.declared.Record.{Record}
use Rattle.heads.specs.Heads.{flag, head_len, payload_len, id_len}
use Rattle.records.specs.Parse.{places_in, whole_of, parse_of, end_of}
use Rattle.pieces.specs.Parts.{part_of, kind_of, id_of, payload_of}
use Rattle.grammar.specs.Records.{Allowed, head_of, places_of, Begins, RecordAt}
use Rattle.grammar.proofs.Bits.{header-chunk, header-last, header-short, header-named, header-format, four_read}
use Rattle.heads.proofs.Heads.{head_at}
use Rattle.pieces.proofs.Parts.{part-inside}

-- bytes that say a record which is all there
all_there : (s : List ℕ) (h k i p : ℕ) → get_or s 0 0 ≡ h → flag 0x20 h ≡ false → head_len h ≡ k → id_len s ≡ i → payload_len s ≡ p
    → k + get_or s 1 0 + i + p ≤ length s → parse_of s ≡ Ok (places_in s h k i p)
unfolding parse_of whole_of
all_there s h k i p first chunk e f g fits =
    let l : k ≤ length s = omega arith in
    simp (first, chunk, e, f, g, le-ltb _ _ l, le-ltb _ _ fits)

-- a head and what follows it: the lengths in it are read
module _ (h k p n : ℕ) (t : List ℕ) where
  abbrev written : Bool → Bool → List ℕ
  written short named = h ∷ k ∷ ((be (pick short 1 4) p ++ pick named (n ∷ []) []) ++ t)

  written-length : (short named : Bool) → length (written short named) ≡ 2 + (pick short 1 4 + pick named 1 0) + length t
  written-length short named =
      omega (
        arith,
        length-append (be (pick short 1 4) p ++ pick named (n ∷ []) []) t,
        length-append (be (pick short 1 4) p) (pick named (n ∷ []) []),
        be-length (pick short 1 4) p,
        one named,
      )
    where
      one : (b : Bool) → length (pick b (n ∷ []) []) ≡ pick b 1 0
      one true = refl
      one false = refl

  payload-read : (short named : Bool) → flag 0x10 h ≡ short → p < pick short 256 (2 ^ 32) → payload_len (written short named) ≡ p
  unfolding payload_len be
  payload-read true named e fits = rw e (omega arith)
  payload-read false named e fits = rw e (four_read p fits)

  id-read : (short named : Bool) → flag 0x10 h ≡ short → flag 0x08 h ≡ named → (named ≡ false → n ≡ 0) → id_len (written short named) ≡ n
  unfolding id_len be
  id-read true true e f none = rw (f, e)
  id-read false true e f none = rw (f, e)
  id-read short false e f none = rw f (sym (none refl))

module _ (r : Fields) (rest : List ℕ) where
  -- what stands after the head
  abbrev pub after : List ℕ
  after = r.kind ++ (r.id ++ (r.payload ++ rest))

  after-length : length after ≡ length r.kind + (length r.id + (length r.payload + length rest))
  after-length = simp length-append

  pub split : record_bytes r ++ rest ≡ head_of r ++ after
  unfolding record_bytes
  split = simp append_assoc

  head-is : head_of r ++ after
      ≡ written (header r.begin r.last r.short r.named r.format) (length r.kind) (length r.payload) (length r.id) after
      r.short r.named
  unfolding record_head
  head-is = refl

  head-length : length (head_of r) ≡ pick r.short 3 6 + pick r.named 1 0
  head-length =
      omega (
        arith,
        ap length head-is,
        length-append (head_of r) after,
        written-length (header r.begin r.last r.short r.named r.format) (length r.kind) (length r.payload)
            (length r.id) after r.short r.named,
        three r.short,
      )
    where
      three : (b : Bool) → pick b 3 6 ≡ 2 + pick b 1 4
      three true = refl
      three false = refl

  module _ (ok : Allowed r) where
    no_id : r.named ≡ false → length r.id ≡ 0
    no_id e = ap length (ok.unnamed e)

    head_read : parse_of (head_of r ++ after) ≡ Ok (places_of r)
    head_read =
        let h = header r.begin r.last r.short r.named r.format in
        let chunk = header-chunk r.begin r.last r.short r.named r.format ok.format-fits in
        let last = header-last r.begin r.last r.short r.named r.format ok.format-fits in
        let short = header-short r.begin r.last r.short r.named r.format ok.format-fits in
        let named = header-named r.begin r.last r.short r.named r.format ok.format-fits in
        let format = header-format r.begin r.last r.short r.named r.format ok.format-fits in
        let s = written h (length r.kind) (length r.payload) (length r.id) after r.short r.named in
        let fits : pick r.short 3 6 + pick r.named 1 0 + length r.kind + length r.id + length r.payload ≤ length s
        = omega (arith, head-length, ap length head-is, length-append (head_of r) after, after-length) in
        ap parse_of head-is
        ∙ all_there s h (pick r.short 3 6 + pick r.named 1 0) (length r.id) (length r.payload) refl chunk (head_at h short named)
        (id-read h (length r.kind) (length r.payload) (length r.id) after r.short r.named short named no_id)
        (payload-read h (length r.kind) (length r.payload) (length r.id) after r.short r.named short ok.payload-fits) fits
        ∙ simp (format, last, head-length)

    pub complete : parse_of (record_bytes r ++ rest) ≡ Ok (places_of r)
    complete = ap parse_of split ∙ head_read

  -- a part that stands after `front`
  part_at : (at : ℕ) (front part back : List ℕ) → record_bytes r ++ rest ≡ front ++ (part ++ back) → length front ≡ at
      → part_of (record_bytes r ++ rest) at (length part) ≡ part
  part_at at front part back e l =
      let fits : at + length part ≤ length (record_bytes r ++ rest)
      = omega (arith, ap length e, length-append front (part ++ back), length-append part back) in
      part-inside (record_bytes r ++ rest) at (length part) fits
      ∙ ap (λ (s : List ℕ). take (length part) (drop at s)) e
      ∙ ap (take (length part)) (drop_at front (part ++ back) at l)
      ∙ take_at part back (length part) refl

  pub kind_there : kind_of (record_bytes r ++ rest) (places_of r) ≡ r.kind
  kind_there = part_at (length (head_of r)) (head_of r) r.kind (r.id ++ (r.payload ++ rest)) split refl

  pub id_there : id_of (record_bytes r ++ rest) (places_of r) ≡ r.id
  id_there =
      part_at (length (head_of r) + length r.kind) (head_of r ++ r.kind) r.id (r.payload ++ rest)
      (split ∙ simp append_assoc) (length-append (head_of r) r.kind)

  pub payload_there : payload_of (record_bytes r ++ rest) (places_of r) ≡ r.payload
  payload_there =
      part_at (length (head_of r) + length r.kind + length r.id) ((head_of r ++ r.kind) ++ r.id) r.payload rest
      (split ∙ simp append_assoc) (simp length-append)

pub bytes-length : (r : Fields) → length (record_bytes r) ≡ end_of (places_of r)
bytes-length r =
    omega (
      arith,
      ap length (split r []),
      length-append (record_bytes r) [],
      length-append (head_of r) (after r []),
      after-length r [],
    )

pub record_at_lem : (s : List ℕ) (p : Record) (r : Fields) (rest : List ℕ) → Begins s r rest → p ≡ places_of r → RecordAt s p
record_at_lem s p r rest b e =
    record {
      fields = r;
      rest = rest;
      begins = b;
      places = e;
      kind-part = ap₂ kind_of b.bytes e ∙ kind_there r rest;
      id-part = ap₂ id_of b.bytes e ∙ id_there r rest;
      payload-part = ap₂ payload_of b.bytes e ∙ payload_there r rest;
    }

-- A built image reads back as exactly its record (demand 2). Document 01, 'Bytes of an image (lib.rs)' and 'Bytes from a phone'.
--
--   body_at r            == where the record of an image stands: after the container and the block's type and length
--   ReadsBack img r     == reading img finds one message; walking it finds one record and the end; the record's format, last flag,
--                          type name, id and payload are those of r
--   record_back         == the image of every record that is allowed, has the last flag and at most 65,535 bytes reads back
--   reads_back          == so does every built one of at most 65,535 bytes, with a format below 8 and a type name of at most 255 bytes
--   Says img p t        == the part p of img is the bytes t
--   Linked img l c t    == the link l of img has the code c, the prefix of c, and the bytes t for the rest
--   text_back           == and `text` gives the text back, where it is UTF-8
--   uri_back            == and `uri` the code, its prefix and the rest, for the codes 0 to 35
--   Same r q            == the records r and q have one format, one type name and one payload
--   one_record          == two records that read back from one image are the same in these three
use Rattle.std.specs.Prelude.{◌≡◌, refl, Bool, take, drop}
use Rattle.std.proofs.Math.Path.{ap, sym}
use Rattle.std.proofs.Common.{ap₂, ◌∙◌, ⊎_elim, length-append, length-drop, take_at, drop_at, drop-drop, take-add, length-take-le}
use Rattle.std.proofs.Math.Bool.{true}
use mathlib.Core.List.{List, [], ◌∷◌, ◌++◌, append_assoc, append-nil}
use Prim.Native.Nat.{ℕ, suc, ◌+◌, ◌-◌, ◌%◌, ◌≤◌, ◌<◌, ◌^◌}
use native.Mathlib.Omega.{arith}
use borrow.Author.Tests.{le-leb, lt-leb, lt-ltb, le-ltb}
use Rattle.std.proofs.Math.ListN.{length}
use Rattle.std.proofs.Math.Seq.{drop-append-add}
use Rattle.std.proofs.Math.Dec.{leb}
use Rattle.slices.specs.Pick.{pick}
use Rattle.slices.specs.Bytes.{be}
use Rattle.slices.proofs.Cases.{lt_or_ge}
use Rattle.utf8.specs.Utf8.{utf8}
use Rattle.uri.specs.Prefixes.{prefixes, prefix_answer}
use Rattle.layout.specs.Lengths.{record_len}
use Rattle.layout.specs.Container.{container}
use Rattle.layout.specs.Block.{block_length, message_head, message, terminator}
use Rattle.layout.specs.Record.{Fields, record_head, record_bytes, whole}
use Rattle.layout.specs.Payload.{well_known, text_kind, uri_kind, text_payload, english, uri_payload}
use Rattle.layout.specs.Image.{image_of, image, text_image, uri_image}
use Rattle.layout.proofs.Images.{container-length, record_length}
use Rattle.layout.proofs.Sizes.{record_is}
use Rattle.blocks.specs.Read.{read_of}
use Rattle.grammar.specs.Blocks.{Head, large, Size, one, three, none, Stops}
use Rattle.grammar.specs.Blocks as grammar
use Rattle.grammar.proofs.BlocksComplete.{head_read, passes_read}
use Rattle.blocks.specs.Read as read
use Rattle.std.specs.Prelude.{Option, Some, None, Ok, get_or}
use Rattle.records.specs.declared.Record.{Record}
use Rattle.records.specs.Parse.{parse_of, end_of}
use Rattle.pieces.specs.Parts.{part_of, kind_of, id_of, payload_of}
use Rattle.grammar.specs.Records.{Allowed, head_of, places_of}
use Rattle.grammar.proofs.RecordsComplete.{complete, kind_there, id_there, payload_there, bytes-length}
use Rattle.pieces.proofs.Parts.{part-inside, part_outside}
use Rattle.grammar.proofs.RecordsExactly.{is_exactly}
use Rattle.walk.specs.declared.Stepped.{Stepped}
use Rattle.walk.specs.Step.{Entry, left, shift, step_of, on_parsed}
use Rattle.walk.specs.Walked.{Walked, ended, before, listing, walked, on_step}
use Rattle.walk.proofs.Walks.{walked_step}
use Rattle.tlv.specs.declared.Span.{Span}
use Rattle.tlv.specs.Blocks.{span}
use Rattle.contents.specs.Contents.{payload_at, text_in, text_of}
use Rattle.links.specs.Links.{Uri, uri_in, uri_of}
use Rattle.contents.proofs.Cases.{part_there}
use Rattle.roundtrip.specs.Differ.{rests}

abbrev pub body_at : Fields → ℕ
body_at r = 8 + length (message_head (length (record_bytes r)))

pub record ReadsBack (img : List ℕ) (r : Fields) : Type 0 where
  pub found : read_of img ≡ read.found (body_at r) (length (record_bytes r))
  pub places : Record
  pub alone : walked img (body_at r) (body_at r + length (record_bytes r)) ≡ listing (places ∷ []) ended
  pub format : places.format ≡ r.format
  pub last : places.last ≡ r.last
  pub kind : kind_of img places ≡ r.kind
  pub id : id_of img places ≡ r.id
  pub payload : payload_of img places ≡ r.payload

-- a part of the second of two pieces
part_moved : (a s : List ℕ) (q at n : ℕ) → q ≡ length a + at → part_of (a ++ s) q n ≡ part_of s at n
part_moved a s q at n e =
    let l = length-append a s in
    let d : drop q (a ++ s) ≡ drop at s = ap (λ (m : ℕ). drop m (a ++ s)) e ∙ drop-append-add a s at in
    ⊎_elim
    (λ h. part_outside (a ++ s) q n (omega arith) ∙ sym (part_outside s at n h))
    (λ h. part-inside (a ++ s) q n (omega arith) ∙ ap (take n) d ∙ sym (part-inside s at n h))
    (lt_or_ge (length s) (at + n))

-- the rest of a part whose front is h
part-rest : (s : List ℕ) (at : ℕ) (h t : List ℕ) → 0 < length h → (n : ℕ) → part_of s at n ≡ h ++ t → n ≡ length h + length t
    → part_of s (at + length h) (length t) ≡ t
part-rest s at h t some n e l =
    let w = length-append h t in
    let i : at + n ≤ length s = part_there s at n (λ z. let y = ap length e in omega arith) in
    let p : take (length h + length t) (drop at s) ≡ h ++ t = ap (λ (m : ℕ). take m (drop at s)) (sym l) ∙ sym (part-inside s at n i) ∙ e in
    let d = length-drop at s in
    let f : length (take (length h) (drop at s)) ≡ length h = length-take-le (length h) (drop at s) (omega arith) in
    let r = rests (take (length h) (drop at s)) h (take (length t) (drop (length h) (drop at s))) t f
    (sym (take-add (length h) (length t) (drop at s)) ∙ p) in
    part-inside s (at + length h) (length t) (omega arith) ∙ ap (take (length t)) (sym (drop-drop (length h) at s)) ∙ r

-- as many bytes as the record says, where there are any
payload-length : (s : List ℕ) (p : Record) (h t : List ℕ) → 0 < length h → payload_of s p ≡ h ++ t → p.payload_len ≡ length h + length t
payload-length s p h t some e =
    let w = length-append h t in
    let n = p.payload_len in
    let i : payload_at p + n ≤ length s = part_there s (payload_at p) n (λ z. let y = ap length e in omega arith) in
    let l : length (payload_of s p) ≡ n = ap length (part-inside s (payload_at p) n i) ∙ length-take-le n (drop (payload_at p) s) (omega (arith, length-drop (payload_at p) s)) in
    omega (arith, ap length e)

area_head : (area : ℕ) → Head (container area)
unfolding container be
area_head area = large refl refl

size_of : (n : ℕ) → n ≤ 65535 → Size n (block_length n)
unfolding block_length be
size_of n h =
    ⊎_elim
    (λ k. let m : n % 256 ≡ n = omega arith in rw (lt-ltb n 255 k, m) (one k))
    (λ k. let g : n < 65536 = omega arith in rw (le-ltb n 255 k) (three g))
    (lt_or_ge n 255)

module _ (area : ℕ) (body : List ℕ) where
  image-is : image_of area body ≡ container area ++ (0x03 ∷ (block_length (length body) ++ (body ++ terminator)))
  unfolding image_of message message_head
  image-is = simp append_assoc

  image-split : image_of area body ≡ (container area ++ message_head (length body)) ++ (body ++ terminator)
  unfolding image_of message
  image-split = simp append_assoc

  split_at : length (container area ++ message_head (length body)) ≡ 8 + length (message_head (length body))
  split_at = omega (arith, length-append (container area) (message_head (length body)), container-length area)

  -- the message of an image is its body
  message-found : length body ≤ 65535 → read_of (image_of area body) ≡ read.found (8 + length (message_head (length body))) (length body)
  unfolding message_head
  message-found h =
      let tail : List ℕ = 0x03 ∷ (block_length (length body) ++ (body ++ terminator)) in
      let c = container-length area in
      let p : length (container area) + 0 + (1 + length (block_length (length body))) ≡ 8 + suc (length (block_length (length body))) = omega arith in
      let s : Stops tail (length (container area) + 0) (read.found (length (container area) + 0 + (1 + length (block_length (length body)))) (length body)) =
      grammar.message body terminator (size_of (length body) h) in
      ap read_of image-is
      ∙ head_read (container area) tail (area_head area)
      ∙ passes_read (container area ++ tail) [] tail (length (container area)) (read.found (length (container area) + 0 + (1 + length (block_length (length body)))) (length body)) none
      (drop_at (container area) tail (length (container area)) refl) s
      ∙ ap (λ (n : ℕ). read.found n (length body)) p

-- a record has a head
head-some : (r : Fields) → 0 < length (head_of r)
unfolding record_head
head-some r = omega arith

module _ (area : ℕ) (r : Fields) (ok : Allowed r) (one_block : length (record_bytes r) ≤ 65535) (flag : r.last ≡ true) where
  body-left : left (image area r) (body_at r) (body_at r + length (record_bytes r)) ≡ record_bytes r
  body-left =
      let m : body_at r + length (record_bytes r) - body_at r ≡ length (record_bytes r) = omega arith in
      let d = ap (drop (body_at r)) (image-split area (record_bytes r))
      ∙ drop_at (container area ++ message_head (length (record_bytes r))) (record_bytes r ++ terminator) (body_at r) (split_at area (record_bytes r)) in
      ap₂ take m d ∙ take_at (record_bytes r) terminator (length (record_bytes r)) refl

  inside : body_at r + length (record_bytes r) ≤ length (image area r)
  inside =
      omega (
        arith,
        ap length (image-split area (record_bytes r)),
        length-append (container area ++ message_head (length (record_bytes r))) (record_bytes r ++ terminator),
        length-append (record_bytes r) terminator,
        split_at area (record_bytes r),
      )

  -- the step at the record finds it, and the next place is the end
  step_there : step_of (image area r) (body_at r) (body_at r + length (record_bytes r))
      ≡ on_parsed (body_at r) (body_at r + length (record_bytes r)) (Ok (places_of r))
  unfolding step_of
  step_there =
      let e : parse_of (left (image area r) (body_at r) (body_at r + length (record_bytes r))) ≡ Ok (places_of r) =
      ap parse_of (body-left ∙ sym (append-nil (record_bytes r))) ∙ complete r [] ok in
      let k : body_at r < body_at r + length (record_bytes r) = omega (arith, bytes-length r, head-some r) in
      simp (le-ltb _ _ inside, lt-leb _ _ k, e)

  step_end : (step_of (image area r) (body_at r + length (record_bytes r)) (body_at r + length (record_bytes r))).entry ≡ Ok None
  unfolding step_of
  step_end =
      let k : body_at r + length (record_bytes r) ≤ body_at r + length (record_bytes r) = omega arith in
      simp (le-ltb _ _ inside, le-leb _ _ k)

  walk_there : walked (image area r) (body_at r) (body_at r + length (record_bytes r)) ≡ listing (shift (body_at r) (places_of r) ∷ []) ended
  walk_there =
      let s = image area r in
      let end = body_at r + length (record_bytes r) in
      walked_step s end (body_at r)
      ∙ ap (λ (t : Stepped). on_step t.entry (walked s t.next end)) step_there
      ∙ ap (λ (b : Bool). before (shift (body_at r) (places_of r) ∷ []) (walked s (pick b end (body_at r + end_of (places_of r))) end)) flag
      ∙ ap (before (shift (body_at r) (places_of r) ∷ []))
      (walked_step s end end ∙ ap (λ (e : Entry). on_step e (walked s (step_of s end end).next end)) step_end)

  -- a part of the record in the image is that part of the record
  part_there_too : (q at n : ℕ) → q ≡ body_at r + at → part_of (image area r) q n ≡ part_of (record_bytes r ++ terminator) at n
  part_there_too q at n e =
      ap (λ (s : List ℕ). part_of s q n) (image-split area (record_bytes r))
      ∙ part_moved (container area ++ message_head (length (record_bytes r))) (record_bytes r ++ terminator) q at n (omega (arith, split_at area (record_bytes r)))

  pub record_back : ReadsBack (image area r) r
  record_back =
      let h = length (head_of r) in
      let k = length r.kind in
      record {
        found = message-found area (record_bytes r) one_block;
        places = shift (body_at r) (places_of r);
        alone = walk_there;
        format = refl;
        last = refl;
        kind = part_there_too (body_at r + h) h k refl ∙ kind_there r terminator;
        id = part_there_too (body_at r + h + k) (h + k) (length r.id) (omega arith) ∙ id_there r terminator;
        payload = part_there_too (body_at r + h + k + length r.id) (h + k + length r.id) (length r.payload) (omega arith) ∙ payload_there r terminator;
      }

module _ (area format : ℕ) (kind payload : List ℕ) (f : format < 8) (k : length kind ≤ 255) (n : record_len (length kind) (length payload) ≤ 65535) where
  fits : length payload < pick (leb (length payload) 255) 256 (2 ^ 32)
  fits =
      ⊎_elim
      (λ h. let g : length payload < 2 ^ 32 = omega (arith, record_is (length kind) (length payload)) in rw (lt-leb (length payload) 255 h) g)
      (λ h. rw (le-leb (length payload) 255 h) (omega arith))
      (lt_or_ge 255 (length payload))

  pub reads_back : ReadsBack (image area (whole format kind payload)) (whole format kind payload)
  reads_back =
      record_back area (whole format kind payload)
      (record { format-fits = f; kind_fits = omega arith; id-fits = omega arith; payload-fits = fits; unnamed = (λ e. refl) })
      (omega (arith, record_length format kind payload)) refl

-- the part p of img is the bytes t
pub data Says (img : List ℕ) : Option Span → List ℕ → Type 0 where
  says : {at : ℕ} {t : List ℕ} → part_of img at (length t) ≡ t → Says img (Some (span at (length t))) t

-- the link l of img has this code, the code's prefix, and the bytes t for the rest
pub record Linked (img : List ℕ) (l : Option Uri) (c : ℕ) (t : List ℕ) : Type 0 where
  pub uri : Uri
  pub there : l ≡ Some uri
  pub rest : Says img (Some uri.rest) t
  pub code : uri.code ≡ c
  pub prefix : Some uri.prefix ≡ prefix_answer c

module _ (img : List ℕ) (p : Record) (well-known : p.format ≡ 1) where
  text_said : (t : List ℕ) → kind_of img p ≡ text_kind → payload_of img p ≡ text_payload english t → utf8 t ≡ true → Says img (text_of img p) t
  unfolding text_of text_in text_payload
  text_said t k e u =
      let is = (is_exactly img p 0x54).1 (well-known, k) in
      let n : p.payload_len ≡ 3 + length t = payload-length img p (2 ∷ english) t (omega arith) e in
      let l : leb 2 (suc (suc (length t))) ≡ true = le-leb 2 (suc (suc (length t))) (omega arith) in
      let z : suc (suc (length t)) - 2 ≡ length t = omega arith in
      rw (is, e) (simp (l, u, z) (says (part-rest img (payload_at p) (2 ∷ english) t (omega arith) p.payload_len e n)))

  uri_said : (code : ℕ) (t : List ℕ) → kind_of img p ≡ uri_kind → payload_of img p ≡ uri_payload code t → code ≤ 35 → utf8 t ≡ true
      → Linked img (uri_of img p) code t
  unfolding uri_of uri_in uri_payload prefix_answer
  uri_said code t k e c u =
      let is = (is_exactly img p 0x55).1 (well-known, k) in
      let n : p.payload_len ≡ 1 + length t = payload-length img p (code ∷ []) t (omega arith) e in
      let small : code < 36 = omega arith in
      record {
        uri = record { rest = span (payload_at p + 1) (length t); code = code; prefix = get_or prefixes code [] };
        there = rw (is, e) (simp (lt-ltb code 36 small, u));
        rest = says (part-rest img (payload_at p) (code ∷ []) t (omega arith) p.payload_len e n);
        code = refl;
        prefix = simp (lt-ltb code 36 small);
      }

-- The record that an image of a text reads back as: `text` gives the text.
pub text_back : (area : ℕ) (t : List ℕ) (b : ReadsBack (text_image area t) (whole well_known text_kind (text_payload english t))) → utf8 t ≡ true
    → Says (text_image area t) (text_of (text_image area t) b.places) t
text_back area t b u = text_said (text_image area t) b.places b.format t b.kind b.payload u

-- The record that an image of a URI reads back as: `uri` gives the code, its prefix and the rest.
pub uri_back : (area code : ℕ) (t : List ℕ) (b : ReadsBack (uri_image area code t) (whole well_known uri_kind (uri_payload code t))) → code ≤ 35 → utf8 t ≡ true
    → Linked (uri_image area code t) (uri_of (uri_image area code t) b.places) code t
uri_back area code t b c u = uri_said (uri_image area code t) b.places b.format code t b.kind b.payload c u

-- What two records that read back from one image are proved to share: format, type name and payload. Id and last flag are left out.
pub record Same (r q : Fields) : Type 0 where
  pub format : r.format ≡ q.format
  pub kind : r.kind ≡ q.kind
  pub payload : r.payload ≡ q.payload

pub one_record : (img : List ℕ) (r q : Fields) → ReadsBack img r → ReadsBack img q → Same r q
one_record img r q b c =
    let m : read.found (body_at r) (length (record_bytes r)) ≡ read.found (body_at q) (length (record_bytes q)) = sym b.found ∙ c.found in
    let f : span (body_at r) (length (record_bytes r)) ≡ span (body_at q) (length (record_bytes q)) = cc in
    let at : body_at r ≡ body_at q = ap (λ (b : Span). b.at) f in
    let n : length (record_bytes r) ≡ length (record_bytes q) = ap (λ (b : Span). b.len) f in
    let w : listing (b.places ∷ []) ended ≡ listing (c.places ∷ []) ended =
    sym b.alone ∙ ap₂ (λ (x y : ℕ). walked img x (x + y)) at n ∙ c.alone in
    let l : b.places ∷ [] ≡ c.places ∷ [] = ap (λ (x : Walked). x.records) w in
    let p : b.places ≡ c.places = cc in
    record {
      format = sym b.format ∙ ap (λ (x : Record). x.format) p ∙ c.format;
      kind = sym b.kind ∙ ap (kind_of img) p ∙ c.kind;
      payload = sym b.payload ∙ ap (payload_of img) p ∙ c.payload;
    }

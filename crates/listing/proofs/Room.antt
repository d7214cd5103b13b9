-- Every listing fits `list_room` bytes: five bytes for each byte of a record suffice for its line, and eleven for the last line.
--
--   Found s at end r next   == what a step that finds the record r says: its places lie between `at` and the next place
--   step-found              == that is so
--   record_room             == the line of such a record, whose number is below 10,000, takes at most five bytes for each of its bytes
--   listed_room             == the lines of a walk, from a place in an image of at most 8,192 bytes on
--   listing-fits            == every listing fits
use mathlib.Core.Path.{◌≡◌, refl, ap, subst}
use mathlib.Core.Bool.{Bool, true, false}
use mathlib.Core.List.{List}
use Prim.Native.Nat.{ℕ, zero, suc, ◌+◌, ◌*◌, ◌-◌, ◌≤◌, ◌<◌}
use native.Mathlib.Omega.{arith}
use borrow.Author.Tests.{ltb-false, leb-false}
use lib.ListN.{length, get_or, drop, length-append, length-take}
use lib.Dec.{ltb, leb}
use Rattle.std.specs.Prelude.{Some, None, Result, Ok, Err}
use Rattle.slices.specs.Pick.{pick}
use Rattle.slices.proofs.Cases.{pick_cases}
use Rattle.blocks.specs.declared.Unread.{Unread}
use Rattle.blocks.specs.declared.Unread.TheVariants as unread
use Rattle.blocks.specs.Read.{Read, unread_number, read_of}
use Rattle.records.specs.declared.Record.{Record}
use Rattle.records.specs.declared.Malformed.{Malformed}
use Rattle.records.specs.declared.Malformed.TheVariants.{Truncated, Chunked}
use Rattle.heads.specs.Heads.{flag, head_len, payload_len, id_len}
use Rattle.records.specs.Parse.{whole_of, parse_of}
use Rattle.pieces.specs.Parts.{part_of, kind_of}
use Rattle.heads.proofs.Heads.{head_least}
use Rattle.records.proofs.Records.{record_there}
use Rattle.walk.specs.declared.Stepped.{Stepped}
use Rattle.walk.specs.Step.{Entry, start_of, left, shift, on_parsed, step_of}
use Rattle.walk.specs.Walked.{walked}
use Rattle.walk.proofs.Walks.{left-length}
use Rattle.digits.specs.Text.{decimal}
use Rattle.listing.specs.Listing.{record_line, listed, of_message, listing_of, list_room}
use Rattle.digits.proofs.Texts.{decimal-one, decimal_two, decimal_four, decimal_most, type_most}
use Rattle.listing.proofs.Lines.{record_length, ok-length, refused-length, listed_record, listed-end, listed_refused}

pub record Found (s : List ℕ) (at end : ℕ) (r : Record) (next : ℕ) : Type 0 where
  pub format_small : r.format < 8
  pub fits : at + 3 + r.kind_len + r.id_len + r.payload_len ≤ next
  pub inside : next ≤ end
  pub there : end ≤ length s

-- a record that is parsed has a format below 8 and a head of three bytes or more
abbrev Headed : Result Record Malformed → Type 0
Headed (Ok r) = (r.format < 8) × (3 ≤ r.kind)
Headed (Err why) = Unit {0}

headed : (s : List ℕ) → Headed (parse_of s)
unfolding parse_of whole_of
headed s =
    pick_cases Headed (flag 0x20 (get_or s 0 0)) (λ _. tt) (λ _.
    pick_cases Headed (ltb (length s) (head_len (get_or s 0 0))) (λ _. tt) (λ _.
    pick_cases Headed (ltb (length s) (head_len (get_or s 0 0) + get_or s 1 0 + id_len s + payload_len s)) (λ _. tt) (λ _.
    (omega arith, head_least (get_or s 0 0)))))

abbrev Finds : List ℕ → ℕ → ℕ → Stepped → Type 0
Finds s at end t = (r : Record) → t.entry ≡ Ok (Some r) → Found s at end r t.next

module _ (s : List ℕ) (at end : ℕ) (fits : end ≤ length s) (some : at < end) where
  parsed_finds : (p : Result Record Malformed) → parse_of (left s at end) ≡ p → Finds s at end (on_parsed at end p)
  parsed_finds (Ok q) e r f =
      let h = subst Headed e (headed (left s at end)) in
      let k = record_there (left s at end) e in
      let l = left-length s at end fits some in
      let same : shift at q ≡ r = cc in
      let found : Found s at end (shift at q) (on_parsed at end (Ok q)).next =
      record {
        format_small = h.0;
        fits = pick_cases (λ (n : ℕ). at + 3 + q.kind_len + q.id_len + q.payload_len ≤ n) q.last (λ _. omega arith) (λ _. omega arith);
        inside = pick_cases (λ (n : ℕ). n ≤ end) q.last (λ _. omega arith) (λ _. omega arith);
        there = fits;
      } in
      subst (λ (p : Record). Found s at end p (on_parsed at end (Ok q)).next) same found
  parsed_finds (Err why) e r f = let z : ◌≡◌ {A = ℕ} 0 1 = cc in absurd (omega arith)

pub step-found : (s : List ℕ) (at end : ℕ) {r : Record} → (step_of s at end).entry ≡ Ok (Some r) → Found s at end r (step_of s at end).next
unfolding step_of
step-found s at end {r} =
    pick_cases (Finds s at end) (ltb (length s) end) (λ _. never) (λ f.
    pick_cases (Finds s at end) (leb end at) (λ _. never) (λ g.
    parsed_finds s at end (ltb-false _ _ f) (leb-false _ _ g) (parse_of (left s at end)) refl)) r
  where
    never : (q : Record) → ◌≡◌ {A = Entry} (Ok None) (Ok (Some q)) → Found s at end q end
    never q e = let z : ◌≡◌ {A = ℕ} 0 1 = cc in absurd (omega arith)

part_most : (s : List ℕ) (at len : ℕ) → length (part_of s at len) ≤ len
unfolding part_of
part_most s at len =
    pick_cases (λ (l : List ℕ). length l ≤ len) (leb (at + len) (length s)) (λ _. omega (arith, length-take len (drop at s))) (λ _. omega arith)

flag_one : (b : Bool) → length (decimal (pick b 1 0)) ≡ 1
flag_one true = decimal-one 1 (omega arith)
flag_one false = decimal-one 0 (omega arith)

pub record_room : (n : ℕ) (s : List ℕ) (at end : ℕ) {r : Record} {next : ℕ} → n < 10000 → Found s at end r next
    → length (record_line n r s) + 5 * at ≤ 5 * next
record_room n s at end {r} {next} small f =
    let a = record_length n r s in
    let b = decimal_four n small in
    let c = decimal-one r.format (omega (arith, f.format_small)) in
    let d = flag_one r.last in
    let e = type_most (kind_of s r) in
    let g = part_most s r.kind r.kind_len in
    let h = decimal_most r.id_len in
    let k = decimal_most r.payload_len in
    omega (arith, f.fits)

-- the lines from `at` on, by what stands there, where all lines from a later place on fit
module _ (s : List ℕ) (end : ℕ) (short : length s ≤ 8192) where
  abbrev Fits : ℕ → ℕ → Type 0
  Fits k at = 3 * k ≤ at → 3 * k ≤ 8192 → length (listed k s (walked s at end)) ≤ 5 * (8192 - at) + 11

  by-entry : (k at : ℕ) → ((n : ℕ) → end - n < end - at → Fits (k + 1) n) → (e : Entry) → (step_of s at end).entry ≡ e → Fits k at
  by-entry k at later (Ok (Some r)) q h l =
      let f = step-found s at end q in
      let a = f.fits in
      let b = f.inside in
      let c = f.there in
      let n = (step_of s at end).next in
      let room = record_room (k + 1) s at end (omega arith) f in
      let rest = later n (omega arith) (omega arith) (omega arith) in
      omega (arith, ap length (listed_record k s at end q), length-append (record_line (k + 1) r s) (listed (k + 1) s (walked s n end)))
  by-entry k at later (Ok None) q h l = omega (arith, ap length (listed-end k s at end q), ok-length k, decimal_four k (omega arith))
  by-entry k at later (Err Truncated) q h l = omega (arith, ap length (listed_refused k s at end Truncated q), refused-length 13, decimal_two 13 (omega arith))
  by-entry k at later (Err Chunked) q h l = omega (arith, ap length (listed_refused k s at end Chunked q), refused-length 14, decimal_two 14 (omega arith))

  fits_by : (f k at : ℕ) → end - at < f → Fits k at
  fits_by zero k at d = absurd (omega arith)
  fits_by (suc f) k at d = by-entry k at (λ n g. fits_by f (k + 1) n (omega arith)) (step_of s at end).entry refl

  pub listed_room : (at : ℕ) → length (listed 0 s (walked s at end)) ≤ list_room
  listed_room at = let h = fits_by (suc (end - at)) 0 at (omega arith) (omega arith) (omega arith) in omega arith

number_small : (why : Unread) → unread_number why < 100
number_small unread.NoContainer = omega arith
number_small unread.NoMessage = omega arith
number_small unread.Truncated = omega arith

message_room : (s : List ℕ) (m : Read) → length s ≤ 8192 → length (of_message s m) ≤ list_room
message_room s (Ok m) short = listed_room s (start_of (Ok m)).end short (start_of (Ok m)).at
message_room s (Err why) short = omega (arith, refused-length (unread_number why), decimal_two (unread_number why) (number_small why))

pub listing-fits : (s : List ℕ) → length (listing_of s) ≤ list_room
unfolding listing_of
listing-fits s =
    pick_cases (λ (l : List ℕ). length l ≤ list_room) (ltb 8192 (length s))
    (λ _. omega (arith, refused-length 35, decimal_two 35 (omega arith)))
    (λ e. message_room s (read_of s) (ltb-false _ _ e))

-- Lines by the pieces in which they are written, and the lines of a walk by its first step.
--
--   record_pieces      == a record's line, word by word
--   record_length      == how long it is
--   head-length        == how long its first three words are, each with a space
--   ok-length          == how long the last line is, where all went well
--   refused-length     == and where not
--   listed_record      == where the cursor finds a record: its line, then the lines of the walk from the next place
--   listed-end         == where it is at the end: the last line
--   listed_refused     == where it is refused: the line that says so
--   Going ..           == how far a listing has come
--   going_room         == what stands in the buffer and what is to come make up the whole
--   room_for           == so there is room for the lines that are to come
--   room_for_line      == and for the first of them
--   entry_is           == what the code found at the cursor is what stands there
--   going_on           == a record's line more
--   gone               == the last line
use mathlib.Core.Path.{◌≡◌, ap, sym, ◌∙◌}
use mathlib.Core.List.{List, [], ◌∷◌, ◌++◌, append_assoc}
use Prim.Native.Nat.{ℕ, suc, ◌+◌, ◌≤◌}
use native.Mathlib.Omega.{arith}
use lib.ListN.{length, length-append}
use Rattle.std.specs.Prelude.{Some, None, Ok, Err}
use Rattle.slices.specs.Pick.{pick}
use Rattle.slices.specs.Bytes.{Wrote}
use Rattle.slices.proofs.Splice.{chain}
use Rattle.records.specs.declared.Record.{Record}
use Rattle.pieces.specs.Parts.{kind_of}
use Rattle.records.specs.declared.Malformed.{Malformed}
use Rattle.records.specs.declared.Malformed.TheVariants.{Truncated, Chunked}
use Rattle.records.specs.Parse.{malformed_number}
use Rattle.walk.specs.declared.Stepped.{Stepped}
use Rattle.walk.specs.Step.{Entry, step_of}
use Rattle.walk.specs.Walked.{Walked, walked, on_step}
use Rattle.walk.proofs.Walks.{walked_step}
use Rattle.digits.specs.Text.{decimal, type_word}
use Rattle.listing.specs.Listing.{record_line, record_lines, ok_line, refused_line, last_line, listed}
use Rattle.digits.proofs.Writes.{wrote_as}

-- a word, and the byte after it
abbrev ends : List ℕ → ℕ → List ℕ
ends w b = w ++ (b ∷ [])

module _ (n : ℕ) (r : Record) (image : List ℕ) where
  pub record_pieces : (((((ends (decimal n) 0x20 ++ ends (decimal r.format) 0x20) ++ ends (decimal (pick r.last 1 0)) 0x20)
      ++ ends (type_word (kind_of image r)) 0x20) ++ ends (decimal r.id_len) 0x20) ++ ends (decimal r.payload_len) 0x0A) ≡ record_line n r image
  unfolding record_line
  record_pieces = simp append_assoc

  pub record_length : length (record_line n r image)
      ≡ length (decimal n) + length (decimal r.format) + length (decimal (pick r.last 1 0)) + length (type_word (kind_of image r))
      + length (decimal r.id_len) + length (decimal r.payload_len) + 6
  unfolding record_line
  record_length = simp length-append (omega arith)

pub head-length : (a b c : List ℕ) → length ((ends a 0x20 ++ ends b 0x20) ++ ends c 0x20) ≡ length a + length b + length c + 3
head-length a b c = simp length-append (omega arith)

pub ok-length : (k : ℕ) → length (ok_line k) ≡ length (decimal k) + 4
unfolding ok_line
ok-length k = simp length-append (omega arith)

pub refused-length : (number : ℕ) → length (refused_line number) ≡ length (decimal number) + 9
unfolding refused_line
refused-length number = simp length-append (omega arith)

module _ (k : ℕ) (image : List ℕ) (at end : ℕ) where
  -- the walk from the next place
  abbrev later : Walked
  later = walked image (step_of image at end).next end

  by-entry : {e : Entry} → (step_of image at end).entry ≡ e → listed k image (walked image at end) ≡ listed k image (on_step e later)
  by-entry q = ap (listed k image) (walked_step image end at ∙ ap (λ (e : Entry). on_step e later) q)

  pub listed_record : {r : Record} → (step_of image at end).entry ≡ Ok (Some r)
      → listed k image (walked image at end) ≡ record_line (k + 1) r image ++ listed (k + 1) image later
  unfolding listed record_lines
  listed_record {r} q =
      let n : k + suc (length later.records) ≡ k + 1 + length later.records = omega arith in
      by-entry q
      ∙ append_assoc (record_line (k + 1) r image) (record_lines (k + 1) later.records image) (last_line (k + suc (length later.records)) later.ending)
      ∙ ap (λ (m : ℕ). record_line (k + 1) r image ++ (record_lines (k + 1) later.records image ++ last_line m later.ending)) n

  pub listed-end : (step_of image at end).entry ≡ Ok None → listed k image (walked image at end) ≡ ok_line k
  unfolding listed record_lines
  listed-end q = by-entry q ∙ ap ok_line (omega arith)

  pub listed_refused : (why : Malformed) → (step_of image at end).entry ≡ Err why → listed k image (walked image at end) ≡ refused_line (malformed_number why)
  unfolding listed record_lines
  listed_refused Truncated q = by-entry q
  listed_refused Chunked q = by-entry q

-- how far a listing has come: the lines that stand in the buffer, and those to come
pub record Going (before image after : List ℕ) (start end to at count : ℕ) : Type 0 where
  pub lines : List ℕ
  pub wrote : Wrote before 0 lines after to
  pub to_go : lines ++ listed count image (walked image at end) ≡ listed 0 image (walked image start end)

pub going_room : {before image after : List ℕ} {start end to at count : ℕ} → Going before image after start end to at count
    → to + length (listed count image (walked image at end)) ≡ length (listed 0 image (walked image start end))
going_room {image = image} {end = end} {at = at} {count = count} g =
    let p = g.wrote.place in
    omega (arith, length-append g.lines (listed count image (walked image at end)), ap length g.to_go)

pub room_for : {before image after : List ℕ} {start end to at count : ℕ} (all : List ℕ) → Going before image after start end to at count
    → length (listed 0 image (walked image start end)) ≤ length before → listed count image (walked image at end) ≡ all → to + length all ≤ length before
room_for all g fits e = omega (arith, going_room g, ap length e)

pub room_for_line : {before image after : List ℕ} {start end to at count : ℕ} (line rest : List ℕ) → Going before image after start end to at count
    → length (listed 0 image (walked image start end)) ≤ length before → listed count image (walked image at end) ≡ line ++ rest
    → to + length line ≤ length before
room_for_line line rest g fits e = let h = room_for (line ++ rest) g fits e in omega (arith, length-append line rest)

pub entry_is : (image : List ℕ) (at end : ℕ) {s : Stepped} {e : Entry} → s ≡ step_of image at end → s.entry ≡ e → (step_of image at end).entry ≡ e
entry_is image at end f q = sym (ap (λ (t : Stepped). t.entry) f) ∙ q

module _ {before image after done : List ℕ} {start end to at count next : ℕ} (room : to ≤ length before) (g : Going before image after start end to at count) where
  -- a record's line more
  pub going_on : {r : Record} {place : ℕ} → (step_of image at end).entry ≡ Ok (Some r) → place ≡ (step_of image at end).next
      → Wrote after to (record_line (count + 1) r image) done next → Going before image done start end next place (count + 1)
  going_on {r} {place} q p w =
      record {
        lines = g.lines ++ record_line (count + 1) r image;
        wrote = chain room g.wrote w;
        to_go =
            append_assoc g.lines (record_line (count + 1) r image) (listed (count + 1) image (walked image place end))
            ∙ ap (λ (m : ℕ). g.lines ++ (record_line (count + 1) r image ++ listed (count + 1) image (walked image m end))) p
            ∙ ap (λ (l : List ℕ). g.lines ++ l) (sym (listed_record count image at end q))
            ∙ g.to_go;
      }

  -- the last line
  pub gone : {last : List ℕ} → listed count image (walked image at end) ≡ last → Wrote after to last done next
      → Wrote before 0 (listed 0 image (walked image start end)) done next
  gone q w = wrote_as (ap (λ (l : List ℕ). g.lines ++ l) (sym q) ∙ g.to_go) (chain room g.wrote w)

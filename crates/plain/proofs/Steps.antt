-- One step of a walk, as plain numbers.
--
--   one-step       == what is told of a step is told of every step that equals it
--   handed_back    == the six numbers of a record that a walk told, handed back as they are, say that very record
use mathlib.Core.Path.{◌≡◌, refl, ap, ◌∙◌}
use mathlib.Core.List.{List, [], ◌∷◌}
use Prim.Native.Nat.{ℕ, ◌≤◌, ◌<◌}
use native.Mathlib.Omega.{arith}
use lib.ListN.{length, get_or}
use lib.Dec.{leb, ltb}
use Rattle.std.specs.Prelude.{Some, None, Result, Ok, Err}
use Rattle.slices.proofs.Cases.{pick_cases}
use Rattle.records.specs.declared.Record.{Record}
use Rattle.records.specs.declared.Malformed.{Malformed}
use Rattle.heads.specs.Heads.{flag, head_len}
use Rattle.records.specs.Parse.{whole_of, parse_of}
use Rattle.walk.specs.declared.Cursor.{Cursor}
use Rattle.walk.specs.declared.Stepped.{Stepped}
use Rattle.walk.specs.Step.{Entry, shift, on_parsed, left, step_of}
use Rattle.cursors.specs.Lent.{entry_of}
use Rattle.plain.specs.Reading.{entry_number, entry_places, places_of, record_of}
use Rattle.plain.proofs.AsNumbers.{read_back_lem}

pub one-step : {s t : Stepped} {r end : ℕ} {p : List ℕ} → s ≡ t → r ≡ entry_number s.entry → p ≡ entry_places s.entry
    → (r ≡ entry_number t.entry) × ((s.next ∷ end ∷ [] ≡ t.next ∷ end ∷ []) × (p ≡ entry_places t.entry))
one-step {end = end} e n q = (
  n ∙ ap (λ (x : Stepped). entry_number x.entry) e,
  (ap (λ (x : Stepped). x.next ∷ end ∷ []) e, q ∙ ap (λ (x : Stepped). entry_places x.entry) e),
)

-- the format of a record that was parsed is three bits of its header
abbrev Small : Result Record Malformed → Type 0
Small (Ok r) = r.format < 8
Small (Err why) = Unit

parsed_small : (s : List ℕ) → Small (parse_of s)
unfolding parse_of whole_of
parsed_small s =
    pick_cases Small (flag 0x20 (get_or s 0 0)) (λ _. tt)
    (λ _. pick_cases Small (ltb (length s) (head_len (get_or s 0 0))) (λ _. tt)
    (λ _. pick_cases Small (ltb (length s) _) (λ _. tt) (λ _. omega arith)))

no_record : {r : Record} {e : Entry} → e ≡ Ok None → e ≡ Ok (Some r) → r.format ≤ 255
no_record p q = let z : ◌≡◌ {A = ℕ} 0 1 = cc in absurd (omega arith)

on_small : (at end : ℕ) (p : Result Record Malformed) {r : Record} → Small p → (on_parsed at end p).entry ≡ Ok (Some r) → r.format ≤ 255
on_small at end (Ok q) {r} h e =
    let g : shift at q ≡ r = cc in
    let f : q.format ≡ r.format = ap (λ (x : Record). x.format) g in
    omega arith
on_small at end (Err why) h e = let z : ◌≡◌ {A = ℕ} 0 1 = cc in absurd (omega arith)

step_small : (s : List ℕ) (at end : ℕ) {r : Record} → (step_of s at end).entry ≡ Ok (Some r) → r.format ≤ 255
unfolding step_of
step_small s at end {r} e =
    pick_cases (λ (x : Stepped). x.entry ≡ Ok (Some r) → r.format ≤ 255) (ltb (length s) end)
    (λ _ q. no_record refl q)
    (λ _. pick_cases (λ (x : Stepped). x.entry ≡ Ok (Some r) → r.format ≤ 255) (leb end at)
    (λ _ q. no_record refl q)
    (λ _ q. on_small at end (parse_of (left s at end)) (parsed_small (left s at end)) q))
    e

pub handed_back : (s : List ℕ) (c : Cursor) {r : Record} → entry_of s c ≡ Ok (Some r) → record_of (places_of r) ≡ r
handed_back s c {r} e = read_back_lem r (step_small s c.at c.end e)

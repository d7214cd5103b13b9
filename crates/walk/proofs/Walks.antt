-- The walk as a list, step by step.
--
--   left-length    == how many bytes are left before the end
--   next-inside    == after a record the next place is further on, and not past the end
--   walked_step    == a walk is the cursor's step, and then the walk from the next place
use mathlib.Core.Path.{◌≡◌, refl, ap, sym, ◌∙◌}
use mathlib.Core.List.{List, [], ◌∷◌, ◌++◌, append_assoc, append-nil}
use Prim.Native.Nat.{ℕ, zero, suc, ◌-◌, ◌≤◌, ◌<◌}
use native.Mathlib.Omega.{arith}
use borrow.Author.Tests.{ltb-false, leb-false}
use lib.ListN.{length, drop, length-take, length-drop}
use lib.Dec.{leb, ltb}
use Rattle.std.specs.Prelude.{Some, None, Result, Ok, Err}
use Rattle.slices.specs.Walk.{more, on_next}
use Rattle.slices.proofs.Cases.{pick_cases}
use Rattle.slices.proofs.Walks.{walk_step}
use Rattle.records.specs.declared.Record.{Record}
use Rattle.records.specs.declared.Malformed.{Malformed}
use Rattle.records.specs.Parse.{parse_of}
use Rattle.records.proofs.Records.{record_there}
use Rattle.walk.specs.declared.Stepped.{Stepped}
use Rattle.walk.specs.Step.{Entry, left, on_parsed, step_of}
use Rattle.walk.specs.Walked.{Turn, ended, before, listing, on_entry, turn, walked_from, walked, on_step}

-- what a step that finds a record says of the next place
abbrev Further : ℕ → ℕ → Stepped → Type 0
Further at end t = (r : Record) → t.entry ≡ Ok (Some r) → (at < t.next) × (t.next ≤ end)

module _ (s : List ℕ) (at end : ℕ) (fits : end ≤ length s) (some : at < end) where
  pub left-length : length (left s at end) ≡ end - at
  left-length = omega (arith, length-take (end - at) (drop at s), length-drop at s)

  parsed_further : (p : Result Record Malformed) → parse_of (left s at end) ≡ p → Further at end (on_parsed at end p)
  parsed_further (Ok q) e r f =
      let h = record_there (left s at end) e in
      let l = left-length in
      pick_cases (λ (n : ℕ). (at < n) × (n ≤ end)) q.last (λ _. (some, omega arith)) (λ _. (omega arith, omega arith))
  parsed_further (Err why) e r f = let z : ◌≡◌ {A = ℕ} 0 1 = cc in absurd (omega arith)

pub next-inside : (s : List ℕ) (at end : ℕ) {r : Record} → (step_of s at end).entry ≡ Ok (Some r)
    → (at < (step_of s at end).next) × ((step_of s at end).next ≤ end)
unfolding step_of
next-inside s at end {r} =
    pick_cases (Further at end) (ltb (length s) end) (λ _. no) (λ f.
    pick_cases (Further at end) (leb end at) (λ _. no) (λ g.
    parsed_further s at end (ltb-false _ _ f) (leb-false _ _ g) (parse_of (left s at end)) refl)) r
  where
    no : (q : Record) → ◌≡◌ {A = Entry} (Ok None) (Ok (Some q)) → (at < end) × (end ≤ end)
    no q e = let z : ◌≡◌ {A = ℕ} 0 1 = cc in absurd (omega arith)

module _ (s : List ℕ) (end : ℕ) where
  falls_on : (at : ℕ) (rs : List Record) (e : Entry) → (step_of s at end).entry ≡ e → (u : Turn)
      → on_entry (step_of s at end).next rs e ≡ more u → end - u.place < end - at
  falls_on at rs (Ok (Some r)) e u m =
      let h = next-inside s at end e in
      let q : ◌≡◌ {A = Turn} (record { place = (step_of s at end).next; so_far = rs ++ (r ∷ []) }) u = cc in
      let p : (step_of s at end).next ≡ u.place = ap (λ (t : Turn). t.place) q in
      omega arith
  falls_on at rs (Ok None) e u m = let z : ◌≡◌ {A = ℕ} 0 1 = cc in absurd (omega arith)
  falls_on at rs (Err why) e u m = let z : ◌≡◌ {A = ℕ} 0 1 = cc in absurd (omega arith)

  from_step : (t : Turn) → walked_from s end t ≡ on_next (turn s end t) (walked_from s end)
  unfolding walked_from
  from_step t =
      walk_step (turn s end) (listing [] ended) (λ u. end - u.place)
      (λ k u e. falls_on k.place k.so_far (step_of s k.place end).entry refl u e) t

  abbrev at_with : ℕ → List Record → Turn
  at_with at rs = record { place = at; so_far = rs }

  -- the records so far stand before those to come
  abbrev First : ℕ → List Record → Type 0
  First at rs = walked_from s end (at_with at rs) ≡ before rs (walked s at end)

  -- a turn, where that holds from every later place on
  module _ (at : ℕ) (later : (k : ℕ) (qs : List Record) → end - k < end - at → First k qs) where
    on_entry_lem : (rs : List Record) (e : Entry) → (step_of s at end).entry ≡ e
        → on_next (on_entry (step_of s at end).next rs e) (walked_from s end) ≡ before rs (on_step e (walked s (step_of s at end).next end))
    on_entry_lem rs (Ok (Some r)) e =
        let h = next-inside s at end e in
        later (step_of s at end).next (rs ++ (r ∷ [])) (omega arith) ∙ simp append_assoc
    on_entry_lem rs (Ok None) e = simp append-nil
    on_entry_lem rs (Err why) e = simp append-nil

    turned : (rs : List Record)
        → walked_from s end (at_with at rs) ≡ before rs (on_step (step_of s at end).entry (walked s (step_of s at end).next end))
    turned rs = from_step (at_with at rs) ∙ on_entry_lem rs (step_of s at end).entry refl

  first : (n at : ℕ) (rs : List Record) → end - at < n → First at rs
  first zero at rs h = absurd (omega arith)
  first (suc n) at rs h =
      turned at (λ k qs f. first n k qs (omega arith)) rs
      ∙ ap (before rs) (sym (turned at (λ k qs f. first n k qs (omega arith)) []))

  pub walked_step : (at : ℕ) → walked s at end ≡ on_step (step_of s at end).entry (walked s (step_of s at end).next end)
  walked_step at = turned at (λ k qs f. first (suc (end - k)) k qs (omega arith)) []

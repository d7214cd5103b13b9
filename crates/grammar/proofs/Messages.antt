-- The walk as a list, by the grammar of messages.
--
--   walked_complete   == a message that is written is walked: its records are found in their order, and the walk ends as it does
--   walked-sound      == what is walked is a message that is written so
use mathlib.Core.Path.{◌≡◌, refl, ap, ap₂, sym, subst, ◌∙◌}
use mathlib.Core.Bool.{Bool, true, false}
use mathlib.Core.List.{List, [], ◌∷◌, ◌++◌}
use mathlib.Core.Logic.{⊎_elim}
use Prim.Native.Nat.{ℕ, zero, suc, ◌+◌, ◌-◌, ◌≤◌, ◌<◌}
use native.Mathlib.Omega.{arith}
use borrow.Author.Tests.{le-ltb, le-leb, lt-leb}
use lib.ListN.{get_or-eq_default, length, take, drop, length-append, length-take, length-drop}
use lib.Seq.{get_or-take, get_or-drop, drop_at, drop-drop, take-add, length-take-le}
use Rattle.std.specs.Prelude.{None, Result, Ok, Err}
use Rattle.slices.specs.Pick.{pick}
use Rattle.slices.proofs.Cases.{lt_or_ge}
use Rattle.layout.specs.Record.{Fields, record_bytes}
use Rattle.records.specs.declared.Record.{Record}
use Rattle.records.specs.declared.Malformed.{Malformed}
use Rattle.records.specs.declared.Malformed.TheVariants.{Truncated, Chunked}
use Rattle.heads.specs.Heads.{flag}
use Rattle.records.specs.Parse.{parse_of, number_of}
use Rattle.grammar.specs.Records.{Bytes, Allowed, Begins, places_of}
use Rattle.grammar.proofs.RecordsComplete.{complete, bytes-length}
use Rattle.records.proofs.Records.{record_there}
use Rattle.grammar.proofs.RecordsSound.{sound}
use Rattle.grammar.proofs.RecordsExactly.{chunked-read, truncated-read, chunked_exactly, truncated_exactly}
use Rattle.walk.specs.declared.Stepped.{Stepped}
use Rattle.walk.specs.Step.{shift, left, stop, on_parsed, step_of}
use Rattle.walk.specs.Walked.{Ending, ended, truncated, chunked, Walked, before, walked, on_step}
use Rattle.grammar.specs.Messages.{Message, no_bytes, last, more, in_chunks, cut_short, listed, Lists}
use Rattle.walk.proofs.Walks.{left-length, walked_step}

module _ (s : List ℕ) (bytes : Bytes s) (end : ℕ) (fits : end ≤ length s) where
  -- a step inside the message, and at its end
  inside : (at : ℕ) → at < end → step_of s at end ≡ on_parsed at end (parse_of (left s at end))
  unfolding step_of
  inside at h = simp (le-ltb _ _ fits, lt-leb _ _ h)

  past : (at : ℕ) → end ≤ at → step_of s at end ≡ stop (Ok None) end
  unfolding step_of
  past at h = simp (le-ltb _ _ fits, le-leb _ _ h)

  -- bytes are left only before the end
  some_left : (at : ℕ) → 0 < length (left s at end) → at < end
  some_left at h = omega (arith, length-take (end - at) (drop at s))

  -- what is left after the bytes in front
  left_after : (at : ℕ) (a t : List ℕ) → left s at end ≡ a ++ t → at < end → left s (at + length a) end ≡ t
  left_after at a t e h =
      let n = length a in
      let l = left-length s at end fits h in
      let k : end - at ≡ n + (end - (at + n)) = omega (arith, ap length e, length-append a t) in
      let c : left s at end ≡ take n (drop at s) ++ left s (at + n) end
      = ap (λ (m : ℕ). take m (drop at s)) k ∙ take-add n (end - (at + n)) (drop at s)
      ∙ ap (λ (x : List ℕ). take n (drop at s) ++ take (end - (at + n)) x) (drop-drop n at s) in
      let f : length (take n (drop at s)) ≡ n = length-take-le n (drop at s) (omega (arith, ap length e, length-append a t, length-drop at s)) in
      sym (drop_at (take n (drop at s)) (left s (at + n) end) n f) ∙ ap (drop n) (sym c ∙ e) ∙ drop_at a t n refl

  bytes_left : (at : ℕ) → Bytes (left s at end)
  bytes_left at k =
      ⊎_elim
      (λ h. rw (get_or-take (end - at) (drop at s) k 0 h, get_or-drop at s k 0) (bytes (at + k)))
      (λ h. rw (get_or-eq_default (left s at end) 0 {n = k} (omega (arith, length-take (end - at) (drop at s)))) (omega arith))
      (lt_or_ge k (end - at))

  walked_by : (at : ℕ) {t : Stepped} → step_of s at end ≡ t → walked s at end ≡ on_step t.entry (walked s t.next end)
  walked_by at e = walked_step s end at ∙ ap (λ (t : Stepped). on_step t.entry (walked s t.next end)) e

  finished : (at : ℕ) → end ≤ at → walked s at end ≡ listed at [] ended
  finished at h = walked_by at (past at h)

  -- a record that stands in front: the walk finds it, and goes on after it, or ends
  module _ (at : ℕ) (r : Fields) (t : List ℕ) (is : left s at end ≡ record_bytes r ++ t) (ok : Allowed r) where
    parsed_is : parse_of (left s at end) ≡ Ok (places_of r)
    parsed_is = ap parse_of is ∙ complete r t ok

    before-end : at < end
    before-end = let h = record_there (left s at end) parsed_is in some_left at (omega arith)

    on_record : (b : Bool) → r.last ≡ b
        → walked s at end ≡ before (shift at (places_of r) ∷ []) (walked s (pick b end (at + length (record_bytes r))) end)
    on_record b e =
        walked_by at (inside at before-end ∙ ap (on_parsed at end) parsed_is)
        ∙ ap₂ (λ (c : Bool) (n : ℕ). before (shift at (places_of r) ∷ []) (walked s (pick c end (at + n)) end)) e (sym (bytes-length r))

    rest-left : left s (at + length (record_bytes r)) end ≡ t
    rest-left = left_after at (record_bytes r) t is before-end

  pub walked_complete : (at : ℕ) {rs : List Fields} {e : Ending} {bs : List ℕ} → Message rs e bs → left s at end ≡ bs
      → walked s at end ≡ listed at rs e
  walked_complete at no_bytes is =
      ⊎_elim (λ h. absurd (let l = left-length s at end fits h in let z = ap length is in omega arith)) (λ h. finished at h) (lt_or_ge at end)
  walked_complete at (last {r} rest ok flag) is =
      on_record at r rest is ok true flag ∙ ap (before (shift at (places_of r) ∷ [])) (finished end (omega arith))
  walked_complete at (more {r} {rs} {e} {s = t} ok flag m) is =
      on_record at r t is ok false flag
      ∙ ap (before (shift at (places_of r) ∷ [])) (walked_complete (at + length (record_bytes r)) m (rest-left at r t is ok))
  walked_complete at (in_chunks some flag) is =
      walked_by at (inside at (some_left at (rw is some)) ∙ ap (on_parsed at end) (ap parse_of is ∙ chunked-read _ flag))
  walked_complete at (cut_short some flag none) is =
      walked_by at (inside at (some_left at (rw is some))
      ∙ ap (on_parsed at end) (truncated-read (left s at end) (bytes_left at) (rw is flag) (rw is none)))

  -- and what is walked is written so, where that holds from every later place on
  module _ (at : ℕ) (some : at < end) (later : (k : ℕ) → end - k < end - at → Lists k (walked s k end) (left s k end)) where
    after_record : (r : Fields) (t : List ℕ) (b : Begins (left s at end) r t) (l : Bool) → r.last ≡ l → Lists at (walked s at end) (left s at end)
    after_record r t b true e =
        let w = on_record at r t b.bytes b.allowed true e ∙ ap (before (shift at (places_of r) ∷ [])) (finished end (omega arith)) in
        record {
          fields = r ∷ [];
          written =
              subst (λ (x : Ending). Message (r ∷ []) x (left s at end)) (sym (ap (λ (x : Walked). x.ending) w))
              (subst (Message (r ∷ []) ended) (sym b.bytes) (last t b.allowed e));
          places = ap (λ (x : Walked). x.records) w;
        }
    after_record r t b false e =
        let h = record_there (left s at end) (parsed_is at r t b.bytes b.allowed) in
        let n = bytes-length r in
        let k = at + length (record_bytes r) in
        let m = later k (omega arith) in
        let w = on_record at r t b.bytes b.allowed false e in
        record {
          fields = r ∷ m.fields;
          written =
              subst (λ (x : Ending). Message (r ∷ m.fields) x (left s at end)) (sym (ap (λ (x : Walked). x.ending) w))
              (subst (Message (r ∷ m.fields) (walked s k end).ending) (sym b.bytes)
              (more b.allowed e (subst (Message m.fields (walked s k end).ending) (rest-left at r t b.bytes b.allowed) m.written)));
          places = ap (λ (x : Walked). x.records) w ∙ ap (λ (l : List Record). shift at (places_of r) ∷ l) m.places;
        }

    refused_at : (e : Ending) → walked s at end ≡ listed at [] e → Message [] e (left s at end) → Lists at (walked s at end) (left s at end)
    refused_at e w m =
        record {
          fields = [];
          written = subst (λ (x : Ending). Message [] x (left s at end)) (sym (ap (λ (x : Walked). x.ending) w)) m;
          places = ap (λ (x : Walked). x.records) w;
        }

    by_parsed : (q : Result Record Malformed) → parse_of (left s at end) ≡ q → Lists at (walked s at end) (left s at end)
    by_parsed (Ok p) e =
        let a = sound (left s at end) (bytes_left at) e in
        after_record a.fields a.rest a.begins a.fields.last refl
    by_parsed (Err Truncated) e =
        let t = (truncated_exactly (left s at end) (bytes_left at)).0 (ap number_of e) in
        let l = left-length s at end fits some in
        let n : 0 < length (left s at end) = omega arith in
        let m : Message [] truncated (left s at end) = cut_short n t.0 t.1 in
        refused_at truncated (walked_complete at m refl) m
    by_parsed (Err Chunked) e =
        let l = left-length s at end fits some in
        let n : 0 < length (left s at end) = omega arith in
        let m : Message [] chunked (left s at end) = in_chunks n ((chunked_exactly (left s at end)).0 (ap number_of e)) in
        refused_at chunked (walked_complete at m refl) m

  all_walked : (n at : ℕ) → end - at < n → Lists at (walked s at end) (left s at end)
  all_walked zero at h = absurd (omega arith)
  all_walked (suc n) at h =
      ⊎_elim
      (λ some. by_parsed at some (λ k f. all_walked n k (omega arith)) (parse_of (left s at end)) refl)
      (λ none.
      let z : end - at ≡ 0 = omega arith in
      let e : left s at end ≡ [] = ap (λ (k : ℕ). take k (drop at s)) z in
      let w = finished at none in
      record {
        fields = [];
        written =
            subst (λ (x : Ending). Message [] x (left s at end)) (sym (ap (λ (x : Walked). x.ending) w))
            (subst (Message [] ended) (sym e) no_bytes);
        places = ap (λ (x : Walked). x.records) w;
      })
      (lt_or_ge at end)

  pub walked-sound : (at : ℕ) → Lists at (walked s at end) (left s at end)
  walked-sound at = all_walked (suc (end - at)) at (omega arith)

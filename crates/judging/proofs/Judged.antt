-- Laws of verdicts: what a build that fits has shown, and how each build ends.
use mathlib.Core.Path.{◌≡◌, refl, ap, sym, ◌∙◌}
use mathlib.Core.Bool.{Bool, true, false, not}
use Rattle.std.specs.Prelude.{⊤, Result, Ok, Err}
use mathlib.Core.List.{List, [], ◌∷◌, ◌++◌}
use mathlib.Core.Logic.{⊎_elim}
use Prim.Native.Nat.{ℕ, ◌+◌, ◌≤◌, ◌<◌, ◌^◌}
use native.Mathlib.Nat.{zero-add}
use native.Mathlib.Omega.{arith}
use borrow.Author.Tests.{ltb-false, lt-ltb}
use lib.ListN.{length, length-append}
use lib.Dec.{ltb}
use Rattle.slices.specs.Pick.{pick}
use Rattle.slices.specs.Bytes.{splice, Wrote}
use Rattle.slices.proofs.Cases.{lt_or_ge, pick_else}
use Rattle.slices.proofs.Splice.{splice_front}
use Rattle.layout.specs.Lengths.{sat, record_len, image_len}
use Rattle.layout.proofs.Sizes.{image-is, record_is, image-sat}
use Rattle.layout.specs.declared.refusal.Refusal.{Refusal}
use Rattle.layout.specs.declared.refusal.Refusal.TheVariants.{TypeTooLong, TooLong, NotUtf8}
use Rattle.utf8.specs.Utf8.{utf8}
use Rattle.judging.specs.Judge.{Check, verdict, checks, encoding, answer, after}

not-fits : {w : Refusal} → ◌≡◌ {A = Result ⊤ Refusal} (Err w) (Ok tt) → ⊥
not-fits e = let z : ◌≡◌ {A = ℕ} 0 1 = cc in omega arith

-- What a build that fits has shown.
pub record Room (room area k p : ℕ) : Type 0 where
  pub kind : k ≤ 255
  pub image : image_len k p ≤ room
  pub one : record_len k p ≤ 65535
  pub area_fits_lem : area ≤ 524287

pub room_of : (room area k p : ℕ) → verdict (checks room area k p) ≡ Ok tt → Room room area k p
unfolding checks
room_of room area k p e =
    let a = pick_else _ e not-fits in
    let b = pick_else _ a.1 not-fits in
    let d = pick_else _ b.1 not-fits in
    let f = pick_else _ d.1 not-fits in
    record {
      kind = ltb-false _ _ a.0;
      image = ltb-false _ _ b.0;
      one = ltb-false _ _ d.0;
      area_fits_lem = ltb-false _ _ f.0;
    }

-- More checks after others: a refusal stands, and what fits goes on to them.
carry : (b : Bool) (w v v' : Result ⊤ Refusal) {u : Result ⊤ Refusal} → (v ≡ u → v' ≡ u) → pick b w v ≡ u → pick b w v' ≡ u
carry true w v v' f e = e
carry false w v v' f e = f e

pub still-refused : (cs ds : List Check) {w : Refusal} → verdict cs ≡ Err w → verdict (cs ++ ds) ≡ Err w
still-refused [] ds e = let z : ◌≡◌ {A = ℕ} 0 1 = cc in absurd (omega arith)
still-refused (c ∷ cs) ds e = carry c.fails (Err c.why) (verdict cs) (verdict (cs ++ ds)) (still-refused cs ds) e

pass : (b : Bool) (w : Refusal) (v v' : Result ⊤ Refusal) {t : Result ⊤ Refusal} → (v ≡ Ok tt → v' ≡ t) → pick b (Err w) v ≡ Ok tt → pick b (Err w) v' ≡ t
pass true w v v' f e = absurd (not-fits e)
pass false w v v' f e = f e

pub goes_on : (cs ds : List Check) → verdict cs ≡ Ok tt → verdict (cs ++ ds) ≡ verdict ds
goes_on [] ds e = refl
goes_on (c ∷ cs) ds e = pass c.fails c.why (verdict cs) (verdict (cs ++ ds)) (goes_on cs ds) e

first : (b : Bool) (w : Refusal) (v v' : Result ⊤ Refusal) → (v' ≡ Ok tt → v ≡ Ok tt) → pick b (Err w) v' ≡ Ok tt → pick b (Err w) v ≡ Ok tt
first true w v v' f e = e
first false w v v' f e = f e

pub fits-first : (cs ds : List Check) → verdict (cs ++ ds) ≡ Ok tt → verdict cs ≡ Ok tt
fits-first [] ds e = refl
fits-first (c ∷ cs) ds e = first c.fails c.why (verdict cs) (verdict (cs ++ ds)) (fits-first cs ds) e

-- A text of two pieces: what was judged of their lengths, and then whether it is UTF-8.
module _ (room area k : ℕ) (h t : List ℕ) where
  whole_length : {v : Result ⊤ Refusal} → verdict (checks room area k (length h + length t)) ≡ v → verdict (checks room area k (length (h ++ t))) ≡ v
  whole_length e = ap (λ (n : ℕ). verdict (checks room area k n)) (length-append h t) ∙ e

  pub text_refused : {w : Refusal} → verdict (checks room area k (length h + length t)) ≡ Err w
      → verdict (checks room area k (length (h ++ t)) ++ encoding t) ≡ Err w
  text_refused e = still-refused (checks room area k (length (h ++ t))) (encoding t) (whole_length e)

  pub text_judged : {b : Bool} → verdict (checks room area k (length h + length t)) ≡ Ok tt → utf8 t ≡ b
      → verdict (checks room area k (length (h ++ t)) ++ encoding t) ≡ pick (not b) (Err NotUtf8) (Ok tt)
  text_judged e u =
      goes_on (checks room area k (length (h ++ t))) (encoding t) (whole_length e)
      ∙ ap (λ (x : Bool). pick (not x) (Err NotUtf8) (Ok tt)) u

-- What a text that fits has shown, whatever it is judged for.
pub text_room : (room area k n : ℕ) (t : List ℕ) → verdict (checks room area k n ++ encoding t) ≡ Ok tt → Room room area k n
text_room room area k n t e = room_of room area k n (fits-first (checks room area k n) (encoding t) e)

-- A payload past 64 bits is judged like the largest 64-bit number: neither has room.
too_long : (room area k p : ℕ) → room < image_len k p
    → verdict (checks room area k p) ≡ pick (ltb 255 k) (Err TypeTooLong) (Err (TooLong (sat (image_len k p)) room))
unfolding checks
too_long room area k p h = simp (lt-ltb room (image_len k p) h)

pub judged-sat : (room area k p : ℕ) → room < 2 ^ 63 → verdict (checks room area k (sat p)) ≡ verdict (checks room area k p)
judged-sat room area k p h =
    ⊎_elim
    (λ l. ap (λ (n : ℕ). verdict (checks room area k n)) (let e : sat p ≡ p = omega arith in e))
    (λ l.
    too_long room area k (sat p) (omega (arith, image-is k (sat p), record_is k (sat p)))
    ∙ ap (λ (n : ℕ). pick (ltb 255 k) (Err TypeTooLong) (Err (TooLong n room))) (image-sat k p)
    ∙ sym (too_long room area k p (omega (arith, image-is k p, record_is k p))))
    (lt_or_ge p 0xffff_ffff_ffff_ffff)

-- How a build ends: what every builder's `returns` cites.
module _ {v : Result ⊤ Refusal} {out bs : List ℕ} where
  pub finished : {left : List ℕ} {r : ℕ} → v ≡ Ok tt → Wrote out 0 bs left r → (Ok r ≡ answer v bs) × (left ≡ after v bs out)
  finished e w = (
    ap Ok (w.place ∙ zero-add (length bs)) ∙ ap (λ (u : Result ⊤ Refusal). answer u bs) (sym e),
    w.bytes ∙ splice_front out bs ∙ ap (λ (u : Result ⊤ Refusal). after u bs out) (sym e),
  )

-- bytes at the front of a buffer are what a build that fits leaves
pub written : (out bs : List ℕ) → splice out 0 bs ≡ after (Ok tt) bs out
written out bs = splice_front out bs

pub refused : {v : Result ⊤ Refusal} (out bs : List ℕ) {w : Refusal} → v ≡ Err w → (Err w ≡ answer v bs) × (out ≡ after v bs out)
refused out bs e = (ap (λ (u : Result ⊤ Refusal). answer u bs) (sym e), ap (λ (u : Result ⊤ Refusal). after u bs out) (sym e))

-- what every builder cites
pub ruleset building = (room_of, text_room, judged-sat, finished, written, refused)

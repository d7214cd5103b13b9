-- `utf8` is true of just the texts: the computed test and the document's relation agree.
use mathlib.Core.Path.{◌≡◌, refl, ap, sym, ◌∙◌}
use mathlib.Core.Bool.{true}
use mathlib.Core.List.{List, [], ◌∷◌, ◌++◌, Memᴰ}
use mathlib.Core.Logic.{⊎_elim}
use Prim.Native.Nat.{ℕ, zero, suc, ◌<◌}
use native.Mathlib.Omega.{arith}
use lib.ListN.{length, take, drop, length-drop, take-append-drop}
use lib.Seq.{drop_at}
use Rattle.slices.proofs.Cases.{lt_or_ge, pick_cases}
use Rattle.slices.proofs.Truths.{never, and_left, and_right}
use Rattle.utf8.specs.Utf8.{Range, ◌to◌, inside, table, fits, row_len, first_len, utf8}
use Rattle.utf8.specs.Grammar.{Matches, end, byte, Text, none, char}
use Rattle.utf8.proofs.Tests.{inside_is, inside_lo, inside_hi}
use Rattle.utf8.proofs.Rows.{first-row}
use Rattle.utf8.proofs.Utf8.{utf8_nil, utf8_bad, utf8-more}

-- what matches a row fits it, whatever follows
matches_fits : {c : List ℕ} {row : List Range} → Matches c row → (s : List ℕ) → fits (c ++ s) row ≡ true
unfolding fits
matches_fits end s = refl
matches_fits (byte {b} {lo} {hi} p q m) s = rw (inside_is b lo hi p q) (matches_fits m s)

-- and is as long
matches_length : {c : List ℕ} {row : List Range} → Matches c row → length c ≡ length row
matches_length end = refl
matches_length (byte p q m) = ap suc (matches_length m)

-- a character in front of well-formed bytes
in_front : {c : List ℕ} {row : List Range} (s : List ℕ) → Memᴰ row table → Matches c row → utf8 s ≡ true → utf8 (c ++ s) ≡ true
in_front s r end e = e
in_front s r (byte {b} {lo} {hi} {c} {row} p q m) e =
    let f : fits (b ∷ (c ++ s)) (lo to hi ∷ row) ≡ true = matches_fits (byte p q m) s in
    let l : first_len (b ∷ (c ++ s)) ≡ suc (length row) = first-row b (c ++ s) r (inside_is b lo hi p q) ∙ rw f in
    utf8-more (b ∷ (c ++ s)) (omega arith) (λ k. omega arith) ∙ rw (l, drop_at c s (length row) (matches_length m)) e

-- every text is well-formed
pub utf8_complete : {s : List ℕ} → Text s → utf8 s ≡ true
utf8_complete none = utf8_nil [] refl
utf8_complete (char {s = s} r m t) = in_front s r m (utf8_complete t)

-- the row that gave a character its length
record Found (s : List ℕ) (rows : List (List Range)) (n : ℕ) : Type 0 where
  row : List Range
  among : Memᴰ row rows
  fit : fits s row ≡ true
  long : n ≡ length row

-- a character has such a row
found : (s : List ℕ) (rows : List (List Range)) → (row_len s rows ≡ 0 → ⊥) → Found s rows (row_len s rows)
unfolding row_len
found s [] z = absurd (z refl)
found s (row ∷ rows) z =
    pick_cases (λ (n : ℕ). (n ≡ 0 → ⊥) → Found s (row ∷ rows) n) (fits s row)
    (λ e _. record { row = row; among = Memᴰ.head refl; fit = e; long = refl })
    (λ _ y. let f = found s rows y in record { row = f.row; among = Memᴰ.tail f.among; fit = f.fit; long = f.long })
    z

-- the front of what fits a row matches it
fits_matches : (s : List ℕ) (row : List Range) → fits s row ≡ true → Matches (take (length row) s) row
unfolding fits
fits_matches s [] e = end
fits_matches [] (r ∷ row) e = never e
fits_matches (b ∷ s) (lo to hi ∷ row) e =
    let i = and_left (inside b (lo to hi)) _ e in
    byte (inside_lo b lo hi i) (inside_hi b lo hi i) (fits_matches s row (and_right (inside b (lo to hi)) _ e))

-- the first character off, where what is shorter is known
turn : (s : List ℕ) → ((t : List ℕ) → length t < length s → utf8 t ≡ true → Text t) → utf8 s ≡ true → Text s
unfolding first_len
turn [] below e = none
turn (b ∷ t) below e =
    let s = b ∷ t in
    ⊎_elim
    (λ z. never (sym (utf8_bad s (omega arith) (omega arith)) ∙ e))
    (λ p.
    let f = found s table (λ k. omega arith) in
    let l : first_len s ≡ length f.row = f.long in
    let m : Text (drop (first_len s) s) = below _ (omega (arith, length-drop (first_len s) s)) (sym (utf8-more s (omega arith) (λ k. omega arith)) ∙ e) in
    rw take-append-drop at (char f.among (fits_matches s f.row f.fit) (rw l at m)))
    (lt_or_ge (first_len s) 1)

-- by the length
sound : (n : ℕ) (s : List ℕ) → length s < n → utf8 s ≡ true → Text s
sound zero s h e = absurd (omega arith)
sound (suc n) s h e = turn s (λ t k. sound n t (omega arith)) e

-- what is well-formed is a text
pub utf8-sound : (s : List ℕ) → utf8 s ≡ true → Text s
utf8-sound s e = sound (suc (length s)) s (omega arith) e

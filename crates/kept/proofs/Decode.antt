-- The state's bytes: what is encoded is decoded, and nothing else is.
use mathlib.Core.Path.{◌≡◌, refl, sym, ap, ap₂, ◌∙◌}
use mathlib.Core.Bool.{Bool, true, false, ◌&&◌}
use mathlib.Core.List.{List, [], ◌∷◌}
use Prim.Native.Nat.{ℕ, suc, ◌+◌, ◌*◌, ◌/◌, ◌%◌, ◌≤◌, ◌<◌}
use native.Mathlib.Omega.{arith}
use lib.ListN.{length, get_or, drop, drop_of_length-le}
use lib.Seq.{drop-cons}
use lib.Dec.{eqb}
use borrow.Author.Tests.{eqb-true, eq-eqb}
use Rattle.std.specs.Prelude.{Option, Some, None}
use Rattle.slices.specs.Pick.{pick}
use Rattle.slices.proofs.Truths.{both, both_so}
use Rattle.slices.proofs.Numbers.{byte-rest}
use Rattle.session.specs.Sound.{sound}
use Rattle.stages.specs.declared.stage.Stage.{Stage}
use Rattle.session.specs.declared.session.Session.{Session}
use Rattle.numbers.specs.Flat.{now_flat, flatten}
use Rattle.numbers.specs.From.{session_from}
use Rattle.state.specs.Bytes.{bytes_of, two_at, flat_of, encode, same_code, same_place, same_flat, decode_flat, decode_of}
use Rattle.numbers.specs.declared.flat.Code.{Code}
use Rattle.numbers.specs.declared.flat.Place.{Place}
use Rattle.numbers.specs.declared.flat.Flat.{Flat}
use Rattle.kept.specs.Bytes.{Bytes}
use Rattle.kept.proofs.Back.{flat_back}
use Rattle.kept.proofs.Small.{Small, flat_small}

-- two bytes of a number that goes into them
two_back : (n : ℕ) → n < 65536 → n % 256 + 256 * (n / 256 % 256) ≡ n
two_back n h = omega (arith, h)

bytes_back : (f : Flat) → Small f → flat_of (bytes_of f) ≡ f
bytes_back f h =
    let m = two_back f.mark h.mark in
    let r = two_back f.rows (let g = h.rows in omega (arith, g)) in
    let n = two_back f.lent h.lent in
    let l = two_back f.place.left h.place.left in
    let a = two_back f.place.at h.place.at in
    let e = two_back f.place.end h.place.end in
    let w = two_back f.place.row h.place.row in
    λ i. record {
      stage = f.stage;
      code = f.code;
      place = record { bits = f.place.bits; left = l i; at = a i; end = e i; row = w i };
      mark = m i;
      rows = r i;
      lent = n i;
    }

same_code_lem : (c : Code) → same_code c c ≡ true
same_code_lem c = both_so _ _ (both_so _ _ (both_so _ _ (eq-eqb c.phase c.phase refl) (eq-eqb c.inner c.inner refl)) (eq-eqb c.which c.which refl)) (eq-eqb c.count c.count refl)

same_place_lem : (p : Place) → same_place p p ≡ true
same_place_lem p =
    both_so _ _ (both_so _ _ (both_so _ _ (both_so _ _ (eq-eqb p.bits p.bits refl) (eq-eqb p.left p.left refl)) (eq-eqb p.at p.at refl)) (eq-eqb p.end p.end refl)) (eq-eqb p.row p.row refl)

same_flat_lem : (f : Flat) → same_flat f f ≡ true
same_flat_lem f = both_so _ _ (both_so _ _ (eq-eqb f.stage f.stage refl) (same_code_lem f.code)) (same_place_lem f.place)

-- a choice that is known
taken : (b : Bool) (d : Option Session) → b ≡ true → pick b d None ≡ d
taken true d e = refl
taken false d e = absurd (let z : ◌≡◌ {A = ℕ} 0 1 = cc in omega arith)

pub flat_decoded : (s : Session) → sound s ≡ true → decode_flat (flatten s) ≡ Some s
flat_decoded s e =
    ap (λ (t : Session). pick (same_flat (flatten t) (flatten s) && sound t) (Some t) None) (flat_back s)
    ∙ taken (same_flat (flatten s) (flatten s) && sound s) (Some s) (both_so _ _ (same_flat_lem (flatten s)) e)

pub decode_encode : (s : Session) → sound s ≡ true → decode_of (encode s) ≡ Some s
decode_encode s e = ap decode_flat (bytes_back (flatten s) (flat_small s e)) ∙ flat_decoded s e

-- a choice that came out as a state
some-state : (b : Bool) (d : Option Session) (s : Session) → pick b d None ≡ Some s → (b ≡ true) × (d ≡ Some s)
some-state true d s e = (refl, e)
some-state false d s e = absurd (let z : ◌≡◌ {A = ℕ} 0 1 = cc in omega arith)

code_is : (a b : Code) → same_code a b ≡ true → a ≡ b
code_is a b e =
    let h3 = both _ (eqb a.count b.count) e in
    let h2 = both _ (eqb a.which b.which) h3.0 in
    let h1 = both (eqb a.phase b.phase) (eqb a.inner b.inner) h2.0 in
    let p = eqb-true a.phase b.phase h1.0 in
    let n = eqb-true a.inner b.inner h1.1 in
    let w = eqb-true a.which b.which h2.1 in
    let c = eqb-true a.count b.count h3.1 in
    λ i. record { phase = p i; inner = n i; which = w i; count = c i }

place_is : (a b : Place) → same_place a b ≡ true → a ≡ b
place_is a b e =
    let h4 = both _ (eqb a.row b.row) e in
    let h3 = both _ (eqb a.end b.end) h4.0 in
    let h2 = both _ (eqb a.at b.at) h3.0 in
    let h1 = both (eqb a.bits b.bits) (eqb a.left b.left) h2.0 in
    let x = eqb-true a.bits b.bits h1.0 in
    let l = eqb-true a.left b.left h1.1 in
    let p = eqb-true a.at b.at h2.1 in
    let n = eqb-true a.end b.end h3.1 in
    let r = eqb-true a.row b.row h4.1 in
    λ i. record { bits = x i; left = l i; at = p i; end = n i; row = r i }

-- the mark, the rows and the data's length stand in the numbers as they are
pub now_counts : (m r l : ℕ) (n : Option Stage) → ((now_flat m r l n).mark ≡ m) × ((now_flat m r l n).rows ≡ r) × ((now_flat m r l n).lent ≡ l)
now_counts m r l None = (refl, refl, refl)
now_counts m r l (Some st) = (refl, refl, refl)

flat_is : (f : Flat) → same_flat (flatten (session_from f)) f ≡ true → flatten (session_from f) ≡ f
flat_is f e =
    let g = flatten (session_from f) in
    let h2 = both (eqb g.stage f.stage && same_code g.code f.code) (same_place g.place f.place) e in
    let h1 = both (eqb g.stage f.stage) (same_code g.code f.code) h2.0 in
    let t = eqb-true g.stage f.stage h1.0 in
    let c = code_is g.code f.code h1.1 in
    let p = place_is g.place f.place h2.1 in
    let n = now_counts f.mark f.rows f.lent (session_from f).now in
    λ i. record { stage = t i; code = c i; place = p i; mark = n.0 i; rows = n.1 i; lent = n.2 i }

module _ (l : List ℕ) (n : length l ≡ 20) (b : Bytes l) where
  cons : (i x : ℕ) (xs : List ℕ) → i < 20 → x ≡ get_or l i 0 → xs ≡ drop (suc i) l → x ∷ xs ≡ drop i l
  cons i x xs h e g = ap₂ (λ (y : ℕ) (ys : List ℕ). y ∷ ys) e g ∙ sym (drop-cons l i 0 (omega (arith, n, h)))

  -- two bytes are those of their number
  pair : (i : ℕ) (xs : List ℕ) → i < 19 → xs ≡ drop (suc (suc i)) l → two_at l i % 256 ∷ two_at l i / 256 % 256 ∷ xs ≡ drop i l
  pair i xs h g =
      let p = b i in
      let q = b (i + 1) in
      let s : i + 1 ≡ suc i = omega arith in
      let lo : two_at l i % 256 ≡ get_or l i 0 = omega (arith, p, q) in
      let div : two_at l i / 256 ≡ get_or l (i + 1) 0 = omega (arith, p, q) in
      let hi : two_at l i / 256 % 256 ≡ get_or l (i + 1) 0 = ap (λ (k : ℕ). k % 256) div ∙ byte-rest (get_or l (i + 1) 0) q in
      cons i (two_at l i % 256) (two_at l i / 256 % 256 ∷ xs) (omega (arith, h)) lo
      (cons (suc i) (two_at l i / 256 % 256) xs (omega (arith, h)) (hi ∙ ap (λ (k : ℕ). get_or l k 0) s) g)

  pub bytes_are : bytes_of (flat_of l) ≡ l
  bytes_are =
      let h : length l ≤ 20 = omega (arith, n) in
      let end : drop 20 l ≡ [] = drop_of_length-le l h in
      cons 0 _ _ (omega arith) refl (cons 1 _ _ (omega arith) refl (cons 2 _ _ (omega arith) refl
      (cons 3 _ _ (omega arith) refl (cons 4 _ _ (omega arith) refl (cons 5 _ _ (omega arith) refl
      (pair 6 _ (omega arith) (pair 8 _ (omega arith) (pair 10 _ (omega arith) (pair 12 _ (omega arith)
      (pair 14 _ (omega arith) (pair 16 _ (omega arith) (pair 18 _ (omega arith) (sym end)))))))))))))

pub decode_only : (l : List ℕ) (s : Session) → Bytes l → decode_of l ≡ Some s → (sound s ≡ true) × (encode s ≡ l)
decode_only l s b e =
    let a = some-state (eqb (length l) 20) (decode_flat (flat_of l)) s e in
    let c = some-state (same_flat (flatten (session_from (flat_of l))) (flat_of l) && sound (session_from (flat_of l))) (Some (session_from (flat_of l))) s a.1 in
    let d = both (same_flat (flatten (session_from (flat_of l))) (flat_of l)) (sound (session_from (flat_of l))) c.0 in
    let w = c.1 in
    let q : session_from (flat_of l) ≡ s = cc in (
      sym (ap sound q) ∙ d.1,
      ap encode (sym q) ∙ ap bytes_of (flat_is (flat_of l) d.0) ∙ bytes_are l (eqb-true (length l) 20 a.0) b,
    )

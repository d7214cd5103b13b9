-- The numbers of a wipe, and where its step leads.
use mathlib.Core.Path.{◌≡◌, refl, sym, subst, ap, ◌∙◌}
use mathlib.Core.Bool.{Bool, true, ◌&&◌}
use mathlib.Core.List.{List}
use Prim.Native.Nat.{ℕ, zero, suc, ◌+◌, ◌*◌, ◌/◌, ◌%◌, ◌<◌}
use native.Mathlib.Omega.{arith}
use lib.Dec.{eqb, ltb, leb}
use borrow.Author.Tests.{eqb-true}
use Rattle.std.specs.Prelude.{Option, Some, None, Ok, Err}
use Rattle.protocol.specs.Answer.{Progress}
use Rattle.machine.specs.Wait.{wait_new}
use Rattle.machine.specs.declared.wait.Wait.{Wait}
use Rattle.machine.specs.declared.wait.Wait.TheVariants as W
use Rattle.wipe.specs.Scrub.{scrub_ask, scrub_step, next_row, bits, Near}
use Rattle.wipe.specs.declared.scrub.Chunk.{Chunk}
use Rattle.wipe.specs.declared.scrub.Rows.{Rows}
use Rattle.wipe.specs.declared.scrub.Scrub.{Scrub}
use Rattle.wipe.specs.declared.scrub.Scrub.TheVariants as C
use Rattle.session.specs.Sound.{chunk_stop, row_sound, scrub_sound}
use Rattle.session.specs.Steps.{counted}
use Rattle.slices.proofs.Truths.{both}
use Rattle.numbers.specs.Flat.{bit_of, code_of, chunk_place, row_place}
use Rattle.numbers.specs.From.{chunk_from, rows_from}
use Rattle.numbers.specs.declared.flat.Code.{Code}
use Rattle.numbers.specs.declared.flat.Place.{Place}
use Rattle.numbers.specs.declared.flat.Flat.{Flat}
use Rattle.kept.proofs.Chunks.{stop-inside, scrub-says}
use Rattle.kept.proofs.Ables.{scrub_near}
use Rattle.wiping.specs.Onward.{bare, led_of, Leads, AnyLeads, Fits, Moves, AnyMoves}
use Rattle.wiping.specs.declared.after.Onward.{Onward}

leads_from : (m rows : ℕ) (s : Scrub) (got : List ℕ) (x : Progress Scrub) → scrub_sound m rows s ≡ true → counted (scrub_ask s) true ≡ 0 → scrub_step s true got ≡ x
    → Leads m rows s got (led_of rows x)
leads_from m rows s got (Ok (Some next)) h z e = record { sane = h; step = e; count = omega (arith, z) }
leads_from m rows s got (Ok None) h z e = tt
leads_from m rows s got (Err k) h z e = tt

-- the tests of the four places that a wipe can be at
pub read-sane : (m rows stop : ℕ) (p : Chunk) → stop ≡ chunk_stop m p → (ltb 0 stop && leb rows (p.at / 16)) ≡ true → scrub_sound m rows (C.Read p) ≡ true
read-sane m rows stop p e = subst (λ (k : ℕ). (ltb 0 k && leb rows (p.at / 16)) ≡ true) e

pub row-sane : (m rows stop : ℕ) (b : Bool) (p : Chunk) (r : Rows) → stop ≡ chunk_stop m p → b ≡ row_sound stop p r → (b && leb rows (r.row / 16)) ≡ true
    → scrub_sound m rows (C.Row p r) ≡ true
row-sane m rows stop b p r e f =
    subst (λ (x : Bool). (x && leb rows (r.row / 16)) ≡ true) (f ∙ ap (λ (k : ℕ). row_sound k p r) e)

pub poll-sane : (m rows stop n : ℕ) (b : Bool) (p : Chunk) (r : Rows) → stop ≡ chunk_stop m p → b ≡ row_sound stop p r
    → (b && ltb 0 rows && leb rows (r.row / 16 + 1) && ltb n 100) ≡ true → scrub_sound m rows (C.Wait p r (W.Poll n)) ≡ true
poll-sane m rows stop n b p r e f =
    subst (λ (x : Bool). (x && ltb 0 rows && leb rows (r.row / 16 + 1) && ltb n 100) ≡ true) (f ∙ ap (λ (k : ℕ). row_sound k p r) e)

pub reread-sane : (m rows stop : ℕ) (p : Chunk) → stop ≡ chunk_stop m p → (ltb 0 rows && leb rows (stop / 16)) ≡ true → scrub_sound m rows (C.Reread p) ≡ true
reread-sane m rows stop p e = subst (λ (k : ℕ). (ltb 0 rows && leb rows (k / 16)) ≡ true) e

pub near : (m rows : ℕ) (s : Scrub) → scrub_sound m rows s ≡ true → Near s
near m rows s e = scrub_near m rows s (scrub-says m rows s e)

pub rows_few : (m rows : ℕ) (p : Chunk) (r : Rows) → scrub_sound m rows (C.Row p r) ≡ true → rows < 9000
rows_few m rows p r e =
    let h = scrub-says m rows (C.Row p r) e in
    let g = (stop-inside m p h.0).1 in
    let k = h.1 in
    let l = k.here in
    let n = h.2 in
    omega (arith, g, l, n)

pub leads_row : (m rows : ℕ) (p : Chunk) (r : Rows) (w : Wait) → scrub_sound m rows (C.Row p r) ≡ true → w ≡ wait_new
    → AnyLeads m rows (C.Row p r) (Some (record { rows = rows + 1; wipe = C.Wait p r w }))
leads_row m rows p r w h e got = record { sane = h; step = ap (λ (x : Wait). Ok (Some (C.Wait p r x))) (sym e); count = refl }

pub leads_poll : (m rows n : ℕ) (p : Chunk) (r : Rows) (s : Scrub) → scrub_sound m rows (C.Wait p r (W.Poll n)) ≡ true
    → s ≡ next_row p (r.row + 16) (bits r) → AnyLeads m rows (C.Wait p r (W.Poll n)) (Some (record { rows = rows; wipe = s }))
leads_poll m rows n p r s h e got = record { sane = h; step = ap (λ (x : Scrub). Ok (Some x)) (sym e); count = omega arith }

-- a step that programs nothing
pub leads_led : (m rows : ℕ) (s : Scrub) (got : List ℕ) (x : Progress Scrub) (o : Option Onward) → scrub_sound m rows s ≡ true → counted (scrub_ask s) true ≡ 0
    → x ≡ scrub_step s true got → o ≡ led_of rows x → Leads m rows s got o
leads_led m rows s got x o h z e eo = subst (Leads m rows s got) (sym eo) (leads_from m rows s got x h z (sym e))

moves_by : (f : Flat) (s : Scrub) (got : List ℕ) (o : Option Onward) → Fits f s → Leads f.mark f.rows s got o → Moves f got o
moves_by f s got (Some o) h l = record { from = s; fits = h; onto = l }
moves_by f s got None h l = tt

-- three bits are those of their number
bits_are : (b : ℕ) → b < 8 → b ≡ bit_of (eqb (b % 2) 1) + 2 * bit_of (eqb (b / 2 % 2) 1) + 4 * bit_of (eqb (b / 4 % 2) 1)
bits_are zero h = refl
bits_are (suc zero) h = refl
bits_are (suc (suc zero)) h = refl
bits_are (suc (suc (suc zero))) h = refl
bits_are (suc (suc (suc (suc zero)))) h = refl
bits_are (suc (suc (suc (suc (suc zero))))) h = refl
bits_are (suc (suc (suc (suc (suc (suc zero)))))) h = refl
bits_are (suc (suc (suc (suc (suc (suc (suc zero))))))) h = refl
bits_are (suc (suc (suc (suc (suc (suc (suc (suc b)))))))) h = absurd (omega arith)

row-place : (p : Place) → p.bits < 8 → p ≡ row_place (chunk_from p) (rows_from p)
row-place p h =
    let e = bits_are p.bits h in
    λ i. record { bits = e i; left = p.left; at = p.at; end = p.end; row = p.row }

still-code : (c : Code) (phase inner count : ℕ) → c.phase ≡ phase → c.inner ≡ inner → c.count ≡ count → c ≡ code_of phase inner c.which count
still-code c phase inner count a b d = λ i. record { phase = a i; inner = b i; which = c.which; count = d i }

pub bare-says : (c : Code) (p : Place) → bare c p ≡ true → (c.inner ≡ 0) × (c.count ≡ 0) × (p.bits ≡ 0) × (p.row ≡ 0)
bare-says c p e =
    let h3 = both _ (eqb p.row 0) e in
    let h2 = both _ (eqb p.bits 0) h3.0 in
    let h1 = both (eqb c.inner 0) (eqb c.count 0) h2.0 in
    (eqb-true c.inner 0 h1.0, eqb-true c.count 0 h1.1, eqb-true p.bits 0 h2.1, eqb-true p.row 0 h3.1)

chunk-place : (p : Place) → p.bits ≡ 0 → p.row ≡ 0 → p ≡ chunk_place (chunk_from p)
chunk-place p a b = λ i. record { bits = a i; left = p.left; at = p.at; end = p.end; row = b i }

read_fits : (f : Flat) → bare f.code f.place ≡ true → f.code.phase ≡ 1 → Fits f (C.Read (chunk_from f.place))
read_fits f e k =
    let h = bare-says f.code f.place e in
    record { code = still-code f.code 1 0 0 k h.0 h.1; place = chunk-place f.place h.2 h.3 }

reread-fits : (f : Flat) → bare f.code f.place ≡ true → f.code.phase ≡ 4 → Fits f (C.Reread (chunk_from f.place))
reread-fits f e k =
    let h = bare-says f.code f.place e in
    record { code = still-code f.code 4 0 0 k h.0 h.1; place = chunk-place f.place h.2 h.3 }

row_fits : (f : Flat) → f.place.bits < 8 → (eqb f.code.phase 2 && eqb f.code.inner 0 && eqb f.code.count 0) ≡ true
    → Fits f (C.Row (chunk_from f.place) (rows_from f.place))
row_fits f h e =
    let b = both _ (eqb f.code.count 0) e in
    let a = both (eqb f.code.phase 2) (eqb f.code.inner 0) b.0 in
    record {
      code = still-code f.code 2 0 0 (eqb-true f.code.phase 2 a.0) (eqb-true f.code.inner 0 a.1) (eqb-true f.code.count 0 b.1);
      place = row-place f.place h;
    }

poll-fits : (f : Flat) → f.place.bits < 8 → (eqb f.code.phase 3 && eqb f.code.inner 1) ≡ true
    → Fits f (C.Wait (chunk_from f.place) (rows_from f.place) (W.Poll f.code.count))
poll-fits f h e =
    let a = both (eqb f.code.phase 3) (eqb f.code.inner 1) e in
    record {
      code = still-code f.code 3 1 f.code.count (eqb-true f.code.phase 3 a.0) (eqb-true f.code.inner 1 a.1) refl;
      place = row-place f.place h;
    }

pub read_moves : (f : Flat) (q : Chunk) (got : List ℕ) (b : Bool) (o : Option Onward) → b ≡ bare f.code f.place → b ≡ true → f.code.phase ≡ 1
    → q ≡ chunk_from f.place → Leads f.mark f.rows (C.Read q) got o → Moves f got o
read_moves f q got b o eb h k e =
    moves_by f (C.Read q) got o (subst (λ (x : Chunk). Fits f (C.Read x)) (sym e) (read_fits f (sym eb ∙ h) k))

pub reread_moves : (f : Flat) (q : Chunk) (got : List ℕ) (b : Bool) (o : Option Onward) → b ≡ bare f.code f.place → b ≡ true → f.code.phase ≡ 4
    → q ≡ chunk_from f.place → Leads f.mark f.rows (C.Reread q) got o → Moves f got o
reread_moves f q got b o eb h k e =
    moves_by f (C.Reread q) got o (subst (λ (x : Chunk). Fits f (C.Reread x)) (sym e) (reread-fits f (sym eb ∙ h) k))

pub row_moves : (f : Flat) (q : Chunk) (r : Rows) (o : Option Onward) → f.place.bits < 8
    → (eqb f.code.phase 2 && eqb f.code.inner 0 && eqb f.code.count 0) ≡ true → q ≡ chunk_from f.place → r ≡ rows_from f.place
    → AnyLeads f.mark f.rows (C.Row q r) o → AnyMoves f o
row_moves f q r o h k eq er l got =
    let g : Fits f (C.Row q r) = subst (Fits f) (λ i. C.Row (sym eq i) (sym er i)) (row_fits f h k) in
    moves_by f (C.Row q r) got o g (l got)

pub poll_moves : (f : Flat) (q : Chunk) (r : Rows) (o : Option Onward) → f.place.bits < 8
    → (eqb f.code.phase 3 && eqb f.code.inner 1) ≡ true → q ≡ chunk_from f.place → r ≡ rows_from f.place
    → AnyLeads f.mark f.rows (C.Wait q r (W.Poll f.code.count)) o → AnyMoves f o
poll_moves f q r o h k eq er l got =
    let g : Fits f (C.Wait q r (W.Poll f.code.count)) = subst (Fits f) (λ i. C.Wait (sym eq i) (sym er i) (W.Poll f.code.count)) (poll-fits f h k) in
    moves_by f (C.Wait q r (W.Poll f.code.count)) got o g (l got)

-- Each program of nothing_left/specs/Slips on a part where it goes wrong.
use mathlib.Core.Path.{◌≡◌, refl, ap}
use mathlib.Core.Bool.{false}
use mathlib.Core.Logic.{⊎_elim}
use mathlib.Core.List.{List, [], ◌∷◌, ◌++◌}
use Prim.Native.Nat.{ℕ, suc}
use native.Mathlib.Omega.{arith}
use lib.ListN.{length, get_or, take, replicate, length-append, length-replicate}
use lib.Seq.{take_all}
use Rattle.slices.specs.Bytes.{splice}
use Rattle.scan.specs.Rows.{row_count, row_len}
use Rattle.scan.proofs.Highs.{reach_is}
use Rattle.protocol.specs.Mark.{Mark, Covers, none, whole, widened, found, is_none, wipe_end}
use Rattle.protocol.specs.Rf.{rf_off, rf_on}
use Rattle.protocol.specs.Scrub.{scrub}
use Rattle.protocol.specs.Call as call
use Rattle.protocol.specs.Calls.{go_live, closing}
use Rattle.protocol.proofs.Marks.{covers-none}
use Rattle.part.specs.Part.{Part}
use Rattle.part.specs.Orders.{order_of}
use Rattle.part.specs.Looks.{look_of}
use Rattle.part.specs.Power.{writes}
use Rattle.part.specs.declared.registers.Cycle.TheVariants.{Nothing}
use Rattle.part.proofs.General.{fresh}
use Rattle.nothing_left.specs.Programs.{Program}
use Rattle.nothing_left.specs.Slips.{refuses_everything, wipes_nothing, wipes_first_chunk, wipes_to_mark, prepare_skips, goes_live_late, finish_trusts, finish_asks_early, write_forgets, reads_early}
use Rattle.nothing_left.specs.Runs.{run_by}
use Rattle.nothing_left.specs.Sessions.{Phase, SessionBy, phone, next, Covered}
use Rattle.nothing_left.specs.Claims.{NothingLeft, CoveredOrReported, FinishLeavesNothing, ScrubExact}
use Rattle.nothing_left.proofs.Opened.{held, held_is, calm, eager, late, zeros, zeros-length, powered, skipping_begin, opened, begun}

-- a session whose part has a first byte that is neither covered nor reported
lost : {t : Program} {f : Phase} {m : Mark} {p : Part} → CoveredOrReported t → SessionBy t f m p
    → p.registers.reported ≡ false → (Covers m 0 → ⊥) → get_or p.memory 0 0 ≡ 1 → ⊥
unfolding Covered
lost {t} {f} {m} {p} claim s r n b =
    ⊎_elim (λ e. let z : ◌≡◌ {A = ℕ} 0 1 = cc in omega arith) (λ c. n (c 0 (λ e. omega arith))) (claim f m p s)

-- a session goes live, a phone writes, and `finish` leaves its byte
pub finish_trusts_lem : FinishLeavesNothing finish_trusts → ⊥
unfolding run_by go_live closing rf_off rf_on scrub wipe_end none order_of look_of splice
finish_trusts_lem claim =
    let o = begun finish_trusts refl in
    let s = phone (next o.session call.go_live refl calm) (writes 0 (1 ∷ [])) in
    let z : ◌≡◌ {A = ℕ} 1 0 = (claim _ _ _ s calm).empty.zero 0 in
    omega arith

-- a phone writes between the status and RF off
pub finish-asks_early : FinishLeavesNothing finish_asks_early → ⊥
unfolding run_by go_live closing rf_off rf_on scrub wipe_end none order_of look_of splice
finish-asks_early claim =
    let s = next (begun finish_asks_early refl).session call.go_live refl calm in
    let z : ◌≡◌ {A = ℕ} 1 0 = (claim _ _ _ s (late 1)).empty.zero 0 in
    omega arith

-- a phone writes as soon as RF is on; then its report is cleared
pub goes_live_late_lem : CoveredOrReported goes_live_late → ⊥
unfolding run_by rf_on order_of look_of splice none
goes_live_late_lem claim =
    let s = next (begun goes_live_late refl).session call.go_live refl eager in
    lost claim s refl (covers-none 0) refl

-- it answers 24
pub refuses_everything_lem : NothingLeft refuses_everything → ⊥
unfolding run_by
refuses_everything_lem claim =
    let e = (claim _ (powered refuses_everything 0x85 zeros zeros-length) calm).answer in
    let z : ◌≡◌ {A = ℕ} 0 1 = cc in omega arith

-- the byte that is there stays
pub wipes-nothing : NothingLeft wipes_nothing → ⊥
unfolding run_by rf_off is_none whole order_of look_of fresh
wipes-nothing claim =
    let M : List ℕ = 1 ∷ replicate 8191 0 in
    let z : ◌≡◌ {A = ℕ} 1 0 = (claim _ (powered wipes_nothing 0x85 M (ap suc (length-replicate {A = ℕ} 8191 0))) calm).empty.zero 0 in
    omega arith

-- the first byte after the first chunk stays
pub wipes-first-chunk : NothingLeft wipes_first_chunk → ⊥
unfolding run_by rf_off is_none whole wipe_end order_of look_of fresh
wipes-first-chunk claim =
    let M : List ℕ = replicate 64 0 ++ 1 ∷ replicate 8127 0 in
    let l : length M ≡ 8192 = simp length-append in
    let z : ◌≡◌ {A = ℕ} 1 0 = (claim _ (powered wipes_first_chunk 0x85 M l) calm).empty.zero 64 in
    omega arith

-- a byte is written with RF off, and the mark says that there is none
pub write_forgets_lem : CoveredOrReported write_forgets → ⊥
unfolding run_by row_count row_len order_of look_of splice none
write_forgets_lem claim =
    let s = next (begun write_forgets refl).session (call.write 0 (1 ∷ [])) refl calm in
    lost claim s refl (covers-none 0) refl

-- a phone writes, and the part reports nothing
pub prepare_skips_lem : CoveredOrReported prepare_skips → ⊥
unfolding run_by go_live rf_on order_of look_of splice none
prepare_skips_lem claim =
    let o = opened prepare_skips 0x88 zeros zeros-length (skipping_begin zeros zeros-length) in
    let s = phone (next o.session call.go_live refl calm) (writes 0 (1 ∷ [])) in
    lost claim s refl (covers-none 0) refl

-- the first byte is zero and the second is not; the wipe of the first leaves the second
pub wipes_to_mark_lem : ScrubExact wipes_to_mark → ⊥
unfolding run_by wipe_end none widened order_of look_of
wipes_to_mark_lem claim =
    let M : List ℕ = 0 ∷ 1 ∷ replicate 8190 0 in
    let p = held 0x85 4 false 0 Nothing M in
    let x = claim p (held_is 0x85 4 false M (ap suc (ap suc (length-replicate {A = ℕ} 8190 0)))) refl refl (widened none 0 1) calm in
    let z : ◌≡◌ {A = ℕ} 1 0 = x.below 1 (omega arith) in
    omega arith

-- a memory of zeros has nothing to cover
found_none : (bs : List ℕ) → ((i : ℕ) → get_or bs i 0 ≡ 0) → Covers (found bs) 0 → ⊥
unfolding Covers found
found_none bs z h = omega (arith, reach_is bs 0 (record { inside = omega arith; zeros = λ k a b. z k; last = λ n e. absurd (omega arith) }))

-- a phone writes behind the read; then its report is cleared
pub reads_early_lem : CoveredOrReported reads_early → ⊥
unfolding run_by go_live rf_on rf_off order_of look_of splice
reads_early_lem claim =
    let o = begun reads_early refl in
    let s = next (next o.session call.go_live refl calm) (call.read_whole 8192) refl (late 1) in
    let h : take 8192 o.memory ≡ o.memory = take_all 8192 o.memory (omega (arith, o.empty.size)) in
    let e : take 8192 (take 8192 o.memory) ≡ o.memory = rw h h in
    lost claim s refl (found_none (take 8192 (take 8192 o.memory)) (rw e o.empty.zero)) refl

-- RF off, the status read: `rf_wrote`, `read_whole` and `finish`; and RF on: `rf_on`, `go_live`.
use mathlib.Core.Path.{◌≡◌, refl, subst, sym}
use mathlib.Core.Bool.{Bool, true, false}
use mathlib.Core.Logic.{◌⊎◌, inl, inr}
use mathlib.Core.List.{List, [], ◌∷◌}
use Prim.Native.Nat.{ℕ, ◌+◌, ◌*◌, ◌/◌, ◌%◌, ◌<◌}
use native.Mathlib.Omega.{arith}
use lib.Dec.{eqb}
use lib.ListN.{length, take}
use lib.Seq.{take_all}
use borrow.Author.Tests.{eq-eqb}
use Rattle.slices.proofs.Cases.{pick_cases}
use Rattle.protocol.specs.Transfer.{place}
use Rattle.protocol.specs.Tag.{user_memory, user, rf_switch_on, rf_mngt_dyn, it_sts_dyn, wrote_bit}
use Rattle.protocol.specs.Mark.{Mark, none, whole, found, is_none}
use Rattle.protocol.specs.Proc.{Proc, mark, Res, ok, err, try, fine, when◌then◌else◌}
use Rattle.protocol.specs.Bus.{read}
use Rattle.protocol.specs.Rf.{rf_off, rf_on, rf_wrote}
use Rattle.protocol.specs.Setup.{prepare}
use Rattle.protocol.specs.Scrub.{scrub}
use Rattle.protocol.specs.Calls.{read_whole, begin, go_live, closing, finish}
use Rattle.protocol.specs.declared.answer.TagError.TheVariants.{NotTaken}
use Rattle.part.specs.Part.{Part, with_rf}
use Rattle.part.specs.Orders.{order_of}
use Rattle.part.specs.Looks.{look_of, bit}
use Rattle.part.specs.declared.order.Order.TheVariants as order
use Rattle.part.specs.declared.look.Look.TheVariants as look
use Rattle.nothing_left.specs.Sessions.{Covered}
use Rattle.nothing_left.proofs.Always.{Phone, quiet, wrote, Still, same, always, always_done, always_bind, always_mark}
use Rattle.nothing_left.proofs.Steps.{Stable, slept, phone_timeless, still_timeless, obeyed, write-taken, read_taken}
use Rattle.nothing_left.proofs.Worlds.{Off, off_stable, off_world, Ready, ready_world}
use Rattle.nothing_left.proofs.Wipes.{memory-look}
use Rattle.nothing_left.proofs.Chunks.{wipes}
use Rattle.nothing_left.proofs.Coverings.{covered_whole, covered_found, emptied}
use Rattle.nothing_left.proofs.Switches.{switched_off}
use Rattle.nothing_left.proofs.Begins.{Cleaned, cleaned_wipe}
use Rattle.nothing_left.proofs.Tames.{Settled}
use Rattle.nothing_left.proofs.Lifts.{told_wrote}
use Rattle.nothing_left.proofs.TameCalls.{tame_on}
use Rattle.nothing_left.proofs.InWorlds as world
use Rattle.nothing_left.proofs.Safe.{Safe, Kept, kept_safe, safe_scrub, live_keeps}

-- RF is off, and the report stands as it stood
record Saved (M : List ℕ) (b : Bool) (p : Part) : Type 0 where
  off : Off M p
  report : p.registers.reported ≡ b

saved_stable : (M : List ℕ) (b : Bool) → Stable Phone (Saved M b)
saved_stable M b = record { phone = kept; clock = λ p n i. record { off = (off_stable M).clock p n i.off; report = i.report } }
  where
    kept : (p q : Part) → Phone p q → Saved M b p → Saved M b q
    kept p q quiet i = i
    kept p q (wrote at bs h l) i = absurd (omega (arith, i.off.off))

-- what is kept, whatever the time
record Knows (m : Mark) (p : Part) : Type 0 where
  settled : Settled p
  known : (p.registers.reported ≡ true) ⊎ Covered m p.memory

knows_stable : (m : Mark) → Stable Phone (Knows m)
knows_stable m = record { phone = kept; clock = λ p n i. record { settled = slept_settled p n i.settled; known = i.known } }
  where
    kept : (p q : Part) → Phone p q → Knows m p → Knows m q
    kept p q quiet i = i
    kept p q (wrote at bs h l) i = let t = told_wrote p at bs l i.settled in record { settled = t.settled; known = inl t.report }

    slept_settled : (p : Part) (n : ℕ) → Settled p → Settled (slept n p)
    slept_settled p n i = record { intact = record { len = i.intact.len; named = i.intact.named }; set = record { cfg = i.set.cfg; gpo = i.set.gpo } }

-- RF goes off, and phones may write until it does
ends : (Q : Res Unit → Mark → List ℕ → Part → Type 0) (m μ : Mark) (R : List ℕ)
    → ((p : Part) (M : List ℕ) (b : Bool) → length M ≡ 8192 → (b ≡ true) ⊎ Covered m M → Saved M b p → p.registers.busy ≡ 0 → Q (ok tt) μ R p)
    → (p : Part) → Kept m p → always Phone rf_off Q μ R p
ends Q m μ R post p k =
    switched_off Phone phone_timeless (Knows m) (knows_stable m) (λ q j. j.settled.set.cfg)
    (λ q. Saved q.memory q.registers.reported) (λ q. saved_stable q.memory q.registers.reported)
    (λ q c j. record {
      off = record { off = omega arith; top = omega arith; cfg = j.settled.set.cfg; gpo = j.settled.set.gpo; named = j.settled.intact.named; memory = refl };
      report = refl;
    })
    (λ q x s. record { off = s.off.off; top = s.off.top })
    Q μ R (λ q j x s u. post x q.memory q.registers.reported j.settled.intact.len j.known s u)
    p (record { settled = k.settled; known = k.known }) k.idle

-- the status says what was reported, and is cleared
asks : (Q : Bool → Mark → List ℕ → Part → Type 0) (μ : Mark) (R M : List ℕ) (b : Bool)
    → ((p : Part) → Off M p → p.registers.busy ≡ 0 → Q b μ R p)
    → (p : Part) → Saved M b p → p.registers.busy ≡ 0 → always Phone rf_wrote Q μ R p
unfolding look_of
asks Q μ R M b post p i z =
    read_taken Phone phone_timeless (Saved M b) (saved_stable M b) _ Q μ R user (place it_sts_dyn) 1 look.Status refl refl
    (λ q j y.
    let o = j.off in
    let e : wrote_bit (bit q.registers.reported 0x80) ≡ b = rw j.report (told b) in
    rw e (always_done Phone b Q μ R _
    (post _ (record { off = o.off; top = o.top; cfg = o.cfg; gpo = o.gpo; named = o.named; memory = o.memory }) y)))
    p i z
  where
    told : (b : Bool) → wrote_bit (bit b 0x80) ≡ b
    told true = refl
    told false = refl

-- the wipe of `finish`
closes : (m μ : Mark) (R M : List ℕ) → length M ≡ 8192 → Covered m M → (p : Part) → Off M p → p.registers.busy ≡ 0
    → always Phone (closing m (ok tt)) (λ a n S x. Cleaned (ok tt) a n x) μ R p
unfolding closing
closes m μ R M l c p o z =
    always_bind Phone (scrub m) _ _ μ R p
    (wipes Phone Off off_world.room _ m μ R M l
    (λ x N k w u. always_done Phone (ok tt) _ none _ x (cleaned_wipe m x N k (emptied m M N l c w) u)) p o z)

pub finishes : (m : Mark) (R : List ℕ) (p : Part) → Kept m p → always Phone (finish m) (λ a n S x. Cleaned (ok tt) a n x) m R p
unfolding finish
finishes m R p k =
    always_bind Phone rf_off _ _ m R p
    (ends _ m m R (λ q M b l c s y.
    always_bind Phone rf_wrote (λ wrote. when wrote then mark whole (closing whole (ok tt)) else closing m (ok tt)) (λ a n S x. Cleaned (ok tt) a n x) m R q
    (asks _ m R M b (λ x o u. go b M l c x o u) q s y)) p k)
  where
    go : (b : Bool) (M : List ℕ) → length M ≡ 8192 → (b ≡ true) ⊎ Covered m M → (x : Part) → Off M x → x.registers.busy ≡ 0
        → always Phone (when b then mark whole (closing whole (ok tt)) else closing m (ok tt)) (λ a n S x. Cleaned (ok tt) a n x) m R x
    go true M l c x o u = always_mark Phone whole (closing whole (ok tt)) _ m R x (closes whole whole R M l (covered_whole M l) x o u)
    go false M l (inl e) x o u = absurd (let z : ◌≡◌ {A = ℕ} 0 1 = cc in omega arith)
    go false M l (inr c) x o u = closes m m R M l c x o u

-- how `read_whole` ends: Ok with RF off and the mark at what was found; or refused, before any transfer
pub data Looked (I : Mark → Part → Type 0) : Res Unit → Mark → Part → Type 0 where
  whole-read : {n : Mark} {x : Part} → Safe Off n x → Looked I (ok tt) n x
  refused : {n : Mark} {x : Part} → I n x → Looked I (err NotTaken) n x

pub looks : (I : Mark → Part → Type 0) (m : Mark) (n : ℕ) (R : List ℕ) (p : Part) → Kept m p → I m p → always Phone (read_whole m n) (λ a k S x. Looked I a k x) m R p
unfolding read_whole
looks I m n R p k i =
    pick_cases (λ (q : Proc (Res Unit)). always Phone q (λ a k S x. Looked I a k x) m R p) (eqb n user_memory)
    (λ _.
    always_bind Phone rf_off _ _ m R p
    (ends _ m m R (λ q M b l c s y.
    always_bind Phone rf_wrote (λ _. try (read user 0 user_memory) (λ out. mark (found out) fine)) (λ a k S x. Looked I a k x) m R q
    (asks _ m R M b (λ x o u.
    read_taken Phone phone_timeless (Off M) (off_stable M) _ _ m R user (place 0) user_memory (look.Memory 0) (memory-look 0 user_memory (omega arith)) refl
    (λ x₁ o₁ u₁.
    let e : take 8192 (take 8192 x₁.memory) ≡ M = rw o₁.memory (rw (take_all 8192 M (omega arith)) (take_all 8192 M (omega arith))) in
    always_mark Phone _ fine _ m R x₁ (always_done Phone (ok tt) _ _ R x₁
    (whole-read (record { memory = M; here = o₁; len = l; covered = subst (λ (B : List ℕ). Covered (found B) M) (sym e) (covered_found M); idle = u₁ }))))
    x o u) q s y)) p k))
    (λ _. always_done Phone (err NotTaken) _ m R p (refused i))

-- `rf_wrote` while RF is off
pub asks_safely : (m : Mark) (R : List ℕ) (p : Part) → Safe Off m p → always Phone rf_wrote (λ a n S x. Safe Off n x) m R p
asks_safely m R p s =
    asks (λ a n S x. Safe Off n x) m R s.memory p.registers.reported
    (λ x o u. record { memory = s.memory; here = o; len = s.len; covered = s.covered; idle = u })
    p (record { off = s.here; report = refl }) s.idle

-- `begin` while RF is off
pub begins_safely : (m : Mark) (R : List ℕ) (p : Part) → Safe Off m p → always Phone (begin m) (λ a n S x. Safe Off n x) m R p
unfolding begin
begins_safely m R p s =
    always_bind Phone prepare _ _ m R p
    (world.prepares Phone Off off_world _ m R s.memory (λ q o y.
    always_bind Phone rf_off _ _ m R q
    (world.off Phone Off off_world _ m R s.memory (λ x k u.
    pick_cases (λ (b : Proc (Res Unit)). always Phone b (λ a n S y. Safe Off n y) m R x) (is_none m)
    (λ _. always_done Phone (ok tt) _ m R x (safe x k u))
    (λ _. safe_scrub Phone Off off_world m R x (safe x k u))) q o y)) p s.here s.idle)
  where
    safe : (x : Part) → Off s.memory x → x.registers.busy ≡ 0 → Safe Off m x
    safe x k u = record { memory = s.memory; here = k; len = s.len; covered = s.covered; idle = u }

-- RF on, without phones
record Low (M : List ℕ) (top : ℕ) (p : Part) : Type 0 where
  ready : Ready M p
  low : p.registers.rf < top

low_stable : (M : List ℕ) (top : ℕ) → Stable Still (Low M top)
low_stable M top = record { phone = kept; clock = λ p b i. record { ready = (ready_world.room.stable M).clock p b i.ready; low = i.low } }
  where
    kept : (p q : Part) → Still p q → Low M top p → Low M top q
    kept p q same i = i

on_still : (Q : Res Unit → Mark → List ℕ → Part → Type 0) (m : Mark) (R M : List ℕ)
    → ((p : Part) → Ready M p → p.registers.rf ≡ 0 → p.registers.busy ≡ 0 → Q (ok tt) m R p)
    → (p : Part) → Ready M p → p.registers.busy ≡ 0 → always Still rf_on Q m R p
unfolding rf_on order_of look_of
on_still Q m R M post p i z =
    write-taken Still still_timeless (Ready M) (ready_world.room.stable M) _ Q m R rf_switch_on [] [] order.SwitchOn 0 [] R refl refl refl refl (λ q j. rw j.cfg)
    (λ q j y c.
    write-taken Still still_timeless (Low M 4) (low_stable M 4) _ Q m R user (place rf_mngt_dyn) (0 ∷ []) (order.Dynamic 0) 1 (0 ∷ []) R refl refl refl refl (λ _ _. refl)
    (λ q₁ j₁ y₁ c₁.
    read_taken Still still_timeless (Low M 1) (low_stable M 1) _ Q m R user (place rf_mngt_dyn) 1 look.Dynamic refl refl
    (λ x k u.
    let e : x.registers.rf ≡ 0 = omega (arith, k.low) in
    rw (eq-eqb x.registers.rf 0 e) (always_done Still (ok tt) Q m R x (post x k.ready e u)))
    (obeyed (order.Dynamic 0) 1 (0 ∷ []) c₁ q₁)
    (record { ready = again q₁ (q₁.registers.rf / 4 * 4 + 0 % 4) j₁.ready; low = omega (arith, j₁.low) }) y₁)
    (obeyed order.SwitchOn 0 [] c q) (record { ready = again q (q.registers.rf % 4) j; low = omega arith }) y)
    p i z
  where
    again : (q : Part) (v : ℕ) → Ready M q → Ready M (record { identity = q.identity; memory = q.memory; registers = with_rf v q.registers })
    again q v j = record { cfg = j.cfg; gpo = j.gpo; named = j.named; memory = j.memory }

pub goes_on : (m : Mark) (R : List ℕ) (p : Part) → Kept m p → always Phone rf_on (λ a n S x. Kept n x) m R p
goes_on m R p k =
    live_keeps rf_on tame_on m R
    (λ q s. on_still (λ a n S x. Safe Ready n x) m R s.memory (λ x i e u. record { memory = s.memory; here = i; len = s.len; covered = s.covered; idle = u }) q s.here s.idle)
    p k

-- `go_live` while RF is off: nothing is reported that could be lost
pub goes_live : (m : Mark) (R : List ℕ) (p : Part) → Safe Off m p → always Phone go_live (λ a n S x. Kept n x) m R p
unfolding go_live
goes_live m R p s =
    always_bind Phone rf_wrote (λ _. rf_on) (λ a n S x. Kept n x) m R p
    (asks _ m R s.memory p.registers.reported
    (λ x o u. goes_on m R x (kept_safe m x (record { memory = s.memory; here = o; len = s.len; covered = s.covered; idle = u })))
    p (record { off = s.here; report = refl }) s.idle)

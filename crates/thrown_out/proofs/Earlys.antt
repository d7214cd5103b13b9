-- `begin` that wipes while RF is on: a phone writes behind the wipe.
--
--   empty, start         == a memory of zeros; a part with it, RF on
--   written, touched     == both once the phone has written its byte
use mathlib.Core.Path.{◌≡◌, refl, ap, subst, sym, ◌∙◌}
use mathlib.Core.Bool.{Bool, true, false}
use mathlib.Core.List.{List, ◌∷◌}
use Prim.Native.Nat.{ℕ, zero, suc, ◌+◌, ◌-◌, ◌*◌, ◌≤◌, ◌<◌, min}
use native.Mathlib.Omega.{arith}
use lib.ListN.{length, get_or, take, drop, replicate, length-replicate, get_or-replicate}
use lib.Seq.{ext_get_or}
use Rattle.std.specs.Prelude.{Result}
use Rattle.slices.specs.Bytes.{splice}
use Rattle.protocol.specs.Mark.{none, whole, is_none, wipe_end}
use Rattle.protocol.specs.Transfer.{Transfer, write_read, Reply, place}
use Rattle.protocol.specs.Tag.{user}
use Rattle.protocol.specs.Proc.{Proc, done, ask, mark, ◌>>=◌, Res, ok, or_else, try, fine, refuse, when◌then◌else◌}
use Rattle.protocol.specs.Rf.{rf_off}
use Rattle.protocol.specs.Write.{chunks}
use Rattle.protocol.specs.Scrub.{dirty_rows, some, program_rows, reread, scrub_chunk, scrub_to, scrub}
use Rattle.protocol.specs.Calls.{plain}
use Rattle.protocol.specs.declared.answer.TagError.TheVariants.{NoAnswer}
use Rattle.protocol.specs.declared.answer.TagError.{TagError}
use Rattle.protocol.specs.declared.answer.Answer.{Answer}
use Rattle.part.specs.Part.{Part}
use Rattle.part.specs.Bus.{reply_of, after_of}
use Rattle.part.specs.Orders.{order_of}
use Rattle.part.specs.Looks.{look_of}
use Rattle.part.specs.Power.{visited}
use Rattle.part.specs.declared.registers.Cycle.TheVariants.{Nothing}
use Rattle.part.proofs.General.{fresh}
use Rattle.nothing_left.specs.Slips.{begin_early}
use Rattle.nothing_left.specs.Runs.{Moments, onwards, part_of, run_by}
use Rattle.nothing_left.specs.Claims.{NothingLeft}
use Rattle.nothing_left.proofs.Steps.{yes}
use Rattle.nothing_left.proofs.Wipes.{memory-look}
use Rattle.nothing_left.proofs.Chunks.{copy_read}
use Rattle.nothing_left.proofs.Opened.{held, eager, late, powered}

abbrev empty : List ℕ
empty = 0 ∷ replicate 8191 0

abbrev written : List ℕ
written = 1 ∷ replicate 8191 0

abbrev start : Part
start = held 0x85 0 false 0 Nothing empty

abbrev touched : Part
touched = held 0x85 0 true 0 Nothing written

empty-length : length empty ≡ 8192
empty-length = ap suc (length-replicate {A = ℕ} 8191 0)

written-length : length written ≡ 8192
written-length = ap suc (length-replicate {A = ℕ} 8191 0)

behind : (i : ℕ) → 0 < i → i < 8192 → get_or written i 0 ≡ 0
behind zero h l = absurd (omega arith)
behind (suc i) h l = get_or-replicate 8191 i 0 0 (omega arith)

nowhere : (i : ℕ) → i < 8192 → get_or empty i 0 ≡ 0
nowhere zero l = refl
nowhere (suc i) l = get_or-replicate 8191 i 0 0 (omega arith)

whole-end : wipe_end whole ≡ 8192
unfolding wipe_end whole
whole-end = refl

-- a chunk of zeros
zero-chunk : (at : ℕ) (M : List ℕ) → length M ≡ 8192 → at + 64 ≤ 8192 → ((i : ℕ) → at ≤ i → i < 8192 → get_or M i 0 ≡ 0)
    → take 64 (take 64 (drop at M)) ≡ replicate 64 0
zero-chunk at M l h z =
    let c = copy_read at 64 M (omega arith) in
    ext_get_or 0 (take 64 (take 64 (drop at M))) (replicate 64 0) c.len (λ i g.
    let k : i < 64 = let l = c.len in omega arith in
    c.same i k ∙ z (at + i) (omega arith) (omega arith) ∙ sym (get_or-replicate 64 i 0 0 k))

-- a transfer, after what a phone did
asked : {A : Type 0} (t : Transfer) (k : Reply → Proc A) (p q : Part) (w : Moments) → visited (w 0).phone p ≡ q
    → part_of (ask t k) p w ≡ part_of (k (reply_of t q)) (after_of t (w 0).cycle q) (onwards w)
asked t k p q w e = ap (λ (x : Part). part_of (k (reply_of t x)) (after_of t (w 0).cycle x) (onwards w)) e

-- a chunk is read
chunk_read : {A : Type 0} (k : Reply → Proc A) (at c : ℕ) (b : Bool) (M : List ℕ) (w : Moments) → at + 64 ≤ 8192
    → let t = write_read user (place at) 64 in
    let p = held 0x85 0 b 0 Nothing M in
    part_of (k (reply_of t p)) (after_of t c p) w ≡ part_of (k (yes (take 64 (drop at M)))) p w
chunk_read k at c b M w l = rw (memory-look at 64 l)

-- and where it is zero, the wipe goes on to the next
module _ (f g : Res Unit → Proc (Res Unit)) (h : Res Unit → Proc (Result Answer TagError)) where
  past-chunk : (left at end : ℕ) (b : Bool) (M : List ℕ) (p : Part) (w : Moments) → visited (w 0).phone p ≡ held 0x85 0 b 0 Nothing M
      → at + 64 ≤ end → end ≤ 8192 → length M ≡ 8192 → ((i : ℕ) → at ≤ i → i < 8192 → get_or M i 0 ≡ 0)
      → part_of (scrub_to (suc left) at end >>= f >>= g >>= h) p w
      ≡ part_of (scrub_to left (at + 64) end >>= f >>= g >>= h) (held 0x85 0 b 0 Nothing M) (onwards w)
  past-chunk left at end b M p w e l m n z =
      let c : min 64 (end - at) ≡ 64 = omega arith in
      ap (λ (j : ℕ). part_of (try (scrub_chunk at j) (λ _. scrub_to left (at + 64) end) >>= f >>= g >>= h) p w) c
      ∙ asked (write_read user (place at) 64) answered p (held 0x85 0 b 0 Nothing M) w e
      ∙ chunk_read answered at (w 0).cycle b M (onwards w) (omega arith)
      ∙ ap (λ (x : List ℕ). part_of (try (scrubbed x) (λ _. scrub_to left (at + 64) end) >>= f >>= g >>= h) (held 0x85 0 b 0 Nothing M) (onwards w))
      (zero-chunk at M n (omega arith) z)
    where
      scrubbed : List ℕ → Proc (Res Unit)
      scrubbed x = try (program_rows at (dirty_rows 4 x)) (λ _. when some (dirty_rows 4 x) then reread at 64 else fine)

      answered : Reply → Proc (Result Answer TagError)
      answered r =
          try (try (when r.ack then done (ok (take 64 r.got)) else refuse NoAnswer) scrubbed) (λ _. scrub_to left (at + 64) end) >>= f >>= g >>= h

  -- the phone's byte stands in front of the chunks that are left
  passes : (left i end : ℕ) → end ≡ 64 * (suc i + left) → end ≤ 8192
      → part_of (scrub_to left (64 * suc i) end >>= f >>= g >>= h) touched eager ≡ part_of (f (ok tt) >>= g >>= h) touched eager
  unfolding splice
  passes zero i end e l = refl
  passes (suc left) i end e l =
      let n : 64 * suc i + 64 ≡ 64 * suc (suc i) = omega arith in
      past-chunk left (64 * suc i) end true written touched eager refl (omega arith) l written-length (λ j a b. behind j (omega arith) b)
      ∙ ap (λ (at : ℕ). part_of (scrub_to left at end >>= f >>= g >>= h) touched eager) n
      ∙ passes left (suc i) end (omega arith) l

  -- it writes behind the first chunk
  wipe_passed : (left end : ℕ) → end ≡ 64 * suc (suc left) → end ≤ 8192
      → part_of (scrub_to (suc (suc left)) 0 end >>= f >>= g >>= h) start (late 1) ≡ part_of (f (ok tt) >>= g >>= h) touched eager
  unfolding splice
  wipe_passed left end e l =
      past-chunk (suc left) 0 end false empty start (late 1) refl (omega arith) l empty-length (λ j a b. nowhere j b)
      ∙ past-chunk left 64 end true written start eager refl (omega arith) l written-length (λ j a b. behind j (omega arith) b)
      ∙ passes left 1 end (omega arith) l

-- the wipe of the whole part
module _ (g : Res Unit → Proc (Res Unit)) (h : Res Unit → Proc (Result Answer TagError)) where
  scrub-passed : part_of (scrub whole >>= g >>= h) start (late 1) ≡ part_of (g (ok tt) >>= h) touched eager
  unfolding scrub
  scrub-passed =
      let n = whole-end in
      let c : chunks (wipe_end whole) ≡ suc (suc 126) = omega arith in
      ap (λ (k : ℕ). part_of (scrub_to k 0 (wipe_end whole) >>= or_else (λ _. mark none fine) >>= g >>= h) start (late 1)) c
      ∙ wipe_passed (or_else (λ _. mark none fine)) g h 126 (wipe_end whole) (omega arith) (omega arith)

-- `begin` says that nothing is left, and the phone's byte is
pub begin_early_lem : NothingLeft begin_early → ⊥
unfolding run_by rf_off is_none whole order_of look_of fresh splice
begin_early_lem claim =
    let z : get_or (part_of (scrub whole >>= or_else (λ _. rf_off) >>= (λ r. done (plain r))) start (late 1)).memory 0 0 ≡ 0 =
    (claim start (powered begin_early 0x85 empty empty-length) (late 4)).empty.zero 0 in
    let y : ◌≡◌ {A = ℕ} 1 0 = subst (λ (x : Part). get_or x.memory 0 0 ≡ 0) (scrub-passed (or_else (λ _. rf_off)) (λ r. done (plain r))) z in
    omega arith

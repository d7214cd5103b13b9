-- The calls that switch nothing on, in a world where the memory is known and the part is set up.
use mathlib.Core.Path.{◌≡◌, refl, ap, ◌∙◌}
use mathlib.Core.Bool.{Bool, true}
use mathlib.Core.List.{List, ◌∷◌}
use Prim.Native.Nat.{ℕ, zero, suc, ◌+◌, ◌*◌, ◌≤◌, ◌<◌, min}
use native.Mathlib.Omega.{arith}
use lib.ListN.{length, take, drop, length-drop}
use lib.Seq.{length-take-le}
use borrow.Author.Tests.{ltb-false}
use Rattle.slices.specs.Bytes.{splice}
use Rattle.slices.proofs.Cases.{pick_cases}
use Rattle.scan.specs.Rows.{row_len, row_count}
use Rattle.scan.proofs.Cutting.{row-some, row_most, row_room, count_none, count-more}
use Rattle.protocol.specs.Transfer.{place}
use Rattle.protocol.specs.Tag.{user, system, gpo1, i2c_cfg, mem_size, id_length, ready_polls, chunk}
use Rattle.protocol.specs.Mark.{Mark, widened}
use Rattle.protocol.specs.Proc.{Proc, Res, ok, err, or_else}
use Rattle.protocol.specs.Wait.{wait_ready}
use Rattle.protocol.specs.Rf.{rf_off}
use Rattle.protocol.specs.Setup.{identify, is_set_up, reports, set_up, reporting, prepare}
use Rattle.protocol.specs.Write.{program_row, program, read_back, chunks, past, read_user, write_user}
use Rattle.protocol.specs.declared.answer.TagError.TheVariants.{NotTaken}
use Rattle.part.specs.Part.{Part}
use Rattle.part.specs.Looks.{look_of}
use Rattle.part.specs.declared.look.Look.TheVariants as look
use Rattle.nothing_left.proofs.Always.{always, always_done, always_bind, always_mark}
use Rattle.nothing_left.proofs.Steps.{Stable, wait_ready_lem, read_taken}
use Rattle.nothing_left.proofs.Memories.{Changed, changed_none, changed_on, changed_splice}
use Rattle.nothing_left.proofs.Worlds.{World}
use Rattle.nothing_left.proofs.Wipes.{memory-look, program-row}
use Rattle.nothing_left.proofs.Switches.{Silent, switched_off}

-- what is in the world, with RF silent
record Hushed (F : List ℕ → Part → Type 0) (M : List ℕ) (p : Part) : Type 0 where
  here : F M p
  silent : Silent p

module _ (Ph : Part → Part → Type 0) (F : List ℕ → Part → Type 0) (W : World Ph F) where
  module _ (Q : Res Unit → Mark → List ℕ → Part → Type 0) (m : Mark) (R M : List ℕ)
      (post : (p : Part) → F M p → p.registers.busy ≡ 0 → Q (ok tt) m R p) where
    pub waits : (p : Part) → F M p → p.registers.busy ≡ 0 → always Ph (wait_ready ready_polls) Q m R p
    waits p i z = wait_ready_lem Ph W.room.timeless (F M) (W.room.stable M) Q m R post ready_polls p i (omega arith)

    pub identifies : (p : Part) → F M p → p.registers.busy ≡ 0 → always Ph identify Q m R p
    unfolding look_of
    identifies p i z =
        read_taken Ph W.room.timeless (F M) (W.room.stable M) _ Q m R system (place mem_size) id_length look.Identity refl refl
        (λ q j y. rw (W.ready M q j).named (always_done Ph (ok tt) Q m R q (post q j y))) p i z

    reported : (p : Part) → F M p → p.registers.busy ≡ 0 → always Ph reporting Q m R p
    unfolding look_of
    reported p i z =
        read_taken Ph W.room.timeless (F M) (W.room.stable M) _ Q m R system (place gpo1) 1 (look.Byte gpo1) refl refl
        (λ q j y.
        let e : reports q.registers.gpo1 ≡ true = rw (W.ready M q j).gpo in
        rw e (always_done Ph (ok tt) Q m R q (post q j y))) p i z

    set-up : (p : Part) → F M p → p.registers.busy ≡ 0
        → always Ph (set_up p.registers.cfg) (λ a n S x. always Ph (or_else (λ _. reporting) a) Q n S x) m R p
    set-up p i z =
        let e : is_set_up p.registers.cfg ≡ true = rw (W.ready M p i).cfg in
        rw e (always_done Ph (ok tt) (λ a n S x. always Ph (or_else (λ _. reporting) a) Q n S x) m R p (reported p i z))

    pub off : (p : Part) → F M p → p.registers.busy ≡ 0 → always Ph rf_off Q m R p
    off p i z =
        switched_off Ph W.room.timeless (F M) (W.room.stable M) (λ q j. (W.ready M q j).cfg)
        (λ _. Hushed F M) (λ _. hushed_stable) (λ q c j. record { here = W.silence M c q j; silent = record { off = omega arith; top = omega arith } })
        (λ q x k. k.silent) Q m R (λ q j x k u. post x k.here u) p i z
      where
        hushed_stable : Stable Ph (Hushed F M)
        hushed_stable = record {
          phone = λ p q ph h.
              let e = W.steady p q ph in
              let s = h.silent in
              record { here = (W.room.stable M).phone p q ph h.here; silent = record { off = omega (arith, s.off); top = omega (arith, s.top) } };
          clock = λ p b h. record { here = (W.room.stable M).clock p b h.here; silent = record { off = h.silent.off; top = h.silent.top } };
        }

  module _ (Q : Res Unit → Mark → List ℕ → Part → Type 0) (m : Mark) (R M : List ℕ)
      (post : (p : Part) → F M p → p.registers.busy ≡ 0 → Q (ok tt) m R p) where
    pub prepares : (p : Part) → F M p → p.registers.busy ≡ 0 → always Ph prepare Q m R p
    unfolding look_of
    prepares p i z =
        always_bind Ph identify _ Q m R p
        (identifies _ m R M (λ q j y.
        read_taken Ph W.room.timeless (F M) (W.room.stable M) _ Q m R system (place i2c_cfg) 1 (look.Byte i2c_cfg) refl refl
        (λ x k u. always_bind Ph (set_up x.registers.cfg) _ Q m R x (set-up Q m R M post x k u)) q j y) p i z)

  module _ (Q : Res Unit → Mark → List ℕ → Part → Type 0) (m : Mark) (R : List ℕ) where
    pub reads : (M : List ℕ) (at n : ℕ) → ((a : Res Unit) (p : Part) → F M p → p.registers.busy ≡ 0 → Q a m R p)
        → (p : Part) → F M p → p.registers.busy ≡ 0 → always Ph (read_user at n) Q m R p
    unfolding read_user
    reads M at n post p i z =
        pick_cases (λ (q : Proc (Res Unit)). always Ph q Q m R p) (past at n)
        (λ _. always_done Ph (err NotTaken) Q m R p (post (err NotTaken) p i z))
        (λ e. read_taken Ph W.room.timeless (F M) (W.room.stable M) _ Q m R user (place at) n (look.Memory at) (memory-look at n (ltb-false 8192 (at + n) e)) refl
        (λ q j y. always_done Ph (ok tt) Q m R q (post (ok tt) q j y)) p i z)

    back : (M : List ℕ) → ((a : Res Unit) (p : Part) → F M p → p.registers.busy ≡ 0 → Q a m R p)
        → (left at : ℕ) (bs : List ℕ) (same : Bool) → 64 * left < length bs + 64 → (0 < left → at + length bs ≤ 8192)
        → (p : Part) → F M p → p.registers.busy ≡ 0 → always Ph (read_back left at bs same) Q m R p
    back M post zero at bs same h f p i z =
        pick_cases (λ (q : Proc (Res Unit)). always Ph q Q m R p) same
        (λ _. always_done Ph (ok tt) Q m R p (post (ok tt) p i z)) (λ _. always_done Ph (err NotTaken) Q m R p (post (err NotTaken) p i z))
    back M post (suc left) at bs same h f p i z =
        let g : at + length bs ≤ 8192 = f (omega arith) in
        let l = length-drop 64 bs in
        read_taken Ph W.room.timeless (F M) (W.room.stable M) _ Q m R user (place at) (min chunk (length bs)) (look.Memory at) (memory-look at (min chunk (length bs)) (omega arith)) refl
        (λ q j y. back M post left (at + 64) (drop 64 bs) _ (omega arith) (λ more. omega arith) q j y) p i z

  -- the rows of `write`: only the bytes that it is given change
  programs : (left : ℕ) (Q : Res Unit → Mark → List ℕ → Part → Type 0) (m : Mark) (R M : List ℕ) (at : ℕ) (bs : List ℕ)
      → row_count at (length bs) ≡ left → at + length bs ≤ 8192 → length M ≡ 8192
      → ((p : Part) (N S : List ℕ) → F N p → Changed at (at + length bs) M N → p.registers.busy ≡ 0 → Q (ok tt) m S p)
      → (p : Part) → F M p → p.registers.busy ≡ 0 → always Ph (program left at bs) Q m R p
  programs zero Q m R M at bs e h l post p i z =
      always_done Ph (ok tt) Q m R p (post p M R i (changed_none at (at + length bs) M) z)
  programs (suc left) Q m R M at bs e h l post p i z =
      let s : 0 < length bs = some (length bs) refl in
      let r = row_most at (length bs) in
      let t : length (take (row_len at (length bs)) bs) ≡ row_len at (length bs) = length-take-le (row_len at (length bs)) bs r.0 in
      let d = length-drop (row_len at (length bs)) bs in
      let k = row-some at (length bs) s in
      always_bind Ph (program_row at (take (row_len at (length bs)) bs)) _ Q m R p
      (program-row Ph F W.room _ m R M at (take (row_len at (length bs)) bs) (omega arith) (omega arith) (omega (arith, row_room at (length bs)))
      (λ q j y.
      let c = changed_splice M at (take (row_len at (length bs)) bs) (omega (arith, r.0)) in
      programs left Q m (at ∷ R) (splice M at (take (row_len at (length bs)) bs)) (at + row_len at (length bs)) (drop (row_len at (length bs)) bs)
      (let u = count-more at (length bs) s in ap (row_count (at + row_len at (length bs))) d ∙ (omega arith)) (omega (arith, r.0)) (c.len ∙ l)
      (λ x N S g v u. post x N S g (joined c v) u) q j y) p i z)
    where
      some : (n : ℕ) → length bs ≡ n → 0 < length bs
      some zero q = absurd (let u : row_count at (length bs) ≡ 0 = rw q (count_none at) in omega arith)
      some (suc n) q = omega arith

      joined : {N : List ℕ} → Changed at (at + length (take (row_len at (length bs)) bs)) M (splice M at (take (row_len at (length bs)) bs))
          → Changed (at + row_len at (length bs)) (at + row_len at (length bs) + length (drop (row_len at (length bs)) bs)) (splice M at (take (row_len at (length bs)) bs)) N
          → Changed at (at + length bs) M N
      joined c v =
          let r = row_most at (length bs) in
          let t : length (take (row_len at (length bs)) bs) ≡ row_len at (length bs) = length-take-le (row_len at (length bs)) bs r.0 in
          let f : at + row_len at (length bs) + length (drop (row_len at (length bs)) bs) ≡ at + length bs = omega (arith, r.0, length-drop (row_len at (length bs)) bs) in
          changed_on (omega arith) (omega (arith, r.0)) (rw t at c) (rw f at v)

  pub writes : (Q : Res Unit → Mark → List ℕ → Part → Type 0) (m μ : Mark) (R M : List ℕ) (at : ℕ) (bs : List ℕ) → length M ≡ 8192
      → ((p : Part) → F M p → p.registers.busy ≡ 0 → Q (err NotTaken) μ R p)
      → (at + length bs ≤ 8192 → (a : Res Unit) (p : Part) (N S : List ℕ) → F N p → Changed at (at + length bs) M N → p.registers.busy ≡ 0 → Q a (widened m at (at + length bs)) S p)
      → (p : Part) → F M p → p.registers.busy ≡ 0 → always Ph (write_user m at bs) Q μ R p
  unfolding write_user
  writes Q m μ R M at bs l refused post p i z =
      pick_cases (λ (q : Proc (Res Unit)). always Ph q Q μ R p) (past at (length bs))
      (λ _. always_done Ph (err NotTaken) Q μ R p (refused p i z))
      (λ e. let h = ltb-false 8192 (at + length bs) e in
      always_mark Ph (widened m at (at + length bs)) _ Q μ R p
      (always_bind Ph (program (row_count at (length bs)) at bs) _ Q (widened m at (at + length bs)) R p
      (programs (row_count at (length bs)) _ (widened m at (at + length bs)) R M at bs refl h l
      (λ q N S j c y. back Q (widened m at (at + length bs)) S N (λ a x k u. post h a x N S k c u) (chunks (length bs)) at bs true (omega arith) (λ _. h) q j y) p i z)))

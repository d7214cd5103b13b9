-- A chunk of the wipe, and the wipe, in a world where the memory is known.
use mathlib.Core.Path.{◌≡◌, refl, ap, ap₂, subst, sym, ◌∙◌}
use mathlib.Core.Bool.{Bool, true, false, not}
use mathlib.Core.Logic.{◌⊎◌, inl, inr}
use mathlib.Core.List.{List, [], ◌∷◌, ◌++◌}
use Prim.Native.Nat.{ℕ, zero, suc, ◌+◌, ◌-◌, ◌*◌, ◌/◌, ◌%◌, ◌≤◌, ◌<◌, min}
use native.Mathlib.Omega.{arith}
use lib.ListN.{length, get_or, take, drop, length-take, length-drop}
use lib.Seq.{get_or-take, get_or-drop, ext_get_or}
use Rattle.slices.specs.Pick.{pick}
use Rattle.slices.specs.Bytes.{splice}
use Rattle.slices.proofs.Cases.{lt_or_ge}
use Rattle.scan.specs.Zeros.{blank}
use Rattle.scan.proofs.Blanks.{blank_at, blank-zeros}
use Rattle.protocol.specs.Transfer.{place}
use Rattle.protocol.specs.Tag.{user}
use Rattle.protocol.specs.Mark.{Mark, none, wipe_end}
use Rattle.protocol.specs.Proc.{mark, Res, ok, or_else, try, fine, when◌then◌else◌}
use Rattle.protocol.specs.Write.{chunks}
use Rattle.protocol.specs.Scrub.{zero_row, dirty_rows, some, program_rows, reread, scrub_chunk, scrub_to, scrub}
use Rattle.protocol.proofs.Marks.{wipe_rows, wipe_inside}
use Rattle.part.specs.Part.{Part}
use Rattle.part.specs.declared.look.Look.TheVariants.{Memory}
use Rattle.nothing_left.specs.Rows.{non_zero_rows}
use Rattle.nothing_left.proofs.Always.{always, onto, onto_append, always_done, always_bind, always_mark}
use Rattle.nothing_left.proofs.Steps.{read_taken}
use Rattle.nothing_left.proofs.Memories.{at_eq, Wiped, wiped_none, wiped_on, wiped_row, wiped_clean, part_same}
use Rattle.nothing_left.proofs.Worlds.{Room}
use Rattle.nothing_left.proofs.Wipes.{memory-look, marked, zero_rows, program-rows}

-- the bytes b are those of M from `at` on
pub record Copy (b : List ℕ) (at n : ℕ) (M : List ℕ) : Type 0 where
  pub len : length b ≡ n
  pub same : (i : ℕ) → i < n → get_or b i 0 ≡ get_or M (at + i) 0

pub copy_read : (at n : ℕ) (M : List ℕ) → at + n ≤ length M → Copy (take n (take n (drop at M))) at n M
copy_read at n M h = record {
  len = simp (length-take, length-drop) (omega arith);
  same = λ i g. get_or-take n (take n (drop at M)) i 0 g ∙ get_or-take n (drop at M) i 0 g ∙ get_or-drop at M i 0;
}

-- the rest of a copy, of a memory that is the same there
copy_rest : (b : List ℕ) (at m : ℕ) (M N : List ℕ) → ((i : ℕ) → at + 16 ≤ i → get_or N i 0 ≡ get_or M i 0) → Copy b at (16 * suc m) M → Copy (drop 16 b) (at + 16) (16 * m) N
copy_rest b at m M N f c = record {
  len = let l = c.len in simp length-drop (omega arith);
  same = λ i g. get_or-drop 16 b i 0 ∙ c.same (16 + i) (omega arith) ∙ at_eq M (omega arith) ∙ sym (f (at + 16 + i) (omega arith));
}

-- its first row
copy_row : (b : List ℕ) (at m : ℕ) (M : List ℕ) → at + 16 * suc m ≤ length M → Copy b at (16 * suc m) M → take 16 b ≡ take 16 (drop at M)
copy_row b at m M h c =
    let l = c.len in
    let e : length (take 16 b) ≡ length (take 16 (drop at M)) = simp (length-take, length-drop) (omega arith) in
    ext_get_or 0 (take 16 b) (take 16 (drop at M)) e (λ i g.
    let k : i < 16 = omega (arith, length-take 16 b) in
    get_or-take 16 b i 0 k ∙ c.same i (omega arith) ∙ sym (get_or-drop at M i 0) ∙ sym (get_or-take 16 (drop at M) i 0 k))

rows_nil : (k at : ℕ) (M : List ℕ) → zero_rows at (dirty_rows k []) M ≡ M
rows_nil zero at M = refl
rows_nil (suc k) at M = rows_nil k (at + 16) M

marks_nil : (k at : ℕ) → marked at (dirty_rows k []) ≡ []
marks_nil zero at = refl
marks_nil (suc k) at = marks_nil k (at + 16)

copy_none : (b : List ℕ) (at : ℕ) (M : List ℕ) → Copy b at 0 M → b ≡ []
copy_none [] at M c = refl
copy_none (x ∷ xs) at M c = absurd (let l = c.len in omega arith)

-- the rows that are programmed are those that are not zero
pub dirty_rows_lem : (k m at : ℕ) (b M : List ℕ) → m ≤ k → at + 16 * m ≤ length M → Copy b at (16 * m) M → marked at (dirty_rows k b) ≡ non_zero_rows m at M
dirty_rows_lem zero zero at b M h f c = refl
dirty_rows_lem (suc k) zero at b M h f c = ap (λ (x : List ℕ). marked at (dirty_rows (suc k) x)) (copy_none b at M c) ∙ marks_nil k (at + 16)
dirty_rows_lem zero (suc m) at b M h f c = absurd (omega arith)
dirty_rows_lem (suc k) (suc m) at b M h f c =
    let rec = dirty_rows_lem k m (at + 16) (drop 16 b) M (omega arith) (omega arith) (copy_rest b at m M M (λ i g. refl) c) in
    let e : blank (take 16 (drop at M)) ≡ blank (take 16 b) = ap blank (sym (copy_row b at m M f c)) in
    rw e (go (blank (take 16 b)) rec)
  where
    go : (t : Bool) → marked (at + 16) (dirty_rows k (drop 16 b)) ≡ non_zero_rows m (at + 16) M
        → marked at (not t ∷ dirty_rows k (drop 16 b)) ≡ pick t [] (at ∷ []) ++ non_zero_rows m (at + 16) M
    go true e = e
    go false e = ap (λ (l : List ℕ). at ∷ l) e

-- and afterwards they are
pub zeroed : (k m at : ℕ) (b M : List ℕ) → m ≤ k → at + 16 * m ≤ length M → Copy b at (16 * m) M → Wiped at (at + 16 * m) M (zero_rows at (dirty_rows k b) M)
zeroed zero zero at b M h f c = subst (λ (n : ℕ). Wiped at n M M) (omega arith) (wiped_none at M)
zeroed (suc k) zero at b M h f c =
    let e : zero_rows at (dirty_rows (suc k) b) M ≡ M = ap (λ (x : List ℕ). zero_rows at (dirty_rows (suc k) x) M) (copy_none b at M c) ∙ rows_nil k (at + 16) M in
    rw e (subst (λ (n : ℕ). Wiped at n M M) (omega arith) (wiped_none at M))
zeroed zero (suc m) at b M h f c = absurd (omega arith)
zeroed (suc k) (suc m) at b M h f c =
    go (blank (take 16 b)) refl (λ N l s. zeroed k m (at + 16) (drop 16 b) N (omega arith) (omega arith) (copy_rest b at m M N s c))
  where
    go : (t : Bool) → blank (take 16 b) ≡ t
        → ((N : List ℕ) → length N ≡ length M → ((i : ℕ) → at + 16 ≤ i → get_or N i 0 ≡ get_or M i 0)
        → Wiped (at + 16) (at + 16 + 16 * m) N (zero_rows (at + 16) (dirty_rows k (drop 16 b)) N))
        → Wiped at (at + 16 * suc m) M (zero_rows at (not t ∷ dirty_rows k (drop 16 b)) M)
    go true e rec =
        let w : Wiped at (at + 16) M M = wiped_clean at M (λ i g x.
        at_eq M (omega arith) ∙ sym (c.same (i - at) (omega arith)) ∙ sym (get_or-take 16 b (i - at) 0 (omega arith))
        ∙ blank_at (take 16 b) (i - at) (let l = c.len in simp length-take (omega arith)) e) in
        subst (λ (n : ℕ). Wiped at n M (zero_rows (at + 16) (dirty_rows k (drop 16 b)) M)) (omega arith)
        (wiped_on (omega arith) (omega arith) w (rec M refl (λ i g. refl)))
    go false e rec =
        let w : Wiped at (at + 16) M (splice M at zero_row) = wiped_row at M (omega arith) in
        subst (λ (n : ℕ). Wiped at n M (zero_rows (at + 16) (dirty_rows k (drop 16 b)) (splice M at zero_row))) (omega arith)
        (wiped_on (omega arith) (omega arith) w (rec (splice M at zero_row) w.changed.len (λ i g. w.changed.outside i (inr g))))

-- rows after rows
rows_on_lem : (m r at : ℕ) (M : List ℕ) → non_zero_rows (m + r) at M ≡ non_zero_rows m at M ++ non_zero_rows r (at + 16 * m) M
rows_on_lem zero r at M =
    let e : 0 + r ≡ r = omega arith in
    let f : at ≡ at + 16 * 0 = omega arith in
    ap₂ (λ (n a : ℕ). non_zero_rows n a M) e f
rows_on_lem (suc m) r at M =
    let e : suc m + r ≡ suc (m + r) = omega arith in
    let f : at + 16 + 16 * m ≡ at + 16 * suc m = omega arith in
    ap (λ (n : ℕ). non_zero_rows n at M) e ∙ go (blank (take 16 (drop at M))) (rows_on_lem m r (at + 16) M ∙ ap (λ (a : ℕ). non_zero_rows m (at + 16) M ++ non_zero_rows r a M) f)
  where
    go : (t : Bool) → non_zero_rows (m + r) (at + 16) M ≡ non_zero_rows m (at + 16) M ++ non_zero_rows r (at + 16 * suc m) M
        → pick t [] (at ∷ []) ++ non_zero_rows (m + r) (at + 16) M ≡ pick t [] (at ∷ []) ++ non_zero_rows m (at + 16) M ++ non_zero_rows r (at + 16 * suc m) M
    go true e = e
    go false e = ap (λ (l : List ℕ). at ∷ l) e

rows_same : (n at : ℕ) (M N : List ℕ) → length N ≡ length M → ((i : ℕ) → at ≤ i → get_or N i 0 ≡ get_or M i 0) → non_zero_rows n at N ≡ non_zero_rows n at M
rows_same zero at M N e f = refl
rows_same (suc n) at M N e f =
    ap₂ (λ (b l : List ℕ). pick (blank b) [] (at ∷ []) ++ l) (part_same at 16 M N e f) (rows_same n (at + 16) M N e (λ i h. f i (omega arith)))

-- a chunk of four rows or fewer, and the chunks after it
module _ (at r : ℕ) (M N : List ℕ) where
  rows_joined : Wiped at (at + 16 * min 4 r) M N → non_zero_rows r at M ≡ non_zero_rows (min 4 r) at M ++ non_zero_rows (r - 4) (at + 64) N
  rows_joined w = go (lt_or_ge r 4)
    where
      go : (r < 4) ⊎ (4 ≤ r) → non_zero_rows r at M ≡ non_zero_rows (min 4 r) at M ++ non_zero_rows (r - 4) (at + 64) N
      go (inl h) =
          let e : r ≡ min 4 r + 0 = omega arith in
          let f : 0 ≡ r - 4 = omega arith in
          ap (λ (n : ℕ). non_zero_rows n at M) e ∙ rows_on_lem (min 4 r) 0 at M
          ∙ ap (λ (n : ℕ). non_zero_rows (min 4 r) at M ++ non_zero_rows n (at + 64) N) f
      go (inr h) =
          let e : r ≡ min 4 r + (r - 4) = omega arith in
          let f : at + 16 * min 4 r ≡ at + 64 = omega arith in
          ap (λ (n : ℕ). non_zero_rows n at M) e ∙ rows_on_lem (min 4 r) (r - 4) at M
          ∙ ap (λ (l : List ℕ). non_zero_rows (min 4 r) at M ++ l)
          (ap (λ (a : ℕ). non_zero_rows (r - 4) a M) f
          ∙ sym (rows_same (r - 4) (at + 64) M N w.changed.len (λ i g. w.changed.outside i (inr (omega arith)))))

wiped_nowhere : (a b : ℕ) (M N : List ℕ) → Wiped a a M N → Wiped b b M N
wiped_nowhere a b M N w = record {
  changed = record { len = w.changed.len; outside = λ i s. w.changed.outside i (lt_or_ge i a) };
  zeros = λ i l h. absurd (omega arith);
}

joined : (at r : ℕ) (M N O : List ℕ) → at + 16 * r ≤ 8192 → Wiped at (at + 16 * min 4 r) M N → Wiped (at + 64) (at + 64 + 16 * (r - 4)) N O → Wiped at (at + 16 * r) M O
joined at r M N O h w v = go (lt_or_ge r 4)
  where
    go : (r < 4) ⊎ (4 ≤ r) → Wiped at (at + 16 * r) M O
    go (inl g) =
        let e : at + 64 + 16 * (r - 4) ≡ at + 64 = omega arith in
        let f : at + 16 * min 4 r ≡ at + 16 * r = omega arith in
        wiped_on (omega arith) (omega arith) (rw f at w) (wiped_nowhere (at + 64) (at + 16 * r) N O (rw e at v))
    go (inr g) =
        let e : at + 64 + 16 * (r - 4) ≡ at + 16 * r = omega arith in
        let f : at + 16 * min 4 r ≡ at + 64 = omega arith in
        wiped_on (omega arith) (omega arith) (rw f at w) (rw e at v)

module _ (Ph : Part → Part → Type 0) (F : List ℕ → Part → Type 0) (W : Room Ph F) where
  module _ (Q : Res Unit → Mark → List ℕ → Part → Type 0) (μ : Mark) (R : List ℕ) (at m : ℕ) (hm : m ≤ 4) (M : List ℕ) (len : length M ≡ 8192)
      (row : at % 16 ≡ 0) (fits : at + 64 ≤ 8192)
      (post : (p : Part) (N : List ℕ) → F N p → Wiped at (at + 16 * m) M N → p.registers.busy ≡ 0 → Q (ok tt) μ (onto (non_zero_rows m at M) R) p) where
    rereads : (N S : List ℕ) → S ≡ onto (non_zero_rows m at M) R → Wiped at (at + 16 * m) M N → (p : Part) → F N p → p.registers.busy ≡ 0
        → always Ph (reread at (16 * m)) Q μ S p
    rereads N S es w p i z =
        read_taken Ph W.timeless (F N) (W.stable N) _ Q μ S user (place at) (16 * m) (Memory at) (memory-look at (16 * m) (omega arith)) refl
        (λ q j y.
        let c = copy_read at (16 * m) N (omega (arith, w.changed.len)) in
        let e : blank (take (16 * m) (take (16 * m) (drop at q.memory))) ≡ true =
        rw (W.memory N q j) (blank-zeros (take (16 * m) (take (16 * m) (drop at N))) (λ i g.
        let h : i < 16 * m = let l = c.len in omega arith in c.same i h ∙ w.zeros (at + i) (omega arith) (omega arith))) in
        rw e (always_done Ph (ok tt) Q μ S q (rw es (post q N j w y))))
        p i z

    rest : (N S : List ℕ) → S ≡ onto (non_zero_rows m at M) R → Wiped at (at + 16 * m) M N → (d : Bool) (p : Part) → F N p → p.registers.busy ≡ 0
        → always Ph (when d then reread at (16 * m) else fine) Q μ S p
    rest N S es w true p i z = rereads N S es w p i z
    rest N S es w false p i z = always_done Ph (ok tt) Q μ S p (rw es (post p N i w z))

    programs : (b : List ℕ) → Copy b at (16 * m) M → (p : Part) → F M p → p.registers.busy ≡ 0
        → always Ph (try (program_rows at (dirty_rows 4 b)) (λ _. when some (dirty_rows 4 b) then reread at (16 * m) else fine)) Q μ R p
    programs b c p i z =
        always_bind Ph (program_rows at (dirty_rows 4 b)) _ Q μ R p
        (program-rows Ph F W _ μ (dirty_rows 4 b) R M at row (omega arith)
        (λ q j y. rest (zero_rows at (dirty_rows 4 b) M) (onto (marked at (dirty_rows 4 b)) R) (ap (λ (l : List ℕ). onto l R) (dirty_rows_lem 4 m at b M hm (omega arith) c))
        (zeroed 4 m at b M hm (omega arith) c) (some (dirty_rows 4 b)) q j y) p i z)

    pub chunk_wiped : (p : Part) → F M p → p.registers.busy ≡ 0 → always Ph (scrub_chunk at (16 * m)) Q μ R p
    chunk_wiped p i z =
        read_taken Ph W.timeless (F M) (W.stable M) _ Q μ R user (place at) (16 * m) (Memory at) (memory-look at (16 * m) (omega arith)) refl
        (λ q j y. programs (take (16 * m) (take (16 * m) (drop at q.memory)))
        (subst (λ (x : List ℕ). Copy (take (16 * m) (take (16 * m) (drop at x))) at (16 * m) M) (sym (W.memory M q j)) (copy_read at (16 * m) M (omega arith))) q j y)
        p i z

  chunks_wiped : (left : ℕ) (Q : Res Unit → Mark → List ℕ → Part → Type 0) (μ : Mark) (R : List ℕ) (at end r : ℕ) (M : List ℕ)
      → at % 64 ≡ 0 → end - at ≡ 16 * r → r ≤ 4 * left → 4 * left < r + 4 → at + 16 * r ≤ 8192 → length M ≡ 8192
      → ((p : Part) (N : List ℕ) → F N p → Wiped at (at + 16 * r) M N → p.registers.busy ≡ 0 → Q (ok tt) μ (onto (non_zero_rows r at M) R) p)
      → (p : Part) → F M p → p.registers.busy ≡ 0 → always Ph (scrub_to left at end) Q μ R p
  chunks_wiped zero Q μ R at end r M ha er h₁ h₂ he len post p i z =
      let e : r ≡ 0 = omega arith in
      always_done Ph (ok tt) Q μ R p
      (subst (λ (l : List ℕ). Q (ok tt) μ (onto l R) p) (ap (λ (n : ℕ). non_zero_rows n at M) e)
      (post p M i (subst (λ (n : ℕ). Wiped at n M M) (omega arith) (wiped_none at M)) z))
  chunks_wiped (suc left) Q μ R at end r M ha er h₁ h₂ he len post p i z =
      let g : min 64 (end - at) ≡ 16 * min 4 r = omega arith in
      always_bind Ph (scrub_chunk at (min 64 (end - at))) _ Q μ R p
      (rw g (chunk_wiped (λ a n S x. always Ph (or_else (λ _. scrub_to left (at + 64) end) a) Q n S x) μ R at (min 4 r) (omega arith) M len (omega arith) (omega arith)
      (λ q N j w y.
      chunks_wiped left Q μ (onto (non_zero_rows (min 4 r) at M) R) (at + 64) end (r - 4) N (omega arith) (omega arith) (omega arith) (omega arith) (omega arith) (w.changed.len ∙ len)
      (λ x O k v u.
      subst (λ (l : List ℕ). Q (ok tt) μ l x)
      (ap (λ (l : List ℕ). onto l R) (rows_joined at r M N w) ∙ onto_append (non_zero_rows (min 4 r) at M) (non_zero_rows (r - 4) (at + 64) N) R)
      (post x O k (joined at r M N O he w v) u)) q j y) p i z))

  -- `scrub`: everything below the end of the wipe is zero, the rest as it was, and the rows that were not zero were programmed
  pub wipes : (Q : Res Unit → Mark → List ℕ → Part → Type 0) (m μ : Mark) (R M : List ℕ) → length M ≡ 8192
      → ((p : Part) (N : List ℕ) → F N p → Wiped 0 (wipe_end m) M N → p.registers.busy ≡ 0 → Q (ok tt) none (onto (non_zero_rows (wipe_end m / 16) 0 M) R) p)
      → (p : Part) → F M p → p.registers.busy ≡ 0 → always Ph (scrub m) Q μ R p
  unfolding scrub
  wipes Q m μ R M len post p i z =
      let d = wipe_rows m in
      let h = wipe_inside m in
      always_bind Ph (scrub_to (chunks (wipe_end m)) 0 (wipe_end m)) _ Q μ R p
      (chunks_wiped (chunks (wipe_end m)) (λ a n S x. always Ph (or_else (λ _. mark none fine) a) Q n S x) μ R 0 (wipe_end m) (wipe_end m / 16) M
      (omega arith) (omega arith) (omega arith) (omega arith) (omega arith) len
      (λ q N j w y. always_mark Ph none fine Q μ _ q (always_done Ph (ok tt) Q none _ q
      (post q N j (subst (λ (n : ℕ). Wiped 0 n M N) (omega arith) w) y))) p i z)

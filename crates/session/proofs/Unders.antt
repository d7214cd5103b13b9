-- What the tests of a sound session say.
use mathlib.Core.Path.{◌≡◌, sym, ◌∙◌}
use mathlib.Core.Bool.{Bool, true, ◌&&◌}
use Prim.Native.Nat.{ℕ, ◌+◌, ◌-◌, ◌/◌, ◌%◌, ◌≤◌, ◌<◌, min}
use native.Mathlib.Omega.{arith}
use lib.Dec.{eqb, ltb, leb}
use borrow.Author.Tests.{ltb-true, leb-true, eq-eqb, ne_eqb, lt-ltb, le-ltb}
use Rattle.slices.specs.Pick.{pick}
use Rattle.slices.proofs.Truths.{both}
use Rattle.scan.specs.Rows.{row_count}
use Rattle.scan.proofs.Cutting.{count-more}
use Rattle.protocol.specs.Mark.{Mark, wipe_end}
use Rattle.wipe.specs.declared.scrub.Chunk.{Chunk}
use Rattle.session.specs.Sound.{chunk_stop, under}

pub under-says : (m start len done : ℕ) (b : Bool) → b ≡ under m start len done → b ≡ true → (start ≤ m) × (len ≤ m - start) × (done < len)
under-says m start len done b e t =
    let h = both (leb start m && leb len (m - start)) (ltb done len) (sym e ∙ t) in
    let g = both (leb start m) (leb len (m - start)) h.0 in
    (leb-true start m g.0, leb-true len (m - start) g.1, ltb-true done len h.1)

-- some bytes touch a row
pub count-some : (at n : ℕ) → 0 < n → 0 < row_count at n
count-some at n h = let e = count-more at n h in omega (arith, e)

module _ (m : Mark) (p : Chunk) (e : ℕ) (ee : e ≡ wipe_end m) where
  pub stop-other : (p.end ≡ e → ⊥) → 0 ≡ chunk_stop m p
  stop-other h = rw (ne_eqb p.end (wipe_end m) (λ q. h (q ∙ sym ee)))

  module _ (eq : p.end ≡ e) where
    pub stop-past : p.end ≤ p.at → 0 ≡ chunk_stop m p
    stop-past h = rw (eq-eqb p.end (wipe_end m) (eq ∙ ee), le-ltb p.at p.end h)

    pub stop-here : p.at < p.end → (b : Bool) → (eqb (p.at % 64) 0 && eqb p.left ((p.end - p.at - 1) / 64)) ≡ b
        → pick b (min p.end (p.at + 64)) 0 ≡ chunk_stop m p
    stop-here h b q = rw (eq-eqb p.end (wipe_end m) (eq ∙ ee), lt-ltb p.at p.end h, q)

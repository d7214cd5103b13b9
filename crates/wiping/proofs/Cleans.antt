-- A chunk that is blank and has a whole one after it leads to that one.
use mathlib.Core.Path.{◌≡◌, refl, sym, ap, ◌∙◌}
use mathlib.Core.Bool.{Bool, true, false}
use mathlib.Core.List.{List}
use Prim.Native.Nat.{ℕ, zero, suc, ◌+◌, ◌-◌, ◌≤◌, ◌<◌}
use native.Mathlib.Omega.{arith}
use lib.ListN.{take, drop}
use Rattle.std.specs.Prelude.{Option, Some, Ok}
use Rattle.scan.specs.Zeros.{blank}
use Rattle.scan.proofs.Blanks.{blank-take, blank-drop}
use Rattle.session.specs.Sound.{scrub_sound}
use Rattle.kept.proofs.Chunks.{scrub-says}
use Rattle.protocol.specs.Scrub.{dirty_rows, some}
use Rattle.wipe.specs.Scrub.{size_of, next_chunk, read_step}
use Rattle.wipe.proofs.Scrubs.{chunk-from}
use Rattle.wipe.specs.declared.scrub.Chunk.{Chunk}
use Rattle.wipe.specs.declared.scrub.Scrub.TheVariants.{Read}
use Rattle.wiping.specs.Onward.{led_of}
use Rattle.wiping.specs.declared.after.Onward.{Onward}

-- zeros have no row that is not zero
none_dirty : (k : ℕ) (l : List ℕ) → blank l ≡ true → some (dirty_rows k l) ≡ false
none_dirty zero l e = refl
none_dirty (suc k) l e = rw (blank-take 16 l e) (none_dirty k (drop 16 l) (blank-drop 16 l e))

-- the next chunk is whole, so that this one is not the last
pub not_last : (m rows : ℕ) (p : Chunk) → scrub_sound m rows (Read p) ≡ true → p.at + 64 + 64 ≤ p.end → 0 < p.left
not_last m rows p s h =
    let g = (scrub-says m rows (Read p) s).0.left in
    omega (arith, g)

pub clean_led : (rows : ℕ) (p : Chunk) (l : List ℕ) (b : Bool) → 0 < p.left → p.at + 64 ≤ p.end → b ≡ blank (take 64 l) → b ≡ true
    → ◌≡◌ {A = Option Onward} (Some (record { rows = rows; wipe = Read (record { left = p.left - 1; at = p.at + 64; end = p.end }) })) (led_of rows (read_step p true l))
clean_led rows p l b i j eb hb =
    let n : size_of p.at p.end ≡ 64 = omega arith in
    let c : Ok (Some (Read (record { left = p.left - 1; at = p.at + 64; end = p.end }))) ≡ next_chunk p =
    chunk-from p.left (p.at + 64) p.end (λ z. omega arith) in
    let r : next_chunk p ≡ read_step p true l = rw (n, none_dirty 4 (take 64 l) (sym eb ∙ hb)) in
    ap (led_of rows) (c ∙ r)

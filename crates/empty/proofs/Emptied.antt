-- A container, and then the empty block and the terminator, are what the build of the empty image answers and leaves.
use borrow.Author.Tests.{le-ltb}
use mathlib.Core.Path.{◌≡◌}
use mathlib.Core.List.{List, [], ◌∷◌}
use Prim.Native.Nat.{ℕ, ◌≤◌}
use native.Mathlib.Omega.{arith}
use lib.ListN.{length}
use Rattle.std.specs.Prelude.{Ok}
use Rattle.slices.specs.Bytes.{be, Wrote}
use Rattle.slices.proofs.Splice.{chain}
use Rattle.layout.specs.Container.{container}
use Rattle.layout.specs.Block.{message_head, message, block_length}
use Rattle.layout.specs.Image.{image_of, empty_image}
use Rattle.layout.proofs.Images.{container-length}
use Rattle.judging.specs.Judge.{answer, after}
use Rattle.judging.proofs.Judged.{finished}
use Rattle.empty.specs.Empty.{empty_verdict}

pub emptied : (out : List ℕ) (area : ℕ) {o left : List ℕ} {at r : ℕ} → 11 ≤ length out → area ≤ 524287
    → Wrote out 0 (container area) o at → Wrote o at (0x03 ∷ 0x00 ∷ 0xFE ∷ []) left r
    → (Ok r ≡ answer (empty_verdict (length out) area) (empty_image area)) × (left ≡ after (empty_verdict (length out) area) (empty_image area) out)
unfolding image_of container message message_head block_length be
emptied out area h k w v = let fits : empty_verdict (length out) area ≡ Ok tt = simp (le-ltb _ _ h, le-ltb _ _ k) in
    let l = container-length area in
    finished fits (chain (let i = w.place in omega arith) w v)

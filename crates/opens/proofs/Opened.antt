-- A front and the payload's first bytes, written one after the other, are what a build that fits answers and leaves.
use mathlib.Core.Path.{◌≡◌}
use mathlib.Core.List.{List, ◌++◌}
use Prim.Native.Nat.{ℕ, ◌<◌, ◌^◌}
use native.Mathlib.Omega.{arith}
use lib.ListN.{length}
use Rattle.std.specs.Prelude.{Ok}
use Rattle.slices.specs.Bytes.{Wrote}
use Rattle.slices.proofs.Splice.{chain}
use Rattle.layout.specs.Lengths.{sat}
use Rattle.layout.specs.Image.{front}
use Rattle.layout.proofs.Images.{front_length}
use Rattle.judging.specs.Judge.{verdict, checks, answer, after}
use Rattle.judging.proofs.Judged.{room_of, finished}

-- `p` is the payload's length as the builder gets it, and `q` the length itself; they are equal, since the image fits
module _ (out kind head : List ℕ) (area format p q : ℕ) (small : length out < 2 ^ 63) (e : p ≡ sat q) (fits : verdict (checks (length out) area (length kind) p) ≡ Ok tt) where
  same : p ≡ q
  same = let f = room_of (length out) area (length kind) p fits in
      let n = front_length area format kind p in
      omega (arith, f.image)

  pub opened : {o left : List ℕ} {at r : ℕ} → Wrote out 0 (front area format kind p) o at → Wrote o at head left r
      → (Ok r ≡ answer (verdict (checks (length out) area (length kind) q)) (front area format kind q ++ head))
      × (left ≡ after (verdict (checks (length out) area (length kind) q)) (front area format kind q ++ head) out)
  opened w v = let f = room_of (length out) area (length kind) p fits in
      let n = front_length area format kind p in
      rw (← same) (finished fits (chain (let i = w.place in omega (arith, f.image)) w v))

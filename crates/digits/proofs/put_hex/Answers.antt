use mathlib.Core.Path.{refl, ap, sym}
use mathlib.Core.List.{◌∷◌, []}
use Prim.Native.Nat.{ℕ, ◌<◌}
use lib.ListN.{length}
use Rattle.slices.proofs.Splice.{chain, splice-none}
use Rattle.digits.specs.Text.{hex_of}
use Rattle.digits.proofs.Texts.{hex_more}
use Rattle.digits.proofs.Writes.{wrote_as, hex_place}
use native.Mathlib.Omega.{arith}
use Rattle.digits.proofs.put_hex.Goals as goal

pub loop-byte-init : goal.loop-byte-init
unfolding hex_of
loop-byte-init c = (refl, record { bytes = sym (splice-none _ _); place = omega arith })

pub put-b-requires : goal.put-b-requires
put-b-requires c = omega (arith, hex_place c.args.s.now c.loop-byte.byte-index (omega arith) c.loop-byte.invariant.1)

pub put-a-requires : goal.put-a-requires
put-a-requires c = omega (arith, hex_place c.args.s.now c.loop-byte.byte-index (omega arith) c.loop-byte.invariant.1, c.put-b.ensures.place)

pub loop-byte-preserved : goal.loop-byte-preserved
loop-byte-preserved c = let s = c.args.s.now in
    let i = c.loop-byte.byte-index in
    let h : i < length s = omega arith in
    let w = c.loop-byte.invariant.1 in
    let k = hex_place s i (omega arith) w in
    let hi = wrote_as (ap (λ (d : ℕ). d ∷ []) c.hex_digit.ensures) c.put-b.ensures in
    let lo = wrote_as (ap (λ (d : ℕ). d ∷ []) c.hex_digit-in-loop-byte.ensures) c.put-a.ensures in
    (omega arith, wrote_as (hex_more s i h) (chain (omega (arith, k, c.put-b.ensures.place)) (chain (omega (arith, k)) w hi) lo))

use mathlib.Core.Path.{◌≡◌}
use lib.ListN.{length, take}
use Rattle.slices.specs.Bytes.{Wrote}
use Rattle.digits.specs.Text.{hex_of}
use Rattle.digits.proofs.put_hex.Given as goal

abbrev pub invariant-loop-byte : goal.invariant-loop-byte
invariant-loop-byte l = (length l.out ≡ length l.initial.out) × Wrote l.initial.out l.at (hex_of (take l.byte-index l.s)) l.out l.a

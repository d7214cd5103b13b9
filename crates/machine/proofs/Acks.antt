-- Past an `acked(..)?` the transfer was acknowledged.
use mathlib.Core.Path.{◌≡◌, refl}
use mathlib.Core.Bool.{Bool, true, false}
use Prim.Native.Nat.{ℕ}
use native.Mathlib.Omega.{arith}
use Rattle.std.specs.Prelude.{Ok}
use Rattle.machine.specs.Ack.{acked}

pub was-acked : (b : Bool) {x : Unit} → Ok x ≡ acked b → b ≡ true
was-acked true e = refl
was-acked false e = absurd (let z : ◌≡◌ {A = ℕ} 0 1 = cc in omega arith)

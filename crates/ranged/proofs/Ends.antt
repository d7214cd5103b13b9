-- An end that is judged without adding to a place that may be large.
use mathlib.Core.Path.{◌≡◌, refl, sym, ◌∙◌}
use mathlib.Core.Bool.{Bool, true, false}
use Prim.Native.Nat.{ℕ, ◌+◌, ◌-◌, ◌≤◌, ◌<◌}
use native.Mathlib.Omega.{arith}
use lib.Dec.{ltb}
use borrow.Author.Tests.{lt-ltb, le-ltb, ltb-true, ltb-false}
use Rattle.protocol.specs.Write.{past}

pub past_near : (at n : ℕ) → at ≤ 8192 → ltb (8192 - at) n ≡ past at n
past_near at n h = go (ltb (8192 - at) n) refl
  where
    go : (b : Bool) → ltb (8192 - at) n ≡ b → ltb (8192 - at) n ≡ ltb 8192 (at + n)
    go true e = let l : 8192 - at < n = ltb-true (8192 - at) n e in e ∙ sym (lt-ltb 8192 (at + n) (omega arith))
    go false e = let l : n ≤ 8192 - at = ltb-false (8192 - at) n e in e ∙ sym (le-ltb 8192 (at + n) (omega arith))

pub not-past : (at n : ℕ) (b : Bool) → b ≡ past at n → b ≡ false → at + n ≤ 8192
not-past at n b e f = ltb-false 8192 (at + n) (sym e ∙ f)

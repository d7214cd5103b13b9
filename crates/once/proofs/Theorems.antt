-- Only one answer meets a promise. Every promise of a public call is made of equations: what is returned, and what stands in each lent
-- buffer afterwards, each equal to something that depends on the arguments alone. So two answers that meet it are the same. `once` says it
-- for an equation; the other laws say it for the records that hold several.
use mathlib.Core.Path.{◌≡◌, sym, ◌∙◌}
use mathlib.Core.List.{List}
use Prim.Native.Nat.{ℕ}
use Rattle.slices.specs.Bytes.{Wrote}
use Rattle.layout.specs.declared.refusal.Refusal.{Refusal}
use Rattle.std.specs.Prelude.{Result}
use Rattle.tells.specs.Builds.{Tells}
use Rattle.telling.specs.Left.{Left, Leaves}

-- a promise that is an equation
pub once : {A : Type 0} {said x y : A} → x ≡ said → y ≡ said → x ≡ y
once e f = e ∙ sym f

-- a writer: the buffer afterwards, and the place that is returned
pub wrote-once : (before : List ℕ) (at : ℕ) (bs x y : List ℕ) (m n : ℕ) → Wrote before at bs x m → Wrote before at bs y n → (x ≡ y) × (m ≡ n)
wrote-once before at bs x y m n p q = (once p.bytes q.bytes, once p.place q.place)

-- a builder's export: its number, its values, and the buffer afterwards
pub tells_once : (b : Result ℕ Refusal) (left : List ℕ) (r s : ℕ) (vs ws x y : List ℕ) → Tells b left r vs x → Tells b left s ws y → (r ≡ s) × (vs ≡ ws) × (x ≡ y)
tells_once b left r s vs ws x y p q = (once p.number q.number, once p.values q.values, once p.bytes q.bytes)

-- a session's export: its step, and the state, the transfer buffer and the reply buffer afterwards
pub leaves_once : (l : Left) (s t : ℕ) (a b c x y z : List ℕ) → Leaves l s a b c → Leaves l t x y z → (s ≡ t) × (a ≡ x) × (b ≡ y) × (c ≡ z)
leaves_once l s t a b c x y z p q =
    (once p.step q.step, once p.state q.state, once p.transfer q.transfer, once p.reply q.reply)

-- Laws of a transfer's bytes and of its step.
use mathlib.Core.Path.{◌≡◌, refl, sym, ap, subst, ◌∙◌}
use mathlib.Core.Bool.{Bool}
use mathlib.Core.List.{List, ◌∷◌, ◌++◌, append-nil}
use Prim.Native.Nat.{ℕ, zero, suc, ◌+◌, ◌-◌, ◌/◌, ◌%◌, ◌≤◌}
use native.Mathlib.Omega.{arith}
use lib.ListN.{length, take, drop, replicate, length-append, length-replicate, length-take, length-drop, drop_of_length-le}
use lib.Seq.{length-take-le}
use Rattle.slices.specs.Bytes.{splice, Wrote}
use Rattle.slices.proofs.Splice.{splice_front}
use Rattle.protocol.specs.Transfer.{place, sent}
use Rattle.machine.specs.Ask.{meant}
use Rattle.machine.specs.declared.ask.Ask.{Ask}
use Rattle.machine.specs.declared.ask.Ask.TheVariants as A
use Rattle.telling.specs.Step.{step_of, transfer_step, padded, ask_step, AskFits}
use Rattle.telling.specs.Left.{into_out, waits_on, framed}
use Rattle.stages.specs.Turns.{stage_ask}
use Rattle.stages.specs.declared.stage.Stage.{Stage}

drop-zeros : (n m : ℕ) → drop {A = ℕ} n (replicate m 0) ≡ replicate (m - n) 0
drop-zeros zero m = ap (λ (k : ℕ). replicate k 0) {x = m} {y = m - 0} (omega arith)
drop-zeros (suc n) zero = ap (λ (k : ℕ). replicate k 0) {x = 0} {y = 0 - suc n} (omega arith)
drop-zeros (suc n) (suc m) = drop-zeros n m ∙ ap (λ (k : ℕ). replicate k 0) {x = m - n} {y = suc m - suc n} (omega arith)

-- a row's bytes over the zeros that follow its place
pub row-framed : (at : ℕ) (piece : List ℕ) → length piece ≤ 16
    → splice (at / 256 % 256 ∷ at % 256 ∷ 0 ∷ replicate 16 0) 2 piece ≡ padded (place at ++ piece)
unfolding splice
row-framed at piece h =
    let d : List ℕ = at / 256 % 256 ∷ at % 256 ∷ replicate 17 0 in
    let e : drop (2 + length piece) d ≡ replicate (19 - suc (suc (length piece))) 0 =
    ap (λ (k : ℕ). drop k d) {x = 2 + length piece} {y = suc (suc (length piece))} (omega arith)
    ∙ (drop-zeros (length piece) 17 ∙ ap (λ (k : ℕ). replicate k 0) {x = 17 - length piece} {y = 19 - suc (suc (length piece))} (omega arith)) in
    ap (λ (z : List ℕ). at / 256 % 256 ∷ at % 256 ∷ (piece ++ z)) e

-- a part from one place to another, by its length
pub part_of : (lent : List ℕ) (from n : ℕ) → take ((from + n) - from) (drop from lent) ≡ take n (drop from lent)
part_of lent from n = ap (λ (k : ℕ). take k (drop from lent)) {x = (from + n) - from} {y = n} (omega arith)

pub part-short : (lent : List ℕ) (from n : ℕ) → n ≤ 16 → length (take ((from + n) - from) (drop from lent)) ≤ 16
part-short lent from n h = let e = length-take ((from + n) - from) (drop from lent) in omega arith

-- the bytes of a row that was lent are as many as it says
piece_length : (lent : List ℕ) (from n : ℕ) → from + n ≤ length lent → length (take n (drop from lent)) ≡ n
piece_length lent from n h = length-take-le n (drop from lent) (let e : length (drop from lent) ≡ length lent - from = length-drop from lent in omega arith)

pub ask-step : (out : Bool) (lent : List ℕ) (a : Ask) → AskFits (length lent) a → ask_step out a ≡ transfer_step out (meant lent a)
ask-step out lent (A.Address dev) f = refl
ask-step out lent (A.Byte dev at value) f = refl
ask-step out lent A.Password f = refl
ask-step out lent (A.Zeros at) f = refl
ask-step out lent (A.Row at from n) f =
    let e : n + 2 ≡ suc (suc (length (take n (drop from lent)))) = (let p = piece_length lent from n f.0 in omega arith) in
    ap (λ (k : ℕ). step_of 1 0x53 k 0) e
ask-step out lent (A.Read dev at n) f = refl
ask-step out lent (A.Delay ms) f = refl

sent-fits : (lent : List ℕ) (a : Ask) → AskFits (length lent) a → length (sent (meant lent a)) ≤ 19
sent-fits lent (A.Address dev) f = omega arith
sent-fits lent (A.Byte dev at value) f = omega arith
sent-fits lent A.Password f = omega arith
sent-fits lent (A.Zeros at) f = omega arith
sent-fits lent (A.Row at from n) f = let p = piece_length lent from n f.0 in let q = f.1 in omega arith
sent-fits lent (A.Read dev at n) f = omega arith
sent-fits lent (A.Delay ms) f = omega arith

padded-length : (bs : List ℕ) → length bs ≤ 19 → length (padded bs) ≡ 19
padded-length bs h =
    let a : length (padded bs) ≡ length bs + length {A = ℕ} (replicate (19 - length bs) 0) = length-append bs (replicate (19 - length bs) 0) in
    let b : length {A = ℕ} (replicate (19 - length bs) 0) ≡ 19 - length bs = length-replicate (19 - length bs) 0 in
    omega arith

-- bytes that were put at the front of a buffer
pub put_front : (before bs after : List ℕ) (next n : ℕ) → length bs ≡ n → Wrote before 0 bs after next → after ≡ bs ++ drop n before
put_front before bs after next n e w = w.bytes ∙ splice_front before bs ∙ ap (λ (k : ℕ). bs ++ drop k before) e

pub put_all : (before bs after : List ℕ) (next : ℕ) → length before ≡ length bs → Wrote before 0 bs after next → after ≡ bs
put_all before bs after next e w =
    put_front before bs after next (length bs) refl w
    ∙ ap (λ (z : List ℕ). bs ++ z) (drop_of_length-le before (subst (λ (k : ℕ). k ≤ length bs) (sym e) (omega arith))) ∙ append-nil bs

pub put_frame : (before f after lent : List ℕ) (next : ℕ) (a : Ask) → AskFits (length lent) a → f ≡ padded (sent (meant lent a)) → Wrote before 0 f after next
    → after ≡ padded (sent (meant lent a)) ++ drop 19 before
put_frame before f after lent next a fits e w =
    put_front before f after next 19 (ap length e ∙ padded-length (sent (meant lent a)) (sent-fits lent a fits)) w
    ∙ ap (λ (z : List ℕ). z ++ drop 19 before) e

-- what fits the data fits the part
pub fits-part : (n : ℕ) (a : Ask) → n ≤ 8192 → AskFits n a → AskFits 8192 a
fits-part n (A.Address dev) h f = tt
fits-part n (A.Byte dev at value) h f = tt
fits-part n A.Password h f = tt
fits-part n (A.Zeros at) h f = tt
fits-part n (A.Row at from k) h f = let q = f.0 in (omega arith, f.1)
fits-part n (A.Read dev at k) h f = f
fits-part n (A.Delay ms) h f = tt

-- what the code of `ask` comes to
pub asked : (lent : List ℕ) (st : Stage) (a : Ask) (out : Bool) (before f after : List ℕ) (next : ℕ) → a ≡ stage_ask (length lent) st → out ≡ into_out st
    → AskFits (length lent) (stage_ask (length lent) st) → f ≡ padded (sent (meant lent a)) → Wrote before 0 f after next
    → (step : ℕ) → step ≡ ask_step out a
    → (step ≡ transfer_step (into_out st) (waits_on lent st)) × (after ≡ framed lent st before)
asked lent st a out before f after next ea eo fits ef w step es = (
  (es ∙ λ i. ask_step (eo i) (ea i)) ∙ ask-step (into_out st) lent (stage_ask (length lent) st) fits,
  put_frame before f after lent next (stage_ask (length lent) st) fits (ef ∙ ap (λ (x : Ask). padded (sent (meant lent x))) ea) w,
)

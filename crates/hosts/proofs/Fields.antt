-- A step is taken apart into what it was put together from.
use mathlib.Core.Path.{◌≡◌, refl, ap, ◌∙◌}
use mathlib.Core.Bool.{Bool, true, false}
use mathlib.Core.List.{List, [], ◌∷◌, ◌++◌, append_assoc}
use Prim.Native.Nat.{ℕ, ◌-◌, ◌<◌}
use native.Mathlib.Omega.{arith}
use lib.Dec.{eqb}
use lib.ListN.{length, take, drop, replicate, length-take}
use lib.Seq.{take-append_seam}
use Rattle.protocol.specs.Transfer.{Transfer, write, write_read, delay, place, sent}
use Rattle.protocol.specs.Tag.{user, system, i2c_pwd, password}
use Rattle.protocol.specs.Scrub.{zero_row}
use Rattle.machine.specs.Ask.{meant}
use Rattle.machine.specs.declared.ask.Ask.{Ask}
use Rattle.machine.specs.declared.ask.Ask.TheVariants as A
use Rattle.hosts.specs.Hosts.{kind_of, address_of, send_of, read_of, delay_of, sends, reads, waits, on_bus, asked_by}
use Rattle.telling.specs.Step.{step_of, answer_step, transfer_step, padded, AskFits}

pub kind-is : (k a b c : ℕ) → k < 256 → kind_of (step_of k a b c) ≡ k
kind-is k a b c h = omega arith

address_is : (k a b c : ℕ) → k < 256 → a < 256 → address_of (step_of k a b c) ≡ a
address_is k a b c h g = omega arith

send-is : (k a b c : ℕ) → k < 256 → a < 256 → b < 65536 → send_of (step_of k a b c) ≡ b
send-is k a b c h g f = omega arith

delay-is : (k a b c : ℕ) → k < 256 → a < 256 → b < 65536 → delay_of (step_of k a b c) ≡ c
delay-is k a b c h g f = omega arith

read_is : (k a b c : ℕ) → k < 256 → a < 256 → b < 65536 → c < 65536 → read_of (step_of k a b c) ≡ c
read_is k a b c h g f e = omega (arith, delay-is k a b c h g f)

pub kind-answer : (n rows v : ℕ) → kind_of (answer_step n rows v) ≡ 0
kind-answer n rows v = kind-is 0 n rows v (omega arith)

-- a transfer is no answer
pub kind-transfer : (into : Bool) (x : Transfer) → kind_of (transfer_step into x) ≡ 0 → ⊥
kind-transfer into (write dev head payload) e = let k = kind-is 1 dev (length (head ++ payload)) 0 (omega arith) in omega arith
kind-transfer true (write_read dev head n) e = let k = kind-is 3 dev (length head) n (omega arith) in omega arith
kind-transfer false (write_read dev head n) e = let k = kind-is 2 dev (length head) n (omega arith) in omega arith
kind-transfer into (delay ms) e = let k = kind-is 4 0 0 ms (omega arith) in omega arith

-- kind 3 says that `out` is read into
pub kind-reply : (x : Transfer) → eqb (kind_of (transfer_step false x)) 3 ≡ false
kind-reply (write dev head payload) = rw (kind-is 1 dev (length (head ++ payload)) 0 (omega arith))
kind-reply (write_read dev head n) = rw (kind-is 2 dev (length head) n (omega arith))
kind-reply (delay ms) = rw (kind-is 4 0 0 ms (omega arith))

pub kind_out : (dev : ℕ) (head : List ℕ) (n : ℕ) → eqb (kind_of (transfer_step true (write_read dev head n))) 3 ≡ true
kind_out dev head n = rw (kind-is 3 dev (length head) n (omega arith))

-- the bytes to send stand at the front of the transfer buffer
front-is : (bs rest : List ℕ) → take (length bs) (padded bs ++ rest) ≡ bs
front-is bs rest =
    ap (take (length bs)) (append_assoc bs (replicate (19 - length bs) 0) rest) ∙ take-append_seam bs (replicate (19 - length bs) 0 ++ rest)

asked-send : (dev : ℕ) (bs rest : List ℕ) → dev < 256 → length bs < 65536 → asked_by (step_of 1 dev (length bs) 0) (padded bs ++ rest) ≡ sends dev bs
asked-send dev bs rest h g =
    rw (kind-is 1 dev (length bs) 0 (omega arith), address_is 1 dev (length bs) 0 (omega arith) h, send-is 1 dev (length bs) 0 (omega arith) h g)
    (ap (sends dev) (front-is bs rest))

asked-read : (k dev : ℕ) (bs rest : List ℕ) (n : ℕ) → k < 256 → eqb k 1 ≡ false → eqb k 4 ≡ false → dev < 256 → length bs < 65536 → n < 65536
    → asked_by (step_of k dev (length bs) n) (padded bs ++ rest) ≡ reads dev bs n
asked-read k dev bs rest n hk k1 k4 h g f =
    rw (kind-is k dev (length bs) n hk, address_is k dev (length bs) n hk h, send-is k dev (length bs) n hk h g, read_is k dev (length bs) n hk h g f, k1, k4)
    (ap (λ (l : List ℕ). reads dev l n) (front-is bs rest))

asked_wait : (ms : ℕ) (t : List ℕ) → asked_by (step_of 4 0 0 ms) t ≡ waits ms
asked_wait ms t = rw (kind-is 4 0 0 ms (omega arith), delay-is 4 0 0 ms (omega arith) (omega arith) (omega arith))

-- the address of what is asked for is a byte
abbrev pub Near : Ask → Type 0
Near (A.Address dev) = dev < 256
Near (A.Byte dev at value) = dev < 256
Near A.Password = Unit
Near (A.Zeros at) = Unit
Near (A.Row at from n) = Unit
Near (A.Read dev at n) = dev < 256
Near (A.Delay ms) = Unit

-- so the step and the transfer buffer say what is meant
pub asked_is : (into : Bool) (lent : List ℕ) (a : Ask) (rest : List ℕ) → Near a → AskFits (length lent) a
    → asked_by (transfer_step into (meant lent a)) (padded (sent (meant lent a)) ++ rest) ≡ on_bus (meant lent a)
asked_is into lent (A.Address dev) rest d f = asked-send dev [] rest d (omega arith)
asked_is into lent (A.Byte dev at value) rest d f = asked-send dev (place at ++ value ∷ []) rest d (omega arith)
asked_is into lent A.Password rest d f = asked-send system (place i2c_pwd ++ password) rest (omega arith) (omega arith)
asked_is into lent (A.Zeros at) rest d f = asked-send user (place at ++ zero_row) rest (omega arith) (omega arith)
asked_is into lent (A.Row at from n) rest d f =
    asked-send user (place at ++ take n (drop from lent)) rest (omega arith) (let p = length-take n (drop from lent) in let q = f.1 in omega arith)
asked_is true lent (A.Read dev at n) rest d f = asked-read 3 dev (place at) rest n (omega arith) refl refl d (omega arith) (omega arith)
asked_is false lent (A.Read dev at n) rest d f = asked-read 2 dev (place at) rest n (omega arith) refl refl d (omega arith) (omega arith)
asked_is into lent (A.Delay ms) rest d f = asked_wait ms (padded [] ++ rest)

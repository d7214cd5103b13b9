-- Bytes that can be a reply.
use mathlib.Core.Path.{◌≡◌}
use mathlib.Core.List.{List, [], ◌∷◌, ◌++◌}
use Prim.Native.Nat.{ℕ, zero, suc, ◌≤◌, ◌<◌}
use native.Mathlib.Omega.{arith}
use lib.ListN.{take, drop, replicate}
use Rattle.machine.specs.declared.ask.Ask.{Ask}
use Rattle.kept.specs.Bytes.{Bytes}
use Rattle.kept.specs.Kept.{asked, Answers}

pub bytes-none : Bytes []
bytes-none i = omega arith

pub bytes-more : (x : ℕ) (l : List ℕ) → x < 256 → Bytes l → Bytes (x ∷ l)
bytes-more x l h b zero = h
bytes-more x l h b (suc i) = b i

pub bytes-zeros : (n : ℕ) → Bytes (replicate n 0)
bytes-zeros zero = bytes-none
bytes-zeros (suc n) = bytes-more 0 (replicate n 0) (omega arith) (bytes-zeros n)

pub bytes-both : (k l : List ℕ) → Bytes k → Bytes l → Bytes (k ++ l)
bytes-both [] l a b = b
bytes-both (x ∷ k) l a b = bytes-more x (k ++ l) (a 0) (bytes-both k l (λ i. a (suc i)) b)

pub bytes_take : (n : ℕ) (l : List ℕ) → Bytes l → Bytes (take n l)
bytes_take zero l b = bytes-none
bytes_take (suc n) [] b = bytes-none
bytes_take (suc n) (x ∷ l) b = bytes-more x (take n l) (b 0) (bytes_take n l (λ i. b (suc i)))

pub bytes_drop : (n : ℕ) (l : List ℕ) → Bytes l → Bytes (drop n l)
bytes_drop zero l b = b
bytes_drop (suc n) [] b = b
bytes_drop (suc n) (x ∷ l) b = bytes_drop n l (λ i. b (suc i))

-- nothing is read, or one byte at most
pub says_none : (a : Ask) → asked a ≡ 0 → Answers a []
says_none a e = record { bytes = bytes-none; enough = omega (arith, e) }

pub says-one : (a : Ask) (x : ℕ) → asked a ≤ 1 → x < 256 → Answers a (x ∷ [])
says-one a x e h = record { bytes = bytes-more x [] h bytes-none; enough = omega (arith, e) }

-- Laws of `AtMost`, and the bound of the wipe: 128 chunks, each read twice at most and four times a row with its hundred polls.
use mathlib.Core.Path.{subst}
use mathlib.Core.List.{List, [], ◌∷◌}
use mathlib.Core.Bool.{Bool, true, false}
use Prim.Native.Nat.{ℕ, zero, suc, ◌+◌, ◌*◌, ◌-◌, ◌≤◌, min}
use native.Mathlib.Omega.{arith}
use lib.ListN.{length}
use Rattle.scan.specs.Zeros.{blank}
use Rattle.protocol.specs.Transfer.{busy, delay, place}
use Rattle.protocol.specs.Tag.{chunk, user, ready_poll_ms}
use Rattle.protocol.specs.Mark.{Mark, none, wipe_end}
use Rattle.protocol.specs.Proc.{Proc, done, ask, mark, ◌>>=◌, Res, ok, err, or_else, try, fine, when◌then◌else◌}
use Rattle.protocol.specs.Bus.{send, read}
use Rattle.protocol.specs.Wait.{wait_ready}
use Rattle.protocol.specs.Write.{program_row, chunks}
use Rattle.protocol.specs.Scrub.{zero_row, dirty_rows, some, program_rows, reread, scrub_chunk, scrub_to, scrub}
use Rattle.protocol.specs.Trace.{Replies, later, trace, transfers}
use Rattle.protocol.specs.Bound.{AtMost}

-- a bound is a bound on every trace
pub most_counted : {A : Type 0} (n : ℕ) (p : Proc A) → AtMost n p → (ρ : Replies) → transfers (trace p ρ) ≤ n
unfolding AtMost
most_counted n (done a) h ρ = omega arith
most_counted n (ask t k) h ρ = let e = most_counted (n - busy t) (k (ρ 0)) (h.1 (ρ 0)) (later ρ) in omega (arith, h.0)
most_counted n (mark m p) h ρ = most_counted n p h ρ

pub most_more : {A : Type 0} (n k : ℕ) (p : Proc A) → n ≤ k → AtMost n p → AtMost k p
unfolding AtMost
most_more n k (done a) l h = tt
most_more n k (ask t f) l h = (omega (arith, h.0), λ r. most_more (n - busy t) (k - busy t) (f r) (omega arith) (h.1 r))
most_more n k (mark m p) l h = most_more n k p l h

pub most_bind : {A B : Type 0} (n k : ℕ) (p : Proc A) (f : A → Proc B) → AtMost n p → ((a : A) → AtMost k (f a)) → AtMost (n + k) (p >>= f)
unfolding AtMost
most_bind n k (done a) f h g = most_more k (n + k) (f a) (omega arith) (g a)
most_bind n k (ask t q) f h g =
    (omega (arith, h.0), λ r. subst (λ (j : ℕ). AtMost j (q r >>= f)) (omega (arith, h.0)) (most_bind (n - busy t) k (q r) f (h.1 r) g))
most_bind n k (mark m p) f h g = most_bind n k p f h g

pub most_try : {A B : Type 0} (n k : ℕ) (p : Proc (Res A)) (f : A → Proc (Res B)) → AtMost n p → ((a : A) → AtMost k (f a)) → AtMost (n + k) (try p f)
unfolding AtMost
most_try n k p f h g = most_bind n k p (or_else f) h on
  where
    on : (a : Res _) → AtMost k (or_else f a)
    on (ok a) = g a
    on (err e) = tt

most_done : {A : Type 0} (n : ℕ) (a : A) → AtMost n (done a)
unfolding AtMost
most_done n a = tt

most_mark : {A : Type 0} (n : ℕ) (m : Mark) (p : Proc A) → AtMost n p → AtMost n (mark m p)
unfolding AtMost
most_mark n m p h = h

-- an answer on both sides of a test costs nothing
most_if : {A : Type 0} (b : Bool) (x y : A) → AtMost 0 (when b then done x else done y)
unfolding AtMost
most_if true x y = tt
most_if false x y = tt

most_send : (dev : ℕ) (head payload : List ℕ) → AtMost 1 (send dev head payload)
unfolding AtMost
most_send dev head payload = (omega arith, λ r. most_if r.ack _ _)

most_read : (dev at n : ℕ) → AtMost 1 (read dev at n)
unfolding AtMost
most_read dev at n = (omega arith, λ r. most_if r.ack _ _)

most_wait : (n : ℕ) → AtMost n (wait_ready n)
unfolding AtMost
most_wait zero = tt
most_wait (suc n) = (omega arith, λ r. subst (λ (j : ℕ). AtMost j (when r.ack then fine else ask (delay ready_poll_ms) (λ _. wait_ready n))) (omega arith) (polled r.ack (most_wait n)))
  where
    polled : (b : Bool) → AtMost n (wait_ready n) → AtMost n (when b then fine else ask (delay ready_poll_ms) (λ _. wait_ready n))
    polled true w = tt
    polled false w = (omega arith, λ _. subst (λ (j : ℕ). AtMost j (wait_ready n)) (omega arith) w)

most_row : (at : ℕ) (bs : List ℕ) → AtMost 101 (program_row at bs)
most_row at bs = most_try 1 100 (send user (place at) bs) _ (most_send user (place at) bs) (λ _. most_wait 100)

most_rows : (bits : List Bool) (at : ℕ) → AtMost (101 * length bits) (program_rows at bits)
most_rows [] at = most_done _ (ok tt)
most_rows (true ∷ bits) at =
    subst (λ (j : ℕ). AtMost j (program_rows at (true ∷ bits))) (omega arith)
    (most_try 101 (101 * length bits) _ _ (most_row at zero_row) (λ _. most_rows bits (at + 16)))
most_rows (false ∷ bits) at = most_more (101 * length bits) _ _ (omega arith) (most_rows bits (at + 16))

most_reread : (at n : ℕ) → AtMost 1 (reread at n)
most_reread at n = most_try 1 0 _ _ (most_read user at n) (λ bs. most_if (blank bs) _ _)

most_chunk : (at n : ℕ) → AtMost 406 (scrub_chunk at n)
most_chunk at n =
    most_try 1 405 _ _ (most_read user at n) (λ bs.
    most_try 404 1 _ _ (most_rows (dirty_rows 4 bs) at) (λ _. again (some (dirty_rows 4 bs))))
  where
    again : (b : Bool) → AtMost 1 (when b then reread at n else fine)
    again true = most_reread at n
    again false = most_done 1 (ok tt)

most_chunks : (left at end : ℕ) → AtMost (406 * left) (scrub_to left at end)
most_chunks zero at end = most_done _ (ok tt)
most_chunks (suc left) at end =
    subst (λ (j : ℕ). AtMost j (scrub_to (suc left) at end)) (omega arith)
    (most_try 406 (406 * left) _ _ (most_chunk at (min chunk (end - at))) (λ _. most_chunks left (at + 64) end))

chunks_most : (m : Mark) → chunks (wipe_end m) ≤ 128
unfolding wipe_end
chunks_most m = omega arith

-- the wipe, whatever the mark
pub most_scrub : (m : Mark) → AtMost 51968 (scrub m)
unfolding scrub
most_scrub m =
    let c = chunks_most m in
    most_more (406 * chunks (wipe_end m) + 0) 51968 _ (omega arith)
    (most_try (406 * chunks (wipe_end m)) 0 _ _ (most_chunks (chunks (wipe_end m)) 0 (wipe_end m)) (λ _. most_mark 0 none fine (most_done 0 (ok tt))))

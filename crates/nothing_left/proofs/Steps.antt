-- One transfer on the part, and the wait for a cycle's end.
--
--   slept b p       == the part p with b milliseconds left of its cycle
--   Stable Ph I     == I is kept by what happens between two transfers, and by time
--   write-taken, read_taken, delay-passed == a transfer to a part that takes it
--   wait_ready_lem      == the polls of `wait_ready` outlast every cycle
use mathlib.Core.Path.{◌≡◌, refl}
use mathlib.Core.Bool.{Bool, true, false, ◌&&◌}
use mathlib.Core.List.{List, [], ◌++◌}
use Prim.Native.Nat.{ℕ, zero, suc, ◌-◌, ◌≤◌, ◌<◌}
use native.Mathlib.Omega.{arith}
use lib.Dec.{eqb}
use lib.ListN.{length, drop}
use borrow.Author.Tests.{eqb-true, eqb-false, eq-eqb}
use Rattle.slices.specs.Pick.{pick}
use Rattle.protocol.specs.Transfer.{write, write_read, delay, Reply}
use Rattle.protocol.specs.Mark.{Mark}
use Rattle.protocol.specs.Tag.{ready_poll_ms}
use Rattle.protocol.specs.Proc.{Proc, ask, Res, ok, fine}
use Rattle.protocol.specs.Wait.{wait_ready}
use Rattle.part.specs.Part.{Part, free, with_busy}
use Rattle.part.specs.Orders.{order_of, takes, ordered, stored}
use Rattle.part.specs.Looks.{look_of, known, shown, looked}
use Rattle.part.specs.declared.order.Order.{Order}
use Rattle.part.specs.declared.look.Look.{Look}
use Rattle.nothing_left.proofs.Always.{Phone, quiet, wrote, Still, same, always, rows_on}

abbrev pub slept : ℕ → Part → Part
slept b p = record { identity = p.identity; memory = p.memory; registers = with_busy b p.registers }

pub record Stable (Ph : Part → Part → Type 0) (I : Part → Type 0) : Type 0 where
  pub phone : (p q : Part) → Ph p q → I p → I q
  pub clock : (p : Part) (b : ℕ) → I p → I (slept b p)

-- what happens between two transfers leaves the cycle alone
abbrev pub Timeless : (Part → Part → Type 0) → Type 0
Timeless Ph = (p q : Part) → Ph p q → q.registers.busy ≡ p.registers.busy

pub phone_timeless : Timeless Phone
phone_timeless p q quiet = refl
phone_timeless p q (wrote at bs h l) = refl

pub still_timeless : Timeless Still
still_timeless p q same = refl

abbrev pub yes : List ℕ → Reply
yes got = record { ack = true; got = got }

-- the part after an order that it took
abbrev pub obeyed : Order → ℕ → List ℕ → ℕ → Part → Part
obeyed o n payload c p = record { identity = p.identity; memory = stored o payload p.memory; registers = ordered o n c p.registers }

-- and after a read that it answered
abbrev pub looked_at : Look → Part → Part
looked_at k p = record { identity = p.identity; memory = p.memory; registers = looked k p.registers }

module _ (Ph : Part → Part → Type 0) (timeless : Timeless Ph) where
  module _ (I : Part → Type 0) (st : Stable Ph I) (Q : Res Unit → Mark → List ℕ → Part → Type 0) (m : Mark) (R : List ℕ)
      (post : (p : Part) → I p → p.registers.busy ≡ 0 → Q (ok tt) m R p) where
    polled : (n : ℕ) (p : Part) → I p → p.registers.busy < suc n
        → ((q : Part) → I q → q.registers.busy < n → always Ph (wait_ready n) Q m R q) → (b : Bool) → eqb p.registers.busy 0 ≡ b
        → always Ph (pick (b && true) fine (ask (delay ready_poll_ms) (λ _. wait_ready n))) Q m R
        (record { identity = p.identity; memory = pick (b && true) p.memory p.memory; registers = pick (b && true) p.registers p.registers })
    unfolding always
    polled n p i h rec true e = post p i (eqb-true p.registers.busy 0 e)
    polled n p i h rec false e = λ q ph c.
        let z : p.registers.busy ≡ 0 → ⊥ = eqb-false p.registers.busy 0 e in
        rec (slept (q.registers.busy - 1) q) (st.clock q (q.registers.busy - 1) (st.phone p q ph i)) (omega (arith, timeless p q ph, z))

    pub wait_ready_lem : (n : ℕ) (p : Part) → I p → p.registers.busy < n → always Ph (wait_ready n) Q m R p
    unfolding always order_of
    wait_ready_lem zero p i h = absurd (omega arith)
    wait_ready_lem (suc n) p i h = λ q ph c.
        polled n q (st.phone p q ph i) (omega (arith, timeless p q ph)) (λ x j g. wait_ready_lem n x j g) (eqb q.registers.busy 0) refl

  module _ {A : Type 0} (I : Part → Type 0) (st : Stable Ph I) (k : Reply → Proc A) (Q : A → Mark → List ℕ → Part → Type 0) (m : Mark) (R : List ℕ) where
    granted : (dev : ℕ) (head payload : List ℕ) (o : Order) (n : ℕ) (bs S : List ℕ) (c : ℕ) (p : Part) (b : Bool) → b ≡ true
        → rows_on (write dev head payload) (yes []) R ≡ S → always Ph (k (yes [])) Q m S (obeyed o n bs c p)
        → always Ph (k (record { ack = b; got = [] })) Q m (rows_on (write dev head payload) (record { ack = b; got = [] }) R)
        (record { identity = p.identity; memory = pick b (stored o bs p.memory) p.memory; registers = pick b (ordered o n c p.registers) p.registers })
    granted dev head payload o n bs S c p true e er h = rw er h
    granted dev head payload o n bs S c p false e er h = absurd (let z : ◌≡◌ {A = ℕ} 0 1 = cc in omega arith)

    pub write-taken : (dev : ℕ) (head payload : List ℕ) (o : Order) (n : ℕ) (bs S : List ℕ)
        → order_of dev (head ++ payload) ≡ o → length (head ++ payload) - 2 ≡ n → drop 2 (head ++ payload) ≡ bs
        → rows_on (write dev head payload) (yes []) R ≡ S
        → ((p : Part) → I p → takes o n p.registers ≡ true)
        → ((p : Part) → I p → p.registers.busy ≡ 0 → (c : ℕ) → always Ph (k (yes [])) Q m S (obeyed o n bs c p))
        → (p : Part) → I p → p.registers.busy ≡ 0 → always Ph (ask (write dev head payload) k) Q m R p
    unfolding always
    write-taken dev head payload o n bs S eo en eb er takes-it post p i z = λ q ph c.
        let z₁ : q.registers.busy ≡ 0 = omega (arith, timeless p q ph) in
        let j : I q = st.phone p q ph i in
        let a : free q.registers && takes o n q.registers ≡ true = rw (eq-eqb q.registers.busy 0 z₁) (takes-it q j) in
        rw eo (rw en (rw eb (granted dev head payload o n bs S c q (free q.registers && takes o n q.registers) a er (post q j z₁ c))))

    seen : (dev : ℕ) (head : List ℕ) (n : ℕ) (l : Look) (p : Part) (b : Bool) → b ≡ true
        → always Ph (k (yes (shown l n p.identity p.memory p.registers))) Q m R (looked_at l p)
        → always Ph (k (record { ack = b; got = pick b (shown l n p.identity p.memory p.registers) [] })) Q m R
        (record { identity = p.identity; memory = p.memory; registers = pick b (looked l p.registers) p.registers })
    seen dev head n l p true e h = h
    seen dev head n l p false e h = absurd (let z : ◌≡◌ {A = ℕ} 0 1 = cc in omega arith)

    pub read_taken : (dev : ℕ) (head : List ℕ) (n : ℕ) (l : Look) → look_of dev head n ≡ l → known l ≡ true
        → ((p : Part) → I p → p.registers.busy ≡ 0 → always Ph (k (yes (shown l n p.identity p.memory p.registers))) Q m R (looked_at l p))
        → (p : Part) → I p → p.registers.busy ≡ 0 → always Ph (ask (write_read dev head n) k) Q m R p
    unfolding always
    read_taken dev head n l el ek post p i z = λ q ph c.
        let z₁ : q.registers.busy ≡ 0 = omega (arith, timeless p q ph) in
        let j : I q = st.phone p q ph i in
        let a : free q.registers && known l ≡ true = rw (eq-eqb q.registers.busy 0 z₁) ek in
        rw el (seen dev head n l q (free q.registers && known l) a (post q j z₁))

    pub delay-passed : (ms b : ℕ) → ((p : Part) → I p → p.registers.busy ≤ b → always Ph (k (yes [])) Q m R p)
        → (p : Part) → I p → p.registers.busy ≤ b → always Ph (ask (delay ms) k) Q m R p
    unfolding always
    delay-passed ms b post p i h = λ q ph c.
        post (slept (q.registers.busy - ms) q) (st.clock q (q.registers.busy - ms) (st.phone p q ph i)) (omega (arith, timeless p q ph))

-- The calls that a live session may make are tame, but for those that read the status with RF off.
use mathlib.Core.Path.{◌≡◌, subst, sym, ◌∙◌}
use mathlib.Core.Bool.{Bool, true, false, ◌&&◌}
use mathlib.Core.List.{List, [], ◌∷◌, ◌++◌}
use Prim.Native.Nat.{ℕ, zero, suc, ◌+◌, ◌-◌, ◌*◌, ◌≤◌, ◌<◌, min}
use native.Mathlib.Omega.{arith}
use lib.Dec.{eqb}
use lib.ListN.{length, take, drop, length-drop}
use borrow.Author.Tests.{ltb-false}
use Rattle.slices.specs.Pick.{pick}
use Rattle.slices.proofs.Cases.{pick_cases}
use Rattle.scan.specs.Rows.{row_len, row_count}
use Rattle.scan.specs.Zeros.{blank, alike}
use Rattle.protocol.specs.Transfer.{write, write_read, delay, place}
use Rattle.protocol.specs.Tag.{user, system, rf_switch_on, rf_switch_off, gpo1, rf_mngt, i2c_cfg, mem_size, i2c_pwd, rf_mngt_dyn, i2c_sso_dyn, id_length, i2c_cfg_value, rf_mngt_value, gpo1_value, password, system_write_ms, ready_polls, ready_poll_ms, rf_retry_ms, rf_tries, chunk, open_bit}
use Rattle.protocol.specs.Mark.{Mark, none, widened, wipe_end}
use Rattle.protocol.specs.Proc.{Proc, done, ask, Res, ok, err, try, fine, refuse, both, when◌then◌else◌}
use Rattle.protocol.specs.Bus.{send, taken, read, read_byte, byte_is}
use Rattle.protocol.specs.Wait.{poll, wait_ready}
use Rattle.protocol.specs.Rf.{silent, «open», once, tries, rf_off, rf_on}
use Rattle.protocol.specs.Setup.{is_the_part, identify, open_session, write_system, is_set_up, reports, set_up, prepare}
use Rattle.protocol.specs.Write.{program_row, program, read_back, chunks, past, read_user, write_user}
use Rattle.protocol.specs.Scrub.{zero_row, dirty_rows, some, program_rows, reread, scrub_chunk, scrub_to, scrub}
use Rattle.protocol.specs.declared.answer.TagError.{TagError}
use Rattle.protocol.specs.declared.answer.TagError.TheVariants.{NoAnswer, NotThePart, Busy, Refused, RfStuck, NotTaken}
use Rattle.protocol.specs.Bound.{Each}
use Rattle.protocol.proofs.OneRows.{each_try}
use Rattle.protocol.proofs.Marks.{wipe_inside}
use Rattle.part.specs.Part.{Part}
use Rattle.part.specs.Orders.{order_of, accepted, ordered, stored}
use Rattle.part.specs.Looks.{look_of}
use Rattle.part.specs.declared.order.Order.{Order}
use Rattle.part.specs.declared.order.Order.TheVariants as order
use Rattle.nothing_left.proofs.Always.{Phone, always, always_bind, rows_on}
use Rattle.nothing_left.proofs.Steps.{Stable, phone_timeless, wait_ready_lem, delay-passed}
use Rattle.nothing_left.proofs.Wipes.{memory-look}
use Rattle.nothing_left.proofs.Tames.{Gentle, Idle, Free, Tame, gpo, mngt, cfg, Proper, Harmless, proper_user, gentle_write, calm_write, gentle_read, calm_read, gentle_delay, calm-delay, tame_done, tame_ask, tame_bind, tame_try, tame_if, tame_mark}

tame_end : (b : Bool) (e : TagError) → Tame (when b then fine else refuse e)
tame_end b e = tame_if b fine (refuse e) (tame_done (ok tt)) (tame_done (err e))

-- one transfer and its reply
tame_read : (dev at n : ℕ) → Harmless (look_of dev (place at) n) → Tame (read dev at n)
tame_read dev at n f = tame_ask (write_read dev (place at) n) _ (gentle_read dev (place at) n f) (calm_read dev (place at) n) (λ r. tame_if r.ack _ _ (tame_done _) (tame_done _))

tame_byte : (dev at : ℕ) → Harmless (look_of dev (place at) 1) → Tame (read_byte dev at)
tame_byte dev at f = tame_ask (write_read dev (place at) 1) _ (gentle_read dev (place at) 1 f) (calm_read dev (place at) 1) (λ r. tame_if r.ack _ _ (tame_done _) (tame_done _))

tame_is : (dev at : ℕ) (p : ℕ → Bool) → Harmless (look_of dev (place at) 1) → Tame (byte_is dev at p)
tame_is dev at p f = tame_ask (write_read dev (place at) 1) _ (gentle_read dev (place at) 1 f) (calm_read dev (place at) 1) (λ r. tame_done _)

pub tame_wait : (n : ℕ) → Tame (wait_ready n)
unfolding order_of
tame_wait zero = tame_done (err Busy)
tame_wait (suc n) =
    tame_ask poll _ (gentle_write user [] [] tt) (calm_write user [] [] tt) (λ r.
    tame_if r.ack _ _ (tame_done (ok tt)) (tame_ask (delay ready_poll_ms) _ (gentle_delay ready_poll_ms) (calm-delay ready_poll_ms) (λ _. tame_wait n)))

-- everything is stable that says nothing
all_stable : Stable Phone (λ _. Unit)
all_stable = record { phone = λ _ _ _ _. tt; clock = λ _ _ _. tt }

-- a write whose cycle is waited out: refused, and no cycle runs; or taken, and one of at most 99 ms does
module _ (dev : ℕ) (head payload : List ℕ) (k : Proc (Res Unit)) where
  waited : ((m : Mark) (R : List ℕ) (p : Part) → p.registers.busy ≤ 99 → always Phone k Free m R p)
      → ((o : Order) (n c : ℕ) (p : Part) → p.registers.busy ≡ 0 → (ordered o n c p.registers).busy ≤ 99)
      → Idle (try (send dev head payload) (λ _. k))
  unfolding Idle always
  waited h most m R p z = λ q ph c. go (accepted dev (head ++ payload) q.registers) c q (phone_timeless p q ph ∙ z)
    where
      go : (b : Bool) (c : ℕ) (q : Part) → q.registers.busy ≡ 0
          → always Phone (try (when b then fine else refuse NoAnswer) (λ _. k)) Free m (rows_on (write dev head payload) (record { ack = b; got = [] }) R)
          (record {
            identity = q.identity;
            memory = pick b (stored (order_of dev (head ++ payload)) (drop 2 (head ++ payload)) q.memory) q.memory;
            registers = pick b (ordered (order_of dev (head ++ payload)) (length (head ++ payload) - 2) c q.registers) q.registers;
          })
      go true c q y = h m _ _ (most (order_of dev (head ++ payload)) (length (head ++ payload) - 2) c q y)
      go false c q y = y

ordered_most : (o : Order) (n c : ℕ) (p : Part) → p.registers.busy ≡ 0 → (ordered o n c p.registers).busy ≤ 99
ordered_most order.Poll n c p z = omega arith
ordered_most (order.Row at) n c p z = omega arith
ordered_most (order.Dynamic v) n c p z = omega arith
ordered_most order.Password n c p z = omega arith
ordered_most (order.Byte at v) n c p z = omega arith
ordered_most order.SwitchOn n c p z = omega arith
ordered_most order.SwitchOff n c p z = omega arith
ordered_most order.Unknown n c p z = omega arith

each_send : (dev : ℕ) (head payload : List ℕ) → Proper (order_of dev (head ++ payload)) → Each Gentle (send dev head payload)
unfolding Each
each_send dev head payload f = (gentle_write dev head payload f, λ r. (tame_if r.ack fine (refuse NoAnswer) (tame_done (ok tt)) (tame_done (err NoAnswer))).each)

-- the polls, from any cycle
waits : (m : Mark) (R : List ℕ) (p : Part) → p.registers.busy ≤ 99 → always Phone (wait_ready ready_polls) Free m R p
waits m R p h = wait_ready_lem Phone phone_timeless (λ _. Unit) all_stable Free m R (λ _ _ z. z) ready_polls p tt (omega arith)

tame_row : (at : ℕ) (bs : List ℕ) → Tame (program_row at bs)
unfolding order_of
tame_row at bs = record {
  each = each_try Gentle _ _ (each_send user (place at) bs (proper_user (place at ++ bs))) (λ _. (tame_wait ready_polls).each);
  idle = waited user (place at) bs (wait_ready ready_polls) waits ordered_most;
}

-- what follows the write of a system byte
settling : ℕ → ℕ → Proc (Res Unit)
settling at value =
    ask (delay system_write_ms) (λ _.
    try (wait_ready ready_polls) (λ _.
    try (read_byte system at) (λ v.
    when eqb v value then fine else refuse NotTaken)))

tame_settled : (at value : ℕ) → Harmless (look_of system (place at) 1) → Tame (try (read_byte system at) (λ v. when eqb v value then fine else refuse NotTaken))
tame_settled at value g = tame_try (read_byte system at) _ (tame_byte system at g) (λ v. tame_end (eqb v value) NotTaken)

tame_system : (at value : ℕ) → Proper (order_of system (place at ++ value ∷ [])) → Harmless (look_of system (place at) 1) → Tame (write_system at value)
unfolding Idle settling
tame_system at value f g = record {
  each = each_try Gentle _ _ (each_send system (place at) (value ∷ []) f) (λ _.
      (tame_ask (delay system_write_ms) _ (gentle_delay system_write_ms) (calm-delay system_write_ms) (λ _.
      tame_try (wait_ready ready_polls) _ (tame_wait ready_polls) (λ _. tame_settled at value g))).each);
  idle = waited system (place at) (value ∷ []) (settling at value)
      (λ m R p h. delay-passed Phone phone_timeless (λ _. Unit) all_stable _ Free m R system_write_ms 99
      (λ q _ b. always_bind Phone (wait_ready ready_polls) _ Free m R q
      (wait_ready_lem Phone phone_timeless (λ _. Unit) all_stable _ m R (λ x _ y. (tame_settled at value g).idle m R x y) ready_polls q tt (omega arith))) p tt h)
      ordered_most;
}

-- RF
tame_once : (on : Bool) → Tame (once on)
unfolding order_of look_of
tame_once true =
    tame_ask (write rf_switch_on [] []) _ (gentle_write rf_switch_on [] [] tt) (calm_write rf_switch_on [] [] tt) (λ r.
    tame_if r.ack (both (taken user (place rf_mngt_dyn) (0 ∷ [])) (byte_is user rf_mngt_dyn «open»)) (done false)
    (tame_ask (write user (place rf_mngt_dyn) (0 ∷ [])) _ (gentle_write user (place rf_mngt_dyn) (0 ∷ []) tt) (calm_write user (place rf_mngt_dyn) (0 ∷ []) tt) (λ q.
    tame_if q.ack (byte_is user rf_mngt_dyn «open») (done false) (tame_is user rf_mngt_dyn «open» tt) (tame_done false)))
    (tame_done false))
tame_once false =
    tame_ask (write rf_switch_off [] []) _ (gentle_write rf_switch_off [] [] tt) (calm_write rf_switch_off [] [] tt) (λ r.
    tame_if r.ack (byte_is user rf_mngt_dyn silent) (done false) (tame_is user rf_mngt_dyn silent tt) (tame_done false))

tame_tries : (on : Bool) (n : ℕ) → Tame (tries on n)
tame_tries on zero = tame_done (err RfStuck)
tame_tries on (suc n) =
    tame_bind (once on) _ (tame_once on) (λ yes?.
    tame_if yes? fine _ (tame_done (ok tt)) (tame_ask (delay rf_retry_ms) _ (gentle_delay rf_retry_ms) (calm-delay rf_retry_ms) (λ _. tame_tries on n)))

pub tame_off : Tame rf_off
unfolding rf_off
tame_off = tame_tries false rf_tries

pub tame_on : Tame rf_on
unfolding rf_on
tame_on = tame_tries true rf_tries

-- setup
pub tame_identify : Tame identify
unfolding look_of
tame_identify = tame_try (read system mem_size id_length) _ (tame_read system mem_size id_length tt) (λ id. tame_end (is_the_part id) NotThePart)

tame_open : Tame open_session
unfolding order_of look_of
tame_open =
    tame_try (send system (place i2c_pwd) password) _
    (tame_ask (write system (place i2c_pwd) password) _ (gentle_write system (place i2c_pwd) password tt) (calm_write system (place i2c_pwd) password tt) (λ r. tame_end r.ack NoAnswer)) (λ _.
    tame_try (wait_ready ready_polls) _ (tame_wait ready_polls) (λ _.
    tame_try (read_byte user i2c_sso_dyn) _ (tame_byte user i2c_sso_dyn tt) (λ v. tame_end (open_bit v) Refused)))

pub tame_prepare : Tame prepare
unfolding order_of look_of
tame_prepare =
    tame_try identify _ tame_identify (λ _.
    tame_try (read_byte system i2c_cfg) _ (tame_byte system i2c_cfg tt) (λ c.
    tame_try (set_up c) _
    (tame_if (is_set_up c) fine _ (tame_done (ok tt))
    (tame_try open_session _ tame_open (λ _.
    tame_try (write_system i2c_cfg i2c_cfg_value) _ (tame_system i2c_cfg i2c_cfg_value cfg tt) (λ _. tame_system rf_mngt rf_mngt_value mngt tt)))) (λ _.
    tame_try (read_byte system gpo1) _ (tame_byte system gpo1 tt) (λ g.
    tame_if (reports g) fine _ (tame_done (ok tt))
    (tame_try open_session _ tame_open (λ _. tame_system gpo1 gpo1_value gpo tt))))))

-- user memory
tame_memory : (at n : ℕ) → at + n ≤ 8192 → Tame (read user at n)
tame_memory at n h = tame_read user at n (subst Harmless (sym (memory-look at n h)) tt)

pub tame_read-user : (at n : ℕ) → Tame (read_user at n)
unfolding read_user
tame_read-user at n =
    pick_cases Tame (past at n) (λ _. tame_done (err NotTaken))
    (λ e. tame_try (read user at n) _ (tame_memory at n (ltb-false 8192 (at + n) e)) (λ _. tame_done (ok tt)))

tame_program : (left at : ℕ) (bs : List ℕ) → Tame (program left at bs)
tame_program zero at bs = tame_done (ok tt)
tame_program (suc left) at bs =
    tame_try (program_row at (take (row_len at (length bs)) bs)) _ (tame_row at (take (row_len at (length bs)) bs)) (λ _.
    tame_program left (at + row_len at (length bs)) (drop (row_len at (length bs)) bs))

tame_back : (left at : ℕ) (bs : List ℕ) (same : Bool) → 64 * left < length bs + 64 → (0 < left → at + length bs ≤ 8192) → Tame (read_back left at bs same)
tame_back zero at bs same h f = tame_end same NotTaken
tame_back (suc left) at bs same h f =
    let g : at + length bs ≤ 8192 = f (omega arith) in
    let l = length-drop 64 bs in
    tame_try (read user at (min chunk (length bs))) _ (tame_memory at (min chunk (length bs)) (omega arith)) (λ got.
    tame_back left (at + 64) (drop 64 bs) (same && alike got (take chunk bs)) (omega arith) (λ more. omega arith))

pub tame_write : (m : Mark) (at : ℕ) (bs : List ℕ) → Tame (write_user m at bs)
unfolding write_user
tame_write m at bs =
    pick_cases Tame (past at (length bs)) (λ _. tame_done (err NotTaken))
    (λ e. let h = ltb-false 8192 (at + length bs) e in
    tame_mark (widened m at (at + length bs)) _
    (tame_try (program (row_count at (length bs)) at bs) _ (tame_program (row_count at (length bs)) at bs) (λ _.
    tame_back (chunks (length bs)) at bs true (omega arith) (λ _. h))))

-- the wipe
tame_rows : (bits : List Bool) (at : ℕ) → Tame (program_rows at bits)
tame_rows [] at = tame_done (ok tt)
tame_rows (true ∷ bits) at = tame_try (program_row at zero_row) _ (tame_row at zero_row) (λ _. tame_rows bits (at + 16))
tame_rows (false ∷ bits) at = tame_rows bits (at + 16)

tame_chunk : (at n : ℕ) → at + n ≤ 8192 → Tame (scrub_chunk at n)
tame_chunk at n h =
    tame_try (read user at n) _ (tame_memory at n h) (λ bs.
    tame_try (program_rows at (dirty_rows 4 bs)) _ (tame_rows (dirty_rows 4 bs) at) (λ _.
    tame_if (some (dirty_rows 4 bs)) (reread at n) fine
    (tame_try (read user at n) _ (tame_memory at n h) (λ got. tame_end (blank got) NotTaken))
    (tame_done (ok tt))))

tame_chunks : (left at end : ℕ) → end ≤ 8192 → at + 64 * left < end + 64 → Tame (scrub_to left at end)
tame_chunks zero at end h l = tame_done (ok tt)
tame_chunks (suc left) at end h l =
    tame_try (scrub_chunk at (min chunk (end - at))) _ (tame_chunk at (min chunk (end - at)) (omega arith)) (λ _. tame_chunks left (at + 64) end h (omega arith))

pub tame_scrub : (m : Mark) → Tame (scrub m)
unfolding scrub
tame_scrub m =
    let h = wipe_inside m in
    tame_try (scrub_to (chunks (wipe_end m)) 0 (wipe_end m)) _ (tame_chunks (chunks (wipe_end m)) 0 (wipe_end m) h (omega arith)) (λ _. tame_mark none fine (tame_done (ok tt)))

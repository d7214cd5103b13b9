-- Laws of `Each`, and that no row write of a call touches two rows.
use mathlib.Core.Path.{◌≡◌, refl}
use mathlib.Core.List.{List, [], ◌∷◌}
use mathlib.Core.Bool.{Bool, true, false, ◌&&◌}
use Prim.Native.Nat.{ℕ, zero, suc, ◌+◌, ◌-◌, ◌%◌, ◌≤◌, min}
use native.Mathlib.Omega.{arith}
use lib.ListN.{length, take, drop, length-take}
use Rattle.std.specs.Prelude.{Ok}
use Rattle.scan.specs.Rows.{row_len, row_count}
use Rattle.scan.specs.Zeros.{blank, alike}
use Rattle.scan.proofs.Cutting.{row_room}
use Rattle.protocol.specs.Transfer.{Transfer, write, delay, place, is_row}
use Rattle.protocol.specs.Tag.{user_memory, user, system, rf_switch_on, rf_switch_off, gpo1, rf_mngt, i2c_cfg, mem_size, i2c_pwd, rf_mngt_dyn, i2c_sso_dyn, id_length, i2c_cfg_value, rf_mngt_value, gpo1_value, password, system_write_ms, ready_polls, rf_retry_ms, chunk, open_bit}
use Rattle.protocol.specs.Mark.{Mark, none, whole, widened, found, wipe_end, is_none}
use Rattle.protocol.specs.Proc.{Proc, done, ask, mark, ◌>>=◌, Res, ok, err, or_else, try, fine, refuse, both, when◌then◌else◌}
use Rattle.protocol.specs.Bus.{send, taken, read, read_byte, byte_is}
use Rattle.protocol.specs.Wait.{wait_ready}
use Rattle.protocol.specs.Rf.{silent, «open», once, tries, rf_off, rf_on, rf_wrote}
use Rattle.protocol.specs.Setup.{is_the_part, identify, open_session, write_system, is_set_up, reports, set_up, reporting, prepare}
use Rattle.protocol.specs.Write.{program_row, program, read_back, chunks, past, read_user, write_user}
use Rattle.protocol.specs.Scrub.{zero_row, dirty_rows, some, program_rows, scrub_chunk, scrub_to, scrub}
use Rattle.protocol.specs.Call.{Call}
use Rattle.protocol.specs.Call as call
use Rattle.protocol.specs.Calls.{read_whole, begin, go_live, closing, finish, plainly, call_of}
use Rattle.protocol.specs.Trace.{Replies, later, trace}
use Rattle.protocol.specs.declared.answer.TagError.{TagError}
use Rattle.protocol.specs.declared.answer.TagError.TheVariants.{NotThePart, Refused, RfStuck, NotTaken}
use lib.Dec.{eqb}
use Rattle.protocol.specs.declared.answer.Answer.TheVariants.{Wrote}
use Rattle.protocol.specs.Bound.{Each, Every, OneRow}

-- what holds of each transfer that is asked for holds of every trace
pub each_every : {A : Type 0} (P : Transfer → Type 0) (p : Proc A) → Each P p → (ρ : Replies) → Every P (trace p ρ)
unfolding Each
each_every P (done a) h ρ = tt
each_every P (ask t k) h ρ = (h.0, each_every P (k (ρ 0)) (h.1 (ρ 0)) (later ρ))
each_every P (mark m p) h ρ = each_every P p h ρ

pub each_bind : {A B : Type 0} (P : Transfer → Type 0) (p : Proc A) (f : A → Proc B) → Each P p → ((a : A) → Each P (f a)) → Each P (p >>= f)
unfolding Each
each_bind P (done a) f h g = g a
each_bind P (ask t k) f h g = (h.0, λ r. each_bind P (k r) f (h.1 r) g)
each_bind P (mark m p) f h g = each_bind P p f h g

pub each_try : {A B : Type 0} (P : Transfer → Type 0) (p : Proc (Res A)) (f : A → Proc (Res B)) → Each P p → ((a : A) → Each P (f a)) → Each P (try p f)
unfolding Each
each_try P p f h g = each_bind P p (or_else f) h on
  where
    on : (a : Res _) → Each P (or_else f a)
    on (ok a) = g a
    on (err e) = tt

pub each_if : {A : Type 0} (P : Transfer → Type 0) (b : Bool) (p q : Proc A) → Each P p → Each P q → Each P (when b then p else q)
each_if P true p q h g = h
each_if P false p q h g = g

pub each_done : {A : Type 0} (P : Transfer → Type 0) (a : A) → Each P (done a)
unfolding Each
each_done P a = tt

pub each_mark : {A : Type 0} (P : Transfer → Type 0) (m : Mark) (p : Proc A) → Each P p → Each P (mark m p)
unfolding Each
each_mark P m p h = h

pub each_delay : {A : Type 0} (ms : ℕ) (p : Proc A) → Each OneRow p → Each OneRow (ask (delay ms) (λ _. p))
unfolding Each OneRow
each_delay ms p h = (tt, λ _. h)

-- Ok(()) or a refusal, by a test
each_end : (b : Bool) (e : TagError) → Each OneRow (when b then fine else refuse e)
unfolding Each
each_end true e = tt
each_end false e = tt

-- a write that is no row write
other : (dev : ℕ) (head payload : List ℕ) → is_row user user_memory (write dev head payload) ≡ false → OneRow (write dev head payload)
unfolding OneRow
other dev head payload e h = absurd (let z : ◌≡◌ {A = ℕ} 0 1 = cc in omega arith)

each_send : (dev : ℕ) (head payload : List ℕ) → OneRow (write dev head payload) → Each OneRow (send dev head payload)
unfolding Each
each_send dev head payload h = (h, λ r. each_if OneRow r.ack fine _ tt tt)

each_read : (dev at n : ℕ) → Each OneRow (read dev at n)
unfolding Each OneRow
each_read dev at n = (tt, λ r. each_if OneRow r.ack _ _ tt tt)

each_byte : (dev at : ℕ) → Each OneRow (read_byte dev at)
unfolding Each OneRow
each_byte dev at = (tt, λ r. each_if OneRow r.ack _ _ tt tt)

each_wait : (n : ℕ) → Each OneRow (wait_ready n)
unfolding Each OneRow
each_wait zero = tt
each_wait (suc n) = (other user [] [] refl, λ r. each_if OneRow r.ack fine _ tt (tt, λ _. each_wait n))

each_once : (on : Bool) → Each OneRow (once on)
unfolding Each OneRow
each_once true = (
  other rf_switch_on [] [] refl,
  λ r. each_if OneRow r.ack (both clear look) (done false)
      (other user (place rf_mngt_dyn) (0 ∷ []) refl, λ q. each_if OneRow q.ack look (done false) (tt, λ _. tt) tt) tt,
)
  where
    clear : Proc Bool
    clear = taken user (place rf_mngt_dyn) (0 ∷ [])

    look : Proc Bool
    look = byte_is user rf_mngt_dyn «open»
each_once false = (other rf_switch_off [] [] refl, λ r. each_if OneRow r.ack (byte_is user rf_mngt_dyn silent) (done false) (tt, λ _. tt) tt)

each_tries : (on : Bool) (n : ℕ) → Each OneRow (tries on n)
each_tries on zero = each_done OneRow (err RfStuck)
each_tries on (suc n) = each_bind OneRow (once on) _ (each_once on) (λ yes?. each_if OneRow yes? fine _ (each_done OneRow (ok tt)) (each_delay rf_retry_ms (tries on n) (each_tries on n)))

each_off : Each OneRow rf_off
unfolding rf_off
each_off = each_tries false 10

each_on : Each OneRow rf_on
unfolding rf_on
each_on = each_tries true 10

each_wrote : Each OneRow rf_wrote
unfolding Each OneRow
each_wrote = (tt, λ _. tt)

each_identify : Each OneRow identify
each_identify = each_try OneRow _ _ (each_read system mem_size id_length) (λ id. each_end (is_the_part id) NotThePart)

each_open : Each OneRow open_session
each_open =
    each_try OneRow _ _ (each_send system (place i2c_pwd) password (other system (place i2c_pwd) password refl)) (λ _.
    each_try OneRow _ _ (each_wait ready_polls) (λ _.
    each_try OneRow _ _ (each_byte user i2c_sso_dyn) (λ v. each_end (open_bit v) Refused)))

each_system : (at value : ℕ) → Each OneRow (write_system at value)
each_system at value =
    each_try OneRow _ _ (each_send system (place at) (value ∷ []) (other system (place at) (value ∷ []) refl)) (λ _.
    each_try OneRow _ _ (each_delay system_write_ms fine (each_done OneRow (ok tt))) (λ _.
    each_try OneRow _ _ (each_wait ready_polls) (λ _.
    each_try OneRow _ _ (each_byte system at) (λ v. each_end (eqb v value) NotTaken))))

each_set-up : (cfg : ℕ) → Each OneRow (set_up cfg)
each_set-up cfg =
    each_if OneRow (is_set_up cfg) fine _ (each_done OneRow (ok tt))
    (each_try OneRow _ _ each_open (λ _. each_try OneRow _ _ (each_system i2c_cfg i2c_cfg_value) (λ _. each_system rf_mngt rf_mngt_value)))

each_reporting : Each OneRow reporting
each_reporting =
    each_try OneRow _ _ (each_byte system gpo1) (λ gpo.
    each_if OneRow (reports gpo) fine _ (each_done OneRow (ok tt)) (each_try OneRow _ _ each_open (λ _. each_system gpo1 gpo1_value)))

each_prepare : Each OneRow prepare
each_prepare =
    each_try OneRow _ _ each_identify (λ _.
    each_try OneRow _ _ (each_byte system i2c_cfg) (λ cfg.
    each_try OneRow _ _ (each_set-up cfg) (λ _. each_reporting)))

-- a row write that stays in its row
in_row : (at : ℕ) (payload : List ℕ) → at % 16 + length payload ≤ 16 → OneRow (write user (place at) payload)
unfolding OneRow
in_row at payload h e = omega arith

each_row : (at : ℕ) (bs : List ℕ) → at % 16 + length bs ≤ 16 → Each OneRow (program_row at bs)
each_row at bs h = each_try OneRow _ _ (each_send user (place at) bs (in_row at bs h)) (λ _. each_wait ready_polls)

each_program : (left at : ℕ) (bs : List ℕ) → Each OneRow (program left at bs)
each_program zero at bs = each_done OneRow (ok tt)
each_program (suc left) at bs =
    let n = row_len at (length bs) in
    each_try OneRow _ _ (each_row at (take n bs) (omega (arith, row_room at (length bs), length-take (row_len at (length bs)) bs)))
    (λ _. each_program left (at + n) (drop n bs))

each_back : (left at : ℕ) (bs : List ℕ) (same : Bool) → Each OneRow (read_back left at bs same)
each_back zero at bs same = each_end same NotTaken
each_back (suc left) at bs same = each_try OneRow _ _ (each_read user at (min chunk (length bs))) (λ got. each_back left (at + chunk) (drop chunk bs) (same && alike got (take chunk bs)))

each_read-user : (at n : ℕ) → Each OneRow (read_user at n)
unfolding read_user
each_read-user at n = each_if OneRow (past at n) (refuse NotTaken) _ (each_done OneRow (err NotTaken)) (each_try OneRow _ _ (each_read user at n) (λ _. each_done OneRow (ok tt)))

each_write-user : (m : Mark) (at : ℕ) (bs : List ℕ) → Each OneRow (write_user m at bs)
unfolding write_user
each_write-user m at bs =
    each_if OneRow (past at (length bs)) _ _ (each_done OneRow (err NotTaken))
    (each_mark OneRow (widened m at (at + length bs)) _
    (each_try OneRow _ _ (each_program (row_count at (length bs)) at bs) (λ _. each_back (chunks (length bs)) at bs true)))

each_rows : (bits : List Bool) (at : ℕ) → at % 16 ≡ 0 → Each OneRow (program_rows at bits)
each_rows [] at h = each_done OneRow (ok tt)
each_rows (true ∷ bits) at h = each_try OneRow _ _ (each_row at zero_row (omega arith)) (λ _. each_rows bits (at + 16) (omega arith))
each_rows (false ∷ bits) at h = each_rows bits (at + 16) (omega arith)

each_chunk : (at n : ℕ) → at % 16 ≡ 0 → Each OneRow (scrub_chunk at n)
each_chunk at n h =
    each_try OneRow _ _ (each_read user at n) (λ bs.
    each_try OneRow _ _ (each_rows (dirty_rows 4 bs) at h) (λ _.
    each_if OneRow (some (dirty_rows 4 bs)) _ _
    (each_try OneRow _ _ (each_read user at n) (λ got. each_end (blank got) NotTaken))
    (each_done OneRow (ok tt))))

each_chunks : (left at end : ℕ) → at % 16 ≡ 0 → Each OneRow (scrub_to left at end)
each_chunks zero at end h = each_done OneRow (ok tt)
each_chunks (suc left) at end h = each_try OneRow _ _ (each_chunk at (min chunk (end - at)) h) (λ _. each_chunks left (at + 64) end (omega arith))

each_scrub : (m : Mark) → Each OneRow (scrub m)
unfolding scrub
each_scrub m = each_try OneRow _ _ (each_chunks (chunks (wipe_end m)) 0 (wipe_end m) (omega arith)) (λ _. each_mark OneRow none fine (each_done OneRow (ok tt)))

each_whole : (m : Mark) (n : ℕ) → Each OneRow (read_whole m n)
unfolding read_whole
each_whole m n =
    each_if OneRow (eqb n user_memory) _ _
    (each_try OneRow rf_off _ each_off (λ _. each_bind OneRow rf_wrote _ each_wrote (λ _. each_try OneRow _ _ (each_read user 0 user_memory) (λ out. each_mark OneRow (found out) fine (each_done OneRow (ok tt))))))
    (each_done OneRow (err NotTaken))

each_begin : (m : Mark) → Each OneRow (begin m)
unfolding begin
each_begin m =
    each_try OneRow prepare _ each_prepare (λ _.
    each_try OneRow rf_off _ each_off (λ _.
    each_if OneRow (is_none m) fine _ (each_done OneRow (ok tt)) (each_scrub m)))

each_live : Each OneRow go_live
unfolding go_live
each_live = each_bind OneRow rf_wrote _ each_wrote (λ _. each_on)

each_closing : (m : Mark) (off : Res Unit) → Each OneRow (closing m off)
unfolding closing
each_closing m off = each_bind OneRow (scrub m) _ (each_scrub m) (λ r. each_done OneRow _)

each_finish : (m : Mark) → Each OneRow (finish m)
unfolding finish
each_finish m =
    each_bind OneRow rf_off _ each_off (λ off.
    each_bind OneRow rf_wrote _ each_wrote (λ wrote.
    each_if OneRow wrote _ _ (each_mark OneRow whole (closing whole off) (each_closing whole off)) (each_closing m off)))

each_plain : (p : Proc (Res Unit)) → Each OneRow p → Each OneRow (plainly p)
each_plain p h = each_bind OneRow p _ h (λ r. each_done OneRow _)

-- each transfer of each call
pub each_call : (c : Call) (m : Mark) → Each OneRow (call_of c m)
each_call call.identify m = each_plain _ each_identify
each_call call.prepare m = each_plain _ each_prepare
each_call call.wait_ready m = each_plain (wait_ready ready_polls) (each_wait ready_polls)
each_call (call.read_user at n) m = each_plain _ (each_read-user at n)
each_call (call.write at bs) m = each_plain _ (each_write-user m at bs)
each_call call.rf_off m = each_plain _ each_off
each_call call.rf_on m = each_plain _ each_on
each_call call.rf_wrote m = each_bind OneRow rf_wrote _ each_wrote (λ wrote. each_done OneRow (Ok (Wrote wrote)))
each_call (call.read_whole n) m = each_plain _ (each_whole m n)
each_call call.scrub m = each_plain _ (each_scrub m)
each_call call.begin m = each_plain _ (each_begin m)
each_call call.go_live m = each_plain _ each_live
each_call call.finish m = each_plain _ (each_finish m)

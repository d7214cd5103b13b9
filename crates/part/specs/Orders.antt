-- What a write does. Source: document 01, 'The part of demand 3'; the addresses are those of tag.rs.
-- The part takes the writes that the calls make, and refuses every other.
--
--   order_of dev sent            == what the bytes `sent` to the address `dev` ask for
--   user_order sent              == the same at the user address: a poll where nothing is sent, one byte for RF_MNGT_Dyn, else a row
--   system_order sent            == the same at the system address: the password, or one byte of a register
--   bare sent o                 == the order o where the address is sent alone; Unknown where bytes follow it
--   in_row at n                  == n bytes at `at` are data for one row of user memory
--   takes o n r                 == a part with the registers r, and no cycle running, takes the order o with n bytes of data
--   accepted dev sent r         == the write is acknowledged: no cycle runs, and the part takes it
--   ordered o n ms r            == the registers after the order, where a cycle that begins takes `ms`
--   stored o payload memory     == the memory after it
--   registers_written, memory_written == both after a write that may be refused
use Rattle.std.specs.Prelude.{Bool, true, false, ◌&&◌, List, ℕ, ◌+◌, ◌-◌, ◌*◌, ◌/◌, ◌%◌, eqb, ltb, leb, length, get_or, drop}
use Rattle.slices.specs.Bytes.{splice}
use Rattle.scan.specs.Rows.{row}
use Rattle.scan.specs.Zeros.{alike}
use Rattle.protocol.specs.Transfer.{place_of}
use Rattle.protocol.specs.Tag.{user_memory, user, system, rf_switch_on, rf_switch_off, i2c_pwd, rf_mngt_dyn, password}
use Rattle.protocol.specs.Proc.{when◌then◌else◌}
use Rattle.part.specs.Part.{byte_at, fits, switches, free, with_rf, with_session, with_cycle, with_byte}
use Rattle.part.specs.declared.order.Order.{Order}
use Rattle.part.specs.declared.order.Order.TheVariants.{Poll, Row, Dynamic, Password, Byte, SwitchOn, SwitchOff, Unknown}
use Rattle.part.specs.declared.registers.Cycle.TheVariants as cycle
use Rattle.part.specs.declared.registers.Registers.{Registers}

abbrev pub user_order : List ℕ → Order
user_order sent =
    when eqb (length sent) 0 then Poll
    else when eqb (place_of sent) rf_mngt_dyn && eqb (length sent) 3 then Dynamic (get_or sent 2 0)
    else Row (place_of sent)

abbrev pub system_order : List ℕ → Order
system_order sent =
    when eqb (place_of sent) i2c_pwd && alike (drop 2 sent) password then Password
    else when eqb (length sent) 3 then Byte (place_of sent) (get_or sent 2 0)
    else Unknown

-- an address that is sent alone
abbrev pub bare : List ℕ → Order → Order
bare sent o = when eqb (length sent) 0 then o else Unknown

unfoldable pub order_of : ℕ → List ℕ → Order
order_of dev sent =
    when eqb dev user then user_order sent
    else when eqb dev system then system_order sent
    else when eqb dev rf_switch_on then bare sent SwitchOn
    else when eqb dev rf_switch_off then bare sent SwitchOff
    else Unknown

abbrev pub in_row : ℕ → ℕ → Bool
in_row at n = ltb 0 n && ltb at user_memory && leb n (row - at % row)

abbrev pub takes : Order → ℕ → Registers → Bool
takes Poll n r = true
takes (Row at) n r = in_row at n
takes (Dynamic v) n r = true
takes Password n r = true
takes (Byte at v) n r = r.session && fits at v
takes SwitchOn n r = switches r
takes SwitchOff n r = switches r
takes Unknown n r = false

abbrev pub accepted : ℕ → List ℕ → Registers → Bool
accepted dev sent r = free r && takes (order_of dev sent) (length sent - 2) r

abbrev pub ordered : Order → ℕ → ℕ → Registers → Registers
ordered Poll n ms r = r
ordered (Row at) n ms r = with_cycle ms (cycle.Row at n) r
ordered (Dynamic v) n ms r = with_rf (r.rf / 4 * 4 + v % 4) r
ordered Password n ms r = with_session true r
ordered (Byte at v) n ms r = with_cycle ms (cycle.Byte at (byte_at at r)) (with_byte at v r)
ordered SwitchOn n ms r = with_rf (r.rf % 4) r
ordered SwitchOff n ms r = with_rf (r.rf % 4 + 4) r
ordered Unknown n ms r = r

abbrev pub stored : Order → List ℕ → List ℕ → List ℕ
stored Poll payload memory = memory
stored (Row at) payload memory = splice memory at payload
stored (Dynamic v) payload memory = memory
stored Password payload memory = memory
stored (Byte at v) payload memory = memory
stored SwitchOn payload memory = memory
stored SwitchOff payload memory = memory
stored Unknown payload memory = memory

abbrev pub registers_written : ℕ → List ℕ → ℕ → Registers → Registers
registers_written dev sent ms r = when accepted dev sent r then ordered (order_of dev sent) (length sent - 2) ms r else r

abbrev pub memory_written : ℕ → List ℕ → Registers → List ℕ → List ℕ
memory_written dev sent r memory = when accepted dev sent r then stored (order_of dev sent) (drop 2 sent) memory else memory

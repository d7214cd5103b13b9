-- What the simulated part answers: the definition, on a lent memory of the part's size. Source: document 01, 'The part of demand 3' (crate
-- `part`). Where the memory or the identification is of another size, everything is refused and nothing changes (docs/DECISIONS.md, 33).
--
--   sized memory, both memory identity     == the memory is of the part's size; and so is the identification
--   refused_by r                            == refused, with the registers as they were
--   wrote, memory_wrote                     == a write: its answer, and the memory after it
--   did_read, out_read                       == a read: its answer, and the buffer after it, which it fills or leaves alone
--   phoned, memory_phoned                   == a phone's visit
--   powered_up, memory_left                  == a cut and power-up
--   Fills l n i m                          == what the look l reads fills n bytes, with an identification of i bytes and a memory of m
--   Stores o s m                           == what the order o stores, of s bytes that are sent, lies inside a memory of m
use Rattle.std.specs.Prelude.{◌≡◌, Bool, false, ◌&&◌, List, ℕ, ◌+◌, ◌-◌, ◌≤◌, eqb, length}
use Rattle.protocol.specs.Tag.{user_memory, id_length}
use Rattle.protocol.specs.Proc.{when◌then◌else◌}
use Rattle.part.specs.Orders.{accepted, registers_written, memory_written}
use Rattle.part.specs.Looks.{look_of, answered, shown, registers_read}
use Rattle.part.specs.Power.{registers_visited, memory_visited, registers_cut, memory_cut}
use Rattle.part.specs.declared.look.Look.{Look}
use Rattle.part.specs.declared.look.Look.TheVariants as look
use Rattle.part.specs.declared.order.Order.{Order}
use Rattle.part.specs.declared.order.Order.TheVariants as order
use Rattle.part.specs.declared.registers.Registers.{Registers}
use Rattle.simulated.specs.declared.Answer.{Answer}

-- a memory of the part's size
abbrev pub sized : List ℕ → Bool
sized memory = eqb (length memory) user_memory

-- and an identification of its size
abbrev pub both : List ℕ → List ℕ → Bool
both memory identity = eqb (length memory) user_memory && eqb (length identity) id_length

abbrev pub refused_by : Registers → Answer
refused_by r = record { ack = false; registers = r }

abbrev pub wrote : ℕ → List ℕ → ℕ → List ℕ → Registers → Answer
wrote dev sent ms memory r = when sized memory then record { ack = accepted dev sent r; registers = registers_written dev sent ms r } else refused_by r

abbrev pub memory_wrote : ℕ → List ℕ → List ℕ → Registers → List ℕ
memory_wrote dev sent memory r = when sized memory then memory_written dev sent r memory else memory

abbrev pub did_read : ℕ → List ℕ → ℕ → List ℕ → List ℕ → Registers → Answer
did_read dev head n identity memory r = when both memory identity then record { ack = answered dev head n r; registers = registers_read dev head n r } else refused_by r

abbrev pub out_read : ℕ → List ℕ → List ℕ → List ℕ → Registers → List ℕ → List ℕ
out_read dev head identity memory r out =
    when both memory identity && answered dev head (length out) r then shown (look_of dev head (length out)) (length out) identity memory r else out

abbrev pub phoned : ℕ → ℕ → List ℕ → Registers → Registers
phoned at n memory r = when sized memory then registers_visited at n r else r

abbrev pub memory_phoned : ℕ → List ℕ → List ℕ → Registers → List ℕ
memory_phoned at bs memory r = when sized memory then memory_visited at bs r memory else memory

abbrev pub powered_up : Bool → List ℕ → Registers → Registers
powered_up old memory r = when sized memory then registers_cut old r else r

abbrev pub memory_left : List ℕ → List ℕ → Registers → List ℕ
memory_left bs memory r = when sized memory then memory_cut bs r memory else memory

-- what is read fills n bytes, with an identification of i bytes and a memory of m
abbrev pub Fills : Look → ℕ → ℕ → ℕ → Type 0
Fills (look.Memory at) n i m = at + n ≤ m
Fills look.Dynamic n i m = n ≡ 1
Fills look.Session n i m = n ≡ 1
Fills look.Status n i m = n ≡ 1
Fills (look.Byte at) n i m = n ≡ 1
Fills look.Identity n i m = n ≡ i
Fills look.Unknown n i m = n ≡ 0

-- what is stored of s bytes lies inside a memory of m
abbrev pub Stores : Order → ℕ → ℕ → Type 0
Stores order.Poll s m = Unit
Stores (order.Row at) s m = (2 ≤ s) × (at + (s - 2) ≤ m)
Stores (order.Dynamic v) s m = Unit
Stores order.Password s m = Unit
Stores (order.Byte at v) s m = Unit
Stores order.SwitchOn s m = Unit
Stores order.SwitchOff s m = Unit
Stores order.Unknown s m = Unit

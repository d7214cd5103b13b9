-- The part on the bus. Source: document 01, 'The part of demand 3'.
--
--   reply_of t p        == what the part p replies to the transfer t
--   after_of t ms p     == the part after it, where a cycle that begins takes `ms` milliseconds, 99 at most. Only a delay shortens one
-- The part sees the bytes that are sent; where the place ends and the data begins is for it to say.
use Rattle.std.specs.Prelude.{true, [], ◌++◌, ℕ, ◌-◌}
use Rattle.protocol.specs.Transfer.{Transfer, write, write_read, delay, Reply}
use Rattle.part.specs.Part.{Part, with_busy}
use Rattle.part.specs.Orders.{accepted, registers_written, memory_written}
use Rattle.part.specs.Looks.{answered, bytes_read, registers_read}

abbrev pub reply_of : Transfer → Part → Reply
reply_of (write dev head payload) p = record { ack = accepted dev (head ++ payload) p.registers; got = [] }
reply_of (write_read dev head n) p = record {
  ack = answered dev head n p.registers;
  got = bytes_read dev head n p.identity p.memory p.registers;
}
reply_of (delay ms) p = record { ack = true; got = [] }

abbrev pub after_of : Transfer → ℕ → Part → Part
after_of (write dev head payload) ms p = record {
  identity = p.identity;
  memory = memory_written dev (head ++ payload) p.registers p.memory;
  registers = registers_written dev (head ++ payload) ms p.registers;
}
after_of (write_read dev head n) ms p = record { identity = p.identity; memory = p.memory; registers = registers_read dev head n p.registers }
after_of (delay d) ms p = record { identity = p.identity; memory = p.memory; registers = with_busy (p.registers.busy - d) p.registers }

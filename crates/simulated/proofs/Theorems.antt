-- The simulated part is the part of demand 3: what its functions promise is what the definition says of the same part.
use mathlib.Core.Path.{◌≡◌, refl}
use mathlib.Core.Bool.{true, false}
use mathlib.Core.List.{List, ◌++◌}
use Prim.Native.Nat.{ℕ, ◌-◌}
use lib.ListN.{length}
use borrow.Author.Tests.{eq-eqb}
use Rattle.protocol.specs.Transfer.{write, write_read, delay}
use Rattle.part.specs.Part.{Part, ThePart, with_busy}
use Rattle.part.specs.Bus.{reply_of, after_of}
use Rattle.part.specs.Power.{writes, visited, Torn, cut}
use Rattle.simulated.specs.Simulated.{both, wrote, memory_wrote, did_read, out_read, phoned, memory_phoned, powered_up, memory_left}

module _ (p : Part) (t : ThePart p) where
  -- a write: its reply, and the part after it
  pub writes_as : (dev : ℕ) (head payload : List ℕ) (ms : ℕ)
      → (wrote dev (head ++ payload) ms p.memory p.registers
      ≡ record { ack = (reply_of (write dev head payload) p).ack; registers = (after_of (write dev head payload) ms p).registers })
      × (memory_wrote dev (head ++ payload) p.memory p.registers ≡ (after_of (write dev head payload) ms p).memory)
  writes_as dev head payload ms = (rw (eq-eqb (length p.memory) 8192 t.bytes), rw (eq-eqb (length p.memory) 8192 t.bytes))

  sizes : both p.memory p.identity ≡ true
  sizes = rw (eq-eqb (length p.memory) 8192 t.bytes) (eq-eqb (length p.identity) 12 t.identified)

  -- a read: its reply, and the registers after it; the bytes fill the buffer, or it is left alone
  pub reads_as : (dev : ℕ) (head out : List ℕ) (ms : ℕ)
      → (did_read dev head (length out) p.identity p.memory p.registers
      ≡ record { ack = (reply_of (write_read dev head (length out)) p).ack; registers = (after_of (write_read dev head (length out)) ms p).registers })
      × ((reply_of (write_read dev head (length out)) p).ack ≡ true → out_read dev head p.identity p.memory p.registers out ≡ (reply_of (write_read dev head (length out)) p).got)
      × ((reply_of (write_read dev head (length out)) p).ack ≡ false → out_read dev head p.identity p.memory p.registers out ≡ out)
  reads_as dev head out ms = (rw sizes, λ e. rw sizes (rw e refl), λ e. rw sizes (rw e refl))

  -- a delay
  pub waits_as : (d ms : ℕ) → with_busy (p.registers.busy - d) p.registers ≡ (after_of (delay d) ms p).registers
  waits_as d ms = refl

  -- a phone
  pub phones_as : (at : ℕ) (bs : List ℕ)
      → (phoned at (length bs) p.memory p.registers ≡ (visited (writes at bs) p).registers)
      × (memory_phoned at bs p.memory p.registers ≡ (visited (writes at bs) p).memory)
  phones_as at bs = (rw (eq-eqb (length p.memory) 8192 t.bytes), rw (eq-eqb (length p.memory) 8192 t.bytes))

  -- a cut and power-up
  pub cuts_as : (l : Torn)
      → (powered_up l.old p.memory p.registers ≡ (cut l p).registers) × (memory_left l.bytes p.memory p.registers ≡ (cut l p).memory)
  cuts_as l = (rw (eq-eqb (length p.memory) 8192 t.bytes), rw (eq-eqb (length p.memory) 8192 t.bytes))

-- The 64-bit step that an entry point returns. Source: docs/ARCHITECTURE.md, 'The step'; include/skipnadur.h.
--
--   transfer_length, reply_length == 19 and 64: a transfer buffer and a reply buffer have so many bytes at least, and only those are written
--   step_of kind a b c        == bits 0 to 7 the kind, 8 to 15 a, 16 to 31 b, 32 to 63 c
--   answer_step n rows v      == kind 0: the number, the rows programmed, the value
--   transfer_step out t       == kind 1, a write: address, bytes to send; kind 2, a read into the reply buffer, or 3, into `out`:
--                               address, bytes to send, bytes to read; kind 4, a delay: its milliseconds
--   padded bs                == the first bytes of the transfer buffer: bs, zeros after them up to 19
--   ask_step out a            == the step of the transfer that a means (`ask-step`)
--   AskFits n a              == what a sends and reads fits: a row of the n bytes that were lent, at most the whole memory
use Rattle.std.specs.Prelude.{ℕ, ◌+◌, ◌-◌, ◌*◌, ◌≤◌, Bool, List, ◌++◌, length, replicate}
use Rattle.slices.specs.Pick.{pick}
use Rattle.scan.specs.Rows.{row}
use Rattle.protocol.specs.Transfer.{Transfer, write, write_read, delay}
use Rattle.protocol.specs.Tag.{user, system, user_memory}
use Rattle.machine.specs.declared.ask.Ask.{Ask}
use Rattle.machine.specs.declared.ask.Ask.TheVariants as A

abbrev pub transfer_length : ℕ
transfer_length = 19

abbrev pub reply_length : ℕ
reply_length = 64

abbrev pub step_of : ℕ → ℕ → ℕ → ℕ → ℕ
step_of kind a b c = kind + a * 256 + b * 65536 + c * 4294967296

abbrev pub answer_step : ℕ → ℕ → ℕ → ℕ
answer_step n rows v = step_of 0 n rows v

abbrev pub transfer_step : Bool → Transfer → ℕ
transfer_step out (write dev head payload) = step_of 1 dev (length (head ++ payload)) 0
transfer_step out (write_read dev head n) = step_of (pick out 3 2) dev (length head) n
transfer_step out (delay ms) = step_of 4 0 0 ms

abbrev pub padded : List ℕ → List ℕ
padded bs = bs ++ replicate (transfer_length - length bs) 0

abbrev pub ask_step : Bool → Ask → ℕ
ask_step out (A.Address dev) = step_of 1 dev 0 0
ask_step out (A.Byte dev at value) = step_of 1 dev 3 0
ask_step out A.Password = step_of 1 system 19 0
ask_step out (A.Zeros at) = step_of 1 user 18 0
ask_step out (A.Row at from n) = step_of 1 user (n + 2) 0
ask_step out (A.Read dev at n) = step_of (pick out 3 2) dev 2 n
ask_step out (A.Delay ms) = step_of 4 0 0 ms

abbrev pub AskFits : ℕ → Ask → Type 0
AskFits lent (A.Address dev) = Unit
AskFits lent (A.Byte dev at value) = Unit
AskFits lent A.Password = Unit
AskFits lent (A.Zeros at) = Unit
AskFits lent (A.Row at from n) = (from + n ≤ lent) × (n ≤ row)
AskFits lent (A.Read dev at n) = n ≤ user_memory
AskFits lent (A.Delay ms) = Unit

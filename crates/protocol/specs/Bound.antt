-- What every run of a call keeps to. Source: document 01, 'A session's transfers (tag.rs)': `scrub` makes at most 51,968 transfers, and a
-- row write never touches two rows of 16 bytes.
--
--   AtMost n p    == whatever is replied, p makes at most n transfers on the bus
--   Each P p      == whatever is replied, P holds of each transfer that p asks for
--   Every P es    == P holds of the transfer of each exchange
--   OneRow t      == where t is a row write, its data stays in one row of 16 bytes
use Rattle.std.specs.Prelude.{◌≡◌, true, ℕ, ◌+◌, ◌-◌, ◌%◌, ◌≤◌, length, List, [], ◌∷◌}
use Rattle.scan.specs.Rows.{row}
use Rattle.protocol.specs.Transfer.{Transfer, write, write_read, delay, Reply, busy, is_row, place_of}
use Rattle.protocol.specs.Tag.{user, user_memory}
use Rattle.protocol.specs.Trace.{Exchange}
use Rattle.protocol.specs.Proc.{Proc, done, ask, mark}

unfoldable pub AtMost : {A : Type 0} → ℕ → Proc A → Type 0
AtMost n (done a) = Unit
AtMost n (ask t k) = (busy t ≤ n) × ((r : Reply) → AtMost (n - busy t) (k r))
AtMost n (mark m p) = AtMost n p

unfoldable pub Each : {A : Type 0} → (Transfer → Type 0) → Proc A → Type 0
Each P (done a) = Unit
Each P (ask t k) = P t × ((r : Reply) → Each P (k r))
Each P (mark m p) = Each P p

abbrev pub Every : (Transfer → Type 0) → List Exchange → Type 0
Every P [] = Unit
Every P (e ∷ es) = P e.transfer × Every P es

unfoldable pub OneRow : Transfer → Type 0
OneRow (write dev head payload) = is_row user user_memory (write dev head payload) ≡ true → place_of head % row + length payload ≤ row
OneRow (write_read dev head n) = Unit
OneRow (delay ms) = Unit

-- Bench cards 9 and 10 of document 01.
--
--   obliging      == a part that acknowledges everything and gives no bytes
--   row_sizes es   == the lengths of the data of each row write
--   Cards         == the cards, each as what the definitions compute; `cards` (proofs/Theorems) proves it
use Rattle.std.specs.Prelude.{ℕ, ◌≡◌, List, [], ◌∷◌, ◌++◌, Bool, true, length, replicate}
use Rattle.protocol.specs.Proc.{when◌then◌else◌}
use Rattle.protocol.specs.Transfer.{Transfer, write, write_read, delay, is_row}
use Rattle.protocol.specs.Tag.{user, user_memory}
use Rattle.protocol.specs.Mark.{wipe_end, none}
use Rattle.protocol.specs.Write.{write_user}
use Rattle.protocol.specs.Trace.{Replies, Exchange, trace}

abbrev pub obliging : Replies
obliging n = record { ack = true; got = [] }

abbrev size_if : Bool → Transfer → List ℕ
size_if b (write dev head payload) = when b then length payload ∷ [] else []
size_if b (write_read dev head n) = []
size_if b (delay ms) = []

abbrev pub row_sizes : List Exchange → List ℕ
row_sizes [] = []
row_sizes (e ∷ es) = size_if (is_row user user_memory e.transfer) e.transfer ++ row_sizes es

pub record Cards : Type 0 where
  -- 20 bytes at 10 make rows of 6 and 14
  pub nine : row_sizes (trace (write_user none 10 (replicate 20 7)) obliging) ≡ 6 ∷ 14 ∷ []
  -- mark 17 wipes to 32
  pub ten : wipe_end 17 ≡ 32

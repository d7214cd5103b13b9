-- The transfer that an `Ask` means. From no public document: an `Ask` is a transfer of tag.rs in the few numbers that the code keeps of it;
-- the transfer itself is protocol's (protocol/specs/Transfer).
--
--   meant lent a   == the transfer, where `lent` are the bytes that were lent to the call
--   first got      == the first byte that was read
use Rattle.std.specs.Prelude.{ℕ, List, [], ◌∷◌, get_or, take, drop}
use Rattle.protocol.specs.Transfer.{Transfer, write, write_read, delay, place}
use Rattle.protocol.specs.Tag.{user, system, i2c_pwd, password}
use Rattle.protocol.specs.Scrub.{zero_row}
use Rattle.machine.specs.declared.ask.Ask.{Ask}
use Rattle.machine.specs.declared.ask.Ask.TheVariants.{Address, Byte, Password, Zeros, Row, Read, Delay}

abbrev pub meant : List ℕ → Ask → Transfer
meant lent (Address dev) = write dev [] []
meant lent (Byte dev at value) = write dev (place at) (value ∷ [])
meant lent Password = write system (place i2c_pwd) password
meant lent (Zeros at) = write user (place at) zero_row
meant lent (Row at from n) = write user (place at) (take n (drop from lent))
meant lent (Read dev at n) = write_read dev (place at) n
meant lent (Delay ms) = delay ms

abbrev pub first : List ℕ → ℕ
first got = get_or got 0 0

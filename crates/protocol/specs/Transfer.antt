-- What passes on the bus. Source: tag.rs, the trait `Bus`.
--
--   Transfer               == one of the three that follow: a function of `Bus` with what it is given
--   write dev head payload == START, the address `dev` for writing, head, payload, STOP. `head` is the place that is meant, as two
--                             bytes, or nothing where the address alone is sent; the data bytes stand apart from it
--   write_read dev head n   == head as a write, a repeated START, then n bytes read
--   delay ms               == nothing passes for `ms` milliseconds
--   Reply                  == whether the part acknowledged, and the bytes that it gave. After a delay a reply says nothing
--   place at               == a place or a register as two bytes, high byte first
--   place_of head           == the place that two bytes are
--   sent t                 == the bytes that are sent after the address
--   busy t                 == 1 for a transfer on the bus, 0 for a delay
--   is_row user size t      == t is a row write: data for the device `user`, at a place of its memory of `size` bytes
use Rattle.std.specs.Prelude.{ℕ, ◌+◌, ◌*◌, ◌/◌, ◌%◌, List, [], ◌∷◌, ◌++◌, Bool, false, ◌&&◌, length, get_or, eqb, ltb}

pub data Transfer : Type 0 where
  write : ℕ → List ℕ → List ℕ → Transfer
  write_read : ℕ → List ℕ → ℕ → Transfer
  delay : ℕ → Transfer

pub record Reply : Type 0 where
  pub ack : Bool
  pub got : List ℕ

abbrev pub place : ℕ → List ℕ
place at = at / 256 % 256 ∷ at % 256 ∷ []

abbrev pub place_of : List ℕ → ℕ
place_of head = get_or head 0 0 * 256 + get_or head 1 0

abbrev pub sent : Transfer → List ℕ
sent (write dev head payload) = head ++ payload
sent (write_read dev head n) = head
sent (delay ms) = []

abbrev pub busy : Transfer → ℕ
busy (write dev head payload) = 1
busy (write_read dev head n) = 1
busy (delay ms) = 0

abbrev pub is_row : ℕ → ℕ → Transfer → Bool
is_row user size (write dev head payload) = eqb dev user && ltb 0 (length payload) && ltb (place_of head) size
is_row user size (write_read dev head n) = false
is_row user size (delay ms) = false

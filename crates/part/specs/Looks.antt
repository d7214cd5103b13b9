-- What a read gives. Source: document 01, 'The part of demand 3'; the addresses are those of tag.rs.
-- The part answers the reads that the calls make, and refuses every other.
--
--   look_of dev head n               == what reading n bytes after `head` from the address `dev` asks for
--   user_look at n                   == the same at the user address: memory, or, for one byte, a dynamic register
--   system_look at n                 == the same at the system address: for one byte a system register, or the identification
--   among at a x b y c z            == x, y or z where the address is a, b or c; else Unknown
--   dynamic_at at, system_at at       == a dynamic register and a system register, by its address; Unknown where there is none
--   known k                         == such a read is answered
--   answered dev head n r           == it is acknowledged: no cycle runs, and it is such a read
--   shown k n identity memory r     == the bytes that are read
--   bit b v                         == a bit of a register: v where b holds, else 0
--   looked k r                      == the registers after it: reading the status clears it
--   bytes_read, registers_read        == both for a read that may be refused
use Rattle.std.specs.Prelude.{Bool, true, false, ◌&&◌, List, [], ◌∷◌, ℕ, ◌+◌, eqb, leb, length, take, drop}
use Rattle.protocol.specs.Transfer.{place_of}
use Rattle.protocol.specs.Tag.{user_memory, user, system, gpo1, rf_mngt, i2c_cfg, mem_size, rf_mngt_dyn, i2c_sso_dyn, it_sts_dyn, id_length}
use Rattle.protocol.specs.Proc.{when◌then◌else◌}
use Rattle.part.specs.Part.{byte_at, free, with_reported}
use Rattle.part.specs.declared.look.Look.{Look}
use Rattle.part.specs.declared.look.Look.TheVariants.{Memory, Dynamic, Session, Status, Byte, Identity, Unknown}
use Rattle.part.specs.declared.registers.Registers.{Registers}

abbrev pub among : ℕ → ℕ → Look → ℕ → Look → ℕ → Look → Look
among at a x b y c z = when eqb at a then x else when eqb at b then y else when eqb at c then z else Unknown

-- a dynamic register, by its address
abbrev pub dynamic_at : ℕ → Look
dynamic_at at = among at rf_mngt_dyn Dynamic i2c_sso_dyn Session it_sts_dyn Status

-- a system register, by its address
abbrev pub system_at : ℕ → Look
system_at at = among at gpo1 (Byte gpo1) rf_mngt (Byte rf_mngt) i2c_cfg (Byte i2c_cfg)

abbrev pub user_look : ℕ → ℕ → Look
user_look at n = when leb (at + n) user_memory then Memory at else when eqb n 1 then dynamic_at at else Unknown

abbrev pub system_look : ℕ → ℕ → Look
system_look at n = when eqb n 1 then system_at at else when eqb at mem_size && eqb n id_length then Identity else Unknown

unfoldable pub look_of : ℕ → List ℕ → ℕ → Look
look_of dev head n =
    when eqb (length head) 2 then (when eqb dev user then user_look (place_of head) n else when eqb dev system then system_look (place_of head) n else Unknown)
    else Unknown

abbrev pub known : Look → Bool
known (Memory at) = true
known Dynamic = true
known Session = true
known Status = true
known (Byte at) = true
known Identity = true
known Unknown = false

abbrev pub answered : ℕ → List ℕ → ℕ → Registers → Bool
answered dev head n r = free r && known (look_of dev head n)

-- a bit of a register
abbrev pub bit : Bool → ℕ → ℕ
bit b v = when b then v else 0

abbrev pub shown : Look → ℕ → List ℕ → List ℕ → Registers → List ℕ
shown (Memory at) n identity memory r = take n (drop at memory)
shown Dynamic n identity memory r = r.rf ∷ []
shown Session n identity memory r = bit r.session 0x01 ∷ []
shown Status n identity memory r = bit r.reported 0x80 ∷ []
shown (Byte at) n identity memory r = byte_at at r ∷ []
shown Identity n identity memory r = identity
shown Unknown n identity memory r = []

abbrev pub looked : Look → Registers → Registers
looked (Memory at) r = r
looked Dynamic r = r
looked Session r = r
looked Status r = with_reported false r
looked (Byte at) r = r
looked Identity r = r
looked Unknown r = r

abbrev pub bytes_read : ℕ → List ℕ → ℕ → List ℕ → List ℕ → Registers → List ℕ
bytes_read dev head n identity memory r = when answered dev head n r then shown (look_of dev head n) n identity memory r else []

abbrev pub registers_read : ℕ → List ℕ → ℕ → Registers → Registers
registers_read dev head n r = when answered dev head n r then looked (look_of dev head n) r else r

-- The ST25DV64KC: its addresses, registers and values. Source: the constants of tag.rs, which quote the tables of DS13519.
--
--   user_memory    == bytes of user memory: 8 KB (secure-elements.md, 'Part, bus, pins')
--   user          == address of user memory 0000 to 1FFF and of the dynamic registers 2000 to 2007 (table 89)
--   system        == address of the system area: static registers, UID, password (table 89)
--   rf_switch_on    == RFSwitchOn, an address-only write; refused until I2C_CFG bit 5 is set
--   rf_switch_off   == RFSwitchOff, likewise
--   gpo1          == GPO1, system (table 31)
--   rf_mngt        == RF_MNGT, system: the RF state at power-up (table 23)
--   i2c_cfg        == I2C_CFG, system (table 91)
--   mem_size       == MEM_SIZE, system, two bytes low first; then BLK_SIZE, IC_REF and the UID of eight bytes (table 13)
--   i2c_pwd        == I2C_PWD, system: where a password is presented (section 6.6.1)
--   rf_mngt_dyn     == RF_MNGT_Dyn, at the user address (tables 24, 25)
--   i2c_sso_dyn     == I2C_SSO_Dyn, at the user address (tables 68, 69)
--   it_sts_dyn      == IT_STS_Dyn, at the user address, cleared by reading (tables 36, 37)
--   id_length      == bytes from MEM_SIZE to the last of the UID, 0014 to 001F
--   i2c_cfg_value   == I2C_CFG as it is set: device code 1010, E0 = 1, bit 5 lets RF be switched (table 91)
--   rf_mngt_value   == RF_MNGT = RF_SLEEP: silent from power-up (table 23)
--   gpo1_value     == GPO1 = GPO_EN, RF_ACTIVITY_EN, RF_WRITE_EN: a phone's write is reported (table 31, note under 37)
--   uid_prefix     == the last byte of the UID, the prefix of ISO 15693
--   password      == what is presented: the all-zero password, 09, and the password again (section 6.6.1)
--   system_write_ms == the wait after a write to a system register
--   ready_polls    == polls for the end of a write cycle (section 6.4.3, table 251)
--   ready_poll_ms   == the pause after a failed poll
--   rf_tries       == tries to switch RF; the part refuses everything while a write cycle runs
--   rf_retry_ms     == the pause after a failed try
--   chunk         == bytes read in one transfer while checking or scanning: four rows
--   off_bit v      == bit 2, RF_OFF, of RF_MNGT_Dyn is set (table 25)
--   open_bit v     == bit 0 of I2C_SSO_Dyn is set: the session is open (table 69)
--   wrote_bit v    == bit 7, RF_WRITE, of IT_STS_Dyn is set (table 37)
use Rattle.std.specs.Prelude.{ℕ, ◌/◌, ◌%◌, List, ◌∷◌, ◌++◌, Bool, replicate, eqb}

abbrev pub user_memory : ℕ
user_memory = 8192

abbrev pub user : ℕ
user = 0x53

abbrev pub system : ℕ
system = 0x57

abbrev pub rf_switch_on : ℕ
rf_switch_on = 0x51

abbrev pub rf_switch_off : ℕ
rf_switch_off = 0x55

abbrev pub gpo1 : ℕ
gpo1 = 0x0000

abbrev pub rf_mngt : ℕ
rf_mngt = 0x0003

abbrev pub i2c_cfg : ℕ
i2c_cfg = 0x000E

abbrev pub mem_size : ℕ
mem_size = 0x0014

abbrev pub i2c_pwd : ℕ
i2c_pwd = 0x0900

abbrev pub rf_mngt_dyn : ℕ
rf_mngt_dyn = 0x2003

abbrev pub i2c_sso_dyn : ℕ
i2c_sso_dyn = 0x2004

abbrev pub it_sts_dyn : ℕ
it_sts_dyn = 0x2005

abbrev pub id_length : ℕ
id_length = 12

abbrev pub i2c_cfg_value : ℕ
i2c_cfg_value = 0x3A

abbrev pub rf_mngt_value : ℕ
rf_mngt_value = 0x02

abbrev pub gpo1_value : ℕ
gpo1_value = 0x85

abbrev pub uid_prefix : ℕ
uid_prefix = 0xE0

abbrev pub password : List ℕ
password = replicate 8 0 ++ 0x09 ∷ replicate 8 0

abbrev pub system_write_ms : ℕ
system_write_ms = 10

abbrev pub ready_polls : ℕ
ready_polls = 100

abbrev pub ready_poll_ms : ℕ
ready_poll_ms = 1

abbrev pub rf_tries : ℕ
rf_tries = 10

abbrev pub rf_retry_ms : ℕ
rf_retry_ms = 25

abbrev pub chunk : ℕ
chunk = 64

abbrev pub off_bit : ℕ → Bool
off_bit v = eqb (v / 4 % 2) 1

abbrev pub open_bit : ℕ → Bool
open_bit v = eqb (v % 2) 1

abbrev pub wrote_bit : ℕ → Bool
wrote_bit v = eqb (v / 128 % 2) 1

-- Who answers, and its configuration. Source: tag.rs, `identify`, `open_session`, `write_system`, `prepare`.
--
--   is_the_part id           == the UID ends in E0, and MEM_SIZE (blocks of four, minus one) adds up to 8,192
--   identify               == `identify`: MEM_SIZE to the end of the UID, in one transfer
--   open_session            == `open_session`: present the password, wait, check I2C_SSO_Dyn bit 0
--   write_system at value   == `write_system`: one byte, waited out and read back
--   is_set_up cfg            == a part with this I2C_CFG was set up before (document 01, `prepare`)
--   reports gpo            == a part with this GPO1 reports a phone's write
--   set_up cfg              == the setup that is done once: I2C_CFG and RF_MNGT, only on a part that is not set up
--   reporting              == GPO1, judged by itself
--   prepare                == `prepare`
use Rattle.std.specs.Prelude.{ℕ, ◌+◌, ◌*◌, List, [], ◌∷◌, Bool, ◌&&◌, eqb, get_or}
use Rattle.protocol.specs.Transfer.{place}
use Rattle.protocol.specs.Tag.{user_memory, user, system, gpo1, rf_mngt, i2c_cfg, mem_size, i2c_pwd, i2c_sso_dyn, id_length, i2c_cfg_value, rf_mngt_value, gpo1_value, uid_prefix, password, system_write_ms, ready_polls, open_bit}
use Rattle.protocol.specs.Proc.{Proc, Res, try, fine, refuse, unless, when◌then◌else◌}
use Rattle.protocol.specs.Bus.{send, read, read_byte, pause}
use Rattle.protocol.specs.Wait.{wait_ready}
use Rattle.protocol.specs.declared.answer.TagError.TheVariants.{NotThePart, Refused, NotTaken}

abbrev pub is_the_part : List ℕ → Bool
is_the_part id = eqb (get_or id 11 0) uid_prefix && eqb ((get_or id 0 0 + 256 * get_or id 1 0 + 1) * 4) user_memory

abbrev pub identify : Proc (Res Unit)
identify = try (read system mem_size id_length) (λ id. when is_the_part id then fine else refuse NotThePart)

abbrev pub open_session : Proc (Res Unit)
open_session =
    try (send system (place i2c_pwd) password) (λ _.
    try (wait_ready ready_polls) (λ _.
    try (read_byte user i2c_sso_dyn) (λ v.
    when open_bit v then fine else refuse Refused)))

abbrev pub write_system : ℕ → ℕ → Proc (Res Unit)
write_system at value =
    try (send system (place at) (value ∷ [])) (λ _.
    try (pause system_write_ms) (λ _.
    try (wait_ready ready_polls) (λ _.
    try (read_byte system at) (λ v.
    when eqb v value then fine else refuse NotTaken))))

abbrev pub is_set_up : ℕ → Bool
is_set_up cfg = eqb cfg i2c_cfg_value

abbrev pub reports : ℕ → Bool
reports gpo = eqb gpo gpo1_value

abbrev pub set_up : ℕ → Proc (Res Unit)
set_up cfg =
    unless (is_set_up cfg)
    (try open_session (λ _.
    try (write_system i2c_cfg i2c_cfg_value) (λ _.
    write_system rf_mngt rf_mngt_value)))

abbrev pub reporting : Proc (Res Unit)
reporting =
    try (read_byte system gpo1) (λ gpo.
    unless (reports gpo)
    (try open_session (λ _.
    write_system gpo1 gpo1_value)))

abbrev pub prepare : Proc (Res Unit)
prepare =
    try identify (λ _.
    try (read_byte system i2c_cfg) (λ cfg.
    try (set_up cfg) (λ _.
    reporting)))

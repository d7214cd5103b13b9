-- Switching RF, and a phone's write. Source: tag.rs, `rf_off`, `rf_on`, `rf_wrote`; DS13519 tables 24, 25, 37.
--
--   silent, open           == what RF_MNGT_Dyn has to read as: bit 2 set; zero
--   off_once, on_once        == one try of each: the switch; for on, RF_MNGT_Dyn = 0 to clear the RF_SLEEP of power-up; the check
--   once on                == the one or the other
--   tries on n             == for _ in 0..n { if once(on) { return Ok(()) } delay_ms(25) } Err(RfStuck)
--   rf_off, rf_on            == `rf_off`, `rf_on`
--   rf_wrote                == `rf_wrote`: yes too where the read fails
use Rattle.std.specs.Prelude.{ℕ, zero, suc, [], ◌∷◌, Bool, true, false, eqb, get_or}
use Rattle.protocol.specs.Transfer.{write_read, delay, place}
use Rattle.protocol.specs.Tag.{user, rf_switch_on, rf_switch_off, rf_mngt_dyn, it_sts_dyn, rf_tries, rf_retry_ms, off_bit, wrote_bit}
use Rattle.protocol.specs.Proc.{Proc, done, ask, ◌>>=◌, Res, fine, refuse, both, when◌then◌else◌}
use Rattle.protocol.specs.Bus.{taken, byte_is}
use Rattle.protocol.specs.declared.answer.TagError.TheVariants.{RfStuck}

abbrev pub silent : ℕ → Bool
silent v = off_bit v

abbrev pub «open» : ℕ → Bool
«open» v = eqb v 0

abbrev pub off_once : Proc Bool
off_once = both (taken rf_switch_off [] []) (byte_is user rf_mngt_dyn silent)

abbrev pub on_once : Proc Bool
on_once = both (taken rf_switch_on [] []) (both (taken user (place rf_mngt_dyn) (0x00 ∷ [])) (byte_is user rf_mngt_dyn «open»))

abbrev pub once : Bool → Proc Bool
once on = when on then on_once else off_once

abbrev pub tries : Bool → ℕ → Proc (Res Unit)
tries on zero = refuse RfStuck
tries on (suc n) = once on >>= λ yes?. when yes? then fine else ask (delay rf_retry_ms) (λ _. tries on n)

unfoldable pub rf_off : Proc (Res Unit)
rf_off = tries false rf_tries

unfoldable pub rf_on : Proc (Res Unit)
rf_on = tries true rf_tries

abbrev pub rf_wrote : Proc Bool
rf_wrote = ask (write_read user (place it_sts_dyn) 1) (λ r. done (when r.ack then wrote_bit (get_or r.got 0 0) else true))

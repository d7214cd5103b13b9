-- Waiting out a write cycle. Source: tag.rs, `wait_ready`; DS13519 section 6.4.3, figure 34.
--
--   poll             == an address-only write to the user address, which the part refuses until the cycle ends
--   wait_ready n      == for _ in 0..n { if write(USER, []).is_ok() { return Ok(()) } delay_ms(1) } Err(Busy)
use Rattle.std.specs.Prelude.{ℕ, zero, suc, []}
use Rattle.protocol.specs.Transfer.{Transfer, write, delay}
use Rattle.protocol.specs.Tag.{user, ready_poll_ms}
use Rattle.protocol.specs.Proc.{Proc, ask, Res, fine, refuse, when◌then◌else◌}
use Rattle.protocol.specs.declared.answer.TagError.TheVariants.{Busy}

abbrev pub poll : Transfer
poll = write user [] []

abbrev pub wait_ready : ℕ → Proc (Res Unit)
wait_ready zero = refuse Busy
wait_ready (suc n) = ask poll (λ r. when r.ack then fine else ask (delay ready_poll_ms) (λ _. wait_ready n))

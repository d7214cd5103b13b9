-- One transfer and its reply. Source: tag.rs, `read`, `read_byte`, `?` on a write, and `impl From<Nack> for TagError`.
--
--   send dev head payload  == a write that has to be acknowledged, else NoAnswer
--   taken dev head payload == a write, and whether it was acknowledged (`.is_ok()`)
--   read dev at n          == n bytes from `at`, else NoAnswer
--   read_byte dev at        == one byte from `at`, else NoAnswer
--   byte_is dev at p        == one byte from `at` was read, and p holds of it (`matches!(.., Ok(v) if ..)`)
--   pause ms               == `delay_ms`
use Rattle.std.specs.Prelude.{ℕ, List, Bool, false, get_or, take}
use Rattle.protocol.specs.Transfer.{write, write_read, delay, place}
use Rattle.protocol.specs.Proc.{Proc, done, ask, Res, ok, fine, refuse, when◌then◌else◌}
use Rattle.protocol.specs.declared.answer.TagError.TheVariants.{NoAnswer}

abbrev pub send : ℕ → List ℕ → List ℕ → Proc (Res Unit)
send dev head payload = ask (write dev head payload) (λ r. when r.ack then fine else refuse NoAnswer)

abbrev pub taken : ℕ → List ℕ → List ℕ → Proc Bool
taken dev head payload = ask (write dev head payload) (λ r. done r.ack)

abbrev pub read : ℕ → ℕ → ℕ → Proc (Res (List ℕ))
read dev at n = ask (write_read dev (place at) n) (λ r. when r.ack then done (ok (take n r.got)) else refuse NoAnswer)

abbrev pub read_byte : ℕ → ℕ → Proc (Res ℕ)
read_byte dev at = ask (write_read dev (place at) 1) (λ r. when r.ack then done (ok (get_or r.got 0 0)) else refuse NoAnswer)

abbrev pub byte_is : ℕ → ℕ → (ℕ → Bool) → Proc Bool
byte_is dev at p = ask (write_read dev (place at) 1) (λ r. done (when r.ack then p (get_or r.got 0 0) else false))

abbrev pub pause : ℕ → Proc (Res Unit)
pause ms = ask (delay ms) (λ _. fine)

-- What is known where a call goes on. From no public document: what the laws here hand on from an entry point's checks to its step. The
-- buffers' lengths are those of 33 in document 01, 'Numbers a caller gets'.
--
--   Going s t r lent out h == a state of s bytes, with buffers and data of these lengths, holds a session that calls leave, and takes the
--                             reply that was heard, h: with its mark, in its stage
--   Inside d               == the mark of a session that was read lies inside the part
use Rattle.std.specs.Prelude.{◌≡◌, true, ℕ, ◌≤◌, Some, Option, None}
use Rattle.session.specs.Sound.{sound}
use Rattle.session.specs.Steps.{out_of}
use Rattle.session.specs.declared.session.Session.{Session}
use Rattle.telling.specs.declared.opening.Heard.{Heard}

pub record Going (s t r lent out : ℕ) (h : Heard) : Type 0 where
  pub state : s ≡ 20
  pub transfer : 19 ≤ t
  pub reply : 64 ≤ r
  pub whole : out ≡ out_of h.stage
  pub sane : sound (record { mark = h.mark; rows = h.rows; lent = lent; now = Some h.stage }) ≡ true

abbrev pub Inside : Option Session → Type 0
Inside (Some q) = q.mark ≤ 8192
Inside None = Unit

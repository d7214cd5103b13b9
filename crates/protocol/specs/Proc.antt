-- What a driver does on the bus: a tree of transfers, each with what follows for every reply.
-- Source: tag.rs, of which the rows name the Rust that they stand for; document 01, 'What must change shape' (`Bus`, `Result`, `?`).
--
--   Proc A            == `done`, an answer; `ask t k`, the transfer t and then what k has for its reply; `mark m p`, the mark
--                        becomes m (`self.dirty = m`) and then p
--   p >>= f           == p, then what f makes of its answer
--   Res A             == `Result<A, TagError>`
--   or_else f r        == what f makes of the value that r holds; a refusal stays one
--   try p f           == p?, then f: a refusal ends it
--   when b then x else y == x where b holds, else y
--   unless b p        == nothing where b holds, else p
--   both p q          == p && q: q only where p says yes
--   fine, refuse e    == Ok(()), Err(e)
use Rattle.std.specs.Prelude.{Bool, false}
use Rattle.slices.specs.Pick.{pick}
use Rattle.protocol.specs.Transfer.{Transfer, Reply}
use Rattle.protocol.specs.Mark.{Mark}
use Rattle.protocol.specs.declared.answer.TagError.{TagError}

pub data Proc (A : Type 0) : Type 0 where
  done : A → Proc A
  ask : Transfer → (Reply → Proc A) → Proc A
  mark : Mark → Proc A → Proc A

infixl 20 ◌>>=◌
abbrev pub ◌>>=◌ : {A B : Type 0} → Proc A → (A → Proc B) → Proc B
◌>>=◌ (done a) f = f a
◌>>=◌ (ask t k) f = ask t (λ r. k r >>= f)
◌>>=◌ (mark m p) f = mark m (p >>= f)

pub data Res (A : Type 0) : Type 0 where
  ok : A → Res A
  err : TagError → Res A

abbrev pub or_else : {A B : Type 0} → (A → Proc (Res B)) → Res A → Proc (Res B)
or_else f (ok a) = f a
or_else f (err e) = done (err e)

abbrev pub try : {A B : Type 0} → Proc (Res A) → (A → Proc (Res B)) → Proc (Res B)
try p f = p >>= or_else f

infix 10 when◌then◌else◌
abbrev pub when◌then◌else◌ : {A : Type 0} → Bool → A → A → A
when◌then◌else◌ b x y = pick b x y

abbrev pub fine : Proc (Res Unit)
fine = done (ok tt)

abbrev pub refuse : {A : Type 0} → TagError → Proc (Res A)
refuse e = done (err e)

abbrev pub unless : Bool → Proc (Res Unit) → Proc (Res Unit)
unless b p = when b then fine else p

abbrev pub both : Proc Bool → Proc Bool → Proc Bool
both p q = p >>= λ yes?. when yes? then q else done false

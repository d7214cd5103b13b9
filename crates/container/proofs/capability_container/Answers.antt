use Rattle.std.proofs.Common.{refl}
use borrow.Author.Tests.{lt-ltb, le-ltb}
use Rattle.slices.specs.Bytes.{be}
use Rattle.layout.specs.Container.{container_answer, container}
use Rattle.container.proofs.capability_container.Goals as goal

pub returns-then-area-gt524287 : goal.returns-then-area-gt524287
unfolding container_answer
returns-then-area-gt524287 c = simp (lt-ltb _ _ c.if-area-gt524287.true)

pub returns : goal.returns
unfolding container_answer container be
returns c = rw (c.to_be_bytes.ensures, le-ltb _ _ c.if-area-gt524287.false) refl

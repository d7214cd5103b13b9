use mathlib.Core.Path.{◌≡◌, ap, ◌∙◌}
use mathlib.Core.List.{◌∷◌, []}
use Prim.Native.Nat.{ℕ, ◌+◌, ◌≤◌}
use lib.ListN.{length}
use Rattle.slices.proofs.Splice.{splice-whole}
use Rattle.shows.proofs.Answered.{filled-part}
use Rattle.shows.proofs.show.Goals as goal

pub returns-in-Memory : goal.returns-in-Memory
returns-in-Memory c = let h : c.in-Memory.at + length c.args.out.now ≤ length c.args.memory.now = rw c.in-Memory.is at c.requires in
    rw c.in-Memory.is (c.copy_to.ensures.bytes ∙ filled-part c.args.out.now c.args.memory.now c.in-Memory.at h)

pub returns-in-Dynamic : goal.returns-in-Dynamic
returns-in-Dynamic c = let h : length c.args.out.now ≡ 1 = rw c.in-Dynamic.is at c.requires in
    rw c.in-Dynamic.is (c.put.ensures.bytes ∙ splice-whole c.args.out.now (_ ∷ []) h)

pub returns-in-Session : goal.returns-in-Session
returns-in-Session c = let h : length c.args.out.now ≡ 1 = rw c.in-Session.is at c.requires in
    rw c.in-Session.is (c.put-in-Session.ensures.bytes ∙ splice-whole c.args.out.now (_ ∷ []) h ∙ ap (λ (v : ℕ). v ∷ []) c.bit_of.ensures)

pub returns-in-Status : goal.returns-in-Status
returns-in-Status c = let h : length c.args.out.now ≡ 1 = rw c.in-Status.is at c.requires in
    rw c.in-Status.is (c.put-in-Status.ensures.bytes ∙ splice-whole c.args.out.now (_ ∷ []) h ∙ ap (λ (v : ℕ). v ∷ []) c.bit_of-in-Status.ensures)

pub returns-in-Byte : goal.returns-in-Byte
returns-in-Byte c = let h : length c.args.out.now ≡ 1 = rw c.in-Byte.is at c.requires in
    rw c.in-Byte.is (c.put-in-Byte.ensures.bytes ∙ splice-whole c.args.out.now (_ ∷ []) h ∙ ap (λ (v : ℕ). v ∷ []) c.byte_of.ensures)

pub returns-in-Identity : goal.returns-in-Identity
returns-in-Identity c = let h : length c.args.out.now ≡ length c.args.identity.now = rw c.in-Identity.is at c.requires in
    rw c.in-Identity.is (c.copy_to-in-Identity.ensures.bytes ∙ splice-whole c.args.out.now c.args.identity.now h)

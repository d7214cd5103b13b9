use Rattle.std.proofs.Common.{◌≡◌}
use Rattle.copies.proofs.Copied.{Copied}
use Rattle.copies.proofs.copy_long.Given as goal

-- what the iterator still has is still to come
abbrev pub invariant-loop-part : goal.invariant-loop-part
invariant-loop-part l = (l.part-iterator.size ≡ 8192) × Copied l.initial.out l.at l.src l.part-iterator.rest.now l.out l.next

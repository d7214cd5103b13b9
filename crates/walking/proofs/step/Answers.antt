use borrow.Author.Rules.{rules}
use native.Mathlib.Nat.{le_trans}
use Rattle.walking.proofs.Ahead.{ahead}
use Rattle.walking.proofs.step.Goals as goal

pub step_on-requires-clause-plain_of : goal.step_on-requires-clause-plain_of
step_on-requires-clause-plain_of c = let a = c.args in
    let plain = c.is_plain.ensures c.if-is_plain.true in
    let kind = ahead a.image.now 1 a.at a.end c.back-kind_lens.ensures (le_trans (search rules) plain.0) in
    let payload = ahead a.image.now 2 a.at a.end c.back-payload_lens.ensures plain.0 in
    λ e. (plain, (kind, payload))

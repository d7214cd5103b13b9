use Rattle.std.proofs.Common.{length, List, ℕ, ap, subst, arith, rules, ◌∙◌, length-append}
use Rattle.copies.proofs.Copied.{Copied, copied_none, copied_room, copied_on, copied_all}
use Rattle.copies.proofs.copy_long.Goals as goal

pub loop-part-init : goal.loop-part-init
loop-part-init c = search (rules, copied_none)

pub copy_part-next-requires-clause-src_in_bounds : goal.copy_part-next-requires-clause-src_in_bounds
copy_part-next-requires-clause-src_in_bounds c =
    let room = copied_room c.requires c.loop-part.invariant.1 in
    omega (arith, room, ap length c.in-Some.ensures.steps.1.0, length-append c.in-Some.part.now c.next.new.self.rest.now)

pub loop-part-preserved : goal.loop-part-preserved
loop-part-preserved c =
    let steps = c.in-Some.ensures.steps in
    (steps.0 ∙ c.loop-part.invariant.0, copied_on c.requires (subst (λ (bs : List ℕ). Copied c.args.out.now c.args.at c.args.src.now bs c.loop-part.out c.loop-part.next) steps.1.0 c.loop-part.invariant.1) c.copy_part-next.ensures)

pub returns : goal.returns
returns c = copied_all _ c.in-None.ensures.steps.1.0 c.loop-part.invariant.1

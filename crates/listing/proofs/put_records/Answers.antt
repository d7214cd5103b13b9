use mathlib.Core.Path.{refl, ap, sym, ◌∙◌}
use Rattle.std.specs.Prelude.{◌≡◌, Some, None, Ok}
use Rattle.slices.proofs.Splice.{splice-none}
use Rattle.walk.specs.declared.Stepped.{Stepped}
use Rattle.walk.proofs.Walks.{next-inside}
use Rattle.std.proofs.Common.{◌+◌, ◌≤◌, length, []}
use Rattle.listing.specs.Listing.{record_line, refused_line}
use Rattle.listing.proofs.Lines.{room_for, room_for_line, entry_is, going_on, gone, record_length, listed_record, listed-end, listed_refused}
use native.Mathlib.Omega.{arith}
use Rattle.listing.proofs.put_records.Goals as goal

pub loop-found-init : goal.loop-found-init
loop-found-init c = (omega arith, refl, record { lines = []; wrote = record { bytes = sym (splice-none _ _); place = refl }; to_go = refl })

pub put_record-to-requires : goal.put_record-to-requires
put_record-to-requires c =
    let q : c.step-s.result.entry ≡ Ok (Some c.in-Some.r) = cc in
    let e = entry_is _ _ _ c.step-s.ensures q in
    let h : c.loop-found.to + length (record_line (c.loop-found.count + 1) c.in-Some.r c.args.image.now) ≤ length c.args.out.now
    = room_for_line _ _ c.loop-found.invariant.2 c.requires (listed_record _ _ _ _ e) in
    omega arith

pub loop-found-smaller : goal.loop-found-smaller
loop-found-smaller c =
    let q : c.step-s.result.entry ≡ Ok (Some c.in-Some.r) = cc in
    let e = entry_is _ _ _ c.step-s.ensures q in
    omega (arith, next-inside _ _ _ e, ap (λ (t : Stepped). t.next) c.step-s.ensures)

pub loop-found-preserved : goal.loop-found-preserved
loop-found-preserved c =
    let q : c.step-s.result.entry ≡ Ok (Some c.in-Some.r) = cc in
    let e = entry_is _ _ _ c.step-s.ensures q in
    let h : c.loop-found.to + length (record_line (c.loop-found.count + 1) c.in-Some.r c.args.image.now) ≤ length c.args.out.now
    = room_for_line _ _ c.loop-found.invariant.2 c.requires (listed_record _ _ _ _ e) in
    let p = c.put_record-to.ensures.place in (
      omega (arith, record_length (c.loop-found.count + 1) c.in-Some.r c.args.image.now),
      omega arith,
      going_on (omega arith) c.loop-found.invariant.2 e (ap (λ (t : Stepped). t.next) c.step-s.ensures) c.put_record-to.ensures,
    )

pub put_ok-requires : goal.put_ok-requires
put_ok-requires c =
    let q : c.step-s.result.entry ≡ Ok None = cc in
    let e = entry_is _ _ _ c.step-s.ensures q in
    let h = room_for _ c.loop-found.invariant.2 c.requires (listed-end _ _ _ _ e) in
    omega arith

pub returns-in-None : goal.returns-in-None
returns-in-None c =
    let q : c.step-s.result.entry ≡ Ok None = cc in
    let e = listed-end _ _ _ _ (entry_is _ _ _ c.step-s.ensures q) in
    let h = room_for _ c.loop-found.invariant.2 c.requires e in
    gone (omega arith) c.loop-found.invariant.2 e c.put_ok.ensures

pub put_refused-requires : goal.put_refused-requires
put_refused-requires c =
    let e = listed_refused _ _ _ _ _ (entry_is _ _ _ c.step-s.ensures c.in-Err.is) ∙ ap refused_line (sym c.into.ensures) in
    let h = room_for _ c.loop-found.invariant.2 c.requires e in
    omega arith

pub returns-in-Err : goal.returns-in-Err
returns-in-Err c =
    let e = listed_refused _ _ _ _ _ (entry_is _ _ _ c.step-s.ensures c.in-Err.is) ∙ ap refused_line (sym c.into.ensures) in
    let h = room_for _ c.loop-found.invariant.2 c.requires e in
    gone (omega arith) c.loop-found.invariant.2 e c.put_refused.ensures

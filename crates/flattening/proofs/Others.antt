-- The stages that a match does not name.
--
--   unplaced, no_place_lem   == the tags of the stages that `stage_place` does not name, and that they are at no place
--   uncoded, no_code_lem     == the same of `stage_code`: no machine of theirs is at work
use mathlib.Core.Path.{◌≡◌, refl}
use mathlib.Core.List.{List, [], ◌∷◌}
use Prim.Native.Nat.{ℕ}
use types.Run.{OneOf, miss}
use denote.Enum.Declared.{tag_of, declared}
use Rattle.stages.specs.declared.stage.Stage.{Stage}
use Rattle.stages.specs.declared.stage.Stage.TheVariants as G
use Rattle.stages.specs.contracts.stage.Stage.{enum}
use Rattle.numbers.specs.Flat.{no_code, no_place, stage_code, stage_place}

abbrev pub unplaced : List ℕ
unplaced = 0 ∷ 1 ∷ 2 ∷ 5 ∷ 6 ∷ 7 ∷ 8 ∷ 9 ∷ 11 ∷ 12 ∷ 13 ∷ 14 ∷ 15 ∷ []

pub no_place_lem : (st : Stage) → OneOf unplaced (tag_of (declared enum) st) → no_place ≡ stage_place st
no_place_lem G.Identify h = refl
no_place_lem (G.Prepare s) h = refl
no_place_lem (G.WaitReady w) h = refl
no_place_lem (G.ReadUser at n) h = absurd (miss unplaced 3 tt h)
no_place_lem (G.Write w) h = absurd (miss unplaced 4 tt h)
no_place_lem (G.Switching s) h = refl
no_place_lem G.RfWrote h = refl
no_place_lem (G.WholeOff s) h = refl
no_place_lem G.WholeStatus h = refl
no_place_lem G.WholeRead h = refl
no_place_lem (G.Wipe s) h = absurd (miss unplaced 10 tt h)
no_place_lem (G.BeginSetup s) h = refl
no_place_lem (G.BeginOff s) h = refl
no_place_lem G.LiveStatus h = refl
no_place_lem (G.FinishOff s) h = refl
no_place_lem (G.FinishStatus stuck) h = refl
no_place_lem (G.FinishWipe stuck s) h = absurd (miss unplaced 16 tt h)

abbrev pub uncoded : List ℕ
uncoded = 0 ∷ 3 ∷ 6 ∷ 8 ∷ 9 ∷ 13 ∷ []

pub no_code_lem : (st : Stage) → OneOf uncoded (tag_of (declared enum) st) → no_code ≡ stage_code st
no_code_lem G.Identify h = refl
no_code_lem (G.Prepare s) h = absurd (miss uncoded 1 tt h)
no_code_lem (G.WaitReady w) h = absurd (miss uncoded 2 tt h)
no_code_lem (G.ReadUser at n) h = refl
no_code_lem (G.Write w) h = absurd (miss uncoded 4 tt h)
no_code_lem (G.Switching s) h = absurd (miss uncoded 5 tt h)
no_code_lem G.RfWrote h = refl
no_code_lem (G.WholeOff s) h = absurd (miss uncoded 7 tt h)
no_code_lem G.WholeStatus h = refl
no_code_lem G.WholeRead h = refl
no_code_lem (G.Wipe s) h = absurd (miss uncoded 10 tt h)
no_code_lem (G.BeginSetup s) h = absurd (miss uncoded 11 tt h)
no_code_lem (G.BeginOff s) h = absurd (miss uncoded 12 tt h)
no_code_lem G.LiveStatus h = refl
no_code_lem (G.FinishOff s) h = absurd (miss uncoded 14 tt h)
no_code_lem (G.FinishStatus stuck) h = absurd (miss uncoded 15 tt h)
no_code_lem (G.FinishWipe stuck s) h = absurd (miss uncoded 16 tt h)

-- The stages that a match does not name.
--
--   unnamed   == the tags of the stages that `out_of` does not name: all but 3 and 7 to 9
--   others    == a stage of a call that is lent no `out` has none
use mathlib.Core.Path.{◌≡◌, refl}
use mathlib.Core.List.{List, [], ◌∷◌}
use Prim.Native.Nat.{ℕ}
use types.Run.{OneOf, miss}
use denote.Enum.Declared.{tag_of, declared}
use Rattle.stages.specs.declared.stage.Stage.{Stage}
use Rattle.stages.specs.declared.stage.Stage.TheVariants as G
use Rattle.stages.specs.contracts.stage.Stage.{enum}
use Rattle.session.specs.Steps.{out_of}

abbrev pub unnamed : List ℕ
unnamed = 0 ∷ 1 ∷ 2 ∷ 4 ∷ 5 ∷ 6 ∷ 10 ∷ 11 ∷ 12 ∷ 13 ∷ 14 ∷ 15 ∷ 16 ∷ []

pub others : (st : Stage) → OneOf unnamed (tag_of (declared enum) st) → 0 ≡ out_of st
others G.Identify h = refl
others (G.Prepare s) h = refl
others (G.WaitReady w) h = refl
others (G.ReadUser at n) h = absurd (miss unnamed 3 tt h)
others (G.Write w) h = refl
others (G.Switching s) h = refl
others G.RfWrote h = refl
others (G.WholeOff s) h = absurd (miss unnamed 7 tt h)
others G.WholeStatus h = absurd (miss unnamed 8 tt h)
others G.WholeRead h = absurd (miss unnamed 9 tt h)
others (G.Wipe s) h = refl
others (G.BeginSetup s) h = refl
others (G.BeginOff s) h = refl
others G.LiveStatus h = refl
others (G.FinishOff s) h = refl
others (G.FinishStatus stuck) h = refl
others (G.FinishWipe stuck s) h = refl

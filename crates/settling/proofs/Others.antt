-- The stages that a match does not name.
--
--   unnamed   == the tags of the stages that `into_out` does not name: all but 3 and 9
--   others    == a stage that is neither the read of `read_user` nor that of `read_whole` reads into no buffer of the caller's
use mathlib.Core.Path.{◌≡◌, refl}
use mathlib.Core.Bool.{false}
use mathlib.Core.List.{List, [], ◌∷◌}
use Prim.Native.Nat.{ℕ}
use types.Run.{OneOf, miss}
use denote.Enum.Declared.{tag_of, declared}
use Rattle.stages.specs.declared.stage.Stage.{Stage}
use Rattle.stages.specs.declared.stage.Stage.TheVariants as G
use Rattle.stages.specs.contracts.stage.Stage.{enum}
use Rattle.telling.specs.Left.{into_out}

abbrev pub unnamed : List ℕ
unnamed = 0 ∷ 1 ∷ 2 ∷ 4 ∷ 5 ∷ 6 ∷ 7 ∷ 8 ∷ 10 ∷ 11 ∷ 12 ∷ 13 ∷ 14 ∷ 15 ∷ 16 ∷ []

pub others : (st : Stage) → OneOf unnamed (tag_of (declared enum) st) → false ≡ into_out st
others G.Identify h = refl
others (G.Prepare s) h = refl
others (G.WaitReady w) h = refl
others (G.ReadUser at n) h = absurd (miss unnamed 3 tt h)
others (G.Write w) h = refl
others (G.Switching s) h = refl
others G.RfWrote h = refl
others (G.WholeOff s) h = refl
others G.WholeStatus h = refl
others G.WholeRead h = absurd (miss unnamed 9 tt h)
others (G.Wipe s) h = refl
others (G.BeginSetup s) h = refl
others (G.BeginOff s) h = refl
others G.LiveStatus h = refl
others (G.FinishOff s) h = refl
others (G.FinishStatus stuck) h = refl
others (G.FinishWipe stuck s) h = refl

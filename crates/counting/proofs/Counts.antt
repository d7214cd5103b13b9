-- Which stages wait on a row write, and what is counted.
use mathlib.Core.Path.{◌≡◌, refl, sym, ap, ◌∙◌}
use mathlib.Core.Bool.{Bool, true, false, ◌&&◌}
use mathlib.Core.List.{List, [], ◌∷◌}
use Prim.Native.Nat.{ℕ}
use types.Run.{OneOf, miss}
use denote.Enum.Declared.{tag_of, declared}
use Rattle.slices.specs.Pick.{pick}
use Rattle.machine.specs.Wait.{wait_ask}
use Rattle.machine.specs.declared.wait.Wait.{Wait}
use Rattle.machine.specs.declared.wait.Wait.TheVariants as W
use Rattle.machine.specs.Switch.{switch_ask}
use Rattle.machine.specs.declared.switch.Switch.{Switch}
use Rattle.machine.specs.declared.switch.Switch.TheVariants as S
use Rattle.machine.specs.declared.ask.Ask.{Ask}
use Rattle.machine.specs.declared.ask.Ask.TheVariants as A
use Rattle.setup.specs.Setup.{setup_ask}
use Rattle.password.specs.declared.Open.TheVariants as O
use Rattle.storing.specs.declared.Store.TheVariants as T
use Rattle.setup.specs.declared.setup.Setup.{Setup}
use Rattle.setup.specs.declared.setup.Setup.TheVariants as U
use Rattle.stages.specs.Turns.{stage_ask}
use Rattle.stages.specs.declared.stage.Stage.{Stage}
use Rattle.stages.specs.declared.stage.Stage.TheVariants as G
use Rattle.stages.specs.contracts.stage.Stage.{enum}
use Rattle.session.specs.Steps.{counted}
use Rattle.counting.specs.Rows.{asks_row, StageRow, StageCount}

pub wait_row : (w : Wait) → false ≡ asks_row (wait_ask w)
wait_row (W.Poll n) = refl
wait_row (W.Pause n) = refl

switch_row : (s : Switch) → false ≡ asks_row (switch_ask s)
switch_row (S.Flip true n) = refl
switch_row (S.Flip false n) = refl
switch_row (S.Clear n) = refl
switch_row (S.Look on n) = refl
switch_row (S.Rest on n) = refl

setup_row : (s : Setup) → false ≡ asks_row (setup_ask s)
setup_row U.Identify = refl
setup_row U.Config = refl
setup_row (U.Open first O.Present) = refl
setup_row (U.Open first (O.Wait w)) = wait_row w
setup_row (U.Open first O.Look) = refl
setup_row (U.Store j T.Send) = refl
setup_row (U.Store j T.Pause) = refl
setup_row (U.Store j (T.Wait w)) = wait_row w
setup_row (U.Store j T.Look) = refl
setup_row U.Events = refl

-- the tags of the stages that `stage_row` does not name: all but 4, 10 and 16
abbrev pub unnamed : List ℕ
unnamed = 0 ∷ 1 ∷ 2 ∷ 3 ∷ 5 ∷ 6 ∷ 7 ∷ 8 ∷ 9 ∷ 11 ∷ 12 ∷ 13 ∷ 14 ∷ 15 ∷ []

pub others : (st : Stage) → OneOf unnamed (tag_of (declared enum) st) → StageRow st false
others G.Identify h n = refl
others (G.Prepare s) h n = setup_row s
others (G.WaitReady w) h n = wait_row w
others (G.ReadUser at len) h n = refl
others (G.Write w) h n = absurd (miss unnamed 4 tt h)
others (G.Switching s) h n = switch_row s
others G.RfWrote h n = refl
others (G.WholeOff s) h n = switch_row s
others G.WholeStatus h n = refl
others G.WholeRead h n = refl
others (G.Wipe s) h n = absurd (miss unnamed 10 tt h)
others (G.BeginSetup s) h n = setup_row s
others (G.BeginOff s) h n = switch_row s
others G.LiveStatus h n = refl
others (G.FinishOff s) h n = switch_row s
others (G.FinishStatus stuck) h n = refl
others (G.FinishWipe stuck s) h n = absurd (miss unnamed 16 tt h)

count_by : (a : Ask) (ack : Bool) → pick (ack && asks_row a) 1 0 ≡ counted a ack
count_by (A.Address dev) true = refl
count_by (A.Byte dev at value) true = refl
count_by A.Password true = refl
count_by (A.Zeros at) true = refl
count_by (A.Row at from n) true = refl
count_by (A.Read dev at n) true = refl
count_by (A.Delay ms) true = refl
count_by (A.Address dev) false = refl
count_by (A.Byte dev at value) false = refl
count_by A.Password false = refl
count_by (A.Zeros at) false = refl
count_by (A.Row at from n) false = refl
count_by (A.Read dev at n) false = refl
count_by (A.Delay ms) false = refl

pub count_of : (st : Stage) (ack b t : Bool) → StageRow st b → (ack && b) ≡ t → StageCount st ack (pick t 1 0)
count_of st ack b t h e n =
    sym (ap (λ (x : Bool). pick x 1 0) e) ∙ (ap (λ (x : Bool). pick (ack && x) 1 0) (h n) ∙ count_by (stage_ask n st) ack)

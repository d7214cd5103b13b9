-- What a part may live through. Source: document 01, 'The part of demand 3'.
--
--   Event              == a call with some mark, taken up to some transfer or to its end; something that a phone does; a cut and power-up
--   happened t e p     == the part p after the event e, where the calls are those of the program t
--   lived t es p       == the part p after the events es, the first one first
--   PowerUpBy t p      == p is a part of demand 3 that was just powered up, whatever it lived through before
--   PowerUp p          == the same with the calls that the theorems are about
use Rattle.std.specs.Prelude.{List, [], ◌∷◌, ℕ}
use Rattle.protocol.specs.Mark.{Mark}
use Rattle.protocol.specs.Call.{Call}
use Rattle.part.specs.Part.{Part, ThePart}
use Rattle.part.specs.Power.{Visit, visited, Torn, cut}
use Rattle.nothing_left.specs.Programs.{Program}
use Rattle.nothing_left.specs.Trees.{tree_of}
use Rattle.nothing_left.specs.Runs.{Moments, part_after}

pub data Event : Type 0 where
  calls : Call → Mark → ℕ → Moments → Event
  phones : Visit → Event
  cuts : Torn → Event

abbrev pub happened : Program → Event → Part → Part
happened t (calls c m n w) p = part_after n (t c m) p w
happened t (phones v) p = visited v p
happened t (cuts l) p = cut l p

abbrev pub lived : Program → List Event → Part → Part
lived t [] p = p
lived t (e ∷ es) p = lived t es (happened t e p)

pub data PowerUpBy (t : Program) : Part → Type 0 where
  up : {p : Part} → ThePart p → (es : List Event) (l : Torn) → PowerUpBy t (cut l (lived t es p))

abbrev pub PowerUp : Part → Type 0
PowerUp = PowerUpBy tree_of

-- The state's bytes: six tags, then seven numbers of two bytes each, low byte first.
-- The layout is from no public document: docs/ARCHITECTURE.md, 'The state'. Which bytes are no state: document 01, 'Numbers a caller
-- gets', 34.
--
--   state_length       == 20
--   bytes_of f         == the bytes of the numbers f
--   flat_of l          == the numbers that the bytes l are; code_in, place_in: two of its parts
--   two_at l i         == the number whose low byte is at i
--   encode s          == the state's bytes of the session s
--   same_flat a b      == the numbers are the same; mark, rows and the data's length are not compared
--   same_code a b, same_place a b == the same for what a machine is at, and for where
--   same_stage st tag c p == tag, c and p are the numbers of the stage st
--   decode_flat f      == the session whose numbers f are; nothing where they are none's, or calls do not leave it
--   decode_of l        == the session that the bytes l are a state of; nothing where they are none that calls leave
use Rattle.std.specs.Prelude.{ℕ, ◌+◌, ◌*◌, ◌/◌, ◌%◌, List, [], ◌∷◌, Bool, ◌&&◌, eqb, length, get_or, Option, Some, None}
use Rattle.slices.specs.Pick.{pick}
use Rattle.session.specs.Sound.{sound}
use Rattle.session.specs.declared.session.Session.{Session}
use Rattle.numbers.specs.Flat.{stage_tag, stage_code, stage_place, flatten}
use Rattle.stages.specs.declared.stage.Stage.{Stage}
use Rattle.numbers.specs.From.{session_from}
use Rattle.numbers.specs.declared.flat.Code.{Code}
use Rattle.numbers.specs.declared.flat.Place.{Place}
use Rattle.numbers.specs.declared.flat.Flat.{Flat}

abbrev pub state_length : ℕ
state_length = 20

abbrev pub bytes_of : Flat → List ℕ
bytes_of f =
    f.stage ∷ f.code.phase ∷ f.code.inner ∷ f.code.which ∷ f.code.count ∷ f.place.bits
    ∷ f.place.row % 256 ∷ f.place.row / 256 % 256 ∷ f.mark % 256 ∷ f.mark / 256 % 256 ∷ f.place.end % 256 ∷ f.place.end / 256 % 256
    ∷ f.place.left % 256 ∷ f.place.left / 256 % 256 ∷ f.place.at % 256 ∷ f.place.at / 256 % 256
    ∷ f.rows % 256 ∷ f.rows / 256 % 256 ∷ f.lent % 256 ∷ f.lent / 256 % 256 ∷ []

abbrev pub two_at : List ℕ → ℕ → ℕ
two_at l i = get_or l i 0 + 256 * get_or l (i + 1) 0

abbrev pub code_in : List ℕ → Code
code_in l = record { phase = get_or l 1 0; inner = get_or l 2 0; which = get_or l 3 0; count = get_or l 4 0 }

abbrev pub place_in : List ℕ → Place
place_in l = record { bits = get_or l 5 0; left = two_at l 12; at = two_at l 14; end = two_at l 10; row = two_at l 6 }

abbrev pub flat_of : List ℕ → Flat
flat_of l =
    record { stage = get_or l 0 0; code = code_in l; place = place_in l; mark = two_at l 8; rows = two_at l 16; lent = two_at l 18 }

abbrev pub encode : Session → List ℕ
encode s = bytes_of (flatten s)

abbrev pub same_code : Code → Code → Bool
same_code a b = eqb a.phase b.phase && eqb a.inner b.inner && eqb a.which b.which && eqb a.count b.count

abbrev pub same_place : Place → Place → Bool
same_place a b =
    eqb a.bits b.bits && eqb a.left b.left && eqb a.at b.at && eqb a.end b.end && eqb a.row b.row

-- the mark, the rows and the data's length are read as they stand
abbrev pub same_flat : Flat → Flat → Bool
same_flat a b = eqb a.stage b.stage && same_code a.code b.code && same_place a.place b.place

-- the tag and the parts of the numbers of a stage are these
abbrev pub same_stage : Stage → ℕ → Code → Place → Bool
same_stage st tag c p = eqb (stage_tag st) tag && same_code (stage_code st) c && same_place (stage_place st) p

abbrev pub decode_flat : Flat → Option Session
decode_flat f = pick (same_flat (flatten (session_from f)) f && sound (session_from f)) (Some (session_from f)) None

abbrev pub decode_of : List ℕ → Option Session
decode_of l = pick (eqb (length l) state_length) (decode_flat (flat_of l)) None

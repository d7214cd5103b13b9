-- A wipe's acknowledged step, on the numbers of its state. From no public document: the short way of docs/DECISIONS.md, 45. `Short` says
-- that it leaves what a reply leaves (telling/specs/Left).
--
--   wipes tag which         == the stage of this tag wipes, and its choice is one that it has: 12, or 18 (whether RF was stuck)
--   wipe_stage tag which s   == that stage, its wipe at s
--   wiping f rows s         == the session of the numbers f, with `rows` rows programmed and its wipe at s
--   moved f rows s          == its numbers
--   bare c p                == neither a wait nor rows to come
--   led_of rows x            == what a step of the wipe comes to, where it goes on
--   noted f o               == the same with the numbers of the state
--   Onto m rows s got n next == a wipe at s that calls leave, with the mark at m and `rows` rows, goes on to `next` with n rows
--                              when a transfer is acknowledged, with `got` in the reply buffer. Leads: the same of an `Onward`;
--                              AnyLeads: whatever stands in the reply buffer
--   Fits f s                == f are the numbers of a stage that wipes, with its wipe at s
--   Move f got n next       == f are the numbers of a wipe that goes on to `next` with n rows, as `Onto` says
--   Moves f got o           == a state with the numbers f goes on to o. AnyMoves: whatever stands in the reply buffer
--   short_left f s t r       == what a step leaves whose state has the numbers f, and that waits on the transfer of s
--   Short l t r lent out ack n == a reply leaves what n says
use Rattle.std.specs.Prelude.{◌≡◌, Bool, true, false, ◌&&◌, ◌||◌, List, [], ◌++◌, ℕ, ◌+◌, ◌≤◌, eqb, ltb, length, drop, Option, Some, None, Ok, Err}
use Rattle.protocol.specs.Answer.{Progress}
use Rattle.slices.specs.Pick.{pick}
use Rattle.protocol.specs.Transfer.{sent}
use Rattle.machine.specs.Ask.{meant}
use Rattle.wipe.specs.Scrub.{scrub_ask, scrub_step}
use Rattle.wipe.specs.declared.scrub.Scrub.{Scrub}
use Rattle.stages.specs.declared.stage.Stage.{Stage}
use Rattle.stages.specs.declared.stage.Stage.TheVariants as G
use Rattle.session.specs.Sound.{scrub_sound}
use Rattle.session.specs.Steps.{counted}
use Rattle.session.specs.declared.session.Session.{Session}
use Rattle.numbers.specs.Flat.{scrub_code, scrub_place}
use Rattle.numbers.specs.declared.flat.Code.{Code}
use Rattle.numbers.specs.declared.flat.Place.{Place}
use Rattle.numbers.specs.declared.flat.Flat.{Flat}
use Rattle.state.specs.Bytes.{bytes_of}
use Rattle.telling.specs.Step.{transfer_step, padded}
use Rattle.telling.specs.Left.{Left, reply_left}
use Rattle.wiping.specs.declared.after.Onward.{Onward}
use Rattle.wiping.specs.declared.short.Next.{Next}

abbrev pub wipes : ℕ → ℕ → Bool
wipes tag which = (eqb tag 12 && eqb which 0) || (eqb tag 18 && ltb which 2)

abbrev pub wipe_stage : ℕ → ℕ → Scrub → Stage
wipe_stage tag which s = pick (eqb tag 12) (G.Wipe s) (G.FinishWipe (eqb which 1) s)

abbrev pub wiping : Flat → ℕ → Scrub → Session
wiping f rows s = record { mark = f.mark; rows = rows; lent = 0; now = Some (wipe_stage f.stage f.code.which s) }

abbrev pub moved : Flat → ℕ → Scrub → Flat
moved f rows s =
    record { stage = f.stage; code = scrub_code f.code.which s; place = scrub_place s; mark = f.mark; rows = rows; lent = 0 }

abbrev pub bare : Code → Place → Bool
bare c p = eqb c.inner 0 && eqb c.count 0 && eqb p.bits 0 && eqb p.row 0

abbrev pub led_of : ℕ → Progress Scrub → Option Onward
led_of rows (Ok (Some s)) = Some (record { rows = rows; wipe = s })
led_of rows (Ok None) = None
led_of rows (Err e) = None

abbrev pub noted : Flat → Option Onward → Option Next
noted f (Some o) = Some (record { flat = moved f o.rows o.wipe; wipe = o.wipe })
noted f None = None

pub record Onto (m rows : ℕ) (s : Scrub) (got : List ℕ) (n : ℕ) (next : Scrub) : Type 0 where
  pub sane : scrub_sound m rows s ≡ true
  pub step : scrub_step s true got ≡ Ok (Some next)
  pub count : n ≡ rows + counted (scrub_ask s) true

abbrev pub Leads : ℕ → ℕ → Scrub → List ℕ → Option Onward → Type 0
Leads m rows s got (Some o) = Onto m rows s got o.rows o.wipe
Leads m rows s got None = Unit

-- the same, whatever stands in the reply buffer
abbrev pub AnyLeads : ℕ → ℕ → Scrub → Option Onward → Type 0
AnyLeads m rows s o = (got : List ℕ) → Leads m rows s got o

pub record Fits (f : Flat) (s : Scrub) : Type 0 where
  pub code : f.code ≡ scrub_code f.code.which s
  pub place : f.place ≡ scrub_place s

pub record Move (f : Flat) (got : List ℕ) (n : ℕ) (next : Scrub) : Type 0 where
  pub from : Scrub
  pub fits : Fits f from
  pub onto : Onto f.mark f.rows from got n next

abbrev pub Moves : Flat → List ℕ → Option Onward → Type 0
Moves f got (Some o) = Move f got o.rows o.wipe
Moves f got None = Unit

abbrev pub AnyMoves : Flat → Option Onward → Type 0
AnyMoves f o = (got : List ℕ) → Moves f got o

abbrev pub short_left : Flat → Scrub → List ℕ → List ℕ → Left
short_left f s t r = record {
  step = transfer_step false (meant [] (scrub_ask s));
  state = bytes_of f;
  transfer = padded (sent (meant [] (scrub_ask s))) ++ drop 19 t;
  reply = r;
}

abbrev pub Short : List ℕ → List ℕ → List ℕ → List ℕ → List ℕ → ℕ → Option Next → Type 0
Short l t r lent out ack (Some n) = (length l ≡ 20) × (19 ≤ length t) × (reply_left l t r lent out ack ≡ short_left n.flat n.wipe t r)
Short l t r lent out ack None = Unit

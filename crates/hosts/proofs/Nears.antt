-- What a stage asks for is at an address of one byte.
use mathlib.Core.Bool.{true, false}
use Prim.Native.Nat.{ℕ}
use native.Mathlib.Omega.{arith}
use Rattle.machine.specs.Wait.{wait_ask}
use Rattle.machine.specs.Switch.{switch_ask}
use Rattle.machine.specs.declared.wait.Wait.{Wait}
use Rattle.machine.specs.declared.wait.Wait.TheVariants as W
use Rattle.machine.specs.declared.switch.Switch.{Switch}
use Rattle.machine.specs.declared.switch.Switch.TheVariants as X
use Rattle.password.specs.declared.Open.TheVariants as O
use Rattle.storing.specs.declared.Store.TheVariants as S
use Rattle.setup.specs.Setup.{setup_ask}
use Rattle.setup.specs.declared.setup.Setup.{Setup}
use Rattle.setup.specs.declared.setup.Setup.TheVariants as U
use Rattle.wipe.specs.Scrub.{scrub_ask}
use Rattle.wipe.specs.declared.scrub.Scrub.{Scrub}
use Rattle.wipe.specs.declared.scrub.Scrub.TheVariants as C
use Rattle.writing.specs.Write.{write_ask}
use Rattle.writing.specs.declared.write.Write.{Write}
use Rattle.writing.specs.declared.write.Write.TheVariants as K
use Rattle.stages.specs.Turns.{stage_ask}
use Rattle.stages.specs.declared.stage.Stage.{Stage}
use Rattle.stages.specs.declared.stage.Stage.TheVariants as G
use Rattle.hosts.proofs.Fields.{Near}

wait_near : (w : Wait) → Near (wait_ask w)
wait_near (W.Poll n) = omega arith
wait_near (W.Pause n) = tt

switch_near : (s : Switch) → Near (switch_ask s)
switch_near (X.Flip true n) = omega arith
switch_near (X.Flip false n) = omega arith
switch_near (X.Clear n) = omega arith
switch_near (X.Look on n) = omega arith
switch_near (X.Rest on n) = tt

setup_near : (s : Setup) → Near (setup_ask s)
setup_near U.Identify = omega arith
setup_near U.Config = omega arith
setup_near (U.Open f O.Present) = tt
setup_near (U.Open f (O.Wait w)) = wait_near w
setup_near (U.Open f O.Look) = omega arith
setup_near (U.Store j S.Send) = omega arith
setup_near (U.Store j S.Pause) = tt
setup_near (U.Store j (S.Wait w)) = wait_near w
setup_near (U.Store j S.Look) = omega arith
setup_near U.Events = omega arith

scrub_near : (s : Scrub) → Near (scrub_ask s)
scrub_near (C.Read p) = omega arith
scrub_near (C.Row p r) = tt
scrub_near (C.Wait p r w) = wait_near w
scrub_near (C.Reread p) = omega arith

write_near : (n : ℕ) (w : Write) → Near (write_ask n w)
write_near n (K.Row p) = tt
write_near n (K.Wait p w) = wait_near w
write_near n (K.Check c) = omega arith

pub stage_near : (n : ℕ) (st : Stage) → Near (stage_ask n st)
stage_near n G.Identify = omega arith
stage_near n (G.Prepare s) = setup_near s
stage_near n (G.WaitReady w) = wait_near w
stage_near n (G.ReadUser at k) = omega arith
stage_near n (G.Write w) = write_near n w
stage_near n (G.Switching s) = switch_near s
stage_near n G.RfWrote = omega arith
stage_near n (G.WholeOff s) = switch_near s
stage_near n G.WholeStatus = omega arith
stage_near n G.WholeRead = omega arith
stage_near n (G.Wipe s) = scrub_near s
stage_near n (G.BeginSetup s) = setup_near s
stage_near n (G.BeginOff s) = switch_near s
stage_near n G.LiveStatus = omega arith
stage_near n (G.FinishOff s) = switch_near s
stage_near n (G.FinishStatus stuck) = omega arith
stage_near n (G.FinishWipe stuck s) = scrub_near s

use Rattle.wipe.specs.declared.scrub.Scrub.TheVariants.{Read}
use Rattle.wiping.proofs.Shorts.{asks-is}
use Rattle.wiping.proofs.Sweeps.{whole-asks}
use Rattle.sweeping.proofs.sweep.Goals as goal

pub returns-clause-transfer_after : goal.returns-clause-transfer_after
returns-clause-transfer_after c = let h = asks-is (Read c.args.p) _ c.frame.result c.args.transfer.now _ _ c.ask_step.result (whole-asks c.args.p c.requires.2.2) c.frame.ensures c.write_frame.ensures c.ask_step.ensures in h.1

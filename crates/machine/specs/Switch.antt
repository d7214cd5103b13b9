-- The machine of `rf_off` and `rf_on`. Source: tag.rs, `rf_off`, `rf_on`. Its states are from no public document: how a call is kept
-- between two transfers. `switch_bridge` (proofs/Switches): the machine does what protocol's tree says.
--
--   Switched                == where a reply leads it: on, from a state; to its end; or, after the last try, stuck
--   switch_new on            == its first state: the first of ten tries
--   switch_ask s             == the transfer that it waits on
--   switch_step s ack v      == where the reply leads; v is the byte that was read
--   flipped, wanted, looked == its parts: after the switch; what RF_MNGT_Dyn has to read as; after the look
--   try_after on n           == after the pause of a failed try, with n tries left: the next try, or stuck
--   tried on n yes?         == what follows a try that said yes or no, with n tries left, as a tree
--   look on                 == the look at RF_MNGT_Dyn, as a tree
--   resume_switch s          == what remains of `tries` from s. after_switch: the same after a step
use Rattle.std.specs.Prelude.{ℕ, zero, suc, ◌∷◌, [], Bool, true, false, Result, Ok, Err, Option, Some, None}
use Rattle.slices.specs.Pick.{pick}
use Rattle.protocol.specs.Transfer.{delay, place}
use Rattle.protocol.specs.Tag.{user, rf_switch_on, rf_switch_off, rf_mngt_dyn, rf_retry_ms}
use Rattle.protocol.specs.Proc.{Proc, ask, ◌>>=◌, Res, fine, refuse, both}
use Rattle.protocol.specs.Bus.{taken, byte_is}
use Rattle.protocol.specs.Rf.{silent, «open», tries}
use Rattle.protocol.specs.declared.answer.TagError.TheVariants as E
use Rattle.machine.specs.declared.ask.Ask.{Ask}
use Rattle.machine.specs.declared.ask.Ask.TheVariants.{Address, Byte, Read, Delay}
use Rattle.machine.specs.declared.switch.Switch.{Switch}
use Rattle.machine.specs.declared.switch.Switch.TheVariants.{Flip, Clear, Look, Rest}
use Rattle.machine.specs.declared.switch.Stuck.{Stuck}

abbrev pub Switched : Type 0
Switched = Result (Option Switch) Stuck

abbrev pub switch_new : Bool → Switch
switch_new on = Flip on 9

abbrev pub switch_ask : Switch → Ask
switch_ask (Flip on n) = pick on (Address rf_switch_on) (Address rf_switch_off)
switch_ask (Clear n) = Byte user rf_mngt_dyn 0
switch_ask (Look on n) = Read user rf_mngt_dyn 1
switch_ask (Rest on n) = Delay rf_retry_ms

abbrev pub flipped : Bool → ℕ → Switch
flipped on n = pick on (Clear n) (Look false n)

abbrev pub wanted : Bool → ℕ → Bool
wanted on v = pick on («open» v) (silent v)

abbrev pub looked : Bool → ℕ → Bool → ℕ → Switched
looked on n ack v = pick ack (pick (wanted on v) (Ok None) (Ok (Some (Rest on n)))) (Ok (Some (Rest on n)))

-- the tries go down to none
abbrev pub try_after : Bool → ℕ → Switched
try_after on zero = Err (record {})
try_after on (suc n) = Ok (Some (Flip on n))

abbrev pub switch_step : Switch → Bool → ℕ → Switched
switch_step (Flip on n) ack v = pick ack (Ok (Some (flipped on n))) (Ok (Some (Rest on n)))
switch_step (Clear n) ack v = pick ack (Ok (Some (Look true n))) (Ok (Some (Rest true n)))
switch_step (Look on n) ack v = looked on n ack v
switch_step (Rest on n) ack v = try_after on n

-- what follows a try that said yes or no, with n left
abbrev pub tried : Bool → ℕ → Bool → Proc (Res Unit)
tried on n yes? = pick yes? fine (ask (delay rf_retry_ms) (λ _. tries on n))

abbrev pub look : Bool → Proc Bool
look on = byte_is user rf_mngt_dyn (wanted on)

abbrev pub resume_switch : Switch → Proc (Res Unit)
resume_switch (Flip on n) = tries on (suc n)
resume_switch (Clear n) = both (taken user (place rf_mngt_dyn) (0 ∷ [])) (look true) >>= tried true n
resume_switch (Look on n) = look on >>= tried on n
resume_switch (Rest on n) = ask (delay rf_retry_ms) (λ _. tries on n)

abbrev pub after_switch : Switched → Proc (Res Unit)
after_switch (Ok (Some s)) = resume_switch s
after_switch (Ok None) = fine
after_switch (Err _) = refuse E.RfStuck

-- Which call is meant. From no public document: the code's names of the thirteen calls of tag.rs (protocol/specs/Call).
--
--   named c lent     == the call that the code names by c, with the bytes that are lent to it
use Rattle.std.specs.Prelude.{ℕ, List}
use Rattle.protocol.specs.Call as call
use Rattle.calling.specs.declared.Call.{Call}
use Rattle.calling.specs.declared.Call.TheVariants as C

abbrev pub named : Call → List ℕ → call.Call
named C.Identify lent = call.identify
named C.Prepare lent = call.prepare
named C.WaitReady lent = call.wait_ready
named (C.ReadUser at n) lent = call.read_user at n
named (C.Write at) lent = call.write at lent
named C.RfOff lent = call.rf_off
named C.RfOn lent = call.rf_on
named C.RfWrote lent = call.rf_wrote
named (C.ReadWhole n) lent = call.read_whole n
named C.Scrub lent = call.scrub
named C.Begin lent = call.begin
named C.GoLive lent = call.go_live
named C.Finish lent = call.finish

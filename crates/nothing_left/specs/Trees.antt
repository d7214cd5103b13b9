-- The program that the theorems are about. Source: crate `protocol`, specs/Calls.
--
--   tree_of c m      == what the call c does with the mark at m, as the theorems run it
-- Any of the wrong programs of Slips put in its place is refused (must-fail/). The lemmas about a call open its definition, so that it is
-- what the program does that counts, and not how it is written.
use Rattle.protocol.specs.Calls.{call_of}
use Rattle.nothing_left.specs.Programs.{Program}

abbrev pub tree_of : Program
tree_of c m = call_of c m

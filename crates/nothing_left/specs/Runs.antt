-- A call on the part of demand 3, for a host that sends what is asked for, waits the delays, and hands back the part's own replies.
-- Source: document 01, 'A session's transfers (tag.rs)', last paragraph, and 'The part of demand 3'.
--
--   Moment, Moments     == what is chosen around one transfer: what a phone does before it, how long a cycle that it begins takes;
--                          and such a choice for each transfer. Every choice is one, and each has its run
--   onwards w           == the choices from the second transfer on
--   followed r ρ        == the reply r to the first transfer, and ρ to those after it
--   replies q p w       == what the part p replies to the transfers of q
--   begun n p more      == p where n is 0, no transfer yet; else what `more` has for one transfer fewer
--   part_after n q p w   == the part after n of the transfers of q, or at its end
--   part_of q p w        == the part at its end
--   Outcome             == how a call ends: for its host (answer, mark, report), what passed on the bus, and the part
--   run_by t c m p w     == the call c of the program t with the mark at m, on the part p
--   run c m p w         == the same of the program that the theorems are about
--   Empty bs            == 8,192 bytes, each of them zero
--   Clean o             == Ok, RF off, nothing may be non-zero, all bytes zero, no cycle running
use Rattle.std.specs.Prelude.{◌≡◌, false, List, [], ℕ, zero, suc, length, get_or, Ok}
use Rattle.protocol.specs.Transfer.{Reply}
use Rattle.protocol.specs.Tag.{user_memory}
use Rattle.protocol.specs.Mark.{Mark, none}
use Rattle.protocol.specs.Proc.{Proc, done, ask, mark}
use Rattle.protocol.specs.Call.{Call}
use Rattle.protocol.specs.Trace.{Replies, Exchange, End, trace, talk, end_of, nothing}
use Rattle.protocol.specs.declared.answer.Answer.TheVariants.{Done}
use Rattle.part.specs.Part.{Part, rf_on}
use Rattle.part.specs.Bus.{reply_of, after_of}
use Rattle.part.specs.Power.{Visit, visited}
use Rattle.nothing_left.specs.Programs.{Program}
use Rattle.nothing_left.specs.Trees.{tree_of}

pub record Moment : Type 0 where
  pub phone : Visit
  pub cycle : ℕ

abbrev pub Moments : Type 0
Moments = ℕ → Moment

abbrev pub onwards : Moments → Moments
onwards w n = w (suc n)

-- the reply to the first transfer, and to those after it
abbrev pub followed : Reply → Replies → Replies
followed r ρ zero = r
followed r ρ (suc n) = ρ n

abbrev pub replies : {A : Type 0} → Proc A → Part → Moments → Replies
replies (done a) p w = λ n. record { ack = false; got = [] }
replies (ask t k) p w =
    let q = visited (w 0).phone p in
    followed (reply_of t q) (replies (k (reply_of t q)) (after_of t (w 0).cycle q) (onwards w))
replies (mark m q) p w = replies q p w

-- none of the transfers yet, or one more
abbrev pub begun : ℕ → Part → (ℕ → Part) → Part
begun zero p more = p
begun (suc n) p more = more n

abbrev pub part_after : {A : Type 0} → ℕ → Proc A → Part → Moments → Part
part_after n (done a) p w = p
part_after n (ask t k) p w =
    let q = visited (w 0).phone p in
    begun n p (λ j. part_after j (k (reply_of t q)) (after_of t (w 0).cycle q) (onwards w))
part_after n (mark m q) p w = part_after n q p w

abbrev pub part_of : {A : Type 0} → Proc A → Part → Moments → Part
part_of (done a) p w = p
part_of (ask t k) p w =
    let q = visited (w 0).phone p in
    part_of (k (reply_of t q)) (after_of t (w 0).cycle q) (onwards w)
part_of (mark m q) p w = part_of q p w

pub record Outcome : Type 0 where
  pub end : End
  pub passed : List Exchange
  pub part : Part

unfoldable pub run_by : Program → Call → Mark → Part → Moments → Outcome
run_by t c m p w = record {
  end = end_of (talk m nothing (t c m)) (replies (t c m) p w);
  passed = trace (t c m) (replies (t c m) p w);
  part = part_of (t c m) p w;
}

abbrev pub run : Call → Mark → Part → Moments → Outcome
run = run_by tree_of

pub record Empty (bs : List ℕ) : Type 0 where
  pub size : length bs ≡ user_memory
  pub zero : (i : ℕ) → get_or bs i 0 ≡ 0

pub record Clean (o : Outcome) : Type 0 where
  pub answer : o.end.answer ≡ Ok Done
  pub mark : o.end.mark ≡ none
  pub silent : rf_on o.part.registers ≡ false
  pub empty : Empty o.part.memory
  pub idle : o.part.registers.busy ≡ 0

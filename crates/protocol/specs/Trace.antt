-- A run of a call: for each sequence of replies the transfers, the answer, the mark and the report.
-- Source: document 01, the paragraph 'Added' of 'A session's transfers (tag.rs)' (rows programmed), and 'Required forms by place' (a
-- counter, equal to the count over the trace).
--
--   Replies           == a reply for each transfer, for as long as the call goes on
--   later ρ           == the replies from the second on
--   Exchange          == a transfer with its reply
--   trace p ρ         == the exchanges of p with the replies ρ, to the end: a call has one for every ρ, so every call ends
--   onwards n p more  == p where n is 0, no reply yet; else what `more` has for one reply fewer
--   rest n p ρ        == what is left of p after n of the replies
--   answer_of p ρ      == what p answers then
--   mark_of m p ρ      == the mark then, which was m before
--   transfers es      == how many of the exchanges are transfers on the bus; delays are not counted
--   rows_of e          == 1 for an acknowledged row write, else 0
--   rows_in es         == how many are acknowledged row writes
--   Report            == what is said of a call beside its answer: rows programmed
--   nothing, noted    == the report before the first exchange; and after one more
--   report_on r es     == the report r with all the exchanges noted
--   Talk              == a call as its host sees it: `asks m t k`, the mark is m and the transfer t is asked for, and k has what
--                        follows each reply; `over a m r`, the answer, the mark, the report
--   talk m r p        == p as its host sees it, from the mark m and the report r
--   End, end_of t ρ    == how a talk ends with the replies ρ
use Rattle.std.specs.Prelude.{ℕ, zero, suc, ◌+◌, List, [], ◌∷◌, ◌&&◌, Result}
use Rattle.protocol.specs.Transfer.{Transfer, Reply, busy, is_row}
use Rattle.protocol.specs.Tag.{user, user_memory}
use Rattle.protocol.specs.Mark.{Mark}
use Rattle.protocol.specs.Proc.{Proc, done, ask, mark, when◌then◌else◌}
use Rattle.protocol.specs.declared.answer.TagError.{TagError}
use Rattle.protocol.specs.declared.answer.Answer.{Answer}

abbrev pub Replies : Type 0
Replies = ℕ → Reply

abbrev pub later : Replies → Replies
later ρ n = ρ (suc n)

pub record Exchange : Type 0 where
  pub transfer : Transfer
  pub reply : Reply

abbrev pub trace : {A : Type 0} → Proc A → Replies → List Exchange
trace (done a) ρ = []
trace (ask t k) ρ = record { transfer = t; reply = ρ 0 } ∷ trace (k (ρ 0)) (later ρ)
trace (mark m p) ρ = trace p ρ

-- nothing replied yet, or one reply more
abbrev pub onwards : {A : Type 0} → ℕ → Proc A → (ℕ → Proc A) → Proc A
onwards zero p more = p
onwards (suc n) p more = more n

abbrev pub rest : {A : Type 0} → ℕ → Proc A → Replies → Proc A
rest n (done a) ρ = done a
rest n (ask t k) ρ = onwards n (ask t k) (λ j. rest j (k (ρ 0)) (later ρ))
rest n (mark m p) ρ = rest n p ρ

abbrev pub answer_of : {A : Type 0} → Proc A → Replies → A
answer_of (done a) ρ = a
answer_of (ask t k) ρ = answer_of (k (ρ 0)) (later ρ)
answer_of (mark m p) ρ = answer_of p ρ

abbrev pub mark_of : {A : Type 0} → Mark → Proc A → Replies → Mark
mark_of m (done a) ρ = m
mark_of m (ask t k) ρ = mark_of m (k (ρ 0)) (later ρ)
mark_of m (mark n p) ρ = mark_of n p ρ

abbrev pub transfers : List Exchange → ℕ
transfers [] = 0
transfers (e ∷ es) = busy e.transfer + transfers es

-- 1 for an acknowledged row write
abbrev pub rows_of : Exchange → ℕ
rows_of e = when is_row user user_memory e.transfer && e.reply.ack then 1 else 0

abbrev pub rows_in : List Exchange → ℕ
rows_in [] = 0
rows_in (e ∷ es) = rows_of e + rows_in es

pub record Report : Type 0 where
  pub rows : ℕ

abbrev pub nothing : Report
nothing = record { rows = 0 }

abbrev pub noted : Report → Exchange → Report
noted r e = record { rows = r.rows + rows_of e }

abbrev pub report_on : Report → List Exchange → Report
report_on r [] = r
report_on r (e ∷ es) = report_on (noted r e) es

pub data Talk : Type 0 where
  asks : Mark → Transfer → (Reply → Talk) → Talk
  over : Result Answer TagError → Mark → Report → Talk

abbrev pub talk : Mark → Report → Proc (Result Answer TagError) → Talk
talk m r (done a) = over a m r
talk m r (ask t k) = asks m t (λ x. talk m (noted r (record { transfer = t; reply = x })) (k x))
talk m r (mark n p) = talk n r p

pub record End : Type 0 where
  pub answer : Result Answer TagError
  pub mark : Mark
  pub report : Report

abbrev pub end_of : Talk → Replies → End
end_of (over a m r) ρ = record { answer = a; mark = m; report = r }
end_of (asks m t k) ρ = end_of (k (ρ 0)) (later ρ)

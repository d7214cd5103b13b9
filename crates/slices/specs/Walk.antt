-- A walk: a step is taken until it answers. From no public document: how a loop is written as a definition.
--
--   Next S R                == what a step gives: `more`, the state to go on from, or `done`, the answer
--   on_next n k              == the answer of n, or what k makes of the state that n goes on from
--   walk_f step stuck f s    == at most f steps from s; `stuck` where they do not suffice
--   walk step stuck size s  == walk from s by `step`, whose states get smaller by `size`; `stuck` is never the answer then
--
-- `walk` brings its fuel itself, as much as its start is large. `walk_step`, in proofs/Walks, is the equation that a reader expects:
-- a walk is its first step, and then a walk. Nothing after it looks at the fuel.
use Rattle.std.specs.Prelude.{ℕ, zero, suc}

pub data Next (S R : Type 0) : Type 0 where
  more : S → Next S R
  done : R → Next S R

abbrev pub on_next : {S R : Type 0} → Next S R → (S → R) → R
on_next (more t) k = k t
on_next (done r) k = r

unfoldable pub walk_f : {S R : Type 0} → (S → Next S R) → R → ℕ → S → R
walk_f step stuck zero s = stuck
walk_f step stuck (suc f) s = on_next (step s) (λ t. walk_f step stuck f t)

unfoldable pub walk : {S R : Type 0} → (S → Next S R) → R → (S → ℕ) → S → R
unfolding walk_f
walk step stuck size s = walk_f step stuck (suc (size s)) s

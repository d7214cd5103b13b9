-- A session that is driven goes along the trace of its call, to its end.
use mathlib.Core.Path.{◌≡◌, sym, subst, ap, ◌∙◌}
use mathlib.Core.List.{List, [], ◌∷◌}
use Prim.Native.Nat.{ℕ}
use native.Mathlib.Omega.{arith}
use lib.ListN.{length}
use Rattle.std.specs.Prelude.{Result}
use Rattle.protocol.specs.Transfer.{Transfer, Reply}
use Rattle.protocol.specs.Mark.{Mark}
use Rattle.protocol.specs.Proc.{Proc, done, ask, mark}
use Rattle.protocol.specs.Trace.{Replies, later, Exchange, trace, Report, noted, Talk, talk, asks, over, End, end_of}
use Rattle.protocol.specs.declared.answer.TagError.{TagError}
use Rattle.protocol.specs.declared.answer.Answer.{Answer}
use Rattle.machine.specs.Ask.{meant}
use Rattle.stages.specs.Turns.{stage_ask, stage_step}
use Rattle.runs.specs.Resume.{after_turn}
use Rattle.runs.specs.Runs.{Runs, ends, goes}
use Rattle.stages.specs.declared.stage.Stage.{Stage}
use Rattle.stages.specs.declared.stage.Turn.{Turn}
use Rattle.stages.specs.declared.stage.Turn.TheVariants.{Open, Over}
use Rattle.runs.proofs.Bridge.{session_bridge}

module _ (lent : List ℕ) where
  -- what a stage does with each reply
  abbrev on : Report → Mark → Stage → Reply → Talk
  on r m st x = after_turn lent (noted r (record { transfer = meant lent (stage_ask (length lent) st); reply = x })) (stage_step lent m st x.ack x.got)

  -- the definition has answered: so has the session
  answered : (a : Result Answer TagError) (m : Mark) (r : Report) (t : Turn) (ρ : Replies) → over a m r ≡ after_turn lent r t
      → Runs lent r t ρ [] (record { answer = a; mark = m; report = r })
  answered a m r (Over n b) ρ e =
      let ea : b ≡ a = cc in
      let em : n ≡ m = cc in
      subst (λ (z : Result Answer TagError). Runs lent r (Over n b) ρ [] (record { answer = z; mark = m; report = r })) ea
      (subst (λ (z : Mark). Runs lent r (Over n b) ρ [] (record { answer = b; mark = z; report = r })) em ends)
  answered a m r (Open n st) ρ e =
      let q : over a m r ≡ asks n (meant lent (stage_ask (length lent) st)) (on r n st) = e ∙ session_bridge lent n r st in
      absurd (let z : ◌≡◌ {A = ℕ} 0 1 = cc in omega arith)

  -- the definition asks: so does the session, for the same transfer, and goes on to the same after the reply
  asked : (m : Mark) (t : Transfer) (k : Reply → Talk) (r : Report) (u : Turn) (ρ : Replies) (es : List Exchange) (f : End) → asks m t k ≡ after_turn lent r u
      → ((v : Turn) → k (ρ 0) ≡ after_turn lent (noted r (record { transfer = t; reply = ρ 0 })) v
      → Runs lent (noted r (record { transfer = t; reply = ρ 0 })) v (later ρ) es f)
      → Runs lent r u ρ (record { transfer = t; reply = ρ 0 } ∷ es) f
  asked m t k r (Over n b) ρ es f e h = absurd (let z : ◌≡◌ {A = ℕ} 0 1 = cc in omega arith)
  asked m t k r (Open n st) ρ es f e h =
      let q : asks m t k ≡ asks n (meant lent (stage_ask (length lent) st)) (on r n st) = e ∙ session_bridge lent n r st in
      let et : t ≡ meant lent (stage_ask (length lent) st) = cc in
      let ek : k ≡ on r n st = cc in
      let v = stage_step lent n st (ρ 0).ack (ρ 0).got in
      goes et (h v (ap (λ (g : Reply → Talk). g (ρ 0)) ek ∙ ap (λ (z : Transfer). after_turn lent (noted r (record { transfer = z; reply = ρ 0 })) v) (sym et)))

  pub runs_along : (p : Proc (Result Answer TagError)) (m : Mark) (r : Report) (t : Turn) (ρ : Replies) → talk m r p ≡ after_turn lent r t
      → Runs lent r t ρ (trace p ρ) (end_of (talk m r p) ρ)
  runs_along (done a) m r t ρ e = answered a m r t ρ e
  runs_along (ask x k) m r t ρ e =
      asked m x _ r t ρ (trace (k (ρ 0)) (later ρ)) _ e (λ v g. runs_along (k (ρ 0)) m (noted r (record { transfer = x; reply = ρ 0 })) v (later ρ) g)
  runs_along (mark n p) m r t ρ e = runs_along p n r t ρ e

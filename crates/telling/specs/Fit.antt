-- When a step's transfer fits the buffers. From no public document: what the code requires of a step that it settles. The 19 and 64 bytes
-- are those of document 01, 'Numbers a caller gets', 33.
--
--   StageFits n st  == st can ask (`Able`), and what it asks for fits (`AskFits`), with n bytes of data, no more than the part has
--   TurnFits n t    == the same where the call goes on
use Rattle.std.specs.Prelude.{ℕ, ◌≤◌}
use Rattle.protocol.specs.Tag.{user_memory}
use Rattle.stages.specs.Turns.{stage_ask}
use Rattle.stages.specs.Able.{Able}
use Rattle.stages.specs.declared.stage.Stage.{Stage}
use Rattle.stages.specs.declared.stage.Turn.{Turn}
use Rattle.stages.specs.declared.stage.Turn.TheVariants.{Open, Over}
use Rattle.telling.specs.Step.{AskFits}

unfoldable pub StageFits : ℕ → Stage → Type 0
StageFits n st = Able n user_memory st × AskFits n (stage_ask n st) × (n ≤ user_memory)

unfoldable pub TurnFits : ℕ → Turn → Type 0
TurnFits n (Open m st) = StageFits n st
TurnFits n (Over m a) = Unit

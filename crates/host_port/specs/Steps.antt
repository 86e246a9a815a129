use Rattle.std.specs.Prelude.{◌≡◌, ℕ, ◌+◌, ◌<◌, ◌≤◌, List, Option, Some, IsSome, IsTrue}
use Rattle.host_port.specs.declared.ask.Ask.{Ask}
use Rattle.host_port.specs.declared.reply.Reply.{Reply}
use Rattle.host_port.specs.declared.stop.Spent.{Spent}
use Rattle.host_port.specs.declared.stop.Spent.TheVariants as limit
use Rattle.host_port.specs.declared.stop.Stop.{Stop}
use Rattle.host_port.specs.declared.stop.Stop.TheVariants as stop
use Rattle.host_port.specs.Areas.{areas_fit}
use Rattle.host_port.specs.Forms.{HasForm}
use Rattle.host_port.specs.Standing.{Standing, State, Ready, Asking, Finished, Trapped, Exhausted, Phase, Owing, state_of}

-- A run is counted in fuel. The fuel that an instruction burns:
abbrev pub instruction_cost : ℕ
instruction_cost = 1

-- A limit ends the run at this state. Fuel: an instruction is to come, its cost is not left of the most that may be
-- burnt, and the budget reaches for it, since a budget that ends at the same point goes first. Frames and values: the
-- state says so. Traffic is counted by the host, and no engine stops for it.
abbrev pub RunsOut : Spent → Option State → (fuel most used budget : ℕ) → Type 0
RunsOut limit.Fuel state fuel most used budget =
    (state ≡ Some Ready) × (most < fuel + instruction_cost) × (used + instruction_cost ≤ budget)
RunsOut limit.Frames state fuel most used budget = state ≡ Some (Exhausted limit.Frames)
RunsOut limit.Values state fuel most used budget = state ≡ Some (Exhausted limit.Values)
RunsOut limit.Traffic state fuel most used budget = ⊥

-- A run at this state, after `fuel` was burnt of at most `most`, of which `used` of this budget, stops so. Slice: an
-- instruction is to come, and the budget does not reach for it.
abbrev pub StopsSo : Stop → Option State → (fuel most used budget : ℕ) → Type 0
StopsSo stop.Slice state fuel most used budget = (state ≡ Some Ready) × (budget < used + instruction_cost)
StopsSo (stop.Asks ask) state fuel most used budget = state ≡ Some (Asking ask)
StopsSo stop.Done state fuel most used budget = state ≡ Some Finished
StopsSo (stop.Trap trap) state fuel most used budget = state ≡ Some (Trapped trap)
StopsSo (stop.Spent spent) state fuel most used budget = RunsOut spent state fuel most used budget

-- From `fuel` on, `used` is burnt and the run then stops so: at most the budget, and none past the most that may be. At
-- each point between where the run stands, an instruction is to come; within the cost of one it stands nowhere.
pub record IsStep (at : ℕ → Option Standing) (most fuel budget : ℕ) (reason : Stop) (used : ℕ) : Type 0 where
  pub within : used ≤ budget
  pub ready : (k : ℕ) → k < used → IsSome (at (fuel + k)) → state_of (at (fuel + k)) ≡ Some Ready
  pub fueled : fuel + used ≤ most
  pub stops : StopsSo reason (state_of (at (fuel + used))) (fuel + used) most used budget

-- a reply that may be given: an ask is owed, all its areas lie in the memory, and the reply has the form of its call
pub record IsAnswerable (phase : Phase) (memory : List ℕ) (reply : Reply) : Type 0 where
  pub ask : Ask
  pub owed : phase ≡ Owing ask
  pub fits : IsTrue (areas_fit memory ask)
  pub form : HasForm ask reply

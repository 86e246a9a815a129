use Rattle.std.specs.Prelude.{◌≡◌, ℕ, List, [], Option, Some, None, option_map}
use Rattle.wasm_ops.specs.declared.trap.Trap.{Trap}
use Rattle.host_port.specs.declared.ask.Ask.{Ask}
use Rattle.host_port.specs.declared.stop.Spent.{Spent}
use Rattle.host_port.specs.declared.stop.Spent.TheVariants as limit
use Rattle.host_port.specs.declared.stop.Stop.{Stop}
use Rattle.host_port.specs.declared.stop.Stop.TheVariants as stop

-- where a run stands: an instruction is to come; a host call waits for its reply; the entry function has returned;
-- an instruction trapped; frames or values have passed their limit
pub data State : Type 0 where
  Ready : State
  Asking : (ask : Ask) → State
  Finished : State
  Trapped : (trap : Trap) → State
  Exhausted : (spent : Spent) → State

-- where a run stands, and the bytes of the memory there; without a memory there are none
pub record Standing : Type 0 where
  pub state : State
  pub memory : List ℕ

-- the state of a run, if there is one
abbrev pub state_of : Option Standing → Option State
state_of standing = option_map (λ (s : Standing). s.state) standing

-- the memory of a run, if there is one
abbrev pub memory_of : Option Standing → List ℕ
memory_of None = []
memory_of (Some standing) = standing.memory

-- the run is over without a trap and with nothing owed: Done, or more values than may stand
abbrev pub IsAtEnd : Option State → Type 0
IsAtEnd None = ⊥
IsAtEnd (Some Ready) = ⊥
IsAtEnd (Some (Asking ask)) = ⊥
IsAtEnd (Some Finished) = Unit {0}
IsAtEnd (Some (Trapped trap)) = ⊥
IsAtEnd (Some (Exhausted spent)) = spent ≡ limit.Values

-- the run may be stepped: an instruction is to come, or the run is at its end, which the next step tells
abbrev pub MayStep : Option State → Type 0
MayStep None = ⊥
MayStep (Some Ready) = Unit {0}
MayStep (Some (Asking ask)) = ⊥
MayStep (Some Finished) = Unit {0}
MayStep (Some (Trapped trap)) = ⊥
MayStep (Some (Exhausted spent)) = spent ≡ limit.Values

-- what an engine may be told next: to step; the reply to an ask; nothing, since a step answered the end of the life
pub data Phase : Type 0 where
  Running : Phase
  Owing : (ask : Ask) → Phase
  Over : Phase

-- what an engine may be told after a step that stopped so
abbrev pub phase_after : Stop → Phase
phase_after stop.Slice = Running
phase_after (stop.Asks ask) = Owing ask
phase_after stop.Done = Over
phase_after (stop.Trap trap) = Over
phase_after (stop.Spent spent) = Over

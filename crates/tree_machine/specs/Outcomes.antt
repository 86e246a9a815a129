-- What an instruction makes of what it works on.
use Rattle.std.specs.Prelude.{ℕ, ◌∷◌, List}
use Rattle.wasm_ops.specs.declared.trap.Trap.{Trap}
use Rattle.host_port.specs.declared.ask.Ask.{Ask}
use Rattle.host_port.specs.declared.stop.Spent.{Spent}
use Rattle.tree_machine.specs.Config.{Config, Frame, with_frames, with_operands}

-- a part of a configuration is changed so; the instruction traps; no rule applies, which validity rules out
pub data Effect (A : Type 0) : Type 0 where
  Gives : (value : A) → Effect A
  Fails : (trap : Trap) → Effect A
  Undefined : Effect A

-- The configuration goes on so. The host is asked: so many results are to come, on top of the operands of the
-- configuration that waits. The instruction traps. A limit is met. No rule applies.
pub data Outcome : Type 0 where
  Goes : (to : Config) → Outcome
  Calls : (ask : Ask) (results : ℕ) (waits : Config) → Outcome
  Traps : (trap : Trap) → Outcome
  Exceeds : (spent : Spent) → Outcome
  Stuck : Outcome

-- the innermost frame is changed so; below it stand these frames
abbrev pub to_frame : Config → List Frame → Effect Frame → Outcome
to_frame c below (Gives f) = Goes (with_frames (f ∷ below) c)
to_frame c below (Fails trap) = Traps trap
to_frame c below Undefined = Stuck

-- the operands of the innermost frame are changed so
abbrev pub to_operands : Config → Frame → List Frame → Effect (List ℕ) → Outcome
to_operands c f below (Gives operands) = Goes (with_frames (with_operands operands f ∷ below) c)
to_operands c f below (Fails trap) = Traps trap
to_operands c f below Undefined = Stuck

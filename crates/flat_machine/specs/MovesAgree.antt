-- When a move of the flat machine is the step of the trees' machine.
use Rattle.std.specs.Prelude.{◌≡◌, ℕ, ◌+◌, ◌≤◌, List, [], length, reverse, option_to_list, Some, IfSome}
use Rattle.host_port.specs.Standing.{Asking, Trapped, Exhausted, Finished}
use Rattle.host_port.specs.declared.ask.Ask.{Ask}
use Rattle.host_port.specs.declared.reply.Reply.{Reply}
use Rattle.host_port.specs.declared.reply.Text.{Text}
use Rattle.host_port.specs.declared.reply.Word.{Word}
use Rattle.host_port.specs.declared.stop.Spent.TheVariants as limit
use Rattle.wasm_ops.specs.Table.{IsAccessWidth}
use Rattle.wasm_form.specs.declared.types.FuncType.{FuncType}
use Rattle.wasm_form.specs.declared.parts.Parts.{Parts}
use Rattle.code_map.specs.declared.body_map.BodyMap.{BodyMap}
use Rattle.code_map.specs.declared.map.CodeMap.{CodeMap}
use Rattle.tree_machine.specs.Functions.{Host, callee_of}
use Rattle.tree_machine.specs.Config.{Config, bytes_of}
use Rattle.tree_machine.specs.Limits.{most_values}
use Rattle.tree_machine.specs.Point.{point, settle}
use Rattle.tree_machine.specs.Replies.{replied}
use Rattle.tree_machine.specs.Step.{step}
use Rattle.tree_machine.specs.Typed.{IsTyped}
use Rattle.flat_machine.specs.Flat.{Flat}
use Rattle.flat_machine.specs.Mapping.{Follows, StandsOn}
use Rattle.flat_machine.specs.Waiting.{FollowsGiven}
use Rattle.flat_machine.specs.Entering.{StandsIn}
use Rattle.flat_machine.specs.Halts.{replied_to}
use Rattle.flat_machine.specs.Moves.{Move, Executes, Passes, Asks, Traps, Exceeds, Overfull, Ends, Stuck, places_in}

-- one instruction leads the trees' machine to a configuration for which the flat machine stands
pub record StepsTo (m : Parts) (maps : List BodyMap) (c : Config) (to : Flat) : Type 0 where
  pub config : Config
  pub steps : step m c ≡ Some (settle m config)
  pub typed : IsTyped m [] config
  pub follows : Follows m maps to config

-- the machine that waits, for so many results of this call of the host, stands for this configuration, and has room for
-- them
pub record WaitsFor (m : Parts) (maps : List BodyMap) (ask : Ask) (results : ℕ) (waits : Flat) (c : Config) :
    Type 0 where
  pub follows : FollowsGiven m maps results waits c
  pub index : ℕ
  pub ty : FuncType
  pub callee_is : callee_of m index ≡ Some (Host ty ask.call)
  pub results_are : results ≡ length ty.results
  pub room : places_in waits + results ≤ most_values
  pub typed : IsTyped m (reverse ty.results) c

-- one instruction asks the host, and the trees' machine waits as the flat one does
pub record StepAsks (m : Parts) (maps : List BodyMap) (c : Config) (ask : Ask) (results : ℕ) (waits : Flat) :
    Type 0 where
  pub config : Config
  pub steps : step m c ≡ Some (point (Asking ask) config)
  pub waits_for : WaitsFor m maps ask results waits config

-- A move of a flat machine that stands for this configuration is the step of the trees' machine. What costs nothing
-- leaves the point of the run; where there is nothing to enter, or no room for it, the run stands at its end.
abbrev pub MoveAgrees : Parts → CodeMap → Flat → Config → Move → Type 0
MoveAgrees m map flat c (Executes to) = StepsTo m map.bodies c to
MoveAgrees m map flat c (Passes to) = StandsOn m map.bodies to c
MoveAgrees m map flat c (Asks ask results waits) = StepAsks m map.bodies c ask results waits
MoveAgrees m map flat c (Traps trap) = step m c ≡ Some (point (Trapped trap) c)
MoveAgrees m map flat c (Exceeds spent) = step m c ≡ Some (point (Exhausted spent) c)
MoveAgrees m map flat c Overfull = StandsIn (Exhausted limit.Values) flat.memory (settle m c)
MoveAgrees m map flat c Ends = StandsIn Finished flat.memory (settle m c)
MoveAgrees m map flat c Stuck = ⊥

-- The reply can be given to the machine that waits: its text and its word lie in the memory, and it has as many results
-- as are to come. With it the machine stands for a typed configuration where the run goes on.
pub record TakesReply (m : Parts) (maps : List BodyMap) (results : ℕ) (waits : Flat) (c : Config) (reply : Reply) :
    Type 0 where
  pub text : IfSome reply.text (λ (t : Text). t.addr + length t.bytes ≤ length (bytes_of waits.memory))
  pub word : IfSome reply.word
      (λ (w : Word). IsAccessWidth w.width × (w.addr + w.width ≤ length (bytes_of waits.memory)))
  pub count : length (option_to_list reply.result) ≡ results
  pub to : Config
  pub goes_on : replied m c reply ≡ Some (settle m to)
  pub typed : IsTyped m [] to
  pub follows : Follows m maps (replied_to reply waits) to

-- Where a flat machine stands in the run of its module.
use Rattle.std.specs.Prelude.{◌≡◌, ℕ, ◌+◌, ◌≤◌, List, [], length, replicate, slice_get, Option, Some, None, IfSome, option_to_list}
use Rattle.wasm_ops.specs.Table.{IsAccessWidth}
use Rattle.host_port.specs.Standing.{State, Ready, Asking, Finished, Trapped, Exhausted}
use Rattle.host_port.specs.declared.ask.Ask.{Ask}
use Rattle.host_port.specs.declared.call.Call.{Call}
use Rattle.host_port.specs.declared.reply.Reply.{Reply}
use Rattle.host_port.specs.declared.reply.Text.{Text}
use Rattle.host_port.specs.declared.reply.Word.{Word}
use Rattle.host_port.specs.declared.start.Start.{Start}
use Rattle.host_port.specs.declared.stop.Spent.TheVariants as limit
use Rattle.wasm_form.specs.declared.body.Body.{Body}
use Rattle.wasm_form.specs.declared.parts.Parts.{Parts}
use Rattle.code_map.specs.declared.map.CodeMap.{CodeMap}
use Rattle.tree_machine.specs.Config.{Config, bytes_of}
use Rattle.tree_machine.specs.Limits.{most_values}
use Rattle.tree_machine.specs.Begin.{instance_of}
use Rattle.tree_machine.specs.Point.{point, settle}
use Rattle.tree_machine.specs.Run.{point_at}
use Rattle.tree_machine.specs.Typed.{IsTyped}
use Rattle.flat_machine.specs.declared.halt.Halt.{Halt}
use Rattle.flat_machine.specs.declared.halt.Halt.TheVariants as halt
use Rattle.flat_machine.specs.Flat.{Place, Flat}
use Rattle.flat_machine.specs.Mapping.{Follows}
use Rattle.flat_machine.specs.MovesAgree.{WaitsFor}

-- the machine stands for a typed configuration at which the run is, after these calls and so many instructions
pub record Stands (m : Parts) (map : CodeMap) (start : Start) (calls : List Call) (fuel : ℕ) (flat : Flat) :
    Type 0 where
  pub config : Config
  pub follows : Follows m map.bodies flat config
  pub typed : IsTyped m [] config
  pub is_at : point_at m start calls fuel ≡ Some (settle m config)

-- the run is in this state, with the machine's memory
abbrev pub IsIn : Parts → Start → List Call → (fuel : ℕ) → State → Flat → Type 0
IsIn m start calls fuel state flat =
    (c : Config) × (point_at m start calls fuel ≡ Some (point state c)) × (c.memory ≡ flat.memory)

-- the run is at this ask, after these calls and so many instructions, and the machine waits for its reply
pub record Awaits (m : Parts) (map : CodeMap) (start : Start) (calls : List Call) (fuel : ℕ) (ask : Ask) (flat : Flat) :
    Type 0 where
  pub results : ℕ
  pub config : Config
  pub waits_for : WaitsFor m map.bodies ask results flat config
  pub is_at : point_at m start calls fuel ≡ Some (point (Asking ask) config)

-- an instruction is to come where the run is
abbrev pub IsReadyAt : Parts → Start → List Call → (fuel : ℕ) → Type 0
IsReadyAt m start calls fuel = (c : Config) × (point_at m start calls fuel ≡ Some (point Ready c))

-- the code of this body
abbrev pub size_of_body : Option Body → ℕ
size_of_body None = 0
size_of_body (Some body) = length body.expr.code

-- the machine before its first function is entered: it stands behind the end of the first body, without a caller, as if
-- that had given its results, all of them 0
abbrev pub first_place : Parts → Place
first_place m = record { pc = size_of_body (slice_get m.bodies 0); body = 0; base = 0; opens = 0 }

abbrev pub first_flat : Parts → Start → (results : ℕ) → Flat
first_flat m start results = record {
  values = replicate results 0;
  place = first_place m;
  callers = [];
  globals = (instance_of m start).globals;
  table = (instance_of m start).table;
  memory = (instance_of m start).memory;
  invocations = (instance_of m start).invocations;
}

-- what a halt says of the run, which is there after these calls and so many instructions
abbrev pub HaltStands : Parts → CodeMap → Start → List Call → (fuel : ℕ) → Halt → Flat → Type 0
HaltStands m map start calls fuel halt.Slice flat =
    Stands m map start calls fuel flat × IsIn m start calls fuel Ready flat
HaltStands m map start calls fuel (halt.Asks ask) flat =
    Awaits m map start calls fuel ask flat × IsIn m start calls fuel (Asking ask) flat
HaltStands m map start calls fuel (halt.Trap trap) flat = IsIn m start calls fuel (Trapped trap) flat
HaltStands m map start calls fuel (halt.Spent spent) flat = IsIn m start calls fuel (Exhausted spent) flat
HaltStands m map start calls fuel halt.Overfull flat = IsIn m start calls fuel (Exhausted limit.Values) flat
HaltStands m map start calls fuel halt.Ends flat = IsIn m start calls fuel Finished flat

-- The reply can be given to the machine that waits: its text and its word lie in the memory, and its result has room.
pub record ReplyFits (reply : Reply) (flat : Flat) : Type 0 where
  pub text : IfSome reply.text (λ (t : Text). t.addr + length t.bytes ≤ length (bytes_of flat.memory))
  pub word : IfSome reply.word (λ (w : Word).
      IsAccessWidth w.width × (w.addr + w.width ≤ length (bytes_of flat.memory)))
  pub room : length flat.values + flat.place.opens + length (option_to_list reply.result) ≤ most_values

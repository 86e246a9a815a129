-- The run of a module.
use Rattle.std.specs.Prelude.{◌≡◌, ℕ, zero, suc, ◌&&◌, cond, nat_le, List, [], ◌∷◌, ◌++◌, map, Option, Some, None, option_map, option_and_then, is_none}
use Rattle.host_port.specs.Areas.{request_of}
use Rattle.host_port.specs.Standing.{Standing, State, Ready, Asking, Finished, Trapped, Exhausted}
use Rattle.host_port.specs.declared.ask.Ask.{Ask}
use Rattle.host_port.specs.declared.call.Call.{Call}
use Rattle.host_port.specs.declared.request.Request.{Request}
use Rattle.host_port.specs.declared.start.Start.{Start}
use Rattle.wasm_form.specs.declared.types.FuncType.{FuncType}
use Rattle.wasm_form.specs.declared.parts.Parts.{Parts}
use Rattle.tree_machine.specs.Functions.{Host, callee_of}
use Rattle.tree_machine.specs.Config.{Config, bytes_of}
use Rattle.tree_machine.specs.Point.{Point, point, shown}
use Rattle.tree_machine.specs.Step.{step}
use Rattle.tree_machine.specs.Replies.{same_request, replied}
use Rattle.tree_machine.specs.Begin.{begin, begun}

-- where a run stands, and the calls that are left: the asks so far were those of the calls before these
pub record Course : Type 0 where
  pub place : Point
  pub left : List Call

abbrev pub course : List Call → Point → Course
course left place = record { place = place; left = left }

-- the ask of the waiting configuration is that of the next call, with the bytes that the memory has now, and takes its
-- reply; where no call is left it waits
abbrev pub answer_ask : Parts → Ask → (waits : Config) → List Call → Option Course
answer_ask m ask waits [] = Some (course [] (point (Asking ask) waits))
answer_ask m ask waits (call ∷ left) =
    cond (same_request call.request (request_of (bytes_of waits.memory) ask))
    (option_map (course left) (replied m waits call.reply))
    None

-- what comes of an ask, where a run is at one
abbrev pub answer : Parts → State → Config → List Call → Option Course
answer m (Asking ask) c left = answer_ask m ask c left
answer m Ready c left = Some (course left (point Ready c))
answer m Finished c left = Some (course left (point Finished c))
answer m (Trapped trap) c left = Some (course left (point (Trapped trap) c))
answer m (Exhausted spent) c left = Some (course left (point (Exhausted spent) c))

abbrev pub answered : Parts → List Call → Point → Option Course
answered m left p = answer m p.state p.config left

-- one instruction more, where one is to come
abbrev pub advance : Parts → State → Config → List Call → Option Course
advance m Ready c left = option_and_then (answered m left) (step m c)
advance m (Asking ask) c left = None
advance m Finished c left = None
advance m (Trapped trap) c left = None
advance m (Exhausted spent) c left = None

abbrev pub advanced : Parts → Course → Option Course
advanced m r = advance m r.place.state r.place.config r.left

-- the run with these calls after n instructions
unfoldable pub run : Parts → Start → List Call → ℕ → Option Course
run m start calls zero = answered m calls (begun m start)
run m start calls (suc n) = option_and_then (advanced m) (run m start calls n)

-- where it stands, if all calls are used
abbrev pub used_up : Point → List Call → Option Point
used_up place [] = Some place
used_up place (call ∷ left) = None

abbrev pub all_used : Course → Option Point
all_used r = used_up r.place r.left

-- where the run stands after these calls and n instructions, if there is one: it is not refused, the fuel is not
-- passed, and all calls are used
unfoldable pub point_at : Parts → Start → List Call → ℕ → Option Point
point_at m start calls n =
    cond (is_none (begin m start) && nat_le n start.limits.fuel) (option_and_then all_used (run m start calls n)) None

-- what a host sees of it. Where it is ready and n is the most instructions, the next step is refused for want of fuel
unfoldable pub at : Parts → Start → List Call → ℕ → Option Standing
at m start calls n = option_map shown (point_at m start calls n)

-- the request of an ask that waits for its reply, if a run is at one
abbrev pub pending : State → (memory : List ℕ) → List Request
pending (Asking ask) memory = request_of memory ask ∷ []
pending Ready memory = []
pending Finished memory = []
pending (Trapped trap) memory = []
pending (Exhausted spent) memory = []

-- the requests of a run, in order, an unanswered last one included; nothing where there is no such run
unfoldable pub asked : Parts → Start → List Call → ℕ → Option (List Request)
asked m start calls n =
    option_map (λ (s : Standing). map (λ (c : Call). c.request) calls ++ pending s.state s.memory) (at m start calls n)

-- a function of the module is the host call with this number
abbrev pub may_ask : Parts → (call : ℕ) → Type 0
may_ask m call = (index : ℕ) × (ty : FuncType) × (callee_of m index ≡ Some (Host ty call))

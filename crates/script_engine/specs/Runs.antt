use Rattle.std.specs.Prelude.{◌≡◌, ℕ, ◌+◌, ◌-◌, List, [], ◌∷◌, length, drop, Option, Some, None, Bool, true, false, cond, nat_eq, nat_le, ◌&&◌, IsSome, option_map}
use Rattle.std.specs.Cmp.Lexicographic.{pointwise}
use Rattle.wasm_ops.specs.declared.trap.Trap.{Trap}
use Rattle.host_port.specs.declared.ask.Ask.{Ask}
use Rattle.host_port.specs.declared.call.Call.{Call}
use Rattle.host_port.specs.declared.request.Request.{Request}
use Rattle.host_port.specs.Areas.{request_of}
use Rattle.host_port.specs.Standing.{Standing, State, Ready, Asking, Finished, Trapped, Phase, Running, Owing, Over}

-- two asks are the same
abbrev pub same_ask : Ask → Ask → Bool
same_ask a b = nat_eq a.call b.call && pointwise nat_eq a.args b.args

-- two truth values are the same
abbrev pub same_truth : Bool → Bool → Bool
same_truth true b = b
same_truth false true = false
same_truth false false = true

-- two requests are the same
abbrev pub same_request : Request → Request → Bool
same_request r s =
    same_ask r.ask s.ask && same_truth r.fits s.fits
    && pointwise nat_eq r.first s.first && pointwise nat_eq r.second s.second

-- the calls are of the first of these asks, in their order; a script has no memory
abbrev pub are_of_first : List Ask → List Call → Bool
are_of_first asks [] = true
are_of_first [] (call ∷ calls) = false
are_of_first (ask ∷ asks) (call ∷ calls) = same_request call.request (request_of [] ask) && are_of_first asks calls

-- where a script stands before the next of these asks, or at its end when none is left
abbrev pub state_before : List Ask → Option Trap → State
state_before (ask ∷ asks) end = Ready
state_before [] (Some trap) = Ready
state_before [] None = Finished

-- where a script stands after the instruction that comes next, if one does
abbrev pub state_after : List Ask → Option Trap → Option State
state_after (ask ∷ asks) end = Some (Asking ask)
state_after [] (Some trap) = Some (Trapped trap)
state_after [] None = None

-- where a script stands with these asks left, after so many instructions since the last answer
abbrev pub state_left : List Ask → Option Trap → ℕ → Option State
state_left left end n = cond (nat_eq n 0) (Some (state_before left end)) (cond (nat_eq n 1) (state_after left end) None)

-- a state without a memory
abbrev pub bare : Option State → Option Standing
bare state = option_map (λ (s : State). record { state = s; memory = [] }) state

-- there may be a run with these calls and this fuel: the calls are the script's, and the most is not passed
abbrev pub is_run : List Ask → (most : ℕ) → List Call → ℕ → Bool
is_run asks most calls n = are_of_first asks calls && nat_le (length calls) n && nat_le n most

-- where a script stands after these calls and n of fuel, one for each instruction, an ask being one of them
abbrev pub script_at : List Ask → Option Trap → (most : ℕ) → List Call → ℕ → Option Standing
script_at asks end most calls n =
    cond (is_run asks most calls n) (bare (state_left (drop (length calls) asks) end (n - length calls))) None

-- the instructions since the last answer
abbrev pub since : Bool → ℕ
since executed = cond executed 1 0

-- The engine's own numbers show the run with these calls and this fuel: so many asks were answered, the next instruction
-- was executed or was not, and so much fuel is left.
pub record Follows (asks : List Ask) (end : Option Trap) (most : ℕ) (calls : List Call)
    (fuel answered : ℕ) (executed : Bool) (fuel_left : ℕ) : Type 0 where
  pub as_many : length calls ≡ answered
  pub theirs : are_of_first asks calls ≡ true
  pub fuel_used : fuel ≡ answered + since executed
  pub fuel_kept : fuel + fuel_left ≡ most
  pub there : IsSome (state_left (drop answered asks) end (since executed))

-- an ask that is there is owed
abbrev pub owing : Option Ask → Phase
owing None = Over
owing (Some ask) = Owing ask

-- what the engine may be told next
abbrev pub phase_at : (executed over : Bool) → Option Ask → Phase
phase_at executed true ask = Over
phase_at true false ask = owing ask
phase_at false false ask = Running

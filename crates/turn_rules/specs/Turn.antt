use Rattle.std.specs.Prelude.{◌≡◌, ◌⊎◌, ℕ, ◌+◌, ◌<◌, ◌≤◌, List, [], ◌∷◌, ◌++◌, length, Option, Some, None, IsSome}
use Rattle.wasm_ops.specs.declared.trap.Trap.{Trap}
use Rattle.host_port.specs.declared.call.Call.{Call}
use Rattle.host_port.specs.declared.reply.Reply.{Reply}
use Rattle.host_port.specs.declared.request.Request.{Request}
use Rattle.host_port.specs.declared.stop.Spent.{Spent}
use Rattle.host_port.specs.declared.stop.Spent.TheVariants as limit
use Rattle.host_port.specs.Areas.{request_of}
use Rattle.host_port.specs.Standing.{Standing, Ready, Asking, Finished, Trapped, state_of}
use Rattle.host_port.specs.Steps.{instruction_cost, RunsOut}

-- A turn is what a process does while a worker has it. It is said here for every engine, by the meaning `at` of the
-- program and the start, and for every host, by two things that the host's own rules give:
--   Part      what a process holds besides its memory, as its scratch message
--   local     the reply to a request and the part after it, something exactly where the call is performed by the turn
--             itself and nothing is wrong with the request
-- Where a turn ends with a request, the same rules say what the halt is: a fault, too much traffic, or the request.

-- the most fuel that a turn burns
abbrev pub turn_fuel : ℕ
turn_fuel = 10000

-- the most local calls that a turn answers
abbrev pub most_answers : ℕ
most_answers = 64

-- How a turn ends.
--   Sliced         an instruction is to come, and a bound of the turn is reached
--   Meets          a request that the turn does not answer
--   Returns        the entry function has returned
--   Traps          an instruction trapped
--   Exceeds        a limit of the process is reached
pub data Ending : Type 0 where
  Sliced : Ending
  Meets : (request : Request) → Ending
  Returns : Ending
  Traps : (trap : Trap) → Ending
  Exceeds : (spent : Spent) → Ending

-- The run goes from n to m of fuel by instructions: at each point between where it stands, one is to come. After the last
-- answer of a turn there is none.
pub record Executes (at : ℕ → Option Standing) (answered n m : ℕ) : Type 0 where
  pub onward : n ≤ m
  pub ready : (k : ℕ) → n ≤ k → k < m → IsSome (at k) → state_of (at k) ≡ Some Ready
  pub bounded : n < m → answered < most_answers

-- the run is at this request: it asks so, and the areas have these bytes
pub record Requests (standing : Option Standing) (request : Request) : Type 0 where
  pub memory : List ℕ
  pub asking : standing ≡ Some (record { state = Asking request.ask; memory = memory })
  pub bytes : request ≡ request_of memory request.ask

-- From `calls` and n of fuel, with `answered` local calls behind it, the turn goes on to m of fuel by these further local
-- calls, each asked in its place and given the reply that the host's rules name. The part changes with them.
abbrev pub GoesOn : {Part : Type 0} → (List Call → ℕ → Option Standing) → (Part → Request → Option (Reply × Part)) →
    Part → List Call → (answered n : ℕ) → (further : List Call) → (m : ℕ) → Part → Type 0
GoesOn at local part calls answered n [] m after = Executes (at calls) answered n m × (part ≡ after)
GoesOn {Part} at local part calls answered n (call ∷ further) m after =
    (k : ℕ) × (changed : Part)
    × Executes (at calls) answered n k
    × Requests (at calls k) call.request
    × (local part call.request ≡ Some (call.reply, changed))
    × GoesOn at local changed (calls ++ call ∷ []) (answered + 1) k further m after

-- a bound of the turn is reached: its fuel does not reach for another instruction, or it gave its last answer
abbrev pub IsUsedUp : (used answers : ℕ) → Type 0
IsUsedUp used answers = (turn_fuel < used + instruction_cost) ⊎ (answers ≡ most_answers)

-- the run at this standing, with this part, after `fuel` was burnt of at most `most`, of which `used`, and `answers` local
-- calls, are of this turn, ends the turn so
abbrev pub EndsSo : {Part : Type 0} → (Part → Request → Option (Reply × Part)) → Ending → Option Standing → Part →
    (fuel most used answers : ℕ) → Type 0
EndsSo local Sliced standing part fuel most used answers = (state_of standing ≡ Some Ready) × IsUsedUp used answers
EndsSo local (Meets request) standing part fuel most used answers = Requests standing request × (local part request ≡ None)
EndsSo local Returns standing part fuel most used answers = state_of standing ≡ Some Finished
EndsSo local (Traps trap) standing part fuel most used answers = state_of standing ≡ Some (Trapped trap)
EndsSo local (Exceeds spent) standing part fuel most used answers =
    RunsOut spent (state_of standing) fuel most used turn_fuel × (spent ≡ limit.Fuel → answers < most_answers)

-- The turn from `calls` and n of fuel with this part: its local calls, the fuel that it burns, and how it ends, which is at
-- the first point where a turn ends. Where the run is at its end already, it ends there.
pub record IsTurn {Part : Type 0} (at : List Call → ℕ → Option Standing) (local : Part → Request → Option (Reply × Part))
    (most : ℕ) (part : Part) (calls : List Call) (n : ℕ) (further : List Call) (used : ℕ) (ending : Ending) : Type 0 where
  pub after : Part
  pub goes : GoesOn at local part calls 0 n further (n + used) after
  pub within : used ≤ turn_fuel
  pub few : length further ≤ most_answers
  pub fueled : n + used ≤ most
  pub ends : EndsSo local ending (at (calls ++ further) (n + used)) after (n + used) most used (length further)

-- The turn was cut short for want of memory: it had gone so far, and was at an ask that it was to answer or to end with.
pub record IsCutShort {Part : Type 0} (at : List Call → ℕ → Option Standing) (local : Part → Request → Option (Reply × Part))
    (most : ℕ) (part : Part) (calls : List Call) (n : ℕ) (further : List Call) (used : ℕ) : Type 0 where
  pub after : Part
  pub request : Request
  pub goes : GoesOn at local part calls 0 n further (n + used) after
  pub within : used ≤ turn_fuel
  pub few : length further < most_answers
  pub fueled : n + used ≤ most
  pub meets : Requests (at (calls ++ further) (n + used)) request

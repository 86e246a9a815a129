use Rattle.std.specs.Prelude.{◌≡◌, ◌≢◌, ◌⊎◌, ℕ, ◌+◌, ◌≤◌, List, ◌++◌, length, All, Contains, Option, Some, Bool, true, false}
use Rattle.host_port.specs.declared.request.Request.{Request}
use Rattle.message_scratch.specs.Messages.{slots_of, handles_in}
use Rattle.resource_table.specs.Handles.{Handle, numbers_of}
use Rattle.resource_table.specs.Steps.{Told, IsShut}
use Rattle.world_rules.specs.Calls.{HostCall, call_of, arg}
use Rattle.world_rules.specs.Calls as CallIs
use Rattle.world_rules.specs.Handles.{local_closings}
use Rattle.world_rules.specs.Judge.{Fit, Overdrawn, Faulty, judge}
use Rattle.world_rules.specs.Local.{local}
use Rattle.node_state.specs.Seats.{IsOnce}
use Rattle.host_calls.specs.Listening.{Listening, without_listener}
use Rattle.host_calls.specs.Shown.{shown_part, hands_of}
use Rattle.host_calls.specs.declared.proc.Proc.{Proc}
use Rattle.host_calls.specs.declared.local_calls.LocalStep.{LocalStep}
use Rattle.host_calls.specs.declared.local_calls.LocalStep.TheVariants as step

-- What becomes of a local call.

-- the streams of a process are in order: none is twice in hand, and the shed has room for all that are
pub record AreInOrder {E O P S L : Type 0} (proc : Proc E O P S L) : Type 0 where
  pub once : IsOnce (shown_part proc)
  pub room : length proc.shed + length (hands_of proc) ≤ 320

-- the streams of a process are handed on: each that is in hand was in hand before, the very stream; and what the shed
-- has besides was in hand and was shut
pub record HandsOver {S : Type 0} (tells : Told S) (hands shed hands_after shed_after : List (Handle S)) : Type 0 where
  pub in_hand : (handle : Handle S) → Contains hands_after handle → Contains hands handle
  pub more : List (Handle S)
  pub behind : shed_after ≡ shed ++ more
  pub shut : (handle : Handle S) → Contains more handle →
      ∥ ((before : Handle S) × Contains hands before × IsShut tells before handle) ∥₁

-- the listeners after an answered call: without the one that it drops
abbrev pub listeners_after : {L : Type 0} → Option HostCall → Request → Listening L → Listening L
listeners_after (Some CallIs.DropListener) request listening = without_listener (arg request 0) listening
listeners_after _ request listening = listening

-- The call is answered as the rules say, which leave this part, and has shed the streams that they say it closes; or
-- the process stays as it was: its request isn't fit, or is fit and the machine refused memory.
abbrev pub IsStepOf : {E O P S L : Type 0} → Request → (old new : Proc E O P S L) → LocalStep → Type 0
IsStepOf request old new (step.Reply reply) =
    (local old.start (shown_part old) request ≡ Some (reply, shown_part new))
    × (numbers_of new.shed
    ≡ numbers_of old.shed ++ local_closings (call_of request) (shown_part old) request)
    × (new.listeners ≡ listeners_after (call_of request) request old.listeners)
IsStepOf request old new (step.Fault fault) = (judge old.start (shown_part old) request ≡ Faulty fault) × (new ≡ old)
IsStepOf request old new step.Spent = (judge old.start (shown_part old) request ≡ Overdrawn) × (new ≡ old)
IsStepOf request old new step.NoMemory = (judge old.start (shown_part old) request ≡ Fit) × (new ≡ old)

-- the local calls that the host serves
abbrev pub is_answered : HostCall → Bool
is_answered CallIs.CreateData = true
is_answered CallIs.WriteData = true
is_answered CallIs.ReadData = true
is_answered CallIs.SeekData = true
is_answered CallIs.DataSize = true
is_answered CallIs.GetTag = true
is_answered CallIs.PushStream = true
is_answered CallIs.TakeStream = true
is_answered CallIs.ProcessId = true
is_answered CallIs.DropStream = true
is_answered CallIs.DropListener = true
is_answered CallIs.Print = true
is_answered _ = false

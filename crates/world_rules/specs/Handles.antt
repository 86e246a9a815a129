use Rattle.std.specs.Prelude.{ℕ, List, [], ◌∷◌, ◌++◌, length, Option, Some}
use Rattle.host_port.specs.declared.start.Start.{Start}
use Rattle.host_port.specs.declared.call.Call.{Call}
use Rattle.host_port.specs.declared.request.Request.{Request}
use Rattle.world_rules.specs.Calls.{HostCall, call_of, arg}
use Rattle.world_rules.specs.Calls as CallIs
use Rattle.world_rules.specs.Part.{Part, slots_of, scratch_handles}
use Rattle.world_rules.specs.Mail.{MailItem, Letter, Signal}
use Rattle.world_rules.specs.Local.{local, part_of}
use Rattle.world_rules.specs.Moves.{Move, Pushed, Taken, Received, Shut, ShutScratch}

-- The moves of handles that calls make, and the handles that calls close.

-- a new scratch message shuts the streams of the old one; a push moves a stream into the next slot; a take moves one
-- out of its slot; a drop shuts one
abbrev pub local_moves : Option HostCall → ℕ → Part → Request → List Move
local_moves (Some CallIs.CreateData) pid part request = ShutScratch pid ∷ []
local_moves (Some CallIs.PushStream) pid part request = Pushed (arg request 0) pid (length (slots_of part.scratch)) ∷ []
local_moves (Some CallIs.TakeStream) pid part request = Taken pid (arg request 0) ∷ []
local_moves (Some CallIs.DropStream) pid part request = Shut (arg request 0) ∷ []
local_moves _ pid part request = []

-- the streams that a local call closes
abbrev pub local_closings : Option HostCall → Part → Request → List ℕ
local_closings (Some CallIs.CreateData) part request = scratch_handles part
local_closings (Some CallIs.DropStream) part request = arg request 0 ∷ []
local_closings _ part request = []

-- the moves of these local calls, one call after another
abbrev pub moves_of : ℕ → Start → Part → List Call → List Move
moves_of pid start part [] = []
moves_of pid start part (call ∷ calls) =
    local_moves (call_of call.request) pid part call.request
    ++ moves_of pid start (part_of part (local start part call.request)) calls

-- the streams that these local calls close, in order
abbrev pub closings_of : Start → Part → List Call → List ℕ
closings_of start part [] = []
closings_of start part (call ∷ calls) =
    local_closings (call_of call.request) part call.request
    ++ closings_of start (part_of part (local start part call.request)) calls

-- the moves of a delivery: the old scratch message's streams are shut, a message's streams come into the scratch area
abbrev pub delivery_moves : ℕ → MailItem → List Move
delivery_moves pid (Letter number message) = ShutScratch pid ∷ Received pid number ∷ []
delivery_moves pid (Signal tag) = ShutScratch pid ∷ []

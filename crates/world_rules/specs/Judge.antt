use Rattle.std.specs.Prelude.{ℕ, ◌+◌, length, Option, Some, None, Bool, true, false, nat_eq, nat_lt, nat_le, is_some, if◌then◌else◌}
use Rattle.std.specs.Option.{option_or}
use Rattle.host_port.specs.declared.start.Start.{Start}
use Rattle.host_port.specs.declared.request.Request.{Request}
use Rattle.world_rules.specs.declared.halt.HostFault.{HostFault}
use Rattle.world_rules.specs.declared.halt.HostFault.TheVariants as FaultIs
use Rattle.world_rules.specs.Calls.{HostCall, call_of, arg}
use Rattle.world_rules.specs.Calls as CallIs
use Rattle.world_rules.specs.Kinds.{area_bytes}
use Rattle.world_rules.specs.Part.{Part, Scratch, slots_of, handle_at, is_among, most_slots, most_handles}

-- How a request is judged: first its areas, then its traffic, then the call's own faults.

-- a request is fit; its traffic passes the limit; or a fault ends the process, and the call isn't performed
pub data Judgement : Type 0 where
  Fit : Judgement
  Overdrawn : Judgement
  Faulty : (fault : HostFault) → Judgement

-- TRAFFIC. A request costs 64 bytes and the lengths of the areas that it names.
abbrev pub cost_of : Request → ℕ
cost_of request = 64 + area_bytes request

-- the part with the cost of a request added
abbrev pub charged : Request → Part → Part
charged request part = record part { traffic = part.traffic + cost_of request }

-- this fault, unless something holds
abbrev pub unless : Bool → HostFault → Option HostFault
unless true fault = None
unless false fault = Some fault

-- a scratch message is needed
abbrev pub needs_message : Part → Option HostFault
needs_message part = unless (is_some part.scratch) FaultIs.NoMessage

-- the stream is needed in the own table
abbrev pub needs_handle : Part → ℕ → Option HostFault
needs_handle part handle = unless (is_among part.handles handle) FaultIs.NoSuchHandle

-- the config is needed
abbrev pub needs_config : Part → ℕ → Option HostFault
needs_config part number = unless (is_some (part.configs number)) FaultIs.NoSuchConfig

-- the listener is needed
abbrev pub needs_listener : Part → ℕ → Option HostFault
needs_listener part listener = unless (is_among part.listeners listener) FaultIs.NoSuchListener

-- the place lies within the scratch message
abbrev pub needs_size : Option Scratch → ℕ → Option HostFault
needs_size None place = None
needs_size (Some scratch) place = unless (nat_le place (length scratch.message.bytes)) FaultIs.BadSeek

-- the number that names no config: -1 as an i64
abbrev pub no_config : ℕ
no_config = 0xFFFFFFFFFFFFFFFF

-- a spawn with a config needs it
abbrev pub needs_spawn_config : Part → ℕ → Option HostFault
needs_spawn_config part number = if nat_eq number no_config then None else needs_config part number

-- a stream can be pushed where there is a message, the stream is in the table, and fewer than 64 were pushed
abbrev pub push_fault : Part → ℕ → Option HostFault
push_fault part handle =
    option_or (needs_message part)
    (option_or (needs_handle part handle)
    (unless (nat_lt (length (slots_of part.scratch)) most_slots) FaultIs.PlacesFull))

-- a stream can be taken where there is a message, the stream is at the place, and fewer than 256 are in the table
abbrev pub take_fault : Part → ℕ → Option HostFault
take_fault part place =
    option_or (needs_message part)
    (option_or (unless (is_some (handle_at (slots_of part.scratch) place)) FaultIs.EmptyPlace)
    (unless (nat_lt (length part.handles) most_handles) FaultIs.TableFull))

-- OWN FAULTS. The first fault of a call, in the order in which its faults are judged; most calls have none.
abbrev pub own_fault : HostCall → Part → Request → Option HostFault
own_fault CallIs.WriteData part request = needs_message part
own_fault CallIs.ReadData part request = needs_message part
own_fault CallIs.SeekData part request = option_or (needs_message part) (needs_size part.scratch (arg request 0))
own_fault CallIs.DataSize part request = needs_message part
own_fault CallIs.GetTag part request = needs_message part
own_fault CallIs.PushStream part request = push_fault part (arg request 0)
own_fault CallIs.TakeStream part request = take_fault part (arg request 0)
own_fault CallIs.Send part request = needs_message part
own_fault CallIs.Spawn part request = needs_spawn_config part (arg request 1)
own_fault CallIs.DropConfig part request = needs_config part (arg request 0)
own_fault CallIs.SetMaxMemory part request = needs_config part (arg request 0)
own_fault CallIs.SetMaxFuel part request = needs_config part (arg request 0)
own_fault CallIs.GetMaxMemory part request = needs_config part (arg request 0)
own_fault CallIs.GetMaxFuel part request = needs_config part (arg request 0)
own_fault CallIs.LocalPort part request = needs_listener part (arg request 0)
own_fault CallIs.Accept part request = needs_listener part (arg request 0)
own_fault CallIs.ReadStream part request = needs_handle part (arg request 0)
own_fault CallIs.WriteStream part request = needs_handle part (arg request 0)
own_fault CallIs.DropStream part request = needs_handle part (arg request 0)
own_fault CallIs.DropListener part request = needs_listener part (arg request 0)
own_fault _ part request = None

-- a call that isn't in the host table has no faults
abbrev pub fault_of : Option HostCall → Part → Request → Option HostFault
fault_of None part request = None
fault_of (Some call) part request = own_fault call part request

-- a fault, or none
abbrev pub judgement_of : Option HostFault → Judgement
judgement_of None = Fit
judgement_of (Some fault) = Faulty fault

-- JUDGE. An area that passes the end of the memory; then traffic that passes the process's limit; then the call's own
-- faults.
abbrev pub judge : Start → Part → Request → Judgement
judge start part request =
    if request.fits
    then (if nat_le (part.traffic + cost_of request) start.limits.traffic
    then judgement_of (fault_of (call_of request) part request)
    else Overdrawn)
    else Faulty FaultIs.BadPointer

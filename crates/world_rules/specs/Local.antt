use Rattle.std.specs.Prelude.{◌≡◌, ℕ, ◌+◌, ◌-◌, List, [], ◌∷◌, ◌++◌, length, take, drop, min, option_map, Option, Some, None, if◌then◌else◌}
use Rattle.std.specs.Option.{option_map_or}
use Rattle.host_port.specs.declared.start.Start.{Start}
use Rattle.host_port.specs.declared.call.Call.{Call}
use Rattle.host_port.specs.declared.request.Request.{Request}
use Rattle.host_port.specs.declared.reply.Reply.{Reply}
use Rattle.host_port.specs.Allowance.{Allowance}
use Rattle.world_rules.specs.Calls.{HostCall, call_of, arg}
use Rattle.world_rules.specs.Calls as CallIs
use Rattle.world_rules.specs.Kinds.{is_local}
use Rattle.world_rules.specs.Part.{Part, Message, Scratch, blank_message, unread, most_message_bytes, slots_of, handle_at, emptied, with_number, without_number, with_message, read_to, with_handles, with_config}
use Rattle.world_rules.specs.Answers.{empty_reply, number_reply, text_reply}
use Rattle.world_rules.specs.Judge.{Judgement, Fit, Overdrawn, Faulty, judge, charged}

-- The calls that the turn itself answers, from the process's own part. They are judged fit before, so that the
-- message, the stream, the config or the listener that they need is there.

-- MESSAGES

-- the bytes that a write adds: as many as the message still holds
abbrev pub written_bytes : Scratch → Request → List ℕ
written_bytes scratch request = take (most_message_bytes - length scratch.message.bytes) request.first

-- the bytes that a read gives: from the read place on, as many as are asked for
abbrev pub read_bytes : Scratch → Request → List ℕ
read_bytes scratch request = take (arg request 1) (drop scratch.read_place scratch.message.bytes)

-- the reply of a call that needs the scratch message
abbrev pub reply_from : Option Scratch → (Scratch → Reply) → Reply
reply_from scratch reply = option_map_or reply scratch empty_reply

-- the part after a call that needs the scratch message
abbrev pub part_from : Option Scratch → (Scratch → Part) → Part → Part
part_from scratch change part = option_map_or change scratch part

-- a write puts its bytes behind the others
abbrev pub after_write : Request → Part → Scratch → Part
after_write request part scratch =
    with_message (λ (m : Message). record m { bytes = m.bytes ++ written_bytes scratch request }) part

-- a read moves the read place
abbrev pub after_read : Request → Part → Scratch → Part
after_read request part scratch = read_to (scratch.read_place + length (read_bytes scratch request)) part

-- STREAMS

-- a push moves the stream from the table into the next slot
abbrev pub after_push : ℕ → Part → Part
after_push handle part =
    with_message (λ (m : Message). record m { slots = m.slots ++ Some handle ∷ [] })
    (with_handles (without_number handle part.handles) part)

-- a take moves the stream from its slot into the table
abbrev pub after_take : ℕ → Part → ℕ → Part
after_take place part handle =
    with_message (λ (m : Message). record m { slots = emptied m.slots place })
    (with_handles (with_number handle part.handles) part)

-- CONFIGS

-- a new config has the process's own limits
abbrev pub after_create_config : Start → Part → Part
after_create_config start part =
    record (with_config part.next_config (Some start.limits) part) { next_config = part.next_config + 1 }

-- the limits with so many pages, and with so much fuel, but never more than the process's own
abbrev pub with_pages : Start → ℕ → Allowance → Allowance
with_pages start pages limits = record limits { pages = min pages start.limits.pages }

abbrev pub with_fuel : Start → ℕ → Allowance → Allowance
with_fuel start fuel limits = record limits { fuel = min fuel start.limits.fuel }

-- the part with the limits of a config changed
abbrev pub changed_config : ℕ → (Allowance → Allowance) → Part → Part
changed_config number change part = with_config number (option_map change (part.configs number)) part

-- a number that the limits of a config tell
abbrev pub reply_of_config : Part → ℕ → (Allowance → ℕ) → Reply
reply_of_config part number told =
    option_map_or (λ (limits : Allowance). number_reply (told limits)) (part.configs number) empty_reply

-- REPLIES AND PARTS

-- what a local call answers
abbrev pub local_reply : HostCall → Start → Part → Request → Reply
local_reply CallIs.WriteData start part request =
    reply_from part.scratch (λ scratch. number_reply (length (written_bytes scratch request)))
local_reply CallIs.ReadData start part request =
    reply_from part.scratch (λ scratch. text_reply (length (read_bytes scratch request)) (arg request 0)
    (read_bytes scratch request))
local_reply CallIs.DataSize start part request =
    reply_from part.scratch (λ scratch. number_reply (length scratch.message.bytes))
local_reply CallIs.GetTag start part request = reply_from part.scratch (λ scratch. number_reply scratch.message.tag)
local_reply CallIs.PushStream start part request = number_reply (length (slots_of part.scratch))
local_reply CallIs.TakeStream start part request =
    option_map_or number_reply (handle_at (slots_of part.scratch) (arg request 0)) empty_reply
local_reply CallIs.ProcessId start part request = number_reply start.pid
local_reply CallIs.CreateConfig start part request = number_reply part.next_config
local_reply CallIs.GetMaxMemory start part request = reply_of_config part (arg request 0) (λ limits. limits.pages)
local_reply CallIs.GetMaxFuel start part request = reply_of_config part (arg request 0) (λ limits. limits.fuel)
local_reply _ start part request = empty_reply

-- the part after a local call
abbrev pub local_part : HostCall → Start → Part → Request → Part
local_part CallIs.CreateData start part request =
    record part { scratch = Some (unread (blank_message (arg request 0))) }
local_part CallIs.WriteData start part request = part_from part.scratch (after_write request part) part
local_part CallIs.ReadData start part request = part_from part.scratch (after_read request part) part
local_part CallIs.SeekData start part request = read_to (arg request 0) part
local_part CallIs.PushStream start part request = after_push (arg request 0) part
local_part CallIs.TakeStream start part request =
    option_map_or (after_take (arg request 0) part) (handle_at (slots_of part.scratch) (arg request 0)) part
local_part CallIs.CreateConfig start part request = after_create_config start part
local_part CallIs.DropConfig start part request = with_config (arg request 0) None part
local_part CallIs.SetMaxMemory start part request =
    changed_config (arg request 0) (with_pages start (arg request 1)) part
local_part CallIs.SetMaxFuel start part request = changed_config (arg request 0) (with_fuel start (arg request 1)) part
local_part CallIs.DropStream start part request = with_handles (without_number (arg request 0) part.handles) part
local_part CallIs.DropListener start part request =
    record part { listeners = without_number (arg request 0) part.listeners }
local_part _ start part request = part

-- the reply and the part after a call of this name
abbrev pub answer_of : Option HostCall → Start → Part → Request → Option (Reply × Part)
answer_of None start part request = None
answer_of (Some call) start part request =
    Some (local_reply call start part request, local_part call start (charged request part) request)

-- only a fit request is answered
abbrev pub if_fit : Judgement → Option (Reply × Part) → Option (Reply × Part)
if_fit Fit answer = answer
if_fit Overdrawn answer = None
if_fit (Faulty fault) answer = None

-- LOCAL. The reply to a request and the part after it, where the call is local and the request is judged fit.
abbrev pub local : Start → Part → Request → Option (Reply × Part)
local start part request =
    if is_local request then if_fit (judge start part request) (answer_of (call_of request) start part request)
    else None

-- the part after an answer; without one it stays
abbrev pub part_of : Part → Option (Reply × Part) → Part
part_of part None = part
part_of part (Some answer) = answer.1

-- the part after these local calls
abbrev pub part_after : Start → Part → List Call → Part
part_after start part [] = part
part_after start part (call ∷ calls) = part_after start (part_of part (local start part call.request)) calls

-- each of these calls is local, is judged fit and has its reply
abbrev pub AreLocal : Start → Part → List Call → Type 0
AreLocal start part [] = Unit {0}
AreLocal start part (call ∷ calls) =
    (option_map (λ (answer : Reply × Part). answer.0) (local start part call.request) ≡ Some call.reply)
    × AreLocal start (part_of part (local start part call.request)) calls

use Rattle.std.specs.Prelude.{◌≡◌, ◌≢◌, ◌⊎◌, ℕ, ◌+◌, ◌<◌, ◌≤◌, List, [], ◌∷◌, ◌++◌, length, Option, Some, None, Bool, true, false, AllPairs}
use Rattle.host_port.specs.declared.start.Start.{Start}
use Rattle.host_port.specs.declared.call.Call.{Call}
use Rattle.host_port.specs.declared.request.Request.{Request}
use Rattle.host_port.specs.declared.reply.Reply.{Reply}
use Rattle.host_port.specs.declared.stop.Spent.TheVariants as SpentIs
use Rattle.host_port.specs.Standing.{Standing}
use Rattle.turn_rules.specs.Turn.{Ending, Sliced, Meets, Returns, Traps, Exceeds, IsTurn, IsCutShort}
use Rattle.world_rules.specs.declared.halt.End.{End}
use Rattle.world_rules.specs.declared.halt.End.TheVariants as EndIs
use Rattle.world_rules.specs.Calls.{HostCall, call_of, arg}
use Rattle.world_rules.specs.Calls as CallIs
use Rattle.world_rules.specs.Kinds.{kind_of, HasRowForm}
use Rattle.host_port.specs.declared.row.Kind.TheVariants as KindIs
use Rattle.world_rules.specs.Answers.{number_reply, written_reply}
use Rattle.world_rules.specs.Part.{Part, no_part, is_among, scratch_handles, handles_in, most_message_bytes, most_slots, most_handles, most_listeners}
use Rattle.world_rules.specs.Mail.{Letter, Signal, is_wanted, tags_in}
use Rattle.world_rules.specs.Settled.{settled, SentOff, Delivered, StreamOpened, ListenerBound}
use Rattle.world_rules.specs.Judge.{Judgement, Fit, Overdrawn, Faulty, judge, charged}
use Rattle.world_rules.specs.Local.{local}
use Rattle.world_rules.specs.Streams.{has_result, word_value}
use Rattle.world_rules.specs.Outside.{id_address}
use Rattle.world_rules.specs.Arrivals.{Arrival, What}
use Rattle.world_rules.specs.Arrivals as Came

-- The life of one process, from its start and what arrives at it. No world stands in these definitions.

-- where a life stands: its calls, its fuel and its part; how many turns it has run; the request that it owes; the end
-- by its own halt; whether memory was lacking; and the end that came to it
pub record Stand : Type 0 where
  pub calls : List Call
  pub fuel : ℕ
  pub part : Part
  pub turns : ℕ
  pub owed : Option Request
  pub halted : Option End
  pub starved : Bool
  pub doom : Option End

-- at the start
abbrev pub first_stand : Stand
first_stand =
    record { calls = []; fuel = 0; part = no_part; turns = 0; owed = None; halted = None; starved = false; doom = None }

-- a turn can be run: nothing is owed, and the life hasn't ended
pub record IsFree (s : Stand) : Type 0 where
  pub owed : s.owed ≡ None
  pub halted : s.halted ≡ None
  pub starved : s.starved ≡ false
  pub doom : s.doom ≡ None

-- TURNS

-- the life with so many calls and so much fuel more, one turn later
abbrev pub turned : Stand → List Call → ℕ → Part → Stand
turned s further burnt after =
    record s { calls = s.calls ++ further; fuel = s.fuel + burnt; part = after; turns = s.turns + 1 }

abbrev pub with_end : End → Stand → Stand
with_end end s = record s { halted = Some end }

-- the life whose turn met a request: it is owed, or the life ends with the fault or for its traffic
abbrev pub met : Judgement → Request → Stand → Stand
met Fit request s = record s { owed = Some request; part = charged request s.part }
met Overdrawn request s = with_end (EndIs.Spent SpentIs.Traffic) s
met (Faulty fault) request s = with_end (EndIs.Host fault) s

-- the life whose turn ended so
abbrev pub after_ending : Start → Ending → Stand → Stand
after_ending start Sliced s = s
after_ending start (Meets request) s = met (judge start s.part request) request s
after_ending start Returns s = with_end EndIs.Done s
after_ending start (Traps trap) s = with_end (EndIs.Trap trap) s
after_ending start (Exceeds spent) s = with_end (EndIs.Spent spent) s

-- one turn
pub record RunsTurn (at : List Call → ℕ → Option Standing) (start : Start) (s next : Stand) : Type 0 where
  pub free : IsFree s
  pub further : List Call
  pub burnt : ℕ
  pub ending : Ending
  pub turn : IsTurn at (local start) start.limits.fuel s.part s.calls s.fuel further burnt ending
  pub stands : next ≡ after_ending start ending (turned s further burnt turn.after)

-- ARRIVALS

-- the life with its owed request answered
abbrev pub answered : Stand → Request → Reply → Part → Stand
answered s request reply part =
    record s { calls = s.calls ++ record { request = request; reply = reply } ∷ []; owed = None; part = part }

-- the answers that don't come as such: 0 and 1 of a receive are deliveries, and 0 of an accept or a connect is an
-- opened stream
abbrev pub ComesAsAnswer : Option HostCall → Part → Reply → Type 0
ComesAsAnswer (Some CallIs.Receive) part reply = (has_result 0 reply ≡ false) × (has_result 1 reply ≡ false)
ComesAsAnswer (Some CallIs.Accept) part reply = has_result 0 reply ≡ false
ComesAsAnswer (Some CallIs.Connect) part reply = has_result 0 reply ≡ false
ComesAsAnswer (Some CallIs.Bind) part reply =
    has_result 0 reply ≡ true → (word_value reply.word ≡ part.next_listener) × (length part.listeners < most_listeners)
ComesAsAnswer _ part reply = Unit {0}

-- a send that is answered 0 empties the scratch message, and a bind that is answered 0 brings a listener
abbrev pub part_with : Option HostCall → Bool → Part → Part
part_with (Some CallIs.Send) true part = settled part SentOff
part_with (Some CallIs.Bind) true part = settled part ListenerBound
part_with _ _ part = part

-- a request of the world or of the outside is owed, and this is an answer to it
pub record IsAnswered (s : Stand) (reply : Reply) (next : Stand) : Type 0 where
  pub request : Request
  pub owed : s.owed ≡ Some request
  pub form : HasRowForm request reply
  pub comes : ComesAsAnswer (call_of request) s.part reply
  pub stands : next ≡ answered s request reply (part_with (call_of request) (has_result 0 reply) s.part)

-- a call that opens a stream
abbrev pub OpensStream : Option HostCall → Type 0
OpensStream (Some CallIs.Accept) = Unit {0}
OpensStream (Some CallIs.Connect) = Unit {0}
OpensStream _ = ⊥

-- an opened stream that the process doesn't hold, where the table has a place
pub record IsOpened (s : Stand) (reply : Reply) (next : Stand) : Type 0 where
  pub request : Request
  pub call : HostCall
  pub handle : ℕ
  pub owed : s.owed ≡ Some request
  pub called : call_of request ≡ Some call
  pub opens : OpensStream (Some call)
  pub told : reply ≡ written_reply 0 (id_address call request) handle
  pub place : length s.part.handles < most_handles
  pub unheld : is_among s.part.handles handle ≡ false
  pub unsent : is_among (scratch_handles s.part) handle ≡ false
  pub stands : next ≡ answered s request reply (settled s.part (StreamOpened handle))

-- a receive is owed that wants this tag
pub record IsReceiving (s : Stand) (request : Request) (tag : ℕ) : Type 0 where
  pub owed : s.owed ≡ Some request
  pub called : call_of request ≡ Some CallIs.Receive
  pub wanted : is_wanted (tags_in request.first) tag ≡ true

-- a message of at most 64 slots and 1,048,576 bytes, whose streams are distinct and not in the table
pub record IsDelivered (s : Stand) (tag : ℕ) (bytes : List ℕ) (slots : List (Option ℕ)) (next : Stand) : Type 0 where
  pub request : Request
  pub receives : IsReceiving s request tag
  pub few : length slots ≤ most_slots
  pub short : length bytes ≤ most_message_bytes
  pub distinct : AllPairs (λ a b. a ≢ b) (handles_in slots)
  pub unheld : (handle : ℕ) → is_among (handles_in slots) handle ≡ true → is_among s.part.handles handle ≡ false
  pub stands : next ≡ answered s request (number_reply 0)
      (settled s.part (Delivered (Letter 0 (record { tag = tag; bytes = bytes; slots = slots }))))

-- a signal
pub record IsSignalled (s : Stand) (tag : ℕ) (next : Stand) : Type 0 where
  pub request : Request
  pub receives : IsReceiving s request tag
  pub stands : next ≡ answered s request (number_reply 1) (settled s.part (Delivered (Signal tag)))

-- the ends that come from outside a turn
abbrev pub ComesToProcess : End → Type 0
ComesToProcess EndIs.Killed = Unit {0}
ComesToProcess EndIs.Linked = Unit {0}
ComesToProcess EndIs.Closed = Unit {0}
ComesToProcess EndIs.Stalled = Unit {0}
ComesToProcess EndIs.Idle = Unit {0}
ComesToProcess EndIs.NoMemory = Unit {0}
ComesToProcess _ = ⊥

-- an end that came to the process, to which none came before; what was owed is owed no more, and nothing fits after it
pub record IsDoomed (s : Stand) (end : End) (next : Stand) : Type 0 where
  pub first : s.doom ≡ None
  pub comes : ComesToProcess end
  pub stands : next ≡ record s { owed = None; doom = Some end }

-- want of memory at a request of the outside that was tried again
pub record StarvesAgain (s : Stand) (calls : ℕ) (next : Stand) : Type 0 where
  pub request : Request
  pub owed : s.owed ≡ Some request
  pub outside : kind_of request ≡ Some KindIs.Outside
  pub none : calls ≡ 0
  pub stands : next ≡ record s { owed = None; starved = true }

-- want of memory at an ask that the turn meets after so many calls
pub record StarvesInTurn (at : List Call → ℕ → Option Standing) (start : Start) (s : Stand) (calls : ℕ)
    (next : Stand) : Type 0 where
  pub free : IsFree s
  pub further : List Call
  pub burnt : ℕ
  pub short : IsCutShort at (local start) start.limits.fuel s.part s.calls s.fuel further burnt
  pub counted : length further ≡ calls
  pub stands : next ≡ record (turned s further burnt short.after) { starved = true }

-- what arrives fits, and the life stands so after it
abbrev pub Fits : (List Call → ℕ → Option Standing) → Start → Stand → What → Stand → Type 0
Fits at start s (Came.Delivered tag bytes slots) next = IsDelivered s tag bytes slots next
Fits at start s (Came.Signalled tag) next = IsSignalled s tag next
Fits at start s (Came.Answered reply) next = IsAnswered s reply next
Fits at start s (Came.Opened reply) next = IsOpened s reply next
Fits at start s (Came.Doomed end) next = IsDoomed s end next
Fits at start s (Came.Starved calls) next = StarvesAgain s calls next ⊎ StarvesInTurn at start s calls next

-- THE LIFE

-- turns are run until as many are run as the next arrival asks for; after the last arrival until the life rests
abbrev pub AwaitsTurn : Stand → List Arrival → Type 0
AwaitsTurn s [] = Unit {0}
AwaitsTurn s (arrival ∷ arrivals) = s.turns < arrival.turns

-- from one stand to another by these arrivals: each comes after exactly its number of turns
pub data LivesOn (at : List Call → ℕ → Option Standing) (start : Start) : Stand → List Arrival → Stand → Type 0 where
  stays : (s : Stand) → LivesOn at start s [] s
  runs : (s next last : Stand) (arrivals : List Arrival) → AwaitsTurn s arrivals → RunsTurn at start s next
      → LivesOn at start next arrivals last → LivesOn at start s arrivals last
  meets : (s next last : Stand) (arrival : Arrival) (arrivals : List Arrival) → s.turns ≡ arrival.turns
      → Fits at start s arrival.what next → LivesOn at start next arrivals last
      → LivesOn at start s (arrival ∷ arrivals) last

-- the end of a life: one that came to it goes before want of memory, and that before its own halt
abbrev pub end_by : (doom : Option End) → (starved : Bool) → (halted : Option End) → Option End
end_by (Some end) starved halted = Some end
end_by None true halted = Some EndIs.NoMemory
end_by None false halted = halted

abbrev pub end_of : Stand → Option End
end_of s = end_by s.doom s.starved s.halted

-- a life: its calls, what it has, its end, if it has ended, and its fuel; the memory is that of its run after them
pub record Life : Type 0 where
  pub calls : List Call
  pub part : Part
  pub end : Option End
  pub fuel : ℕ

-- a life that has ended has nothing
abbrev pub part_left : Option End → Part → Part
part_left None part = part
part_left (Some end) part = no_part

abbrev pub life_at : Stand → Life
life_at s = record { calls = s.calls; part = part_left (end_of s) s.part; end = end_of s; fuel = s.fuel }

-- LIFE. The life of a process that starts so, over the run of its program, with these arrivals.
pub record IsLife (at : List Call → ℕ → Option Standing) (start : Start) (arrivals : List Arrival)
    (life : Life) : Type 0 where
  pub last : Stand
  pub lives : LivesOn at start first_stand arrivals last
  pub rests : IsFree last → ⊥
  pub told : life ≡ life_at last

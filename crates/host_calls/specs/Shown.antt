use Rattle.std.specs.Prelude.{ℕ, List, ◌++◌, map, Option, option_map}
use Rattle.host_port.specs.declared.call.Call.{Call}
use Rattle.message_scratch.specs.Messages.{slot_numbers, slots_of, handles_in}
use Rattle.message_scratch.specs.Messages as Kept
use Rattle.resource_table.specs.Handles.{Handle, numbers_of}
use Rattle.world_rules.specs.declared.entry.Side.{Side}
use Rattle.world_rules.specs.declared.halt.Halt.{Halt}
use Rattle.world_rules.specs.Part.{Part, Message, Scratch, no_part}
use Rattle.node_state.specs.Fits.{Brought}
use Rattle.node_state.specs.Seats.{Seat}
use Rattle.node_state.specs.Streaming.{BroughtStreams}
use Rattle.host_calls.specs.Listening.{Listening, listener_numbers}
use Rattle.host_calls.specs.declared.proc.Proc.{Proc}
use Rattle.host_calls.specs.declared.proc.Turn.{Turn}
use Rattle.host_calls.specs.declared.judging.Judgement as Judged
use Rattle.host_calls.specs.declared.judging.Judgement.TheVariants as judged
use Rattle.world_rules.specs.Judge.{Judgement, Fit, Overdrawn, Faulty}

-- What the code's structures show of the rules' own.

-- a message, each stream by its number
abbrev pub shown_message : {S : Type 0} → Kept.Message S → Message
shown_message m = record { tag = m.tag; bytes = m.bytes; slots = slot_numbers m.slots }

-- the scratch area
abbrev pub shown_scratch : {S : Type 0} → Option (Kept.Scratch S) → Option Scratch
shown_scratch scratch =
    option_map (λ (s : Kept.Scratch _). record { message = shown_message s.message; read_place = s.read_place }) scratch

-- the part of a process with this scratch area, this table, these listeners and this traffic; nobody has configs yet
abbrev pub part_with : {S L : Type 0} → Option (Kept.Scratch S) → List (Handle S) → Listening L → (traffic : ℕ) → Part
part_with scratch table listening traffic = record no_part {
  scratch = shown_scratch scratch;
  handles = numbers_of table;
  listeners = listener_numbers listening;
  next_listener = listening.next;
  traffic = traffic;
}

abbrev pub shown_part : {E O P S L : Type 0} → Proc E O P S L → Part
shown_part proc = part_with proc.scratch proc.table proc.listeners proc.traffic

-- what is kept of a process
abbrev pub seat_of : {E O P S L : Type 0} → Proc E O P S L → Seat E
seat_of proc = record {
  engine = proc.engine;
  start = proc.start;
  part = shown_part proc;
  fuel = proc.fuel;
  owed = proc.owed;
}

-- the very streams that a process has in hand: those of its table, by rising number, then those of its scratch message,
-- by rising slot
abbrev pub hands_of : {E O P S L : Type 0} → Proc E O P S L → List (Handle S)
hands_of proc = proc.table ++ handles_in (slots_of proc.scratch)

-- what a turn brings back of the process, and of its streams
abbrev pub brought_by : {E O P S L : Type 0} → Proc E O P S L → List Call → Halt → Side → Brought E
brought_by proc calls halt side = record {
  seat = seat_of proc;
  calls = calls;
  halt = halt;
  side = side;
  shed = numbers_of proc.shed;
}

abbrev pub streams_by : {E O P S L : Type 0} → Proc E O P S L → (arrived : Option S) → BroughtStreams S
streams_by proc arrived = record { hands = hands_of proc; shed = proc.shed; arrived = arrived }

abbrev pub brought_in : {E O P S L : Type 0} → Turn E O P S L → Brought E
brought_in turn = brought_by turn.proc turn.calls turn.halt turn.side

abbrev pub streams_in : {E O P S L : Type 0} → Turn E O P S L → BroughtStreams S
streams_in turn = streams_by turn.proc turn.arrived

-- the judgement of the rules that a judgement of the code is
abbrev pub shown_judgement : Judged.Judgement → Judgement
shown_judgement judged.Fit = Fit
shown_judgement judged.Overdrawn = Overdrawn
shown_judgement (judged.Faulty fault) = Faulty fault

use Rattle.std.specs.Prelude.{◌≡◌, ℕ, Option, Some, List, [], ◌∷◌, ◌++◌, length, drop, map, codes}
use Rattle.std.specs.Fmt.{decimal}
use Rattle.wasm_ops.specs.declared.trap.Trap.{Trap}
use Rattle.wasm_ops.specs.declared.trap.Trap.TheVariants as TrapIs
use Rattle.host_port.specs.declared.call.Call.{Call}
use Rattle.host_port.specs.declared.stop.Spent.{Spent}
use Rattle.host_port.specs.declared.stop.Spent.TheVariants as SpentIs
use Rattle.world_rules.specs.declared.entry.Entry.{Entry}
use Rattle.world_rules.specs.declared.life.Birth.{Birth}
use Rattle.world_rules.specs.declared.halt.End.{End}
use Rattle.world_rules.specs.declared.halt.End.TheVariants as EndIs
use Rattle.world_rules.specs.declared.halt.HostFault.{HostFault}
use Rattle.world_rules.specs.declared.halt.HostFault.TheVariants as FaultIs
use Rattle.world_rules.specs.declared.life.Ended.{Ended}
use Rattle.world_rules.specs.Book.{Book}
use Rattle.world_rules.specs.World.{World, Process, Exit, first_world}
use Rattle.world_rules.specs.Rules.{next}
use Rattle.world_rules.specs.Told.{told, IsTold}
use Rattle.world_rules.specs.Views.{Deed, Taking, Giving, Timing, EndingAll, deed_of}
use Rattle.world_rules.specs.Calls.{HostCall, call_of}
use Rattle.world_rules.specs.Calls as CallIs

-- The text that a journal determines.

abbrev pub trap_word : Trap → List ℕ
trap_word TrapIs.Unreachable = codes "unreachable"
trap_word TrapIs.DivideByZero = codes "divide"
trap_word TrapIs.Overflow = codes "overflow"
trap_word TrapIs.Bounds = codes "bounds"
trap_word TrapIs.TableBounds = codes "table"
trap_word TrapIs.NoElement = codes "element"
trap_word TrapIs.WrongType = codes "type"

abbrev pub spent_word : Spent → List ℕ
spent_word SpentIs.Fuel = codes "fuel"
spent_word SpentIs.Frames = codes "frames"
spent_word SpentIs.Values = codes "values"
spent_word SpentIs.Traffic = codes "traffic"

abbrev pub fault_word : HostFault → List ℕ
fault_word FaultIs.NoMessage = codes "nomessage"
fault_word FaultIs.BadPointer = codes "badpointer"
fault_word FaultIs.NoSuchHandle = codes "nosuchhandle"
fault_word FaultIs.EmptyPlace = codes "emptyplace"
fault_word FaultIs.PlacesFull = codes "placesfull"
fault_word FaultIs.TableFull = codes "tablefull"
fault_word FaultIs.BadSeek = codes "badseek"
fault_word FaultIs.NoSuchConfig = codes "nosuchconfig"
fault_word FaultIs.NoSuchListener = codes "nosuchlistener"

abbrev pub end_words : End → List ℕ
end_words EndIs.Done = codes "done"
end_words (EndIs.Trap trap) = codes "trap " ++ trap_word trap
end_words (EndIs.Spent spent) = codes "spent " ++ spent_word spent
end_words (EndIs.Host fault) = codes "host " ++ fault_word fault
end_words EndIs.Killed = codes "killed"
end_words EndIs.Linked = codes "linked"
end_words EndIs.Closed = codes "closed"
end_words EndIs.Stalled = codes "stalled"
end_words EndIs.Idle = codes "idle"
end_words EndIs.NoMemory = codes "nomemory"

abbrev pub line_feed : List ℕ
line_feed = 10 ∷ []

-- process P END fuel N pages N mark N
abbrev pub end_line : Exit → ℕ → Ended → List ℕ
end_line exit fuel memory =
    codes "process " ++ decimal exit.pid ++ codes " " ++ end_words exit.end ++ codes " fuel " ++ decimal fuel
    ++ codes " pages " ++ decimal memory.pages ++ codes " mark " ++ decimal memory.mark ++ line_feed

-- total processes P messages M streams S
abbrev pub total_text : ℕ → ℕ → ℕ → List ℕ
total_text processes messages streams =
    codes "total processes " ++ decimal processes ++ codes " messages " ++ decimal messages ++ codes " streams "
    ++ decimal streams ++ line_feed

-- the process numbers drawn, the sends answered 0, and the stream numbers drawn
abbrev pub total_line : World → List ℕ
total_line w = total_text w.numbers_drawn w.sends w.streams

-- the bytes that a local call printed
abbrev pub printed_by : Option HostCall → Call → List ℕ
printed_by (Some CallIs.Print) call = call.request.first
printed_by _ call = []

abbrev pub printed : List Call → List ℕ
printed [] = []
printed (call ∷ calls) = printed_by (call_of call.request) call ++ printed calls

-- the local calls that an entry records
abbrev pub local_calls : Deed → List Call
local_calls (Taking worker pid) = []
local_calls (Giving give) = give.calls
local_calls (Timing now) = []
local_calls (EndingAll cause) = []

-- the processes that an entry ends, in the order of their ends
abbrev pub exits_by : List Birth → World → Entry → List Exit
exits_by births w entry = drop (length w.exits) (next births w entry).exits

-- their end lines; the memories at these ends are the next items of a list of ends
abbrev pub end_lines : (ℕ → Process) → List Exit → List Ended → List ℕ
end_lines processes [] memories = []
end_lines processes (exit ∷ exits) [] = []
end_lines processes (exit ∷ exits) (memory ∷ memories) =
    end_line exit (processes exit.pid).fuel memory ++ end_lines processes exits memories

-- what an entry adds: what its calls printed, then the end lines of the processes that it ends, whose memories stand
-- in the list of ends behind those of the earlier ends
abbrev pub lines_of : List Birth → World → Entry → List Ended → List ℕ
lines_of births w entry memories =
    printed (local_calls (deed_of entry))
    ++ end_lines (next births w entry).process (exits_by births w entry) (drop (length w.exits) memories)

-- entry by entry
abbrev pub entry_lines : List Birth → World → List Entry → List Ended → List ℕ
entry_lines births w [] memories = []
entry_lines births w (entry ∷ entries) memories =
    lines_of births w entry memories ++ entry_lines births (next births w entry) entries memories

-- REPORT. The lines of the entries, and then the total line.
abbrev pub report_text : Book → List ℕ
report_text book =
    entry_lines book.births (first_world book.births) book.entries book.ends ++ total_line (told book)

-- the list of ends has the processes that the entries end, in that order
abbrev pub EndsInOrder : Book → Type 0
EndsInOrder book = map (λ memory. memory.pid) book.ends ≡ map (λ exit. exit.pid) (told book).exits

-- a journal that can be reported: it tells a world, and its list of ends is that world's
pub record IsReportable (book : Book) : Type 0 where
  pub told : IsTold book
  pub ends : EndsInOrder book

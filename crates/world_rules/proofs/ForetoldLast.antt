use Rattle.std.specs.Prelude.{◌≡◌, ℕ, ◌-◌, ◌^◌, ◌<◌, List, [], ◌∷◌, ◌++◌, Some, None, true, false, codes, refl}
use native.Mathlib.Omega.{arith}
use Rattle.host_port.specs.declared.request.Request.{Request}
use Rattle.host_port.specs.declared.reply.Reply.{Reply}
use Rattle.host_port.specs.HostTable.{known_row_of, all_rows}
use Rattle.world_rules.specs.declared.entry.Entry.{Entry}
use Rattle.world_rules.specs.declared.entry.Entry.TheVariants as EntryIs
use Rattle.world_rules.specs.declared.entry.Side.TheVariants as SideIs
use Rattle.world_rules.specs.declared.halt.Halt.TheVariants as HaltIs
use Rattle.world_rules.specs.declared.halt.End.TheVariants as EndIs
use Rattle.world_rules.specs.declared.life.Birth.{Birth}
use Rattle.world_rules.specs.Moves.{handled}
use Rattle.world_rules.specs.World.{World, Waiting, Doomed, link_between}
use Rattle.world_rules.specs.Answers.{written_reply}
use Rattle.world_rules.specs.Arrivals.{Arrival}
use Rattle.world_rules.specs.Arrivals as Came
use Rattle.world_rules.specs.Mail.{Signal}
use Rattle.world_rules.specs.Allowed.{Allowed}
use Rattle.world_rules.proofs.Worked.{AreSame, born_of, request, plain, numbered, silent, minus_one, create_data, push_stream, take_stream, send, receive_any, spawn_linked, kill, link, die_when_link_dies, sleep_ms, connect, read_stream, turn, turn_beside, take_by, asks_by, world_after, results}
use Rattle.world_rules.proofs.Foretold.{births_to_four, exit, asks_beside, ends_by, at_clock, scratch_tag, mail_tags}

-- The last journals of the reader. What must come of them was written down when the rules had been read, before it was computed.

-- ELEVENTH JOURNAL. Want of memory ends a run in which two processes are out; one of them was doomed before, and its accept, which
-- was tried again, opens a stream after the end of the run.

abbrev pub bind : Request
bind = plain 27 (0 ∷ 0 ∷ 200 ∷ [])

abbrev pub accept : Request
accept = plain 29 (0 ∷ 200 ∷ [])

abbrev bound : Reply
bound = record { result = Some 0; word = Some (record { addr = 200; width = 8; value = 0 }); text = None }

abbrev eleventh_doomed : List Entry
eleventh_doomed =
    turn 1 [] 1 (spawn_linked 0)
    ++ turn_beside (SideIs.Answer bound) 2 [] 1 bind
    ++ turn 1 [] 2 (spawn_linked 0)
    ++ turn_beside SideIs.Pending 2 [] 2 accept
    ++ turn_beside SideIs.Opened 3 [] 1 connect
    ++ turn_beside SideIs.Opened 1 [] 3 connect
    ++ take_by 0 2
    ∷ take_by 1 3 ∷ asks_by 1 3 (silent (create_data 4) ∷ numbered (push_stream 0) 0 ∷ []) 4 (send 2)
    ∷ take_by 1 1 ∷ asks_beside SideIs.Opened 1 1 [] 4 connect
    ∷ take_by 1 3 ∷ asks_by 1 3 [] 5 (kill 2) ∷ []

abbrev w11_doomed : World
w11_doomed = world_after births_to_four eleventh_doomed

eleven_doomed : ((w11_doomed.process 2).stage ≡ Doomed 0 EndIs.Killed) × (w11_doomed.closed ≡ 0 ∷ []) × (w11_doomed.ready ≡ 1 ∷ 3 ∷ [])
    × ((w11_doomed.process 2).owed ≡ Some accept) × ((w11_doomed.process 2).part.listeners ≡ 0 ∷ [])
    × ((w11_doomed.process 1).part.handles ≡ 1 ∷ 2 ∷ [])
unfolding known_row_of all_rows
eleven_doomed = (refl, refl, refl, refl, refl, refl)

-- a stream that is taken and pushed again stands at the next place
abbrev eleventh_starved : List Entry
eleventh_starved =
    eleventh_doomed
    ++ take_by 1 1
    ∷ asks_by 1 1
    (silent (create_data 5) ∷ numbered (push_stream 1) 0 ∷ numbered (take_stream 0) 1 ∷ numbered (push_stream 1) 1 ∷ []) 9 (send 3)
    ∷ take_by 1 3 ∷ EntryIs.Starve 2 ∷ []

abbrev w11_starved : World
w11_starved = world_after births_to_four eleventh_starved

eleven_starved : (w11_starved.exits ≡ exit 1 EndIs.NoMemory ∷ []) × ((w11_starved.process 2).stage ≡ Doomed 0 EndIs.Killed)
    × ((w11_starved.process 3).stage ≡ Doomed 1 EndIs.NoMemory) × (w11_starved.closed ≡ 0 ∷ 2 ∷ 1 ∷ [])
    × ((handled w11_starved.moves).closed ≡ 0 ∷ 2 ∷ 1 ∷ []) × (w11_starved.over ≡ true) × (w11_starved.ready ≡ [])
unfolding known_row_of all_rows
eleven_starved = (refl, refl, refl, refl, refl, refl, refl)

eleven_refused : (Allowed None births_to_four w11_starved (EntryIs.Give 0 2 [] 3 HaltIs.Again SideIs.Opened) → ⊥)
    × (Allowed None births_to_four w11_starved (take_by 0 1) → ⊥)
    × (Allowed None births_to_four w11_starved (asks_beside SideIs.Opened 0 2 [] 2 accept) → ⊥)
unfolding known_row_of all_rows
eleven_refused = (
  λ allowed. let h : AreSame 3 2 = allowed.turn.fuel in omega arith,
  λ allowed. let h : true ≡ false = allowed.0 in cc,
  λ allowed. allowed.turn.halted,
)

eleven_again_may : Allowed None births_to_four w11_starved (EntryIs.Give 0 2 [] 2 HaltIs.Again SideIs.Opened)
unfolding known_row_of all_rows
eleven_again_may = record { away = refl; turn = record { calls = refl; fuel = refl; halted = record { side = refl; birth = tt } } }

abbrev w11_end : World
w11_end =
    world_after births_to_four
    (eleventh_starved ++ EntryIs.Give 0 2 [] 2 HaltIs.Again SideIs.Opened ∷ ends_by 1 3 [] 10005 HaltIs.Slice ∷ [])

eleven_end : (w11_end.exits ≡ exit 1 EndIs.NoMemory ∷ exit 2 EndIs.Killed ∷ exit 3 EndIs.NoMemory ∷ [])
    × (w11_end.closed ≡ 0 ∷ 2 ∷ 1 ∷ 3 ∷ []) × ((handled w11_end.moves).closed ≡ 0 ∷ 2 ∷ 1 ∷ 3 ∷ []) × (w11_end.streams ≡ 4)
    × (w11_end.sends ≡ 2) × (w11_end.ready ≡ []) × ((w11_end.process 3).fuel ≡ 10005)
unfolding known_row_of all_rows
eleven_end = (refl, refl, refl, refl, refl, refl, refl)

-- TWELFTH JOURNAL. The fall of a killed process reaches process 1. The killer is no member, and ends Closed. One worker had two
-- processes at once.

abbrev twelfth_before : List Entry
twelfth_before =
    turn 1 [] 1 (spawn_linked 0)
    ++ take_by 2 2 ∷ turn 1 [] 2 (spawn_linked 13)
    ++ turn_beside SideIs.Opened 3 [] 1 connect
    ++ turn 1 [] 3 (spawn_linked 14)
    ++ take_by 0 3 ∷ take_by 0 4 ∷ asks_by 0 4 [] 1 (die_when_link_dies 0) ∷ asks_by 0 3 [] 2 (link 34 4)
    ∷ turn 1 [] 4 (spawn_linked 0)
    ++ turn_beside (at_clock 0) 4 [] 2 (receive_any minus_one)
    ++ turn_beside (at_clock 0) 3 [] 3 (receive_any minus_one)
    ++ take_by 1 5 ∷ turn_beside SideIs.Opened 1 [] 5 connect
    ++ turn 1 (silent (create_data 7) ∷ numbered (push_stream 1) 0 ∷ []) 8 (send 5)

abbrev pub births_to_five : List Birth
births_to_five = births_to_four ++ born_of 5 ∷ []

abbrev w12_before : World
w12_before = world_after births_to_five twelfth_before

twelve_before : (w12_before.ready ≡ 1 ∷ []) × (link_between w12_before 3 4 ≡ Some 34) × (link_between w12_before 4 1 ≡ Some 14)
    × (link_between w12_before 3 1 ≡ Some 13) × (mail_tags w12_before 5 ≡ 7 ∷ []) × (w12_before.closed ≡ [])
    × ((w12_before.process 3).stage ≡ Waiting (receive_any minus_one))
unfolding known_row_of all_rows
twelve_before = (refl, refl, refl, refl, refl, refl, refl)

abbrev pub twelfth_killed : List Entry
twelfth_killed = twelfth_before ++ asks_by 2 2 [] 1 (kill 3) ∷ []

abbrev w12_killed : World
w12_killed = world_after births_to_five twelfth_killed

twelve_killed : (w12_killed.exits ≡ exit 3 EndIs.Killed ∷ exit 1 EndIs.Linked ∷ exit 2 EndIs.Closed ∷ exit 4 EndIs.Closed ∷ [])
    × (w12_killed.closed ≡ 0 ∷ 1 ∷ []) × ((handled w12_killed.moves).closed ≡ 0 ∷ 1 ∷ []) × (w12_killed.over ≡ true)
    × ((w12_killed.process 5).stage ≡ Doomed 1 EndIs.Closed) × (results w12_killed 2 ≡ []) × (results w12_killed 4 ≡ None ∷ Some 1 ∷ [])
    × (w12_killed.ready ≡ [])
unfolding known_row_of all_rows
twelve_killed = (refl, refl, refl, refl, refl, refl, refl, refl)

abbrev w12_end : World
w12_end = world_after births_to_five (twelfth_killed ++ asks_beside (at_clock 9) 1 5 [] 1 (receive_any 0) ∷ [])

twelve_end : (w12_end.exits
    ≡ exit 3 EndIs.Killed ∷ exit 1 EndIs.Linked ∷ exit 2 EndIs.Closed ∷ exit 4 EndIs.Closed ∷ exit 5 EndIs.Closed ∷ [])
    × (w12_end.time ≡ 9) × (results w12_end 5 ≡ []) × (w12_end.closed ≡ 0 ∷ 1 ∷ [])
unfolding known_row_of all_rows
twelve_end = (refl, refl, refl, refl)

-- THIRTEENTH JOURNAL. A message doesn't wake a sleeper; a link that was removed doesn't fall; a name that was replaced stays; a deadline
-- is at most 2^64 - 1.

abbrev put_a : ℕ → Request
put_a pid = request 24 (0 ∷ 1 ∷ pid ∷ []) (codes "a") []

abbrev unlink : ℕ → Request
unlink pid = plain 15 (pid ∷ [])

abbrev thirteenth_waits : List Entry
thirteenth_waits =
    turn 1 [] 1 (spawn_linked 0)
    ++ turn_beside (at_clock (2 ^ 64 - 5)) 2 [] 1 (sleep_ms (2 ^ 63 - 1))
    ++ turn 1 [] 2 (link 5 2)
    ++ turn 1 [] 3 (unlink 2)
    ++ turn 1 [] 4 (put_a 2)
    ++ turn 1 [] 5 (put_a 1)
    ++ turn 1 (silent (create_data 8) ∷ []) 6 (send 2)
    ++ turn_beside (at_clock 0) 1 [] 7 (receive_any 3)

abbrev w13_waits : World
w13_waits = world_after births_to_four thirteenth_waits

thirteen_waits : ((w13_waits.process 2).deadline ≡ Some (2 ^ 64 - 1)) × ((w13_waits.process 1).deadline ≡ Some (2 ^ 64 - 2))
    × (mail_tags w13_waits 2 ≡ 8 ∷ []) × (results w13_waits 2 ≡ []) × (link_between w13_waits 1 2 ≡ None) × (w13_waits.ready ≡ [])
    × (results w13_waits 1 ≡ Some 0 ∷ Some 0 ∷ None ∷ Some 0 ∷ Some 0 ∷ None ∷ Some 0 ∷ [])
unfolding known_row_of all_rows
thirteen_waits = (refl, refl, refl, refl, refl, refl, refl)

abbrev thirteenth_ticked : List Entry
thirteenth_ticked = thirteenth_waits ++ EntryIs.Tick 0 0 ∷ []

early_first : ((world_after births_to_four thirteenth_ticked).row ≡ 1) × ((world_after births_to_four thirteenth_ticked).ready ≡ [])
unfolding known_row_of all_rows
early_first = (refl, refl)

abbrev thirteenth_killed : List Entry
thirteenth_killed = thirteenth_ticked ++ EntryIs.Tick 0 (2 ^ 64 - 2) ∷ turn 1 [] 8 (kill 2)

abbrev w13_killed : World
w13_killed = world_after births_to_four thirteenth_killed

thirteen_killed : (w13_killed.exits ≡ exit 2 EndIs.Killed ∷ []) × (w13_killed.names (codes "a") ≡ Some 1) × (w13_killed.ready ≡ 1 ∷ [])
    × (w13_killed.row ≡ 0) × (results w13_killed 1
    ≡ Some 0 ∷ Some 0 ∷ None ∷ Some 0 ∷ Some 0 ∷ None ∷ Some 0 ∷ Some 9027 ∷ None ∷ [])
unfolding known_row_of all_rows
thirteen_killed = (refl, refl, refl, refl, refl)

-- the sleeper's deadline went with it
thirteen_no_tick : Allowed None births_to_four w13_killed (EntryIs.Tick 0 (2 ^ 64 - 1)) → ⊥
unfolding known_row_of all_rows
thirteen_no_tick allowed = let h : 0 < 0 = allowed.1 in omega arith

abbrev pub thirteenth_last : List Entry
thirteenth_last = thirteenth_killed ++ turn_beside (at_clock 0) 1 [] 9 (receive_any (2 ^ 63 - 1))

thirteen_last : ((world_after births_to_four thirteenth_last).process 1).deadline ≡ Some (2 ^ 64 - 1)
unfolding known_row_of all_rows
thirteen_last = refl

abbrev w13_end : World
w13_end = world_after births_to_four (thirteenth_last ++ EntryIs.Tick 0 (2 ^ 64 - 1) ∷ [])

thirteen_end : (w13_end.ready ≡ 1 ∷ []) × (w13_end.time ≡ 2 ^ 64 - 1) × (w13_end.row ≡ 0)
unfolding known_row_of all_rows
thirteen_end = (refl, refl, refl)

-- FOURTEENTH JOURNAL. Want of memory in a turn that tries again is an end that falls. A process that is out gets its signals, and then,
-- as process 1 has fallen, its doom.

abbrev fourteenth_before : List Entry
fourteenth_before =
    turn 1 [] 1 (spawn_linked 12)
    ++ turn 2 [] 1 (die_when_link_dies 0)
    ++ turn 1 [] 2 (spawn_linked 13)
    ++ turn 2 [] 2 (link 23 3)
    ++ turn_beside SideIs.Opened 3 [] 1 connect
    ++ turn_beside (at_clock 0) 1 [] 3 (receive_any minus_one)
    ++ take_by 0 2 ∷ take_by 1 3 ∷ asks_beside SideIs.Pending 1 3 [] 2 (read_stream 0) ∷ take_by 1 3 ∷ []

abbrev w14_before : World
w14_before = world_after births_to_four fourteenth_before

fourteen_before : (w14_before.row ≡ 1) × (w14_before.ready ≡ []) × ((w14_before.process 3).owed ≡ Some (read_stream 0))
    × (link_between w14_before 3 1 ≡ Some 13) × (link_between w14_before 3 2 ≡ Some 23) × (link_between w14_before 1 2 ≡ Some 12)
unfolding known_row_of all_rows
fourteen_before = (refl, refl, refl, refl, refl, refl)

abbrev lacks : Entry
lacks = ends_by 1 3 [] 2 HaltIs.NoMemory

fourteen_may : Allowed None births_to_four w14_before lacks
unfolding known_row_of all_rows
fourteen_may = record { away = refl; turn = record { calls = refl; fuel = refl; halted = (refl, refl) } }

fourteen_refused : (Allowed None births_to_four w14_before (ends_by 1 3 [] 3 HaltIs.NoMemory) → ⊥)
    × (Allowed None births_to_four w14_before (EntryIs.Give 1 3 [] 2 HaltIs.NoMemory SideIs.Pending) → ⊥)
unfolding known_row_of all_rows
fourteen_refused = (
  λ allowed. let h : AreSame 3 2 = allowed.turn.fuel in omega arith,
  λ allowed. let h : SideIs.Pending ≡ SideIs.Nothing = allowed.turn.halted.1 in cc,
)

abbrev w14_lacking : World
w14_lacking = world_after births_to_four (fourteenth_before ++ lacks ∷ [])

abbrev came : ℕ → Came.What → Arrival
came turns what = record { turns = turns; what = what }

fourteen_lacking : (w14_lacking.exits ≡ exit 3 EndIs.NoMemory ∷ exit 1 EndIs.Linked ∷ []) × (w14_lacking.closed ≡ 0 ∷ [])
    × ((w14_lacking.process 2).stage ≡ Doomed 0 EndIs.Closed) × ((w14_lacking.process 2).mail ≡ []) × (w14_lacking.row ≡ 0)
    × (w14_lacking.over ≡ true)
    × ((w14_lacking.process 3).arrivals ≡ came 1 (Came.Opened (written_reply 0 200 0)) ∷ came 2 (Came.Starved 0) ∷ [])
unfolding known_row_of all_rows
fourteen_lacking = (refl, refl, refl, refl, refl, refl, refl)

abbrev w14_end : World
w14_end = world_after births_to_four (fourteenth_before ++ lacks ∷ ends_by 0 2 [] 3 HaltIs.Done ∷ [])

fourteen_end : w14_end.exits ≡ exit 3 EndIs.NoMemory ∷ exit 1 EndIs.Linked ∷ exit 2 EndIs.Closed ∷ []
unfolding known_row_of all_rows
fourteen_end = refl

-- FIFTEENTH JOURNAL. A killer that asks for signals gets its victim's, and the reply to its kill.

abbrev fifteenth_killed : List Entry
fifteenth_killed =
    turn 1 [] 1 (die_when_link_dies 0)
    ++ turn 1 [] 2 (spawn_linked 12)
    ++ take_by 0 2 ∷ ends_by 0 2 [] 10000 HaltIs.Slice ∷ turn 1 [] 3 (kill 2)

abbrev w15_killed : World
w15_killed = world_after births_to_four fifteenth_killed

fifteen_killed : (w15_killed.exits ≡ exit 2 EndIs.Killed ∷ []) × ((w15_killed.process 1).mail ≡ Signal 12 ∷ []) × (w15_killed.ready ≡ 1 ∷ [])
    × (results w15_killed 1 ≡ None ∷ Some 0 ∷ None ∷ []) × (w15_killed.over ≡ false)
unfolding known_row_of all_rows
fifteen_killed = (refl, refl, refl, refl, refl)

abbrev w15_told : World
w15_told = world_after births_to_four (fifteenth_killed ++ turn_beside (at_clock 0) 1 [] 4 (receive_any 0))

fifteen_told : (results w15_told 1 ≡ None ∷ Some 0 ∷ None ∷ Some 1 ∷ []) × (scratch_tag w15_told 1 ≡ Some 12)
unfolding known_row_of all_rows
fifteen_told = (refl, refl)

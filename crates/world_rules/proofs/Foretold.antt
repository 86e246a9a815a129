use Rattle.std.specs.Prelude.{◌≡◌, ℕ, ◌+◌, ◌≤◌, ◌<◌, List, [], ◌∷◌, ◌++◌, Option, Some, None, true, false, map, option_map, codes, refl}
use native.Mathlib.Omega.{arith}
use Rattle.wasm_ops.specs.declared.trap.Trap.TheVariants as TrapIs
use Rattle.std.specs.Fmt.{digits}
use Rattle.host_port.specs.declared.call.Call.{Call}
use Rattle.host_port.specs.declared.request.Request.{Request}
use Rattle.host_port.specs.declared.stop.Spent.TheVariants as SpentIs
use Rattle.host_port.specs.HostTable.{known_row_of, all_rows}
use Rattle.world_rules.specs.declared.entry.Entry.{Entry}
use Rattle.world_rules.specs.declared.entry.Entry.TheVariants as EntryIs
use Rattle.world_rules.specs.declared.entry.Side.{Side}
use Rattle.world_rules.specs.declared.entry.Side.TheVariants as SideIs
use Rattle.world_rules.specs.declared.halt.Halt.{Halt}
use Rattle.world_rules.specs.declared.halt.Halt.TheVariants as HaltIs
use Rattle.world_rules.specs.declared.halt.HostFault.TheVariants as FaultIs
use Rattle.world_rules.specs.declared.halt.End.{End}
use Rattle.world_rules.specs.declared.halt.End.TheVariants as EndIs
use Rattle.world_rules.specs.declared.life.Birth.{Birth}
use Rattle.world_rules.specs.Part.{Scratch}
use Rattle.world_rules.specs.Mail.{Signal, tag_of}
use Rattle.world_rules.specs.Moves.{handled}
use Rattle.world_rules.specs.World.{World, Exit, Waiting, Doomed, Ended, link_between}
use Rattle.world_rules.specs.Allowed.{Allowed}
use Rattle.world_rules.specs.Book.{Book}
use Rattle.world_rules.specs.Told.{told}
use Rattle.world_rules.specs.Report.{report_text}
use Rattle.world_rules.proofs.Worked.{AreSame, born_of, request, plain, numbered, silent, minus_one, tag_bytes, create_data, push_stream, send, receive_any, spawn_linked, kill, link, die_when_link_dies, sleep_ms, connect, turn, turn_beside, turn_ends, take_by, asks_by, world_after, results}

-- Journals of a reader who wrote down what must come of them before looking at the rules.

abbrev pub births_to_four : List Birth
births_to_four = born_of 1 ∷ born_of 2 ∷ born_of 3 ∷ born_of 4 ∷ []

abbrev pub exit : ℕ → End → Exit
exit pid end = record { pid = pid; end = end }

-- a process asks, with this beside
abbrev pub asks_beside : Side → (worker pid : ℕ) → List Call → (fuel : ℕ) → Request → Entry
asks_beside side worker pid calls fuel request = EntryIs.Give worker pid calls fuel (HaltIs.Asks request) side

abbrev pub ends_by : (worker pid : ℕ) → List Call → (fuel : ℕ) → Halt → Entry
ends_by worker pid calls fuel halt = EntryIs.Give worker pid calls fuel halt SideIs.Nothing

abbrev pub at_clock : ℕ → Side
at_clock now = SideIs.Clock now

-- a receive of two tags
abbrev receive_two : (first second ms : ℕ) → Request
receive_two first second ms = request 9 (0 ∷ 2 ∷ ms ∷ []) (tag_bytes first ++ tag_bytes second) []

abbrev pub receive_one : (tag ms : ℕ) → Request
receive_one tag ms = request 9 (0 ∷ 1 ∷ ms ∷ []) (tag_bytes tag) []

abbrev write_data : List ℕ → ℕ → Request
write_data bytes len = request 1 (0 ∷ len ∷ []) bytes []

abbrev print : List ℕ → ℕ → Request
print bytes len = request 35 (0 ∷ len ∷ []) bytes []

abbrev pub get_tag : Request
get_tag = plain 5 []

abbrev exists : ℕ → Request
exists pid = plain 11 (pid ∷ [])

-- the tag of a process's scratch message, if it has one
abbrev pub scratch_tag : World → ℕ → Option ℕ
scratch_tag w pid = option_map (λ (s : Scratch). s.message.tag) (w.process pid).part.scratch

abbrev pub mail_tags : World → ℕ → List ℕ
mail_tags w pid = map tag_of (w.process pid).mail

-- a journal with these processes' ends, in order, each without a memory
abbrev pub book_of : List Birth → List Entry → List ℕ → Book
book_of births entries pids = record {
  entries = entries;
  births = births;
  ends = map (λ pid. record { pid = pid; pages = 0; mark = 0 }) pids;
  entry_room = 0;
  birth_room = 0;
}

-- a text of one line
abbrev pub line : List ℕ → List ℕ
line text = text ++ 10 ∷ []

-- FIRST JOURNAL. Selective receive with two workers, clocks that go back, and a deadline that has passed.

abbrev first_waits : List Entry
first_waits =
    turn 1 [] 5 (spawn_linked 0)
    ++ take_by 0 2 ∷ take_by 1 1 ∷ asks_beside (at_clock 10) 0 2 [] 3 (receive_two 7 9 minus_one) ∷ []

abbrev w1_waits : World
w1_waits = world_after births_to_four first_waits

-- 2 waits without a deadline, so no Tick is allowed; it isn't in the ready list, so no Take of it is
one_waits : (w1_waits.ready ≡ []) × (w1_waits.time ≡ 10) × ((w1_waits.process 2).stage ≡ Waiting (receive_two 7 9 minus_one))
unfolding known_row_of all_rows
one_waits = (refl, refl, refl)

one_no_tick : Allowed None births_to_four w1_waits (EntryIs.Tick 0 99) → ⊥
unfolding known_row_of all_rows
one_no_tick allowed = let h : 0 < 0 = allowed.1 in omega arith

one_no_take : Allowed None births_to_four w1_waits (take_by 1 2) → ⊥
unfolding known_row_of all_rows
one_no_take allowed = let h : ◌≡◌ {A = Option ℕ} None (Some 2) = allowed.1 in cc

-- a message that isn't wanted lies in the mailbox; the next, which is wanted, is delivered in its own entry
abbrev first_wanted : List Entry
first_wanted =
    first_waits
    ++ asks_by 1 1 (silent (create_data 5) ∷ numbered (write_data (97 ∷ 98 ∷ []) 2) 2 ∷ []) 12 (send 2)
    ∷ take_by 1 1 ∷ asks_by 1 1 (silent (create_data 9) ∷ []) 20 (send 2) ∷ []

abbrev w1_wanted : World
w1_wanted = world_after births_to_four first_wanted

one_wanted : (w1_wanted.ready ≡ 2 ∷ 1 ∷ []) × (mail_tags w1_wanted 2 ≡ 5 ∷ []) × (scratch_tag w1_wanted 2 ≡ Some 9)
    × (results w1_wanted 2 ≡ Some 0 ∷ []) × (w1_wanted.sends ≡ 2) × ((w1_wanted.process 1).part.scratch ≡ None)
unfolding known_row_of all_rows
one_wanted = (refl, refl, refl, refl, refl, refl)

-- a message to a process that is out lies there; a receive of anything gets the oldest; the clock's 4 is before 10
abbrev first_oldest : List Entry
first_oldest =
    first_wanted
    ++ take_by 0 2 ∷ take_by 1 1 ∷ asks_by 1 1 (silent (create_data 7) ∷ []) 30 (send 2)
    ∷ asks_beside (at_clock 4) 0 2 [] 8 (receive_any 0) ∷ []

abbrev w1_oldest : World
w1_oldest = world_after births_to_four first_oldest

one_oldest : (w1_oldest.ready ≡ 1 ∷ 2 ∷ []) × (mail_tags w1_oldest 2 ≡ 7 ∷ []) × (scratch_tag w1_oldest 2 ≡ Some 5)
    × (w1_oldest.time ≡ 10) × (results w1_oldest 2 ≡ Some 0 ∷ Some 0 ∷ [])
unfolding known_row_of all_rows
one_oldest = (refl, refl, refl, refl, refl)

-- 1 waits up to 35. A Give's clock of 40 answers no wait.
abbrev first_passed : List Entry
first_passed =
    first_oldest
    ++ take_by 1 1 ∷ asks_beside (at_clock 15) 1 1 [] 31 (receive_two 5 6 20)
    ∷ take_by 0 2 ∷ asks_beside (at_clock 40) 0 2 [] 9 (receive_one 9 0) ∷ []

abbrev w1_passed : World
w1_passed = world_after births_to_four first_passed

one_passed : (w1_passed.ready ≡ 2 ∷ []) × (w1_passed.time ≡ 40) × ((w1_passed.process 1).deadline ≡ Some 35)
    × (results w1_passed 2 ≡ Some 0 ∷ Some 0 ∷ Some 9027 ∷ []) × (scratch_tag w1_passed 2 ≡ Some 5)
unfolding known_row_of all_rows
one_passed = (refl, refl, refl, refl, refl)

one_no_stall : Allowed None births_to_four w1_passed (EntryIs.Stall 0) → ⊥
unfolding known_row_of all_rows
one_no_stall allowed = let h : ◌≡◌ {A = List ℕ} (2 ∷ []) [] = allowed.1.ready in cc

-- a Tick of 3 is allowed and answers the wait that is over by the time 40; it isn't early
one_tick : Allowed None births_to_four w1_passed (EntryIs.Tick 0 3)
unfolding known_row_of all_rows
one_tick = (refl, omega arith)

abbrev w1_ticked : World
w1_ticked = world_after births_to_four (first_passed ++ EntryIs.Tick 0 3 ∷ [])

one_ticked : (w1_ticked.ready ≡ 2 ∷ 1 ∷ []) × (w1_ticked.time ≡ 40) × (w1_ticked.row ≡ 0)
    × (results w1_ticked 1 ≡ Some 0 ∷ None ∷ Some 2 ∷ Some 0 ∷ None ∷ Some 0 ∷ None ∷ Some 0 ∷ Some 9027 ∷ [])
unfolding known_row_of all_rows
one_ticked = (refl, refl, refl, refl)

-- without that Tick, a message that is wanted still comes
abbrev pub first_late : List Entry
first_late = first_passed ++ take_by 0 2 ∷ asks_by 0 2 (silent (create_data 6) ∷ []) 15 (send 1) ∷ []

abbrev w1_late : World
w1_late = world_after births_to_four first_late

one_late : (w1_late.ready ≡ 1 ∷ 2 ∷ []) × (scratch_tag w1_late 1 ≡ Some 6) × (w1_late.sends ≡ 4) × (w1_late.row ≡ 0)
    × ((w1_late.process 1).deadline ≡ None) × (mail_tags w1_late 2 ≡ 7 ∷ []) × ((w1_late.process 2).part.scratch ≡ None)
    × ((w1_late.process 2).part.traffic ≡ 80 + 64 + 72 + 128) × ((w1_late.process 1).part.traffic ≡ 78 + 194 + 128 + 128 + 80)
unfolding known_row_of all_rows
one_late = (refl, refl, refl, refl, refl, refl, refl, refl, refl)

one_late_no_tick : Allowed None births_to_four w1_late (EntryIs.Tick 0 99) → ⊥
unfolding known_row_of all_rows
one_late_no_tick allowed = let h : 0 < 0 = allowed.1 in omega arith

abbrev w1_end : World
w1_end = world_after births_to_four (first_late ++ take_by 0 1 ∷ ends_by 0 1 (numbered get_tag 6 ∷ []) 40 HaltIs.Done ∷ [])

one_end : (w1_end.exits ≡ exit 1 EndIs.Done ∷ exit 2 EndIs.Closed ∷ []) × (w1_end.over ≡ true) × (w1_end.ready ≡ [])
    × (w1_end.numbers_drawn ≡ 2) × (w1_end.sends ≡ 4) × (w1_end.streams ≡ 0) × ((w1_end.process 2).fuel ≡ 15)
unfolding known_row_of all_rows
one_end = (refl, refl, refl, refl, refl, refl, refl)

-- SECOND JOURNAL. A process is killed while it is out; its Give opens a stream, pushes another and prints.

abbrev second_killed : List Entry
second_killed =
    turn 1 [] 4 (spawn_linked 0)
    ++ take_by 0 2 ∷ take_by 1 1 ∷ asks_beside SideIs.Opened 0 2 [] 6 connect ∷ asks_beside SideIs.Opened 1 1 [] 9 connect
    ∷ take_by 0 2 ∷ take_by 1 1
    ∷ asks_by 1 1 (silent (create_data 3) ∷ numbered (push_stream 1) 0 ∷ []) 14 (send 2)
    ∷ take_by 1 1 ∷ asks_by 1 1 [] 20 (kill 2) ∷ []

abbrev w2_killed : World
w2_killed = world_after births_to_four second_killed

-- its mailbox goes at once, its table at its Give
two_killed : ((w2_killed.process 2).stage ≡ Doomed 0 EndIs.Killed) × (w2_killed.closed ≡ 1 ∷ []) × ((w2_killed.process 2).mail ≡ [])
    × ((w2_killed.process 2).part.handles ≡ 0 ∷ []) × (w2_killed.ready ≡ 1 ∷ []) × (w2_killed.sends ≡ 1) × (w2_killed.exits ≡ [])
unfolding known_row_of all_rows
two_killed = (refl, refl, refl, refl, refl, refl, refl)

two_no_take : Allowed None births_to_four w2_killed (take_by 0 2) → ⊥
unfolding known_row_of all_rows
two_no_take allowed = let h : ◌≡◌ {A = Option ℕ} (Some 1) (Some 2) = allowed.1 in cc

-- a doomed process gets no message, and a second kill does nothing
abbrev second_again : List Entry
second_again =
    second_killed
    ++ take_by 1 1 ∷ asks_by 1 1 (silent (create_data 8) ∷ []) 30 (send 2) ∷ take_by 1 1 ∷ asks_by 1 1 [] 31 (kill 2) ∷ []

abbrev w2_again : World
w2_again = world_after births_to_four second_again

two_again : (results w2_again 1 ≡ Some 0 ∷ Some 0 ∷ None ∷ Some 0 ∷ Some 0 ∷ None ∷ None ∷ Some 1 ∷ None ∷ [])
    × (scratch_tag w2_again 1 ≡ Some 8) × (w2_again.sends ≡ 1) × ((w2_again.process 2).stage ≡ Doomed 0 EndIs.Killed)
unfolding known_row_of all_rows
two_again = (refl, refl, refl, refl)

two_other_worker : Allowed None births_to_four w2_again (ends_by 1 2 [] 16 HaltIs.Done) → ⊥
unfolding known_row_of all_rows
two_other_worker allowed = let h : AreSame 0 1 = allowed.away in omega arith

two_less_fuel : Allowed None births_to_four w2_again (ends_by 0 2 [] 5 HaltIs.Done) → ⊥
unfolding known_row_of all_rows
two_less_fuel allowed = let h : 6 ≤ 5 = allowed.turn.grown in omega arith

-- a doomed process's send isn't performed, so memory isn't refused to it
two_no_refusal : Allowed None births_to_four w2_again (asks_beside SideIs.NoMemory 0 2 (silent (create_data 4) ∷ []) 16 (send 1)) → ⊥
unfolding known_row_of all_rows
two_no_refusal allowed = let h : false ≡ true = allowed.turn.halted.beside.side.performed in cc

-- at its Give: the stream that was just opened closes, then the table, then the scratch message
abbrev second_given : List Entry
second_given =
    second_again
    ++ asks_beside SideIs.Opened 0 2
    (silent (create_data 4) ∷ numbered (push_stream 0) 0 ∷ silent (print (codes "hi") 2) ∷ []) 16 connect ∷ []

abbrev w2_given : World
w2_given = world_after births_to_four second_given

two_given : (w2_given.closed ≡ 1 ∷ 2 ∷ 0 ∷ []) × ((handled w2_given.moves).closed ≡ 1 ∷ 2 ∷ 0 ∷ []) × (w2_given.streams ≡ 3)
    × ((w2_given.process 2).stage ≡ Ended EndIs.Killed) × ((w2_given.process 2).fuel ≡ 16) × (w2_given.ready ≡ 1 ∷ [])
    × (results w2_given 2 ≡ Some 0 ∷ None ∷ Some 0 ∷ None ∷ [])
unfolding known_row_of all_rows
two_given = (refl, refl, refl, refl, refl, refl, refl)

two_given_may : Allowed None births_to_four w2_again
    (asks_beside SideIs.Opened 0 2 (silent (create_data 4) ∷ numbered (push_stream 0) 0 ∷ silent (print (codes "hi") 2) ∷ []) 16 connect)
unfolding known_row_of all_rows
two_given_may = record {
  away = refl;
  turn = record {
    grown = omega arith;
    burnt = omega arith;
    answered = omega arith;
    local = (refl, (refl, (refl, tt)));
    halted = record { kind = refl; judged = refl; beside = record { side = refl; birth = tt } };
  };
}

-- with a clock beside its receive the time is set, and nothing else of the receive happens
abbrev w2_timed : World
w2_timed = world_after births_to_four (second_again ++ asks_beside (at_clock 50) 0 2 [] 16 (receive_any 5) ∷ [])

two_timed : (w2_timed.time ≡ 50) × ((w2_timed.process 2).stage ≡ Ended EndIs.Killed) × (w2_timed.closed ≡ 1 ∷ 0 ∷ [])
    × (results w2_timed 2 ≡ Some 0 ∷ [])
unfolding known_row_of all_rows
two_timed = (refl, refl, refl, refl)

abbrev pub second_all : List Entry
second_all = second_given ++ turn_beside (at_clock 2) 1 [] 33 (receive_any 0) ++ turn_ends 1 40 HaltIs.Done

abbrev w2_end : World
w2_end = world_after births_to_four second_all

two_end : (w2_end.exits ≡ exit 2 EndIs.Killed ∷ exit 1 EndIs.Done ∷ []) × (w2_end.over ≡ true) × (w2_end.numbers_drawn ≡ 2)
    × (w2_end.sends ≡ 1) × (w2_end.streams ≡ 3) × (w2_end.time ≡ 2)
unfolding known_row_of all_rows
two_end = (refl, refl, refl, refl, refl, refl)

two_text : report_text (book_of births_to_four second_all (2 ∷ 1 ∷ []))
    ≡ codes "hi" ++ line (codes "process 2 killed fuel 16 pages 0 mark 0") ++ line (codes "process 1 done fuel 40 pages 0 mark 0")
    ++ line (codes "total processes 2 messages 1 streams 3")
unfolding known_row_of all_rows told digits
two_text = refl

-- THIRD JOURNAL. A fall with a member out; process 1 asks for signals; a link gets a new tag; of two signals the second is wanted.

abbrev third_before : List Entry
third_before =
    turn 1 [] 2 (die_when_link_dies 0)
    ++ turn 1 [] 4 (spawn_linked 12)
    ++ turn 2 [] 3 (spawn_linked 23)
    ++ turn_beside (at_clock 0) 1 [] 6 (receive_two 31 99 minus_one)
    ++ turn 3 [] 2 (link 31 1)
    ++ turn 2 [] 5 (link 32 3)

abbrev w3_before : World
w3_before = world_after births_to_four third_before

three_before : (w3_before.ready ≡ 3 ∷ 2 ∷ []) × (link_between w3_before 1 2 ≡ Some 12) × (link_between w3_before 3 1 ≡ Some 31)
    × (link_between w3_before 3 2 ≡ Some 32) × ((w3_before.process 1).stage ≡ Waiting (receive_two 31 99 minus_one))
unfolding known_row_of all_rows
three_before = (refl, refl, refl, refl, refl)

abbrev third_fallen : List Entry
third_fallen = third_before ++ take_by 0 3 ∷ take_by 1 2 ∷ ends_by 1 2 [] 7 (HaltIs.Trap TrapIs.Unreachable) ∷ []

abbrev w3_fallen : World
w3_fallen = world_after births_to_four third_fallen

three_fallen : (w3_fallen.exits ≡ exit 2 (EndIs.Trap TrapIs.Unreachable) ∷ []) × ((w3_fallen.process 3).stage ≡ Doomed 0 EndIs.Linked)
    × ((w3_fallen.process 1).mail ≡ Signal 12 ∷ []) × (scratch_tag w3_fallen 1 ≡ Some 31) × (w3_fallen.ready ≡ 1 ∷ [])
    × (link_between w3_fallen 1 3 ≡ None) × (results w3_fallen 1 ≡ None ∷ Some 0 ∷ Some 1 ∷ []) × (w3_fallen.over ≡ false)
unfolding known_row_of all_rows
three_fallen = (refl, refl, refl, refl, refl, refl, refl, refl)

three_no_give : Allowed None births_to_four w3_fallen (ends_by 1 3 [] 4 HaltIs.Done) → ⊥
unfolding known_row_of all_rows
three_no_give allowed = let h : AreSame 0 1 = allowed.away in omega arith

three_no_take : Allowed None births_to_four w3_fallen (take_by 0 3) → ⊥
unfolding known_row_of all_rows
three_no_take allowed = let h : ◌≡◌ {A = Option ℕ} (Some 1) (Some 3) = allowed.1 in cc

abbrev pub third_signals : List Entry
third_signals =
    third_fallen
    ++ take_by 1 1 ∷ asks_beside (at_clock 5) 1 1 (numbered get_tag 31 ∷ []) 9 (receive_any 0)
    ∷ take_by 1 1 ∷ asks_by 1 1 [] 10 (exists 3) ∷ []

abbrev w3_signals : World
w3_signals = world_after births_to_four third_signals

three_signals : (scratch_tag w3_signals 1 ≡ Some 12) × (w3_signals.ready ≡ 1 ∷ [])
    × (results w3_signals 1 ≡ None ∷ Some 0 ∷ Some 1 ∷ Some 31 ∷ Some 1 ∷ Some 0 ∷ [])
unfolding known_row_of all_rows
three_signals = (refl, refl, refl)

three_no_stall : Allowed None births_to_four w3_signals (EntryIs.Stall 0) → ⊥
unfolding known_row_of all_rows
three_no_stall allowed = let h : ◌≡◌ {A = List ℕ} (1 ∷ []) [] = allowed.1.ready in cc

abbrev w3_end : World
w3_end =
    world_after births_to_four
    (third_signals ++ ends_by 0 3 [] 4 (HaltIs.Spent SpentIs.Frames) ∷ turn_ends 1 11 HaltIs.Done)

three_end : (w3_end.exits ≡ exit 2 (EndIs.Trap TrapIs.Unreachable) ∷ exit 3 EndIs.Linked ∷ exit 1 EndIs.Done ∷ [])
    × (w3_end.numbers_drawn ≡ 3) × (w3_end.sends ≡ 0) × (w3_end.over ≡ true)
unfolding known_row_of all_rows
three_end = (refl, refl, refl, refl)

-- FOURTH JOURNAL. Process 1 falls with another; one that waits gets its signal first, and its old scratch message closes; then all
-- others end Closed.

abbrev fourth_before : List Entry
fourth_before =
    turn 1 [] 2 (spawn_linked 0)
    ++ turn_beside SideIs.Opened 2 [] 2 connect
    ++ turn 1 [] 4 (spawn_linked 13)
    ++ turn_beside (at_clock 0) 2 [] 4 (receive_any minus_one)
    ++ turn 3 [] 2 (spawn_linked 0)
    ++ take_by 0 1 ∷ take_by 1 4 ∷ asks_by 1 4 [] 2 (die_when_link_dies 0) ∷ asks_by 0 1 [] 6 (link 14 4)
    ∷ take_by 0 3 ∷ take_by 1 4 ∷ asks_beside SideIs.Opened 1 4 [] 4 connect
    ∷ take_by 1 1 ∷ asks_beside (at_clock 7) 1 1 [] 8 (sleep_ms 1000)
    ∷ take_by 1 4
    ∷ asks_beside (at_clock 3) 1 4 (silent (create_data 44) ∷ numbered (push_stream 1) 0 ∷ []) 7 (receive_any minus_one) ∷ []

abbrev w4_before : World
w4_before = world_after births_to_four fourth_before

four_before : (w4_before.ready ≡ []) × (w4_before.time ≡ 7) × ((w4_before.process 1).deadline ≡ Some 1007)
    × ((w4_before.process 2).part.handles ≡ 0 ∷ []) × (scratch_tag w4_before 4 ≡ Some 44) × (w4_before.closed ≡ [])
unfolding known_row_of all_rows
four_before = (refl, refl, refl, refl, refl, refl)

four_no_stall : Allowed None births_to_four w4_before (EntryIs.Stall 0) → ⊥
unfolding known_row_of all_rows
four_no_stall allowed = let h : ◌≡◌ {A = List ℕ} (1 ∷ []) [] = allowed.1.timed in cc

abbrev pub fourth_all : List Entry
fourth_all = fourth_before ++ ends_by 0 3 [] 5 (HaltIs.Trap TrapIs.DivideByZero) ∷ []

abbrev w4_end : World
w4_end = world_after births_to_four fourth_all

four_end : (w4_end.exits
    ≡ exit 3 (EndIs.Trap TrapIs.DivideByZero) ∷ exit 1 EndIs.Linked ∷ exit 2 EndIs.Closed ∷ exit 4 EndIs.Closed ∷ [])
    × (w4_end.closed ≡ 1 ∷ 0 ∷ []) × ((handled w4_end.moves).closed ≡ 1 ∷ 0 ∷ []) × (w4_end.over ≡ true) × (w4_end.ready ≡ [])
    × (w4_end.streams ≡ 2) × (results w4_end 4 ≡ None ∷ Some 0 ∷ None ∷ Some 0 ∷ Some 1 ∷ [])
unfolding known_row_of all_rows
four_end = (refl, refl, refl, refl, refl, refl, refl)

four_text : report_text (book_of births_to_four fourth_all (3 ∷ 1 ∷ 2 ∷ 4 ∷ []))
    ≡ line (codes "process 3 trap divide fuel 5 pages 0 mark 0") ++ line (codes "process 1 linked fuel 8 pages 0 mark 0")
    ++ line (codes "process 2 closed fuel 4 pages 0 mark 0") ++ line (codes "process 4 closed fuel 7 pages 0 mark 0")
    ++ line (codes "total processes 4 messages 0 streams 2")
unfolding known_row_of all_rows told digits
four_text = refl

-- after the end nothing is allowed
four_over : (Allowed None births_to_four w4_end (EntryIs.Tick 0 2000) → ⊥) × (Allowed None births_to_four w4_end (EntryIs.Starve 0) → ⊥)
    × (Allowed None births_to_four w4_end (EntryIs.Idle 0) → ⊥) × (Allowed None births_to_four w4_end (EntryIs.Stall 0) → ⊥)
    × (Allowed None births_to_four w4_end (take_by 0 2) → ⊥)
unfolding known_row_of all_rows
four_over = (
  λ allowed. let h : true ≡ false = allowed.0 in cc,
  λ allowed. let h : true ≡ false = allowed.0 in cc,
  λ allowed. let h : true ≡ false = allowed.0 in cc,
  λ allowed. let h : true ≡ false = allowed.0 in cc,
  λ allowed. let h : true ≡ false = allowed.0 in cc,
)

-- FIFTH JOURNAL. Process 1 falls while it is out; the run goes on until its Give, and one process is doomed to Closed.

abbrev fifth_fallen : List Entry
fifth_fallen =
    turn 1 [] 2 (spawn_linked 21)
    ++ turn 2 [] 3 (spawn_linked 0)
    ++ take_by 0 1 ∷ take_by 1 3 ∷ take_by 2 2 ∷ ends_by 2 2 [] 5 (HaltIs.Host FaultIs.NoMessage (send 1)) ∷ []

abbrev w5_fallen : World
w5_fallen = world_after births_to_four fifth_fallen

five_fallen : (w5_fallen.exits ≡ exit 2 (EndIs.Host FaultIs.NoMessage) ∷ []) × ((w5_fallen.process 1).stage ≡ Doomed 0 EndIs.Linked)
    × (w5_fallen.over ≡ false) × (w5_fallen.ready ≡ [])
unfolding known_row_of all_rows
five_fallen = (refl, refl, refl, refl)

-- nothing is ready and nobody waits, but two are out: no stall
five_no_stall : Allowed None births_to_four w5_fallen (EntryIs.Stall 0) → ⊥
unfolding known_row_of all_rows
five_no_stall allowed = let h : true ≡ false = allowed.1.away 1 in cc

abbrev fifth_on : List Entry
fifth_on =
    fifth_fallen
    ++ asks_by 1 3 [] 2 (kill 1) ∷ take_by 1 3 ∷ asks_by 1 3 [] 3 (request 24 (0 ∷ 1 ∷ 1 ∷ []) (codes "a") [])
    ∷ take_by 1 3 ∷ asks_by 1 3 [] 5 (spawn_linked 43) ∷ take_by 1 4 ∷ []

abbrev w5_on : World
w5_on = world_after births_to_four fifth_on

five_on : (results w5_on 3 ≡ None ∷ Some 1 ∷ Some 0 ∷ []) × (w5_on.ready ≡ 3 ∷ []) × (link_between w5_on 3 4 ≡ Some 43)
    × (w5_on.names (codes "a") ≡ None) × ((w5_on.process 1).stage ≡ Doomed 0 EndIs.Linked)
unfolding known_row_of all_rows
five_on = (refl, refl, refl, refl, refl)

-- 1 ends Linked although its halt is Done; 3 ends Closed, 4 is out and doomed to it; their link tells nobody
abbrev pub fifth_over : List Entry
fifth_over = fifth_on ++ ends_by 0 1 (silent (print (codes "x") 1) ∷ []) 9 HaltIs.Done ∷ []

abbrev w5_over : World
w5_over = world_after births_to_four fifth_over

five_over : (w5_over.exits ≡ exit 2 (EndIs.Host FaultIs.NoMessage) ∷ exit 1 EndIs.Linked ∷ exit 3 EndIs.Closed ∷ [])
    × ((w5_over.process 4).stage ≡ Doomed 1 EndIs.Closed) × ((w5_over.process 4).mail ≡ []) × (w5_over.over ≡ true) × (w5_over.ready ≡ [])
unfolding known_row_of all_rows
five_over = (refl, refl, refl, refl, refl)

five_no_take : (Allowed None births_to_four w5_over (take_by 0 3) → ⊥) × (Allowed None births_to_four w5_over (EntryIs.Starve 0) → ⊥)
unfolding known_row_of all_rows
five_no_take = (λ allowed. let h : true ≡ false = allowed.0 in cc, λ allowed. let h : true ≡ false = allowed.0 in cc)

-- a doomed process's receive has its clock too
five_needs_clock : Allowed None births_to_four w5_over (asks_by 1 4 [] 1 (receive_any 1)) → ⊥
unfolding known_row_of all_rows
five_needs_clock allowed = allowed.turn.halted.beside.side

abbrev pub last_give : Entry
last_give = ends_by 1 4 [] 1 (HaltIs.Trap TrapIs.DivideByZero)

five_last_may : Allowed None births_to_four w5_over last_give
unfolding known_row_of all_rows
five_last_may = record {
  away = refl;
  turn = record { grown = omega arith; burnt = omega arith; answered = omega arith; local = tt; halted = (refl, tt) };
}

abbrev w5_end : World
w5_end = world_after births_to_four (fifth_over ++ last_give ∷ [])

five_end : (w5_end.exits
    ≡ exit 2 (EndIs.Host FaultIs.NoMessage) ∷ exit 1 EndIs.Linked ∷ exit 3 EndIs.Closed ∷ exit 4 EndIs.Closed ∷ [])
    × (w5_end.numbers_drawn ≡ 4) × (w5_end.sends ≡ 0) × ((w5_end.process 4).fuel ≡ 1)
unfolding known_row_of all_rows
five_end = (refl, refl, refl, refl)

five_text : report_text (book_of births_to_four (fifth_over ++ last_give ∷ []) (2 ∷ 1 ∷ 3 ∷ 4 ∷ []))
    ≡ line (codes "process 2 host nomessage fuel 5 pages 0 mark 0") ++ codes "x" ++ line (codes "process 1 linked fuel 9 pages 0 mark 0")
    ++ line (codes "process 3 closed fuel 5 pages 0 mark 0") ++ line (codes "process 4 closed fuel 1 pages 0 mark 0")
    ++ line (codes "total processes 4 messages 0 streams 0")
unfolding known_row_of all_rows told digits
five_text = refl

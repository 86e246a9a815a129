use Rattle.std.specs.Prelude.{◌≡◌, ℕ, ◌≤◌, ◌<◌, List, [], ◌∷◌, ◌++◌, Option, Some, None, true, false, map, codes, refl}
use native.Mathlib.Omega.{arith}
use Rattle.std.proofs.lemmas.List.Elements.{All-nil}
use Rattle.std.specs.Fmt.{digits}
use Rattle.std.specs.Option.{unwrap_or}
use Rattle.wasm_ops.specs.declared.trap.Trap.TheVariants as TrapIs
use Rattle.host_port.specs.TypedValue.{TypedValue}
use Rattle.host_port.specs.declared.start.Start.{Start}
use Rattle.host_port.specs.declared.call.Call.{Call}
use Rattle.host_port.specs.declared.request.Request.{Request}
use Rattle.host_port.specs.declared.reply.Reply.{Reply}
use Rattle.host_port.specs.declared.stop.Spent.TheVariants as SpentIs
use Rattle.host_port.specs.HostTable.{known_row_of, all_rows}
use Rattle.spawn_config.specs.Spelling.{IsValueOf}
use Rattle.world_rules.specs.declared.entry.Entry.{Entry}
use Rattle.world_rules.specs.declared.entry.Entry.TheVariants as EntryIs
use Rattle.world_rules.specs.declared.entry.Side.{Side}
use Rattle.world_rules.specs.declared.entry.Side.TheVariants as SideIs
use Rattle.world_rules.specs.declared.halt.Halt.{Halt}
use Rattle.world_rules.specs.declared.halt.Halt.TheVariants as HaltIs
use Rattle.world_rules.specs.declared.halt.HostFault.TheVariants as FaultIs
use Rattle.world_rules.specs.declared.halt.End.{End}
use Rattle.world_rules.specs.declared.halt.End.TheVariants as EndIs
use Rattle.world_rules.specs.declared.life.Birth.{Birth}
use Rattle.world_rules.specs.declared.life.Birth.TheVariants.{Born}
use Rattle.world_rules.specs.Answers.{number_reply, written_reply, empty_reply}
use Rattle.world_rules.specs.Part.{slots_of}
use Rattle.world_rules.specs.Judge.{Judgement, Fit, Overdrawn, Faulty}
use Rattle.world_rules.specs.Mail.{Letter}
use Rattle.world_rules.specs.Moves.{handled, Move, Scratch, Mail, Closed, Opened, Pushed, Taken, Sent, Received, Shut, ShutScratch, ShutMail, ShutAll}
use Rattle.world_rules.specs.World.{World, Exit, Out, Waiting, Doomed, first_world}
use Rattle.world_rules.specs.Births.{Terms}
use Rattle.world_rules.specs.Allowed.{Allowed}
use Rattle.world_rules.specs.Book.{Book}
use Rattle.world_rules.specs.Told.{told, AllAllowed}
use Rattle.world_rules.specs.Report.{report_text}
use Rattle.world_rules.proofs.Worked.{AreSame, born_of, start_of, request, plain, numbered, silent, minus_one, create_data, push_stream, take_stream, send, receive_any, receive_tag, spawn_linked, kill, connect, take_by, world_after, results}

-- Journals of a second reader, who wrote down what must come of them before reading the rules: streams.

abbrev pub births_to_three : List Birth
births_to_three = born_of 1 ∷ born_of 2 ∷ born_of 3 ∷ []

abbrev pub exit : ℕ → End → Exit
exit pid end = record { pid = pid; end = end }

-- a process asks, with this beside; its turn ends so; it tries the request that it owes again
abbrev pub asks : Side → (worker pid : ℕ) → List Call → (fuel : ℕ) → Request → Entry
asks side worker pid calls fuel request = EntryIs.Give worker pid calls fuel (HaltIs.Asks request) side

abbrev pub ends : (worker pid : ℕ) → List Call → (fuel : ℕ) → Halt → Entry
ends worker pid calls fuel halt = EntryIs.Give worker pid calls fuel halt SideIs.Nothing

abbrev pub tries : Side → (worker pid fuel : ℕ) → Entry
tries side worker pid fuel = EntryIs.Give worker pid [] fuel HaltIs.Again side

-- a journal with these processes' ends, in order, each without a memory
abbrev pub book_of : List Birth → List Entry → List ℕ → Book
book_of births entries pids = record {
  entries = entries;
  births = births;
  ends = map (λ pid. record { pid = pid; pages = 0; mark = 0 }) pids;
  entry_room = 0;
  birth_room = 0;
}

-- a text of one line
abbrev pub line : List ℕ → List ℕ
line text = text ++ 10 ∷ []

-- the replies of a process's calls, in order
abbrev pub last_reply : World → ℕ → List Reply
last_reply w pid = map (λ (call : Call). call.reply) (w.process pid).calls

abbrev pub accept : Request
accept = plain 29 (0 ∷ 24 ∷ [])

abbrev pub bind : Request
bind = plain 27 (0 ∷ 80 ∷ 16 ∷ [])

-- DOOMED WITH STREAMS. Process 2 is killed while it is out. In its Give a new scratch message closes stream 1; then the stream closes that
-- was just opened, then the table, then the scratch message.

abbrev pub fated_first : List Entry
fated_first =
    take_by 0 1
    ∷ asks SideIs.Nothing 0 1 [] 20 (spawn_linked 0)
    ∷ take_by 0 2
    ∷ asks SideIs.Opened 0 2 [] 5 connect
    ∷ take_by 1 1
    ∷ take_by 0 2
    ∷ asks SideIs.Opened 0 2 [] 9 connect
    ∷ take_by 0 2
    ∷ asks SideIs.Opened 0 2 [] 13 connect
    ∷ take_by 0 2
    ∷ asks SideIs.Nothing 1 1 [] 25 (kill 2)
    ∷ []

abbrev w_fated : World
w_fated = world_after births_to_three fated_first

fated : ((w_fated.process 2).stage ≡ Doomed 0 EndIs.Killed)
    × (w_fated.ready ≡ 1 ∷ [])
    × ((w_fated.process 2).part.handles ≡ 0 ∷ 1 ∷ 2 ∷ [])
    × (w_fated.exits ≡ [])
    × (w_fated.closed ≡ [])
    × (last_reply w_fated 2 ≡ written_reply 0 200 0 ∷ written_reply 0 200 1 ∷ written_reply 0 200 2 ∷ [])
    × (last_reply w_fated 1 ≡ written_reply 0 100 2 ∷ empty_reply ∷ [])
unfolding known_row_of all_rows
fated = (refl, refl, refl, refl, refl, refl, refl)

fated_other_worker : Allowed None births_to_three w_fated (asks SideIs.Opened 1 2 [] 30 connect) → ⊥
unfolding known_row_of all_rows
fated_other_worker allowed = let h : AreSame 0 1 = allowed.away in omega arith

fated_nothing : Allowed None births_to_three w_fated (asks SideIs.Nothing 0 2 [] 30 connect) → ⊥
unfolding known_row_of all_rows
fated_nothing allowed = allowed.turn.halted.beside.side

fated_pending : Allowed None births_to_three w_fated (asks SideIs.Pending 0 2 [] 30 connect) → ⊥
unfolding known_row_of all_rows
fated_pending allowed = allowed.turn.halted.beside.side

fated_zero : Allowed None births_to_three w_fated (asks (SideIs.Answer (written_reply 0 200 3)) 0 2 [] 30 connect) → ⊥
unfolding known_row_of all_rows
fated_zero allowed = let h : true ≡ false = allowed.turn.halted.beside.side.own.unopened in cc

fated_take : Allowed None births_to_three w_fated (take_by 0 2) → ⊥
unfolding known_row_of all_rows
fated_take allowed = let h : ◌≡◌ {A = Option ℕ} (Some 1) (Some 2) = allowed.1 in cc

fated_again : Allowed None births_to_three w_fated (tries SideIs.Opened 0 2 13) → ⊥
unfolding known_row_of all_rows
fated_again allowed = allowed.turn.halted

abbrev pub fated_given : List Entry
fated_given =
    fated_first
    ++ asks SideIs.Opened 0 2 (silent (create_data 7) ∷ numbered (push_stream 1) 0 ∷ silent (create_data 8) ∷ numbered (push_stream 0) 0 ∷ []) 30 connect
    ∷ []

abbrev w_given : World
w_given = world_after births_to_three fated_given

given_closes : (w_given.closed ≡ 1 ∷ 3 ∷ 2 ∷ 0 ∷ [])
    × ((handled w_given.moves).closed ≡ 1 ∷ 3 ∷ 2 ∷ 0 ∷ [])
    × (w_given.streams ≡ 4)
    × (w_given.exits ≡ exit 2 EndIs.Killed ∷ [])
    × ((w_given.process 2).fuel ≡ 30)
    × (w_given.ready ≡ 1 ∷ [])
    × (w_given.moves ≡ Opened 0 2 ∷ Opened 1 2 ∷ Opened 2 2 ∷ ShutMail 2 ∷ ShutScratch 2 ∷ Pushed 1 2 0 ∷ ShutScratch 2 ∷ Pushed 0 2 0 ∷ Opened 3 2 ∷ Shut 3 ∷ ShutAll 2 ∷ [])
unfolding known_row_of all_rows
given_closes = (refl, refl, refl, refl, refl, refl, refl)

given_take : Allowed None births_to_three w_given (take_by 0 2) → ⊥
unfolding known_row_of all_rows
given_take allowed = let h : ◌≡◌ {A = Option ℕ} (Some 1) (Some 2) = allowed.1 in cc

abbrev pub fated_all : List Entry
fated_all =
    fated_given
    ++ take_by 1 1
    ∷ ends 1 1 [] 26 HaltIs.Done
    ∷ []

abbrev w_fated_end : World
w_fated_end = world_after births_to_three fated_all

fated_end : (w_fated_end.exits ≡ exit 2 EndIs.Killed ∷ exit 1 EndIs.Done ∷ [])
    × (w_fated_end.over ≡ true)
unfolding known_row_of all_rows
fated_end = (refl, refl)

fated_over : Allowed None births_to_three w_fated_end (take_by 0 1) → ⊥
unfolding known_row_of all_rows
fated_over allowed = let h : true ≡ false = allowed.0 in cc

fated_text : report_text (book_of births_to_three fated_all (2 ∷ 1 ∷ []))
    ≡ line (codes "process 2 killed fuel 30 pages 0 mark 0")
    ++ line (codes "process 1 done fuel 26 pages 0 mark 0")
    ++ line (codes "total processes 2 messages 0 streams 4")
unfolding known_row_of all_rows told digits
fated_text = refl

fated_allowed : AllAllowed None births_to_three (first_world births_to_three) fated_all
unfolding known_row_of all_rows
fated_allowed = (
  (refl, refl),
  (
    record { away = refl; turn = record { grown = omega arith; burnt = omega arith; answered = omega arith; local = tt; halted = record { kind = refl; judged = refl; beside = record { side = tt; birth = record { beside = refl; place = tt; number = omega arith; child = record { pid = refl; «module» = refl; entry = refl; params = record { spelled = refl; values = All-nil (λ (param : TypedValue). IsValueOf param.num param.value) }; limits = refl }; starts = tt } } } } },
    (
      (refl, refl),
      (
        record { away = refl; turn = record { grown = omega arith; burnt = omega arith; answered = omega arith; local = tt; halted = record { kind = refl; judged = refl; beside = record { side = refl; birth = tt } } } },
        (
          (refl, refl),
          (
            (refl, refl),
            (
              record { away = refl; turn = record { grown = omega arith; burnt = omega arith; answered = omega arith; local = tt; halted = record { kind = refl; judged = refl; beside = record { side = refl; birth = tt } } } },
              (
                (refl, refl),
                (
                  record { away = refl; turn = record { grown = omega arith; burnt = omega arith; answered = omega arith; local = tt; halted = record { kind = refl; judged = refl; beside = record { side = refl; birth = tt } } } },
                  (
                    (refl, refl),
                    (
                      record { away = refl; turn = record { grown = omega arith; burnt = omega arith; answered = omega arith; local = tt; halted = record { kind = refl; judged = refl; beside = record { side = tt; birth = tt } } } },
                      (
                        record { away = refl; turn = record { grown = omega arith; burnt = omega arith; answered = omega arith; local = (refl, (refl, (refl, (refl, tt)))); halted = record { kind = refl; judged = refl; beside = record { side = refl; birth = tt } } } },
                        (
                          (refl, refl),
                          (
                            record { away = refl; turn = record { grown = omega arith; burnt = omega arith; answered = omega arith; local = tt; halted = (refl, tt) } },
                            tt,
                          ),
                        ),
                      ),
                    ),
                  ),
                ),
              ),
            ),
          ),
        ),
      ),
    ),
  ),
)

-- AN ACCEPT TRIED AGAIN. The traffic limit is met exactly by the bind and the accept; the tries cost nothing. Idle comes while the process
-- is out, and the stream that its last try opens is closed at once.

abbrev pub frugal : Start
frugal = record (start_of 1) { limits = record { pages = 64; fuel = 1000000000; traffic = 144 } }

abbrev pub frugal_births : List Birth
frugal_births = Born frugal ∷ []

-- the idle limit is 3
abbrev frugal_terms : Terms
frugal_terms = record { first = frugal; live = 1024; idle = 3; can_start = λ _. true }

abbrev pub bound : List Entry
bound =
    take_by 0 1
    ∷ asks (SideIs.Answer (written_reply 0 16 0)) 0 1 [] 4 bind
    ∷ take_by 0 1
    ∷ []

abbrev w_bound : World
w_bound = world_after frugal_births bound

is_bound : ((w_bound.process 1).part.listeners ≡ 0 ∷ [])
    × ((w_bound.process 1).part.next_listener ≡ 1)
    × ((w_bound.process 1).part.traffic ≡ 72)
    × (last_reply w_bound 1 ≡ written_reply 0 16 0 ∷ [])
unfolding known_row_of all_rows
is_bound = (refl, refl, refl, refl)

bound_again : Allowed (Some frugal_terms) frugal_births w_bound (tries SideIs.Pending 0 1 4) → ⊥
unfolding known_row_of all_rows
bound_again allowed = allowed.turn.halted

abbrev pub pending_once : List Entry
pending_once =
    bound
    ++ asks SideIs.Pending 0 1 [] 8 accept
    ∷ take_by 0 1
    ∷ []

abbrev w_once : World
w_once = world_after frugal_births pending_once

once : ((w_once.process 1).part.traffic ≡ 144)
    × (w_once.row ≡ 1)
    × ((w_once.process 1).stage ≡ Out 0)
    × ((w_once.process 1).owed ≡ Some accept)
    × (results w_once 1 ≡ Some 0 ∷ [])
unfolding known_row_of all_rows
once = (refl, refl, refl, refl, refl)

once_asked : Allowed (Some frugal_terms) frugal_births w_once (asks SideIs.Pending 0 1 [] 8 accept) → ⊥
unfolding known_row_of all_rows
once_asked allowed = allowed.turn.halted

once_fuel : Allowed (Some frugal_terms) frugal_births w_once (tries SideIs.Pending 0 1 9) → ⊥
unfolding known_row_of all_rows
once_fuel allowed = let h : AreSame 9 8 = allowed.turn.fuel in omega arith

once_calls : Allowed (Some frugal_terms) frugal_births w_once (EntryIs.Give 0 1 (numbered (plain 10 []) 1 ∷ []) 8 HaltIs.Again SideIs.Pending) → ⊥
unfolding known_row_of all_rows
once_calls allowed = let h : ◌≡◌ {A = List Call} (numbered (plain 10 []) 1 ∷ []) [] = allowed.turn.calls in cc

abbrev pub pending_twice : List Entry
pending_twice =
    pending_once
    ++ tries SideIs.Pending 0 1 8
    ∷ take_by 0 1
    ∷ []

abbrev w_twice : World
w_twice = world_after frugal_births pending_twice

twice : ((w_twice.process 1).part.traffic ≡ 144)
    × (w_twice.row ≡ 2)
unfolding known_row_of all_rows
twice = (refl, refl)

twice_idle : Allowed (Some frugal_terms) frugal_births w_twice (EntryIs.Idle 1) → ⊥
unfolding known_row_of all_rows
twice_idle allowed = let h : 3 ≤ 2 = allowed.1 in omega arith

abbrev pub idle_out : List Entry
idle_out =
    pending_twice
    ++ tries SideIs.Pending 0 1 8
    ∷ take_by 0 1
    ∷ EntryIs.Idle 1
    ∷ []

abbrev w_idle : World
w_idle = world_after frugal_births idle_out

idle_while_out : ((w_idle.process 1).stage ≡ Doomed 0 EndIs.Idle)
    × (w_idle.over ≡ true)
    × (w_idle.exits ≡ [])
    × ((w_idle.process 1).part.listeners ≡ 0 ∷ [])
unfolding known_row_of all_rows
idle_while_out = (refl, refl, refl, refl)

idle_take : Allowed (Some frugal_terms) frugal_births w_idle (take_by 0 1) → ⊥
unfolding known_row_of all_rows
idle_take allowed = let h : true ≡ false = allowed.0 in cc

idle_tick : Allowed (Some frugal_terms) frugal_births w_idle (EntryIs.Tick 0 5) → ⊥
unfolding known_row_of all_rows
idle_tick allowed = let h : true ≡ false = allowed.0 in cc

idle_idle : Allowed (Some frugal_terms) frugal_births w_idle (EntryIs.Idle 0) → ⊥
unfolding known_row_of all_rows
idle_idle allowed = let h : true ≡ false = allowed.0 in cc

idle_starve : Allowed (Some frugal_terms) frugal_births w_idle (EntryIs.Starve 0) → ⊥
unfolding known_row_of all_rows
idle_starve allowed = let h : true ≡ false = allowed.0 in cc

abbrev pub idle_all : List Entry
idle_all =
    idle_out
    ++ tries SideIs.Opened 0 1 8
    ∷ []

abbrev w_idle_end : World
w_idle_end = world_after frugal_births idle_all

idle_end : (w_idle_end.exits ≡ exit 1 EndIs.Idle ∷ [])
    × (w_idle_end.closed ≡ 0 ∷ [])
    × (w_idle_end.streams ≡ 1)
    × ((w_idle_end.process 1).part.listeners ≡ [])
    × (results w_idle_end 1 ≡ Some 0 ∷ [])
    × ((handled w_idle_end.moves).closed ≡ 0 ∷ [])
unfolding known_row_of all_rows
idle_end = (refl, refl, refl, refl, refl, refl)

idle_text : report_text (book_of frugal_births idle_all (1 ∷ []))
    ≡ line (codes "process 1 idle fuel 8 pages 0 mark 0")
    ++ line (codes "total processes 1 messages 0 streams 1")
unfolding known_row_of all_rows told digits
idle_text = refl

idle_allowed : AllAllowed (Some frugal_terms) frugal_births (first_world frugal_births) idle_all
unfolding known_row_of all_rows
idle_allowed = (
  (refl, refl),
  (
    record { away = refl; turn = record { grown = omega arith; burnt = omega arith; answered = omega arith; local = tt; halted = record { kind = refl; judged = refl; beside = record { side = record { form = record { result = (0, omega arith, refl); count = tt; text = refl; word = record { addr = refl; width = refl; fits = omega arith; value = tt } }; own = record { full = refl; number = λ zero. refl } }; birth = tt } } } },
    (
      (refl, refl),
      (
        record { away = refl; turn = record { grown = omega arith; burnt = omega arith; answered = omega arith; local = tt; halted = record { kind = refl; judged = refl; beside = record { side = refl; birth = tt } } } },
        (
          (refl, refl),
          (
            record { away = refl; turn = record { calls = refl; fuel = refl; halted = record { side = refl; birth = tt } } },
            (
              (refl, refl),
              (
                record { away = refl; turn = record { calls = refl; fuel = refl; halted = record { side = refl; birth = tt } } },
                (
                  (refl, refl),
                  (
                    (refl, omega arith),
                    (
                      record { away = refl; turn = record { calls = refl; fuel = refl; halted = record { side = refl; birth = tt } } },
                      tt,
                    ),
                  ),
                ),
              ),
            ),
          ),
        ),
      ),
    ),
  ),
)

-- had its last try come before Idle, the stream would be its own; then its traffic is used up

abbrev pub accepted : List Entry
accepted =
    pending_twice
    ++ tries SideIs.Opened 0 1 8
    ∷ take_by 0 1
    ∷ []

abbrev w_accepted : World
w_accepted = world_after frugal_births accepted

is_accepted : ((w_accepted.process 1).part.handles ≡ 0 ∷ [])
    × (last_reply w_accepted 1 ≡ written_reply 0 16 0 ∷ written_reply 0 24 0 ∷ [])
    × ((w_accepted.process 1).part.traffic ≡ 144)
    × ((w_accepted.process 1).owed ≡ None)
    × (w_accepted.row ≡ 0)
unfolding known_row_of all_rows
is_accepted = (refl, refl, refl, refl, refl)

accepted_call : Allowed (Some frugal_terms) frugal_births w_accepted (ends 0 1 (numbered (plain 10 []) 1 ∷ []) 9 HaltIs.Done) → ⊥
unfolding known_row_of all_rows
accepted_call allowed = let h : ◌≡◌ {A = Option Reply} None (Some (number_reply 1)) = allowed.turn.local.0 in cc

accepted_ask : Allowed (Some frugal_terms) frugal_births w_accepted (asks SideIs.Opened 0 1 [] 9 connect) → ⊥
unfolding known_row_of all_rows
accepted_ask allowed = let h : Overdrawn ≡ Fit = allowed.turn.halted.judged in cc

accepted_allowed : AllAllowed (Some frugal_terms) frugal_births (first_world frugal_births) (accepted ++ ends 0 1 [] 9 (HaltIs.Spent SpentIs.Traffic) ∷ [])
unfolding known_row_of all_rows
accepted_allowed = (
  (refl, refl),
  (
    record { away = refl; turn = record { grown = omega arith; burnt = omega arith; answered = omega arith; local = tt; halted = record { kind = refl; judged = refl; beside = record { side = record { form = record { result = (0, omega arith, refl); count = tt; text = refl; word = record { addr = refl; width = refl; fits = omega arith; value = tt } }; own = record { full = refl; number = λ zero. refl } }; birth = tt } } } },
    (
      (refl, refl),
      (
        record { away = refl; turn = record { grown = omega arith; burnt = omega arith; answered = omega arith; local = tt; halted = record { kind = refl; judged = refl; beside = record { side = refl; birth = tt } } } },
        (
          (refl, refl),
          (
            record { away = refl; turn = record { calls = refl; fuel = refl; halted = record { side = refl; birth = tt } } },
            (
              (refl, refl),
              (
                record { away = refl; turn = record { calls = refl; fuel = refl; halted = record { side = refl; birth = tt } } },
                (
                  (refl, refl),
                  (
                    record { away = refl; turn = record { grown = omega arith; burnt = omega arith; answered = omega arith; local = tt; halted = (refl, tt) } },
                    tt,
                  ),
                ),
              ),
            ),
          ),
        ),
      ),
    ),
  ),
)

-- PROCESS 1 ENDS. The streams of its scratch message close first; of process 2, which is out, the mailbox's; of process 3 the table's. A
-- clock in the Give of the doomed process sets the time.

abbrev pub letter_first : List Entry
letter_first =
    take_by 0 1
    ∷ asks SideIs.Nothing 0 1 [] 5 (spawn_linked 0)
    ∷ take_by 0 2
    ∷ take_by 1 1
    ∷ asks SideIs.Nothing 1 1 [] 9 (spawn_linked 0)
    ∷ take_by 1 3
    ∷ asks SideIs.Opened 1 3 [] 4 connect
    ∷ take_by 1 1
    ∷ asks SideIs.Opened 1 1 [] 12 connect
    ∷ take_by 1 3
    ∷ asks (SideIs.Clock 3) 1 3 [] 8 (receive_tag 9 minus_one)
    ∷ take_by 1 1
    ∷ asks SideIs.Opened 1 1 [] 15 connect
    ∷ take_by 1 1
    ∷ asks SideIs.Nothing 1 1 (silent (create_data 1) ∷ numbered (push_stream 2) 0 ∷ numbered (push_stream 1) 1 ∷ []) 30 (send 2)
    ∷ []

abbrev w_letter : World
w_letter = world_after births_to_three letter_first

letter : ((w_letter.process 2).mail ≡ Letter 0 (record { tag = 1; bytes = []; slots = Some 2 ∷ Some 1 ∷ [] }) ∷ [])
    × (w_letter.sends ≡ 1)
    × (w_letter.time ≡ 3)
    × (w_letter.ready ≡ 1 ∷ [])
    × ((w_letter.process 3).stage ≡ Waiting (receive_tag 9 minus_one))
    × ((w_letter.process 3).deadline ≡ None)
    × ((handled w_letter.moves).owner 2 ≡ Some (Mail 2 0 0))
    × ((handled w_letter.moves).owner 1 ≡ Some (Mail 2 0 1))
unfolding known_row_of all_rows
letter = (refl, refl, refl, refl, refl, refl, refl, refl)

letter_tick : Allowed None births_to_three w_letter (EntryIs.Tick 0 50) → ⊥
unfolding known_row_of all_rows
letter_tick allowed = let h : 0 < 0 = allowed.1 in omega arith

letter_stall : Allowed None births_to_three w_letter (EntryIs.Stall 0) → ⊥
unfolding known_row_of all_rows
letter_stall allowed = let h : ◌≡◌ {A = List ℕ} (1 ∷ []) [] = allowed.1.ready in cc

abbrev pub first_ends : List Entry
first_ends =
    letter_first
    ++ take_by 1 1
    ∷ asks SideIs.Opened 1 1 [] 33 connect
    ∷ take_by 1 1
    ∷ ends 1 1 (silent (create_data 6) ∷ numbered (push_stream 3) 0 ∷ []) 40 HaltIs.Done
    ∷ []

abbrev w_first_ends : World
w_first_ends = world_after births_to_three first_ends

first_has_ended : (w_first_ends.closed ≡ 3 ∷ 2 ∷ 1 ∷ 0 ∷ [])
    × ((handled w_first_ends.moves).closed ≡ 3 ∷ 2 ∷ 1 ∷ 0 ∷ [])
    × (w_first_ends.exits ≡ exit 1 EndIs.Done ∷ exit 3 EndIs.Closed ∷ [])
    × ((w_first_ends.process 2).stage ≡ Doomed 0 EndIs.Closed)
    × ((w_first_ends.process 2).mail ≡ [])
    × (w_first_ends.over ≡ true)
    × (w_first_ends.ready ≡ [])
unfolding known_row_of all_rows
first_has_ended = (refl, refl, refl, refl, refl, refl, refl)

ended_take : Allowed None births_to_three w_first_ends (take_by 0 3) → ⊥
unfolding known_row_of all_rows
ended_take allowed = let h : true ≡ false = allowed.0 in cc

ended_tick : Allowed None births_to_three w_first_ends (EntryIs.Tick 0 60) → ⊥
unfolding known_row_of all_rows
ended_tick allowed = let h : true ≡ false = allowed.0 in cc

ended_stall : Allowed None births_to_three w_first_ends (EntryIs.Stall 0) → ⊥
unfolding known_row_of all_rows
ended_stall allowed = let h : true ≡ false = allowed.0 in cc

ended_starve : Allowed None births_to_three w_first_ends (EntryIs.Starve 0) → ⊥
unfolding known_row_of all_rows
ended_starve allowed = let h : true ≡ false = allowed.0 in cc

ended_give : Allowed None births_to_three w_first_ends (ends 1 1 [] 41 HaltIs.Done) → ⊥
unfolding known_row_of all_rows
ended_give allowed = allowed.away

ended_nothing : Allowed None births_to_three w_first_ends (asks SideIs.Nothing 0 2 [] 7 (receive_any minus_one)) → ⊥
unfolding known_row_of all_rows
ended_nothing allowed = allowed.turn.halted.beside.side

ended_other : Allowed None births_to_three w_first_ends (asks (SideIs.Clock 50) 1 2 [] 7 (receive_any minus_one)) → ⊥
unfolding known_row_of all_rows
ended_other allowed = let h : AreSame 0 1 = allowed.away in omega arith

abbrev pub letter_all : List Entry
letter_all =
    first_ends
    ++ asks (SideIs.Clock 50) 0 2 [] 7 (receive_any minus_one)
    ∷ []

abbrev w_letter_end : World
w_letter_end = world_after births_to_three letter_all

letter_end : (w_letter_end.exits ≡ exit 1 EndIs.Done ∷ exit 3 EndIs.Closed ∷ exit 2 EndIs.Closed ∷ [])
    × (w_letter_end.time ≡ 50)
    × ((w_letter_end.process 2).fuel ≡ 7)
    × (w_letter_end.closed ≡ 3 ∷ 2 ∷ 1 ∷ 0 ∷ [])
unfolding known_row_of all_rows
letter_end = (refl, refl, refl, refl)

letter_text : report_text (book_of births_to_three letter_all (1 ∷ 3 ∷ 2 ∷ []))
    ≡ line (codes "process 1 done fuel 40 pages 0 mark 0")
    ++ line (codes "process 3 closed fuel 8 pages 0 mark 0")
    ++ line (codes "process 2 closed fuel 7 pages 0 mark 0")
    ++ line (codes "total processes 3 messages 1 streams 4")
unfolding known_row_of all_rows told digits
letter_text = refl

letter_allowed : AllAllowed None births_to_three (first_world births_to_three) letter_all
unfolding known_row_of all_rows
letter_allowed = (
  (refl, refl),
  (
    record { away = refl; turn = record { grown = omega arith; burnt = omega arith; answered = omega arith; local = tt; halted = record { kind = refl; judged = refl; beside = record { side = tt; birth = record { beside = refl; place = tt; number = omega arith; child = record { pid = refl; «module» = refl; entry = refl; params = record { spelled = refl; values = All-nil (λ (param : TypedValue). IsValueOf param.num param.value) }; limits = refl }; starts = tt } } } } },
    (
      (refl, refl),
      (
        (refl, refl),
        (
          record { away = refl; turn = record { grown = omega arith; burnt = omega arith; answered = omega arith; local = tt; halted = record { kind = refl; judged = refl; beside = record { side = tt; birth = record { beside = refl; place = tt; number = omega arith; child = record { pid = refl; «module» = refl; entry = refl; params = record { spelled = refl; values = All-nil (λ (param : TypedValue). IsValueOf param.num param.value) }; limits = refl }; starts = tt } } } } },
          (
            (refl, refl),
            (
              record { away = refl; turn = record { grown = omega arith; burnt = omega arith; answered = omega arith; local = tt; halted = record { kind = refl; judged = refl; beside = record { side = refl; birth = tt } } } },
              (
                (refl, refl),
                (
                  record { away = refl; turn = record { grown = omega arith; burnt = omega arith; answered = omega arith; local = tt; halted = record { kind = refl; judged = refl; beside = record { side = refl; birth = tt } } } },
                  (
                    (refl, refl),
                    (
                      record { away = refl; turn = record { grown = omega arith; burnt = omega arith; answered = omega arith; local = tt; halted = record { kind = refl; judged = refl; beside = record { side = tt; birth = tt } } } },
                      (
                        (refl, refl),
                        (
                          record { away = refl; turn = record { grown = omega arith; burnt = omega arith; answered = omega arith; local = tt; halted = record { kind = refl; judged = refl; beside = record { side = refl; birth = tt } } } },
                          (
                            (refl, refl),
                            (
                              record { away = refl; turn = record { grown = omega arith; burnt = omega arith; answered = omega arith; local = (refl, (refl, (refl, tt))); halted = record { kind = refl; judged = refl; beside = record { side = tt; birth = tt } } } },
                              (
                                (refl, refl),
                                (
                                  record { away = refl; turn = record { grown = omega arith; burnt = omega arith; answered = omega arith; local = tt; halted = record { kind = refl; judged = refl; beside = record { side = refl; birth = tt } } } },
                                  (
                                    (refl, refl),
                                    (
                                      record { away = refl; turn = record { grown = omega arith; burnt = omega arith; answered = omega arith; local = (refl, (refl, tt)); halted = (refl, tt) } },
                                      (
                                        record { away = refl; turn = record { grown = omega arith; burnt = omega arith; answered = omega arith; local = tt; halted = record { kind = refl; judged = refl; beside = record { side = tt; birth = tt } } } },
                                        tt,
                                      ),
                                    ),
                                  ),
                                ),
                              ),
                            ),
                          ),
                        ),
                      ),
                    ),
                  ),
                ),
              ),
            ),
          ),
        ),
      ),
    ),
  ),
)

-- SLOTS. A message keeps its slots on its way, the empty ones too; a push by the receiver takes the next.

abbrev pub slots_first : List Entry
slots_first =
    take_by 0 1
    ∷ asks SideIs.Nothing 0 1 [] 5 (spawn_linked 0)
    ∷ take_by 0 2
    ∷ asks (SideIs.Clock 0) 0 2 [] 3 (receive_any minus_one)
    ∷ take_by 0 1
    ∷ asks SideIs.Opened 0 1 [] 8 connect
    ∷ take_by 0 1
    ∷ asks SideIs.Opened 0 1 [] 11 connect
    ∷ take_by 0 1
    ∷ asks SideIs.Opened 0 1 [] 14 connect
    ∷ take_by 0 1
    ∷ asks SideIs.Nothing 0 1 (silent (create_data 5) ∷ numbered (push_stream 1) 0 ∷ numbered (push_stream 0) 1 ∷ numbered (take_stream 0) 1 ∷ numbered (push_stream 1) 2 ∷ []) 30 (send 2)
    ∷ []

abbrev w_slots : World
w_slots = world_after births_to_three slots_first

slots : ((w_slots.process 2).part.scratch ≡ Some (record { message = record { tag = 5; bytes = []; slots = None ∷ Some 0 ∷ Some 1 ∷ [] }; read_place = 0 }))
    × (last_reply w_slots 2 ≡ number_reply 0 ∷ [])
    × ((w_slots.process 2).mail ≡ [])
    × ((w_slots.process 1).part.scratch ≡ None)
    × ((w_slots.process 1).part.handles ≡ 2 ∷ [])
    × (w_slots.sends ≡ 1)
    × (w_slots.ready ≡ 2 ∷ 1 ∷ [])
    × (w_slots.moves ≡ Opened 0 1 ∷ Opened 1 1 ∷ Opened 2 1 ∷ ShutScratch 1 ∷ Pushed 1 1 0 ∷ Pushed 0 1 1 ∷ Taken 1 0 ∷ Pushed 1 1 2 ∷ Sent 1 2 0 ∷ ShutScratch 2 ∷ Received 2 0 ∷ [])
    × ((handled w_slots.moves).owner 1 ≡ Some (Scratch 2 2))
unfolding known_row_of all_rows
slots = (refl, refl, refl, refl, refl, refl, refl, refl, refl)

abbrev pub slots_taken : List Entry
slots_taken =
    slots_first
    ++ take_by 0 2
    ∷ []

abbrev w_taken : World
w_taken = world_after births_to_three slots_taken

-- the number that a reply gives
abbrev pub number_in : Option Reply → ℕ
number_in None = 0
number_in (Some reply) = unwrap_or reply.result 0

-- 1 where a request is judged EmptyPlace
abbrev is_empty_place : Judgement → ℕ
is_empty_place (Faulty FaultIs.EmptyPlace) = 1
is_empty_place _ = 0

taken_reused : Allowed None births_to_three w_taken (ends 0 2 (numbered (take_stream 1) 0 ∷ numbered (push_stream 0) 1 ∷ []) 10 HaltIs.Done) → ⊥
unfolding known_row_of all_rows
taken_reused allowed = let h : ◌≡◌ {A = Option Reply} (Some (number_reply 3)) (Some (number_reply 1)) = allowed.turn.local.1.0 in let n : AreSame 3 1 = λ i. number_in (h i) in omega arith

taken_empty : Allowed None births_to_three w_taken (ends 0 2 (numbered (take_stream 0) 1 ∷ []) 10 HaltIs.Done) → ⊥
unfolding known_row_of all_rows
taken_empty allowed = let h : ◌≡◌ {A = Option Reply} None (Some (number_reply 1)) = allowed.turn.local.0 in cc

taken_other : Allowed None births_to_three w_taken (ends 0 2 (numbered (push_stream 2) 3 ∷ []) 10 HaltIs.Done) → ⊥
unfolding known_row_of all_rows
taken_other allowed = let h : ◌≡◌ {A = Option Reply} None (Some (number_reply 3)) = allowed.turn.local.0 in cc

abbrev pub slots_back : List Entry
slots_back =
    slots_taken
    ++ ends 0 2 (numbered (take_stream 1) 0 ∷ numbered (push_stream 0) 3 ∷ []) 10 (HaltIs.Trap TrapIs.Unreachable)
    ∷ take_by 0 1
    ∷ asks SideIs.Nothing 0 1 (silent (create_data 8) ∷ numbered (push_stream 2) 0 ∷ []) 40 (send 2)
    ∷ take_by 0 1
    ∷ []

abbrev w_back : World
w_back = world_after births_to_three slots_back

back : (w_back.closed ≡ 1 ∷ 0 ∷ [])
    × ((handled w_back.moves).closed ≡ 1 ∷ 0 ∷ [])
    × (w_back.exits ≡ exit 2 (EndIs.Trap TrapIs.Unreachable) ∷ [])
    × (slots_of (w_back.process 1).part.scratch ≡ Some 2 ∷ [])
    × (w_back.sends ≡ 1)
    × (results w_back 1 ≡ Some 0 ∷ Some 0 ∷ Some 0 ∷ Some 0 ∷ None ∷ Some 0 ∷ Some 1 ∷ Some 1 ∷ Some 2 ∷ Some 0 ∷ None ∷ Some 0 ∷ Some 1 ∷ [])
unfolding known_row_of all_rows
back = (refl, refl, refl, refl, refl, refl)

back_no_message : Allowed None births_to_three w_back (ends 0 1 (numbered (take_stream 0) 2 ∷ []) 44 (HaltIs.Host FaultIs.NoMessage (take_stream 0))) → ⊥
unfolding known_row_of all_rows
back_no_message allowed = let n : AreSame 1 0 = λ i. is_empty_place (allowed.turn.halted.1 i) in omega arith

back_full : Allowed None births_to_three w_back (ends 0 1 (numbered (take_stream 0) 2 ∷ []) 44 (HaltIs.Host FaultIs.TableFull (take_stream 0))) → ⊥
unfolding known_row_of all_rows
back_full allowed = let n : AreSame 1 0 = λ i. is_empty_place (allowed.turn.halted.1 i) in omega arith

back_asks : Allowed None births_to_three w_back (asks SideIs.Nothing 0 1 [] 44 (take_stream 0)) → ⊥
unfolding known_row_of all_rows
back_asks allowed = let h : true ≡ false = allowed.turn.halted.kind in cc

abbrev pub slots_all : List Entry
slots_all =
    slots_back
    ++ ends 0 1 (numbered (take_stream 0) 2 ∷ []) 44 (HaltIs.Host FaultIs.EmptyPlace (take_stream 0))
    ∷ []

abbrev w_slots_end : World
w_slots_end = world_after births_to_three slots_all

slots_over : w_slots_end.over ≡ true
unfolding known_row_of all_rows
slots_over = refl

abbrev slots_moves : List Move
slots_moves =
    Opened 0 1 ∷ Opened 1 1 ∷ Opened 2 1 ∷ ShutScratch 1 ∷ Pushed 1 1 0 ∷ Pushed 0 1 1 ∷ Taken 1 0 ∷ Pushed 1 1 2 ∷ Sent 1 2 0 ∷ ShutScratch 2
    ∷ Received 2 0 ∷ Taken 2 1 ∷ Pushed 0 2 3 ∷ ShutAll 2 ∷ ShutScratch 1 ∷ Pushed 2 1 0 ∷ Taken 1 0 ∷ ShutAll 1 ∷ []

slots_moved : w_slots_end.moves ≡ slots_moves
unfolding known_row_of all_rows
slots_moved = refl

slots_closed : ((handled slots_moves).closed ≡ 1 ∷ 0 ∷ 2 ∷ [])
    × ((handled slots_moves).owner 0 ≡ Some Closed)
unfolding known_row_of all_rows
slots_closed = (refl, refl)

slots_text : report_text (book_of births_to_three slots_all (2 ∷ 1 ∷ []))
    ≡ line (codes "process 2 trap unreachable fuel 10 pages 0 mark 0")
    ++ line (codes "process 1 host emptyplace fuel 44 pages 0 mark 0")
    ++ line (codes "total processes 2 messages 1 streams 3")
unfolding known_row_of all_rows told digits
slots_text = refl

slots_allowed : AllAllowed None births_to_three (first_world births_to_three) slots_all
unfolding known_row_of all_rows
slots_allowed = (
  (refl, refl),
  (
    record { away = refl; turn = record { grown = omega arith; burnt = omega arith; answered = omega arith; local = tt; halted = record { kind = refl; judged = refl; beside = record { side = tt; birth = record { beside = refl; place = tt; number = omega arith; child = record { pid = refl; «module» = refl; entry = refl; params = record { spelled = refl; values = All-nil (λ (param : TypedValue). IsValueOf param.num param.value) }; limits = refl }; starts = tt } } } } },
    (
      (refl, refl),
      (
        record { away = refl; turn = record { grown = omega arith; burnt = omega arith; answered = omega arith; local = tt; halted = record { kind = refl; judged = refl; beside = record { side = tt; birth = tt } } } },
        (
          (refl, refl),
          (
            record { away = refl; turn = record { grown = omega arith; burnt = omega arith; answered = omega arith; local = tt; halted = record { kind = refl; judged = refl; beside = record { side = refl; birth = tt } } } },
            (
              (refl, refl),
              (
                record { away = refl; turn = record { grown = omega arith; burnt = omega arith; answered = omega arith; local = tt; halted = record { kind = refl; judged = refl; beside = record { side = refl; birth = tt } } } },
                (
                  (refl, refl),
                  (
                    record { away = refl; turn = record { grown = omega arith; burnt = omega arith; answered = omega arith; local = tt; halted = record { kind = refl; judged = refl; beside = record { side = refl; birth = tt } } } },
                    (
                      (refl, refl),
                      (
                        record { away = refl; turn = record { grown = omega arith; burnt = omega arith; answered = omega arith; local = (refl, (refl, (refl, (refl, (refl, tt))))); halted = record { kind = refl; judged = refl; beside = record { side = tt; birth = tt } } } },
                        (
                          (refl, refl),
                          (
                            record { away = refl; turn = record { grown = omega arith; burnt = omega arith; answered = omega arith; local = (refl, (refl, tt)); halted = (refl, tt) } },
                            (
                              (refl, refl),
                              (
                                record { away = refl; turn = record { grown = omega arith; burnt = omega arith; answered = omega arith; local = (refl, (refl, tt)); halted = record { kind = refl; judged = refl; beside = record { side = tt; birth = tt } } } },
                                (
                                  (refl, refl),
                                  (
                                    record { away = refl; turn = record { grown = omega arith; burnt = omega arith; answered = omega arith; local = (refl, tt); halted = (refl, refl) } },
                                    tt,
                                  ),
                                ),
                              ),
                            ),
                          ),
                        ),
                      ),
                    ),
                  ),
                ),
              ),
            ),
          ),
        ),
      ),
    ),
  ),
)

use Rattle.std.specs.Prelude.{◌≡◌, ℕ, ◌+◌, ◌-◌, ◌^◌, ◌≤◌, ◌<◌, List, [], ◌∷◌, ◌++◌, Option, Some, None, true, false, codes, refl}
use native.Mathlib.Omega.{arith}
use Rattle.std.proofs.lemmas.List.Elements.{All-nil}
use Rattle.std.specs.Fmt.{digits}
use Rattle.host_port.specs.TypedValue.{TypedValue}
use Rattle.host_port.specs.HostTable.{known_row_of, all_rows}
use Rattle.spawn_config.specs.Spelling.{IsValueOf}
use Rattle.world_rules.specs.declared.entry.Entry.{Entry}
use Rattle.world_rules.specs.declared.entry.Entry.TheVariants as EntryIs
use Rattle.world_rules.specs.declared.entry.Side.TheVariants as SideIs
use Rattle.world_rules.specs.declared.halt.Halt.TheVariants as HaltIs
use Rattle.world_rules.specs.declared.halt.End.TheVariants as EndIs
use Rattle.world_rules.specs.Answers.{number_reply, written_reply, empty_reply}
use Rattle.world_rules.specs.World.{World, Waiting, Doomed, link_between, first_world, is_away}
use Rattle.world_rules.specs.Time.{timed_processes}
use Rattle.world_rules.specs.Births.{Terms}
use Rattle.world_rules.specs.Allowed.{Allowed}
use Rattle.world_rules.specs.Told.{told, AllAllowed}
use Rattle.world_rules.specs.Report.{report_text}
use Rattle.world_rules.proofs.ForetoldStreams.{births_to_three, exit, asks, ends, tries, book_of, line, last_reply}
use Rattle.world_rules.proofs.Worked.{start_of, plain, silent, minus_one, create_data, send, receive_any, read_stream, spawn_linked, kill, sleep_ms, connect, take_by, world_after, results}

-- Journals of a second reader, who wrote down what must come of them before reading the rules: time, stalls and idle rows.

-- the last moment that there is
abbrev last : ℕ
last = 2 ^ 64 - 1

-- DEADLINES. A clock answers nobody; a Tick answers all whose deadline has come, at the time that stands. No deadline is past the last moment.

abbrev pub both_wait : List Entry
both_wait =
    take_by 0 1
    ∷ asks SideIs.Nothing 0 1 [] 5 (spawn_linked 0)
    ∷ take_by 0 2
    ∷ asks (SideIs.Clock 100) 0 2 [] 3 (sleep_ms 10)
    ∷ take_by 0 1
    ∷ asks SideIs.Nothing 0 1 [] 9 (spawn_linked 0)
    ∷ take_by 0 3
    ∷ asks (SideIs.Clock 102) 0 3 [] 2 (receive_any 8)
    ∷ []

abbrev w_both : World
w_both = world_after births_to_three both_wait

both : ((w_both.process 2).deadline ≡ Some 110)
    × ((w_both.process 3).deadline ≡ Some 110)
    × (w_both.time ≡ 102)
    × (w_both.ready ≡ 1 ∷ [])
unfolding known_row_of all_rows
both = (refl, refl, refl, refl)

both_stall : Allowed None births_to_three w_both (EntryIs.Stall 0) → ⊥
unfolding known_row_of all_rows
both_stall allowed = let h : ◌≡◌ {A = List ℕ} (1 ∷ []) [] = allowed.1.ready in cc

abbrev pub still_wait : List Entry
still_wait =
    both_wait
    ++ EntryIs.Tick 0 109
    ∷ take_by 0 1
    ∷ []

abbrev w_still : World
w_still = world_after births_to_three still_wait

still : (w_still.row ≡ 1)
    × (w_still.time ≡ 109)
    × ((w_still.process 2).deadline ≡ Some 110)
    × (w_still.ready ≡ [])
unfolding known_row_of all_rows
still = (refl, refl, refl, refl)

still_nothing : Allowed None births_to_three w_still (asks SideIs.Nothing 0 1 [] 12 (sleep_ms minus_one)) → ⊥
unfolding known_row_of all_rows
still_nothing allowed = allowed.turn.halted.beside.side

still_answer : Allowed None births_to_three w_still (asks (SideIs.Answer empty_reply) 0 1 [] 12 (sleep_ms minus_one)) → ⊥
unfolding known_row_of all_rows
still_answer allowed = allowed.turn.halted.beside.side

abbrev pub passed : List Entry
passed =
    still_wait
    ++ asks (SideIs.Clock 200) 0 1 [] 12 (sleep_ms minus_one)
    ∷ []

abbrev w_passed : World
w_passed = world_after births_to_three passed

is_passed : (w_passed.time ≡ 200)
    × (w_passed.row ≡ 0)
    × (w_passed.ready ≡ 1 ∷ [])
    × ((w_passed.process 2).stage ≡ Waiting (sleep_ms 10))
    × ((w_passed.process 3).stage ≡ Waiting (receive_any 8))
    × (last_reply w_passed 1 ≡ written_reply 0 100 2 ∷ written_reply 0 100 3 ∷ empty_reply ∷ [])
unfolding known_row_of all_rows
is_passed = (refl, refl, refl, refl, refl, refl)

abbrev pub ticked_both : List Entry
ticked_both =
    passed
    ++ EntryIs.Tick 0 7
    ∷ []

abbrev w_ticked : World
w_ticked = world_after births_to_three ticked_both

ticked : (w_ticked.time ≡ 200)
    × (w_ticked.row ≡ 0)
    × (w_ticked.ready ≡ 1 ∷ 2 ∷ 3 ∷ [])
    × (last_reply w_ticked 2 ≡ empty_reply ∷ [])
    × (last_reply w_ticked 3 ≡ number_reply 9027 ∷ [])
    × ((w_ticked.process 3).part.scratch ≡ None)
unfolding known_row_of all_rows
ticked = (refl, refl, refl, refl, refl, refl)

ticked_tick : Allowed None births_to_three w_ticked (EntryIs.Tick 0 300) → ⊥
unfolding known_row_of all_rows
ticked_tick allowed = let h : 0 < 0 = allowed.1 in omega arith

abbrev pub at_last : List Entry
at_last =
    ticked_both
    ++ take_by 0 1
    ∷ asks (SideIs.Clock (2 ^ 64 - 5)) 0 1 [] 15 (receive_any 100)
    ∷ EntryIs.Tick 0 (2 ^ 64 - 2)
    ∷ take_by 0 2
    ∷ asks (SideIs.Clock 0) 0 2 [] 6 (sleep_ms 1)
    ∷ take_by 0 3
    ∷ asks (SideIs.Clock last) 0 3 [] 5 (sleep_ms 0)
    ∷ []

abbrev w_last : World
w_last = world_after births_to_three at_last

last_deadlines : ((w_last.process 1).deadline ≡ Some last)
    × ((w_last.process 2).deadline ≡ Some last)
    × (w_last.time ≡ last)
    × (w_last.ready ≡ 3 ∷ [])
    × (w_last.row ≡ 0)
    × ((w_last.process 1).stage ≡ Waiting (receive_any 100))
unfolding known_row_of all_rows
last_deadlines = (refl, refl, refl, refl, refl, refl)

abbrev pub last_all : List Entry
last_all =
    at_last
    ++ EntryIs.Tick 0 0
    ∷ []

abbrev w_last_ticked : World
w_last_ticked = world_after births_to_three last_all

last_ticked : (w_last_ticked.ready ≡ 3 ∷ 1 ∷ 2 ∷ [])
    × (w_last_ticked.time ≡ last)
    × (w_last_ticked.row ≡ 0)
    × (results w_last_ticked 1 ≡ Some 0 ∷ Some 0 ∷ None ∷ Some 9027 ∷ [])
    × (results w_last_ticked 2 ≡ None ∷ None ∷ [])
unfolding known_row_of all_rows
last_ticked = (refl, refl, refl, refl, refl)

last_allowed : AllAllowed None births_to_three (first_world births_to_three) last_all
unfolding known_row_of all_rows
last_allowed = (
  (refl, refl),
  (
    record { away = refl; turn = record { grown = omega arith; burnt = omega arith; answered = omega arith; local = tt; halted = record { kind = refl; judged = refl; beside = record { side = tt; birth = record { beside = refl; place = tt; number = omega arith; child = record { pid = refl; «module» = refl; entry = refl; params = record { spelled = refl; values = All-nil (λ (param : TypedValue). IsValueOf param.num param.value) }; limits = refl }; starts = tt } } } } },
    (
      (refl, refl),
      (
        record { away = refl; turn = record { grown = omega arith; burnt = omega arith; answered = omega arith; local = tt; halted = record { kind = refl; judged = refl; beside = record { side = tt; birth = tt } } } },
        (
          (refl, refl),
          (
            record { away = refl; turn = record { grown = omega arith; burnt = omega arith; answered = omega arith; local = tt; halted = record { kind = refl; judged = refl; beside = record { side = tt; birth = record { beside = refl; place = tt; number = omega arith; child = record { pid = refl; «module» = refl; entry = refl; params = record { spelled = refl; values = All-nil (λ (param : TypedValue). IsValueOf param.num param.value) }; limits = refl }; starts = tt } } } } },
            (
              (refl, refl),
              (
                record { away = refl; turn = record { grown = omega arith; burnt = omega arith; answered = omega arith; local = tt; halted = record { kind = refl; judged = refl; beside = record { side = tt; birth = tt } } } },
                (
                  (refl, omega arith),
                  (
                    (refl, refl),
                    (
                      record { away = refl; turn = record { grown = omega arith; burnt = omega arith; answered = omega arith; local = tt; halted = record { kind = refl; judged = refl; beside = record { side = tt; birth = tt } } } },
                      (
                        (refl, omega arith),
                        (
                          (refl, refl),
                          (
                            record { away = refl; turn = record { grown = omega arith; burnt = omega arith; answered = omega arith; local = tt; halted = record { kind = refl; judged = refl; beside = record { side = tt; birth = tt } } } },
                            (
                              (refl, omega arith),
                              (
                                (refl, refl),
                                (
                                  record { away = refl; turn = record { grown = omega arith; burnt = omega arith; answered = omega arith; local = tt; halted = record { kind = refl; judged = refl; beside = record { side = tt; birth = tt } } } },
                                  (
                                    (refl, refl),
                                    (
                                      record { away = refl; turn = record { grown = omega arith; burnt = omega arith; answered = omega arith; local = tt; halted = record { kind = refl; judged = refl; beside = record { side = tt; birth = tt } } } },
                                      (
                                        (refl, omega arith),
                                        tt,
                                      ),
                                    ),
                                  ),
                                ),
                              ),
                            ),
                          ),
                        ),
                      ),
                    ),
                  ),
                ),
              ),
            ),
          ),
        ),
      ),
    ),
  ),
)

-- a limit from 2^63 on is negative and has no deadline; the greatest positive one ends at the last moment at the latest

abbrev w_endless : World
w_endless = world_after births_to_three (take_by 0 1 ∷ asks (SideIs.Clock (2 ^ 63 + 5)) 0 1 [] 4 (receive_any (2 ^ 63)) ∷ [])

endless : ((w_endless.process 1).stage ≡ Waiting (receive_any (2 ^ 63)))
    × ((w_endless.process 1).deadline ≡ None)
unfolding known_row_of all_rows
endless = (refl, refl)

abbrev w_longest : World
w_longest = world_after births_to_three (take_by 0 1 ∷ asks (SideIs.Clock (2 ^ 63 + 5)) 0 1 [] 4 (receive_any (2 ^ 63 - 1)) ∷ [])

longest : ((w_longest.process 1).stage ≡ Waiting (receive_any (2 ^ 63 - 1)))
    × ((w_longest.process 1).deadline ≡ Some last)
unfolding known_row_of all_rows
longest = (refl, refl)

endless_tick : Allowed None births_to_three w_endless (EntryIs.Tick 0 5) → ⊥
unfolding known_row_of all_rows
endless_tick allowed = let h : 0 < 0 = allowed.1 in omega arith

-- A STALL waits for the doomed one. It puts no signal, and nobody ends Linked by it.

abbrev pub all_wait : List Entry
all_wait =
    take_by 0 1
    ∷ asks SideIs.Nothing 0 1 [] 5 (spawn_linked 0)
    ∷ take_by 1 2
    ∷ take_by 0 1
    ∷ asks SideIs.Nothing 0 1 [] 9 (spawn_linked 7)
    ∷ take_by 0 3
    ∷ take_by 2 1
    ∷ asks (SideIs.Clock 0) 2 1 [] 12 (receive_any minus_one)
    ∷ asks SideIs.Nothing 0 3 [] 4 (kill 2)
    ∷ take_by 0 3
    ∷ asks (SideIs.Clock 0) 0 3 [] 8 (receive_any minus_one)
    ∷ []

abbrev w_all : World
w_all = world_after births_to_three all_wait

all : (w_all.ready ≡ [])
    × ((w_all.process 2).stage ≡ Doomed 1 EndIs.Killed)
    × ((w_all.process 1).stage ≡ Waiting (receive_any minus_one))
    × ((w_all.process 3).stage ≡ Waiting (receive_any minus_one))
    × (link_between w_all 3 1 ≡ Some 7)
    × (w_all.exits ≡ [])
unfolding known_row_of all_rows
all = (refl, refl, refl, refl, refl, refl)

all_stall : Allowed None births_to_three w_all (EntryIs.Stall 3) → ⊥
unfolding known_row_of all_rows
all_stall allowed = let h : true ≡ false = allowed.1.away 2 in cc

-- a Give of the doomed one is judged as any other
all_fuel : Allowed None births_to_three w_all (ends 1 2 [] 10001 HaltIs.Done) → ⊥
unfolding known_row_of all_rows
all_fuel allowed = let h : 10001 ≤ 10000 = allowed.turn.burnt in omega arith

all_local : Allowed None births_to_three w_all (asks SideIs.Nothing 1 2 [] 5 (plain 10 [])) → ⊥
unfolding known_row_of all_rows
all_local allowed = let h : true ≡ false = allowed.turn.halted.kind in cc

all_again : Allowed None births_to_three w_all (tries SideIs.Pending 1 2 0) → ⊥
unfolding known_row_of all_rows
all_again allowed = allowed.turn.halted

all_refusal : Allowed None births_to_three w_all (asks SideIs.NoMemory 1 2 (silent (create_data 4) ∷ []) 5 (send 1)) → ⊥
unfolding known_row_of all_rows
all_refusal allowed = let h : false ≡ true = allowed.turn.halted.beside.side.performed in cc

all_clock : Allowed None births_to_three w_all (asks SideIs.Nothing 1 2 [] 5 (receive_any 5)) → ⊥
unfolding known_row_of all_rows
all_clock allowed = allowed.turn.halted.beside.side

-- its spawn is not performed, and uses no birth

all_spawn : AllAllowed None births_to_three (first_world births_to_three) (all_wait ++ asks SideIs.Nothing 1 2 [] 5 (spawn_linked 0) ∷ [])
unfolding known_row_of all_rows
all_spawn = (
  (refl, refl),
  (
    record { away = refl; turn = record { grown = omega arith; burnt = omega arith; answered = omega arith; local = tt; halted = record { kind = refl; judged = refl; beside = record { side = tt; birth = record { beside = refl; place = tt; number = omega arith; child = record { pid = refl; «module» = refl; entry = refl; params = record { spelled = refl; values = All-nil (λ (param : TypedValue). IsValueOf param.num param.value) }; limits = refl }; starts = tt } } } } },
    (
      (refl, refl),
      (
        (refl, refl),
        (
          record { away = refl; turn = record { grown = omega arith; burnt = omega arith; answered = omega arith; local = tt; halted = record { kind = refl; judged = refl; beside = record { side = tt; birth = record { beside = refl; place = tt; number = omega arith; child = record { pid = refl; «module» = refl; entry = refl; params = record { spelled = refl; values = All-nil (λ (param : TypedValue). IsValueOf param.num param.value) }; limits = refl }; starts = tt } } } } },
          (
            (refl, refl),
            (
              (refl, refl),
              (
                record { away = refl; turn = record { grown = omega arith; burnt = omega arith; answered = omega arith; local = tt; halted = record { kind = refl; judged = refl; beside = record { side = tt; birth = tt } } } },
                (
                  record { away = refl; turn = record { grown = omega arith; burnt = omega arith; answered = omega arith; local = tt; halted = record { kind = refl; judged = refl; beside = record { side = tt; birth = tt } } } },
                  (
                    (refl, refl),
                    (
                      record { away = refl; turn = record { grown = omega arith; burnt = omega arith; answered = omega arith; local = tt; halted = record { kind = refl; judged = refl; beside = record { side = tt; birth = tt } } } },
                      (
                        record { away = refl; turn = record { grown = omega arith; burnt = omega arith; answered = omega arith; local = tt; halted = record { kind = refl; judged = refl; beside = record { side = tt; birth = tt } } } },
                        tt,
                      ),
                    ),
                  ),
                ),
              ),
            ),
          ),
        ),
      ),
    ),
  ),
)

abbrev w_unborn : World
w_unborn = world_after births_to_three (all_wait ++ asks SideIs.Nothing 1 2 [] 5 (spawn_linked 0) ∷ [])

no_birth : (w_unborn.numbers_drawn ≡ 3)
    × (w_unborn.spawns ≡ 2)
    × (w_unborn.exits ≡ exit 2 EndIs.Killed ∷ [])
    × (w_unborn.ready ≡ [])
unfolding known_row_of all_rows
no_birth = (refl, refl, refl, refl)

abbrev pub doomed_gone : List Entry
doomed_gone =
    all_wait
    ++ asks (SideIs.Clock 1000) 1 2 [] 5 (sleep_ms 1000)
    ∷ []

abbrev w_gone : World
w_gone = world_after births_to_three doomed_gone

gone : (w_gone.time ≡ 1000)
    × (w_gone.row ≡ 0)
    × (w_gone.exits ≡ exit 2 EndIs.Killed ∷ [])
    × ((w_gone.process 2).deadline ≡ None)
    × (w_gone.ready ≡ [])
unfolding known_row_of all_rows
gone = (refl, refl, refl, refl, refl)

gone_tick : Allowed None births_to_three w_gone (EntryIs.Tick 0 2000) → ⊥
unfolding known_row_of all_rows
gone_tick allowed = let h : 0 < 0 = allowed.1 in omega arith

gone_take : Allowed None births_to_three w_gone (take_by 0 1) → ⊥
unfolding known_row_of all_rows
gone_take allowed = let h : ◌≡◌ {A = Option ℕ} None (Some 1) = allowed.1 in cc

-- nothing is ready or away, and nobody waits with a deadline: so it may stall

gone_stuck : (is_away (w_gone.process 1).stage ≡ false)
    × (is_away (w_gone.process 2).stage ≡ false)
    × (is_away (w_gone.process 3).stage ≡ false)
    × (w_gone.numbers_drawn ≡ 3)
    × (timed_processes w_gone ≡ [])
    × (w_gone.over ≡ false)
unfolding known_row_of all_rows
gone_stuck = (refl, refl, refl, refl, refl, refl)

abbrev pub stall_all : List Entry
stall_all =
    doomed_gone
    ++ EntryIs.Stall 3
    ∷ []

abbrev w_stalled : World
w_stalled = world_after births_to_three stall_all

stalled : (w_stalled.exits ≡ exit 2 EndIs.Killed ∷ exit 1 EndIs.Stalled ∷ exit 3 EndIs.Stalled ∷ [])
    × (w_stalled.over ≡ true)
    × (results w_stalled 1 ≡ Some 0 ∷ Some 0 ∷ [])
    × (results w_stalled 3 ≡ None ∷ [])
    × (w_stalled.ready ≡ [])
unfolding known_row_of all_rows
stalled = (refl, refl, refl, refl, refl)

stalled_take : Allowed None births_to_three w_stalled (take_by 0 3) → ⊥
unfolding known_row_of all_rows
stalled_take allowed = let h : true ≡ false = allowed.0 in cc

stalled_tick : Allowed None births_to_three w_stalled (EntryIs.Tick 0 60) → ⊥
unfolding known_row_of all_rows
stalled_tick allowed = let h : true ≡ false = allowed.0 in cc

stalled_stall : Allowed None births_to_three w_stalled (EntryIs.Stall 0) → ⊥
unfolding known_row_of all_rows
stalled_stall allowed = let h : true ≡ false = allowed.0 in cc

stalled_starve : Allowed None births_to_three w_stalled (EntryIs.Starve 0) → ⊥
unfolding known_row_of all_rows
stalled_starve allowed = let h : true ≡ false = allowed.0 in cc

stalled_idle : Allowed None births_to_three w_stalled (EntryIs.Idle 0) → ⊥
unfolding known_row_of all_rows
stalled_idle allowed = let h : true ≡ false = allowed.0 in cc

stall_text : report_text (book_of births_to_three stall_all (2 ∷ 1 ∷ 3 ∷ []))
    ≡ line (codes "process 2 killed fuel 5 pages 0 mark 0")
    ++ line (codes "process 1 stalled fuel 12 pages 0 mark 0")
    ++ line (codes "process 3 stalled fuel 8 pages 0 mark 0")
    ++ line (codes "total processes 3 messages 0 streams 0")
unfolding known_row_of all_rows told digits
stall_text = refl

stall_allowed : AllAllowed None births_to_three (first_world births_to_three) doomed_gone
unfolding known_row_of all_rows
stall_allowed = (
  (refl, refl),
  (
    record { away = refl; turn = record { grown = omega arith; burnt = omega arith; answered = omega arith; local = tt; halted = record { kind = refl; judged = refl; beside = record { side = tt; birth = record { beside = refl; place = tt; number = omega arith; child = record { pid = refl; «module» = refl; entry = refl; params = record { spelled = refl; values = All-nil (λ (param : TypedValue). IsValueOf param.num param.value) }; limits = refl }; starts = tt } } } } },
    (
      (refl, refl),
      (
        (refl, refl),
        (
          record { away = refl; turn = record { grown = omega arith; burnt = omega arith; answered = omega arith; local = tt; halted = record { kind = refl; judged = refl; beside = record { side = tt; birth = record { beside = refl; place = tt; number = omega arith; child = record { pid = refl; «module» = refl; entry = refl; params = record { spelled = refl; values = All-nil (λ (param : TypedValue). IsValueOf param.num param.value) }; limits = refl }; starts = tt } } } } },
          (
            (refl, refl),
            (
              (refl, refl),
              (
                record { away = refl; turn = record { grown = omega arith; burnt = omega arith; answered = omega arith; local = tt; halted = record { kind = refl; judged = refl; beside = record { side = tt; birth = tt } } } },
                (
                  record { away = refl; turn = record { grown = omega arith; burnt = omega arith; answered = omega arith; local = tt; halted = record { kind = refl; judged = refl; beside = record { side = tt; birth = tt } } } },
                  (
                    (refl, refl),
                    (
                      record { away = refl; turn = record { grown = omega arith; burnt = omega arith; answered = omega arith; local = tt; halted = record { kind = refl; judged = refl; beside = record { side = tt; birth = tt } } } },
                      (
                        record { away = refl; turn = record { grown = omega arith; burnt = omega arith; answered = omega arith; local = tt; halted = record { kind = refl; judged = refl; beside = record { side = tt; birth = tt } } } },
                        tt,
                      ),
                    ),
                  ),
                ),
              ),
            ),
          ),
        ),
      ),
    ),
  ),
)

-- THE ROW. A Pending give and an early Tick are a row of two. A Tick that answers breaks it, and so does the Give of a doomed process that is
-- still pending.

-- the idle limit is 2
abbrev hasty : Terms
hasty = record { first = start_of 1; live = 1024; idle = 2; can_start = λ _. true }

abbrev pub row_one : List Entry
row_one =
    take_by 0 1
    ∷ asks SideIs.Nothing 0 1 [] 5 (spawn_linked 0)
    ∷ take_by 0 2
    ∷ asks SideIs.Opened 0 2 [] 4 connect
    ∷ take_by 0 1
    ∷ asks (SideIs.Clock 10) 0 1 [] 9 (sleep_ms 50)
    ∷ take_by 0 2
    ∷ asks SideIs.Pending 0 2 [] 8 (read_stream 0)
    ∷ []

abbrev w_one : World
w_one = world_after births_to_three row_one

one : (w_one.row ≡ 1)
    × (w_one.ready ≡ 2 ∷ [])
    × ((w_one.process 1).deadline ≡ Some 60)
unfolding known_row_of all_rows
one = (refl, refl, refl)

one_idle : Allowed (Some hasty) births_to_three w_one (EntryIs.Idle 0) → ⊥
unfolding known_row_of all_rows
one_idle allowed = let h : 2 ≤ 1 = allowed.1 in omega arith

abbrev pub row_two : List Entry
row_two =
    row_one
    ++ EntryIs.Tick 0 59
    ∷ []

abbrev w_two : World
w_two = world_after births_to_three row_two

two : (w_two.row ≡ 2)
    × (w_two.ready ≡ 2 ∷ [])
unfolding known_row_of all_rows
two = (refl, refl)

abbrev pub row_idle : List Entry
row_idle =
    row_two
    ++ EntryIs.Idle 0
    ∷ []

abbrev w_rested : World
w_rested = world_after births_to_three row_idle

rested : (w_rested.exits ≡ exit 1 EndIs.Idle ∷ exit 2 EndIs.Idle ∷ [])
    × (w_rested.closed ≡ 0 ∷ [])
    × (w_rested.over ≡ true)
    × (w_rested.ready ≡ [])
unfolding known_row_of all_rows
rested = (refl, refl, refl, refl)

rested_text : report_text (book_of births_to_three row_idle (1 ∷ 2 ∷ []))
    ≡ line (codes "process 1 idle fuel 9 pages 0 mark 0")
    ++ line (codes "process 2 idle fuel 8 pages 0 mark 0")
    ++ line (codes "total processes 2 messages 0 streams 1")
unfolding known_row_of all_rows told digits
rested_text = refl

rested_allowed : AllAllowed (Some hasty) births_to_three (first_world births_to_three) row_idle
unfolding known_row_of all_rows
rested_allowed = (
  (refl, refl),
  (
    record { away = refl; turn = record { grown = omega arith; burnt = omega arith; answered = omega arith; local = tt; halted = record { kind = refl; judged = refl; beside = record { side = tt; birth = record { beside = refl; place = omega arith; number = omega arith; child = record { pid = refl; «module» = refl; entry = refl; params = record { spelled = refl; values = All-nil (λ (param : TypedValue). IsValueOf param.num param.value) }; limits = refl }; starts = refl } } } } },
    (
      (refl, refl),
      (
        record { away = refl; turn = record { grown = omega arith; burnt = omega arith; answered = omega arith; local = tt; halted = record { kind = refl; judged = refl; beside = record { side = refl; birth = tt } } } },
        (
          (refl, refl),
          (
            record { away = refl; turn = record { grown = omega arith; burnt = omega arith; answered = omega arith; local = tt; halted = record { kind = refl; judged = refl; beside = record { side = tt; birth = tt } } } },
            (
              (refl, refl),
              (
                record { away = refl; turn = record { grown = omega arith; burnt = omega arith; answered = omega arith; local = tt; halted = record { kind = refl; judged = refl; beside = record { side = omega arith; birth = tt } } } },
                (
                  (refl, omega arith),
                  (
                    (refl, omega arith),
                    tt,
                  ),
                ),
              ),
            ),
          ),
        ),
      ),
    ),
  ),
)

abbrev pub row_broken : List Entry
row_broken =
    row_two
    ++ EntryIs.Tick 0 60
    ∷ []

abbrev w_broken : World
w_broken = world_after births_to_three row_broken

broken : (w_broken.row ≡ 0)
    × (w_broken.ready ≡ 2 ∷ 1 ∷ [])
    × (results w_broken 1 ≡ Some 0 ∷ None ∷ [])
unfolding known_row_of all_rows
broken = (refl, refl, refl)

broken_idle : Allowed (Some hasty) births_to_three w_broken (EntryIs.Idle 0) → ⊥
unfolding known_row_of all_rows
broken_idle allowed = let h : 2 ≤ 0 = allowed.1 in omega arith

abbrev pub row_doomed : List Entry
row_doomed =
    row_broken
    ++ take_by 0 2
    ∷ take_by 1 1
    ∷ asks SideIs.Nothing 1 1 [] 12 (kill 2)
    ∷ tries SideIs.Pending 0 2 8
    ∷ []

abbrev w_doomed : World
w_doomed = world_after births_to_three row_doomed

doomed_row : (w_doomed.row ≡ 0)
    × (w_doomed.exits ≡ exit 2 EndIs.Killed ∷ [])
    × ((w_doomed.streamed 0).waits ≡ 2)
    × (w_doomed.closed ≡ 0 ∷ [])
    × (w_doomed.ready ≡ 1 ∷ [])
    × (results w_doomed 2 ≡ Some 0 ∷ [])
unfolding known_row_of all_rows
doomed_row = (refl, refl, refl, refl, refl, refl)

doomed_idle : Allowed (Some hasty) births_to_three w_doomed (EntryIs.Idle 0) → ⊥
unfolding known_row_of all_rows
doomed_idle allowed = let h : 2 ≤ 0 = allowed.1 in omega arith

row_allowed : AllAllowed (Some hasty) births_to_three (first_world births_to_three) row_doomed
unfolding known_row_of all_rows
row_allowed = (
  (refl, refl),
  (
    record { away = refl; turn = record { grown = omega arith; burnt = omega arith; answered = omega arith; local = tt; halted = record { kind = refl; judged = refl; beside = record { side = tt; birth = record { beside = refl; place = omega arith; number = omega arith; child = record { pid = refl; «module» = refl; entry = refl; params = record { spelled = refl; values = All-nil (λ (param : TypedValue). IsValueOf param.num param.value) }; limits = refl }; starts = refl } } } } },
    (
      (refl, refl),
      (
        record { away = refl; turn = record { grown = omega arith; burnt = omega arith; answered = omega arith; local = tt; halted = record { kind = refl; judged = refl; beside = record { side = refl; birth = tt } } } },
        (
          (refl, refl),
          (
            record { away = refl; turn = record { grown = omega arith; burnt = omega arith; answered = omega arith; local = tt; halted = record { kind = refl; judged = refl; beside = record { side = tt; birth = tt } } } },
            (
              (refl, refl),
              (
                record { away = refl; turn = record { grown = omega arith; burnt = omega arith; answered = omega arith; local = tt; halted = record { kind = refl; judged = refl; beside = record { side = omega arith; birth = tt } } } },
                (
                  (refl, omega arith),
                  (
                    (refl, omega arith),
                    (
                      (refl, refl),
                      (
                        (refl, refl),
                        (
                          record { away = refl; turn = record { grown = omega arith; burnt = omega arith; answered = omega arith; local = tt; halted = record { kind = refl; judged = refl; beside = record { side = tt; birth = tt } } } },
                          (
                            record { away = refl; turn = record { calls = refl; fuel = refl; halted = record { side = omega arith; birth = tt } } },
                            tt,
                          ),
                        ),
                      ),
                    ),
                  ),
                ),
              ),
            ),
          ),
        ),
      ),
    ),
  ),
)

-- A WAIT THAT ENDED OTHERWISE, by a message or by an end, leaves no deadline.

abbrev pub woken_early : List Entry
woken_early =
    take_by 0 1
    ∷ asks SideIs.Nothing 0 1 [] 5 (spawn_linked 0)
    ∷ take_by 0 2
    ∷ asks (SideIs.Clock 5) 0 2 [] 3 (receive_any 50)
    ∷ take_by 0 1
    ∷ asks SideIs.Nothing 0 1 (silent (create_data 4) ∷ []) 9 (send 2)
    ∷ []

abbrev w_woken : World
w_woken = world_after births_to_three woken_early

woken : (w_woken.ready ≡ 2 ∷ 1 ∷ [])
    × ((w_woken.process 2).deadline ≡ None)
    × (results w_woken 2 ≡ Some 0 ∷ [])
unfolding known_row_of all_rows
woken = (refl, refl, refl)

woken_tick : Allowed None births_to_three w_woken (EntryIs.Tick 0 99) → ⊥
unfolding known_row_of all_rows
woken_tick allowed = let h : 0 < 0 = allowed.1 in omega arith

abbrev pub killed_asleep : List Entry
killed_asleep =
    woken_early
    ++ take_by 0 2
    ∷ asks (SideIs.Clock 5) 0 2 [] 6 (sleep_ms 9)
    ∷ take_by 0 1
    ∷ asks SideIs.Nothing 0 1 [] 12 (kill 2)
    ∷ take_by 0 1
    ∷ asks (SideIs.Clock 5) 0 1 [] 15 (receive_any minus_one)
    ∷ []

abbrev w_killed : World
w_killed = world_after births_to_three killed_asleep

killed : (w_killed.exits ≡ exit 2 EndIs.Killed ∷ [])
    × ((w_killed.process 2).deadline ≡ None)
    × (w_killed.ready ≡ [])
unfolding known_row_of all_rows
killed = (refl, refl, refl)

killed_tick : Allowed None births_to_three w_killed (EntryIs.Tick 0 99) → ⊥
unfolding known_row_of all_rows
killed_tick allowed = let h : 0 < 0 = allowed.1 in omega arith

killed_stuck : (is_away (w_killed.process 1).stage ≡ false)
    × (is_away (w_killed.process 2).stage ≡ false)
    × (w_killed.numbers_drawn ≡ 2)
    × (timed_processes w_killed ≡ [])
unfolding known_row_of all_rows
killed_stuck = (refl, refl, refl, refl)

abbrev pub killed_all : List Entry
killed_all =
    killed_asleep
    ++ EntryIs.Stall 0
    ∷ []

abbrev w_killed_end : World
w_killed_end = world_after births_to_three killed_all

killed_end : (w_killed_end.exits ≡ exit 2 EndIs.Killed ∷ exit 1 EndIs.Stalled ∷ [])
    × (w_killed_end.sends ≡ 1)
unfolding known_row_of all_rows
killed_end = (refl, refl)

killed_allowed : AllAllowed None births_to_three (first_world births_to_three) killed_asleep
unfolding known_row_of all_rows
killed_allowed = (
  (refl, refl),
  (
    record { away = refl; turn = record { grown = omega arith; burnt = omega arith; answered = omega arith; local = tt; halted = record { kind = refl; judged = refl; beside = record { side = tt; birth = record { beside = refl; place = tt; number = omega arith; child = record { pid = refl; «module» = refl; entry = refl; params = record { spelled = refl; values = All-nil (λ (param : TypedValue). IsValueOf param.num param.value) }; limits = refl }; starts = tt } } } } },
    (
      (refl, refl),
      (
        record { away = refl; turn = record { grown = omega arith; burnt = omega arith; answered = omega arith; local = tt; halted = record { kind = refl; judged = refl; beside = record { side = tt; birth = tt } } } },
        (
          (refl, refl),
          (
            record { away = refl; turn = record { grown = omega arith; burnt = omega arith; answered = omega arith; local = (refl, tt); halted = record { kind = refl; judged = refl; beside = record { side = tt; birth = tt } } } },
            (
              (refl, refl),
              (
                record { away = refl; turn = record { grown = omega arith; burnt = omega arith; answered = omega arith; local = tt; halted = record { kind = refl; judged = refl; beside = record { side = tt; birth = tt } } } },
                (
                  (refl, refl),
                  (
                    record { away = refl; turn = record { grown = omega arith; burnt = omega arith; answered = omega arith; local = tt; halted = record { kind = refl; judged = refl; beside = record { side = tt; birth = tt } } } },
                    (
                      (refl, refl),
                      (
                        record { away = refl; turn = record { grown = omega arith; burnt = omega arith; answered = omega arith; local = tt; halted = record { kind = refl; judged = refl; beside = record { side = tt; birth = tt } } } },
                        tt,
                      ),
                    ),
                  ),
                ),
              ),
            ),
          ),
        ),
      ),
    ),
  ),
)

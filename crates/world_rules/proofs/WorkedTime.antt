use Rattle.std.specs.Prelude.{◌≡◌, ℕ, ◌≤◌, ◌<◌, List, [], ◌∷◌, ◌++◌, Option, Some, None, true, false, nat_eq, refl}
use native.Mathlib.Omega.{arith}
use Rattle.host_port.specs.HostTable.{known_row_of, all_rows}
use Rattle.world_rules.specs.declared.entry.Entry.{Entry}
use Rattle.world_rules.specs.declared.entry.Entry.TheVariants as EntryIs
use Rattle.world_rules.specs.declared.entry.Side.TheVariants as SideIs
use Rattle.world_rules.specs.declared.halt.Halt.TheVariants as HaltIs
use Rattle.world_rules.specs.declared.halt.End.{End}
use Rattle.world_rules.specs.declared.halt.End.TheVariants as EndIs
use Rattle.world_rules.specs.declared.life.Birth.{Birth}
use Rattle.world_rules.specs.World.{World, Exit, Waiting, is_away}
use Rattle.world_rules.specs.Births.{Terms}
use Rattle.world_rules.specs.Allowed.{Allowed}
use Rattle.world_rules.proofs.Worked.{born_of, start_of, minus_one, sleep_ms, receive_any, connect, read_stream, turn_beside, take_by, world_after, results}

abbrev births : List Birth
births = born_of 1 ∷ []

-- the idle limit is 3, and nobody else may live
abbrev terms : Terms
terms = record { first = start_of 1; live = 1; idle = 3; can_start = λ _. true }

abbrev exit : ℕ → End → Exit
exit pid end = record { pid = pid; end = end }

-- A STALL. Process 1 waits in receive without end, and nothing is ready: all that are live end Stalled, and the run is over.

abbrev w_waiting : World
w_waiting = world_after births (turn_beside (SideIs.Clock 5) 1 [] 4 (receive_any minus_one))

waits : ((w_waiting.process 1).stage ≡ Waiting (receive_any minus_one)) × (w_waiting.ready ≡ []) × (w_waiting.time ≡ 5)
unfolding known_row_of all_rows
waits = (refl, refl, refl)

abbrev w_stalled : World
w_stalled = world_after births (turn_beside (SideIs.Clock 5) 1 [] 4 (receive_any minus_one) ++ EntryIs.Stall 0 ∷ [])

stalls : (w_stalled.exits ≡ exit 1 EndIs.Stalled ∷ []) × (w_stalled.over ≡ true) × (w_stalled.ready ≡ []) × (results w_stalled 1 ≡ [])
unfolding known_row_of all_rows
stalls = (refl, refl, refl, refl)

nobody_away : (pid : ℕ) → is_away (w_waiting.process pid).stage ≡ false
unfolding known_row_of all_rows
nobody_away pid =
    elim (nat_eq pid 1) as (λ b. nat_eq pid 1 ≡ b → is_away (w_waiting.process pid).stage ≡ false) [
      | true ↦ λ e. simp e refl
      | false ↦ λ e. simp e refl
    ] refl

stall_allowed : Allowed None births w_waiting (EntryIs.Stall 0)
unfolding known_row_of all_rows
stall_allowed = (refl, record { ready = refl; away = nobody_away; timed = refl })

-- a Take isn't allowed when nobody is ready, nor a Tick when nobody waits with a deadline
no_take : Allowed None births w_waiting (EntryIs.Take 0 1) → ⊥
unfolding known_row_of all_rows
no_take allowed = let h : ◌≡◌ {A = Option ℕ} None (Some 1) = allowed.1 in cc

no_tick : Allowed None births w_waiting (EntryIs.Tick 0 9) → ⊥
unfolding known_row_of all_rows
no_tick allowed = let h : 0 < 0 = allowed.1 in omega arith

-- nothing is allowed after the run is over, where nobody is out
nothing_after : (Allowed None births w_stalled (EntryIs.Take 0 1) → ⊥) × (Allowed None births w_stalled (EntryIs.Starve 0) → ⊥)
unfolding known_row_of all_rows
nothing_after = (λ allowed. let h : true ≡ false = allowed.0 in cc, λ allowed. let h : true ≡ false = allowed.0 in cc)

-- A SLEEP. 5 milliseconds from time 100 end at 105: a Tick of 104 is early, one of 105 ends it. Meanwhile the run can't stall.

abbrev asleep : List Entry
asleep = turn_beside (SideIs.Clock 100) 1 [] 1 (sleep_ms 5)

abbrev w_asleep : World
w_asleep = world_after births asleep

sleeps : ((w_asleep.process 1).deadline ≡ Some 105) × (w_asleep.ready ≡ []) × (w_asleep.row ≡ 0)
unfolding known_row_of all_rows
sleeps = (refl, refl, refl)

no_stall : Allowed None births w_asleep (EntryIs.Stall 0) → ⊥
unfolding known_row_of all_rows
no_stall allowed = let h : ◌≡◌ {A = List ℕ} (1 ∷ []) [] = allowed.1.timed in cc

abbrev w_early : World
w_early = world_after births (asleep ++ EntryIs.Tick 0 104 ∷ [])

early : (w_early.ready ≡ []) × (w_early.time ≡ 104) × (w_early.row ≡ 1)
unfolding known_row_of all_rows
early = (refl, refl, refl)

abbrev w_awake : World
w_awake = world_after births (asleep ++ EntryIs.Tick 0 104 ∷ EntryIs.Tick 0 105 ∷ [])

awake : (w_awake.ready ≡ 1 ∷ []) × (w_awake.row ≡ 0) × (results w_awake 1 ≡ None ∷ []) × ((w_awake.process 1).deadline ≡ None)
unfolding known_row_of all_rows
awake = (refl, refl, refl, refl)

-- a receive whose deadline comes is answered 9027; a time that goes back sets nothing
abbrev w_late : World
w_late = world_after births (turn_beside (SideIs.Clock 100) 1 [] 1 (receive_any 7) ++ EntryIs.Tick 0 50 ∷ EntryIs.Tick 0 107 ∷ [])

late : (results w_late 1 ≡ Some 9027 ∷ []) × (w_late.time ≡ 107) × ((w_late.process 1).part.scratch ≡ None)
unfolding known_row_of all_rows
late = (refl, refl, refl)

-- IDLENESS. A process reads a stream that is never ready. With the limit 3, Idle follows the third Pending give, and not the second.

abbrev read_twice : List Entry
read_twice =
    turn_beside SideIs.Opened 1 [] 1 connect
    ++ turn_beside SideIs.Pending 1 [] 2 (read_stream 0)
    ++ EntryIs.Take 0 1 ∷ EntryIs.Give 0 1 [] 2 HaltIs.Again SideIs.Pending ∷ []

abbrev read_thrice : List Entry
read_thrice = read_twice ++ EntryIs.Take 0 1 ∷ EntryIs.Give 0 1 [] 2 HaltIs.Again SideIs.Pending ∷ []

abbrev w_twice : World
w_twice = world_after births read_twice

abbrev w_thrice : World
w_thrice = world_after births read_thrice

owes : ((w_twice.process 1).owed ≡ Some (read_stream 0)) × (w_twice.ready ≡ 1 ∷ []) × (w_twice.row ≡ 2) × ((w_twice.process 1).gives ≡ 2)
unfolding known_row_of all_rows
owes = (refl, refl, refl, refl)

not_idle_yet : Allowed (Some terms) births w_twice (EntryIs.Idle 0) → ⊥
unfolding known_row_of all_rows
not_idle_yet allowed = let h : 3 ≤ 2 = allowed.1 in omega arith

idle_now : Allowed (Some terms) births w_thrice (EntryIs.Idle 0)
unfolding known_row_of all_rows
idle_now = (refl, omega arith)

abbrev w_idle : World
w_idle = world_after births (read_thrice ++ EntryIs.Idle 0 ∷ [])

idles : (w_idle.exits ≡ exit 1 EndIs.Idle ∷ []) × (w_idle.over ≡ true) × (w_idle.closed ≡ 0 ∷ []) × ((w_idle.streamed 0).waits ≡ 3)
unfolding known_row_of all_rows
idles = (refl, refl, refl, refl)

-- two workers can't have a process at once
no_second_take : Allowed None births (world_after births (take_by 0 1 ∷ [])) (EntryIs.Take 1 1) → ⊥
unfolding known_row_of all_rows
no_second_take allowed = let h : ◌≡◌ {A = Option ℕ} None (Some 1) = allowed.1 in cc

use Rattle.std.specs.Prelude.{◌≡◌, ℕ, List, [], ◌∷◌, ◌++◌, Some, None, refl}
use Rattle.wasm_ops.specs.declared.trap.Trap.TheVariants as TrapIs
use Rattle.host_port.specs.HostTable.{known_row_of, all_rows}
use Rattle.world_rules.specs.declared.entry.Entry.{Entry}
use Rattle.world_rules.specs.declared.entry.Side.TheVariants as SideIs
use Rattle.world_rules.specs.declared.halt.Halt.TheVariants as HaltIs
use Rattle.world_rules.specs.declared.halt.End.{End}
use Rattle.world_rules.specs.declared.halt.End.TheVariants as EndIs
use Rattle.world_rules.specs.declared.life.Birth.{Birth}
use Rattle.world_rules.specs.Mail.{Signal}
use Rattle.world_rules.specs.World.{World, Exit, link_between}
use Rattle.world_rules.proofs.Worked.{born_of, minus_one, spawn_linked, link, die_when_link_dies, sleep_ms, receive_any, kill, turn, turn_beside, turn_ends, world_after, results}

-- THE RING. Processes 2, 3 and 4 are linked in a ring and live; 2 traps unreachable. The lines are those of 2, 3 and 4 (linked), in
-- this order. Had 4 called die_when_link_dies(0), 4 lives and its mailbox gets two signals, the tag of its link with 2 first, then
-- that with 3.

abbrev births : List Birth
births = born_of 1 ∷ born_of 2 ∷ born_of 3 ∷ born_of 4 ∷ []

-- a sleep of 0 milliseconds is answered at once, and the process goes to the back of the list
abbrev naps : ℕ → ℕ → List Entry
naps pid fuel = turn_beside (SideIs.Clock 0) pid [] fuel (sleep_ms 0)

abbrev ring : List Entry
ring =
    turn 1 [] 1 (spawn_linked 0)
    ++ naps 2 1
    ++ turn 1 [] 2 (spawn_linked 0)
    ++ turn 2 [] 2 (link 23 3)
    ++ naps 3 1
    ++ turn 1 [] 3 (spawn_linked 0)
    ++ naps 2 3
    ++ turn 3 [] 2 (link 34 4)
    ++ turn 4 [] 1 (link 42 2)
    ++ turn_beside (SideIs.Clock 0) 1 [] 4 (receive_any minus_one)

abbrev w_ring : World
w_ring = world_after births ring

linked_both_ways : (link_between w_ring 3 2 ≡ Some 23) × (link_between w_ring 3 4 ≡ Some 34) × (link_between w_ring 2 4 ≡ Some 42)
unfolding known_row_of all_rows
linked_both_ways = (refl, refl, refl)

ready_in_ring : w_ring.ready ≡ 2 ∷ 3 ∷ 4 ∷ []
unfolding known_row_of all_rows
ready_in_ring = refl

abbrev exit : ℕ → End → Exit
exit pid end = record { pid = pid; end = end }

abbrev w_fallen : World
w_fallen = world_after births (ring ++ turn_ends 2 4 (HaltIs.Trap TrapIs.Unreachable))

all_fall : w_fallen.exits ≡ exit 2 (EndIs.Trap TrapIs.Unreachable) ∷ exit 3 EndIs.Linked ∷ exit 4 EndIs.Linked ∷ []
unfolding known_row_of all_rows
all_fall = refl

only_the_first_waits : (w_fallen.ready ≡ []) × (link_between w_fallen 3 4 ≡ None) × ((w_fallen.process 1).mail ≡ [])
unfolding known_row_of all_rows
only_the_first_waits = (refl, refl, refl)

-- 4 asks for signals: it lives, and is told twice
abbrev told_ring : List Entry
told_ring = ring ++ naps 2 4 ++ naps 3 3 ++ turn 4 [] 2 (die_when_link_dies 0)

abbrev w_told : World
w_told = world_after births (told_ring ++ turn_ends 2 5 (HaltIs.Trap TrapIs.Unreachable))

two_fall : w_told.exits ≡ exit 2 (EndIs.Trap TrapIs.Unreachable) ∷ exit 3 EndIs.Linked ∷ []
unfolding known_row_of all_rows
two_fall = refl

two_signals : ((w_told.process 4).mail ≡ Signal 42 ∷ Signal 34 ∷ []) × (w_told.ready ≡ 4 ∷ [])
unfolding known_row_of all_rows
two_signals = (refl, refl)

-- with the end Done nobody falls, and nobody is told
abbrev w_done : World
w_done = world_after births (told_ring ++ turn_ends 2 5 HaltIs.Done)

done_alone : (w_done.exits ≡ exit 2 EndIs.Done ∷ []) × ((w_done.process 4).mail ≡ []) × (w_done.ready ≡ 3 ∷ 4 ∷ [])
unfolding known_row_of all_rows
done_alone = (refl, refl, refl)

-- a caller that falls by its own kill ends Linked, behind its victim, and gets no reply
abbrev w_own_kill : World
w_own_kill = world_after births (ring ++ turn 2 [] 4 (kill 3))

killed_by_the_fallen : (w_own_kill.exits ≡ exit 3 EndIs.Killed ∷ exit 2 EndIs.Linked ∷ exit 4 EndIs.Linked ∷ [])
    × (results w_own_kill 2 ≡ None ∷ Some 0 ∷ None ∷ [])
unfolding known_row_of all_rows
killed_by_the_fallen = (refl, refl)

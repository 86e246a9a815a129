use Rattle.std.specs.Prelude.{◌≡◌, List, [], ◌∷◌, ◌++◌, Some, None, refl}
use Rattle.host_port.specs.HostTable.{known_row_of, all_rows}
use Rattle.world_rules.specs.declared.entry.Entry.{Entry}
use Rattle.world_rules.specs.declared.entry.Entry.TheVariants as EntryIs
use Rattle.world_rules.specs.declared.entry.Side.TheVariants as SideIs
use Rattle.world_rules.specs.declared.halt.Halt.TheVariants as HaltIs
use Rattle.world_rules.specs.declared.halt.End.TheVariants as EndIs
use Rattle.world_rules.specs.declared.life.Birth.{Birth}
use Rattle.world_rules.specs.Moves.{handled, Table, Closed}
use Rattle.world_rules.specs.World.{World, Doomed, Ended}
use Rattle.world_rules.proofs.Worked.{born_of, numbered, silent, create_data, push_stream, send, spawn_linked, kill, connect, turn, turn_beside, take_by, asks_by, world_after, results}

-- A KILL OF A PROCESS THAT IS OUT. Processes 1, 2 and 3; handle 0 is in process 2's table. Worker 0 takes 2, worker 1 takes 1.
-- Process 2 pushes 0 and asks send to 3; worker 1 gives 1's kill of 2; worker 0 gives 2. The send isn't performed, 3's mailbox is
-- empty, handle 0 is closed, 2's end is Killed.

abbrev births : List Birth
births = born_of 1 ∷ born_of 2 ∷ born_of 3 ∷ []

abbrev before : List Entry
before =
    turn 1 [] 1 (spawn_linked 0)
    ++ turn_beside SideIs.Opened 2 [] 1 connect
    ++ turn 1 [] 2 (spawn_linked 0)

abbrev w_before : World
w_before = world_after births before

-- the child waits behind nobody, and its parent behind it; then 2 and 3 are before 1
ready_before : w_before.ready ≡ 2 ∷ 3 ∷ 1 ∷ []
unfolding known_row_of all_rows
ready_before = refl

handle_before : ((w_before.process 2).part.handles ≡ 0 ∷ []) × ((handled w_before.moves).owner 0 ≡ Some (Table 2))
unfolding known_row_of all_rows
handle_before = (refl, refl)

abbrev killing : List Entry
killing =
    before
    ++ take_by 0 2 ∷ take_by 1 3 ∷ EntryIs.Give 1 3 [] 10000 HaltIs.Slice SideIs.Nothing ∷ take_by 1 1 ∷ asks_by 1 1 [] 3 (kill 2) ∷ []

abbrev w_killing : World
w_killing = world_after births killing

doomed_while_out : ((w_killing.process 2).stage ≡ Doomed 0 EndIs.Killed) × (w_killing.exits ≡ []) × (w_killing.closed ≡ [])
unfolding known_row_of all_rows
doomed_while_out = (refl, refl, refl)

killer_answered : (results w_killing 1 ≡ Some 0 ∷ Some 0 ∷ None ∷ []) × (w_killing.ready ≡ 3 ∷ 1 ∷ [])
unfolding known_row_of all_rows
killer_answered = (refl, refl)

abbrev w_killed : World
w_killed =
    world_after births
    (killing ++ asks_by 0 2 (silent (create_data 9) ∷ numbered (push_stream 0) 0 ∷ []) 4 (send 3) ∷ [])

ended_killed : (w_killed.exits ≡ record { pid = 2; end = EndIs.Killed } ∷ []) × ((w_killed.process 2).stage ≡ Ended EndIs.Killed)
unfolding known_row_of all_rows
ended_killed = (refl, refl)

not_sent : (w_killed.sends ≡ 0) × ((w_killed.process 3).mail ≡ []) × (results w_killed 2 ≡ Some 0 ∷ None ∷ Some 0 ∷ [])
unfolding known_row_of all_rows
not_sent = (refl, refl, refl)

handle_closed : (w_killed.closed ≡ 0 ∷ []) × ((handled w_killed.moves).owner 0 ≡ Some Closed) × ((handled w_killed.moves).closed ≡ 0 ∷ [])
unfolding known_row_of all_rows
handle_closed = (refl, refl, refl)

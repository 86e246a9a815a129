use Rattle.std.specs.Prelude.{◌≡◌, List, [], ◌∷◌, ◌++◌, Some, None, true, map, refl}
use Rattle.host_port.specs.declared.reply.Reply.{Reply}
use Rattle.host_port.specs.HostTable.{known_row_of, all_rows}
use Rattle.world_rules.specs.declared.entry.Entry.{Entry}
use Rattle.world_rules.specs.declared.entry.Side.TheVariants as SideIs
use Rattle.world_rules.specs.declared.halt.Halt.TheVariants as HaltIs
use Rattle.world_rules.specs.declared.halt.HostFault.TheVariants as FaultIs
use Rattle.world_rules.specs.declared.life.Birth.{Birth}
use Rattle.world_rules.specs.Part.{slots_of}
use Rattle.world_rules.specs.Judge.{judge, Faulty}
use Rattle.world_rules.specs.Moves.{handled, Table, Scratch as InScratch, Closed}
use Rattle.world_rules.specs.World.{World}
use Rattle.world_rules.proofs.Worked.{born_of, start_of, numbered, silent, minus_one, create_data, push_stream, take_stream, send, receive_any, connect, read_stream, spawn_linked, sleep_ms, turn, turn_beside, turn_ends, world_after, results}

-- A STREAM IS HANDED OVER. Handle 0 is pushed and sent to an ended process: send answers 1; a take of place 0 gives 0; a second take of
-- place 0 ends the process EmptyPlace.

abbrev sent_to_nobody : List Entry
sent_to_nobody =
    turn_beside SideIs.Opened 1 [] 1 connect
    ++ turn 1 (silent (create_data 5) ∷ numbered (push_stream 0) 0 ∷ []) 2 (send 9)
    ++ turn_beside (SideIs.Clock 0) 1 (numbered (take_stream 0) 0 ∷ []) 3 (sleep_ms 0)

abbrev births : List Birth
births = born_of 1 ∷ born_of 2 ∷ []

abbrev w_back : World
w_back = world_after births sent_to_nobody

taken_back : (results w_back 1 ≡ Some 0 ∷ None ∷ Some 0 ∷ Some 1 ∷ Some 0 ∷ None ∷ []) × ((w_back.process 1).part.handles ≡ 0 ∷ [])
unfolding known_row_of all_rows
taken_back = (refl, refl)

place_empty : (slots_of (w_back.process 1).part.scratch ≡ None ∷ []) × ((handled w_back.moves).owner 0 ≡ Some (Table 1))
unfolding known_row_of all_rows
place_empty = (refl, refl)

second_take : judge (start_of 1) (w_back.process 1).part (take_stream 0) ≡ Faulty FaultIs.EmptyPlace
unfolding known_row_of all_rows
second_take = refl

-- a number that another's table holds can't be pushed, and without a message nothing can
not_own : judge (start_of 1) (w_back.process 1).part (push_stream 1) ≡ Faulty FaultIs.NoSuchHandle
unfolding known_row_of all_rows
not_own = refl

no_message : judge (start_of 2) (w_back.process 2).part (push_stream 0) ≡ Faulty FaultIs.NoMessage
unfolding known_row_of all_rows
no_message = refl

-- Process 1 sends the stream to its child, which waits; the child takes it, reads `hi`, and hands it back; then the child ends, and
-- then process 1, which holds the stream again in its scratch message.

abbrev to_child : List Entry
to_child =
    turn 1 [] 1 (spawn_linked 0)
    ++ turn_beside (SideIs.Clock 0) 2 [] 1 (receive_any minus_one)
    ++ turn_beside SideIs.Opened 1 [] 2 connect
    ++ turn 1 (silent (create_data 5) ∷ numbered (push_stream 0) 0 ∷ []) 3 (send 2)

abbrev w_child : World
w_child = world_after births to_child

child_has_it : (slots_of (w_child.process 2).part.scratch ≡ Some 0 ∷ []) × ((handled w_child.moves).owner 0 ≡ Some (InScratch 2 0))
unfolding known_row_of all_rows
child_has_it = (refl, refl)

delivered_at_once : (results w_child 2 ≡ Some 0 ∷ []) × (w_child.ready ≡ 2 ∷ 1 ∷ []) × ((w_child.process 1).part.scratch ≡ None)
unfolding known_row_of all_rows
delivered_at_once = (refl, refl, refl)

-- a read of two bytes: `hi`
abbrev two_bytes : Reply
two_bytes = record {
  result = Some 0;
  word = Some (record { addr = 400; width = 4; value = 2 });
  text = Some (record { addr = 300; bytes = 104 ∷ 105 ∷ [] });
}

abbrev back_again : List Entry
back_again =
    to_child
    ++ turn_beside (SideIs.Answer two_bytes) 2 (numbered (take_stream 0) 0 ∷ []) 2 (read_stream 0)
    ++ turn_beside (SideIs.Clock 0) 1 [] 4 (receive_any minus_one)
    ++ turn 2 (silent (create_data 6) ∷ numbered (push_stream 0) 0 ∷ []) 3 (send 1)

abbrev w_again : World
w_again = world_after births back_again

first_has_it : (slots_of (w_again.process 1).part.scratch ≡ Some 0 ∷ []) × ((handled w_again.moves).owner 0 ≡ Some (InScratch 1 0))
unfolding known_row_of all_rows
first_has_it = (refl, refl)

read_by_child : ((w_again.streamed 0).taken ≡ 104 ∷ 105 ∷ []) × (w_again.closed ≡ []) × (w_again.sends ≡ 2)
unfolding known_row_of all_rows
read_by_child = (refl, refl, refl)

abbrev w_end : World
w_end = world_after births (back_again ++ turn_ends 1 5 HaltIs.Done)

closed_at_the_end : (w_end.closed ≡ 0 ∷ []) × ((handled w_end.moves).closed ≡ 0 ∷ []) × ((handled w_end.moves).owner 0 ≡ Some Closed)
unfolding known_row_of all_rows
closed_at_the_end = (refl, refl, refl)

both_ended : (map (λ exit. exit.pid) w_end.exits ≡ 1 ∷ 2 ∷ []) × (w_end.over ≡ true) × (w_end.ready ≡ [])
unfolding known_row_of all_rows
both_ended = (refl, refl, refl)

use Rattle.std.specs.Prelude.{◌≡◌, ℕ, List, [], ◌∷◌, ◌++◌, Some, None, true, false, map, replicate, option_map, refl}
use Rattle.host_port.specs.HostTable.{known_row_of, all_rows}
use Rattle.world_rules.specs.declared.entry.Entry.{Entry}
use Rattle.world_rules.specs.declared.entry.Side.TheVariants as SideIs
use Rattle.world_rules.specs.Answers.{number_reply}
use Rattle.world_rules.specs.Part.{Scratch, blank_message}
use Rattle.world_rules.specs.Mail.{Letter, Signal, tag_of}
use Rattle.world_rules.specs.Arrivals.{Arrival}
use Rattle.world_rules.specs.Arrivals as Came
use Rattle.world_rules.specs.Receive.{send_answer}
use Rattle.world_rules.specs.World.{World, Process, Ready, fresh_process, no_start}
use Rattle.world_rules.proofs.Worked.{born_of, numbered, silent, minus_one, create_data, plain, send, receive_any, receive_tag, turn, turn_beside, world_after, results}

-- MESSAGES BY TAG. A process sends itself messages with the tags 5, 7 and 6, in this order. A receive of tag 7, without a limit,
-- gives 0; then a receive of anything gives 0, and has tag 5; a receive of tag 7 with 0 milliseconds gives 9027, and the scratch
-- message is still that of tag 5.

abbrev three_sent : List Entry
three_sent =
    turn 1 (silent (create_data 5) ∷ []) 5 (send 1)
    ++ turn 1 (silent (create_data 7) ∷ []) 10 (send 1)
    ++ turn 1 (silent (create_data 6) ∷ []) 15 (send 1)

abbrev w_sent : World
w_sent = world_after (born_of 1 ∷ []) three_sent

three_answered : results w_sent 1 ≡ None ∷ Some 0 ∷ None ∷ Some 0 ∷ None ∷ Some 0 ∷ []
unfolding known_row_of all_rows
three_answered = refl

three_lie_there : map tag_of (w_sent.process 1).mail ≡ 5 ∷ 7 ∷ 6 ∷ []
unfolding known_row_of all_rows
three_lie_there = refl

abbrev w_received : World
w_received =
    world_after (born_of 1 ∷ [])
    (three_sent ++ turn_beside (SideIs.Clock 10) 1 [] 20 (receive_tag 7 minus_one)
    ++ turn_beside (SideIs.Clock 9) 1 (numbered (plain 5 []) 7 ∷ []) 25 (receive_any minus_one)
    ++ turn_beside (SideIs.Clock 12) 1 (numbered (plain 5 []) 5 ∷ []) 30 (receive_tag 7 0))

receives_answered : results w_received 1 ≡ None ∷ Some 0 ∷ None ∷ Some 0 ∷ None ∷ Some 0 ∷ Some 0 ∷ Some 7 ∷ Some 0 ∷ Some 5 ∷ Some 9027 ∷ []
unfolding known_row_of all_rows
receives_answered = refl

-- what stands after it: the message of tag 6 in the mailbox, that of tag 5 in the scratch area, and process 1 ready, at time 12
one_left : map tag_of (w_received.process 1).mail ≡ 6 ∷ []
unfolding known_row_of all_rows
one_left = refl

still_five : option_map (λ (s : Scratch). s.message.tag) (w_received.process 1).part.scratch ≡ Some 5
unfolding known_row_of all_rows
still_five = refl

ready_at_twelve : (w_received.ready ≡ 1 ∷ []) × (w_received.time ≡ 12) × (w_received.sends ≡ 3)
unfolding known_row_of all_rows
ready_at_twelve = (refl, refl, refl)

abbrev came : ℕ → Came.What → Arrival
came turns what = record { turns = turns; what = what }

arrived_in_order : (w_received.process 1).arrivals
    ≡ came 1 (Came.Answered (number_reply 0)) ∷ came 2 (Came.Answered (number_reply 0)) ∷ came 3 (Came.Answered (number_reply 0))
    ∷ came 4 (Came.Delivered 7 [] []) ∷ came 5 (Came.Delivered 5 [] []) ∷ came 6 (Came.Answered (number_reply 9027)) ∷ []
unfolding known_row_of all_rows
arrived_in_order = refl

-- A FULL MAILBOX. With 1,024 messages a send is answered 2, also where memory is refused; signals don't count; with one message
-- fewer it is answered 0, or 12 where memory is refused; to nobody 1.

abbrev with_messages : ℕ → Process
with_messages n = record (fresh_process no_start Ready) { mail = Signal 1 ∷ replicate n (Letter 0 (blank_message 0)) }

full_is_two : (send_answer (with_messages 1024) false ≡ 2) × (send_answer (with_messages 1024) true ≡ 2)
unfolding known_row_of all_rows
full_is_two = (refl, refl)

one_place_left : (send_answer (with_messages 1023) false ≡ 0) × (send_answer (with_messages 1023) true ≡ 12)
unfolding known_row_of all_rows
one_place_left = (refl, refl)

nobody_is_one : (send_answer (w_sent.process 2) false ≡ 1) × (send_answer (w_sent.process 2) true ≡ 1)
unfolding known_row_of all_rows
nobody_is_one = (refl, refl)

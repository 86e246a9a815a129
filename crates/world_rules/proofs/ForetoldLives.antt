use Rattle.std.specs.Prelude.{◌≡◌, ℕ, ◌<◌, List, [], ◌∷◌, ◌++◌, Some, None, true, false, replicate, refl}
use native.Mathlib.Omega.{arith}
use Rattle.std.proofs.Common.{inl}
use Rattle.host_port.specs.declared.request.Request.{Request}
use Rattle.host_port.specs.declared.reply.Reply.{Reply}
use Rattle.host_port.specs.HostTable.{known_row_of, all_rows}
use Rattle.world_rules.specs.declared.entry.Entry.{Entry}
use Rattle.world_rules.specs.declared.entry.Entry.TheVariants as EntryIs
use Rattle.world_rules.specs.declared.entry.Side.TheVariants as SideIs
use Rattle.world_rules.specs.declared.halt.Halt.TheVariants as HaltIs
use Rattle.world_rules.specs.declared.halt.End.TheVariants as EndIs
use Rattle.world_rules.specs.Answers.{number_reply, written_reply, empty_reply}
use Rattle.world_rules.specs.Arrivals.{Arrival, What}
use Rattle.world_rules.specs.Arrivals as Came
use Rattle.world_rules.specs.Calls.{call_of}
use Rattle.world_rules.specs.Legal.{Rounds}
use Rattle.world_rules.specs.Life.{Stand, first_stand, Fits, ComesAsAnswer, ComesToProcess, end_by}
use Rattle.world_rules.specs.Part.{Part, no_part}
use Rattle.world_rules.specs.World.{World}
use Rattle.world_rules.proofs.Worked.{AreSame, start_of, silent, create_data, receive_any, spawn_linked, sleep_ms, take_by, world_after}
use Rattle.world_rules.proofs.ForetoldStreams.{births_to_three, frugal_births, asks, ends, book_of, accept, bind, fated_given, idle_all, letter_all, slots_back}
use Rattle.world_rules.proofs.ForetoldTime.{last_all, all_wait}
use Rattle.world_rules.proofs.ForetoldLimits.{stream_all}

-- What reaches a process by the journals of the second reader, the rounds of their workers, and what fits a life.

-- ARRIVALS. Tries of an owed request count as no turns; a stream that was opened for a doomed process doesn't arrive.

abbrev came : ℕ → What → Arrival
came turns what = record { turns = turns; what = what }

abbrev arrivals_of : World → ℕ → List Arrival
arrivals_of w pid = (w.process pid).arrivals

abbrev read_reply : ℕ → List ℕ → Reply
read_reply count bytes = record { result = Some 0; word = Some (record { addr = 400; width = 4; value = count }); text = Some (record { addr = 300; bytes = bytes }) }

abbrev write_reply : ℕ → Reply
write_reply count = record { result = Some 0; word = Some (record { addr = 400; width = 4; value = count }); text = None }

fated_arrivals : arrivals_of (world_after births_to_three fated_given) 2 ≡ came 1 (Came.Opened (written_reply 0 200 0)) ∷ came 2 (Came.Opened (written_reply 0 200 1)) ∷ came 3 (Came.Opened (written_reply 0 200 2)) ∷ came 4 (Came.Doomed EndIs.Killed) ∷ []
unfolding known_row_of all_rows
fated_arrivals = refl

idle_arrivals : arrivals_of (world_after frugal_births idle_all) 1 ≡ came 1 (Came.Answered (written_reply 0 16 0)) ∷ came 2 (Came.Doomed EndIs.Idle) ∷ []
unfolding known_row_of all_rows
idle_arrivals = refl

stream_arrivals : arrivals_of (world_after births_to_three stream_all) 1 ≡ came 1 (Came.Opened (written_reply 0 200 0)) ∷ came 2 (Came.Answered (read_reply 2 (97 ∷ 98 ∷ []))) ∷ came 3 (Came.Answered (number_reply 1)) ∷ came 4 (Came.Answered (read_reply 0 [])) ∷ came 5 (Came.Answered (read_reply 0 [])) ∷ came 6 (Came.Answered (write_reply 2)) ∷ came 7 (Came.Answered (write_reply 0)) ∷ came 8 (Came.Doomed EndIs.NoMemory) ∷ []
unfolding known_row_of all_rows
stream_arrivals = refl

starved_arrivals : arrivals_of (world_after births_to_three (all_wait ++ ends 1 2 (silent (create_data 4) ∷ []) 5 HaltIs.NoMemory ∷ [])) 2 ≡ came 0 (Came.Starved 1) ∷ came 1 (Came.Doomed EndIs.Killed) ∷ []
unfolding known_row_of all_rows
starved_arrivals = refl

slots_arrivals : arrivals_of (world_after births_to_three slots_back) 2 ≡ came 1 (Came.Delivered 5 [] (None ∷ Some 0 ∷ Some 1 ∷ [])) ∷ []
unfolding known_row_of all_rows
slots_arrivals = refl

late_arrivals : arrivals_of (world_after births_to_three last_all) 3 ≡ came 1 (Came.Answered (number_reply 9027)) ∷ came 2 (Came.Answered empty_reply) ∷ []
unfolding known_row_of all_rows
late_arrivals = refl

-- ROUNDS

letter_rounds : Rounds (book_of births_to_three letter_all [])
unfolding known_row_of all_rows Rounds
letter_rounds = (
  refl,
  (
    tt,
    (
      refl,
      (
        refl,
        (
          tt,
          (
            refl,
            (
              tt,
              (
                refl,
                (
                  tt,
                  (
                    refl,
                    (
                      tt,
                      (
                        refl,
                        (
                          tt,
                          (
                            refl,
                            (
                              tt,
                              (
                                refl,
                                (
                                  tt,
                                  (
                                    refl,
                                    (
                                      tt,
                                      (
                                        tt,
                                        tt,
                                      ),
                                    ),
                                  ),
                                ),
                              ),
                            ),
                          ),
                        ),
                      ),
                    ),
                  ),
                ),
              ),
            ),
          ),
        ),
      ),
    ),
  ),
)

last_rounds : Rounds (book_of births_to_three last_all [])
unfolding known_row_of all_rows Rounds
last_rounds = (
  refl,
  (
    tt,
    (
      refl,
      (
        tt,
        (
          refl,
          (
            tt,
            (
              refl,
              (
                tt,
                (
                  (refl, tt),
                  (
                    refl,
                    (
                      tt,
                      (
                        (refl, tt),
                        (
                          refl,
                          (
                            tt,
                            (
                              (refl, tt),
                              (
                                refl,
                                (
                                  tt,
                                  (
                                    refl,
                                    (
                                      tt,
                                      (
                                        tt,
                                        tt,
                                      ),
                                    ),
                                  ),
                                ),
                              ),
                            ),
                          ),
                        ),
                      ),
                    ),
                  ),
                ),
              ),
            ),
          ),
        ),
      ),
    ),
  ),
)

abbrev two_taken : List Entry
two_taken = take_by 0 1 ∷ asks SideIs.Nothing 0 1 [] 5 (spawn_linked 0) ∷ take_by 0 2 ∷ take_by 0 1 ∷ []

no_two_taken : Rounds (book_of births_to_three two_taken []) → ⊥
unfolding known_row_of all_rows Rounds
no_two_taken rounds = rounds.1.1.0

-- process 1 is ready when a Tick comes
abbrev tick_comes : List Entry
tick_comes =
    take_by 0 1 ∷ asks SideIs.Nothing 0 1 [] 5 (spawn_linked 0) ∷ take_by 0 2 ∷ asks (SideIs.Clock 0) 0 2 [] 3 (sleep_ms 10) ∷ EntryIs.Tick 0 5 ∷ []

nothing_more : Rounds (book_of births_to_three tick_comes [])
unfolding known_row_of all_rows Rounds
nothing_more = (refl, (tt, (refl, (tt, (tt, tt)))))

same_takes : Rounds (book_of births_to_three (tick_comes ++ take_by 0 1 ∷ []) [])
unfolding known_row_of all_rows Rounds
same_takes = (refl, (tt, (refl, (tt, ((refl, tt), (tt, tt))))))

same_idles : Rounds (book_of births_to_three (tick_comes ++ EntryIs.Idle 0 ∷ []) [])
unfolding known_row_of all_rows Rounds
same_idles = (refl, (tt, (refl, (tt, ((refl, tt), (tt, tt))))))

other_takes : Rounds (book_of births_to_three (tick_comes ++ take_by 1 1 ∷ []) []) → ⊥
unfolding known_row_of all_rows Rounds
other_takes rounds = let h : AreSame 1 0 = rounds.1.1.1.1.0.0 in omega arith

same_starves : Rounds (book_of births_to_three (tick_comes ++ EntryIs.Starve 0 ∷ []) []) → ⊥
unfolding known_row_of all_rows Rounds
same_starves rounds = rounds.1.1.1.1.0.1

-- WHAT FITS A LIFE

abbrev comes : Request → Part → Reply → Type 0
comes request part reply = ComesAsAnswer (call_of request) part reply

abbrev with_listeners : ℕ → Part
with_listeners n = record no_part { listeners = replicate n 5; next_listener = 20 }

receive_late : comes (receive_any 5) no_part (number_reply 9027)
unfolding known_row_of all_rows
receive_late = (refl, refl)

receive_comes : (comes (receive_any 5) no_part (number_reply 0) → ⊥) × (comes (receive_any 5) no_part (number_reply 1) → ⊥)
unfolding known_row_of all_rows
receive_comes = (λ c. let h : true ≡ false = c.0 in cc, λ c. let h : true ≡ false = c.1 in cc)

accept_comes : comes accept no_part (number_reply 2) × (comes accept no_part (written_reply 0 24 7) → ⊥)
unfolding known_row_of all_rows
accept_comes = (refl, λ c. let h : true ≡ false = c in cc)

bind_comes : comes bind (with_listeners 15) (written_reply 0 16 20)
unfolding known_row_of all_rows
bind_comes = λ zero. (refl, omega arith)

bind_other : (comes bind (with_listeners 15) (written_reply 0 16 3) → ⊥) × (comes bind (with_listeners 16) (written_reply 0 16 20) → ⊥)
unfolding known_row_of all_rows
bind_other = (λ c. let h : AreSame 3 20 = (c refl).0 in omega arith, λ c. let h : 16 < 16 = (c refl).1 in omega arith)

-- the life owes this request after three turns
abbrev owing : Request → Stand
owing request = record first_stand { owed = Some request; turns = 3 }

abbrev fits : Stand → What → Stand → Type 0
fits s what next = Fits (λ calls n. None) (start_of 1) s what next

accept_starves : fits (owing accept) (Came.Starved 0) (record (owing accept) { owed = None; starved = true })
unfolding known_row_of all_rows
accept_starves = inl (record { request = accept; owed = refl; outside = refl; none = refl; stands = refl })

doom_comes : fits (owing accept) (Came.Doomed EndIs.Closed) (record (owing accept) { owed = None; doom = Some EndIs.Closed })
unfolding known_row_of all_rows
doom_comes = record { first = refl; comes = tt; stands = refl }

done_comes : ComesToProcess EndIs.Done → ⊥
done_comes c = c

ends_first : (end_by (Some EndIs.Killed) true (Some EndIs.Done) ≡ Some EndIs.Killed)
    × (end_by None true (Some EndIs.Done) ≡ Some EndIs.NoMemory)
    × (end_by None false (Some EndIs.Done) ≡ Some EndIs.Done)
    × (end_by None false None ≡ None)
unfolding known_row_of all_rows
ends_first = (refl, refl, refl, refl)

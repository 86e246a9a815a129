use Rattle.std.specs.Prelude.{◌≡◌, ℕ, ◌+◌, ◌≤◌, ◌<◌, List, [], ◌∷◌, ◌++◌, Some, None, true, false, replicate, length, codes, refl}
use native.Mathlib.Omega.{arith}
use Rattle.std.specs.Fmt.{digits}
use Rattle.std.proofs.Common.{inl, inr}
use Rattle.std.proofs.lemmas.List.Elements.{All-nil}
use Rattle.std.proofs.Math.Logic.{∥∥₁_elim}
use Rattle.turn_rules.specs.Turn.{IsUsedUp}
use Rattle.wasm_ops.specs.declared.trap.Trap.TheVariants as TrapIs
use Rattle.host_port.specs.declared.call.Call.{Call}
use Rattle.host_port.specs.declared.request.Request.{Request}
use Rattle.host_port.specs.declared.reply.Reply.{Reply}
use Rattle.host_port.specs.declared.start.Start.{Start}
use Rattle.host_port.specs.TypedValue.{TypedValue}
use Rattle.spawn_config.specs.Spelling.{IsValueOf}
use Rattle.host_port.specs.HostTable.{known_row_of, all_rows}
use Rattle.world_rules.specs.declared.entry.Entry.{Entry}
use Rattle.world_rules.specs.declared.entry.Entry.TheVariants as EntryIs
use Rattle.world_rules.specs.declared.entry.Side.TheVariants as SideIs
use Rattle.world_rules.specs.declared.halt.Halt.TheVariants as HaltIs
use Rattle.world_rules.specs.declared.halt.HostFault.TheVariants as FaultIs
use Rattle.world_rules.specs.declared.halt.End.TheVariants as EndIs
use Rattle.world_rules.specs.declared.life.Birth.{Birth}
use Rattle.world_rules.specs.declared.life.Birth.TheVariants.{Born, Refused}
use Rattle.world_rules.specs.Part.{no_part, blank_message, unread}
use Rattle.world_rules.specs.Mail.{MailItem, Letter, Signal, message_count}
use Rattle.world_rules.specs.Moves.{handled}
use Rattle.world_rules.specs.World.{World, Process, Out, Waiting, Doomed, fresh_process, first_world, put, link_between, unended_count}
use Rattle.world_rules.specs.Judge.{Fit, Faulty}
use Rattle.world_rules.specs.Births.{Terms, BirthFits}
use Rattle.world_rules.specs.Told.{all_after, told}
use Rattle.world_rules.specs.Report.{report_text}
use Rattle.world_rules.specs.Allowed.{Allowed}
use Rattle.world_rules.proofs.Worked.{AreSame, born_of, start_of, request, plain, numbered, silent, minus_one, create_data, push_stream, send, receive_any, spawn_linked, kill, link, sleep_ms, connect, read_stream, turn, turn_beside, turn_ends, take_by, asks_by, world_after, results}
use Rattle.world_rules.proofs.Foretold.{births_to_four, exit, asks_beside, ends_by, at_clock, receive_one, scratch_tag, mail_tags, book_of, line}

-- More journals of the reader who wrote down what must come of them first.

-- SIXTH JOURNAL. The names of a process that is doomed, of one that is registered anew, and of one that kills itself.

abbrev put_name : List ℕ → ℕ → Request
put_name name pid = request 24 (0 ∷ 1 ∷ pid ∷ []) name []

-- the number is written at 80
abbrev get_name : List ℕ → Request
get_name name = request 25 (0 ∷ 1 ∷ 80 ∷ []) name []

abbrev sixth_doomed : List Entry
sixth_doomed =
    turn 1 [] 2 (spawn_linked 0)
    ++ take_by 0 2 ∷ take_by 1 1 ∷ asks_by 1 1 [] 3 (put_name (codes "a") 2)
    ∷ take_by 1 1 ∷ asks_by 1 1 [] 4 (put_name (codes "b") 2)
    ∷ take_by 1 1 ∷ asks_by 1 1 [] 5 (put_name (codes "c") 1)
    ∷ take_by 1 1 ∷ asks_by 1 1 [] 6 (kill 2) ∷ []

abbrev w6_doomed : World
w6_doomed = world_after births_to_four sixth_doomed

six_doomed : (w6_doomed.names (codes "a") ≡ None) × (w6_doomed.names (codes "b") ≡ None) × (w6_doomed.names (codes "c") ≡ Some 1)
    × ((w6_doomed.process 2).stage ≡ Doomed 0 EndIs.Killed) × (w6_doomed.ready ≡ 1 ∷ [])
unfolding known_row_of all_rows
six_doomed = (refl, refl, refl, refl, refl)

-- a name whose area doesn't lie in the memory is a fault, and isn't asked
abbrev nameless : Request
nameless = record (get_name (codes "a")) { fits = false; first = [] }

abbrev sixth_out : List Entry
sixth_out = sixth_doomed ++ take_by 1 1 ∷ []

six_nameless : (Allowed None births_to_four (world_after births_to_four sixth_out) (asks_by 1 1 [] 7 nameless) → ⊥)
    × Allowed None births_to_four (world_after births_to_four sixth_out) (ends_by 1 1 [] 7 (HaltIs.Host FaultIs.BadPointer nameless))
unfolding known_row_of all_rows
six_nameless = (
  λ allowed. let h : Faulty FaultIs.BadPointer ≡ Fit = allowed.turn.halted.judged in cc,
  record {
    away = refl;
    turn = record { grown = omega arith; burnt = omega arith; answered = omega arith; local = tt; halted = (refl, refl) };
  },
)

abbrev sixth_put : List Entry
sixth_put =
    sixth_out
    ++ asks_by 1 1 [] 7 (get_name (codes "a"))
    ∷ take_by 1 1 ∷ []

-- a name for a doomed process is answered 1, so memory isn't refused to it
six_no_refusal : Allowed None births_to_four (world_after births_to_four sixth_put)
    (asks_beside SideIs.NoMemory 1 1 [] 8 (put_name (codes "a") 2)) → ⊥
unfolding known_row_of all_rows
six_no_refusal allowed = let h : AreSame 1 0 = allowed.turn.halted.beside.side.lost in omega arith

abbrev sixth_anew : List Entry
sixth_anew = sixth_put ++ asks_by 1 1 [] 8 (put_name (codes "a") 2) ∷ take_by 1 1 ∷ []

-- to one for itself memory may be refused: 12, and no entry
abbrev w6_refused : World
w6_refused = world_after births_to_four (sixth_anew ++ asks_beside SideIs.NoMemory 1 1 [] 9 (put_name (codes "a") 1) ∷ [])

six_refused : (results w6_refused 1 ≡ Some 0 ∷ Some 0 ∷ Some 0 ∷ Some 0 ∷ None ∷ Some 1 ∷ Some 1 ∷ Some 12 ∷ [])
    × (w6_refused.names (codes "a") ≡ None) × (w6_refused.names (codes "c") ≡ Some 1)
unfolding known_row_of all_rows
six_refused = (refl, refl, refl)

six_refusal_may : Allowed None births_to_four (world_after births_to_four sixth_anew)
    (asks_beside SideIs.NoMemory 1 1 [] 9 (put_name (codes "a") 1))
unfolding known_row_of all_rows
six_refusal_may = record {
  away = refl;
  turn = record {
    grown = omega arith;
    burnt = omega arith;
    answered = omega arith;
    local = tt;
    halted = record {
      kind = refl;
      judged = refl;
      beside = record { side = record { refusable = refl; performed = refl; lost = refl }; birth = tt };
    };
  };
}

-- the doomed process's put isn't performed, and its end takes no name from another
abbrev pub sixth_given : List Entry
sixth_given =
    sixth_anew ++ asks_by 1 1 [] 9 (put_name (codes "a") 1) ∷ asks_by 0 2 [] 3 (put_name (codes "c") 2)
    ∷ take_by 1 1 ∷ asks_by 1 1 [] 10 (get_name (codes "c")) ∷ []

abbrev w6_given : World
w6_given = world_after births_to_four sixth_given

six_given : (w6_given.names (codes "a") ≡ Some 1) × (w6_given.names (codes "c") ≡ Some 1) × (w6_given.exits ≡ exit 2 EndIs.Killed ∷ [])
    × (results w6_given 1
    ≡ Some 0 ∷ Some 0 ∷ Some 0 ∷ Some 0 ∷ None ∷ Some 1 ∷ Some 1 ∷ Some 0 ∷ Some 0 ∷ [])
    × (results w6_given 2 ≡ [])
unfolding known_row_of all_rows
six_given = (refl, refl, refl, refl, refl)

-- process 1 kills itself: it gets no reply, and its names go
abbrev w6_end : World
w6_end = world_after births_to_four (sixth_given ++ turn 1 [] 11 (kill 1))

six_end : (w6_end.exits ≡ exit 2 EndIs.Killed ∷ exit 1 EndIs.Killed ∷ []) × (w6_end.names (codes "a") ≡ None)
    × (w6_end.names (codes "c") ≡ None) × (w6_end.over ≡ true) × (w6_end.ready ≡ [])
    × (length (w6_end.process 1).calls ≡ 9)
unfolding known_row_of all_rows
six_end = (refl, refl, refl, refl, refl, refl)

-- SEVENTH JOURNAL. Spawns that are refused, with the live limit 3; a doomed process hasn't ended; a config's limits.

abbrev seventh_terms : Terms
seventh_terms = record { first = start_of 1; live = 3; idle = 3; can_start = λ _. true }

abbrev small_start : ℕ → Start
small_start pid = record (start_of pid) { limits = record { pages = 2; fuel = 500; traffic = 67108864 } }

abbrev pub seventh_births : List Birth
seventh_births =
    born_of 1 ∷ Born (small_start 2) ∷ Born (small_start 3) ∷ Refused 2 ∷ Refused 2 ∷ Refused 1 ∷ Refused 12 ∷ Born (small_start 4) ∷ []

-- with this link and this config
abbrev spawn_by : (tag config «module» : ℕ) → Request
spawn_by tag config «module» = request 12 (tag ∷ config ∷ «module» ∷ 0 ∷ 6 ∷ 0 ∷ 0 ∷ 100 ∷ []) (codes "_start") []

abbrev seventh_two : List Entry
seventh_two =
    turn 1
    (numbered (plain 18 []) 0 ∷ silent (plain 20 (0 ∷ 2 ∷ [])) ∷ silent (plain 21 (0 ∷ 500 ∷ [])) ∷ [])
    8 (spawn_by 9 0 0)
    ++ turn 2 [] 2 (spawn_linked 0)
    ++ take_by 0 1 ∷ []

abbrev w7_two : World
w7_two = world_after seventh_births seventh_two

seven_two : (w7_two.ready ≡ 3 ∷ 2 ∷ []) × (w7_two.numbers_drawn ≡ 3) × (link_between w7_two 2 1 ≡ Some 9)
    × (link_between w7_two 3 2 ≡ None) × ((w7_two.process 3).start ≡ small_start 3) × (unended_count w7_two ≡ 3)
unfolding known_row_of all_rows
seven_two = (refl, refl, refl, refl, refl, refl)

-- the config's limits, and no others
seven_child_may : Allowed (Some seventh_terms) seventh_births (world_after seventh_births (take_by 0 1 ∷ []))
    (asks_by 0 1 (numbered (plain 18 []) 0 ∷ silent (plain 20 (0 ∷ 2 ∷ [])) ∷ silent (plain 21 (0 ∷ 500 ∷ [])) ∷ []) 8 (spawn_by 9 0 0))
unfolding known_row_of all_rows
seven_child_may = record {
  away = refl;
  turn = record {
    grown = omega arith;
    burnt = omega arith;
    answered = omega arith;
    local = (refl, (refl, (refl, tt)));
    halted = record {
      kind = refl;
      judged = refl;
      beside = record {
        side = tt;
        birth = record {
          beside = refl;
          place = omega arith;
          number = omega arith;
          child = record { pid = refl; «module» = refl; entry = refl; params = record { spelled = refl; values = All-nil (λ (param : TypedValue). IsValueOf param.num param.value) }; limits = refl };
          starts = refl;
        };
      };
    };
  };
}

-- three haven't ended: 2, and memory isn't refused in the place of 2
seven_crowded_may : Allowed (Some seventh_terms) seventh_births w7_two (asks_by 0 1 [] 9 (spawn_linked 0))
unfolding known_row_of all_rows
seven_crowded_may = record {
  away = refl;
  turn = record {
    grown = omega arith;
    burnt = omega arith;
    answered = omega arith;
    local = tt;
    halted = record {
      kind = refl;
      judged = refl;
      beside = record { side = tt; birth = inl (record { answer = refl; beside = refl; crowded = omega arith }) };
    };
  };
}

abbrev starved_births : List Birth
starved_births = born_of 1 ∷ Born (small_start 2) ∷ Born (small_start 3) ∷ Refused 12 ∷ []

no_twelve : {parent : Process} → BirthFits (Some seventh_terms) w7_two parent (spawn_linked 0) SideIs.NoMemory (Some (Refused 12)) → ⊥
unfolding known_row_of all_rows
no_twelve (inl refused) = let h : AreSame 12 2 = refused.answer in omega arith
no_twelve (inr (inl refused)) = let h : AreSame 12 3 = refused.answer in omega arith
no_twelve (inr (inr (inl refused))) = let h : AreSame 12 1 = refused.answer in omega arith
no_twelve (inr (inr (inr refused))) = let h : 3 < 3 = refused.place in omega arith

not_in_place_of_two :
    Allowed (Some seventh_terms) starved_births (world_after starved_births seventh_two)
    (asks_beside SideIs.NoMemory 0 1 [] 9 (spawn_linked 0)) → ⊥
unfolding known_row_of all_rows
not_in_place_of_two allowed = no_twelve allowed.turn.halted.beside.birth

abbrev seventh_doomed : List Entry
seventh_doomed =
    seventh_two
    ++ asks_by 0 1 [] 9 (spawn_linked 0)
    ∷ take_by 1 3 ∷ take_by 0 2 ∷ asks_by 0 2 [] 4 (kill 3) ∷ take_by 0 1 ∷ []

abbrev w7_doomed : World
w7_doomed = world_after seventh_births seventh_doomed

seven_doomed : ((w7_doomed.process 3).stage ≡ Doomed 1 EndIs.Killed) × (unended_count w7_doomed ≡ 3) × (w7_doomed.ready ≡ 2 ∷ [])
    × (w7_doomed.spawns ≡ 3)
unfolding known_row_of all_rows
seven_doomed = (refl, refl, refl, refl)

-- the doomed process's own spawn isn't performed and has no birth
abbrev seventh_given : List Entry
seventh_given = seventh_doomed ++ asks_by 0 1 [] 10 (spawn_linked 0) ∷ asks_by 1 3 [] 5 (spawn_linked 0) ∷ []

abbrev w7_given : World
w7_given = world_after seventh_births seventh_given

seven_given : (w7_given.spawns ≡ 4) × (w7_given.exits ≡ exit 3 EndIs.Killed ∷ []) × (w7_given.ready ≡ 2 ∷ 1 ∷ [])
    × (results w7_given 1 ≡ Some 0 ∷ None ∷ None ∷ Some 0 ∷ Some 2 ∷ Some 2 ∷ []) × (unended_count w7_given ≡ 2)
unfolding known_row_of all_rows
seven_given = (refl, refl, refl, refl, refl)

-- 2 has no config 0
seven_no_config : Allowed None seventh_births (world_after seventh_births (seventh_given ++ take_by 0 2 ∷ []))
    (asks_by 0 2 [] 6 (spawn_by 0 0 0)) → ⊥
unfolding known_row_of all_rows
seven_no_config allowed = let h : Faulty FaultIs.NoSuchConfig ≡ Fit = allowed.turn.halted.judged in cc

abbrev seventh_end : List Entry
seventh_end =
    seventh_given
    ++ turn 2 [] 6 (spawn_by 0 minus_one 9)
    ++ turn_beside SideIs.NoMemory 1 [] 11 (spawn_linked 0)
    ++ turn 2 [] 7 (spawn_linked 0)

abbrev w7_four : World
w7_four = world_after seventh_births seventh_end

seven_four : (w7_four.ready ≡ 1 ∷ 4 ∷ 2 ∷ []) × (w7_four.numbers_drawn ≡ 4) × (w7_four.spawns ≡ 7)
    × (results w7_four 2 ≡ Some 0 ∷ None ∷ Some 1 ∷ Some 0 ∷ [])
    × (results w7_four 1 ≡ Some 0 ∷ None ∷ None ∷ Some 0 ∷ Some 2 ∷ Some 2 ∷ Some 12 ∷ [])
unfolding known_row_of all_rows
seven_four = (refl, refl, refl, refl, refl)

abbrev pub seventh_all : List Entry
seventh_all = seventh_end ++ turn_ends 1 12 (HaltIs.Host FaultIs.NoSuchConfig (spawn_by 0 5 0))

abbrev w7_end : World
w7_end = world_after seventh_births seventh_all

seven_end : (w7_end.exits
    ≡ exit 3 EndIs.Killed ∷ exit 1 (EndIs.Host FaultIs.NoSuchConfig) ∷ exit 2 EndIs.Linked ∷ exit 4 EndIs.Closed ∷ [])
    × (w7_end.over ≡ true) × (w7_end.numbers_drawn ≡ 4) × ((w7_end.process 4).fuel ≡ 0) × (w7_end.spawns ≡ 7)
unfolding known_row_of all_rows
seven_end = (refl, refl, refl, refl, refl)

seven_text : report_text (book_of seventh_births seventh_all (3 ∷ 1 ∷ 2 ∷ 4 ∷ []))
    ≡ line (codes "process 3 killed fuel 5 pages 0 mark 0") ++ line (codes "process 1 host nosuchconfig fuel 12 pages 0 mark 0")
    ++ line (codes "process 2 linked fuel 7 pages 0 mark 0") ++ line (codes "process 4 closed fuel 0 pages 0 mark 0")
    ++ line (codes "total processes 4 messages 0 streams 0")
unfolding known_row_of all_rows told digits
seven_text = refl

-- EIGHTH JOURNAL. A mailbox with 1,023 messages and a signal, whose owner waits for another tag.

abbrev many : ℕ → List MailItem
many n = replicate n (Letter 0 (blank_message 1)) ++ Signal 2 ∷ []

abbrev pub eighth_world : ℕ → World
eighth_world n = record (first_world births_to_four) {
  ready = [];
  process =
      put
      (put (first_world births_to_four).process 2
      (record (fresh_process (start_of 2) (Waiting (receive_one 5 minus_one))) { mail = many n; dies = false })) 1
      (record (fresh_process (start_of 1) (Out 0)) { part = record no_part { scratch = Some (unread (blank_message 6)) } });
  numbers_drawn = 2;
}

abbrev after_many : ℕ → List Entry → World
after_many n entries = all_after births_to_four (eighth_world n) entries

-- a signal doesn't count, so one more message has a place
abbrev w8_last : World
w8_last = after_many 1023 (asks_by 0 1 [] 1 (send 2) ∷ [])

eight_last : (results w8_last 1 ≡ Some 0 ∷ []) × (message_count (w8_last.process 2).mail ≡ 1024) × (w8_last.ready ≡ 1 ∷ [])
    × (w8_last.sends ≡ 1) × (scratch_tag w8_last 1 ≡ None)
unfolding known_row_of all_rows
eight_last = (refl, refl, refl, refl, refl)

-- a full mailbox answers 2, although its owner waits and would want the message
abbrev pub eighth_full : List Entry
eighth_full = asks_by 0 1 [] 1 (send 2) ∷ take_by 0 1 ∷ asks_by 0 1 (silent (create_data 5) ∷ []) 2 (send 2) ∷ []

abbrev w8_full : World
w8_full = after_many 1023 eighth_full

eight_full : (results w8_full 1 ≡ Some 0 ∷ None ∷ Some 2 ∷ []) × (scratch_tag w8_full 1 ≡ Some 5) × (w8_full.sends ≡ 1)
    × ((w8_full.process 2).stage ≡ Waiting (receive_one 5 minus_one)) × (w8_full.ready ≡ 1 ∷ [])
unfolding known_row_of all_rows
eight_full = (refl, refl, refl, refl, refl)

eight_no_refusal : Allowed None births_to_four (after_many 1024 []) (asks_beside SideIs.NoMemory 0 1 [] 1 (send 2)) → ⊥
unfolding known_row_of all_rows
eight_no_refusal allowed = let h : AreSame 2 0 = allowed.turn.halted.beside.side.lost in omega arith

-- with one message fewer it is delivered, and the mailbox stays
abbrev w8_wanted : World
w8_wanted =
    after_many 1022
    (asks_by 0 1 [] 1 (send 2) ∷ take_by 0 1 ∷ asks_by 0 1 (silent (create_data 5) ∷ []) 2 (send 2) ∷ [])

eight_wanted : (results w8_wanted 1 ≡ Some 0 ∷ None ∷ Some 0 ∷ []) × (results w8_wanted 2 ≡ Some 0 ∷ [])
    × (message_count (w8_wanted.process 2).mail ≡ 1023) × (w8_wanted.ready ≡ 2 ∷ 1 ∷ [])
unfolding known_row_of all_rows
eight_wanted = (refl, refl, refl, refl)

-- the signal of a link reaches a full mailbox, and its owner that waits for it; then all end Closed
abbrev w8_fallen : World
w8_fallen =
    after_many 1023
    (eighth_full ++ take_by 0 1 ∷ asks_by 0 1 [] 3 (send 1) ∷ take_by 0 1 ∷ asks_by 0 1 [] 4 (link 5 2)
    ∷ take_by 0 1 ∷ ends_by 0 1 [] 5 (HaltIs.Trap TrapIs.Bounds) ∷ [])

eight_fallen : (w8_fallen.exits ≡ exit 1 (EndIs.Trap TrapIs.Bounds) ∷ exit 2 EndIs.Closed ∷ []) × (results w8_fallen 2 ≡ Some 1 ∷ [])
    × (results w8_fallen 1 ≡ Some 0 ∷ None ∷ Some 2 ∷ Some 0 ∷ Some 0 ∷ []) × (w8_fallen.over ≡ true) × (w8_fallen.sends ≡ 2)
unfolding known_row_of all_rows
eight_fallen = (refl, refl, refl, refl, refl)

-- NINTH JOURNAL. Sends to processes that ended and that never were; a killer that falls with its victim; a mailbox's stream.

abbrev ninth_sent : List Entry
ninth_sent =
    turn 1 [] 2 (spawn_linked 0)
    ++ turn 2 [] 2 (spawn_linked 23)
    ++ take_by 0 1 ∷ take_by 1 3 ∷ asks_beside SideIs.Opened 0 1 [] 4 connect ∷ asks_beside (at_clock 1) 1 3 [] 2 (receive_one 8 minus_one)
    ∷ take_by 0 2 ∷ take_by 1 1 ∷ asks_by 1 1 (silent (create_data 5) ∷ numbered (push_stream 0) 0 ∷ []) 7 (send 3) ∷ []

abbrev w9_sent : World
w9_sent = world_after births_to_four ninth_sent

nine_sent : (mail_tags w9_sent 3 ≡ 5 ∷ []) × (w9_sent.closed ≡ []) × (w9_sent.ready ≡ 1 ∷ []) × ((w9_sent.process 1).part.handles ≡ [])
unfolding known_row_of all_rows
nine_sent = (refl, refl, refl, refl)

abbrev ninth_killed : List Entry
ninth_killed = ninth_sent ++ asks_by 0 2 (silent (create_data 6) ∷ []) 4 (kill 3) ∷ []

abbrev w9_killed : World
w9_killed = world_after births_to_four ninth_killed

nine_killed : (w9_killed.exits ≡ exit 3 EndIs.Killed ∷ exit 2 EndIs.Linked ∷ []) × (w9_killed.closed ≡ 0 ∷ [])
    × ((handled w9_killed.moves).closed ≡ 0 ∷ []) × (w9_killed.ready ≡ 1 ∷ []) × (results w9_killed 2 ≡ Some 0 ∷ None ∷ [])
unfolding known_row_of all_rows
nine_killed = (refl, refl, refl, refl, refl)

abbrev ninth_out : List Entry
ninth_out = ninth_killed ++ take_by 1 1 ∷ []

abbrev w9_out : World
w9_out = world_after births_to_four ninth_out

-- the scratch message was sent away; to an ended process memory isn't refused
nine_no_message : Allowed None births_to_four w9_out (asks_by 1 1 [] 9 (send 3)) → ⊥
unfolding known_row_of all_rows
nine_no_message allowed = let h : Faulty FaultIs.NoMessage ≡ Fit = allowed.turn.halted.judged in cc

nine_no_refusal : Allowed None births_to_four w9_out (asks_beside SideIs.NoMemory 1 1 (silent (create_data 9) ∷ []) 9 (send 3)) → ⊥
unfolding known_row_of all_rows
nine_no_refusal allowed = let h : AreSame 1 0 = allowed.turn.halted.beside.side.lost in omega arith

-- a send isn't pending
nine_not_pending : Allowed None births_to_four w9_out (asks_beside SideIs.Pending 1 1 (silent (create_data 9) ∷ []) 9 (send 3)) → ⊥
unfolding known_row_of all_rows
nine_not_pending allowed = allowed.turn.halted.beside.side

abbrev ninth_self : List Entry
ninth_self =
    ninth_out
    ++ asks_by 1 1 (silent (create_data 9) ∷ []) 9 (send 3) ∷ turn 1 [] 10 (send 1)

abbrev w9_self : World
w9_self = world_after births_to_four ninth_self

nine_self : (mail_tags w9_self 1 ≡ 9 ∷ []) × ((w9_self.process 1).part.scratch ≡ None) × (w9_self.sends ≡ 2)
    × (results w9_self 1 ≡ Some 0 ∷ Some 0 ∷ None ∷ Some 0 ∷ Some 0 ∷ None ∷ Some 1 ∷ Some 0 ∷ [])
unfolding known_row_of all_rows
nine_self = (refl, refl, refl, refl)

abbrev pub ninth_end : List Entry
ninth_end = ninth_self ++ turn_beside (at_clock 0) 1 [] 11 (receive_one 9 5) ++ turn 1 [] 12 (send 77)

abbrev w9_end : World
w9_end = world_after births_to_four (ninth_end ++ turn_ends 1 13 HaltIs.Done)

nine_end : (w9_end.exits ≡ exit 3 EndIs.Killed ∷ exit 2 EndIs.Linked ∷ exit 1 EndIs.Done ∷ []) × (w9_end.time ≡ 1)
    × (w9_end.numbers_drawn ≡ 3) × (w9_end.sends ≡ 2) × (w9_end.streams ≡ 1) × ((w9_end.process 1).mail ≡ [])
    × (results w9_end 1
    ≡ Some 0 ∷ Some 0 ∷ None ∷ Some 0 ∷ Some 0 ∷ None ∷ Some 1 ∷ Some 0 ∷ Some 0 ∷ Some 1 ∷ [])
unfolding known_row_of all_rows
nine_end = (refl, refl, refl, refl, refl, refl, refl)

-- TENTH JOURNAL. The ready list, Ticks, a row, a request that is tried again, and want of memory. The idle limit is 3.

abbrev tenth_terms : Terms
tenth_terms = record { first = start_of 1; live = 4; idle = 3; can_start = λ _. true }

abbrev tenth_asleep : List Entry
tenth_asleep =
    turn 1 [] 2 (spawn_linked 0)
    ++ take_by 0 2 ∷ take_by 1 1 ∷ asks_by 1 1 [] 3 (spawn_linked 0)
    ∷ asks_beside (at_clock 10) 0 2 [] 2 (sleep_ms 30)
    ∷ turn_beside (at_clock 5) 3 [] 2 (receive_any 20)
    ++ turn_beside SideIs.Opened 1 [] 4 connect
    ++ turn_beside SideIs.Pending 1 [] 5 (read_stream 0)

abbrev w10_asleep : World
w10_asleep = world_after births_to_four tenth_asleep

ten_asleep : (w10_asleep.ready ≡ 1 ∷ []) × (w10_asleep.row ≡ 1) × (w10_asleep.time ≡ 10) × ((w10_asleep.process 2).deadline ≡ Some 40)
    × ((w10_asleep.process 3).deadline ≡ Some 30) × ((w10_asleep.process 1).owed ≡ Some (read_stream 0))
unfolding known_row_of all_rows
ten_asleep = (refl, refl, refl, refl, refl, refl)

abbrev tenth_early : List Entry
tenth_early = tenth_asleep ++ EntryIs.Tick 0 20 ∷ take_by 0 1 ∷ []

abbrev w10_early : World
w10_early = world_after births_to_four tenth_early

ten_early : (w10_early.row ≡ 2) × (w10_early.time ≡ 20) × (w10_early.ready ≡ [])
unfolding known_row_of all_rows
ten_early = (refl, refl, refl)

ten_not_idle : Allowed (Some tenth_terms) births_to_four w10_early (EntryIs.Idle 0) → ⊥
unfolding known_row_of all_rows
ten_not_idle allowed = let h : 3 ≤ 2 = allowed.1 in omega arith

-- a turn that tries again has no fuel, no call, and doesn't ask anew
ten_no_fuel : Allowed None births_to_four w10_early (EntryIs.Give 0 1 [] 6 HaltIs.Again SideIs.Pending) → ⊥
unfolding known_row_of all_rows
ten_no_fuel allowed = let h : AreSame 6 5 = allowed.turn.fuel in omega arith

ten_no_call : Allowed None births_to_four w10_early (EntryIs.Give 0 1 (numbered (plain 10 []) 1 ∷ []) 5 HaltIs.Again SideIs.Pending) → ⊥
unfolding known_row_of all_rows
ten_no_call allowed = let h : ◌≡◌ {A = List Call} (numbered (plain 10 []) 1 ∷ []) [] = allowed.turn.calls in cc

ten_no_ask : Allowed None births_to_four w10_early (asks_beside SideIs.Pending 0 1 [] 5 (read_stream 0)) → ⊥
unfolding known_row_of all_rows
ten_no_ask allowed = allowed.turn.halted

abbrev tenth_again : List Entry
tenth_again = tenth_early ++ EntryIs.Give 0 1 [] 5 HaltIs.Again SideIs.Pending ∷ []

abbrev w10_again : World
w10_again = world_after births_to_four tenth_again

ten_idle : Allowed (Some tenth_terms) births_to_four w10_again (EntryIs.Idle 0)
unfolding known_row_of all_rows
ten_idle = (refl, omega arith)

abbrev w10_idle : World
w10_idle = world_after births_to_four (tenth_again ++ EntryIs.Idle 0 ∷ [])

ten_idled : (w10_idle.exits ≡ exit 1 EndIs.Idle ∷ exit 2 EndIs.Idle ∷ exit 3 EndIs.Idle ∷ []) × (w10_idle.closed ≡ 0 ∷ [])
    × (w10_idle.over ≡ true) × (w10_idle.ready ≡ []) × ((w10_idle.streamed 0).waits ≡ 2)
unfolding known_row_of all_rows
ten_idled = (refl, refl, refl, refl, refl)

-- one Tick answers both; the ready 1 stays before them, and the row is broken
abbrev pub tenth_ticked : List Entry
tenth_ticked = tenth_again ++ EntryIs.Tick 0 45 ∷ []

abbrev w10_ticked : World
w10_ticked = world_after births_to_four tenth_ticked

ten_ticked : (w10_ticked.ready ≡ 1 ∷ 2 ∷ 3 ∷ []) × (w10_ticked.row ≡ 0) × (results w10_ticked 2 ≡ None ∷ [])
    × (results w10_ticked 3 ≡ Some 9027 ∷ [])
unfolding known_row_of all_rows
ten_ticked = (refl, refl, refl, refl)

ten_no_tick : (Allowed None births_to_four w10_ticked (EntryIs.Tick 0 50) → ⊥)
    × (Allowed (Some tenth_terms) births_to_four w10_ticked (EntryIs.Idle 0) → ⊥)
unfolding known_row_of all_rows
ten_no_tick =
    (λ allowed. let h : 0 < 0 = allowed.1 in omega arith, λ allowed. let h : 3 ≤ 0 = allowed.1 in omega arith)

abbrev four_bytes : Reply
four_bytes = record {
  result = Some 0;
  word = Some (record { addr = 400; width = 4; value = 4 });
  text = Some (record { addr = 300; bytes = codes "abcd" });
}

abbrev tenth_read : List Entry
tenth_read =
    tenth_ticked
    ++ take_by 0 1 ∷ EntryIs.Give 0 1 [] 5 HaltIs.Again (SideIs.Answer four_bytes)
    ∷ take_by 0 2 ∷ []

abbrev w10_read : World
w10_read = world_after births_to_four tenth_read

-- the read was charged once
ten_read : (w10_read.ready ≡ 3 ∷ 1 ∷ []) × ((w10_read.process 1).owed ≡ None) × ((w10_read.streamed 0).taken ≡ codes "abcd")
    × ((w10_read.process 1).part.traffic ≡ 78 + 78 + 72 + 132) × ((w10_read.process 1).gives ≡ 4)
unfolding known_row_of all_rows
ten_read = (refl, refl, refl, refl, refl)

not_used_up : IsUsedUp 9999 0 → ⊥
not_used_up (inl more) = let h : 10000 < 10000 = more in omega arith
not_used_up (inr all) = let h : AreSame 0 64 = all in omega arith

ten_no_slice : Allowed None births_to_four w10_read (ends_by 0 2 [] 10001 HaltIs.Slice) → ⊥
unfolding known_row_of all_rows
ten_no_slice allowed = ∥∥₁_elim allowed.turn.halted.1 (λ x y. absurd x) not_used_up

abbrev tenth_killed : List Entry
tenth_killed = tenth_read ++ ends_by 0 2 [] 10002 HaltIs.Slice ∷ turn 3 [] 3 (kill 2)

abbrev w10_killed : World
w10_killed = world_after births_to_four tenth_killed

-- a process in the ready list that is killed leaves it
ten_killed : (w10_killed.ready ≡ 1 ∷ 3 ∷ []) × (w10_killed.exits ≡ exit 2 EndIs.Killed ∷ []) × ((w10_killed.process 2).fuel ≡ 10002)
    × (results w10_killed 3 ≡ Some 9027 ∷ None ∷ [])
unfolding known_row_of all_rows
ten_killed = (refl, refl, refl, refl)

abbrev w10_end : World
w10_end = world_after births_to_four (tenth_killed ++ EntryIs.Starve 5 ∷ [])

ten_end : (w10_end.exits ≡ exit 2 EndIs.Killed ∷ exit 1 EndIs.NoMemory ∷ exit 3 EndIs.NoMemory ∷ []) × (w10_end.closed ≡ 0 ∷ [])
    × (w10_end.over ≡ true) × (w10_end.streams ≡ 1) × (w10_end.numbers_drawn ≡ 3)
unfolding known_row_of all_rows
ten_end = (refl, refl, refl, refl, refl)

ten_text : report_text (book_of births_to_four (tenth_killed ++ EntryIs.Starve 5 ∷ []) (2 ∷ 1 ∷ 3 ∷ []))
    ≡ line (codes "process 2 killed fuel 10002 pages 0 mark 0") ++ line (codes "process 1 nomemory fuel 5 pages 0 mark 0")
    ++ line (codes "process 3 nomemory fuel 3 pages 0 mark 0") ++ line (codes "total processes 3 messages 0 streams 1")
unfolding known_row_of all_rows told digits
ten_text = refl

use Rattle.std.specs.Prelude.{◌≡◌, ℕ, ◌+◌, ◌*◌, ◌-◌, ◌^◌, ◌≤◌, ◌<◌, List, [], ◌∷◌, ◌++◌, Option, Some, None, true, false, replicate, codes, nat_eq, refl}
use native.Mathlib.Omega.{arith}
use Rattle.std.proofs.Common.{inl, inr, sym, subst, lit<}
use Rattle.std.proofs.lemmas.List.Elements.{All-nil, All-from_recursion}
use Rattle.std.specs.Fmt.{digits}
use Rattle.host_port.specs.TypedValue.{TypedValue}
use Rattle.host_port.specs.declared.start.Start.{Start}
use Rattle.host_port.specs.declared.request.Request.{Request}
use Rattle.host_port.specs.declared.reply.Reply.{Reply}
use Rattle.host_port.specs.HostTable.{known_row_of, all_rows}
use Rattle.spawn_config.specs.Spelling.{IsValueOf}
use Rattle.world_rules.specs.declared.entry.Entry.{Entry}
use Rattle.world_rules.specs.declared.entry.Entry.TheVariants as EntryIs
use Rattle.world_rules.specs.declared.entry.Side.{Side}
use Rattle.world_rules.specs.declared.entry.Side.TheVariants as SideIs
use Rattle.world_rules.specs.declared.halt.Halt.TheVariants as HaltIs
use Rattle.world_rules.specs.declared.halt.HostFault.TheVariants as FaultIs
use Rattle.world_rules.specs.declared.halt.End.TheVariants as EndIs
use Rattle.world_rules.specs.declared.life.Birth.{Birth}
use Rattle.world_rules.specs.declared.life.Birth.TheVariants.{Born, Refused}
use Rattle.world_rules.specs.Answers.{number_reply, written_reply}
use Rattle.world_rules.specs.Part.{Part, no_part}
use Rattle.world_rules.specs.Kinds.{may_come}
use Rattle.world_rules.specs.Settled.{settled, ListenerBound}
use Rattle.world_rules.specs.Local.{local, part_of}
use Rattle.world_rules.specs.Part.{unread}
use Rattle.world_rules.specs.Judge.{Judgement, judge, cost_of, Fit, Overdrawn, Faulty}
use Rattle.world_rules.specs.World.{World, link_between, first_world}
use Rattle.world_rules.specs.Births.{Terms, BirthFits}
use Rattle.world_rules.specs.Allowed.{Allowed, SideFits}
use Rattle.world_rules.specs.Told.{told, AllAllowed}
use Rattle.world_rules.specs.Report.{report_text}
use Rattle.world_rules.proofs.ForetoldStreams.{births_to_three, exit, asks, ends, tries, book_of, line, last_reply, number_in}
use Rattle.world_rules.proofs.Worked.{AreSame, born_of, start_of, request, plain, numbered, silent, minus_one, create_data, push_stream, take_stream, send, receive_any, spawn_linked, kill, link, sleep_ms, connect, take_by, world_after, results}

-- Journals of a second reader, who wrote down what must come of them before reading the rules: limits, configs, want of memory and counts.

-- 1 where a request is fit
abbrev fitness : Judgement → ℕ
fitness Fit = 1
fitness _ = 0

-- CONFIGS. The limits of a config are never above the process's own, and its numbers aren't used again. A spawn is answered 2 before 1.

abbrev spawn_of : (config program : ℕ) → Request
spawn_of config program = request 12 (0 ∷ config ∷ program ∷ 0 ∷ 6 ∷ 0 ∷ 0 ∷ 100 ∷ []) (codes "_start") []

abbrev create_config : Request
create_config = plain 18 []

abbrev drop_config : ℕ → Request
drop_config number = plain 19 (number ∷ [])

abbrev set_memory : (number pages : ℕ) → Request
set_memory number pages = plain 20 (number ∷ pages ∷ [])

abbrev set_fuel : (number fuel : ℕ) → Request
set_fuel number fuel = plain 21 (number ∷ fuel ∷ [])

abbrev get_memory : ℕ → Request
get_memory number = plain 22 (number ∷ [])

abbrev get_fuel : ℕ → Request
get_fuel number = plain 23 (number ∷ [])

abbrev small : (pid pages : ℕ) → Start
small pid pages = record (start_of pid) { limits = record { pages = pages; fuel = 1000; traffic = 5000 } }

abbrev config_births : List Birth
config_births = Born (small 1 64) ∷ Born (small 2 2) ∷ Refused 2 ∷ Refused 1 ∷ []

-- two may live, and there is one program
abbrev two_live : Terms
two_live = record { first = small 1 64; live = 2; idle = 100000; can_start = λ start. nat_eq start.«module» 0 }

abbrev pub config_first : List Entry
config_first =
    take_by 0 1
    ∷ []

abbrev w_config : World
w_config = world_after config_births config_first

config_above : Allowed (Some two_live) config_births w_config (ends 0 1 (numbered create_config 0 ∷ silent (set_memory 0 1000) ∷ numbered (get_memory 0) 1000 ∷ []) 40 HaltIs.Done) → ⊥
unfolding known_row_of all_rows
config_above allowed = let h : ◌≡◌ {A = Option Reply} (Some (number_reply 64)) (Some (number_reply 1000)) = allowed.turn.local.1.1.0 in let n : AreSame 64 1000 = λ i. number_in (h i) in omega arith

abbrev other_births : List Birth
other_births = Born (small 1 64) ∷ Born (small 2 64) ∷ []

config_other : Allowed (Some two_live) other_births (world_after other_births config_first) (asks SideIs.Nothing 0 1 (numbered create_config 0 ∷ silent (set_memory 0 1000) ∷ numbered (get_memory 0) 64 ∷ silent (set_memory 0 2) ∷ numbered (get_memory 0) 2 ∷ silent (set_fuel 0 minus_one) ∷ numbered (get_fuel 0) 1000 ∷ []) 40 (spawn_of 0 0)) → ⊥
unfolding known_row_of all_rows
config_other allowed = let n : AreSame 64 2 = λ i. (allowed.turn.halted.beside.birth.child.limits i).pages in omega arith

abbrev pub config_born : List Entry
config_born =
    config_first
    ++ asks SideIs.Nothing 0 1 (numbered create_config 0 ∷ silent (set_memory 0 1000) ∷ numbered (get_memory 0) 64 ∷ silent (set_memory 0 2) ∷ numbered (get_memory 0) 2 ∷ silent (set_fuel 0 minus_one) ∷ numbered (get_fuel 0) 1000 ∷ []) 40 (spawn_of 0 0)
    ∷ take_by 0 2
    ∷ take_by 1 1
    ∷ []

abbrev w_child : World
w_child = world_after config_births config_born

child_born : ((w_child.process 2).start.limits ≡ record { pages = 2; fuel = 1000; traffic = 5000 })
    × (w_child.ready ≡ [])
    × (results w_child 1 ≡ Some 0 ∷ None ∷ Some 64 ∷ None ∷ Some 2 ∷ None ∷ Some 1000 ∷ Some 0 ∷ [])
    × (link_between w_child 1 2 ≡ None)
unfolding known_row_of all_rows
child_born = (refl, refl, refl, refl)

config_reused : Allowed (Some two_live) config_births w_child (ends 1 1 (silent (drop_config 0) ∷ numbered create_config 0 ∷ []) 50 HaltIs.Done) → ⊥
unfolding known_row_of all_rows
config_reused allowed = let h : ◌≡◌ {A = Option Reply} (Some (number_reply 1)) (Some (number_reply 0)) = allowed.turn.local.1.0 in let n : AreSame 1 0 = λ i. number_in (h i) in omega arith

config_dropped : Allowed (Some two_live) config_births w_child (ends 1 1 (silent (drop_config 0) ∷ numbered (get_memory 0) 2 ∷ []) 50 HaltIs.Done) → ⊥
unfolding known_row_of all_rows
config_dropped allowed = let h : ◌≡◌ {A = Option Reply} None (Some (number_reply 2)) = allowed.turn.local.1.0 in cc

-- 2 comes before want of memory; want of memory may stand in the place of 1
crowded_memory : BirthFits (Some two_live) w_child (w_child.process 1) (spawn_of minus_one 9) SideIs.NoMemory (Some (Refused 12)) → ⊥
unfolding known_row_of all_rows
crowded_memory (inl r) = let h : AreSame 12 2 = r.answer in omega arith
crowded_memory (inr (inl r)) = let h : AreSame 12 3 = r.answer in omega arith
crowded_memory (inr (inr (inl r))) = let h : AreSame 12 1 = r.answer in omega arith
crowded_memory (inr (inr (inr r))) = let h : 2 < 2 = r.place in omega arith

abbrev pub config_again : List Entry
config_again =
    config_born
    ++ asks SideIs.Nothing 1 1 (silent (drop_config 0) ∷ numbered create_config 1 ∷ []) 50 (spawn_of minus_one 9)
    ∷ ends 0 2 (numbered create_config 0 ∷ numbered (get_memory 0) 2 ∷ []) 9 HaltIs.Done
    ∷ take_by 1 1
    ∷ []

abbrev w_again : World
w_again = world_after config_births config_again

again_alone : (w_again.exits ≡ exit 2 EndIs.Done ∷ [])
    × (w_again.spawns ≡ 2)
    × (w_again.numbers_drawn ≡ 2)
    × (results w_again 2 ≡ Some 0 ∷ Some 2 ∷ [])
unfolding known_row_of all_rows
again_alone = (refl, refl, refl, refl)

lone_memory : BirthFits (Some two_live) w_again (w_again.process 1) (spawn_of minus_one 9) SideIs.NoMemory (Some (Refused 12))
unfolding known_row_of all_rows
lone_memory = inr (inr (inr (record { answer = refl; beside = refl; place = omega arith; number = omega arith })))

abbrev pub config_refused : List Entry
config_refused =
    config_again
    ++ asks SideIs.Nothing 1 1 [] 54 (spawn_of minus_one 9)
    ∷ take_by 1 1
    ∷ []

abbrev w_refused : World
w_refused = world_after config_births config_refused

refused_there : Allowed (Some two_live) config_births w_refused (ends 1 1 [] 58 (HaltIs.Host FaultIs.NoSuchConfig (spawn_of 1 0))) → ⊥
unfolding known_row_of all_rows
refused_there allowed = let n : AreSame 1 0 = λ i. fitness (allowed.turn.halted.1 i) in omega arith

refused_asks : Allowed (Some two_live) config_births w_refused (asks SideIs.Nothing 1 1 [] 58 (spawn_of 0 0)) → ⊥
unfolding known_row_of all_rows
refused_asks allowed = let n : AreSame 0 1 = λ i. fitness (allowed.turn.halted.judged i) in omega arith

abbrev pub config_all : List Entry
config_all =
    config_refused
    ++ ends 1 1 [] 58 (HaltIs.Host FaultIs.NoSuchConfig (spawn_of 0 0))
    ∷ []

abbrev w_config_end : World
w_config_end = world_after config_births config_all

config_end : (w_config_end.spawns ≡ 3)
    × (w_config_end.over ≡ true)
    × (w_config_end.exits ≡ exit 2 EndIs.Done ∷ exit 1 (EndIs.Host FaultIs.NoSuchConfig) ∷ [])
unfolding known_row_of all_rows
config_end = (refl, refl, refl)

config_text : report_text (book_of config_births config_all (2 ∷ 1 ∷ []))
    ≡ line (codes "process 2 done fuel 9 pages 0 mark 0")
    ++ line (codes "process 1 host nosuchconfig fuel 58 pages 0 mark 0")
    ++ line (codes "total processes 2 messages 0 streams 0")
unfolding known_row_of all_rows told digits
config_text = refl

config_allowed : AllAllowed (Some two_live) config_births (first_world config_births) config_all
unfolding known_row_of all_rows
config_allowed = (
  (refl, refl),
  (
    record { away = refl; turn = record { grown = omega arith; burnt = omega arith; answered = omega arith; local = (refl, (refl, (refl, (refl, (refl, (refl, (refl, tt))))))); halted = record { kind = refl; judged = refl; beside = record { side = tt; birth = record { beside = refl; place = omega arith; number = omega arith; child = record { pid = refl; «module» = refl; entry = refl; params = record { spelled = refl; values = All-nil (λ (param : TypedValue). IsValueOf param.num param.value) }; limits = refl }; starts = refl } } } } },
    (
      (refl, refl),
      (
        (refl, refl),
        (
          record { away = refl; turn = record { grown = omega arith; burnt = omega arith; answered = omega arith; local = (refl, (refl, tt)); halted = record { kind = refl; judged = refl; beside = record { side = tt; birth = inl (record { answer = refl; beside = refl; crowded = omega arith }) } } } },
          (
            record { away = refl; turn = record { grown = omega arith; burnt = omega arith; answered = omega arith; local = (refl, (refl, tt)); halted = (refl, tt) } },
            (
              (refl, refl),
              (
                record { away = refl; turn = record { grown = omega arith; burnt = omega arith; answered = omega arith; local = tt; halted = record { kind = refl; judged = refl; beside = record { side = tt; birth = inr (inr (inl (record { answer = refl; beside = refl; place = omega arith; number = omega arith; startless = λ start child. subst (λ program. nat_eq program 0 ≡ false) (sym child.«module») refl }))) } } } },
                (
                  (refl, refl),
                  (
                    record { away = refl; turn = record { grown = omega arith; burnt = omega arith; answered = omega arith; local = tt; halted = (refl, refl) } },
                    tt,
                  ),
                ),
              ),
            ),
          ),
        ),
      ),
    ),
  ),
)

-- WANT OF MEMORY. 12 stands in the place of 0, or of a spawn's 0 or 1; nothing else is changed by it.

abbrev wanting_births : List Birth
wanting_births = born_of 1 ∷ Refused 12 ∷ born_of 2 ∷ []

abbrev pub wanting_first : List Entry
wanting_first =
    take_by 0 1
    ∷ asks SideIs.NoMemory 0 1 [] 4 (spawn_linked 0)
    ∷ take_by 0 1
    ∷ asks SideIs.Nothing 0 1 [] 8 (spawn_linked 0)
    ∷ take_by 1 2
    ∷ take_by 0 1
    ∷ []

abbrev w_wanting : World
w_wanting = world_after wanting_births wanting_first

wanting : (last_reply w_wanting 1 ≡ number_reply 12 ∷ written_reply 0 100 2 ∷ [])
    × (w_wanting.spawns ≡ 2)
    × (w_wanting.numbers_drawn ≡ 2)
unfolding known_row_of all_rows
wanting = (refl, refl, refl)

wanting_own : Allowed None wanting_births w_wanting (asks SideIs.NoMemory 0 1 [] 11 (link 3 1)) → ⊥
unfolding known_row_of all_rows
wanting_own allowed = let h : AreSame 1 0 = allowed.turn.halted.beside.side.lost in omega arith

wanting_nobody : Allowed None wanting_births w_wanting (asks SideIs.NoMemory 0 1 (silent (create_data 1) ∷ []) 11 (send 9)) → ⊥
unfolding known_row_of all_rows
wanting_nobody allowed = let h : AreSame 1 0 = allowed.turn.halted.beside.side.lost in omega arith

wanting_put : Allowed None wanting_births w_wanting (asks SideIs.NoMemory 0 1 [] 11 (request 24 (0 ∷ 1 ∷ 9 ∷ []) (codes "a") [])) → ⊥
unfolding known_row_of all_rows
wanting_put allowed = let h : AreSame 1 0 = allowed.turn.halted.beside.side.lost in omega arith

wanting_kill : Allowed None wanting_births w_wanting (asks SideIs.NoMemory 0 1 [] 11 (kill 2)) → ⊥
unfolding known_row_of all_rows
wanting_kill allowed = let h : false ≡ true = allowed.turn.halted.beside.side.refusable in cc

wanting_exists : Allowed None wanting_births w_wanting (asks SideIs.NoMemory 0 1 [] 11 (plain 11 (2 ∷ []))) → ⊥
unfolding known_row_of all_rows
wanting_exists allowed = let h : false ≡ true = allowed.turn.halted.beside.side.refusable in cc

wanting_unlink : Allowed None wanting_births w_wanting (asks SideIs.NoMemory 0 1 [] 11 (plain 15 (2 ∷ []))) → ⊥
unfolding known_row_of all_rows
wanting_unlink allowed = let h : false ≡ true = allowed.turn.halted.beside.side.refusable in cc

wanting_get : Allowed None wanting_births w_wanting (asks SideIs.NoMemory 0 1 [] 11 (request 25 (0 ∷ 1 ∷ 100 ∷ []) (codes "a") [])) → ⊥
unfolding known_row_of all_rows
wanting_get allowed = let h : false ≡ true = allowed.turn.halted.beside.side.refusable in cc

abbrev w_begun : World
w_begun = world_after wanting_births (take_by 0 1 ∷ [])

wanting_silently : BirthFits None w_begun (w_begun.process 1) (spawn_linked 0) SideIs.Nothing (Some (Refused 12)) → ⊥
unfolding known_row_of all_rows
wanting_silently (inl r) = let h : AreSame 12 2 = r.answer in omega arith
wanting_silently (inr (inl r)) = let h : AreSame 12 3 = r.answer in omega arith
wanting_silently (inr (inr (inl r))) = let h : AreSame 12 1 = r.answer in omega arith
wanting_silently (inr (inr (inr r))) = let h : SideIs.Nothing ≡ SideIs.NoMemory = r.beside in cc

wanting_born : BirthFits None w_begun (w_begun.process 1) (spawn_linked 0) SideIs.NoMemory (Some (born_of 2)) → ⊥
unfolding known_row_of all_rows
wanting_born b = let h : SideIs.NoMemory ≡ SideIs.Nothing = b.beside in cc

abbrev pub wanting_all : List Entry
wanting_all =
    wanting_first
    ++ asks SideIs.NoMemory 0 1 [] 11 (link 3 2)
    ∷ take_by 0 1
    ∷ asks SideIs.NoMemory 0 1 (silent (create_data 1) ∷ []) 15 (send 2)
    ∷ []

abbrev w_wanted : World
w_wanted = world_after wanting_births wanting_all

wanted : (results w_wanted 1 ≡ Some 12 ∷ Some 0 ∷ Some 12 ∷ None ∷ Some 12 ∷ [])
    × (link_between w_wanted 1 2 ≡ None)
    × (w_wanted.sends ≡ 0)
    × ((w_wanted.process 2).mail ≡ [])
    × (w_wanted.ready ≡ 1 ∷ [])
    × ((w_wanted.process 1).part.scratch ≡ Some (record { message = record { tag = 1; bytes = []; slots = [] }; read_place = 0 }))
    × ((w_wanted.process 1).part.traffic ≡ 78 + 78 + 64 + 64 + 64)
unfolding known_row_of all_rows
wanted = (refl, refl, refl, refl, refl, refl, refl)

wanting_allowed : AllAllowed None wanting_births (first_world wanting_births) wanting_all
unfolding known_row_of all_rows
wanting_allowed = (
  (refl, refl),
  (
    record { away = refl; turn = record { grown = omega arith; burnt = omega arith; answered = omega arith; local = tt; halted = record { kind = refl; judged = refl; beside = record { side = record { refusable = refl; performed = refl; lost = refl }; birth = inr (inr (inr (record { answer = refl; beside = refl; place = tt; number = omega arith }))) } } } },
    (
      (refl, refl),
      (
        record { away = refl; turn = record { grown = omega arith; burnt = omega arith; answered = omega arith; local = tt; halted = record { kind = refl; judged = refl; beside = record { side = tt; birth = record { beside = refl; place = tt; number = omega arith; child = record { pid = refl; «module» = refl; entry = refl; params = record { spelled = refl; values = All-nil (λ (param : TypedValue). IsValueOf param.num param.value) }; limits = refl }; starts = tt } } } } },
        (
          (refl, refl),
          (
            (refl, refl),
            (
              record { away = refl; turn = record { grown = omega arith; burnt = omega arith; answered = omega arith; local = tt; halted = record { kind = refl; judged = refl; beside = record { side = record { refusable = refl; performed = refl; lost = refl }; birth = tt } } } },
              (
                (refl, refl),
                (
                  record { away = refl; turn = record { grown = omega arith; burnt = omega arith; answered = omega arith; local = (refl, tt); halted = record { kind = refl; judged = refl; beside = record { side = record { refusable = refl; performed = refl; lost = refl }; birth = tt } } } },
                  tt,
                ),
              ),
            ),
          ),
        ),
      ),
    ),
  ),
)

-- COUNTS of a stream over all Gives, also those that try again and that of a doomed process.

abbrev read_of : (handle len : ℕ) → Request
read_of handle len = plain 31 (handle ∷ 300 ∷ len ∷ 400 ∷ [])

abbrev write_of : ℕ → List ℕ → Request
write_of handle bytes = request 32 (handle ∷ 300 ∷ 3 ∷ 400 ∷ []) bytes []

abbrev read_reply : (count : ℕ) → List ℕ → Side
read_reply count bytes = SideIs.Answer (record { result = Some 0; word = Some (record { addr = 400; width = 4; value = count }); text = Some (record { addr = 300; bytes = bytes }) })

abbrev write_reply : ℕ → Side
write_reply count = SideIs.Answer (record { result = Some 0; word = Some (record { addr = 400; width = 4; value = count }); text = None })

abbrev failed : Side
failed = SideIs.Answer (number_reply 1)

abbrev pub stream_first : List Entry
stream_first =
    take_by 0 1
    ∷ asks SideIs.Opened 0 1 [] 3 connect
    ∷ take_by 0 1
    ∷ []

abbrev w_stream : World
w_stream = world_after births_to_three stream_first

stream_more : Allowed None births_to_three w_stream (asks (write_reply 4) 0 1 [] 6 (write_of 0 (120 ∷ 121 ∷ 122 ∷ []))) → ⊥
unfolding known_row_of all_rows
stream_more allowed = let h : 4 ≤ 3 = allowed.turn.halted.beside.side.form.word.value.0 in omega arith

stream_longer : Allowed None births_to_three w_stream (asks (read_reply 2 (97 ∷ 98 ∷ [])) 0 1 [] 6 (read_of 0 1)) → ⊥
unfolding known_row_of all_rows
stream_longer allowed = let h : 2 ≤ 1 = allowed.turn.halted.beside.side.form.text.within in omega arith

stream_count : Allowed None births_to_three w_stream (asks (read_reply 3 (97 ∷ 98 ∷ [])) 0 1 [] 6 (read_of 0 8)) → ⊥
unfolding known_row_of all_rows
stream_count allowed = let h : AreSame 3 2 = allowed.turn.halted.beside.side.form.word.value in omega arith

stream_none_fails : Allowed None births_to_three w_stream (asks failed 0 1 [] 6 (read_of 0 0)) → ⊥
unfolding known_row_of all_rows
stream_none_fails allowed = let h : false ≡ true = (allowed.turn.halted.beside.side.own refl).result in cc

stream_none_waits : Allowed None births_to_three w_stream (asks SideIs.Pending 0 1 [] 6 (read_of 0 0)) → ⊥
unfolding known_row_of all_rows
stream_none_waits allowed = let h : 0 < 0 = allowed.turn.halted.beside.side in omega arith

stream_opens : Allowed None births_to_three w_stream (asks SideIs.Opened 0 1 [] 6 (read_of 0 8)) → ⊥
unfolding known_row_of all_rows
stream_opens allowed = allowed.turn.halted.beside.side

stream_memory : Allowed None births_to_three w_stream (asks SideIs.NoMemory 0 1 [] 6 (read_of 0 8)) → ⊥
unfolding known_row_of all_rows
stream_memory allowed = allowed.turn.halted.beside.side

abbrev pub stream_used : List Entry
stream_used =
    stream_first
    ++ asks SideIs.Pending 0 1 [] 6 (read_of 0 8)
    ∷ take_by 0 1
    ∷ tries SideIs.Pending 0 1 6
    ∷ take_by 0 1
    ∷ tries (read_reply 2 (97 ∷ 98 ∷ [])) 0 1 6
    ∷ take_by 0 1
    ∷ asks failed 0 1 [] 9 (read_of 0 8)
    ∷ take_by 0 1
    ∷ asks (read_reply 0 []) 0 1 [] 12 (read_of 0 8)
    ∷ take_by 0 1
    ∷ asks (read_reply 0 []) 0 1 [] 15 (read_of 0 0)
    ∷ take_by 0 1
    ∷ asks (write_reply 2) 0 1 [] 18 (write_of 0 (120 ∷ 121 ∷ 122 ∷ []))
    ∷ take_by 0 1
    ∷ asks SideIs.Pending 0 1 [] 21 (write_of 0 (117 ∷ 118 ∷ 119 ∷ []))
    ∷ take_by 0 1
    ∷ tries (write_reply 0) 0 1 21
    ∷ take_by 0 1
    ∷ []

abbrev w_used : World
w_used = world_after births_to_three stream_used

used : w_used.streamed 0 ≡ record { taken = 97 ∷ 98 ∷ []; put = 120 ∷ 121 ∷ []; faults = 1; empties = 2; waits = 3 }
unfolding known_row_of all_rows
used = refl

used_results : results w_used 1 ≡ Some 0 ∷ Some 0 ∷ Some 1 ∷ Some 0 ∷ Some 0 ∷ Some 0 ∷ Some 0 ∷ []
unfolding known_row_of all_rows
used_results = refl

used_traffic : (w_used.process 1).part.traffic ≡ 72 + 3 * (64 + 8 + 4) + (64 + 4) + 2 * (64 + 3 + 4)
unfolding known_row_of all_rows
used_traffic = refl

abbrev pub stream_all : List Entry
stream_all =
    stream_used
    ++ EntryIs.Starve 5
    ∷ asks (read_reply 1 (99 ∷ [])) 0 1 [] 24 (read_of 0 8)
    ∷ []

abbrev w_all_used : World
w_all_used = world_after births_to_three stream_all

all_used : ((w_all_used.streamed 0).taken ≡ 97 ∷ 98 ∷ 99 ∷ [])
    × (w_all_used.exits ≡ exit 1 EndIs.NoMemory ∷ [])
unfolding known_row_of all_rows
all_used = (refl, refl)

all_used_closed : (w_all_used.closed ≡ 0 ∷ [])
    × (w_all_used.streams ≡ 1)
unfolding known_row_of all_rows
all_used_closed = (refl, refl)

stream_allowed : AllAllowed None births_to_three (first_world births_to_three) stream_all
unfolding known_row_of all_rows
stream_allowed = (
  (refl, refl),
  (
    record { away = refl; turn = record { grown = omega arith; burnt = omega arith; answered = omega arith; local = tt; halted = record { kind = refl; judged = refl; beside = record { side = refl; birth = tt } } } },
    (
      (refl, refl),
      (
        record { away = refl; turn = record { grown = omega arith; burnt = omega arith; answered = omega arith; local = tt; halted = record { kind = refl; judged = refl; beside = record { side = omega arith; birth = tt } } } },
        (
          (refl, refl),
          (
            record { away = refl; turn = record { calls = refl; fuel = refl; halted = record { side = omega arith; birth = tt } } },
            (
              (refl, refl),
              (
                record { away = refl; turn = record { calls = refl; fuel = refl; halted = record { side = record { form = record { result = (0, omega arith, refl); count = tt; text = record { octets = All-from_recursion (λ b. b < 256) (97 ∷ 98 ∷ []) (lit< tt, (lit< tt, tt)); addr = refl; within = omega arith; most = omega arith; counted = tt }; word = record { addr = refl; width = refl; fits = omega arith; value = refl } }; own = λ zero. let h : AreSame 8 0 = zero in absurd (omega arith) }; birth = tt } } },
                (
                  (refl, refl),
                  (
                    record { away = refl; turn = record { grown = omega arith; burnt = omega arith; answered = omega arith; local = tt; halted = record { kind = refl; judged = refl; beside = record { side = record { form = record { result = (1, omega arith, refl); count = tt; text = refl; word = refl }; own = λ zero. let h : AreSame 8 0 = zero in absurd (omega arith) }; birth = tt } } } },
                    (
                      (refl, refl),
                      (
                        record { away = refl; turn = record { grown = omega arith; burnt = omega arith; answered = omega arith; local = tt; halted = record { kind = refl; judged = refl; beside = record { side = record { form = record { result = (0, omega arith, refl); count = tt; text = record { octets = All-nil (λ b. b < 256); addr = refl; within = omega arith; most = omega arith; counted = tt }; word = record { addr = refl; width = refl; fits = omega arith; value = refl } }; own = λ zero. let h : AreSame 8 0 = zero in absurd (omega arith) }; birth = tt } } } },
                        (
                          (refl, refl),
                          (
                            record { away = refl; turn = record { grown = omega arith; burnt = omega arith; answered = omega arith; local = tt; halted = record { kind = refl; judged = refl; beside = record { side = record { form = record { result = (0, omega arith, refl); count = tt; text = record { octets = All-nil (λ b. b < 256); addr = refl; within = omega arith; most = omega arith; counted = tt }; word = record { addr = refl; width = refl; fits = omega arith; value = refl } }; own = λ none. record { result = refl; count = refl } }; birth = tt } } } },
                            (
                              (refl, refl),
                              (
                                record { away = refl; turn = record { grown = omega arith; burnt = omega arith; answered = omega arith; local = tt; halted = record { kind = refl; judged = refl; beside = record { side = record { form = record { result = (0, omega arith, refl); count = tt; text = refl; word = record { addr = refl; width = refl; fits = omega arith; value = (omega arith, omega arith) } }; own = λ zero. let h : AreSame 3 0 = zero in absurd (omega arith) }; birth = tt } } } },
                                (
                                  (refl, refl),
                                  (
                                    record { away = refl; turn = record { grown = omega arith; burnt = omega arith; answered = omega arith; local = tt; halted = record { kind = refl; judged = refl; beside = record { side = omega arith; birth = tt } } } },
                                    (
                                      (refl, refl),
                                      (
                                        record { away = refl; turn = record { calls = refl; fuel = refl; halted = record { side = record { form = record { result = (0, omega arith, refl); count = tt; text = refl; word = record { addr = refl; width = refl; fits = omega arith; value = (omega arith, omega arith) } }; own = λ zero. let h : AreSame 3 0 = zero in absurd (omega arith) }; birth = tt } } },
                                        (
                                          (refl, refl),
                                          (
                                            (refl, tt),
                                            (
                                              record { away = refl; turn = record { grown = omega arith; burnt = omega arith; answered = omega arith; local = tt; halted = record { kind = refl; judged = refl; beside = record { side = record { form = record { result = (0, omega arith, refl); count = tt; text = record { octets = All-from_recursion (λ b. b < 256) (99 ∷ []) (lit< tt, tt); addr = refl; within = omega arith; most = omega arith; counted = tt }; word = record { addr = refl; width = refl; fits = omega arith; value = refl } }; own = λ zero. let h : AreSame 8 0 = zero in absurd (omega arith) }; birth = tt } } } },
                                              tt,
                                            ),
                                          ),
                                        ),
                                      ),
                                    ),
                                  ),
                                ),
                              ),
                            ),
                          ),
                        ),
                      ),
                    ),
                  ),
                ),
              ),
            ),
          ),
        ),
      ),
    ),
  ),
)

-- LISTENERS. A number that was dropped isn't used again. A port has 16 bits.

abbrev two_listeners : Part
two_listeners = record no_part { listeners = 0 ∷ 3 ∷ []; next_listener = 4 }

abbrev one_listener : Part
one_listener = part_of two_listeners (local (start_of 1) two_listeners (plain 34 (3 ∷ [])))

abbrev accept_of : ℕ → Request
accept_of listener = plain 29 (listener ∷ 24 ∷ [])

dropped : (one_listener.listeners ≡ 0 ∷ [])
    × ((settled one_listener ListenerBound).listeners ≡ 0 ∷ 4 ∷ [])
    × (judge (start_of 1) one_listener (accept_of 3) ≡ Faulty FaultIs.NoSuchListener)
    × (judge (start_of 1) one_listener (accept_of 0) ≡ Fit)
unfolding known_row_of all_rows
dropped = (refl, refl, refl, refl)

abbrev beside : Part → Request → Side → Type 0
beside part request side = SideFits (may_come request) (first_world births_to_three) 1 part request side

abbrev port_of : ℕ → Request
port_of listener = plain 28 (listener ∷ [])

abbrev only : ℕ → Side
only n = SideIs.Answer (number_reply n)

port_fits : beside two_listeners (port_of 0) (only 65535)
unfolding known_row_of all_rows
port_fits = record { form = record { result = omega arith; count = tt; text = refl; word = refl }; own = tt }

port_above : beside two_listeners (port_of 0) (only 65536) → ⊥
unfolding known_row_of all_rows
port_above fit = let h : 65536 ≤ 65535 = fit.form.result in omega arith

port_waits : (beside two_listeners (port_of 0) SideIs.Pending → ⊥) × (beside two_listeners (port_of 0) SideIs.Opened → ⊥)
unfolding known_row_of all_rows
port_waits = (λ fit. fit, λ fit. fit)

accept_fails : beside two_listeners (accept_of 0) (only 1) × beside two_listeners (accept_of 0) (only 12)
unfolding known_row_of all_rows
accept_fails = (
  record { form = record { result = (1, omega arith, refl); count = tt; text = refl; word = refl }; own = record { full = refl; unopened = refl } },
  record { form = record { result = (3, omega arith, refl); count = tt; text = refl; word = refl }; own = record { full = refl; unopened = refl } },
)

-- THE ORDER OF JUDGEMENT: areas, traffic, and then each call's own faults in their order.

abbrev judged : Part → Request → Judgement
judged part request = judge (start_of 1) part request

-- an area passes the end of the memory
abbrev outside : Request → Request
outside request = record request { fits = false }

abbrev last : ℕ
last = 2 ^ 64 - 1

abbrev no_message : Part
no_message = record no_part { handles = 5 ∷ [] }

abbrev with_slots : ℕ → Part
with_slots n = record no_part {
  handles = 5 ∷ [];
  scratch = Some (unread (record { tag = 0; bytes = 1 ∷ 2 ∷ 3 ∷ []; slots = None ∷ Some 7 ∷ replicate n None }));
}

bare : (judged no_message (outside (plain 1 (0 ∷ 8 ∷ []))) ≡ Faulty FaultIs.BadPointer)
    × (judged no_message (outside (plain 31 (9 ∷ 0 ∷ 0 ∷ 0 ∷ []))) ≡ Faulty FaultIs.BadPointer)
    × (judged no_message (outside (plain 29 (9 ∷ 0 ∷ []))) ≡ Faulty FaultIs.BadPointer)
    × (judged no_message (outside (request 24 (0 ∷ 0 ∷ 1 ∷ []) [] [])) ≡ Faulty FaultIs.BadPointer)
    × (judged no_message (push_stream 5) ≡ Faulty FaultIs.NoMessage)
    × (judged no_message (push_stream 9) ≡ Faulty FaultIs.NoMessage)
    × (judged no_message (plain 1 (0 ∷ 8 ∷ [])) ≡ Faulty FaultIs.NoMessage)
    × (judged no_message (plain 2 (0 ∷ 8 ∷ [])) ≡ Faulty FaultIs.NoMessage)
    × (judged no_message (plain 3 (last ∷ [])) ≡ Faulty FaultIs.NoMessage)
    × (judged no_message (plain 4 []) ≡ Faulty FaultIs.NoMessage)
    × (judged no_message (plain 5 []) ≡ Faulty FaultIs.NoMessage)
    × (judged no_message (take_stream 0) ≡ Faulty FaultIs.NoMessage)
    × (judged no_message (send 1) ≡ Faulty FaultIs.NoMessage)
    × (judged no_message (create_data 0) ≡ Fit)
    × (judged no_message (receive_any 0) ≡ Fit)
    × (judged no_message (kill 9) ≡ Fit)
    × (judged no_message (link 0 1) ≡ Fit)
    × (judged no_message (plain 11 (0 ∷ [])) ≡ Fit)
    × (judged no_message (sleep_ms 0) ≡ Fit)
    × (judged no_message (spawn_of minus_one 9) ≡ Fit)
    × (judged no_message (connect) ≡ Fit)
    × (judged no_message (plain 27 (0 ∷ 0 ∷ 0 ∷ [])) ≡ Fit)
unfolding known_row_of all_rows
bare = (refl, refl, refl, refl, refl, refl, refl, refl, refl, refl, refl, refl, refl, refl, refl, refl, refl, refl, refl, refl, refl, refl)

sought : (judged (with_slots 0) (plain 3 (3 ∷ [])) ≡ Fit)
    × (judged (with_slots 0) (plain 3 (4 ∷ [])) ≡ Faulty FaultIs.BadSeek)
    × (judged (with_slots 0) (plain 3 (last ∷ [])) ≡ Faulty FaultIs.BadSeek)
unfolding known_row_of all_rows
sought = (refl, refl, refl)

in_slots : (judged (with_slots 0) (push_stream 9) ≡ Faulty FaultIs.NoSuchHandle)
    × (judged (with_slots 0) (push_stream 7) ≡ Faulty FaultIs.NoSuchHandle)
    × (judged (with_slots 0) (plain 31 (7 ∷ 0 ∷ 0 ∷ 0 ∷ [])) ≡ Faulty FaultIs.NoSuchHandle)
    × (judged (with_slots 0) (plain 32 (7 ∷ 0 ∷ 8 ∷ 0 ∷ [])) ≡ Faulty FaultIs.NoSuchHandle)
    × (judged (with_slots 0) (plain 33 (7 ∷ [])) ≡ Faulty FaultIs.NoSuchHandle)
    × (judged (with_slots 0) (take_stream 0) ≡ Faulty FaultIs.EmptyPlace)
    × (judged (with_slots 0) (take_stream 2) ≡ Faulty FaultIs.EmptyPlace)
    × (judged (with_slots 0) (take_stream last) ≡ Faulty FaultIs.EmptyPlace)
    × (judged (with_slots 0) (take_stream 1) ≡ Fit)
    × (judged (with_slots 0) (push_stream 5) ≡ Fit)
    × (judged (with_slots 0) (send 9) ≡ Fit)
    × (judged (with_slots 0) (plain 19 (0 ∷ [])) ≡ Faulty FaultIs.NoSuchConfig)
    × (judged (with_slots 0) (plain 20 (0 ∷ 1 ∷ [])) ≡ Faulty FaultIs.NoSuchConfig)
    × (judged (with_slots 0) (plain 21 (0 ∷ 1 ∷ [])) ≡ Faulty FaultIs.NoSuchConfig)
    × (judged (with_slots 0) (plain 22 (0 ∷ [])) ≡ Faulty FaultIs.NoSuchConfig)
    × (judged (with_slots 0) (plain 23 (0 ∷ [])) ≡ Faulty FaultIs.NoSuchConfig)
    × (judged (with_slots 0) (spawn_of 0 0) ≡ Faulty FaultIs.NoSuchConfig)
    × (judged (with_slots 0) (plain 28 (0 ∷ [])) ≡ Faulty FaultIs.NoSuchListener)
    × (judged (with_slots 0) (plain 29 (0 ∷ 0 ∷ [])) ≡ Faulty FaultIs.NoSuchListener)
    × (judged (with_slots 0) (plain 34 (0 ∷ [])) ≡ Faulty FaultIs.NoSuchListener)
unfolding known_row_of all_rows
in_slots = (refl, refl, refl, refl, refl, refl, refl, refl, refl, refl, refl, refl, refl, refl, refl, refl, refl, refl, refl, refl)

all_pushed : (judged (with_slots 62) (push_stream 9) ≡ Faulty FaultIs.NoSuchHandle)
    × (judged (with_slots 62) (push_stream 5) ≡ Faulty FaultIs.PlacesFull)
    × (judged (with_slots 61) (push_stream 5) ≡ Fit)
unfolding known_row_of all_rows
all_pushed = (refl, refl, refl)

-- a full table
abbrev full_table : Part
full_table = record (with_slots 0) { handles = replicate 256 5 }

table_full : (judged full_table (take_stream 0) ≡ Faulty FaultIs.EmptyPlace)
    × (judged full_table (take_stream 1) ≡ Faulty FaultIs.TableFull)
unfolding known_row_of all_rows
table_full = (refl, refl)

-- the traffic limit is 200
abbrev spent_to : ℕ → Part → Request → Judgement
spent_to traffic part request = judge (record (start_of 1) { limits = record { pages = 64; fuel = 1000; traffic = 200 } }) (record part { traffic = traffic }) request

near_limit : (spent_to 136 (with_slots 0) (send 9) ≡ Fit)
    × (spent_to 137 (with_slots 0) (send 9) ≡ Overdrawn)
    × (spent_to 200 no_message (plain 2 (0 ∷ 8 ∷ [])) ≡ Overdrawn)
    × (spent_to 200 no_message (outside (plain 2 (0 ∷ 8 ∷ []))) ≡ Faulty FaultIs.BadPointer)
    × (spent_to 128 no_message (plain 2 (0 ∷ 8 ∷ [])) ≡ Faulty FaultIs.NoMessage)
    × (spent_to 129 no_message (plain 2 (0 ∷ 8 ∷ [])) ≡ Overdrawn)
    × (spent_to 0 (with_slots 0) (plain 1 (0 ∷ 4294967295 ∷ [])) ≡ Overdrawn)
unfolding known_row_of all_rows
near_limit = (refl, refl, refl, refl, refl, refl, refl)

costs : (cost_of (plain 10 []) ≡ 64)
    × (cost_of (plain 1 (0 ∷ 8 ∷ [])) ≡ 72)
    × (cost_of (plain 9 (0 ∷ 3 ∷ 0 ∷ [])) ≡ 88)
    × (cost_of (plain 12 (0 ∷ 0 ∷ 0 ∷ 0 ∷ 6 ∷ 0 ∷ 34 ∷ 100 ∷ [])) ≡ 64 + 6 + 34 + 8)
    × (cost_of (plain 24 (0 ∷ 5 ∷ 1 ∷ [])) ≡ 69)
    × (cost_of (plain 25 (0 ∷ 5 ∷ 100 ∷ [])) ≡ 77)
    × (cost_of (plain 26 (0 ∷ 5 ∷ [])) ≡ 69)
    × (cost_of (plain 27 (0 ∷ 0 ∷ 0 ∷ [])) ≡ 72)
    × (cost_of (plain 28 (0 ∷ [])) ≡ 64)
    × (cost_of (plain 29 (0 ∷ 0 ∷ [])) ≡ 72)
    × (cost_of (plain 30 (0 ∷ 0 ∷ 0 ∷ [])) ≡ 72)
    × (cost_of (plain 31 (0 ∷ 0 ∷ 10 ∷ 0 ∷ [])) ≡ 78)
    × (cost_of (plain 32 (0 ∷ 0 ∷ 10 ∷ 0 ∷ [])) ≡ 78)
    × (cost_of (plain 33 (0 ∷ [])) ≡ 64)
    × (cost_of (plain 35 (0 ∷ 7 ∷ [])) ≡ 71)
    × (cost_of (plain 2 (0 ∷ 4294967295 ∷ [])) ≡ 64 + 4294967295)
unfolding known_row_of all_rows
costs = (refl, refl, refl, refl, refl, refl, refl, refl, refl, refl, refl, refl, refl, refl, refl, refl)

use Rattle.std.specs.Prelude.{◌≡◌, ℕ, ◌<◌, [], ◌∷◌, Some, None, true, false, replicate, refl}
use native.Mathlib.Omega.{arith}
use Rattle.std.proofs.Common.{inl, inr}
use Rattle.std.proofs.lemmas.List.Elements.{All-nil}
use Rattle.host_port.specs.declared.request.Request.{Request}
use Rattle.host_port.specs.HostTable.{known_row_of, all_rows}
use Rattle.world_rules.specs.declared.entry.Entry.TheVariants as EntryIs
use Rattle.world_rules.specs.declared.entry.Side.{Side}
use Rattle.world_rules.specs.declared.entry.Side.TheVariants as SideIs
use Rattle.world_rules.specs.declared.halt.Halt.TheVariants as HaltIs
use Rattle.world_rules.specs.declared.halt.End.TheVariants as EndIs
use Rattle.world_rules.specs.declared.life.Birth.{Birth}
use Rattle.world_rules.specs.declared.life.Birth.TheVariants.{Refused}
use Rattle.world_rules.specs.Kinds.{may_come}
use Rattle.world_rules.specs.Part.{Part, no_part}
use Rattle.world_rules.specs.World.{World, Doomed, first_world, fresh_process, put}
use Rattle.world_rules.specs.Births.{BirthFits}
use Rattle.world_rules.specs.Rules.{next}
use Rattle.world_rules.specs.Allowed.{SideFits}
use Rattle.world_rules.proofs.Worked.{AreSame, born_of, start_of, plain, connect, read_stream, spawn_linked}
use Rattle.world_rules.proofs.Foretold.{births_to_four, exit}
use Rattle.world_rules.proofs.ForetoldLast.{bind, accept}

-- The reader's bounds, written down when the rules had been read, before they were computed: what may come beside a request of the outside when tables are full, and what a doomed process's retry does.

abbrev with_streams : ℕ → Part
with_streams n = record no_part { handles = replicate n 5; listeners = 0 ∷ [] }

abbrev with_listeners : ℕ → Part
with_listeners n = record no_part { listeners = replicate n 5; next_listener = 20 }

-- this may come beside the request
abbrev fits : Part → Request → Side → Type 0
fits part request side = SideFits (may_come request) (first_world births_to_four) 1 part request side

abbrev only : ℕ → Side
only n = SideIs.Answer (record { result = Some n; word = None; text = None })

-- 0 with a number at 200
abbrev with_number_at : ℕ → Side
with_number_at n = SideIs.Answer (record { result = Some 0; word = Some (record { addr = 200; width = 8; value = n }); text = None })

-- 256 STREAMS. 2, and nothing else.

full_two : fits (with_streams 256) connect (only 2)
unfolding known_row_of all_rows
full_two = record {
  form = record { result = (2, omega arith, refl); count = tt; text = refl; word = refl };
  own = record { full = refl; unopened = refl };
}

full_unopened : fits (with_streams 256) connect SideIs.Opened → ⊥
unfolding known_row_of all_rows
full_unopened fit = let h : true ≡ false = fit in cc

full_no_failure : (fits (with_streams 256) connect (only 1) → ⊥) × (fits (with_streams 256) connect (only 12) → ⊥)
unfolding known_row_of all_rows
full_no_failure = (λ fit. let h : false ≡ true = fit.own.full in cc, λ fit. let h : false ≡ true = fit.own.full in cc)

full_not_pending : fits (with_streams 256) accept SideIs.Pending → ⊥
unfolding known_row_of all_rows
full_not_pending fit = let h : true ≡ false = fit in cc

-- 255: one has a place; 0 comes as an opened stream alone, and a connect is never pending
place_opened : fits (with_streams 255) connect SideIs.Opened × fits (with_streams 255) accept SideIs.Pending
unfolding known_row_of all_rows
place_opened = (refl, refl)

place_no_two : (fits (with_streams 255) connect (only 2) → ⊥) × (fits (with_streams 255) connect (with_number_at 0) → ⊥)
unfolding known_row_of all_rows
place_no_two = (λ fit. let h : true ≡ false = fit.own.full in cc, λ fit. let h : true ≡ false = fit.own.unopened in cc)

connect_not_pending : fits (with_streams 255) connect SideIs.Pending → ⊥
unfolding known_row_of all_rows
connect_not_pending fit = fit

-- 16 LISTENERS

full_bind : fits (with_listeners 16) bind (only 2)
unfolding known_row_of all_rows
full_bind = record {
  form = record { result = (2, omega arith, refl); count = tt; text = refl; word = refl };
  own = record { full = refl; number = λ zero. let h : false ≡ true = zero in absurd cc };
}

full_bind_no_failure : fits (with_listeners 16) bind (only 1) → ⊥
unfolding known_row_of all_rows
full_bind_no_failure fit = let h : false ≡ true = fit.own.full in cc

next_bind : fits (with_listeners 15) bind (with_number_at 20)
unfolding known_row_of all_rows
next_bind = record {
  form = record {
    result = (0, omega arith, refl);
    count = tt;
    text = refl;
    word = record { addr = refl; width = refl; fits = omega arith; value = tt };
  };
  own = record { full = refl; number = λ zero. refl };
}

other_bind : fits (with_listeners 15) bind (with_number_at 3) → ⊥
unfolding known_row_of all_rows
other_bind fit = let h : AreSame 3 20 = fit.own.number refl in omega arith

-- A READ OF NO BYTES

abbrev read_none : Request
read_none = plain 31 (0 ∷ 300 ∷ 0 ∷ 400 ∷ [])

abbrev nothing_read : Side
nothing_read = SideIs.Answer (record {
  result = Some 0;
  word = Some (record { addr = 400; width = 4; value = 0 });
  text = Some (record { addr = 300; bytes = [] });
})

none_answered : fits (with_streams 1) read_none nothing_read
unfolding known_row_of all_rows
none_answered = record {
  form = record {
    result = (0, omega arith, refl);
    count = tt;
    text = record {
      octets = All-nil (λ b. b < 256);
      addr = refl;
      within = omega arith;
      most = omega arith;
      counted = tt;
    };
    word = record { addr = refl; width = refl; fits = omega arith; value = refl };
  };
  own = λ none. record { result = refl; count = refl };
}

none_no_failure : fits (with_streams 1) read_none (only 1) → ⊥
unfolding known_row_of all_rows
none_no_failure fit = let h : false ≡ true = (fit.own refl).result in cc

none_not_pending : fits (with_streams 1) read_none SideIs.Pending → ⊥
unfolding known_row_of all_rows
none_not_pending fit = let h : 0 < 0 = fit in omega arith

-- A DOOMED RETRY. The row is broken; the stream has waited once more, and is closed.

abbrev w_doomed : World
w_doomed = record (first_world births_to_four) {
  process =
      put (first_world births_to_four).process 2
      (record (fresh_process (start_of 2) (Doomed 0 EndIs.Killed)) { part = with_streams 1; owed = Some (read_stream 5); fuel = 7 });
  numbers_drawn = 2;
  row = 2;
}

abbrev w_retried : World
w_retried = next births_to_four w_doomed (EntryIs.Give 0 2 [] 7 HaltIs.Again SideIs.Pending)

doomed_retry : (w_retried.row ≡ 0) × ((w_retried.streamed 5).waits ≡ 1) × (w_retried.exits ≡ exit 2 EndIs.Killed ∷ [])
    × (w_retried.closed ≡ 5 ∷ []) × (w_retried.ready ≡ 1 ∷ [])
unfolding known_row_of all_rows
doomed_retry = (refl, refl, refl, refl, refl)

-- A MILLION NUMBERS. A spawn is answered 3, and no child is born.

abbrev w_million : World
w_million = record (first_world births_to_four) { numbers_drawn = 1000000 }

abbrev birth_fits : Birth → Type 0
birth_fits birth = BirthFits None w_million (w_million.process 1) (spawn_linked 0) SideIs.Nothing (Some birth)

numberless : birth_fits (Refused 3)
unfolding known_row_of all_rows
numberless = inr (inl (record { answer = refl; beside = refl; place = tt; drawn = omega arith }))

no_child : birth_fits (born_of 1000001) → ⊥
unfolding known_row_of all_rows
no_child born = let h : 1000000 < 1000000 = born.number in omega arith

use Rattle.std.specs.Prelude.{◌≡◌, ℕ, ◌≤◌, List, [], ◌∷◌, ◌++◌, Option, Some, None, true, false, refl}
use native.Mathlib.Omega.{arith}
use Rattle.std.proofs.Common.{subst, sym}
use Rattle.std.specs.Option.{unwrap_or}
use Rattle.host_port.specs.declared.call.Call.{Call}
use Rattle.host_port.specs.declared.reply.Reply.{Reply}
use Rattle.host_port.specs.HostTable.{known_row_of, all_rows}
use Rattle.world_rules.specs.declared.entry.Entry.{Entry}
use Rattle.world_rules.specs.declared.entry.Entry.TheVariants as EntryIs
use Rattle.world_rules.specs.declared.entry.Side.{Side}
use Rattle.world_rules.specs.declared.entry.Side.TheVariants as SideIs
use Rattle.world_rules.specs.declared.halt.Halt.{Halt}
use Rattle.world_rules.specs.declared.halt.Halt.TheVariants as HaltIs
use Rattle.world_rules.specs.declared.halt.HostFault.TheVariants as FaultIs
use Rattle.world_rules.specs.declared.halt.End.{End}
use Rattle.world_rules.specs.declared.halt.End.TheVariants as EndIs
use Rattle.world_rules.specs.declared.life.Birth.{Birth}
use Rattle.world_rules.specs.World.{World}
use Rattle.world_rules.specs.Allowed.{Allowed}
use Rattle.world_rules.proofs.Worked.{AreSame, born_of, plain, numbered, silent, create_data, send, receive_any, connect, read_stream, take_by, turn_beside, world_after}

-- GIVES. Process 1 is out to worker 0, without a scratch message and with nothing owed.

abbrev births : List Birth
births = born_of 1 ∷ []

abbrev w_out : World
w_out = world_after births (take_by 0 1 ∷ [])

abbrev give : List Call → ℕ → Halt → Side → Entry
give calls fuel halt side = EntryIs.Give 0 1 calls fuel halt side

-- the number that a reply gives
abbrev number_in : Option Reply → ℕ
number_in None = 0
number_in (Some reply) = unwrap_or reply.result 0

-- an end is want of memory
abbrev IsWant : End → Type 0
IsWant EndIs.NoMemory = Unit {0}
IsWant _ = ⊥

is_no_want : EndIs.Done ≡ EndIs.NoMemory → ⊥
unfolding known_row_of all_rows
is_no_want same = subst IsWant (sym same) tt

-- allowed
abbrev may : World → Entry → Type 0
may w entry = Allowed None births w entry

-- it may end Done after 2 of fuel, and no more than 10,000
done_fits : may w_out (give [] 2 HaltIs.Done SideIs.Nothing)
unfolding known_row_of all_rows
done_fits = record {
  away = refl;
  turn = record { grown = omega arith; burnt = omega arith; answered = omega arith; local = tt; halted = (refl, tt) };
}

too_much_fuel : may w_out (give [] 10001 HaltIs.Done SideIs.Nothing) → ⊥
unfolding known_row_of all_rows
too_much_fuel allowed = let h : 10001 ≤ 10000 = allowed.turn.burnt in omega arith

-- only the worker that has it gives it back, and only what is out
other_worker : may w_out (EntryIs.Give 1 1 [] 2 HaltIs.Done SideIs.Nothing) → ⊥
unfolding known_row_of all_rows
other_worker allowed = let h : AreSame 0 1 = allowed.away in omega arith

not_out : may (world_after births []) (give [] 2 HaltIs.Done SideIs.Nothing) → ⊥
unfolding known_row_of all_rows
not_out allowed = allowed.away

-- a local call is answered in the turn, with its reply, and isn't asked
local_answered : may w_out (give (numbered (plain 10 []) 1 ∷ []) 2 HaltIs.Done SideIs.Nothing)
unfolding known_row_of all_rows
local_answered = record {
  away = refl;
  turn = record { grown = omega arith; burnt = omega arith; answered = omega arith; local = (refl, tt); halted = (refl, tt) };
}

wrong_reply : may w_out (give (numbered (plain 10 []) 2 ∷ []) 2 HaltIs.Done SideIs.Nothing) → ⊥
unfolding known_row_of all_rows
wrong_reply allowed =
    let h : ◌≡◌ {A = Option Reply} (Some (numbered (plain 10 []) 1).reply) (Some (numbered (plain 10 []) 2).reply) = allowed.turn.local.0 in
    let n : AreSame 1 2 = λ i. number_in (h i) in omega arith

local_asked : may w_out (give [] 2 (HaltIs.Asks (plain 10 [])) SideIs.Nothing) → ⊥
unfolding known_row_of all_rows
local_asked allowed = let h : true ≡ false = allowed.turn.halted.kind in cc

-- an end by a fault is the fault that the request is judged, and no other; a fit request is no fault
no_message_fits : may w_out (give [] 2 (HaltIs.Host FaultIs.NoMessage (send 1)) SideIs.Nothing)
unfolding known_row_of all_rows
no_message_fits = record {
  away = refl;
  turn = record { grown = omega arith; burnt = omega arith; answered = omega arith; local = tt; halted = (refl, refl) };
}

-- an ask has beside it what may come beside its call: a receive the clock, a call of the world nothing
asks_clock : may w_out (give [] 2 (HaltIs.Asks (receive_any 5)) (SideIs.Clock 9))
unfolding known_row_of all_rows
asks_clock = record {
  away = refl;
  turn = record {
    grown = omega arith;
    burnt = omega arith;
    answered = omega arith;
    local = tt;
    halted = record { kind = refl; judged = refl; beside = record { side = tt; birth = tt } };
  };
}

asks_without_clock : may w_out (give [] 2 (HaltIs.Asks (receive_any 5)) SideIs.Nothing) → ⊥
unfolding known_row_of all_rows
asks_without_clock allowed = allowed.turn.halted.beside.side

-- memory is refused to a send that would be answered 0, and to no other
refused_to_itself : may w_out (give (silent (create_data 5) ∷ []) 2 (HaltIs.Asks (send 1)) SideIs.NoMemory)
unfolding known_row_of all_rows
refused_to_itself = record {
  away = refl;
  turn = record {
    grown = omega arith;
    burnt = omega arith;
    answered = omega arith;
    local = (refl, tt);
    halted = record {
      kind = refl;
      judged = refl;
      beside = record { side = record { refusable = refl; performed = refl; lost = refl }; birth = tt };
    };
  };
}

refused_to_nobody : may w_out (give (silent (create_data 5) ∷ []) 2 (HaltIs.Asks (send 9)) SideIs.NoMemory) → ⊥
unfolding known_row_of all_rows
refused_to_nobody allowed = let h : AreSame 1 0 = allowed.turn.halted.beside.side.lost in omega arith

-- Again stands only where a request is owed; and then the turn has no calls, burns no fuel, and ends Again or for want of memory
no_again : may w_out (give [] 2 HaltIs.Again SideIs.Pending) → ⊥
unfolding known_row_of all_rows
no_again allowed = allowed.turn.halted

abbrev w_owing : World
w_owing =
    world_after births
    (turn_beside SideIs.Opened 1 [] 1 connect ++ turn_beside SideIs.Pending 1 [] 2 (read_stream 0) ++ take_by 0 1 ∷ [])

again_fits : may w_owing (give [] 2 HaltIs.Again SideIs.Pending)
unfolding known_row_of all_rows
again_fits = record { away = refl; turn = record { calls = refl; fuel = refl; halted = record { side = omega arith; birth = tt } } }

starves_again : may w_owing (give [] 2 HaltIs.NoMemory SideIs.Nothing)
unfolding known_row_of all_rows
starves_again = record { away = refl; turn = record { calls = refl; fuel = refl; halted = (refl, refl) } }

no_fuel_again : may w_owing (give [] 3 HaltIs.Again SideIs.Pending) → ⊥
unfolding known_row_of all_rows
no_fuel_again allowed = let h : AreSame 3 2 = allowed.turn.fuel in omega arith

no_end_again : may w_owing (give [] 2 HaltIs.Done SideIs.Nothing) → ⊥
unfolding known_row_of all_rows
no_end_again allowed = is_no_want allowed.turn.halted.0

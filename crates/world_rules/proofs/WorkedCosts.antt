use Rattle.std.specs.Prelude.{◌≡◌, ℕ, List, [], ◌∷◌, length, map, Some, false, codes, refl}
use Rattle.host_port.specs.declared.start.Start.{Start}
use Rattle.host_port.specs.Rows.{Row}
use Rattle.host_port.specs.declared.row.Kind.{Kind}
use Rattle.host_port.specs.declared.row.Kind.TheVariants.{Local, World, Outside}
use Rattle.host_port.specs.HostTable.{known_row_of, all_rows}
use Rattle.world_rules.specs.declared.halt.HostFault.TheVariants as FaultIs
use Rattle.world_rules.specs.Calls.{all_calls}
use Rattle.world_rules.specs.Part.{Part, no_part, blank_message, unread}
use Rattle.world_rules.specs.Judge.{judge, cost_of, charged, Fit, Overdrawn, Faulty}
use Rattle.world_rules.proofs.Worked.{start_of, request, plain, send, receive_any, receive_tag, read_stream, spawn_linked}

-- WHO PERFORMS A CALL, by rising number: messages but send and receive are local; processes and the registry are the world's, but
-- process_id; configs are local; the network is the outside's, but the two drops; print is local.

abbrev kinds : List Kind
kinds =
    Local ∷ Local ∷ Local ∷ Local ∷ Local ∷ Local ∷ Local ∷ Local ∷ World ∷ World
    ∷ Local ∷ World ∷ World ∷ World ∷ World ∷ World ∷ World ∷ World
    ∷ Local ∷ Local ∷ Local ∷ Local ∷ Local ∷ Local
    ∷ World ∷ World ∷ World
    ∷ Outside ∷ Outside ∷ Outside ∷ Outside ∷ Outside ∷ Outside ∷ Local ∷ Local ∷ Local ∷ []

kinds_of_rows : map (λ (row : Row). row.kind) all_rows ≡ kinds
unfolding known_row_of all_rows
kinds_of_rows = refl

one_name_each : length all_calls ≡ length all_rows
unfolding known_row_of all_rows
one_name_each = refl

-- WHAT A CALL COSTS: 64, and the lengths of its areas. process_id has none; a receive of one tag reads 8 bytes; a read of a stream
-- writes its 64 bytes and a word of 4; a spawn reads its name of 6 and writes a word of 8.
costs_nothing_more : cost_of (plain 10 []) ≡ 64
unfolding known_row_of all_rows
costs_nothing_more = refl

costs_a_tag : (cost_of (receive_any 0) ≡ 64) × (cost_of (receive_tag 5 0) ≡ 72)
unfolding known_row_of all_rows
costs_a_tag = (refl, refl)

costs_a_read : (cost_of (read_stream 0) ≡ 132) × (cost_of (spawn_linked 0) ≡ 78)
unfolding known_row_of all_rows
costs_a_read = (refl, refl)

-- With a traffic limit of 63 a call of process_id is overdrawn, with 64 it is fit; after it, it is overdrawn.
abbrev with_traffic : ℕ → Start
with_traffic traffic = record (start_of 1) { limits = record { pages = 64; fuel = 1000000000; traffic = traffic } }

overdrawn_at_63 : judge (with_traffic 63) no_part (plain 10 []) ≡ Overdrawn
unfolding known_row_of all_rows
overdrawn_at_63 = refl

fit_at_64 : judge (with_traffic 64) no_part (plain 10 []) ≡ Fit
unfolding known_row_of all_rows
fit_at_64 = refl

fit_only_once : judge (with_traffic 64) (charged (plain 10 []) no_part) (plain 10 []) ≡ Overdrawn
unfolding known_row_of all_rows
fit_only_once = refl

-- Areas are judged before traffic, and traffic before the call's own faults.
areas_first : judge (with_traffic 0) no_part (record (send 1) { fits = false }) ≡ Faulty FaultIs.BadPointer
unfolding known_row_of all_rows
areas_first = refl

traffic_next : judge (with_traffic 63) no_part (send 1) ≡ Overdrawn
unfolding known_row_of all_rows
traffic_next = refl

own_fault_last : judge (with_traffic 64) no_part (send 1) ≡ Faulty FaultIs.NoMessage
unfolding known_row_of all_rows
own_fault_last = refl

-- a seek may go to the size and no further
abbrev of_two : Part
of_two = record no_part { scratch = Some (unread (record (blank_message 1) { bytes = 7 ∷ 8 ∷ [] })) }

seeks : (judge (start_of 1) of_two (plain 3 (2 ∷ [])) ≡ Fit) × (judge (start_of 1) of_two (plain 3 (3 ∷ [])) ≡ Faulty FaultIs.BadSeek)
unfolding known_row_of all_rows
seeks = (refl, refl)

-- a spawn with no config, and with one that isn't there; a config that isn't there; a listener that isn't there
configs : (judge (start_of 1) no_part (spawn_linked 0) ≡ Fit)
    × (judge (start_of 1) no_part (request 12 (0 ∷ 0 ∷ 0 ∷ 0 ∷ 6 ∷ 0 ∷ 0 ∷ 100 ∷ []) (codes "_start") []) ≡ Faulty FaultIs.NoSuchConfig)
    × (judge (start_of 1) no_part (plain 22 (0 ∷ [])) ≡ Faulty FaultIs.NoSuchConfig)
unfolding known_row_of all_rows
configs = (refl, refl, refl)

no_listener : judge (start_of 1) no_part (plain 29 (0 ∷ 0 ∷ [])) ≡ Faulty FaultIs.NoSuchListener
unfolding known_row_of all_rows
no_listener = refl

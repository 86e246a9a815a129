use Rattle.std.specs.Prelude.{ℕ, List, ◌++◌, length, Option, Some, None, Bool, if◌then◌else◌}
use Rattle.std.specs.Option.{option_map_or}
use Rattle.host_port.specs.declared.call.Call.{Call}
use Rattle.host_port.specs.declared.request.Request.{Request}
use Rattle.world_rules.specs.declared.entry.Side.{Side}
use Rattle.world_rules.specs.declared.halt.Halt.{Halt}
use Rattle.world_rules.specs.Views.{asked_in}
use Rattle.world_rules.specs.Calls.{call_of}
use Rattle.world_rules.specs.Arrivals as Came
use Rattle.world_rules.specs.Judge.{charged}
use Rattle.world_rules.specs.Local.{part_after}
use Rattle.world_rules.specs.Handles.{moves_of, closings_of}
use Rattle.world_rules.specs.Streams.{streamed_by}
use Rattle.world_rules.specs.World.{World, Process, with_process, with_moves, with_closed}
use Rattle.world_rules.specs.Changes.{with_arrival}
use Rattle.world_rules.specs.Rules.{gives_after}

-- The pieces of what is recorded of a Give.

-- the process after a turn with these calls and this fuel, which ended so
abbrev pub turned_by : Process → List Call → ℕ → Halt → Process
turned_by p calls fuel halt = record p {
  part = option_map_or (λ (request : Request). charged request (part_after p.start p.part calls))
      (asked_in halt) (part_after p.start p.part calls);
  fuel = fuel;
  calls = p.calls ++ calls;
  gives = gives_after p;
}

-- the world with the turn of a process, and with the moves and the closings of its calls
abbrev pub turn_put : World → ℕ → List Call → ℕ → Halt → World
turn_put w pid calls fuel halt =
    let p = w.process pid in
    with_closed
    (with_moves (with_process w pid (turned_by p calls fuel halt)) (moves_of pid p.start p.part calls))
    (closings_of p.start p.part calls)

-- what was streamed by what came beside a request is counted
abbrev pub streamed_for : Option Request → Side → World → World
streamed_for None side w = w
streamed_for (Some request) side w = record w { streamed = streamed_by (call_of request) request side w.streamed }

-- want of memory arrives at the process, if it came
abbrev pub starved_so : Bool → World → ℕ → List Call → World
starved_so starved w pid calls = if starved then with_arrival w pid (Came.Starved (length calls)) else w

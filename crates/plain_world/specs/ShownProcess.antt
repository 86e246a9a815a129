use Rattle.std.specs.Prelude.{ℕ, List, slice_get}
use Rattle.std.specs.Option.{option_map_or}
use Rattle.plain_part.specs.Shown.{shown_part}
use Rattle.plain_world.specs.declared.process.PlainProcess.{PlainProcess}
use Rattle.plain_world.specs.Stage.{shown_stage}
use Rattle.world_rules.specs.World.{Process, Unborn, no_start, fresh_process}

-- a plain process shows a process: all of it
abbrev pub shown_process : PlainProcess → Process
shown_process plain = record {
  start = plain.start;
  stage = shown_stage plain.stage;
  part = shown_part plain.part;
  fuel = plain.fuel;
  calls = plain.calls;
  owed = plain.owed;
  mail = plain.mail;
  deadline = plain.deadline;
  dies = plain.dies;
  gives = plain.gives;
  arrivals = plain.arrivals.items;
}

-- nobody was born with the number
abbrev pub nobody : Process
nobody = fresh_process no_start Unborn

-- the process of each number: the one at that place
abbrev pub process_in : List PlainProcess → ℕ → Process
process_in processes pid = option_map_or shown_process (slice_get processes pid) nobody

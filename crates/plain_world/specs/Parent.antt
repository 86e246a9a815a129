use Rattle.host_port.specs.declared.start.Start.{Start}
use Rattle.world_rules.specs.Part.{Part}
use Rattle.world_rules.specs.World.{Process, Ready, fresh_process}

-- a process with this start and this part; a spawn and what comes beside a request read no more of it
abbrev pub parent_of : Start → Part → Process
parent_of start part = record (fresh_process start Ready) { part = part }

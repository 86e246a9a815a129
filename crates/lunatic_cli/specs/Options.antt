-- How process 1 starts, by the options of its run.
use Rattle.std.specs.Prelude.{[]}
use Rattle.host_port.specs.declared.start.Start.{Start}
use Rattle.command_words.specs.declared.options.Options.{Options}

-- process 1 enters the entry function of module 0 without parameters, within these limits
abbrev pub first_start : Options → Start
first_start options = record { pid = 1; «module» = 0; entry = options.entry; params = []; limits = options.limits }

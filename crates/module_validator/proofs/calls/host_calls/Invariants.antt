use Rattle.std.proofs.Common.{◌≡◌, take}
use Rattle.std.specs.Prelude.{filter_map}
use Rattle.module_validator.specs.Calls.{call_of}
use Rattle.module_validator.proofs.calls.host_calls.Given as goal

abbrev pub invariant-loop-import : goal.invariant-loop-import
invariant-loop-import l = l.calls.items ≡ filter_map call_of (take l.import-index l.import-items)

use Rattle.std.proofs.Common.{map, take}
use Rattle.wasm_form.specs.declared.parts.Export.{Export}
use Rattle.module_validator.proofs.Names.{Holds, Apart}
use Rattle.module_validator.proofs.exports.has_distinct_names.Given as goal

abbrev pub invariant-loop-export : goal.invariant-loop-export
invariant-loop-export l = record {
  held : Holds l.names (take l.export-index (map (λ (e : Export). e.name) l.exports));
  apart : Apart (take l.export-index (map (λ (e : Export). e.name) l.exports));
}

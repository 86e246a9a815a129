use Rattle.std.proofs.Common.{◌≡◌, map, take}
use Rattle.std.specs.Prelude.{unwrap_or}
use Rattle.wasm_form.specs.declared.parts.GlobalDef.{GlobalDef}
use Rattle.tree_machine.specs.Instantiation.{value_of}
use Rattle.instance_store.proofs.globals.new_globals.Given as goal

abbrev pub invariant-loop-global : goal.invariant-loop-global
invariant-loop-global l = l.values.items ≡ map (λ (g : GlobalDef). unwrap_or (value_of g.init) 0) (take l.global-index l.globals)

use Rattle.std.proofs.Common.{◌≡◌, ◌++◌, take, map}
use Rattle.wasm_form.specs.declared.parts.GlobalDef.{GlobalDef}
use Rattle.wasm_form.specs.Context.{imported_globals}
use Rattle.body_validator.proofs.module_context.all_globals.Given as goal

abbrev pub invariant-loop-global : goal.invariant-loop-global
invariant-loop-global l = record {
  so_far : l.globals.items ≡ imported_globals l.fn.«module» ++ map (λ (g : GlobalDef). g.ty) (take l.global-index l.own);
}

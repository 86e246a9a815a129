use Rattle.std.proofs.Common.{◌≡◌, List, [], ◌∷◌, sym, subst, rules}
use Rattle.wasm_form.specs.Start.{start_parts}
use Rattle.wasm_form.specs.Trees.{end_instr}
use Rattle.wasm_form.specs.Modules.{IsSpelled}
use Rattle.wasm_form.specs.declared.instr.Instr.{Instr}
use Rattle.wasm_form.proofs.StartSpelled.{nop_instr, nop_is_spelled}
use Rattle.body_validator.proofs.Valid.{start_single}
use Rattle.body_validator.proofs.tests.nothing.Goals as goal

pub start_module-requires : goal.start_module-requires
start_module-requires c =
    let code_is : c.push-2.new.self ≡ nop_instr ∷ end_instr ∷ [] = search rules in
    record { spelled = subst (λ (l : List Instr). IsSpelled (start_parts l)) (sym code_is) nop_is_spelled }

pub returns : goal.returns
returns c = start_single c.in_ok-module.module _ c.in_ok-module.ensures

use Rattle.std.proofs.Common.{◌≡◌, List, [], ◌∷◌, ap, sym, subst, rules}
use Rattle.wasm_form.specs.Start.{start_parts}
use Rattle.wasm_form.specs.Trees.{end_instr}
use Rattle.wasm_form.specs.Modules.{IsSpelled}
use Rattle.wasm_form.specs.Validity.{KeepsRules}
use Rattle.wasm_form.specs.Profile.{HasFewLocals, HasFewParameters}
use Rattle.wasm_form.specs.declared.instr.Instr.{Instr}
use Rattle.wasm_form.specs.declared.parts.Parts.{Parts}
use Rattle.wasm_form.proofs.StartSpelled.{nop_instr, nop_is_spelled}
use Rattle.code_map.specs.Callees.{imported_of}
use Rattle.code_map.proofs.Smallest.{keeps_rules, few_locals, few_parameters}
use Rattle.code_map.proofs.tests.nothing.Goals as goal

pub start_module-requires : goal.start_module-requires
start_module-requires c =
    let code_is : c.push-2.new.self ≡ nop_instr ∷ end_instr ∷ [] = search rules in
    record { spelled = subst (λ (l : List Instr). IsSpelled (start_parts l)) (sym code_is) nop_is_spelled }

pub returns : goal.returns
returns c = record {
  rules = subst (λ (m : Parts). KeepsRules m) (sym c.in_ok-module.ensures) (keeps_rules c.push-2.new.self);
  locals = subst (λ (m : Parts). HasFewLocals m) (sym c.in_ok-module.ensures) (few_locals c.push-2.new.self);
  parameters = subst (λ (m : Parts). HasFewParameters m) (sym c.in_ok-module.ensures) (few_parameters c.push-2.new.self);
  imports = ap (λ (m : Parts). imported_of m) c.in_ok-module.ensures;
}

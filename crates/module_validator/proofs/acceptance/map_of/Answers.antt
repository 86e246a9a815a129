use Rattle.std.proofs.Common.{length, ap, ◌∙◌}
use Rattle.wasm_form.specs.Profile.{FewLocals, FewParameters}
use Rattle.module_validator.proofs.HostCalls.{as_many_calls}
use Rattle.module_validator.proofs.acceptance.map_of.Goals as goal

pub of-requires-clause-locals : goal.of-requires-clause-locals
of-requires-clause-locals c = c.requires.inside FewLocals

pub of-requires-clause-parameters : goal.of-requires-clause-parameters
of-requires-clause-parameters c = c.requires.inside FewParameters

pub of-requires-clause-calls : goal.of-requires-clause-calls
of-requires-clause-calls c = ap length (c.as_slice.ensures.value ∙ c.in_ok-calls.ensures) ∙ as_many_calls c.args.module.now c.requires

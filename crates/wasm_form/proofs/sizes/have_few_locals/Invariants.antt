use Rattle.std.proofs.Common.{All, take}
use Rattle.wasm_form.specs.Spellable.{HasFewLocals}
use Rattle.wasm_form.proofs.sizes.have_few_locals.Given as goal

abbrev pub invariant-loop-body : goal.invariant-loop-body
invariant-loop-body l = All HasFewLocals (take l.body-index l.bodies)

-- What a module has so that a map can be made of it.
use Rattle.std.specs.Prelude.{◌≡◌, ◌<◌, ◌+◌, ◌^◌, length, All}
use Rattle.wasm_form.specs.declared.body.Body.{Body}
use Rattle.wasm_form.specs.declared.parts.Parts.{Parts}
use Rattle.wasm_form.specs.Matching.{IsTree}
use Rattle.wasm_form.specs.Context.{functions_of}
use Rattle.wasm_form.specs.Validity.{HasSingleResults, HasFunctionTypes}
use Rattle.wasm_form.specs.Profile.{HasFewLocals, HasFewParameters}
use Rattle.code_map.specs.declared.callees.Calling.{Calling}
use Rattle.code_map.specs.Callees.{locals_in, imported_of, AreClasses}

-- the sizes, types and trees of a module that is valid and inside the profile
pub record IsReady (m : Parts) : Type 0 where
  pub results : HasSingleResults m
  pub typed : HasFunctionTypes m
  pub parameters : HasFewParameters m
  pub few_locals : HasFewLocals m
  pub counts : length m.functions ≡ length m.bodies
  pub types : length m.types < 2 ^ 32
  pub bodies : length m.bodies < 2 ^ 32
  pub trees : All (λ (b : Body). IsTree b.expr) m.bodies
  pub short : All (λ (b : Body). length b.expr.code + length b.expr.labels < 2 ^ 32) m.bodies
  pub locals : All (λ (b : Body). locals_in b < 2 ^ 32) m.bodies

-- what was made of the module for its callees
pub record IsCalling (c : Calling) : Type 0 where
  pub ready : IsReady c.parts.now
  pub functions : c.functions.now ≡ functions_of c.parts.now
  pub imported : c.imported ≡ length (imported_of c.parts.now)
  pub calls : length c.calls.now ≡ c.imported
  pub classes : AreClasses c.parts.now.types c.classes.now

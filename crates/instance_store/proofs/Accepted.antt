-- What an accepted module has.
use Rattle.std.specs.Prelude.{All}
use Rattle.std.proofs.lemmas.List.Elements.{All-weaker}
use Rattle.wasm_form.specs.declared.value_type.ValType.{ValType}
use Rattle.wasm_form.specs.declared.value_type.ValType.TheVariants.{I32}
use Rattle.wasm_form.specs.declared.expr.Expr.{Expr}
use Rattle.wasm_form.specs.declared.parts.GlobalDef.{GlobalDef}
use Rattle.wasm_form.specs.declared.parts.Element.{Element}
use Rattle.wasm_form.specs.declared.parts.Segment.{Segment}
use Rattle.wasm_form.specs.declared.parts.Parts.{Parts}
use Rattle.wasm_form.specs.Context.{memories_of}
use Rattle.wasm_form.specs.Profile.{ImportsFunctions}
use Rattle.wasm_form.specs.Profile as profile
use Rattle.wasm_form.specs.Validity.{IsConstantExpr, IsLimits, IsElement, IsSegment}
use Rattle.wasm_form.specs.Validity as validity
use Rattle.wasm_form.specs.Verdict.{IsAccepted}
use Rattle.module_validator.specs.Host.{host}
use Rattle.module_validator.proofs.FunctionsAlone.{constant_instr}
use Rattle.instance_store.specs.Constants.{IsOneConstant}

module _ (m : Parts) (accepted : IsAccepted host m) where
  -- every import is a function
  pub functions_alone : ImportsFunctions m
  functions_alone = accepted.inside profile.FunctionsAlone

  one_constant : (e : Expr) (t : ValType) → IsConstantExpr m e t → IsOneConstant e
  one_constant e t is =
      record { instr = is.0; ty = t; flat = is.1; constant = constant_instr m functions_alone is.0 t is.2 }

  -- the expression of each global is one constant
  pub constant_globals : All (λ (g : GlobalDef). IsOneConstant g.init) m.globals
  constant_globals =
      All-weaker (λ (g : GlobalDef). IsConstantExpr m g.init g.ty.ty) (λ (g : GlobalDef). IsOneConstant g.init)
      (λ g is. one_constant g.init g.ty.ty is) m.globals (accepted.valid.rules validity.ConstantGlobals)

  -- the offset of each element segment is one constant
  pub constant_elements : All (λ (e : Element). IsOneConstant e.offset) m.elements
  constant_elements =
      All-weaker (λ (e : Element). IsElement m e) (λ (e : Element). IsOneConstant e.offset)
      (λ e is. one_constant e.offset I32 is.offset) m.elements (accepted.valid.rules validity.Elements)

  -- the offset of each data segment is one constant
  pub constant_segments : All (λ (s : Segment). IsOneConstant s.offset) m.segments
  constant_segments =
      All-weaker (λ (s : Segment). IsSegment m s) (λ (s : Segment). IsOneConstant s.offset)
      (λ s is. one_constant s.offset I32 is.offset) m.segments (accepted.valid.rules validity.Segments)

  -- the minimum of a memory is not above its maximum
  pub memory_limits : All IsLimits (memories_of m)
  memory_limits = (accepted.valid.rules validity.Limits).memories

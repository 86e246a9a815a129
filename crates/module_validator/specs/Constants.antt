-- Words for the items of a module's lists.
use Rattle.wasm_form.specs.declared.parts.GlobalDef.{GlobalDef}
use Rattle.wasm_form.specs.declared.parts.Segment.{Segment}
use Rattle.wasm_form.specs.declared.parts.Parts.{Parts}
use Rattle.wasm_form.specs.Validity.{IsConstantExpr, IsSegment}

-- the global's expression is constant and of the global's type
unfoldable pub IsConstantGlobal : Parts → GlobalDef → Type 0
IsConstantGlobal m g = IsConstantExpr m g.init g.ty.ty

-- the data segment's memory is there, and its offset is constant
unfoldable pub IsDataSegment : Parts → Segment → Type 0
IsDataSegment m s = IsSegment m s

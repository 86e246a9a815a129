-- Which parts some bytes spell, where the matching places are left aside.
use Rattle.std.specs.Prelude.{◌^◌, ◌<◌, [], map, All, sum_by}
use Rattle.wasm_form.specs.Least.{least_unsigned, least_vector, least_func_type, least_limits, least_table_type, least_import, least_global, least_export, least_element, least_body, least_segment}
use Rattle.wasm_form.specs.Matching.{IsTree}
use Rattle.wasm_form.specs.declared.expr.Expr.{Expr}
use Rattle.wasm_form.specs.declared.body.Body.{Body}
use Rattle.wasm_form.specs.declared.parts.GlobalDef.{GlobalDef}
use Rattle.wasm_form.specs.declared.parts.Element.{Element}
use Rattle.wasm_form.specs.declared.parts.Segment.{Segment}
use Rattle.wasm_form.specs.declared.parts.Parts.{Parts}

-- the same without the matching places
abbrev pub bare_expr : Expr → Expr
bare_expr e = record { code = e.code; labels = e.labels; matches = [] }

abbrev pub bare_body : Body → Body
bare_body body = record { locals = body.locals; expr = bare_expr body.expr }

abbrev pub bare_global : GlobalDef → GlobalDef
bare_global global = record { ty = global.ty; init = bare_expr global.init }

abbrev pub bare_element : Element → Element
bare_element e = record { table = e.table; offset = bare_expr e.offset; functions = e.functions }

abbrev pub bare_segment : Segment → Segment
bare_segment s = record { memory = s.memory; offset = bare_expr s.offset; bytes = s.bytes }

-- the parts without any matching places
abbrev pub without_matches : Parts → Parts
without_matches m = record m {
  globals = map bare_global m.globals;
  elements = map bare_element m.elements;
  segments = map bare_segment m.segments;
  bodies = map bare_body m.bodies;
}

-- the contents of each section, bodies among them, can have a size that is a number of 32 bits
pub record HasSizes (m : Parts) : Type 0 where
  pub types : least_vector least_func_type m.types < 2 ^ 32
  pub imports : least_vector least_import m.imports < 2 ^ 32
  pub functions : least_vector least_unsigned m.functions < 2 ^ 32
  pub tables : least_vector least_table_type m.tables < 2 ^ 32
  pub memories : least_vector least_limits m.memories < 2 ^ 32
  pub globals : least_vector least_global m.globals < 2 ^ 32
  pub exports : least_vector least_export m.exports < 2 ^ 32
  pub elements : least_vector least_element m.elements < 2 ^ 32
  pub bodies : least_vector least_body m.bodies < 2 ^ 32
  pub segments : least_vector least_segment m.segments < 2 ^ 32

-- Core 1.0, 5.5.13, code section: each body has fewer than 2 ^ 32 locals in all
abbrev pub HasFewLocals : Body → Type 0
HasFewLocals body = sum_by (λ run. run.count) body.locals < 2 ^ 32

-- each expression is a tree, with its matching places
pub record HasTrees (m : Parts) : Type 0 where
  pub globals : All (λ (g : GlobalDef). IsTree g.init) m.globals
  pub elements : All (λ (e : Element). IsTree e.offset) m.elements
  pub segments : All (λ (s : Segment). IsTree s.offset) m.segments
  pub bodies : All (λ (b : Body). IsTree b.expr) m.bodies

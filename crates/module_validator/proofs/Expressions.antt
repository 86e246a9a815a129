-- The expressions of a module, by the lists that they come from.
use Rattle.std.proofs.Common.{List, ◌++◌, map}
use Rattle.std.specs.Prelude.{◌↔◌, All}
use Rattle.wasm_form.specs.declared.expr.Expr.{Expr}
use Rattle.wasm_form.specs.declared.body.Body.{Body}
use Rattle.wasm_form.specs.declared.parts.GlobalDef.{GlobalDef}
use Rattle.wasm_form.specs.declared.parts.Element.{Element}
use Rattle.wasm_form.specs.declared.parts.Segment.{Segment}
use Rattle.wasm_form.specs.declared.parts.Parts.{Parts}
use Rattle.wasm_form.specs.Profile.{IsFloatless, expressions_of}
use Rattle.module_validator.proofs.Lists.{all_append, all_map}

-- no instruction of the expression is on floats
abbrev pub IsFloatlessExpr : Expr → Type 0
IsFloatlessExpr e = All IsFloatless e.code

abbrev global_exprs : Parts → List Expr
global_exprs m = map (λ (g : GlobalDef). g.init) m.globals

abbrev element_exprs : Parts → List Expr
element_exprs m = map (λ (e : Element). e.offset) m.elements

abbrev segment_exprs : Parts → List Expr
segment_exprs m = map (λ (s : Segment). s.offset) m.segments

abbrev body_exprs : Parts → List Expr
body_exprs m = map (λ (b : Body). b.expr) m.bodies

-- the code of a module, by where it stands
pub record IsFloatlessBy (m : Parts) : Type 0 where
  pub globals : All (λ (g : GlobalDef). All IsFloatless g.init.code) m.globals
  pub elements : All (λ (e : Element). All IsFloatless e.offset.code) m.elements
  pub segments : All (λ (s : Segment). All IsFloatless s.offset.code) m.segments
  pub bodies : All (λ (b : Body). All IsFloatless b.expr.code) m.bodies

pub all_expressions : (m : Parts) → IsFloatlessBy m → All IsFloatlessExpr (expressions_of m)
all_expressions m h =
    (all_append IsFloatlessExpr ((global_exprs m ++ element_exprs m) ++ segment_exprs m) (body_exprs m)).1 (
      (all_append IsFloatlessExpr (global_exprs m ++ element_exprs m) (segment_exprs m)).1 (
        (all_append IsFloatlessExpr (global_exprs m) (element_exprs m)).1 (
          (all_map IsFloatlessExpr (λ (g : GlobalDef). g.init) m.globals).1 h.globals,
          (all_map IsFloatlessExpr (λ (e : Element). e.offset) m.elements).1 h.elements,
        ),
        (all_map IsFloatlessExpr (λ (s : Segment). s.offset) m.segments).1 h.segments,
      ),
      (all_map IsFloatlessExpr (λ (b : Body). b.expr) m.bodies).1 h.bodies,
    )

pub in_expressions : (m : Parts) → All IsFloatlessExpr (expressions_of m) → IsFloatlessBy m
in_expressions m h =
    let outer = (all_append IsFloatlessExpr ((global_exprs m ++ element_exprs m) ++ segment_exprs m) (body_exprs m)).0 h in
    let middle = (all_append IsFloatlessExpr (global_exprs m ++ element_exprs m) (segment_exprs m)).0 outer.0 in
    let inner = (all_append IsFloatlessExpr (global_exprs m) (element_exprs m)).0 middle.0 in
    record {
      globals = (all_map IsFloatlessExpr (λ (g : GlobalDef). g.init) m.globals).0 inner.0;
      elements = (all_map IsFloatlessExpr (λ (e : Element). e.offset) m.elements).0 inner.1;
      segments = (all_map IsFloatlessExpr (λ (s : Segment). s.offset) m.segments).0 middle.1;
      bodies = (all_map IsFloatlessExpr (λ (b : Body). b.expr) m.bodies).0 outer.1;
    }

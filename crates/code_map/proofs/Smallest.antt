-- The module of one function, exported as `_start`, keeps the rules, whatever its code.
use Rattle.std.proofs.Common.{◌≡◌, ℕ, zero, suc, ◌<◌, ◌≤◌, ◌+◌, List, [], ◌∷◌, length, Some, None, ap, ◌∙◌, subst, arith, lit<, lit≤}
use Rattle.std.specs.Prelude.{slice_get, sum_by}
use Rattle.std.proofs.lemmas.List.Elements.{All-nil, All-from_recursion}
use Rattle.wasm_form.specs.declared.value_type.ValType.{ValType}
use Rattle.wasm_form.specs.declared.types.FuncType.{FuncType}
use Rattle.wasm_form.specs.declared.instr.Instr.{Instr}
use Rattle.wasm_form.specs.declared.body.Body.{Body}
use Rattle.wasm_form.specs.declared.body.LocalRun.{LocalRun}
use Rattle.wasm_form.specs.declared.parts.GlobalDef.{GlobalDef}
use Rattle.wasm_form.specs.declared.parts.Export.{Export}
use Rattle.wasm_form.specs.Start.{start_parts, body_with}
use Rattle.wasm_form.specs.Validity.{IsLimits, IsWithin, KeepsRules, IsConstantExpr, IsElement, IsSegment}
use Rattle.wasm_form.specs.Validity as rules
use Rattle.wasm_form.specs.Profile.{HasFewLocals, HasFewParameters}

pub keeps_rules : (code : List Instr) → KeepsRules (start_parts code)
keeps_rules code rules.SingleResults = All-from_recursion (λ (ty : FuncType). length ty.results ≤ 1) (start_parts code).types (lit≤ tt, tt)
keeps_rules code rules.FunctionTypes = All-from_recursion (λ index. index < 1) (0 ∷ []) (lit< tt, tt)
keeps_rules code rules.OneTable = lit≤ tt
keeps_rules code rules.OneMemory = lit≤ tt
keeps_rules code rules.Limits = record { tables = All-nil IsLimits; memories = All-nil IsLimits; pages = All-nil (IsWithin 65536) }
keeps_rules code rules.ConstantGlobals = All-nil (λ (g : GlobalDef). IsConstantExpr (start_parts code) g.init g.ty.ty)
keeps_rules code rules.Exported = All-from_recursion (λ (e : Export). e.index < rules.count_of (start_parts code) e.kind) (start_parts code).exports (lit< tt, tt)
keeps_rules code rules.DistinctNames = λ i j d below inside. let alone : j < 1 = inside in absurd (omega arith)
keeps_rules code rules.Start = tt
keeps_rules code rules.Elements = All-nil (IsElement (start_parts code))
keeps_rules code rules.Segments = All-nil (IsSegment (start_parts code))

pub few_locals : (code : List Instr) → HasFewLocals (start_parts code)
few_locals code zero index ty body has_index has_type has_body =
    let unit : FuncType = record { params = []; results = [] } in
    let is_first : Some 0 ≡ Some index = has_index in
    let first : 0 ≡ index = cc in
    let is_type : Some unit ≡ Some ty = ap (slice_get (start_parts code).types) first ∙ has_type in
    let type : unit ≡ ty = cc in
    let is_body : Some (body_with code) ≡ Some body = has_body in
    let same : body_with code ≡ body = cc in
    let count : List LocalRun → ℕ = λ runs. sum_by (λ (run : LocalRun). run.count) runs in
    subst (λ (ps : List ValType). length ps + count body.locals ≤ 50000) (ap (λ (t : FuncType). t.params) type)
    (subst (λ (runs : List LocalRun). 0 + count runs ≤ 50000) (ap (λ (b : Body). b.locals) same) (lit≤ tt))
few_locals code (suc place) index ty body has_index has_type has_body = let e : None ≡ Some index = has_index in absurd (cc e)

pub few_parameters : (code : List Instr) → HasFewParameters (start_parts code)
few_parameters code = All-from_recursion (λ (ty : FuncType). length ty.params ≤ 1000) (start_parts code).types (lit≤ tt, tt)

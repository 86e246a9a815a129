-- How large a function may be.
use Rattle.std.specs.Prelude.{◌≡◌, ℕ, ◌+◌, ◌≤◌, length, sum_by, slice_get, Some}
use Rattle.wasm_form.specs.declared.types.FuncType.{FuncType}
use Rattle.wasm_form.specs.declared.body.Body.{Body}
use Rattle.wasm_form.specs.declared.body.LocalRun.{LocalRun}
use Rattle.wasm_form.specs.declared.parts.Parts.{Parts}

-- the body at this place, where its type is there, has at most 50,000 parameters and locals together
abbrev pub HasFewLocalsAt : Parts → (place : ℕ) → Type 0
HasFewLocalsAt m place =
    (index : ℕ) (ty : FuncType) (body : Body) → slice_get m.functions place ≡ Some index → slice_get m.types index ≡ Some ty
    → slice_get m.bodies place ≡ Some body → length ty.params + sum_by (λ (run : LocalRun). run.count) body.locals ≤ 50000

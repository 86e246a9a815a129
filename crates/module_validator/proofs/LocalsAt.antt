-- The parameters and locals of the body at a place.
use Rattle.std.proofs.Common.{◌≡◌, ℕ, ◌+◌, ◌<◌, ◌≤◌, List, length, get_or, Some, sym, ap, ◌∙◌, arith}
use Rattle.std.specs.Prelude.{◌↔◌, slice_get, sum_by}
use Rattle.std.proofs.lemmas.Option.{same_Some, slice_get-get_or}
use Rattle.wasm_form.specs.declared.types.FuncType.{FuncType}
use Rattle.wasm_form.specs.declared.body.Body.{Body}
use Rattle.wasm_form.specs.declared.body.LocalRun.{LocalRun}
use Rattle.wasm_form.specs.declared.parts.Parts.{Parts}
use Rattle.module_validator.specs.Sizes.{HasFewLocalsAt}

-- how many there are of these parameters and locals
abbrev total : FuncType → Body → ℕ
total ty body = length ty.params + sum_by (λ (run : LocalRun). run.count) body.locals

module _ (m : Parts) (functions : List ℕ) (types : List FuncType) (bodies : List Body) (e : functions ≡ m.functions) (f : types ≡ m.types) (g : bodies ≡ m.bodies)
    (place : ℕ) (there : place < length m.functions) (ty : FuncType) (body : Body) (at : slice_get types (get_or functions place 0) ≡ Some ty) (has : slice_get bodies place ≡ Some body) where
  index_at : slice_get m.functions place ≡ Some (get_or functions place 0)
  index_at = slice_get-get_or m.functions place 0 there ∙ ap (λ (xs : List ℕ). Some (get_or xs place 0)) (sym e)

  type_at : slice_get m.types (get_or functions place 0) ≡ Some ty
  type_at = sym (ap (λ (xs : List FuncType). slice_get xs (get_or functions place 0)) f) ∙ at

  body_at : slice_get m.bodies place ≡ Some body
  body_at = sym (ap (λ (xs : List Body). slice_get xs place) g) ∙ has

  only : total ty body ≤ 50000 → HasFewLocalsAt m place
  only few index ty' body' i t b =
      let index_is = same_Some _ _ (sym index_at ∙ i) in
      let type_is = same_Some _ _ (sym type_at ∙ ap (slice_get m.types) index_is ∙ t) in
      let body_is = same_Some _ _ (sym body_at ∙ b) in
      let first = ap (λ (x : FuncType). length x.params) type_is in
      let second = ap (λ (x : Body). sum_by (λ (run : LocalRun). run.count) x.locals) body_is in
      omega (arith, few, first, second)

  -- they are few exactly where the parameters and the runs that the code has are
  pub few_at : (params : ℕ) (runs : List LocalRun) → params ≡ length ty.params → runs ≡ body.locals → ((params + sum_by (λ (run : LocalRun). run.count) runs ≤ 50000) ↔ HasFewLocalsAt m place)
  few_at params runs p r =
      let same = ap (λ (xs : List LocalRun). sum_by (λ (run : LocalRun). run.count) xs) r in
      (λ h. only (omega (arith, h, p, same)), λ h. let k = h (get_or functions place 0) ty body index_at type_at body_at in omega (arith, k, p, same))

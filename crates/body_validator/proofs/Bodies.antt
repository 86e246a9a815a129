-- From the first instruction of a body to its last.
use Rattle.std.specs.Prelude.{◌↔◌, option_to_list}
use Rattle.std.proofs.Common.{◌≡◌, ℕ, List, [], ◌∷◌, None, false, refl, sym, subst, ◌∙◌, append-nil}
use Rattle.wasm_form.specs.declared.value_type.ValType.{ValType}
use Rattle.wasm_form.specs.declared.instr.Instr.{Instr}
use Rattle.wasm_form.specs.declared.expr.Expr.{Expr}
use Rattle.wasm_form.specs.Trees.{Code, IsFlat, labels_of}
use Rattle.wasm_form.specs.Matching.{HasPlain}
use Rattle.wasm_form.specs.Context.{Context}
use Rattle.wasm_form.specs.Typing.{Types}
use Rattle.body_validator.specs.declared.frame.Closing.TheVariants as closing
use Rattle.body_validator.specs.declared.function.Function.{Function}
use Rattle.body_validator.specs.declared.checker.Checker.{Checker}
use Rattle.body_validator.specs.Covering.{known, Covers}
use Rattle.body_validator.specs.Functions.{IsContext, IsBodyContext}
use Rattle.body_validator.specs.Levels.{Level, level, Stands, Remains, frame_of, IsLeftTyped, Advances, Refuses}
use Rattle.body_validator.proofs.Seen.{nothing_left}

-- before the first instruction the whole body is left
pub begins : (function : Function) (context : Context) (e : Expr) (tree : Code) (left : List Instr) (checker : Checker) → IsBodyContext function context → HasPlain tree → IsFlat e tree → left ≡ e.code
    → checker.frames ≡ frame_of closing.End function.results function.results (known [] false) ∷ [] → checker.operands ≡ known [] false
    → (levels : List Level) × Stands e.labels left levels × (Types context tree [] (option_to_list function.results) ↔ IsLeftTyped context levels checker)
begins function context e tree left checker is plain f l frames empty =
    let R : List ValType = option_to_list function.results in
    let levels : List Level = level tree None ∷ [] in
    let first = frame_of closing.End function.results function.results (known [] false) ∷ [] in
    let there : Types context tree [] R → Remains context levels first (Covers (known [] false)) =
    λ t. (([], refl, subst (λ k. Types (record context { labels = k }) tree [] R) is.labels t), λ z. cc, tt)
    in
    let back : Remains context levels first (Covers (known [] false)) → Types context tree [] R =
    λ h. subst (λ k. Types (record context { labels = k }) tree [] R) (sym is.labels) (subst (λ x. Types (record context { labels = R ∷ [] }) tree x R) h.0.1 h.0.2)
    in (
      levels,
      record { before = []; labels = f.labels ∙ sym (append-nil (labels_of tree)); code = l ∙ f.code; plain = (plain, tt, tt) },
      (
        λ t. subst (λ k. Remains context levels k (Covers checker.operands)) (sym frames) (subst (λ k. Remains context levels first (Covers k)) (sym empty) (there t)),
        λ h. back (subst (λ k. Remains context levels first (Covers k)) empty (subst (λ k. Remains context levels k (Covers checker.operands)) frames h)),
      ),
    )

module _ (function : Function) (context : Context) (T : Type 0) (pool labels : List ℕ) (old : Checker) (left : List Instr) where
  -- one instruction more
  pub one_step : (new : Checker) (i : Instr) (rest : List Instr) → IsContext function context → pool ≡ labels → left ≡ i ∷ rest → Advances function pool i old new
      → (levels : List Level) × Stands labels left levels × (T ↔ IsLeftTyped context levels old) → (next : List Level) × Stands labels rest next × (T ↔ IsLeftTyped context next new)
  one_step new i rest is p l step h =
      let s : Stands pool (i ∷ rest) h.0 = subst (λ k. Stands k (i ∷ rest) h.0) (sym p) (subst (λ k. Stands labels k h.0) l h.1) in
      let n = step context rest h.0 is s in
      (n.0, subst (λ k. Stands k rest n.0) p n.1, (λ t. n.2.0 (h.2.0 t), λ t. h.2.1 (n.2.1 t)))

  -- an instruction that is refused
  pub refused : (i : Instr) (rest : List Instr) → IsContext function context → pool ≡ labels → left ≡ i ∷ rest → Refuses function pool i old
      → (levels : List Level) × Stands labels left levels × (T ↔ IsLeftTyped context levels old) → ¬ T
  refused i rest is p l no_step h t =
      let s : Stands pool (i ∷ rest) h.0 = subst (λ k. Stands k (i ∷ rest) h.0) (sym p) (subst (λ k. Stands labels k h.0) l h.1) in
      no_step context rest h.0 is s (h.2.0 t)

  -- no instruction is left
  pub finished : left ≡ [] → (levels : List Level) × Stands labels left levels × (T ↔ IsLeftTyped context levels old) → T
  finished l h =
      let none : h.0 ≡ [] = nothing_left labels h.0 (subst (λ k. Stands labels k h.0) l h.1) in
      h.2.1 (subst (λ k. Remains context k old.frames (Covers old.operands)) (sym none) tt)

-- What a module's lists of functions, tables, memories and globals are where it imports functions alone.
use Rattle.std.proofs.Common.{◌≡◌, ℕ, ◌+◌, ◌-◌, ◌<◌, ◌≤◌, ◌↔◌, IsTrue, leb, ltb, arith, List, [], ◌∷◌, ◌++◌, map, length, Option, Some, None, refl, sym, ap, subst, ◌∙◌}
use Rattle.std.proofs.Common.{inl, inr}
use Rattle.std.specs.Prelude.{All, slice_get, option_and_then, filter_map}
use Rattle.std.proofs.lemmas.List.{length-append, length-map}
use Rattle.std.proofs.lemmas.List.Elements.{All-weaker}
use Rattle.std.proofs.lemmas.Bool.{leb-true, le-leb, ltb-true, lt-ltb}
use Rattle.std.proofs.lemmas.Option.{none-some}
use Rattle.wasm_form.specs.declared.value_type.ValType.{ValType}
use Rattle.wasm_form.specs.declared.types.GlobalType.{GlobalType}
use Rattle.wasm_form.specs.declared.instr.Instr.{Instr}
use Rattle.wasm_form.specs.declared.expr.Expr.{Expr}
use Rattle.wasm_form.specs.Trees.{Then, Empty, IsFlat, end_instr}
use Rattle.wasm_form.specs.declared.parts.Imported.{Imported}
use Rattle.wasm_form.specs.declared.parts.Imported.TheVariants as imported
use Rattle.wasm_form.specs.declared.parts.Import.{Import}
use Rattle.wasm_form.specs.declared.parts.GlobalDef.{GlobalDef}
use Rattle.wasm_form.specs.declared.parts.Parts.{Parts}
use Rattle.wasm_form.specs.Context.{function_of, table_of, memory_of, global_of, functions_of, tables_of, memories_of, imported_globals, globals_of}
use Rattle.wasm_form.specs.Typing.{IsConstant}
use Rattle.wasm_form.specs.Validity.{IsConstantInstr, IsConstantExpr}
use Rattle.wasm_form.specs.Profile.{IsFunction, ImportsFunctions}
use Rattle.module_validator.proofs.Lists.{none_kept, all_kept, kept_at, at_left, at_right}

no_table : (what : Imported) → IsFunction what → table_of what ≡ None
no_table (imported.Function ty) h = refl
no_table what h = absurd h

no_memory : (what : Imported) → IsFunction what → memory_of what ≡ None
no_memory (imported.Function ty) h = refl
no_memory what h = absurd h

no_global : (what : Imported) → IsFunction what → global_of what ≡ None
no_global (imported.Function ty) h = refl
no_global what h = absurd h

one_function : (what : Imported) → IsFunction what → (index : ℕ) × (function_of what ≡ Some index)
one_function (imported.Function ty) h = (ty, refl)
one_function what h = absurd h

module _ (m : Parts) (functions : ImportsFunctions m) where
  none_of : {Y : Type 0} (h : Imported → Option Y) → ((what : Imported) → IsFunction what → h what ≡ None) → All (λ (i : Import). h i.what ≡ None) m.imports
  none_of h none = All-weaker (λ (i : Import). IsFunction i.what) (λ (i : Import). h i.what ≡ None) (λ i f. none i.what f) m.imports functions

  pub tables_are : tables_of m ≡ m.tables
  tables_are = ap (λ xs. xs ++ m.tables) (none_kept (λ (i : Import). table_of i.what) m.imports (none_of table_of no_table))

  pub memories_are : memories_of m ≡ m.memories
  memories_are = ap (λ xs. xs ++ m.memories) (none_kept (λ (i : Import). memory_of i.what) m.imports (none_of memory_of no_memory))

  pub no_imported_globals : imported_globals m ≡ []
  no_imported_globals = none_kept (λ (i : Import). global_of i.what) m.imports (none_of global_of no_global)

  pub global_count : length (globals_of m) ≡ length m.globals
  global_count =
      ap (λ xs. length (xs ++ map (λ (g : GlobalDef). g.ty) m.globals)) no_imported_globals
      ∙ length-map m.globals (λ (g : GlobalDef). g.ty)

  each_function : All (λ (i : Import). (index : ℕ) × (function_of i.what ≡ Some index)) m.imports
  each_function = All-weaker (λ (i : Import). IsFunction i.what) (λ (i : Import). (index : ℕ) × (function_of i.what ≡ Some index)) (λ i f. one_function i.what f) m.imports functions

  pub function_count : length (functions_of m) ≡ length m.imports + length m.functions
  function_count =
      length-append (filter_map (λ (i : Import). function_of i.what) m.imports) m.functions
      ∙ ap (λ n. n + length m.functions) (all_kept (λ (i : Import). function_of i.what) m.imports each_function)

  abbrev indexes : List ℕ
  indexes = filter_map (λ (i : Import). function_of i.what) m.imports

  index_count : length indexes ≡ length m.imports
  index_count = all_kept (λ (i : Import). function_of i.what) m.imports each_function

  imported_function : (k : ℕ) (i : Import) → k < length m.imports → slice_get m.imports k ≡ Some i → slice_get (functions_of m) k ≡ function_of i.what
  imported_function k i less e =
      at_left indexes m.functions k (omega (arith, index_count))
      ∙ kept_at (λ (i : Import). function_of i.what) m.imports k each_function
      ∙ ap (option_and_then (λ (i : Import). function_of i.what)) e

  own_function : (k : ℕ) → length m.imports ≤ k → slice_get (functions_of m) k ≡ slice_get m.functions (k - length m.imports)
  own_function k past =
      let place : k ≡ length indexes + (k - length m.imports) = omega (arith, index_count) in
      ap (slice_get (functions_of m)) place ∙ at_right indexes m.functions (k - length m.imports)

  -- the type index of an imported function
  pub imported_at : (k : ℕ) (imports : List Import) (i : Import) → imports ≡ m.imports → k < length imports → slice_get imports k ≡ Some i → function_of i.what ≡ slice_get (functions_of m) k
  imported_at k imports i e less at =
      sym (imported_function k i (omega (arith, less, ap length e)) (sym (ap (λ (xs : List Import). slice_get xs k) e) ∙ at))

  -- the type index of one of the module's own
  pub own_at : (k : ℕ) (imports : List Import) (functions : List ℕ) → imports ≡ m.imports → functions ≡ m.functions → length imports ≤ k → slice_get functions (k - length imports) ≡ slice_get (functions_of m) k
  own_at k imports functions' e f past =
      ap (λ (xs : List Import). slice_get functions' (k - length xs)) e
      ∙ ap (λ (ys : List ℕ). slice_get ys (k - length m.imports)) f
      ∙ sym (own_function k (omega (arith, past, ap length e)))

  -- no global.get is constant
  pub constant_instr : (i : Instr) (t : ValType) → IsConstantInstr m i t → IsConstant i t
  constant_instr i t (inl h) = h
  constant_instr i t (inr h) = absurd (none-some h.1 (sym (ap (λ (xs : List GlobalType). slice_get xs h.0) no_imported_globals) ∙ h.4))

  -- an expression of one instruction is constant exactly where the instruction is a constant
  pub constant_expr : (e : Expr) (t : ValType) (i : Instr) → IsFlat e (Then i Empty) → IsConstant i t → IsConstantExpr m e t
  constant_expr e t i flat constant = (i, flat, inl constant)

  pub constant_only : (e : Expr) (t : ValType) (i : Instr) → IsFlat e (Then i Empty) → IsConstantExpr m e t → IsConstant i t
  constant_only e t i flat h =
      let codes : i ∷ end_instr ∷ [] ≡ h.0 ∷ end_instr ∷ [] = sym flat.code ∙ h.1.code in
      let same : h.0 ≡ i = cc in
      subst (λ (j : Instr). IsConstant j t) same (constant_instr h.0 t h.2)

-- a test of a length that is another's
pub at_most : (a b n : ℕ) → a ≡ b → (IsTrue (leb a n) ↔ (b ≤ n))
at_most a b n e = (λ t. omega (arith, leb-true a n t), λ h. le-leb a n (omega (arith, h)))

pub below : (k a b : ℕ) → a ≡ b → (IsTrue (ltb k a) ↔ (k < b))
below k a b e = (λ t. omega (arith, ltb-true k a t), λ h. lt-ltb k a (omega (arith, h)))

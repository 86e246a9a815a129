-- Instantiation of a valid module gives typed globals, a table of known functions and a typed memory.
use Rattle.std.specs.Prelude.{⊤}
use Rattle.std.proofs.Common.{◌≡◌, ◌≤◌, ◌<◌, ℕ, ◌+◌, inl, inr, All, List, [], ◌∷◌, ◌++◌, length, map, filter_map, fold, take, drop, slice_get, Option, Some, None, unwrap_or, arith, refl, sym, ◌∙◌, ap, subst}
use Rattle.std.proofs.lemmas.List.Elements.{All-nil, All-cons, All-head, All-tail, All-append, All-take, All-drop, All-replicate}
use Rattle.wasm_form.specs.declared.value_type.ValType.{ValType}
use Rattle.wasm_form.specs.declared.types.Bounds.{Bounds}
use Rattle.wasm_form.specs.declared.types.GlobalType.{GlobalType}
use Rattle.wasm_form.specs.declared.instr.Instr.{Instr}
use Rattle.wasm_form.specs.declared.expr.Expr.{Expr}
use Rattle.wasm_form.specs.declared.parts.Imported.{Imported}
use Rattle.wasm_form.specs.declared.parts.Imported.TheVariants as imported
use Rattle.wasm_form.specs.declared.parts.Import.{Import}
use Rattle.wasm_form.specs.declared.parts.GlobalDef.{GlobalDef}
use Rattle.wasm_form.specs.declared.parts.Element.{Element}
use Rattle.wasm_form.specs.declared.parts.Parts.{Parts}
use Rattle.wasm_form.specs.Trees.{Code, Empty, Then, TableOf, BlockOf, LoopOf, IfOf, IfElseOf, end_instr, flat, IsFlat}
use Rattle.wasm_form.specs.Matching.{IsPlain}
use Rattle.wasm_form.specs.Context.{functions_of, global_of, imported_globals, globals_of}
use Rattle.wasm_form.specs.Typing.{IsConstant}
use Rattle.wasm_form.specs.Validity.{IsConstantExpr, IsElement}
use Rattle.wasm_form.specs.Profile.{IsFunction}
use Rattle.tree_machine.specs.Instructions.{Plain, plain_of}
use Rattle.tree_machine.specs.Instructions as op
use Rattle.tree_machine.specs.Functions.{Callee, callee_of}
use Rattle.tree_machine.specs.Instantiation.{constant_of, constant_in, value_of, new_globals, table_with, new_table, put_element, first_table}
use Rattle.tree_machine.specs.Typed.{IsValue, AreValues, HasConstant, HasInstrs, ElementsKnown}
use Rattle.tree_machine.proofs.PlainOf.{plain_i32, plain_i64}
use Rattle.tree_machine.proofs.Reading.{tree_is_read}
use Rattle.tree_machine.proofs.ModuleTyped.{HasInstrTree, IsRunnable, each_at, body_there, found}

-- no global is imported where functions alone are
function_no_global : (what : Imported) → IsFunction what → global_of what ≡ None
function_no_global (imported.Function ty) h = refl
function_no_global (imported.Table b) h = absurd h
function_no_global (imported.Memory b) h = absurd h
function_no_global (imported.Global g) h = absurd h

pub no_globals : (imports : List Import) → All (λ (i : Import). IsFunction i.what) imports →
    filter_map (λ (i : Import). global_of i.what) imports ≡ []
no_globals [] h = refl
no_globals (i ∷ imports) h =
    let none : global_of i.what ≡ None = function_no_global i.what (All-head (λ (i : Import). IsFunction i.what) i imports h) in
    rw none (no_globals imports (All-tail (λ (i : Import). IsFunction i.what) i imports h))

-- the code of the first instruction
abbrev first_code : List Instr → ℕ
first_code [] = 0
first_code (i ∷ list) = i.code

-- an instruction that is the whole of a tree's flat list is a plain one, where its code opens nothing
whole_plain : (tree : Code) (i : Instr) → HasInstrs tree → 0x41 ≤ i.code → i ∷ end_instr ∷ [] ≡ flat 0 tree ++ end_instr ∷ [] →
    IsPlain i × HasConstant i.imm
whole_plain Empty i h from e = absurd (cc)
whole_plain (Then j rest) i h from e =
    let same : j ≡ i = cc in subst (λ (k : Instr). IsPlain k × HasConstant k.imm) same (h.0, h.1)
whole_plain (TableOf labels last rest) i h from e = let code : i.code ≡ 0x0E = ap first_code e in absurd (omega arith)
whole_plain (BlockOf result inside rest) i h from e = let code : i.code ≡ 0x02 = ap first_code e in absurd (omega arith)
whole_plain (LoopOf result inside rest) i h from e = let code : i.code ≡ 0x03 = ap first_code e in absurd (omega arith)
whole_plain (IfOf result inside rest) i h from e = let code : i.code ≡ 0x04 = ap first_code e in absurd (omega arith)
whole_plain (IfElseOf result inside other rest) i h from e = let code : i.code ≡ 0x04 = ap first_code e in absurd (omega arith)

-- the value of a constant expression is one of its type
abbrev HasValue : Expr → ValType → Type 0
HasValue e t = (n : ℕ) × (value_of e ≡ Some n) × IsValue t n

value_read : (e : Expr) (i : Instr) (n : ℕ) → IsFlat e (Then i Empty) → IsPlain i → plain_of i ≡ Some (op.Const n) → value_of e ≡ Some n
unfolding value_of
value_read e i n is plain is_const =
    ap constant_in (tree_is_read e (Then i Empty) (plain, tt) is) ∙ ap constant_of is_const

constant_value : (e : Expr) (i : Instr) (t : ValType) → IsFlat e (Then i Empty) → HasInstrTree e → IsConstant i t → HasValue e t
constant_value e i t is (tree, instrs, also) (inl (code, t_is)) =
    let plain = whole_plain tree i instrs (let k : i.code ≡ 0x41 = code in omega arith) (sym is.code ∙ also.code) in
    let c = plain_i32 i plain.0 code in
    (c.0, value_read e i c.0 is plain.0 c.2, subst (λ (u : ValType). IsValue u c.0) (sym t_is) (subst HasConstant c.1 plain.1))
constant_value e i t is (tree, instrs, also) (inr (code, t_is)) =
    let plain = whole_plain tree i instrs (let k : i.code ≡ 0x42 = code in omega arith) (sym is.code ∙ also.code) in
    let c = plain_i64 i plain.0 code in
    (c.0, value_read e i c.0 is plain.0 c.2, subst (λ (u : ValType). IsValue u c.0) (sym t_is) (subst HasConstant c.1 plain.1))

none_at : {X : Type 0} (xs : List X) (n : ℕ) (x : X) → xs ≡ [] → slice_get xs n ≡ Some x → ⊥
none_at [] n x none e = absurd (cc)
none_at (y ∷ xs) n x none e = absurd (cc)

expr_value : (m : Parts) (e : Expr) (t : ValType) → imported_globals m ≡ [] → HasInstrTree e → IsConstantExpr m e t → HasValue e t
expr_value m e t none tree (i, is, inl constant) = constant_value e i t is tree constant
expr_value m e t none tree (i, is, inr (x, g, code, index, place, mutable, ty)) = absurd (none_at (imported_globals m) x g none place)

-- globals
globals_from : (m : Parts) (globals : List GlobalDef) → imported_globals m ≡ [] → All (λ (g : GlobalDef). HasInstrTree g.init) globals →
    All (λ (g : GlobalDef). IsConstantExpr m g.init g.ty.ty) globals →
    AreValues (map (λ (t : GlobalType). t.ty) (map (λ (g : GlobalDef). g.ty) globals)) (map (λ (g : GlobalDef). unwrap_or (value_of g.init) 0) globals)
globals_from m [] none trees constants = tt
globals_from m (g ∷ globals) none trees constants =
    let value = expr_value m g.init g.ty.ty none (All-head (λ (g : GlobalDef). HasInstrTree g.init) g globals trees)
    (All-head (λ (g : GlobalDef). IsConstantExpr m g.init g.ty.ty) g globals constants) in (
      subst (λ (o : Option ℕ). IsValue g.ty.ty (unwrap_or o 0)) (sym value.1) value.2,
      globals_from m globals none (All-tail (λ (g : GlobalDef). HasInstrTree g.init) g globals trees)
          (All-tail (λ (g : GlobalDef). IsConstantExpr m g.init g.ty.ty) g globals constants),
    )

pub globals_typed : (m : Parts) → imported_globals m ≡ [] → All (λ (g : GlobalDef). HasInstrTree g.init) m.globals →
    All (λ (g : GlobalDef). IsConstantExpr m g.init g.ty.ty) m.globals →
    AreValues (map (λ (g : GlobalType). g.ty) (globals_of m)) (new_globals m)
globals_typed m none trees constants =
    subst (λ (xs : List GlobalType). AreValues (map (λ (g : GlobalType). g.ty) (xs ++ map (λ (g : GlobalDef). g.ty) m.globals)) (new_globals m)) (sym none)
    (globals_from m m.globals none trees constants)

-- an element that is set is a function
abbrev IsKnown : Parts → Option ℕ → Type 0
IsKnown m None = ⊤
IsKnown m (Some index) = (callee : Callee) × (callee_of m index ≡ Some callee)

known_function : (m : Parts) → IsRunnable m → All (λ index. index < length m.types) (functions_of m) → (index : ℕ) → index < length (functions_of m) →
    IsKnown m (Some index)
known_function m is types index less =
    let place = body_there (functions_of m) index less in
    let ty = body_there m.types place.0 (each_at (λ index. index < length m.types) (functions_of m) index place.0 types place.1) in
    let callee = found m is index place.0 ty.0 ty.1 place.1 in
    (callee.0, callee.1)

known_functions : (m : Parts) → IsRunnable m → All (λ index. index < length m.types) (functions_of m) → (list : List ℕ) →
    All (λ function. function < length (functions_of m)) list → All (IsKnown m) (map (λ (function : ℕ). Some function) list)
known_functions m is types [] h = All-nil (IsKnown m)
known_functions m is types (function ∷ list) h =
    All-cons (IsKnown m) (Some function) (map (λ (function : ℕ). Some function) list)
    (known_function m is types function (All-head (λ function. function < length (functions_of m)) function list h))
    (known_functions m is types list (All-tail (λ function. function < length (functions_of m)) function list h))

elements_known : (m : Parts) → IsRunnable m → All (λ index. index < length m.types) (functions_of m) → (elements : List Element) → All (IsElement m) elements →
    (table : List (Option ℕ)) → All (IsKnown m) table → All (IsKnown m) (fold put_element table elements)
elements_known m is types [] h table known = known
elements_known m is types (e ∷ elements) h table known =
    let at = unwrap_or (value_of e.offset) 0 in
    let new = map (λ (function : ℕ). Some function) e.functions in
    elements_known m is types elements (All-tail (IsElement m) e elements h) (put_element table e)
    (All-append (IsKnown m) (take at table) (new ++ drop (at + length new) table) (All-take (IsKnown m) at table known)
    (All-append (IsKnown m) new (drop (at + length new) table)
    (known_functions m is types e.functions (All-head (IsElement m) e elements h).functions)
    (All-drop (IsKnown m) (at + length new) table known)))

unset : (m : Parts) (o : Option Bounds) → All (IsKnown m) (table_with o)
unset m None = All-nil (IsKnown m)
unset m (Some bounds) = All-replicate (IsKnown m) bounds.min None tt

pub table_known : (m : Parts) → IsRunnable m → All (λ index. index < length m.types) (functions_of m) → All (IsElement m) m.elements →
    ElementsKnown m (first_table m)
table_known m is types elements place index e =
    each_at (IsKnown m) (first_table m) place (Some index) (elements_known m is types m.elements elements (new_table m) (unset m _)) e

-- The functions of a valid module are typed, and each that is named is there.
use Rattle.std.proofs.Common.{◌≡◌, ◌≤◌, ◌<◌, ℕ, zero, suc, ◌+◌, ◌-◌, ◌⊎◌, inl, inr, Bool, true, false, if◌then◌else◌, nat_lt, All, IsSome, List, [], ◌∷◌, ◌++◌, length, filter, filter_map, flat_map, replicate, sum_by, fold, slice_get, reverse, Option, Some, None, option_and_then, is_some, arith, refl, sym, ◌∙◌, ap, subst, length-append}
use Rattle.std.proofs.lemmas.Bool.Decides.{nat_tests}
use Rattle.std.proofs.lemmas.List.{length-replicate}
use Rattle.std.proofs.lemmas.List.Elements.{All-head, All-tail}
use Rattle.host_port.specs.HostTable.{Row, row_of_import}
use Rattle.wasm_form.specs.declared.types.FuncType.{FuncType}
use Rattle.wasm_form.specs.declared.body.Body.{Body}
use Rattle.wasm_form.specs.declared.body.LocalRun.{LocalRun}
use Rattle.wasm_form.specs.declared.parts.Import.{Import}
use Rattle.wasm_form.specs.declared.parts.Parts.{Parts}
use Rattle.wasm_form.specs.Trees.{Code, Empty, Then, TableOf, BlockOf, LoopOf, IfOf, IfElseOf, IsFlat}
use Rattle.wasm_form.specs.Matching.{HasPlain}
use Rattle.wasm_form.specs.declared.expr.Expr.{Expr}
use Rattle.wasm_form.specs.Context.{function_of, functions_of, context_of}
use Rattle.wasm_form.specs.Typing.{Types}
use Rattle.wasm_form.specs.Validity.{IsValidFunction}
use Rattle.tree_machine.specs.Trees.{tree_of}
use Rattle.tree_machine.specs.Functions.{Function, Callee, Own, Host, type_of, imported_functions, host_call, imported_callee, function_with, defined_function, own_function, owned, callee_of}
use Rattle.tree_machine.specs.Typed.{HasInstrs, IsTypedFunction, IsTypedModule}
use Rattle.tree_machine.proofs.Reading.{tree_is_read}

-- an expression is a tree, flat, of such instructions
abbrev pub HasInstrTree : Expr → Type 0
HasInstrTree e = (tree : Code) × HasInstrs tree × IsFlat e tree

-- what the rules, the grammar and the host say of a module
pub record IsRunnable (m : Parts) : Type 0 where
  pub functions : (place : ℕ) → place < length m.bodies → IsValidFunction m place
  pub counts : length m.functions ≡ length m.bodies
  pub instrs : All (λ (body : Body). HasInstrTree body.expr) m.bodies
  pub offered : All (λ (i : Import). IsSome (row_of_import i.«module» i.name)) m.imports

pub plain_instrs : (tree : Code) → HasInstrs tree → HasPlain tree
plain_instrs Empty h = tt
plain_instrs (Then i rest) h = (h.0, plain_instrs rest h.2)
plain_instrs (TableOf labels last rest) h = plain_instrs rest h
plain_instrs (BlockOf result inside rest) h = (plain_instrs inside h.0, plain_instrs rest h.1)
plain_instrs (LoopOf result inside rest) h = (plain_instrs inside h.0, plain_instrs rest h.1)
plain_instrs (IfOf result inside rest) h = (plain_instrs inside h.0, plain_instrs rest h.1)
plain_instrs (IfElseOf result inside other rest) h = (plain_instrs inside h.0, plain_instrs other h.1, plain_instrs rest h.2)

-- how many locals runs have
counted : (runs : List LocalRun) (start : ℕ) →
    fold (λ (a : ℕ) (run : LocalRun). a + run.count) start runs ≡ start + length (flat_map (λ (run : LocalRun). replicate run.count run.ty) runs)
counted [] start = omega arith
counted (run ∷ runs) start =
    let next = counted runs (start + run.count) in
    let size : length (replicate run.count run.ty ++ flat_map (λ (run : LocalRun). replicate run.count run.ty) runs)
    ≡ run.count + length (flat_map (λ (run : LocalRun). replicate run.count run.ty) runs) =
    length-append (replicate run.count run.ty) (flat_map (λ (run : LocalRun). replicate run.count run.ty) runs)
    ∙ ap (λ (n : ℕ). n + length (flat_map (λ (run : LocalRun). replicate run.count run.ty) runs)) (length-replicate run.count run.ty) in
    omega arith

-- a function of the module's own, by its place
record IsPlaced (m : Parts) (place : ℕ) (function : Function) : Type 0 where
  ty : FuncType
  body : Body
  has_type : option_and_then (slice_get m.types) (slice_get m.functions place) ≡ Some ty
  has_body : slice_get m.bodies place ≡ Some body
  is : function ≡ record { ty = ty; locals = sum_by (λ (run : LocalRun). run.count) body.locals; code = tree_of body.expr }

placed_if : (m : Parts) (place : ℕ) (t : Option FuncType) (b : Option Body) (function : Function) →
    option_and_then (slice_get m.types) (slice_get m.functions place) ≡ t → slice_get m.bodies place ≡ b →
    function_with t b ≡ Some function → IsPlaced m place function
placed_if m place (Some ty) (Some body) function e f h = record { ty = ty; body = body; has_type = e; has_body = f; is = cc }
placed_if m place (Some ty) None function e f h = absurd (cc)
placed_if m place None b function e f h = absurd (cc)

own_if : (b : Bool) (o : Option Function) (function : Function) → (if b then None else o) ≡ Some function → o ≡ Some function
own_if true o function e = absurd (cc)
own_if false o function e = e

own_placed : (m : Parts) (index : ℕ) (function : Function) → own_function m index ≡ Some function →
    IsPlaced m (index - length (imported_functions m)) function
unfolding own_function
own_placed m index function e =
    placed_if m (index - length (imported_functions m)) _ _ function refl refl
    (own_if (nat_lt index (length (imported_functions m))) (defined_function m (index - length (imported_functions m))) function e)

pub body_below : {X : Type 0} (xs : List X) (n : ℕ) (x : X) → slice_get xs n ≡ Some x → n < length xs
body_below [] n x e = absurd (cc)
body_below (y ∷ xs) zero x e = omega arith
body_below (y ∷ xs) (suc n) x e = let less : n < length xs = body_below xs n x e in omega arith

pub each_at : {X : Type 0} (P : X → Type 0) (xs : List X) (n : ℕ) (x : X) → All P xs → slice_get xs n ≡ Some x → P x
each_at P [] n x h e = absurd (cc)
each_at P (y ∷ xs) zero x h e = let same : y ≡ x = cc in subst P same (All-head P y xs h)
each_at P (y ∷ xs) (suc n) x h e = each_at P xs n x (All-tail P y xs h) e

module _ (m : Parts) (is : IsRunnable m) where
  function_typed : (place : ℕ) (function : Function) → IsPlaced m place function → IsTypedFunction m function
  function_typed place function at =
      let valid = is.functions place (body_below m.bodies place at.body at.has_body) in
      let tree = valid.typed.0 in
      let same_body : Some valid.body ≡ Some at.body = sym valid.has_body ∙ at.has_body in
      let body : valid.body ≡ at.body = cc in
      let theirs : option_and_then (slice_get m.types) (slice_get m.functions place) ≡ Some valid.ty =
      ap (option_and_then (slice_get m.types)) valid.has_index ∙ valid.has_type in
      let same_type : Some valid.ty ≡ Some at.ty = sym theirs ∙ at.has_type in
      let ty : valid.ty ≡ at.ty = cc in
      let read : tree_of at.body.expr ≡ tree = sym (ap (λ (b : Body). tree_of b.expr) body) ∙ tree_is_read valid.body.expr tree valid.typed.1 valid.typed.2 in
      let own = each_at (λ (body : Body). HasInstrTree body.expr) m.bodies place at.body is.instrs at.has_body in
      let read_own : tree_of at.body.expr ≡ own.0 = tree_is_read at.body.expr own.0 (plain_instrs own.0 own.1) own.2 in
      let whole : IsTypedFunction m (record { ty = at.ty; locals = sum_by (λ (run : LocalRun). run.count) at.body.locals; code = tree_of at.body.expr }) =
      record {
        runs = at.body.locals;
        locals = counted at.body.locals 0 ∙ (omega arith);
        instrs = subst HasInstrs (sym read_own) own.1;
        typed = subst (λ (code : Code). Types (context_of m at.ty at.body.locals) code [] (reverse at.ty.results)) (sym read)
            (subst (λ (t : FuncType). Types (context_of m t at.body.locals) tree [] (reverse t.results)) ty
            (subst (λ (b : Body). Types (context_of m valid.ty b.locals) tree [] (reverse valid.ty.results)) body valid.typed.3));
      } in
      subst (IsTypedFunction m) (sym at.is) whole

-- an imported function, by its index among all functions
pub record IsImported (P : Import → Type 0) (imports : List Import) (index place : ℕ) : Type 0 where
  pub import_of : Import
  pub there : slice_get (filter (λ (i : Import). is_some (function_of i.what)) imports) index ≡ Some import_of
  pub place_is : function_of import_of.what ≡ Some place
  pub has : P import_of

-- the imports that are functions, and their types
abbrev pub functions_in : List Import → List Import
functions_in imports = filter (λ (i : Import). is_some (function_of i.what)) imports

abbrev pub places_in : List Import → List ℕ
places_in imports = filter_map (λ (i : Import). function_of i.what) imports

functions_none : (i : Import) (imports : List Import) → function_of i.what ≡ None → functions_in (i ∷ imports) ≡ functions_in imports
functions_none i imports e = rw e refl

functions_some : (i : Import) (imports : List Import) (place : ℕ) → function_of i.what ≡ Some place → functions_in (i ∷ imports) ≡ i ∷ functions_in imports
functions_some i imports place e = rw e refl

places_none : (i : Import) (imports : List Import) → function_of i.what ≡ None → places_in (i ∷ imports) ≡ places_in imports
places_none i imports e = rw e refl

places_some : (i : Import) (imports : List Import) (place : ℕ) → function_of i.what ≡ Some place → places_in (i ∷ imports) ≡ place ∷ places_in imports
places_some i imports place e = rw e refl

imported_case : (P : Import → Type 0) (i : Import) (imports : List Import) (o : Option ℕ) → function_of i.what ≡ o → P i →
    ((index place : ℕ) → slice_get (places_in imports) index ≡ Some place → IsImported P imports index place) →
    length (functions_in imports) ≡ length (places_in imports) → (index place : ℕ) → slice_get (places_in (i ∷ imports)) index ≡ Some place →
    IsImported P (i ∷ imports) index place × (length (functions_in (i ∷ imports)) ≡ length (places_in (i ∷ imports)))
imported_case P i imports None e p others count index place at =
    let before = others index place (ap (λ (xs : List ℕ). slice_get xs index) (sym (places_none i imports e)) ∙ at) in (
      record {
        import_of = before.import_of;
        there = ap (λ (xs : List Import). slice_get xs index) (functions_none i imports e) ∙ before.there;
        place_is = before.place_is;
        has = before.has;
      },
      ap length (functions_none i imports e) ∙ count ∙ ap length (sym (places_none i imports e)),
    )
imported_case P i imports (Some here) e p others count zero place at =
    let first : Some here ≡ Some place = ap (λ (xs : List ℕ). slice_get xs 0) (sym (places_some i imports here e)) ∙ at in (
      record {
        import_of = i;
        there = ap (λ (xs : List Import). slice_get xs 0) (functions_some i imports here e);
        place_is = e ∙ first;
        has = p;
      },
      ap length (functions_some i imports here e) ∙ ap suc count ∙ ap length (sym (places_some i imports here e)),
    )
imported_case P i imports (Some here) e p others count (suc index) place at =
    let before = others index place (ap (λ (xs : List ℕ). slice_get xs (suc index)) (sym (places_some i imports here e)) ∙ at) in (
      record {
        import_of = before.import_of;
        there = ap (λ (xs : List Import). slice_get xs (suc index)) (functions_some i imports here e) ∙ before.there;
        place_is = before.place_is;
        has = before.has;
      },
      ap length (functions_some i imports here e) ∙ ap suc count ∙ ap length (sym (places_some i imports here e)),
    )

count_case : (i : Import) (imports : List Import) (o : Option ℕ) → function_of i.what ≡ o → length (functions_in imports) ≡ length (places_in imports) →
    length (functions_in (i ∷ imports)) ≡ length (places_in (i ∷ imports))
count_case i imports None e count = ap length (functions_none i imports e) ∙ count ∙ ap length (sym (places_none i imports e))
count_case i imports (Some here) e count = ap length (functions_some i imports here e) ∙ ap suc count ∙ ap length (sym (places_some i imports here e))

pub as_many_places : (imports : List Import) → length (functions_in imports) ≡ length (places_in imports)
as_many_places [] = refl
as_many_places (i ∷ imports) = count_case i imports (function_of i.what) refl (as_many_places imports)

pub imported_at : (P : Import → Type 0) (imports : List Import) → All P imports → (index place : ℕ) → slice_get (places_in imports) index ≡ Some place →
    IsImported P imports index place
imported_at P [] each index place at = absurd (cc)
imported_at P (i ∷ imports) each index place at =
    (imported_case P i imports (function_of i.what) refl (All-head P i imports each)
    (λ n x h. imported_at P imports (All-tail P i imports each) n x h) (as_many_places imports) index place at).0

-- a place of two lists
pub at_append : (xs ys : List ℕ) (n y : ℕ) → slice_get (xs ++ ys) n ≡ Some y →
    ((n < length xs) × (slice_get xs n ≡ Some y)) ⊎ ((length xs ≤ n) × (slice_get ys (n - length xs) ≡ Some y))
at_append [] ys n y e = let same : n - 0 ≡ n = omega arith in inr (omega arith, ap (slice_get ys) same ∙ e)
at_append (x ∷ xs) ys zero y e = inl (omega arith, e)
at_append (x ∷ xs) ys (suc n) y e =
    elim (at_append xs ys n y e) as (λ w. ((suc n < length (x ∷ xs)) × (slice_get (x ∷ xs) (suc n) ≡ Some y)) ⊎ ((length (x ∷ xs) ≤ suc n) × (slice_get ys (suc n - length (x ∷ xs)) ≡ Some y))) [
      | inl h ↦ inl (let less : n < length xs = h.0 in omega arith, h.1)
      | inr h ↦ inr (let most : length xs ≤ n = h.0 in omega arith, let same : suc n - suc (length xs) ≡ n - length xs = omega arith in ap (slice_get ys) same ∙ h.1)
    ]

pub row_there : (o : Option Row) → IsSome o → (row : Row) × (o ≡ Some row)
row_there None h = absurd (cc)
row_there (Some row) h = (row, refl)

pub body_there : {X : Type 0} (xs : List X) (n : ℕ) → n < length xs → (x : X) × (slice_get xs n ≡ Some x)
body_there [] n less = absurd (omega arith)
body_there (x ∷ xs) zero less = (x, refl)
body_there (x ∷ xs) (suc n) less = body_there xs n (omega arith)

-- a callee of this type
abbrev pub IsFound : Parts → (index : ℕ) → FuncType → Type 0
IsFound m index ty = (callee : Callee) × (callee_of m index ≡ Some callee) × (type_of callee ≡ ty)

module _ (m : Parts) (is : IsRunnable m) (index place : ℕ) (ty : FuncType) (type_is : slice_get m.types place ≡ Some ty) where
  found_import : index < length (places_in m.imports) → slice_get (places_in m.imports) index ≡ Some place → IsFound m index ty
  unfolding callee_of
  found_import less at =
      let one = imported_at (λ (i : Import). IsSome (row_of_import i.«module» i.name)) m.imports is.offered index place at in
      let row = row_there (row_of_import one.import_of.«module» one.import_of.name) one.has in
      let count : length (imported_functions m) ≡ length (places_in m.imports) = as_many_places m.imports in
      let test : nat_lt index (length (imported_functions m)) ≡ true = grind (arith, nat_tests) in
      let known : imported_callee m one.import_of ≡ Some (Host ty row.0.call) =
      ap (λ (o : Option ℕ). host_call (option_and_then (slice_get m.types) o) (row_of_import one.import_of.«module» one.import_of.name)) one.place_is
      ∙ ap (λ (t : Option FuncType). host_call t (row_of_import one.import_of.«module» one.import_of.name)) type_is
      ∙ ap (host_call (Some ty)) row.1 in (
        Host ty row.0.call,
        ap (λ (b : Bool). if b then option_and_then (imported_callee m) (slice_get (imported_functions m) index) else owned (own_function m index)) test
            ∙ ap (option_and_then (imported_callee m)) one.there ∙ known,
        refl,
      )

  found_own : length (places_in m.imports) ≤ index → slice_get m.functions (index - length (places_in m.imports)) ≡ Some place → IsFound m index ty
  unfolding callee_of own_function
  found_own most at =
      let count : length (imported_functions m) ≡ length (places_in m.imports) = as_many_places m.imports in
      let test : nat_lt index (length (imported_functions m)) ≡ false = grind (arith, nat_tests) in
      let k = index - length (imported_functions m) in
      let here : slice_get m.functions k ≡ Some place = ap (λ (n : ℕ). slice_get m.functions (index - n)) count ∙ at in
      let less : k < length m.functions = body_below m.functions k place here in
      let counts : length m.functions ≡ length m.bodies = is.counts in
      let body = body_there m.bodies k (omega arith) in
      let function : Function = record { ty = ty; locals = sum_by (λ (run : LocalRun). run.count) body.0.locals; code = tree_of body.0.expr } in
      let known : defined_function m k ≡ Some function =
      ap (λ (o : Option ℕ). function_with (option_and_then (slice_get m.types) o) (slice_get m.bodies k)) here
      ∙ ap (λ (t : Option FuncType). function_with t (slice_get m.bodies k)) type_is ∙ ap (function_with (Some ty)) body.1 in (
        Own function,
        ap (λ (b : Bool). if b then option_and_then (imported_callee m) (slice_get (imported_functions m) index) else owned (if b then None else defined_function m k)) test
            ∙ ap owned known,
        refl,
      )

  pub found : slice_get (functions_of m) index ≡ Some place → IsFound m index ty
  found at =
      elim (at_append (places_in m.imports) m.functions index place at) as (λ w. IsFound m index ty)
      [ inl h ↦ found_import h.0 h.1 | inr h ↦ found_own h.0 h.1 ]

-- a function that is no imported one is the module's own
pub own_there : (m : Parts) → IsRunnable m → (index place : ℕ) (ty : FuncType) → slice_get m.types place ≡ Some ty →
    length (places_in m.imports) ≤ index → slice_get m.functions (index - length (places_in m.imports)) ≡ Some place →
    (function : Function) × (own_function m index ≡ Some function) × (function.ty ≡ ty)
unfolding own_function
own_there m is index place ty type_is most at =
    let count : length (imported_functions m) ≡ length (places_in m.imports) = as_many_places m.imports in
    let test : nat_lt index (length (imported_functions m)) ≡ false = grind (arith, nat_tests) in
    let k = index - length (imported_functions m) in
    let here : slice_get m.functions k ≡ Some place = ap (λ (n : ℕ). slice_get m.functions (index - n)) count ∙ at in
    let less : k < length m.functions = body_below m.functions k place here in
    let counts : length m.functions ≡ length m.bodies = is.counts in
    let body = body_there m.bodies k (omega arith) in
    let function : Function = record { ty = ty; locals = sum_by (λ (run : LocalRun). run.count) body.0.locals; code = tree_of body.0.expr } in
    let known : defined_function m k ≡ Some function =
    ap (λ (o : Option ℕ). function_with (option_and_then (slice_get m.types) o) (slice_get m.bodies k)) here
    ∙ ap (λ (t : Option FuncType). function_with t (slice_get m.bodies k)) type_is ∙ ap (function_with (Some ty)) body.1 in
    (function, ap (λ (b : Bool). if b then None else defined_function m k) test ∙ known, refl)

-- an accepted module, read from bytes, is a typed one
pub runnable_typed : (m : Parts) → IsRunnable m → IsTypedModule m
runnable_typed m is = record {
  functions = λ index function e. function_typed m is (index - length (imported_functions m)) function (own_placed m index function e);
  callees = λ index place ty at type_is. found m is index place ty type_is at;
}

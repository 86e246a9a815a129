-- The map of a module has for each function what the laws ask.
use Rattle.std.proofs.Common.{◌≡◌, ◌≤◌, ◌<◌, ℕ, zero, suc, ◌+◌, ◌-◌, Bool, true, false, if◌then◌else◌, nat_lt, All, IsSome, List, [], ◌∷◌, ◌++◌, length, map, filter, filter_map, sum_by, slice_get, Option, Some, None, option_and_then, option_map, is_some, arith, refl, sym, ◌∙◌, ap, subst}
use Rattle.std.proofs.lemmas.Bool.Decides.{nat_tests}
use Rattle.std.proofs.lemmas.List.Elements.{All-nil, All-cons, All-head, All-tail, All-weaker}
use Rattle.host_port.specs.HostTable.{Row, row_of, row_of_import}
use Rattle.host_port.specs.SoundRows.{IsSoundRow}
use Rattle.host_port.proofs.RowLaws.{rows_sound, row_has, import_call}
use Rattle.wasm_ops.specs.declared.num.Num.{Num}
use Rattle.wasm_form.specs.declared.types.FuncType.{FuncType}
use Rattle.wasm_form.specs.declared.body.Body.{Body}
use Rattle.wasm_form.specs.declared.body.LocalRun.{LocalRun}
use Rattle.wasm_form.specs.declared.parts.Import.{Import}
use Rattle.wasm_form.specs.declared.parts.Parts.{Parts}
use Rattle.wasm_form.specs.Trees.{Code, IsFlat, size}
use Rattle.wasm_form.specs.Matching.{HasPlain, IsTree}
use Rattle.wasm_form.specs.Context.{function_of, functions_of}
use Rattle.wasm_form.specs.Modules.{IsSpelled}
use Rattle.wasm_form.specs.Profile.{Host as Offer}
use Rattle.wasm_form.specs.Typing.{value_type}
use Rattle.wasm_form.specs.Validity.{SingleResults}
use Rattle.wasm_form.specs.Verdict.{IsAccepted}
use Rattle.code_map.specs.declared.callee.Callee.{Callee as MapCallee}
use Rattle.code_map.specs.declared.callee.Callee.TheVariants as callee
use Rattle.code_map.specs.declared.map.CodeMap.{CodeMap}
use Rattle.code_map.specs.Callees.{locals_in, imported_of, IsCalleeOf}
use Rattle.code_map.specs.Mapped.{Mapped}
use Rattle.code_map.specs.Maps.{body_label, IsMapOf}
use Rattle.code_map.specs.Targets.{count_if}
use Rattle.tree_machine.specs.Trees.{tree_of}
use Rattle.tree_machine.specs.Functions.{Function, Host, imported_functions, host_call, imported_callee, function_with, defined_function, own_function, owned, callee_of}
use Rattle.tree_machine.specs.Typed.{Offers, offered_type}
use Rattle.tree_machine.proofs.Reading.{tree_is_read}
use Rattle.tree_machine.proofs.BeginTyped.{IsHostImport, function_is, imports_hosted, runnable}
use Rattle.tree_machine.proofs.ModuleTyped.{HasInstrTree, plain_instrs, as_many_places, imported_at, body_below, body_there, each_at}
use Rattle.flat_machine.specs.Mapping.{HasResults}
use Rattle.flat_machine.specs.Calls.{IsMappedFunction}
use Rattle.flat_machine.specs.MappedModule.{AreTheCalls, AreOffered, imported_call, imported_calls, IsMappedModule, HasOwnCallee, HasHostCallee}
use Rattle.flat_machine.proofs.Standing.{same_some}

-- a function of the module's own, by its place among them
record IsOwn (m : Parts) (place : ℕ) (function : Function) : Type 0 where
  index : ℕ
  ty : FuncType
  body : Body
  has_index : slice_get m.functions place ≡ Some index
  has_type : slice_get m.types index ≡ Some ty
  has_body : slice_get m.bodies place ≡ Some body
  is : function ≡ record { ty = ty; locals = sum_by (λ (run : LocalRun). run.count) body.locals; code = tree_of body.expr }

own_if : (m : Parts) (place : ℕ) (function : Function) (o : Option ℕ) (t : Option FuncType) (b : Option Body) → slice_get m.functions place ≡ o →
    option_and_then (slice_get m.types) o ≡ t → slice_get m.bodies place ≡ b → function_with t b ≡ Some function → IsOwn m place function
own_if m place function None t b at type_is body_is h = let none : function_with None b ≡ Some function = ap (λ (x : Option FuncType). function_with x b) type_is ∙ h in absurd (cc)
own_if m place function (Some index) None b at type_is body_is h = absurd (cc)
own_if m place function (Some index) (Some ty) None at type_is body_is h = absurd (cc)
own_if m place function (Some index) (Some ty) (Some body) at type_is body_is h =
    record { index = index; ty = ty; body = body; has_index = at; has_type = type_is; has_body = body_is; is = cc }

-- an index past the imported functions
record IsPast (m : Parts) (index : ℕ) (function : Function) : Type 0 where
  past : length (imported_of m) ≤ index
  own : IsOwn m (index - length (imported_of m)) function

past_if : (m : Parts) (index : ℕ) (function : Function) (b : Bool) → nat_lt index (length (imported_functions m)) ≡ b →
    (if b then None else defined_function m (index - length (imported_functions m))) ≡ Some function → IsPast m index function
past_if m index function true e h = absurd (cc)
past_if m index function false e h =
    let count : length (imported_functions m) ≡ length (imported_of m) = as_many_places m.imports in
    let least : length (imported_functions m) ≤ index = grind (arith, nat_tests) in
    let here : defined_function m (index - length (imported_of m)) ≡ Some function = ap (λ (n : ℕ). defined_function m (index - n)) (sym count) ∙ h in
    record { past = omega arith; own = own_if m (index - length (imported_of m)) function _ _ _ refl refl refl here }

own_past : (m : Parts) (index : ℕ) (function : Function) → own_function m index ≡ Some function → IsPast m index function
unfolding own_function
own_past m index function e = past_if m index function (nat_lt index (length (imported_functions m))) refl e

-- what the second of two lists has at a place
pub append_at : {X : Type 0} (xs ys : List X) (n : ℕ) → slice_get (xs ++ ys) (length xs + n) ≡ slice_get ys n
append_at [] ys n = let same : 0 + n ≡ n = omega arith in ap (slice_get ys) same
append_at (x ∷ xs) ys n =
    let same : suc (length xs) + n ≡ suc (length xs + n) = omega arith in
    ap (slice_get (x ∷ (xs ++ ys))) same ∙ append_at xs ys n

-- what the first has
pub append_first : {X : Type 0} (xs ys : List X) (n : ℕ) (x : X) → slice_get xs n ≡ Some x → slice_get (xs ++ ys) n ≡ Some x
append_first [] ys n x e = absurd (cc)
append_first (y ∷ xs) ys zero x e = e
append_first (y ∷ xs) ys (suc n) x e = append_first xs ys n x e

single : (n : ℕ) → n ≤ 1 → (gives : Bool) × (n ≡ count_if gives)
single zero few = (false, refl)
single (suc zero) few = (true, omega arith)
single (suc (suc n)) few = absurd (omega arith)

one_count : (a b : Bool) → count_if a ≡ count_if b → a ≡ b
one_count true true e = refl
one_count false false e = refl
one_count true false e = absurd (omega arith)
one_count false true e = absurd (omega arith)

module _ (m : Parts) (map : CodeMap) (is : IsMappedModule m map) where
  -- the function with this body is mapped
  mapped_own : (place : ℕ) (function : Function) → IsOwn m place function → IsMappedFunction m map.bodies function place
  mapped_own place function own =
      let ty : function.ty ≡ own.ty = ap (λ (f : Function). f.ty) own.is in
      let locals : function.locals ≡ locals_in own.body = ap (λ (f : Function). f.locals) own.is in
      let code : function.code ≡ tree_of own.body.expr = ap (λ (f : Function). f.code) own.is in
      let tree = each_at (λ (b : Body). IsTree b.expr) m.bodies place own.body is.trees own.has_body in
      let read : tree.0 ≡ function.code = sym (tree_is_read own.body.expr tree.0 tree.1 tree.2) ∙ sym code in
      let plain : HasPlain function.code = subst HasPlain read tree.1 in
      let flat : IsFlat own.body.expr function.code = subst (λ (c : Code). IsFlat own.body.expr c) read tree.2 in
      let within = body_below m.bodies place own.body own.has_body in
      let count = is.mapped.bodies.count in
      let found = body_there map.bodies place (omega arith) in
      let few : length own.ty.results ≤ 1 = each_at (λ (t : FuncType). length t.results ≤ 1) m.types own.index own.ty is.results own.has_type in
      let one = single (length own.ty.results) few in
      let results : length function.ty.results ≡ length own.ty.results = ap (λ (t : FuncType). length t.results) ty in
      let mapped = is.mapped.bodies.each place found.0 found.1 own.index own.ty own.body one.0 own.has_index own.has_type own.has_body one.1 function.code plain flat in
      let high : length own.ty.params + locals_in own.body ≡ length function.ty.params + function.locals =
      ap (λ (t : FuncType). length t.params + locals_in own.body) (sym ty) ∙ ap (λ (n : ℕ). length function.ty.params + n) (sym locals) in
      record {
        results = (own.index, own.ty, own.has_index, own.has_type, sym results);
        body = own.body;
        body_is = own.has_body;
        flat = flat;
        map = found.0;
        map_is = found.1;
        gives = one.0;
        gives_is = results ∙ one.1;
        mapped = subst (λ (n : ℕ). Mapped m found.0 (body_label (size function.code) n one.0 ∷ []) 0 n function.code) high mapped;
      }

  own_callee_is : (index place : ℕ) (function : Function) (own : IsOwn m place function) → index ≡ length (imported_of m) + place → (c : MapCallee) →
      slice_get map.callees index ≡ Some c → IsCalleeOf m is.calls index own.index c → HasOwnCallee m map index function
  own_callee_is index place function own at (callee.Own body params locals gives class) there (place_is, (b, body_is, locals_are), shape) =
      let same_place : body ≡ place = omega arith in
      let ty : own.ty ≡ shape.ty = same_some (slice_get m.types own.index) own.ty shape.ty own.has_type shape.found in
      let fty : function.ty ≡ shape.ty = ap (λ (f : Function). f.ty) own.is ∙ ty in
      let same_body : own.body ≡ b = same_some (slice_get m.bodies place) own.body b own.has_body (ap (slice_get m.bodies) (sym same_place) ∙ body_is) in
      let locals_is : locals ≡ function.locals = locals_are ∙ ap locals_in (sym same_body) ∙ sym (ap (λ (f : Function). f.locals) own.is) in
      let params_is : params ≡ length function.ty.params = sym shape.parameters ∙ ap (λ (t : FuncType). length t.params) (sym fty) in
      record {
        body = body;
        gives = gives;
        class = class;
        there = there ∙ ap (λ (n : ℕ). Some (callee.Own body n locals gives class)) params_is
            ∙ ap (λ (n : ℕ). Some (callee.Own body (length function.ty.params) n gives class)) locals_is;
        place = place_is;
        results = ap (λ (t : FuncType). length t.results) fty ∙ shape.results;
        classed = (own.index, own.has_type ∙ ap (λ (t : FuncType). Some t) (sym (ap (λ (f : Function). f.ty) own.is)), shape.classified);
        mapped = subst (λ (n : ℕ). IsMappedFunction m map.bodies function n) (sym same_place) (mapped_own place function own);
      }
  own_callee_is index place function own at (callee.Host call params gives class) there (before, called, shape) = absurd (omega arith)

  -- a function of the module's own has its callee in the map
  pub own_mapped : (index : ℕ) (function : Function) → own_function m index ≡ Some function → HasOwnCallee m map index function
  own_mapped index function e =
      let past = own_past m index function e in
      let place = index - length (imported_of m) in
      let least = past.past in
      let at : index ≡ length (imported_of m) + place = omega arith in
      let typed : slice_get (functions_of m) index ≡ Some past.own.index =
      ap (slice_get (functions_of m)) at ∙ append_at (imported_of m) m.functions place ∙ past.own.has_index in
      let within = body_below (functions_of m) index past.own.index typed in
      let count = is.mapped.callees.count in
      let found = body_there map.callees index (omega arith) in
      own_callee_is index place function past.own at found.0 found.1 (is.mapped.callees.each index past.own.index found.0 typed found.1)

callee_type : (m : Parts) (calls : List ℕ) (function index : ℕ) (c : MapCallee) → IsCalleeOf m calls function index c → (ty : FuncType) × (slice_get m.types index ≡ Some ty)
callee_type m calls function index (callee.Own body params locals gives class) (at, rest, shape) = (shape.ty, shape.found)
callee_type m calls function index (callee.Host call params gives class) (less, at, shape) = (shape.ty, shape.found)

-- where the module has a function of its own it has a first one
pub first_own : (m : Parts) (map : CodeMap) → IsMappedModule m map → (index : ℕ) (function : Function) → own_function m index ≡ Some function →
    (body : Body) × (count : ℕ) × (slice_get m.bodies 0 ≡ Some body) × HasResults m 0 count
first_own m map is index function e =
    let past = own_past m index function e in
    let within = body_below m.bodies (index - length (imported_of m)) past.own.body past.own.has_body in
    let counts = is.counts in
    let body = body_there m.bodies 0 (omega arith) in
    let known = body_there m.functions 0 (omega arith) in
    let at = length (imported_of m) + 0 in
    let typed : slice_get (functions_of m) at ≡ Some known.0 = append_at (imported_of m) m.functions 0 ∙ known.1 in
    let all = body_below (functions_of m) at known.0 typed in
    let count = is.mapped.callees.count in
    let found = body_there map.callees at (omega arith) in
    let ty = callee_type m is.calls at known.0 found.0 (is.mapped.callees.each at known.0 found.0 typed found.1) in
    (body.0, length ty.0.results, body.1, (known.0, ty.0, known.1, ty.1, refl))

-- the imports that are functions
abbrev functions_in : List Import → List Import
functions_in imports = filter (λ (i : Import). is_some (function_of i.what)) imports

-- it is there exactly where the other is
abbrev IsAlike : (one other : Option ℕ) → Type 0
IsAlike None other = other ≡ None
IsAlike (Some n) other = IsSome other

module _ (g : Import → Option ℕ) where
  alike_case : (i : Import) (imports : List Import) (o p : Option ℕ) → function_of i.what ≡ o → g i ≡ p → IsAlike o p →
      ((index : ℕ) (j : Import) → slice_get (functions_in imports) index ≡ Some j → slice_get (filter_map g imports) index ≡ g j) →
      (index : ℕ) (j : Import) → slice_get (functions_in (i ∷ imports)) index ≡ Some j → slice_get (filter_map g (i ∷ imports)) index ≡ g j
  alike_case i imports None None e f h others index j at =
      let here : functions_in (i ∷ imports) ≡ functions_in imports = rw e refl in
      let there : filter_map g (i ∷ imports) ≡ filter_map g imports = rw f refl in
      ap (λ (xs : List ℕ). slice_get xs index) there ∙ others index j (ap (λ (xs : List Import). slice_get xs index) (sym here) ∙ at)
  alike_case i imports None (Some n) e f h others index j at = absurd (cc)
  alike_case i imports (Some n) None e f h others index j at = absurd (cc)
  alike_case i imports (Some n) (Some k) e f h others zero j at =
      let here : functions_in (i ∷ imports) ≡ i ∷ functions_in imports = rw e refl in
      let there : filter_map g (i ∷ imports) ≡ k ∷ filter_map g imports = rw f refl in
      let first : Some i ≡ Some j = ap (λ (xs : List Import). slice_get xs 0) (sym here) ∙ at in
      let same : i ≡ j = cc in
      ap (λ (xs : List ℕ). slice_get xs 0) there ∙ sym f ∙ ap g same
  alike_case i imports (Some n) (Some k) e f h others (suc index) j at =
      let here : functions_in (i ∷ imports) ≡ i ∷ functions_in imports = rw e refl in
      let there : filter_map g (i ∷ imports) ≡ k ∷ filter_map g imports = rw f refl in
      ap (λ (xs : List ℕ). slice_get xs (suc index)) there ∙ others index j (ap (λ (xs : List Import). slice_get xs (suc index)) (sym here) ∙ at)

  -- what is taken of each function that is imported stands at its index
  pub alike_at : (imports : List Import) → All (λ (i : Import). IsAlike (function_of i.what) (g i)) imports →
      (index : ℕ) (j : Import) → slice_get (functions_in imports) index ≡ Some j → slice_get (filter_map g imports) index ≡ g j
  alike_at [] each index j at = absurd (cc)
  alike_at (i ∷ imports) each index j at =
      alike_case i imports (function_of i.what) (g i) refl refl (All-head (λ (i : Import). IsAlike (function_of i.what) (g i)) i imports each)
      (λ n x h. alike_at imports (All-tail (λ (i : Import). IsAlike (function_of i.what) (g i)) i imports each) n x h) index j at

-- an imported function that is a call of the host
record IsHost (m : Parts) (index : ℕ) (ty : FuncType) (call : ℕ) : Type 0 where
  import_of : Import
  there : slice_get (imported_functions m) index ≡ Some import_of
  place : ℕ
  function : function_of import_of.what ≡ Some place
  type_is : slice_get m.types place ≡ Some ty
  row : Row
  row_is : row_of_import import_of.«module» import_of.name ≡ Some row
  number : row.call ≡ call

owned_none : (o : Option Function) (ty : FuncType) (call : ℕ) → owned o ≡ Some (Host ty call) → ⊥
owned_none None ty call e = absurd (cc)
owned_none (Some function) ty call e = absurd (cc)

host_of : (m : Parts) (index : ℕ) (ty : FuncType) (call : ℕ) (i : Import) (o : Option ℕ) (t : Option FuncType) (r : Option Row) →
    slice_get (imported_functions m) index ≡ Some i → function_of i.what ≡ o → option_and_then (slice_get m.types) o ≡ t → row_of_import i.«module» i.name ≡ r →
    host_call t r ≡ Some (Host ty call) → IsHost m index ty call
host_of m index ty call i None t r at function type_is row h =
    let none : host_call None r ≡ Some (Host ty call) = ap (λ (x : Option FuncType). host_call x r) type_is ∙ h in absurd (cc)
host_of m index ty call i (Some place) None r at function type_is row h = absurd (cc)
host_of m index ty call i (Some place) (Some t) None at function type_is row h = absurd (cc)
host_of m index ty call i (Some place) (Some t) (Some r) at function type_is row h =
    let inner : Host t r.call ≡ Host ty call = same_some (Some (Host t r.call)) (Host t r.call) (Host ty call) refl h in
    let same : t ≡ ty = cc in
    let number : r.call ≡ call = cc in
    record { import_of = i; there = at; place = place; function = function; type_is = type_is ∙ ap (λ (x : FuncType). Some x) same; row = r; row_is = row; number = number }

host_in : (m : Parts) (index : ℕ) (ty : FuncType) (call : ℕ) (o : Option Import) → slice_get (imported_functions m) index ≡ o →
    option_and_then (imported_callee m) o ≡ Some (Host ty call) → IsHost m index ty call
host_in m index ty call None at h = absurd (cc)
host_in m index ty call (Some i) at h = host_of m index ty call i _ _ _ at refl refl refl h

host_if : (m : Parts) (index : ℕ) (ty : FuncType) (call : ℕ) (b : Bool) →
    (if b then option_and_then (imported_callee m) (slice_get (imported_functions m) index) else owned (own_function m index)) ≡ Some (Host ty call) → IsHost m index ty call
host_if m index ty call true h = host_in m index ty call _ refl h
host_if m index ty call false h = absurd (owned_none (own_function m index) ty call h)

host_is : (m : Parts) (index : ℕ) (ty : FuncType) (call : ℕ) → callee_of m index ≡ Some (Host ty call) → IsHost m index ty call
unfolding callee_of
host_is m index ty call e = host_if m index ty call (nat_lt index (length (imported_functions m))) e

itself : (o : Option ℕ) → IsAlike o o
itself None = refl
itself (Some n) = refl

each_itself : (imports : List Import) → All (λ (i : Import). IsAlike (function_of i.what) (function_of i.what)) imports
each_itself [] = All-nil (λ (i : Import). IsAlike (function_of i.what) (function_of i.what))
each_itself (i ∷ imports) = All-cons (λ (i : Import). IsAlike (function_of i.what) (function_of i.what)) i imports (itself (function_of i.what)) (each_itself imports)

module _ (m : Parts) (map : CodeMap) (is : IsMappedModule m map) where
  host_callee_is : (index : ℕ) (ty : FuncType) (call place : ℕ) → slice_get is.calls index ≡ Some call → index < length (imported_of m) → slice_get m.types place ≡ Some ty →
      (c : MapCallee) → slice_get map.callees index ≡ Some c → IsCalleeOf m is.calls index place c → HasHostCallee m map index ty call
  host_callee_is index ty call place known before type_is (callee.Own body params locals gives class) there (at, rest, shape) = absurd (omega arith)
  host_callee_is index ty call place known before type_is (callee.Host number params gives class) there (less, at, shape) =
      let same : number ≡ call = same_some (slice_get is.calls index) number call at known in
      let types : shape.ty ≡ ty = same_some (slice_get m.types place) shape.ty ty shape.found type_is in
      let params_is : params ≡ length ty.params = sym shape.parameters ∙ ap (λ (t : FuncType). length t.params) types in
      record {
        gives = gives;
        class = class;
        there = there ∙ ap (λ (n : ℕ). Some (callee.Host n params gives class)) same ∙ ap (λ (n : ℕ). Some (callee.Host call n gives class)) params_is;
        results = ap (λ (t : FuncType). length t.results) (sym types) ∙ shape.results;
        classed = (place, type_is, shape.classified);
      }

  -- a call of the host has its callee in the map
  pub host_mapped : (index : ℕ) (ty : FuncType) (call : ℕ) → callee_of m index ≡ Some (Host ty call) → HasHostCallee m map index ty call
  host_mapped index ty call e =
      let host = host_is m index ty call e in
      let at : slice_get (imported_of m) index ≡ Some host.place =
      alike_at (λ (i : Import). function_of i.what) m.imports (each_itself m.imports) index host.import_of host.there ∙ host.function in
      let before = body_below (imported_of m) index host.place at in
      let typed : slice_get (functions_of m) index ≡ Some host.place = append_first (imported_of m) m.functions index host.place at in
      let within = body_below (functions_of m) index host.place typed in
      let count = is.mapped.callees.count in
      let found = body_there map.callees index (omega arith) in
      host_callee_is index ty call host.place (is.calls_are index ty call e) before host.type_is found.0 found.1
      (is.mapped.callees.each index host.place found.0 typed found.1)

-- the calls of the host table are those of the imported functions, where it has each of them
call_alike : (i : Import) (o : Option ℕ) (r : Option Row) → IsSome r → IsAlike o (option_and_then (λ (ty : ℕ). option_map (λ (row : Row). row.call) r) o)
call_alike i None r h = refl
call_alike i (Some n) None h = absurd (cc)
call_alike i (Some n) (Some row) h = refl

calls_alike : (imports : List Import) → All (λ (i : Import). IsSome (row_of_import i.«module» i.name)) imports →
    All (λ (i : Import). IsAlike (function_of i.what) (imported_call i)) imports
calls_alike [] h = All-nil (λ (i : Import). IsAlike (function_of i.what) (imported_call i))
calls_alike (i ∷ imports) h =
    All-cons (λ (i : Import). IsAlike (function_of i.what) (imported_call i)) i imports
    (call_alike i (function_of i.what) (row_of_import i.«module» i.name) (All-head (λ (i : Import). IsSome (row_of_import i.«module» i.name)) i imports h))
    (calls_alike imports (All-tail (λ (i : Import). IsSome (row_of_import i.«module» i.name)) i imports h))

-- the calls of a module whose imports the host table has
pub the_calls : (m : Parts) → All (λ (i : Import). IsSome (row_of_import i.«module» i.name)) m.imports → AreTheCalls m (imported_calls m)
the_calls m offered index ty call e =
    let host = host_is m index ty call e in
    alike_at imported_call m.imports (calls_alike m.imports offered) index host.import_of host.there
    ∙ ap (option_and_then (λ (t : ℕ). option_map (λ (row : Row). row.call) (row_of_import host.import_of.«module» host.import_of.name))) host.function
    ∙ ap (λ (r : Option Row). option_map (λ (row : Row). row.call) r) host.row_is ∙ ap (λ (n : ℕ). Some n) host.number

mapped_length : (params : List Num) → length (map value_type params) ≡ length params
mapped_length [] = refl
mapped_length (p ∷ params) = ap suc (mapped_length params)

-- the calls of the host have the types of the host table
are_offered : (host : Offer) (m : Parts) → Offers host → IsAccepted host m → IsSpelled m → AreOffered m
are_offered host m offers accepted spelled index ty call e =
    let is = host_is m index ty call e in
    let at : slice_get (imported_of m) index ≡ Some is.place =
    alike_at (λ (i : Import). function_of i.what) m.imports (each_itself m.imports) index is.import_of is.there ∙ is.function in
    let one = imported_at (IsHostImport host m) m.imports (imports_hosted host m offers accepted spelled) index is.place at in
    let same : one.import_of ≡ is.import_of = same_some (slice_get (imported_functions m) index) one.import_of is.import_of one.there is.there in
    let hosted : IsHostImport host m is.import_of = subst (IsHostImport host m) same one.has in
    let i = is.import_of in
    let offered : host i.«module» i.name ≡ Some (offered_type is.row) = offers i.«module» i.name ∙ ap (option_map offered_type) is.row_is in (
      is.row,
      ap row_of (sym is.number) ∙ import_call i.«module» i.name is.row is.row_is,
      hosted.1 is.place ty (offered_type is.row) (function_is i.what is.place is.function) is.type_is offered,
    )

-- so a call of the host has eight parameters at most
pub few_params : (m : Parts) → AreOffered m → (index : ℕ) (ty : FuncType) (call : ℕ) → callee_of m index ≡ Some (Host ty call) → length ty.params ≤ 8
few_params m hosts index ty call e =
    let row = hosts index ty call e in
    let few = (row_has IsSoundRow rows_sound call row.0 row.1).few in
    let least : length row.0.params ≤ 8 = grind (arith, nat_tests) in
    let count : length ty.params ≡ length row.0.params = ap (λ (t : FuncType). length t.params) row.2 ∙ mapped_length row.0.params in
    omega arith

trees_of : (bodies : List Body) → All (λ (b : Body). HasInstrTree b.expr) bodies → All (λ (b : Body). IsTree b.expr) bodies
trees_of bodies h = All-weaker (λ (b : Body). HasInstrTree b.expr) (λ (b : Body). IsTree b.expr)
    (λ b t. (t.0, plain_instrs t.0 t.1, t.2)) bodies h

-- an accepted module that bytes spell, with the map of its code
pub accepted_mapped : (host : Offer) (m : Parts) (map : CodeMap) → Offers host → IsAccepted host m → IsSpelled m → IsMapOf m (imported_calls m) map → IsMappedModule m map
accepted_mapped host m map offers accepted spelled mapped =
    let runs = runnable host m offers accepted spelled in
    record {
      results = accepted.valid.rules SingleResults;
      counts = runs.counts;
      trees = trees_of m.bodies runs.instrs;
      hosts = are_offered host m offers accepted spelled;
      calls = imported_calls m;
      calls_are = the_calls m runs.offered;
      mapped = mapped;
    }

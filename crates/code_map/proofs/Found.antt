-- The functions of a module by their indexes, their types and their bodies.
use Rattle.std.proofs.Common.{◌≡◌, ℕ, ◌+◌, ◌-◌, ◌^◌, ◌<◌, ◌≤◌, List, [], ◌∷◌, ◌++◌, length, get_or, Bool, true, false, not, Some, All, refl, sym, ap, subst, ◌∙◌, arith, length-append}
use Rattle.std.specs.Prelude.{slice_get, ◌==◌, sum_by, filter_map, Result, Ok, Err, IfOk}
use Rattle.std.proofs.lemmas.Option.{slice_get_within, get_or_from_slice_get, slice_get_read, slice_get-get_or}
use Rattle.wasm_form.specs.declared.types.FuncType.{FuncType}
use Rattle.wasm_form.specs.declared.body.Body.{Body}
use Rattle.wasm_form.specs.declared.body.LocalRun.{LocalRun}
use Rattle.wasm_form.specs.declared.parts.Import.{Import}
use Rattle.wasm_form.specs.declared.parts.Parts.{Parts}
use Rattle.wasm_form.specs.Matching.{IsTree}
use Rattle.wasm_form.specs.Context.{function_of, functions_of}
use Rattle.code_map.specs.declared.body_map.BodyMap.{BodyMap}
use Rattle.code_map.specs.declared.callee.Callee.TheVariants as callee
use Rattle.code_map.specs.Targets.{count_if}
use Rattle.code_map.specs.Counts.{IsNarrow}
use Rattle.code_map.specs.Callees.{AreClasses, locals_in, imported_of, HasShape, IsCalleeOf}
use Rattle.code_map.specs.Maps.{IsMapped, IsBodyMap}
use Rattle.code_map.specs.Ready.{IsReady}
use Rattle.code_map.proofs.Growing.{behind}

-- what holds of each item holds of one that is found
pub all_at : {A : Type 0} (P : A → Type 0) (xs : List A) (k : ℕ) (x : A) → All P xs → slice_get xs k ≡ Some x → P x
all_at P xs k x all e = subst P (get_or_from_slice_get xs k x x e) (all k x (slice_get_within xs k x e))

pub same_item : {A : Type 0} (xs : List A) (k : ℕ) (x y : A) → slice_get xs k ≡ Some x → slice_get xs k ≡ Some y → x ≡ y
same_item xs k x y e f = let g : Some x ≡ Some y = sym e ∙ f in cc

pub narrow : (m : Parts) → IsReady m → All IsNarrow m.types
narrow m ready = λ k d low. record { results = ready.results k d low; params = ready.parameters k d low }

-- whether a list with one item at most has one
pub gives_is : {A : Type 0} (xs : List A) (b : Bool) → b ≡ (length xs == 0) → length xs ≤ 1 → length xs ≡ count_if (not b)
gives_is [] b e few = sym (ap (λ k. count_if (not k)) e)
gives_is (x ∷ []) b e few = sym (ap (λ k. count_if (not k)) e)
gives_is (x ∷ y ∷ xs) b e few = absurd (omega arith)

same_count : (a b : Bool) → count_if a ≡ count_if b → a ≡ b
same_count true true e = refl
same_count false false e = refl
same_count true false e = absurd (omega (arith, e))
same_count false true e = absurd (omega (arith, e))

-- the type of a function is there
pub index_there : (m : Parts) (function index : ℕ) → IsReady m → slice_get (functions_of m) function ≡ Some index → index < length m.types
index_there m function index ready e = all_at (λ k. k < length m.types) (functions_of m) function index ready.typed e

pub own_there : (m : Parts) (place index : ℕ) → IsReady m → slice_get m.functions place ≡ Some index → index < length m.types
own_there m place index ready e = index_there m (length (imported_of m) + place) index ready (behind (imported_of m) m.functions place ∙ e)

pub shape : (m : Parts) (classes : List ℕ) (index params class : ℕ) (ty : FuncType) (b : Bool) → IsReady m → AreClasses m.types classes → slice_get m.types index ≡ Some ty → params ≡ length ty.params
    → b ≡ (length ty.results == 0) → slice_get classes index ≡ Some class → HasShape m index params (not b) class
shape m classes index params class ty b ready are found ps e there = record {
  ty = ty;
  found = found;
  parameters = sym ps;
  results = gives_is ty.results b e (all_at (λ (t : FuncType). length t.results ≤ 1) m.types index ty ready.results found);
  classified = are.each index class there;
}

-- the map of a body, whatever is said of its function
pub body_mapped : (m : Parts) (place index : ℕ) (ty : FuncType) (body : Body) (locals : ℕ) (b : Bool) (map : BodyMap) → IsReady m → slice_get m.functions place ≡ Some index
    → slice_get m.types index ≡ Some ty
    → slice_get m.bodies place ≡ Some body → locals ≡ length ty.params + locals_in body → b ≡ (length ty.results == 0) → IsMapped m locals (not b) body.expr map → IsBodyMap m place map
body_mapped m place index ty body locals b map ready f t bo l e h index' ty' body' gives' f' t' bo' r' =
    let i : index ≡ index' = same_item m.functions place index index' f f' in
    let u : ty ≡ ty' = same_item m.types index ty ty' t (ap (λ k. slice_get m.types k) i ∙ t') in
    let v : body ≡ body' = same_item m.bodies place body body' bo bo' in
    let g : length ty.results ≡ count_if (not b) = gives_is ty.results b e (all_at (λ (t : FuncType). length t.results ≤ 1) m.types index ty ready.results t) in
    let w : not b ≡ gives' = same_count (not b) gives' (sym g ∙ ap (λ (t : FuncType). length t.results) u ∙ r') in
    let n : locals ≡ length ty'.params + locals_in body' = l ∙ ap (λ (t : FuncType). length t.params + locals_in body) u ∙ ap (λ (k : Body). length ty'.params + locals_in k) v in
    subst (λ k. IsMapped m k gives' body'.expr map) n (subst (λ k. IsMapped m locals k body'.expr map) w (subst (λ (k : Body). IsMapped m locals (not b) k.expr map) v h))

-- the callees
pub own_callee : (m : Parts) (calls : List ℕ) (imported function body params locals class index : ℕ) (gives : Bool) (b : Body) → imported ≡ length (imported_of m) → imported ≤ function
    → body ≡ function - imported
    → slice_get m.bodies body ≡ Some b → locals ≡ locals_in b → HasShape m index params gives class → IsCalleeOf m calls function index (callee.Own body params locals gives class)
own_callee m calls imported function body params locals class index gives b i low e there l has = (omega (arith, i, low, e), (b, there, l), has)

pub host_callee : (m : Parts) (calls : List ℕ) (imported function call params class index : ℕ) (gives : Bool) → imported ≡ length (imported_of m) → function < imported
    → slice_get calls function ≡ Some call
    → HasShape m index params gives class → IsCalleeOf m calls function index (callee.Host call params gives class)
host_callee m calls imported function call params class index gives i low there has = (omega (arith, i, low), there, has)

-- the same by what the code reads
module _ (m : Parts) (ready : IsReady m) where
  pub callee_shape : (types : List FuncType) (functions classes : List ℕ) (function index params : ℕ) (ty : FuncType) (b : Bool) → functions ≡ functions_of m → AreClasses m.types classes
      → types ≡ m.types
      → slice_get functions function ≡ Some index → ty ≡ get_or types (get_or functions function 0) ty → params ≡ length ty.params → b ≡ (length ty.results == 0)
      → HasShape m index params (not b) (get_or classes (get_or functions function 0) 0)
  callee_shape types functions classes function index params ty b fs are ts e t ps be =
      let i : get_or functions function 0 ≡ index = get_or_from_slice_get functions function index 0 e in
      let low : index < length m.types = index_there m function index ready (ap (λ l. slice_get l function) (sym fs) ∙ e) in
      let found : slice_get m.types index ≡ Some ty =
      slice_get_read m.types (length m.types) index ty refl low (t ∙ ap (λ l. get_or l (get_or functions function 0) ty) ts ∙ ap (λ k. get_or m.types k ty) i)
      in
      let there : slice_get classes index ≡ Some (get_or classes index 0) = slice_get-get_or classes index 0 (omega (arith, low, are.count)) in
      subst (λ k. HasShape m index params (not b) (get_or classes k 0)) (sym i) (shape m classes index params (get_or classes index 0) ty b ready are found ps be there)

  pub own_place : (functions : List ℕ) (imported function : ℕ) → functions ≡ functions_of m → imported ≡ length (imported_of m) → imported ≤ function → function < length functions
      → function - imported < length m.bodies
  own_place functions imported function fs i low high = omega (arith, ap length fs, length-append (imported_of m) m.functions, i, low, high, ready.counts)

  pub body_found : (bodies : List Body) (place : ℕ) (body : Body) → bodies ≡ m.bodies → place < length m.bodies → body ≡ get_or bodies place body → slice_get m.bodies place ≡ Some body
  body_found bodies place body bs low e = slice_get_read m.bodies (length m.bodies) place body refl low (e ∙ ap (λ l. get_or l place body) bs)

  pub few_runs : (bodies : List Body) (place : ℕ) (body : Body) (runs : List LocalRun) → bodies ≡ m.bodies → place < length m.bodies → body ≡ get_or bodies place body → runs ≡ body.locals
      → sum_by (λ (run : LocalRun). run.count) runs < 2 ^ 32
  few_runs bodies place body runs bs low e rs =
      subst (λ l. sum_by (λ (run : LocalRun). run.count) l < 2 ^ 32) (sym rs) (all_at (λ (b : Body). locals_in b < 2 ^ 32) m.bodies place body ready.locals (body_found bodies place body bs low e))

  pub function_found : (functions : List ℕ) (place : ℕ) → functions ≡ m.functions → place < length m.bodies → slice_get m.functions place ≡ Some (get_or functions place 0)
  function_found functions place fs low =
      slice_get-get_or m.functions place 0 (omega (arith, low, ready.counts)) ∙ ap (λ l. Some (get_or l place 0)) (sym fs)

  pub own_bound : (functions : List ℕ) (types : List FuncType) (place : ℕ) → functions ≡ m.functions → types ≡ m.types → place < length m.bodies → get_or functions place 0 < length types
  own_bound functions types place fs ts low =
      omega (arith, own_there m place (get_or functions place 0) ready (function_found functions place fs low), ap length ts)

  pub type_found : (functions : List ℕ) (types : List FuncType) (place : ℕ) (ty : FuncType) → functions ≡ m.functions → types ≡ m.types → place < length m.bodies
      → ty ≡ get_or types (get_or functions place 0) ty → slice_get m.types (get_or functions place 0) ≡ Some ty
  type_found functions types place ty fs ts low e =
      slice_get_read m.types (length m.types) (get_or functions place 0) ty refl (own_there m place (get_or functions place 0) ready (function_found functions place fs low))
      (e ∙ ap (λ l. get_or l (get_or functions place 0) ty) ts)

  -- parameters and locals are few
  pub few_places : (place index : ℕ) (ty : FuncType) (body : Body) (params locals : ℕ) → slice_get m.functions place ≡ Some index → slice_get m.types index ≡ Some ty
      → slice_get m.bodies place ≡ Some body
      → params ≡ length ty.params → locals ≡ locals_in body → params + locals ≤ 50000
  few_places place index ty body params locals f t b p l = omega (arith, ready.few_locals place index ty body f t b, p, l)

  pub tree_there : (place : ℕ) (body : Body) → slice_get m.bodies place ≡ Some body → IsTree body.expr
  tree_there place body e = all_at (λ (b : Body). IsTree b.expr) m.bodies place body ready.trees e

-- the functions, as they are made
pub made : (m : Parts) (found items front own : List ℕ) (imports : List Import) → found ≡ items → items ≡ front ++ own → front ≡ filter_map (λ (i : Import). function_of i.what) imports
    → imports ≡ m.imports
    → own ≡ m.functions → found ≡ functions_of m
made m found items front own imports a b f i o =
    a ∙ b ∙ ap (λ l. l ++ own) (f ∙ ap (λ l. filter_map (λ (i : Import). function_of i.what) l) i) ∙ ap (λ l. imported_of m ++ l) o

pub if_ok : {T E : Type 0} (r : Result T E) (P Q : T → Type 0) → IfOk r P → ((x : T) → P x → Q x) → IfOk r Q
if_ok (Ok x) P Q h f = f x h
if_ok (Err e) P Q h f = h

-- What the flat machine does at a call and behind a body's end, where it is not stuck.
use Rattle.std.proofs.Common.{◌≡◌, ◌≢◌, ℕ, zero, suc, ◌+◌, ◌-◌, ◌<◌, ◌≤◌, ◌&&◌, Bool, true, false, cond, nat_eq, nat_le, List, [], ◌∷◌, ◌++◌, length, take, drop, reverse, replicate, map, get_or, slice_get, Option, Some, None, refl, sym, ap, subst, ◌∙◌, ◌⊎◌, inl, inr, arith}
use Rattle.std.proofs.lemmas.List.{reverse-append, length-append, length-replicate, length-reverse, length-take-le, get_or_read}
use Rattle.std.proofs.lemmas.Option.{get_or_from_slice_get, slice_get_cases}
use Rattle.std.proofs.lemmas.Bool.Decides.{nat_tests}
use Rattle.std.specs.Prelude.{slice_index}
use Rattle.wasm_ops.specs.declared.trap.Trap.TheVariants as traps
use Rattle.host_port.specs.declared.ask.Ask.{Ask}
use Rattle.host_port.specs.declared.stop.Spent.TheVariants as limit
use Rattle.wasm_form.specs.declared.parts.Parts.{Parts}
use Rattle.code_map.specs.declared.callee.Callee.{Callee}
use Rattle.code_map.specs.declared.callee.Callee.TheVariants as callee
use Rattle.code_map.specs.declared.map.CodeMap.{CodeMap}
use Rattle.code_map.specs.Targets.{count_if}
use Rattle.tree_machine.specs.Calls.{ask_of}
use Rattle.tree_machine.specs.Config.{Invocation}
use Rattle.tree_machine.specs.Limits.{most_frames, most_values}
use Rattle.tree_machine.specs.Outcomes.{Gives}
use Rattle.flat_machine.specs.Flat as flat_machine
use Rattle.flat_machine.specs.Flat.{Flat, goes_on}
use Rattle.flat_machine.specs.Control.{return_to}
use Rattle.flat_machine.specs.Calls.{enter_body}
use Rattle.flat_machine.specs.Moves.{Move, Executes, Passes, Asks, Traps, Exceeds, Overfull, Ends, Stuck, where_holds, has_body, executes, places_in, call, call_top, call_element, call_class, class_of, enter, enter_next, return_from}
use Rattle.flat_machine.specs.Shown.{stack_of}
use Rattle.flat_stepper.specs.declared.place.Place.{Place}
use Rattle.flat_stepper.specs.Places.{place_of}
use Rattle.flat_stepper.specs.Outcomes.{IsOwn, gives_value, enters}
use Rattle.flat_stepper.proofs.StackFacts.{stack_length, stack_top}

yes : (a b : ℕ) → a ≤ b → nat_le a b ≡ true
yes a b h = grind (arith, nat_tests)

no : (a b : ℕ) → b < a → nat_le a b ≡ false
no a b h = grind (arith, nat_tests)

was : (a b : ℕ) → nat_le a b ≡ true → a ≤ b
was a b h = grind (arith, nat_tests)

was_equal : (a b : ℕ) → nat_eq a b ≡ true → a ≡ b
was_equal a b h = grind (arith, nat_tests)

both : (a b : Bool) → (a && b) ≡ true → (a ≡ true) × (b ≡ true)
both true true e = (refl, refl)
both true false e = cc
both false true e = cc
both false false e = cc

pub taken : (a b : ℕ) (x y : Move) → a ≤ b → cond (nat_le a b) x y ≡ x
taken a b x y h = ap (λ (t : Bool). cond t x y) (yes a b h)

pub refused : (a b : ℕ) (x y : Move) → b < a → cond (nat_le a b) x y ≡ y
refused a b x y h = ap (λ (t : Bool). cond t x y) (no a b h)

held : (b : Bool) (move : Move) → where_holds b move ≢ Stuck → (b ≡ true) × (where_holds b move ≡ move)
held true move free = (refl, refl)
held false move free = absurd (free refl)

-- a call of a function of the module
module _ (m : Parts) (map : CodeMap) (body params locals : ℕ) (gives : Bool) (class : ℕ) (values : List ℕ) (flat : Flat)
    (free : call m map (Some (callee.Own body params locals gives class)) values flat ≢ Stuck) where
  own_held : (nat_le params (length values) && has_body m map body ≡ true)
      × (call m map (Some (callee.Own body params locals gives class)) values flat
      ≡ cond (nat_le (length flat.callers + 2) most_frames) (executes (Gives (enter_body body params locals (record flat { values = values })))) (Exceeds limit.Frames))
  own_held = held _ _ free

  pub own_params : params ≤ length values
  own_params = was _ _ (both _ _ own_held.0).0

  pub own_frames : most_frames < length flat.callers + 2 → call m map (Some (callee.Own body params locals gives class)) values flat ≡ Exceeds limit.Frames
  own_frames many = own_held.1 ∙ refused _ _ _ _ many

  places_are : places_in (enter_body body params locals (record flat { values = values })) ≡ locals + length values + flat.place.opens
  places_are = ap (λ (n : ℕ). n + flat.place.opens) (length-append (replicate locals 0) values ∙ ap (λ (n : ℕ). n + length values) (length-replicate locals 0))

  pub own_values : length flat.callers + 2 ≤ most_frames → most_values < locals + length values + flat.place.opens →
      call m map (Some (callee.Own body params locals gives class)) values flat ≡ Exceeds limit.Values
  own_values few many = own_held.1 ∙ taken _ _ _ _ few ∙ refused (places_in (enter_body body params locals (record flat { values = values }))) most_values _ _ (omega (arith, places_are))

  pub own_enters : length flat.callers + 2 ≤ most_frames → locals + length values + flat.place.opens ≤ most_values →
      call m map (Some (callee.Own body params locals gives class)) values flat ≡ Executes (enter_body body params locals (record flat { values = values }))
  own_enters few room = own_held.1 ∙ taken _ _ _ _ few ∙ taken (places_in (enter_body body params locals (record flat { values = values }))) most_values _ _ (omega (arith, places_are))

-- a call of the host
module _ (m : Parts) (map : CodeMap) (number params : ℕ) (gives : Bool) (class : ℕ) (values : List ℕ) (flat : Flat) where
  pub host_params : call m map (Some (callee.Host number params gives class)) values flat ≢ Stuck → (params ≤ length values) × (params ≤ 8)
  host_params free = let h = held _ _ free in let b = both _ _ h.0 in (was _ _ b.0, was _ _ b.1)

  host_holds : params ≤ length values → params ≤ 8 →
      call m map (Some (callee.Host number params gives class)) values flat
      ≡ cond (nat_le (length values - params + flat.place.opens + count_if gives) most_values)
      (Asks (ask_of number (reverse (take params values))) (count_if gives) (goes_on (drop params values) flat)) (Exceeds limit.Values)
  host_holds there few =
      let r : Move = cond (nat_le (length values - params + flat.place.opens + count_if gives) most_values)
      (Asks (ask_of number (reverse (take params values))) (count_if gives) (goes_on (drop params values) flat)) (Exceeds limit.Values) in
      ap (λ (t : Bool). where_holds (t && nat_le params 8) r) (yes _ _ there) ∙ ap (λ (t : Bool). where_holds (true && t) r) (yes _ _ few)

  pub host_exceeds : params ≤ length values → params ≤ 8 → most_values < length values - params + flat.place.opens + count_if gives →
      call m map (Some (callee.Host number params gives class)) values flat ≡ Exceeds limit.Values
  host_exceeds there few many = host_holds there few ∙ refused _ _ _ _ many

  pub host_asks : params ≤ length values → params ≤ 8 → length values - params + flat.place.opens + count_if gives ≤ most_values →
      call m map (Some (callee.Host number params gives class)) values flat
      ≡ Asks (ask_of number (reverse (take params values))) (count_if gives) (goes_on (drop params values) flat)
  host_asks there few room = host_holds there few ∙ taken _ _ _ _ room

-- the ask of the topmost values
pub ask_is : (number params below sp : ℕ) (xs args : List ℕ) → sp ≡ below + params →
    args ≡ reverse (take params (stack_of xs (below + params))) ++ replicate (8 - params) 0 →
    ask_of number (reverse (take params (stack_of xs sp))) ≡ record { call = number; args = args }
ask_is number params below sp xs args split is =
    let values = stack_of xs (below + params) in
    let high : params ≤ length values = omega (arith, stack_length xs (below + params)) in
    let count : length (reverse (take params values)) ≡ params = length-reverse (take params values) ∙ length-take-le params values high in
    ap (λ (n : ℕ). ask_of number (reverse (take params (stack_of xs n)))) split
    ∙ ap (λ (l : List ℕ). record { call = number; args = l })
    (ap (λ (n : ℕ). reverse (take params values) ++ replicate (8 - n) 0) count ∙ sym is)

-- a caller more, and a caller less
pub callers_pushed : (items new : List Place) (caller : Place) → new ≡ items ++ caller ∷ [] →
    map place_of (reverse new) ≡ place_of caller ∷ map place_of (reverse items)
callers_pushed items new caller e = ap (λ (l : List Place). map place_of (reverse l)) e ∙ ap (λ (l : List Place). map place_of l) (reverse-append items (caller ∷ []))

-- machines with the same values, places and callers
pub same_flat : (flat : Flat) (v w : List ℕ) (p q : flat_machine.Place) (c d : List flat_machine.Place) → v ≡ w → p ≡ q → c ≡ d →
    (let one : Flat = record flat { values = v; place = p; callers = c } in one) ≡ record flat { values = w; place = q; callers = d }
same_flat flat v w p q c d e f g =
    let with : List ℕ → flat_machine.Place → List flat_machine.Place → Flat = λ x y z. record flat { values = x; place = y; callers = z } in
    ap (λ (x : List ℕ). with x p c) e ∙ ap (λ (y : flat_machine.Place). with w y c) f ∙ ap (λ (z : List flat_machine.Place). with w q z) g

-- call_indirect has a value on top
top_there : (m : Parts) (map : CodeMap) (ty sp : ℕ) (xs : List ℕ) (flat : Flat) → call_top m map ty (stack_of xs sp) flat ≢ Stuck → 1 ≤ sp
top_there m map ty zero xs flat free = absurd (free refl)
top_there m map ty (suc n) xs flat free = omega arith

-- and the element of the table that it names
pub element_is : (m : Parts) (map : CodeMap) (ty sp x : ℕ) (xs : List ℕ) (flat : Flat) (slice : List (Option ℕ)) (o : Option (Option ℕ)) →
    call_top m map ty (stack_of xs sp) flat ≢ Stuck → x ≡ get_or xs (sp - 1) x → sp ≤ length xs → slice ≡ flat.table → o ≡ slice_get slice x →
    call_top m map ty (stack_of xs sp) flat ≡ call_element m map ty o (stack_of xs (sp - 1)) flat
element_is m map ty sp x xs flat slice o free read within table_is is =
    let some : 1 ≤ sp = top_there m map ty sp xs flat free in
    let split : sp ≡ (sp - 1) + 1 = omega arith in
    let all : stack_of xs sp ≡ slice_index xs (sp - 1) ∷ stack_of xs (sp - 1) = ap (λ (n : ℕ). stack_of xs n) split ∙ stack_top xs (sp - 1) in
    let x_is : x ≡ slice_index xs (sp - 1) = get_or_read xs (sp - 1) x (omega arith) read 0 in
    let found : slice_get flat.table (slice_index xs (sp - 1)) ≡ o =
    ap (λ (t : List (Option ℕ)). slice_get t (slice_index xs (sp - 1))) (sym table_is) ∙ ap (λ (k : ℕ). slice_get slice k) (sym x_is) ∙ sym is in
    ap (λ (l : List ℕ). call_top m map ty l flat) all ∙ ap (λ (e : Option (Option ℕ)). call_element m map ty e (stack_of xs (sp - 1)) flat) found

-- what an element needs
class_there : (m : Parts) (map : CodeMap) (class : Option ℕ) (c : Option Callee) (values : List ℕ) (flat : Flat) →
    call_class m map class c values flat ≢ Stuck → (k : ℕ) × (d : Callee) × (class ≡ Some k) × (c ≡ Some d)
class_there m map None c values flat free = absurd (free refl)
class_there m map (Some k) None values flat free = absurd (free refl)
class_there m map (Some k) (Some d) values flat free = (k, d, refl, refl)

class_same : (m : Parts) (map : CodeMap) (k : ℕ) (d : Callee) (values : List ℕ) (flat : Flat) → class_of d ≡ k →
    call_class m map (Some k) (Some d) values flat ≡ call m map (Some d) values flat
class_same m map k d values flat e =
    let t : nat_eq (class_of d) k ≡ true = grind (arith, nat_tests) in
    ap (λ (b : Bool). cond b (call m map (Some d) values flat) (Traps traps.WrongType)) t

class_differs : (m : Parts) (map : CodeMap) (k : ℕ) (d : Callee) (values : List ℕ) (flat : Flat) → class_of d ≢ k →
    call_class m map (Some k) (Some d) values flat ≡ Traps traps.WrongType
class_differs m map k d values flat e =
    let t : nat_eq (class_of d) k ≡ false = grind (arith, nat_tests) in
    ap (λ (b : Bool). cond b (call m map (Some d) values flat) (Traps traps.WrongType)) t

class_read : (m : Parts) (map : CodeMap) (classes : List ℕ) (callees : List Callee) (ty function k : ℕ) (c d : Callee) (values : List ℕ) (flat : Flat) →
    slice_get classes ty ≡ Some k → slice_get callees function ≡ Some d →
    (call_class m map (slice_get classes ty) (slice_get callees function) values flat ≡ call_class m map (Some k) (Some d) values flat)
    × (get_or callees function c ≡ d) × (get_or classes ty 0 ≡ k)
class_read m map classes callees ty function k c d values flat e f = (
  ap (λ (o : Option ℕ). call_class m map o (slice_get callees function) values flat) e ∙ ap (λ (o : Option Callee). call_class m map (Some k) o values flat) f,
  get_or_from_slice_get callees function d c f,
  get_or_from_slice_get classes ty k 0 e,
)

-- what is called has the class
pub class_meets : (m : Parts) (map : CodeMap) (classes : List ℕ) (callees : List Callee) (ty function : ℕ) (c : Callee) (values : List ℕ) (flat : Flat) →
    call_class m map (slice_get classes ty) (slice_get callees function) values flat ≢ Stuck → class_of (get_or callees function c) ≡ get_or classes ty 0 →
    call_class m map (slice_get classes ty) (slice_get callees function) values flat ≡ call m map (Some (get_or callees function c)) values flat
class_meets m map classes callees ty function c values flat free same =
    let there = class_there m map (slice_get classes ty) (slice_get callees function) values flat free in
    let r = class_read m map classes callees ty function there.0 c there.1 values flat there.2 there.3 in
    let e : class_of there.1 ≡ there.0 = ap class_of (sym r.1) ∙ same ∙ r.2 in
    r.0 ∙ class_same m map there.0 there.1 values flat e ∙ ap (λ (d : Callee). call m map (Some d) values flat) (sym r.1)

-- or another one
pub class_fails : (m : Parts) (map : CodeMap) (classes : List ℕ) (callees : List Callee) (ty function : ℕ) (c : Callee) (values : List ℕ) (flat : Flat) →
    call_class m map (slice_get classes ty) (slice_get callees function) values flat ≢ Stuck → class_of (get_or callees function c) ≢ get_or classes ty 0 →
    call_class m map (slice_get classes ty) (slice_get callees function) values flat ≡ Traps traps.WrongType
class_fails m map classes callees ty function c values flat free other =
    let there = class_there m map (slice_get classes ty) (slice_get callees function) values flat free in
    let r = class_read m map classes callees ty function there.0 c there.1 values flat there.2 there.3 in
    let e : class_of there.1 ≢ there.0 = λ same. other (ap class_of r.1 ∙ same ∙ sym r.2) in
    r.0 ∙ class_differs m map there.0 there.1 values flat e

-- a return
pub return_held : (c : Option Callee) (caller : flat_machine.Place) (callers : List flat_machine.Place) (flat : Flat) →
    return_from c caller callers flat ≢ Stuck →
    IsOwn c × (flat.place.base + count_if (gives_value c) ≤ length flat.values) × (caller.opens ≤ flat.place.opens)
    × (return_from c caller callers flat ≡ Passes (return_to (count_if (gives_value c)) caller callers flat))
return_held None caller callers flat free = absurd (free refl)
return_held (Some (callee.Host number params gives class)) caller callers flat free = absurd (free refl)
return_held (Some (callee.Own body params locals gives class)) caller callers flat free =
    let h = held _ _ free in let b = both _ _ h.0 in (tt, was _ _ b.0, was _ _ b.1, h.1)

-- a function of the module is among the callees
own_cases : (xs : List Callee) (k : ℕ) → IsOwn (slice_get xs k) →
    ((x : Callee) × (k < length xs) × (slice_get xs k ≡ Some x) × (get_or xs k x ≡ x)) ⊎ ((length xs ≤ k) × (slice_get xs k ≡ None)) → k < length xs
own_cases xs k own (inl w) = w.1
own_cases xs k own (inr w) = let no_callee : IsOwn None = subst IsOwn w.1 own in absurd no_callee

pub own_there : (xs : List Callee) (k : ℕ) → IsOwn (slice_get xs k) → k < length xs
own_there xs k own = own_cases xs k own (slice_get_cases xs k).1

-- the next function is one of the module
pub enter_held : (m : Parts) (map : CodeMap) (c : Option Callee) (arguments : List ℕ) (rest : List Invocation) (flat : Flat) →
    enter m map c arguments rest flat ≢ Stuck → IsOwn c
enter_held m map None arguments rest flat free = absurd (free refl)
enter_held m map (Some (callee.Host number params gives class)) arguments rest flat free = absurd (free refl)
enter_held m map (Some (callee.Own body params locals gives class)) arguments rest flat free = tt

-- the next function, by its callee
pub enters_is : (m : Parts) (map : CodeMap) (all rest : List Invocation) (i : Invocation) (c : Callee) (flat : Flat) → all ≡ i ∷ rest →
    slice_get map.callees i.function ≡ Some c → enter_next m map all flat ≡ enters m map c all flat
enters_is m map all rest i c flat e found =
    ap (λ (l : List Invocation). enter_next m map l flat) e
    ∙ ap (λ (o : Option Callee). enter m map o i.arguments rest flat) found
    ∙ sym (ap (λ (l : List Invocation). enters m map c l flat) e)

-- A run of an accepted module stands typed, where the replies have the forms of their calls.
use Rattle.std.proofs.Common.{◌≡◌, ◌≤◌, ◌<◌, ℕ, zero, suc, ◌+◌, ◌^◌, ◌&&◌, Bool, true, false, if◌then◌else◌, nat_lt, nat_eq, All, IsSome, List, [], ◌∷◌, length, map, reverse, slice_get, Option, Some, None, is_some, option_map, option_and_then, option_to_list, arith, refl, sym, ◌∙◌, ap, subst}
use Rattle.std.proofs.lemmas.Bool.Decides.{nat_tests}
use Rattle.std.proofs.lemmas.List.Elements.{All-nil, All-cons, All-head, All-tail, All-contains, All-filter}
use Rattle.std.specs.Cmp.Lexicographic.{pointwise}
use Rattle.std.specs.List.{list_all}
use Rattle.host_port.specs.Areas.{areas_fit, request_of}
use Rattle.host_port.specs.Forms.{IsResult, HasForm}
use Rattle.host_port.specs.Rows.{Row, Results, NoResult, OneOf, UpTo, Count, AnyI64}
use Rattle.host_port.specs.HostTable.{row_of_import, results_of}
use Rattle.host_port.specs.SoundRows.{IsSoundRow, are_below, are_none, gives_type}
use Rattle.host_port.proofs.RowLaws.{rows_sound, import_has, import_call}
use Rattle.host_port.proofs.HostLaws.{results_by}
use Rattle.wasm_ops.specs.declared.num.Num.{Num}
use Rattle.wasm_ops.specs.declared.num.Num.TheVariants as nums
use Rattle.wasm_form.specs.declared.value_type.ValType.{ValType}
use Rattle.wasm_form.specs.declared.value_type.ValType.TheVariants as types
use Rattle.host_port.specs.Standing.{State, Ready, Asking, Finished, Trapped, Exhausted}
use Rattle.host_port.specs.TypedValue.{TypedValue}
use Rattle.host_port.specs.declared.ask.Ask.{Ask}
use Rattle.host_port.specs.declared.call.Call.{Call}
use Rattle.host_port.specs.declared.request.Request.{Request}
use Rattle.host_port.specs.declared.start.Start.{Start}
use Rattle.wasm_form.specs.declared.types.FuncType.{FuncType}
use Rattle.wasm_form.specs.declared.parts.Import.{Import}
use Rattle.wasm_form.specs.declared.parts.Parts.{Parts}
use Rattle.wasm_form.specs.Context.{function_of}
use Rattle.wasm_form.specs.Typing.{value_type}
use Rattle.wasm_form.specs.Profile.{Host as Offer}
use Rattle.wasm_form.specs.Modules.{IsSpelled}
use Rattle.wasm_form.specs.Verdict.{IsAccepted}
use Rattle.tree_machine.specs.Functions.{Function, Host, imported_functions, host_call, imported_callee, own_function, owned, callee_of}
use Rattle.tree_machine.specs.Config.{Config, bytes_of}
use Rattle.tree_machine.specs.Point.{Point, point}
use Rattle.tree_machine.specs.Step.{step}
use Rattle.tree_machine.specs.Replies.{same_ask, same_truth, same_request, replied}
use Rattle.tree_machine.specs.Begin.{begin, begun}
use Rattle.tree_machine.specs.Run.{course, answer, advanced, run, point_at}
use Rattle.tree_machine.specs.RunLaws.{at_point, goes_on}
use Rattle.tree_machine.specs.CallLaws.{course_is, answered_is, and_then_is, advance_is}
use Rattle.tree_machine.specs.Typed.{IsValue, AreValues, IsTypedAt, Offers, offered_type, IsAnswered, HasForms}
use Rattle.tree_machine.proofs.ModuleTyped.{each_at}
use Rattle.tree_machine.proofs.StepTyped.{step_kept}
use Rattle.tree_machine.proofs.ReplyTyped.{reply_kept}
use Rattle.tree_machine.proofs.BeginTyped.{IsHostImport, imports_hosted, module_typed, begun_typed, function_is}

-- a result that the call of a row may give is of the row's type
abbrev pub GivesTyped : Row → Type 0
GivesTyped row = (result : Option ℕ) → IsResult (Some row.results) result → AreValues (reverse (offered_type row).results) (option_to_list result)

two_true : (a b : Bool) → (a && b) ≡ true → (a ≡ true) × (b ≡ true)
two_true true true e = (refl, refl)
two_true true false e = absurd (cc)
two_true false b e = absurd (cc)

each_test : (test : ℕ → Bool) (xs : List ℕ) → list_all test xs ≡ true → All (λ n. test n ≡ true) xs
each_test test [] e = All-nil (λ (n : ℕ). test n ≡ true)
each_test test (x ∷ xs) e =
    let two = two_true (test x) (list_all test xs) e in
    All-cons (λ (n : ℕ). test n ≡ true) x xs two.0 (each_test test xs two.1)

-- there is a result, and it is below this number
abbrev IsBelow : ℕ → Option ℕ → Type 0
IsBelow limit None = ⊥
IsBelow limit (Some n) = n < limit

result_below : (limit : ℕ) (results : Results) → are_below limit results ≡ true → (result : Option ℕ) → IsResult (Some results) result → IsBelow limit result
result_below limit NoResult below result h = absurd (cc)
result_below limit (OneOf numbers) below None h = absurd h
result_below limit (OneOf numbers) below (Some n) h =
    let test : nat_lt n limit ≡ true = All-contains (λ (k : ℕ). nat_lt k limit ≡ true) numbers n (each_test (λ (k : ℕ). nat_lt k limit) numbers below) h in
    grind (arith, nat_tests)
result_below limit (UpTo most) below None h = absurd h
result_below limit (UpTo most) below (Some n) h = let up : n ≤ most = h in grind (arith, nat_tests)
result_below limit (Count argument most) below None h = absurd h
result_below limit (Count argument most) below (Some n) h = let up : n ≤ most = h in grind (arith, nat_tests)
result_below limit AnyI64 below None h = absurd h
result_below limit AnyI64 below (Some n) h = let up : n < 2 ^ 64 = h in grind (arith, nat_tests)

no_result : (results : Results) → are_none results ≡ true → (result : Option ℕ) → IsResult (Some results) result → AreValues [] (option_to_list result)
no_result NoResult none result h = subst (λ (o : Option ℕ). AreValues [] (option_to_list o)) (sym h) tt
no_result (OneOf numbers) none result h = absurd (cc)
no_result (UpTo most) none result h = absurd (cc)
no_result (Count argument most) none result h = absurd (cc)
no_result AnyI64 none result h = absurd (cc)

one_value : (t : ValType) (limit : ℕ) (result : Option ℕ) → ((n : ℕ) → n < limit → IsValue t n) → IsBelow limit result → AreValues (t ∷ []) (option_to_list result)
one_value t limit None value h = absurd h
one_value t limit (Some n) value h = (value n h, tt)

results_typed : (wanted : Option Num) (results : Results) → gives_type wanted results ≡ true → (result : Option ℕ) → IsResult (Some results) result →
    AreValues (reverse (option_to_list (option_map value_type wanted))) (option_to_list result)
results_typed None results gives result h = no_result results gives result h
results_typed (Some nums.I32) results gives result h = one_value types.I32 (2 ^ 32) result (λ n less. less) (result_below (2 ^ 32) results gives result h)
results_typed (Some nums.I64) results gives result h = one_value types.I64 (2 ^ 64) result (λ n less. less) (result_below (2 ^ 64) results gives result h)

pub row_gives : (row : Row) → IsSoundRow row → GivesTyped row
row_gives row sound = results_typed row.result row.results sound.results

-- a host call of a module, by its import and its row
record IsHosted (m : Parts) (x : Option Import) (ty : FuncType) (number : ℕ) : Type 0 where
  import_of : Import
  there : x ≡ Some import_of
  type_is : option_and_then (slice_get m.types) (function_of import_of.what) ≡ Some ty
  row : Row
  row_is : row_of_import import_of.«module» import_of.name ≡ Some row
  number_is : row.call ≡ number

hosted_call : (m : Parts) (i : Import) (t : Option FuncType) (r : Option Row) (ty : FuncType) (number : ℕ) →
    option_and_then (slice_get m.types) (function_of i.what) ≡ t → row_of_import i.«module» i.name ≡ r → host_call t r ≡ Some (Host ty number) →
    IsHosted m (Some i) ty number
hosted_call m i (Some t) (Some r) ty number e f h =
    let type_same : t ≡ ty = cc in
    let number_same : r.call ≡ number = cc in
    record {
      import_of = i;
      there = refl;
      type_is = e ∙ ap (λ (x : FuncType). Some x) type_same;
      row = r;
      row_is = f;
      number_is = number_same;
    }
hosted_call m i (Some t) None ty number e f h = absurd (cc)
hosted_call m i None r ty number e f h = absurd (cc)

hosted_if : (m : Parts) (b : Bool) (x : Option Import) (o : Option Function) (ty : FuncType) (number : ℕ) →
    (if b then option_and_then (imported_callee m) x else owned o) ≡ Some (Host ty number) → IsHosted m x ty number
hosted_if m true None o ty number h = absurd (cc)
hosted_if m true (Some i) o ty number h = hosted_call m i _ _ ty number refl refl h
hosted_if m false x None ty number h = absurd (cc)
hosted_if m false x (Some function) ty number h = absurd (cc)

hosted : (m : Parts) (index : ℕ) (ty : FuncType) (number : ℕ) → callee_of m index ≡ Some (Host ty number) →
    IsHosted m (slice_get (imported_functions m) index) ty number
unfolding callee_of
hosted m index ty number e =
    hosted_if m (nat_lt index (length (imported_functions m))) (slice_get (imported_functions m) index) (own_function m index) ty number e

both : (a b : Bool) → (a && b) ≡ true → (a ≡ true) × (b ≡ true)
both true true e = (refl, refl)
both true false e = absurd (cc)
both false b e = absurd (cc)

same_numbers : (a b : List ℕ) → pointwise nat_eq a b ≡ true → a ≡ b
same_numbers [] [] e = refl
same_numbers [] (n ∷ b) e = absurd (cc)
same_numbers (n ∷ a) [] e = absurd (cc)
same_numbers (n ∷ a) (k ∷ b) e =
    let two = both (nat_eq n k) (pointwise nat_eq a b) e in
    let first : n ≡ k = let test : nat_eq n k ≡ true = two.0 in grind (arith, nat_tests) in
    let rest : a ≡ b = same_numbers a b two.1 in
    cc

-- the same request is of the same ask
asks_same : (a b : Ask) → same_ask a b ≡ true → a ≡ b
asks_same a b e =
    let two = both (nat_eq a.call b.call) (pointwise nat_eq a.args b.args) e in
    let call : a.call ≡ b.call = let test : nat_eq a.call b.call ≡ true = two.0 in grind (arith, nat_tests) in
    ap (λ (n : ℕ). record { call = n; args = a.args }) call ∙ ap (λ (ns : List ℕ). record { call = b.call; args = ns }) (same_numbers a.args b.args two.1)

truths_same : (a b : Bool) → same_truth a b ≡ true → a ≡ b
truths_same true true e = refl
truths_same true false e = absurd (cc)
truths_same false true e = absurd (cc)
truths_same false false e = refl

requests_same : (r s : Request) → same_request r s ≡ true → (r.ask ≡ s.ask) × (r.fits ≡ s.fits)
unfolding same_request
requests_same r s e =
    let three = both ((same_ask r.ask s.ask && same_truth r.fits s.fits) && pointwise nat_eq r.first s.first) (pointwise nat_eq r.second s.second) e in
    let two = both (same_ask r.ask s.ask && same_truth r.fits s.fits) (pointwise nat_eq r.first s.first) three.0 in
    let one = both (same_ask r.ask s.ask) (same_truth r.fits s.fits) two.0 in
    (asks_same r.ask s.ask one.0, truths_same r.fits s.fits one.1)

at_same : (m : Parts) (p q : Point) → p ≡ q → IsTypedAt m p.state p.config → IsTypedAt m q.state q.config
at_same m p q e h = subst (λ (x : Point). IsTypedAt m x.state x.config) e h

same_some : (o : Option Point) (p q : Point) → o ≡ Some p → o ≡ Some q → p ≡ q
same_some o p q e f = let both_are : Some p ≡ Some q = sym e ∙ f in cc

module _ (host : Offer) (m : Parts) (offers : Offers host) (accepted : IsAccepted host m) (spelled : IsSpelled m) where
  result_typed : (index : ℕ) (ty : FuncType) (number : ℕ) (result : Option ℕ) → callee_of m index ≡ Some (Host ty number) → IsResult (results_of number) result →
      AreValues (reverse ty.results) (option_to_list result)
  result_typed index ty number result e h =
      let is = hosted m index ty number e in
      let i = is.import_of in
      let hosts = each_at (IsHostImport host m) (imported_functions m) index i
      (All-filter (λ (i : Import). is_some (function_of i.what)) (IsHostImport host m) m.imports (imports_hosted host m offers accepted spelled)) is.there in
      let place = and_then_is (slice_get m.types) (function_of i.what) ty is.type_is in
      let offered : host i.«module» i.name ≡ Some (offered_type is.row) = offers i.«module» i.name ∙ ap (option_map offered_type) is.row_is in
      let same : ty ≡ offered_type is.row = hosts.1 place.0 ty (offered_type is.row) (function_is i.what place.0 place.1) place.2 offered in
      subst (λ (t : FuncType). AreValues (reverse t.results) (option_to_list result)) (sym same)
      (row_gives is.row (import_has IsSoundRow rows_sound i.«module» i.name is.row is.row_is) result
      (subst (λ (o : Option Results). IsResult o result) (results_by is.row.call is.row (import_call i.«module» i.name is.row is.row_is))
      (subst (λ (n : ℕ). IsResult (results_of n) result) (sym is.number_is) h)))

  answer_typed : (s : State) (c : Config) (calls left : List Call) (p : Point) → answer m s c calls ≡ Some (course left p) → IsTypedAt m s c → HasForms calls →
      IsTypedAt m p.state p.config × HasForms left
  answer_typed Ready c calls left p e typed forms =
      let is = course_is calls left (point Ready c) p e in (at_same m (point Ready c) p is.1 typed, subst HasForms is.0 forms)
  answer_typed Finished c calls left p e typed forms =
      let is = course_is calls left (point Finished c) p e in (at_same m (point Finished c) p is.1 typed, subst HasForms is.0 forms)
  answer_typed (Trapped trap) c calls left p e typed forms =
      let is = course_is calls left (point (Trapped trap) c) p e in (at_same m (point (Trapped trap) c) p is.1 typed, subst HasForms is.0 forms)
  answer_typed (Exhausted spent) c calls left p e typed forms =
      let is = course_is calls left (point (Exhausted spent) c) p e in (at_same m (point (Exhausted spent) c) p is.1 typed, subst HasForms is.0 forms)
  answer_typed (Asking ask) c [] left p e typed forms =
      let is = course_is [] left (point (Asking ask) c) p e in (at_same m (point (Asking ask) c) p is.1 typed, subst HasForms is.0 forms)
  answer_typed (Asking ask) c (call ∷ rest) left p e (index, ty, found, typed) forms =
      let is = answered_is (same_request call.request (request_of (bytes_of c.memory) ask)) (replied m c call.reply) rest left p e in
      let same = requests_same call.request (request_of (bytes_of c.memory) ask) is.0 in
      let answered : IsAnswered call = All-head IsAnswered call rest forms in
      let form : HasForm ask call.reply = subst (λ (a : Ask). HasForm a call.reply) same.0 answered.form in
      let fits : areas_fit (bytes_of c.memory) ask ≡ true = sym same.1 ∙ answered.fits in
      let kept = reply_kept m (module_typed host m offers accepted spelled) ask (reverse ty.results) c call.reply typed fits form
      (result_typed index ty ask.call call.reply.result found form.result) in (
        at_same m kept.0 p (same_some (replied m c call.reply) kept.0 p kept.1 is.1) kept.2,
        subst HasForms is.2 (All-tail IsAnswered call rest forms),
      )

  ready_typed : (s : State) (c : Config) → s ≡ Ready → IsTypedAt m s c → IsTypedAt m Ready c
  ready_typed s c e h = subst (λ (x : State). IsTypedAt m x c) e h

  run_typed : (start : Start) → start.limits.pages ≤ 1024 →
      AreValues (map (λ (p : TypedValue). value_type p.num) start.params) (map (λ (p : TypedValue). p.value) start.params) → begin m start ≡ None →
      (calls : List Call) → HasForms calls → (n : ℕ) (left : List Call) (p : Point) → run m start calls n ≡ Some (course left p) →
      IsTypedAt m p.state p.config × HasForms left
  unfolding run
  run_typed start small values begins calls forms zero left p e =
      answer_typed (begun m start).state (begun m start).config calls left p e (begun_typed host m offers accepted spelled start small values begins) forms
  run_typed start small values begins calls forms (suc n) left p e =
      let before = and_then_is (advanced m) (run m start calls n) (course left p) e in
      let r = before.0 in
      let here = run_typed start small values begins calls forms n r.left r.place before.1 in
      let is = advance_is m r.place.state r.place.config r.left left p before.2 in
      let ready = ready_typed r.place.state r.place.config is.ready here.0 in
      let kept = step_kept m (module_typed host m offers accepted spelled) r.place.config ready.0 ready.1 in
      let next = at_same m kept.0 is.next (same_some (step m r.place.config) kept.0 is.next kept.1 is.steps) kept.2 in
      answer_typed is.next.state is.next.config r.left left p is.answers next here.1

  -- where a run stands it is typed
  pub point_typed : (start : Start) → start.limits.pages ≤ 1024 →
      AreValues (map (λ (p : TypedValue). value_type p.num) start.params) (map (λ (p : TypedValue). p.value) start.params) →
      (calls : List Call) → HasForms calls → (n : ℕ) (p : Point) → point_at m start calls n ≡ Some p → IsTypedAt m p.state p.config
  point_typed start small values calls forms n p e =
      let is = at_point m start calls n p e in
      (run_typed start small values is.begins calls forms n [] p is.runs).0

  -- and goes on by one instruction, where it is ready and has fuel left
  pub point_goes_on : (start : Start) → start.limits.pages ≤ 1024 →
      AreValues (map (λ (p : TypedValue). value_type p.num) start.params) (map (λ (p : TypedValue). p.value) start.params) →
      (calls : List Call) → HasForms calls → (n : ℕ) (c : Config) → point_at m start calls n ≡ Some (point Ready c) → n < start.limits.fuel →
      IsSome (point_at m start calls (n + 1))
  point_goes_on start small values calls forms n c e fuel =
      let typed = point_typed start small values calls forms n (point Ready c) e in
      let kept = step_kept m (module_typed host m offers accepted spelled) c typed.0 typed.1 in
      let goes : point_at m start calls (n + 1) ≡ Some kept.0 = goes_on m start calls n c e fuel ∙ kept.1 in
      rw goes refl

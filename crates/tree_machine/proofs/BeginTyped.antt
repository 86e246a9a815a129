-- A run of an accepted module begins at a typed configuration.
use Rattle.std.specs.Prelude.{⊤, MatchOption}
use Rattle.std.proofs.Common.{◌≡◌, ◌≤◌, ◌<◌, ℕ, ◌+◌, ◌*◌, ◌&&◌, inl, inr, Bool, true, false, cond, nat_le, All, IsSome, List, [], ◌∷◌, ◌++◌, length, map, fold, replicate, slice_get, Option, Some, None, unwrap_or, option_map, option_and_then, option_to_list, arith, refl, sym, ◌∙◌, ap, subst, lit<}
use Rattle.std.proofs.lemmas.Bool.Decides.{nat_tests}
use Rattle.std.proofs.lemmas.List.{length-replicate}
use Rattle.std.proofs.lemmas.List.Elements.{All-head, All-tail, All-replicate, All-weaker}
use Rattle.std.specs.List.{list_all}
use Rattle.host_port.specs.HostTable.{Row, row_of_import}
use Rattle.host_port.specs.SoundRows.{IsSoundRow, is_bare}
use Rattle.host_port.proofs.RowLaws.{rows_sound, import_has}
use Rattle.host_port.specs.TypedValue.{TypedValue}
use Rattle.host_port.specs.declared.start.Start.{Start}
use Rattle.host_port.specs.declared.start.StartRefusal.TheVariants.{BadParams, PagesOver, SegmentOut}
use Rattle.linear_memory.specs.Bytes.{written}
use Rattle.linear_memory.specs.Contents.{Contents, page_size}
use Rattle.wasm_ops.specs.declared.num.Num.{Num}
use Rattle.wasm_form.specs.declared.value_type.ValType.{ValType}
use Rattle.wasm_form.specs.declared.types.FuncType.{FuncType}
use Rattle.wasm_form.specs.declared.types.Bounds.{Bounds}
use Rattle.wasm_form.specs.declared.parts.Imported.{Imported}
use Rattle.wasm_form.specs.declared.parts.Imported.TheVariants as imported
use Rattle.wasm_form.specs.declared.parts.Import.{Import}
use Rattle.wasm_form.specs.declared.parts.Segment.{Segment}
use Rattle.wasm_form.specs.declared.parts.Parts.{Parts}
use Rattle.wasm_form.specs.Ranges.{IsOctet}
use Rattle.wasm_form.specs.Context.{function_of, memories_of}
use Rattle.wasm_form.specs.Typing.{value_type}
use Rattle.wasm_form.specs.Validity.{IsLimits, IsStart, HasStart, ConstantGlobals, FunctionTypes, Limits, Elements}
use Rattle.wasm_form.specs.Validity as rules
use Rattle.wasm_form.specs.Profile.{Host, HasHostType, FunctionsAlone, Offered, TypedAsOffered}
use Rattle.wasm_form.specs.Modules.{IsSpelled}
use Rattle.wasm_form.specs.Verdict.{IsAccepted}
use Rattle.tree_machine.specs.Functions.{Function, own_function}
use Rattle.tree_machine.specs.Config.{Invocation, bytes_of}
use Rattle.tree_machine.specs.Instantiation.{value_of, most_pages, memory_with, new_memory, lies_in, segments_lie_in, put_segment}
use Rattle.tree_machine.specs.Begin.{entry_of, has_params, least_pages, refusal_of, begin, invocation, invocations_of, instance_of, begun}
use Rattle.tree_machine.specs.Typed.{AreValues, IsTypedMemory, MemoryTyped, InvocationTyped, InvocationsTyped, IsTyped, IsTypedAt, IsTypedModule, Offers, offered_type}
use Rattle.tree_machine.proofs.ExitsTyped.{enter_keeps}
use Rattle.tree_machine.proofs.CallTyped.{same_values}
use Rattle.tree_machine.proofs.MemoryTyped.{length-written, written_typed}
use Rattle.tree_machine.proofs.ModuleTyped.{IsRunnable, places_in, at_append, imported_at, each_at, row_there, own_there, runnable_typed}
use Rattle.tree_machine.proofs.SpelledTyped.{bodies_spelled, globals_spelled, segments_spelled}
use Rattle.tree_machine.proofs.InstanceTyped.{no_globals, globals_typed, table_known}

both : (a b : Bool) → (a && b) ≡ true → (a ≡ true) × (b ≡ true)
both true true e = (refl, refl)
both true false e = absurd (cc)
both false b e = absurd (cc)

none_length : (xs : List Bounds) → slice_get xs 0 ≡ None → ¬ (0 < length xs)
none_length [] e less = absurd (omega arith)
none_length (x ∷ xs) e less = absurd (cc)

most_at_least : (low limit : ℕ) (max : Option ℕ) → low ≤ limit → MatchOption max ⊤ (λ max. low ≤ max) → low ≤ most_pages limit max
most_at_least low limit None h k = h
most_at_least low limit (Some max) h k = omega arith

most_at_most : (limit : ℕ) (max : Option ℕ) → most_pages limit max ≤ limit
most_at_most limit None = omega arith
most_at_most limit (Some max) = omega arith

new_typed : (limit : ℕ) (bounds : Bounds) → limit ≤ 1024 → bounds.min ≤ limit → IsLimits bounds →
    IsTypedMemory (record { bytes = replicate (bounds.min * page_size) 0; most = most_pages limit bounds.max })
new_typed limit bounds small low limits =
    let count : length {A = ℕ} (replicate (bounds.min * page_size) 0) ≡ bounds.min * page_size = length-replicate (bounds.min * page_size) 0 in
    let least : bounds.min ≤ most_pages limit bounds.max = most_at_least bounds.min limit bounds.max low limits in
    let most : most_pages limit bounds.max ≤ limit = most_at_most limit bounds.max in
    record {
      octets = All-replicate IsOctet (bounds.min * page_size) 0 (lit< tt);
      whole = rw count (omega arith);
      within = rw count (omega arith);
      most = omega arith;
    }

segment_at : (places count : ℕ) (o : Option ℕ) → lies_in places o count ≡ true → unwrap_or o 0 + count ≤ places
segment_at places count None e = absurd (cc)
segment_at places count (Some offset) e = grind (arith, nat_tests)

abbrev segment_test : ℕ → Segment → Bool
segment_test places s = lies_in places (value_of s.offset) (length s.bytes)

segments_typed : (m : Parts) (places : ℕ) (segments : List Segment) (memory : Contents) → IsTypedMemory memory → length memory.bytes ≡ places →
    list_all (segment_test places) segments ≡ true → All (λ (s : Segment). All IsOctet s.bytes) segments →
    MemoryTyped m (fold put_segment (Some memory) segments)
segments_typed m places [] memory is size fits octets = is
segments_typed m places (s ∷ segments) memory is size fits octets =
    let two = both (segment_test places s) (list_all (segment_test places) segments) fits in
    let at = unwrap_or (value_of s.offset) 0 in
    let room : at + length s.bytes ≤ places = segment_at places (length s.bytes) (value_of s.offset) two.0 in
    let lies : at + length s.bytes ≤ length memory.bytes = omega arith in
    segments_typed m places segments (record memory { bytes = written memory.bytes at s.bytes })
    (written_typed memory at s.bytes is (All-head (λ (s : Segment). All IsOctet s.bytes) s segments octets) lies)
    (length-written memory.bytes s.bytes at lies ∙ size) two.1 (All-tail (λ (s : Segment). All IsOctet s.bytes) s segments octets)

no_memory : (segments : List Segment) → fold put_segment None segments ≡ None
no_memory [] = refl
no_memory (s ∷ segments) = no_memory segments

memory_begun : (m : Parts) (limit : ℕ) (o : Option Bounds) → slice_get (memories_of m) 0 ≡ o → limit ≤ 1024 → nat_le (least_pages o) limit ≡ true →
    All IsLimits (memories_of m) → list_all (segment_test (length (bytes_of (memory_with limit o)))) m.segments ≡ true →
    All (λ (s : Segment). All IsOctet s.bytes) m.segments → MemoryTyped m (fold put_segment (memory_with limit o) m.segments)
memory_begun m limit None e small pages limits fits octets =
    subst (MemoryTyped m) (sym (no_memory m.segments)) (none_length (memories_of m) e)
memory_begun m limit (Some bounds) e small pages limits fits octets =
    let low : bounds.min ≤ limit = grind (arith, nat_tests) in
    segments_typed m _ m.segments (record { bytes = replicate (bounds.min * page_size) 0; most = most_pages limit bounds.max })
    (new_typed limit bounds small low (each_at IsLimits (memories_of m) 0 bounds limits e)) refl fits octets

-- what the begin has judged
record IsBegun (m : Parts) (start : Start) : Type 0 where
  index : ℕ
  function : Function
  entry : entry_of m start.entry ≡ Some index
  own : own_function m index ≡ Some function
  params : has_params function start.params ≡ true
  pages : nat_le (least_pages (slice_get (memories_of m) 0)) start.limits.pages ≡ true
  segments : segments_lie_in start.limits.pages m ≡ true

not_refused : (params pages segments : Bool) →
    cond params (cond pages (cond segments None (Some SegmentOut)) (Some PagesOver)) (Some BadParams) ≡ None →
    (params ≡ true) × (pages ≡ true) × (segments ≡ true)
not_refused true true true e = (refl, refl, refl)
not_refused true true false e = absurd (cc)
not_refused true false segments e = absurd (cc)
not_refused false pages segments e = absurd (cc)

begun_by : (m : Parts) (start : Start) (o : Option ℕ) (f : Option Function) → entry_of m start.entry ≡ o → option_and_then (own_function m) o ≡ f →
    refusal_of f m start ≡ None → IsBegun m start
begun_by m start o None e known h = absurd (cc)
begun_by m start None (Some function) e known h = absurd (cc)
begun_by m start (Some index) (Some function) e known h =
    let judged = not_refused (has_params function start.params) (nat_le (least_pages (slice_get (memories_of m) 0)) start.limits.pages)
    (segments_lie_in start.limits.pages m) h in
    record { index = index; function = function; entry = e; own = known; params = judged.0; pages = judged.1; segments = judged.2 }

is_begun : (m : Parts) (start : Start) → begin m start ≡ None → IsBegun m start
unfolding begin
is_begun m start h = begun_by m start (entry_of m start.entry) (option_and_then (own_function m) (entry_of m start.entry)) refl refl h

-- where the begin is not refused the module has a function of its own
pub entry_is : (m : Parts) (start : Start) → begin m start ≡ None → (index : ℕ) × (function : Function) × (own_function m index ≡ Some function)
entry_is m start h = let is = is_begun m start h in (is.index, is.function, is.own)

segments_judged : (limit : ℕ) (m : Parts) → segments_lie_in limit m ≡ true →
    list_all (segment_test (length (bytes_of (new_memory limit m)))) m.segments ≡ true
unfolding segments_lie_in
segments_judged limit m e = (both _ _ e).1

-- no host call takes and gives nothing, so that none is a start function
abbrev IsNotBare : Row → Type 0
IsNotBare row = row.params ≡ [] → row.result ≡ None → ⊥

bare_false : (params : List Num) (result : Option Num) → is_bare params result ≡ false → params ≡ [] → result ≡ None → ⊥
bare_false [] None bare e f = absurd (cc)
bare_false [] (Some result) bare e f = absurd (cc)
bare_false (param ∷ params) result bare e f = absurd (cc)

not_bare : (row : Row) → IsSoundRow row → IsNotBare row
not_bare row sound = bare_false row.params row.result sound.bare

empty_map : (params : List Num) → map value_type params ≡ [] → params ≡ []
empty_map [] e = refl
empty_map (p ∷ params) e = absurd (cc)

no_result : (result : Option Num) → option_to_list (option_map value_type result) ≡ [] → result ≡ None
no_result None e = refl
no_result (Some n) e = absurd (cc)

pub function_is : (what : Imported) (n : ℕ) → function_of what ≡ Some n → what ≡ imported.Function n
function_is (imported.Function ty) n e = let same : ty ≡ n = cc in ap (λ (x : ℕ). imported.Function x) same
function_is (imported.Table b) n e = absurd (cc)
function_is (imported.Memory b) n e = absurd (cc)
function_is (imported.Global g) n e = absurd (cc)

-- what the profile says of an import
abbrev pub IsHostImport : Host → Parts → Import → Type 0
IsHostImport host m i = IsSome (host i.«module» i.name) × HasHostType host m i

all_both : {X : Type 0} (P Q : X → Type 0) (xs : List X) → All P xs → All Q xs → All (λ x. P x × Q x) xs
all_both P Q xs h k = λ n d less. (h n d less, k n d less)

row_offered : (o : Option Row) → IsSome (option_map offered_type o) → IsSome o
row_offered None h = absurd (cc)
row_offered (Some row) h = refl

module _ (host : Host) (m : Parts) (offers : Offers host) (accepted : IsAccepted host m) (spelled : IsSpelled m) where
  pub imports_hosted : All (IsHostImport host m) m.imports
  imports_hosted = all_both (λ (i : Import). IsSome (host i.«module» i.name)) (HasHostType host m) m.imports
      (accepted.inside Offered) (accepted.inside TypedAsOffered)

  pub runnable : IsRunnable m
  runnable = record {
    functions = accepted.valid.functions;
    counts = spelled.spelled.counts;
    instrs = bodies_spelled m spelled;
    offered = All-weaker (λ (i : Import). IsSome (host i.«module» i.name)) (λ (i : Import). IsSome (row_of_import i.«module» i.name))
        (λ i h. row_offered (row_of_import i.«module» i.name) (subst IsSome (offers i.«module» i.name) h)) m.imports (accepted.inside Offered);
  }

  pub module_typed : IsTypedModule m
  module_typed = runnable_typed m runnable

  -- a start function is the module's own
  start_typed : (function : ℕ) → IsStart m function → InvocationTyped m (invocation [] function)
  start_typed function (index, ty, at, type_is, no_params, no_results) =
      elim (at_append (places_in m.imports) m.functions function index at) as (λ w. InvocationTyped m (invocation [] function)) [
        | inl h ↦
            let one = imported_at (IsHostImport host m) m.imports imports_hosted function index h.1 in
            let i = one.import_of in
            let row = row_there (row_of_import i.«module» i.name) (row_offered (row_of_import i.«module» i.name) (subst IsSome (offers i.«module» i.name) one.has.0)) in
            let offered : host i.«module» i.name ≡ Some (offered_type row.0) = offers i.«module» i.name ∙ ap (option_map offered_type) row.1 in
            let same : ty ≡ offered_type row.0 = one.has.1 index ty (offered_type row.0) (function_is i.what index one.place_is) type_is offered in
            absurd (not_bare row.0 (import_has IsSoundRow rows_sound i.«module» i.name row.0 row.1)
            (empty_map row.0.params (ap (λ (t : FuncType). t.params) (sym same) ∙ no_params))
            (no_result row.0.result (ap (λ (t : FuncType). t.results) (sym same) ∙ no_results)))
        | inr h ↦
            let own = own_there m runnable function index ty type_is h.0 h.1 in
            (own.0, own.1, subst (λ (ts : List ValType). AreValues ts []) (sym (ap (λ (t : FuncType). t.params) own.2 ∙ no_params)) tt)
      ]

  starts_typed : (o : Option ℕ) → MatchOption o ⊤ (λ function. IsStart m function) → (rest : List Invocation) → InvocationsTyped m rest →
      InvocationsTyped m (map (invocation []) (option_to_list o) ++ rest)
  starts_typed None h rest typed = typed
  starts_typed (Some function) h rest typed = (start_typed function h, typed)

  -- the configuration that instantiation makes, where the begin is not refused
  pub instance_typed : (start : Start) → start.limits.pages ≤ 1024 →
      AreValues (map (λ (p : TypedValue). value_type p.num) start.params) (map (λ (p : TypedValue). p.value) start.params) →
      begin m start ≡ None → IsTyped m [] (instance_of m start)
  instance_typed start small values h =
      let is = is_begun m start h in
      let types = same_values (map (λ (p : TypedValue). value_type p.num) start.params) is.function.ty.params is.params in
      let arguments : AreValues is.function.ty.params (map (λ (p : TypedValue). p.value) start.params) =
      subst (λ (ts : List ValType). AreValues ts (map (λ (p : TypedValue). p.value) start.params)) types values in
      let entries : InvocationsTyped m (map (invocation (map (λ (p : TypedValue). p.value) start.params)) (option_to_list (entry_of m start.entry))) =
      subst (λ (o : Option ℕ). InvocationsTyped m (map (invocation (map (λ (p : TypedValue). p.value) start.params)) (option_to_list o))) (sym is.entry)
      ((is.function, is.own, arguments), tt) in
      let none = no_globals m.imports (accepted.inside FunctionsAlone) in
      record {
        globals = globals_typed m none (globals_spelled m spelled) (accepted.valid.rules ConstantGlobals);
        table = table_known m runnable (accepted.valid.rules FunctionTypes) (accepted.valid.rules Elements);
        memory = memory_begun m start.limits.pages (slice_get (memories_of m) 0) refl small is.pages (accepted.valid.rules Limits).memories
            (segments_judged start.limits.pages m is.segments) (segments_spelled m spelled);
        invocations = starts_typed m.start (accepted.valid.rules rules.Start) _ entries;
        frames = tt;
      }

  -- the begin of a run
  pub begun_typed : (start : Start) → start.limits.pages ≤ 1024 →
      AreValues (map (λ (p : TypedValue). value_type p.num) start.params) (map (λ (p : TypedValue). p.value) start.params) →
      begin m start ≡ None → IsTypedAt m (begun m start).state (begun m start).config
  unfolding begun
  begun_typed start small values h =
      enter_keeps m module_typed (instance_of m start) (invocations_of m start) (instance_typed start small values h)

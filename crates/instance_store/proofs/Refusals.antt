-- What the begin of a life refuses.
use Rattle.std.proofs.Common.{◌≡◌, ℕ, ◌≤◌, ◌<◌, arith, Bool, true, false, nat_le, List, map, Option, Some, None, refl, sym, ap, subst, ◌∙◌}
use Rattle.std.specs.Prelude.{cond, slice_get, option_and_then}
use Rattle.std.specs.Cmp.Lexicographic.{pointwise}
use Rattle.std.proofs.lemmas.Bool.Decides.{nat_tests}
use Rattle.host_port.specs.TypedValue.{TypedValue}
use Rattle.host_port.specs.declared.start.Start.{Start}
use Rattle.host_port.specs.declared.start.StartRefusal.{StartRefusal}
use Rattle.host_port.specs.declared.start.StartRefusal.TheVariants.{NoExport, BadParams, PagesOver, SegmentOut}
use Rattle.wasm_form.specs.declared.value_type.ValType.{ValType}
use Rattle.wasm_form.specs.declared.types.FuncType.{FuncType}
use Rattle.wasm_form.specs.declared.parts.Parts.{Parts}
use Rattle.wasm_form.specs.Context.{memories_of}
use Rattle.wasm_form.specs.Typing.{value_type}
use Rattle.tree_machine.specs.Functions.{Function, own_function, same_value_type}
use Rattle.tree_machine.specs.Begin.{entry_of, least_pages, refusal_of, begin}
use Rattle.tree_machine.specs.Instantiation.{segments_lie_in}
use Rattle.instance_store.proofs.OwnFunctions.{type_in}

-- the types of the parameters
abbrev pub types_of : List TypedValue → List ValType
types_of params = map (λ (p : TypedValue). value_type p.num) params

module _ (m : Parts) (start : Start) where
  -- the first refusal that applies, by whether each one does
  abbrev first_refusal : (fits within inside : Bool) → Option StartRefusal
  first_refusal fits within inside =
      cond fits (cond within (cond inside None (Some SegmentOut)) (Some PagesOver)) (Some BadParams)

  -- the pages with which the memory begins
  abbrev pages : ℕ
  pages = least_pages (slice_get (memories_of m) 0)

  no_export_of : (o : Option Function) → None ≡ type_in o → Some NoExport ≡ refusal_of o m start
  no_export_of None h = refl
  no_export_of (Some f) h = absurd (cc)

  -- no function of the module's own is exported under the name
  pub no_export : (name : List ℕ) → name ≡ start.entry → None ≡ type_in (option_and_then (own_function m) (entry_of m name))
      → Some NoExport ≡ begin m start
  unfolding begin
  no_export name is h =
      no_export_of (option_and_then (own_function m) (entry_of m start.entry))
      (subst (λ (name : List ℕ). None ≡ type_in (option_and_then (own_function m) (entry_of m name))) is h)

  refusal_with : (o : Option Function) (ty : FuncType) → Some ty ≡ type_in o
      → first_refusal (pointwise same_value_type (types_of start.params) ty.params) (nat_le pages start.limits.pages) (segments_lie_in start.limits.pages m)
      ≡ refusal_of o m start
  refusal_with None ty h = absurd (cc)
  refusal_with (Some f) ty h =
      let same : ty ≡ f.ty = cc in
      ap (λ (ty : FuncType). first_refusal (pointwise same_value_type (types_of start.params) ty.params) (nat_le pages start.limits.pages) (segments_lie_in start.limits.pages m)) same

  module _ (name : List ℕ) (named : name ≡ start.entry) (ty : FuncType)
      (entry : Some ty ≡ type_in (option_and_then (own_function m) (entry_of m name))) (fits within inside : Bool)
      (fits_is : pointwise same_value_type (types_of start.params) ty.params ≡ fits)
      (within_is : nat_le pages start.limits.pages ≡ within)
      (inside_is : segments_lie_in start.limits.pages m ≡ inside) where
    -- there is an entry function
    pub judged : first_refusal fits within inside ≡ begin m start
    unfolding begin
    judged =
        sym (ap (λ (b : Bool). first_refusal b within inside) fits_is)
        ∙ sym (ap (λ (b : Bool). first_refusal (pointwise same_value_type (types_of start.params) ty.params) b inside) within_is)
        ∙ sym (ap (λ (b : Bool). first_refusal (pointwise same_value_type (types_of start.params) ty.params) (nat_le pages start.limits.pages) b) inside_is)
        ∙ refusal_with (option_and_then (own_function m) (entry_of m start.entry)) ty
        (subst (λ (name : List ℕ). Some ty ≡ type_in (option_and_then (own_function m) (entry_of m name))) named entry)

-- a test of pages
pub over : (n limit : ℕ) → limit < n → nat_le n limit ≡ false
over n limit more = grind (arith, nat_tests)

pub within : (n limit : ℕ) → n ≤ limit → nat_le n limit ≡ true
within n limit few = grind (arith, nat_tests)

-- what is known where nothing is refused
pub record IsGranted (m : Parts) (start : Start) : Type 0 where
  pub pages : least_pages (slice_get (memories_of m) 0) ≤ start.limits.pages
  pub segments : segments_lie_in start.limits.pages m ≡ true

granted_by : (m : Parts) (start : Start) (fits within inside : Bool) → nat_le (pages m start) start.limits.pages ≡ within
    → segments_lie_in start.limits.pages m ≡ inside → first_refusal m start fits within inside ≡ None → IsGranted m start
granted_by m start true true true p s h = record { pages = grind (arith, nat_tests); segments = s }
granted_by m start true true false p s h = absurd (cc)
granted_by m start true false inside p s h = absurd (cc)
granted_by m start false within inside p s h = absurd (cc)

granted_of : (m : Parts) (start : Start) (o : Option Function) → refusal_of o m start ≡ None → IsGranted m start
granted_of m start None h = absurd (cc)
granted_of m start (Some f) h = granted_by m start _ _ _ refl refl h

-- nothing is refused
pub granted : (m : Parts) (start : Start) → begin m start ≡ None → IsGranted m start
unfolding begin
granted m start h = granted_of m start (option_and_then (own_function m) (entry_of m start.entry)) h

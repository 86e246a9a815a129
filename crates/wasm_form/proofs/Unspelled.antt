-- What is known of parts that some bytes spell, and of all that differ from them in matching places alone.
use Rattle.std.proofs.Common.{◌≡◌, ℕ, ◌^◌, ◌<◌, List, [], ◌∷◌, length, map, sum_by, All, Bool, true, false, cond, Option, Some, None, MatchOption, arith, refl, ap, subst, sym}
use Rattle.std.specs.Prelude.{find, ◌==◌}
use Rattle.std.proofs.lemmas.List.{length-map}
use Rattle.std.proofs.lemmas.List.Sums.{sum_by-cons}
use Rattle.std.proofs.lemmas.List.Elements.{All-nil, All-cons, All-head, All-tail, All-map}
use Rattle.leb_read.proofs.Unsigned.{fits}
use Rattle.wasm_form.specs.Values.{SpellsU32, SpellsItems, SpellsVector}
use Rattle.wasm_form.specs.Types.{SpellsFuncType, SpellsLimits, SpellsTableType}
use Rattle.wasm_form.specs.Sections.{SpellsImport, SpellsGlobal, SpellsExport, SpellsElement, SpellsBody, SpellsSegment}
use Rattle.wasm_form.specs.Modules.{Section, SpellsSection, Spells}
use Rattle.wasm_form.specs.Matching.{IsTree}
use Rattle.wasm_form.specs.Least.{least_unsigned, least_vector, least_func_type, least_limits, least_table_type, least_import, least_global, least_export, least_element, least_body, least_segment}
use Rattle.wasm_form.specs.Ranges.{IsU32, HasBoundsRange, HasImportRange, HasGlobalRange, HasExportRange, HasElementRange, HasBodyRange, HasSegmentRange, HasStartRange, HasRanges}
use Rattle.wasm_form.specs.Spellable.{bare_body, bare_global, bare_element, bare_segment, without_matches, HasSizes, HasTrees, HasFewLocals}
use Rattle.wasm_form.specs.declared.body.Body.{Body}
use Rattle.wasm_form.specs.declared.parts.GlobalDef.{GlobalDef}
use Rattle.wasm_form.specs.declared.parts.Element.{Element}
use Rattle.wasm_form.specs.declared.parts.Segment.{Segment}
use Rattle.wasm_form.specs.declared.parts.Parts.{Parts}
use Rattle.wasm_form.proofs.LeastParts as least
use Rattle.wasm_form.proofs.LeastParts.{AtLeast}
use Rattle.wasm_form.proofs.Plain.{spelled_tree}

-- each section's contents have a size that is a number of 32 bits
IsSmall : Section → Type 0
IsSmall s = length s.contents < 2 ^ 32

small_sections : (xs : List Section) (s : List ℕ) → SpellsItems SpellsSection s xs → All IsSmall xs
unfolding IsSmall
small_sections [] s h = All-nil IsSmall
small_sections (x ∷ xs) s h =
    All-cons IsSmall x xs (fits 32 (length x.contents) h.2.0 h.2.1) (small_sections xs h.1 h.3)

found : {A : Type 0} (P : A → Type 0) (test : A → Bool) (xs : List A) → All P xs → MatchOption (find test xs) (Unit {0}) P
found P test [] all = tt
found {A} P test (x ∷ xs) all =
    let Found : Bool → Type 0 = λ b. MatchOption (cond b (Some x) (find test xs)) (Unit {0}) P in
    let cases : Found (test x) = elim (test x) as Found [ true ↦ All-head P x xs all | false ↦ found P test xs (All-tail P x xs all) ] in
    cases

-- a part that its section spells has a least length of 32 bits
few_items : {A : Type 0} (S : List ℕ → A → Type 0) (f : A → ℕ) (o : Option Section) (xs : List A) → AtLeast S f → MatchOption o (Unit {0}) IsSmall
    → MatchOption o (xs ≡ []) (λ s. SpellsVector S s.contents xs) → least_vector f xs < 2 ^ 32
unfolding IsSmall least_unsigned
few_items S f None xs law few h = subst (λ l. least_vector f l < 2 ^ 32) (sym h) (omega arith)
few_items S f (Some s) xs law few h = omega (arith, few, (least.vector S f law).at xs s.contents h)

-- what holds of each item that is spelled
each_item : {A : Type 0} (S : List ℕ → A → Type 0) (P : A → Type 0) → ((x : A) (s : List ℕ) → S s x → P x) → (xs : List A) (s : List ℕ) → SpellsItems S s xs → All P xs
each_item S P law [] s h = All-nil P
each_item S P law (x ∷ xs) s h = All-cons P x xs (law x h.0 h.2) (each_item S P law xs h.1 h.3)

each_part : {A : Type 0} (S : List ℕ → A → Type 0) (P : A → Type 0) (o : Option Section) (xs : List A) → ((x : A) (s : List ℕ) → S s x → P x)
    → MatchOption o (xs ≡ []) (λ s. SpellsVector S s.contents xs) → All P xs
each_part S P None xs law h = subst (λ l. All P l) (sym h) (All-nil P)
each_part S P (Some s) xs law h = each_item S P law xs h.1 h.3

-- the section with this id
abbrev with_id : ℕ → List Section → Option Section
with_id id sections = find (λ s. s.id == id) sections

pub sizes : (m : Parts) (bytes : List ℕ) → Spells bytes m → HasSizes m
sizes m bytes h =
    let all : All IsSmall h.sections = small_sections h.sections h.after h.spelled in
    let small : (id : ℕ) → MatchOption (with_id id h.sections) (Unit {0}) IsSmall = λ id. found IsSmall (λ s. s.id == id) h.sections all in
    record {
      types = few_items SpellsFuncType least_func_type (with_id 1 h.sections) m.types least.func_type (small 1) h.types;
      imports = few_items SpellsImport least_import (with_id 2 h.sections) m.imports least.import (small 2) h.imports;
      functions = few_items SpellsU32 least_unsigned (with_id 3 h.sections) m.functions least.number (small 3) h.functions;
      tables = few_items SpellsTableType least_table_type (with_id 4 h.sections) m.tables least.table_type (small 4) h.tables;
      memories = few_items SpellsLimits least_limits (with_id 5 h.sections) m.memories least.limits (small 5) h.memories;
      globals = few_items SpellsGlobal least_global (with_id 6 h.sections) m.globals least.global (small 6) h.globals;
      exports = few_items SpellsExport least_export (with_id 7 h.sections) m.exports least.export (small 7) h.exports;
      elements = few_items SpellsElement least_element (with_id 9 h.sections) m.elements least.element (small 9) h.elements;
      bodies = few_items SpellsBody least_body (with_id 10 h.sections) m.bodies least.body (small 10) h.bodies;
      segments = few_items SpellsSegment least_segment (with_id 11 h.sections) m.segments least.segment (small 11) h.segments;
    }

pub trees : (m : Parts) (bytes : List ℕ) → Spells bytes m → HasTrees m
trees m bytes h =
    record {
      globals = each_part SpellsGlobal (λ (g : GlobalDef). IsTree g.init) (with_id 6 h.sections) m.globals (λ g s k. spelled_tree g.init k.1 k.3) h.globals;
      elements = each_part SpellsElement (λ (e : Element). IsTree e.offset) (with_id 9 h.sections) m.elements (λ e s k. spelled_tree e.offset k.1 k.4) h.elements;
      segments = each_part SpellsSegment (λ (d : Segment). IsTree d.offset) (with_id 11 h.sections) m.segments (λ d s k. spelled_tree d.offset k.1 k.4) h.segments;
      bodies = each_part SpellsBody (λ (b : Body). IsTree b.expr) (with_id 10 h.sections) m.bodies (λ b s k. spelled_tree b.expr k.3.1 k.3.3) h.bodies;
    }

pub few_locals : (m : Parts) (bytes : List ℕ) → Spells bytes m → All HasFewLocals m.bodies
few_locals m bytes h = each_part SpellsBody HasFewLocals (with_id 10 h.sections) m.bodies (λ b s k. k.3.4) h.bodies

-- what a change of matching places leaves
sum_by_map : {A : Type 0} (f : A → ℕ) (b : A → A) → ((x : A) → f (b x) ≡ f x) → (xs : List A) → sum_by f (map b xs) ≡ sum_by f xs
sum_by_map f b same [] = refl
sum_by_map f b same (x ∷ xs) = omega (arith, sum_by-cons f (b x) (map b xs), sum_by-cons f x xs, same x, sum_by_map f b same xs)

least_map : {A : Type 0} (f : A → ℕ) (b : A → A) → ((x : A) → f (b x) ≡ f x) → (xs : List A) → least_vector f (map b xs) ≡ least_vector f xs
least_map f b same xs = omega (arith, sum_by_map f b same xs, ap least_unsigned (length-map xs b))

-- lists that are the same but for matching places have the same least length
least_same : {A : Type 0} (f : A → ℕ) (b : A → A) → ((x : A) → f (b x) ≡ f x) → (xs ys : List A) → map b xs ≡ map b ys → least_vector f xs < 2 ^ 32 → least_vector f ys < 2 ^ 32
least_same f b same xs ys e few =
    omega (arith, few, least_map f b same xs, least_map f b same ys, ap (λ l. least_vector f l) e)

pub sizes_same : (m n : Parts) → without_matches m ≡ without_matches n → HasSizes m → HasSizes n
sizes_same m n e h =
    record {
      types = subst (λ (w : Parts). least_vector least_func_type w.types < 2 ^ 32) e h.types;
      imports = subst (λ (w : Parts). least_vector least_import w.imports < 2 ^ 32) e h.imports;
      functions = subst (λ (w : Parts). least_vector least_unsigned w.functions < 2 ^ 32) e h.functions;
      tables = subst (λ (w : Parts). least_vector least_table_type w.tables < 2 ^ 32) e h.tables;
      memories = subst (λ (w : Parts). least_vector least_limits w.memories < 2 ^ 32) e h.memories;
      globals = least_same least_global bare_global (λ g. refl) m.globals n.globals (ap (λ (w : Parts). w.globals) e) h.globals;
      exports = subst (λ (w : Parts). least_vector least_export w.exports < 2 ^ 32) e h.exports;
      elements = least_same least_element bare_element (λ x. refl) m.elements n.elements (ap (λ (w : Parts). w.elements) e) h.elements;
      bodies = least_same least_body bare_body (λ b. refl) m.bodies n.bodies (ap (λ (w : Parts). w.bodies) e) h.bodies;
      segments = least_same least_segment bare_segment (λ d. refl) m.segments n.segments (ap (λ (w : Parts). w.segments) e) h.segments;
    }

-- a fact that matching places don't change
all_unmap : {A : Type 0} (P : A → Type 0) (b : A → A) → ((x : A) → P (b x) → P x) → (xs : List A) → All P (map b xs) → All P xs
all_unmap P b back [] h = All-nil P
all_unmap P b back (x ∷ xs) h =
    All-cons P x xs (back x (All-head P (b x) (map b xs) h)) (all_unmap P b back xs (All-tail P (b x) (map b xs) h))

pub all_same : {A : Type 0} (P : A → Type 0) (b : A → A) → ((x : A) → P x → P (b x)) → ((x : A) → P (b x) → P x)
    → (xs ys : List A) → map b xs ≡ map b ys → All P xs → All P ys
all_same P b there back xs ys e h =
    all_unmap P b back ys (subst (λ l. All P l) e (All-map P b xs (λ k d low. there _ (h k d low))))

pub locals_same : (m n : Parts) → without_matches m ≡ without_matches n → All HasFewLocals m.bodies → All HasFewLocals n.bodies
locals_same m n e h = all_same HasFewLocals bare_body (λ b k. k) (λ b k. k) m.bodies n.bodies (ap (λ (w : Parts). w.bodies) e) h

pub counts_same : (m n : Parts) → without_matches m ≡ without_matches n → length m.functions ≡ length m.bodies → length n.functions ≡ length n.bodies
counts_same m n e h =
    omega (arith, h, ap (λ (w : Parts). length w.functions) e, ap (λ (w : Parts). length w.bodies) e, length-map m.bodies bare_body, length-map n.bodies bare_body)

pub ranges_same : (m n : Parts) → without_matches m ≡ without_matches n → HasRanges m → HasRanges n
ranges_same m n e h =
    record {
      imports = subst (λ (w : Parts). All HasImportRange w.imports) e h.imports;
      functions = subst (λ (w : Parts). All IsU32 w.functions) e h.functions;
      tables = subst (λ (w : Parts). All HasBoundsRange w.tables) e h.tables;
      memories = subst (λ (w : Parts). All HasBoundsRange w.memories) e h.memories;
      globals = all_same HasGlobalRange bare_global (λ g k. k) (λ g k. k) m.globals n.globals (ap (λ (w : Parts). w.globals) e) h.globals;
      exports = subst (λ (w : Parts). All HasExportRange w.exports) e h.exports;
      start = subst (λ (w : Parts). HasStartRange w.start) e h.start;
      elements = all_same HasElementRange bare_element (λ x k. k) (λ x k. k) m.elements n.elements (ap (λ (w : Parts). w.elements) e) h.elements;
      bodies = all_same HasBodyRange bare_body (λ b k. k) (λ b k. k) m.bodies n.bodies (ap (λ (w : Parts). w.bodies) e) h.bodies;
      segments = all_same HasSegmentRange bare_segment (λ d k. k) (λ d k. k) m.segments n.segments (ap (λ (w : Parts). w.segments) e) h.segments;
    }

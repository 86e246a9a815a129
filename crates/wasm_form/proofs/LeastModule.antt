-- No spelling of a module is shorter than the least length.
use Rattle.std.proofs.Common.{◌≡◌, ℕ, zero, suc, ◌+◌, ◌<◌, ◌≤◌, List, [], ◌∷◌, length, length-append, sum_by, Bool, true, false, cond, eqb, Option, Some, None, MatchOption, arith, refl, ap, subst, sym}
use Rattle.std.specs.Prelude.{find, ◌==◌}
use Rattle.std.proofs.lemmas.List.Sums.{sum_by-cons}
use Rattle.std.proofs.lemmas.Bool.{eqb-true, ne_eqb}
use Rattle.wasm_form.specs.Values.{SpellsU32, SpellsItems, SpellsVector}
use Rattle.wasm_form.specs.Types.{SpellsFuncType, SpellsLimits, SpellsTableType}
use Rattle.wasm_form.specs.Sections.{SpellsImport, SpellsGlobal, SpellsExport, SpellsStart, SpellsElement, SpellsBody, SpellsSegment}
use Rattle.wasm_form.specs.Modules.{Section, SpellsSection, Spells}
use Rattle.wasm_form.specs.Least.{least_unsigned, least_vector, least_sized, least_func_type, least_limits, least_table_type, least_import, least_global, least_export, least_element, least_body, least_segment, least_section, least_start, least_module}
use Rattle.wasm_form.specs.declared.parts.Parts.{Parts}
use Rattle.wasm_form.proofs.LeastNumbers.{at_least_unsigned, least_rises}
use Rattle.wasm_form.proofs.LeastParts as least
use Rattle.wasm_form.proofs.LeastParts.{AtLeast}

-- the least length of a section with these contents
abbrev length_of : Section → ℕ
length_of s = 1 + least_sized (length s.contents)

-- and of the one with this id, if there is one
abbrev length_found : Option Section → ℕ
length_found None = 0
length_found (Some s) = length_of s

abbrev share : (id : ℕ) → List Section → ℕ
share id xs = length_found (find (λ s. s.id == id) xs)

-- of as many ids from one on
abbrev shares : (many id : ℕ) → List Section → ℕ
shares zero id xs = 0
shares (suc many) id xs = share id xs + shares many (id + 1) xs

-- what one section adds to these
abbrev hit : ℕ → Section → ℕ
hit id s = cond (eqb s.id id) (length_of s) 0

abbrev hits : (many id : ℕ) → Section → ℕ
hits zero id s = 0
hits (suc many) id s = hit id s + hits many (id + 1) s

share_cons : (b : Bool) (s : Section) (o : Option Section) → length_found (cond b (Some s) o) ≤ cond b (length_of s) 0 + length_found o
share_cons true s o = omega arith
share_cons false s o = omega arith

shares_cons : (many id : ℕ) (s : Section) (xs : List Section) → shares many id (s ∷ xs) ≤ hits many id s + shares many id xs
shares_cons zero id s xs = omega arith
shares_cons (suc many) id s xs =
    let here : share id (s ∷ xs) ≤ hit id s + share id xs = share_cons (eqb s.id id) s (find (λ t. t.id == id) xs) in
    let rest : shares many (id + 1) (s ∷ xs) ≤ hits many (id + 1) s + shares many (id + 1) xs = shares_cons many (id + 1) s xs in
    omega (arith, here, rest)

missed : (many id : ℕ) (s : Section) → s.id < id → hits many id s ≡ 0
missed zero id s low = refl
missed (suc many) id s low =
    let other : eqb s.id id ≡ false = ne_eqb s.id id (λ e. omega (arith, e, low)) in
    let rest : hits many (id + 1) s ≡ 0 = missed many (id + 1) s (omega arith) in
    rw other (omega (arith, rest))

hit_once : (many id : ℕ) (s : Section) → hits many id s ≤ length_of s
hit_once zero id s = omega arith
hit_once (suc many) id s =
    let Once : Bool → Type 0 = λ b. eqb s.id id ≡ b → cond b (length_of s) 0 + hits many (id + 1) s ≤ length_of s in
    let cases : Once (eqb s.id id) = elim (eqb s.id id) as Once [
      | true ↦ λ e. omega (arith, missed many (id + 1) s (omega (arith, eqb-true s.id id e)))
      | false ↦ λ e. omega (arith, hit_once many (id + 1) s)
    ] in
    cases refl

no_shares : (many id : ℕ) → shares many id [] ≤ 0
no_shares zero id = omega arith
no_shares (suc many) id = omega (arith, no_shares many (id + 1))

few_shares : (many id : ℕ) (xs : List Section) → shares many id xs ≤ sum_by length_of xs
few_shares many id [] = no_shares many id
few_shares many id (s ∷ xs) =
    omega (arith, shares_cons many id s xs, hit_once many id s, few_shares many id xs, sum_by-cons length_of s xs)

sections : (xs : List Section) (s : List ℕ) → SpellsItems SpellsSection s xs → sum_by length_of xs ≤ length s
sections [] s h = omega arith
sections (x ∷ xs) s h =
    omega (
      arith,
      sum_by-cons length_of x xs,
      at_least_unsigned (length x.contents) h.2.0 h.2.1,
      sections xs h.1 h.3,
      ap length h.4,
      length-append h.0 h.1,
      ap length h.2.2,
      length-append h.2.0 x.contents,
    )

-- contents that are longer have a section that is no shorter
longer : (m n : ℕ) → m ≤ n → 1 + least_sized m ≤ 1 + least_sized n
longer m n less = omega (arith, less, least_rises m n less)

part : {A : Type 0} (S : List ℕ → A → Type 0) (f : A → ℕ) (o : Option Section) (xs : List A) → AtLeast S f
    → MatchOption o (xs ≡ []) (λ s. SpellsVector S s.contents xs) → least_section f xs ≤ length_found o
part S f o [] law h = omega arith
part S f None (x ∷ xs) law h = absurd (cc)
part S f (Some s) (x ∷ xs) law h = longer (least_vector f (x ∷ xs)) (length s.contents) ((least.vector S f law).at (x ∷ xs) s.contents h)

start : (o : Option Section) (x : Option ℕ) → MatchOption o (x ≡ None) (λ s. SpellsStart s.contents x) → least_start x ≤ length_found o
start o None h = omega arith
start None (Some function) h = absurd (cc)
start (Some s) (Some function) h =
    let same : h.0 ≡ function = let e : Some function ≡ Some h.0 = h.2 in sym (cc) in
    let few : least_unsigned function ≤ length s.contents = subst (λ n. least_unsigned n ≤ length s.contents) same (at_least_unsigned h.0 s.contents h.1) in
    longer (least_unsigned function) (length s.contents) few

abbrev with_id : ℕ → List Section → Option Section
with_id id xs = find (λ s. s.id == id) xs

pub whole : (m : Parts) (bytes : List ℕ) → Spells bytes m → least_module m ≤ length bytes
whole m bytes h =
    let all : shares 11 1 h.sections ≤ length h.after = omega (arith, few_shares 11 1 h.sections, sections h.sections h.after h.spelled) in
    omega (
      arith,
      all,
      ap length h.whole,
      part SpellsFuncType least_func_type (with_id 1 h.sections) m.types least.func_type h.types,
      part SpellsImport least_import (with_id 2 h.sections) m.imports least.import h.imports,
      part SpellsU32 least_unsigned (with_id 3 h.sections) m.functions least.number h.functions,
      part SpellsTableType least_table_type (with_id 4 h.sections) m.tables least.table_type h.tables,
      part SpellsLimits least_limits (with_id 5 h.sections) m.memories least.limits h.memories,
      part SpellsGlobal least_global (with_id 6 h.sections) m.globals least.global h.globals,
      part SpellsExport least_export (with_id 7 h.sections) m.exports least.export h.exports,
      start (with_id 8 h.sections) m.start h.start,
      part SpellsElement least_element (with_id 9 h.sections) m.elements least.element h.elements,
      part SpellsBody least_body (with_id 10 h.sections) m.bodies least.body h.bodies,
      part SpellsSegment least_segment (with_id 11 h.sections) m.segments least.segment h.segments,
    )

-- Modules and their parts, each of which is a section where it holds something.
use Rattle.std.proofs.Common.{◌≡◌, ℕ, zero, suc, ◌+◌, ◌<◌, ◌≤◌, ◌⊎◌, inl, inr, List, [], ◌∷◌, ◌++◌, length, append_assoc, append-nil, find, Bool, true, false, cond, eqb, Option, Some, None, MatchOption, arith, refl, ap, subst, sym, ◌∙◌}
use Rattle.std.proofs.lemmas.Bool.Decides.{nat_tests}
use Rattle.wasm_form.specs.Values.{SpellsU32, SpellsItems, SpellsVector}
use Rattle.wasm_form.specs.Types.{SpellsFuncType, SpellsLimits, SpellsTableType}
use Rattle.wasm_form.specs.Sections.{SpellsImport, SpellsGlobal, SpellsExport, SpellsStart, SpellsElement, SpellsBody, SpellsSegment}
use Rattle.wasm_form.specs.Modules.{Section, SpellsSection, IsInOrder, HasPart, Spells, preamble}
use Rattle.wasm_form.specs.declared.parts.Parts.{Parts}
use Rattle.module_writer.specs.Writing.{HasSpelling}
use Rattle.module_writer.specs.SectionParts.{SpellsPart, SpellsStartPart, SpellsEarly, SpellsLate}
use Rattle.module_writer.proofs.Items.{items_append}

-- a section that is found, with its size
record Found (P : Section → Type 0) : Type 0 where
  section : Section
  size : List ℕ
  is : P section
  sized : SpellsU32 size (length section.contents)

pick : (b : Bool) (s : Section) (o : Option Section) (Q R : Type 0) (P : Section → Type 0) → (P s → R) → (MatchOption o Q P → R) → MatchOption (cond b (Some s) o) Q P → R
pick true s o Q R P first other h = first h
pick false s o Q R P first other h = other h

find_part : (id : ℕ) (sections : List Section) (after : List ℕ) (Q : Type 0) (P : Section → Type 0) → SpellsItems SpellsSection after sections
    → MatchOption (find (λ s. eqb s.id id) sections) Q P → Q ⊎ Found P
find_part id [] after Q P h m = inl m
find_part id (s ∷ rest) after Q P h m =
    pick (eqb s.id id) s (find (λ s. eqb s.id id) rest) Q (Q ⊎ Found P) P (λ p. inr (record { section = s; size = h.2.0; is = p; sized = h.2.1 }))
    (λ k. find_part id rest h.1 Q P h.3 k) m

with_size : {A : Type 0} (id : ℕ) (S : List ℕ → A → Type 0) (xs : List A) (contents size : List ℕ) → SpellsVector S contents xs → SpellsU32 size (length contents) → HasSpelling (SpellsPart id S) xs
with_size id S [] contents size h k = record { bytes = []; spells = refl }
with_size id S (x ∷ xs) contents size h k =
    record { bytes = id ∷ (size ++ contents); spells = (size ++ contents, (size, contents, k, h, refl), refl) }

part : {A : Type 0} (id : ℕ) (S : List ℕ → A → Type 0) (sections : List Section) (after : List ℕ) (xs : List A) → SpellsItems SpellsSection after sections
    → HasPart id (SpellsVector S) [] sections xs → HasSpelling (SpellsPart id S) xs
part {A} id S sections after xs h m =
    let P : Section → Type 0 = λ s. SpellsVector S s.contents xs in
    let none : HasSpelling (SpellsPart id S) [] = record { bytes = []; spells = refl } in
    elim (find_part id sections after (xs ≡ []) P h m) [
      | inl e ↦ subst (λ (l : List A). HasSpelling (SpellsPart id S) l) (sym e) none
      | inr p ↦ with_size id S xs p.section.contents p.size p.is p.sized
    ]

start_part : (sections : List Section) (after : List ℕ) (start : Option ℕ) → SpellsItems SpellsSection after sections → HasPart 8 SpellsStart None sections start → HasSpelling SpellsStartPart start
start_part sections after start h m =
    let P : Section → Type 0 = λ s. SpellsStart s.contents start in
    let none : HasSpelling SpellsStartPart None = record { bytes = []; spells = refl } in
    elim (find_part 8 sections after (start ≡ None) P h m) [
      | inl e ↦ subst (λ (o : Option ℕ). HasSpelling SpellsStartPart o) (sym e) none
      | inr p ↦
          let there : HasSpelling SpellsStartPart (Some p.is.0) = record { bytes = 0x08 ∷ (p.size ++ p.section.contents); spells = (p.size ++ p.section.contents, (p.size, p.section.contents, p.sized, p.is.1, refl), refl) } in
          subst (λ (o : Option ℕ). HasSpelling SpellsStartPart o) (sym p.is.2) there
    ]

pub early : (bytes : List ℕ) (m : Parts) → Spells bytes m → HasSpelling SpellsEarly m
early bytes m h =
    let t = part 1 SpellsFuncType h.sections h.after m.types h.spelled h.types in
    let i = part 2 SpellsImport h.sections h.after m.imports h.spelled h.imports in
    let f = part 3 SpellsU32 h.sections h.after m.functions h.spelled h.functions in
    let s = part 4 SpellsTableType h.sections h.after m.tables h.spelled h.tables in
    let n = part 5 SpellsLimits h.sections h.after m.memories h.spelled h.memories in
    let g = part 6 SpellsGlobal h.sections h.after m.globals h.spelled h.globals in
    record {
      bytes = t.bytes ++ (i.bytes ++ (f.bytes ++ (s.bytes ++ (n.bytes ++ g.bytes))));
      spells = record {
        types = t.bytes;
        imports = i.bytes;
        functions = f.bytes;
        tables = s.bytes;
        memories = n.bytes;
        globals = g.bytes;
        types_are = t.spells;
        imports_are = i.spells;
        functions_are = f.spells;
        tables_are = s.spells;
        memories_are = n.spells;
        globals_are = g.spells;
        whole = refl;
      };
    }

pub late : (bytes : List ℕ) (m : Parts) → Spells bytes m → HasSpelling SpellsLate m
late bytes m h =
    let e = part 7 SpellsExport h.sections h.after m.exports h.spelled h.exports in
    let s = start_part h.sections h.after m.start h.spelled h.start in
    let l = part 9 SpellsElement h.sections h.after m.elements h.spelled h.elements in
    let b = part 10 SpellsBody h.sections h.after m.bodies h.spelled h.bodies in
    let d = part 11 SpellsSegment h.sections h.after m.segments h.spelled h.segments in
    record {
      bytes = e.bytes ++ (s.bytes ++ (l.bytes ++ (b.bytes ++ d.bytes)));
      spells = record {
        exports = e.bytes;
        start = s.bytes;
        elements = l.bytes;
        bodies = b.bytes;
        segments = d.bytes;
        exports_are = e.spells;
        start_is = s.spells;
        elements_are = l.spells;
        bodies_are = b.spells;
        segments_are = d.spells;
        whole = refl;
      };
    }

-- the sections of contents that are there or not, by rising id
abbrev section_of : ℕ → Option (List ℕ) → List Section
section_of id None = []
section_of id (Some contents) = record { id = id; contents = contents } ∷ []

abbrev kept : ℕ → List (Option (List ℕ)) → List Section
kept id [] = []
kept id (o ∷ os) = section_of id o ++ kept (id + 1) os

abbrev here : ℕ → List (Option (List ℕ)) → Option (List ℕ)
here i [] = None
here zero (o ∷ os) = o
here (suc i) (o ∷ os) = here i os

abbrev as_section : ℕ → Option (List ℕ) → Option Section
as_section id None = None
as_section id (Some contents) = Some (record { id = id; contents = contents })

skip : (k id : ℕ) (o : Option (List ℕ)) (rest : List Section) → (id ≡ k → ⊥) → find (λ s. eqb s.id k) (section_of id o ++ rest) ≡ find (λ s. eqb s.id k) rest
skip k id None rest other = refl
skip k id (Some c) rest other =
    let no : eqb id k ≡ false = grind (arith, nat_tests) in
    ap (λ (b : Bool). cond b (Some (record { id = id; contents = c })) (find (λ s. eqb s.id k) rest)) no

none_above : (k id : ℕ) (os : List (Option (List ℕ))) → k < id → find (λ s. eqb s.id k) (kept id os) ≡ None
none_above k id [] low = refl
none_above k id (o ∷ os) low = skip k id o (kept (id + 1) os) (λ e. omega arith) ∙ none_above k (id + 1) os (omega arith)

first_found : (k id : ℕ) (o : Option (List ℕ)) (os : List (Option (List ℕ))) → id ≡ k → find (λ s. eqb s.id k) (kept id (o ∷ os)) ≡ as_section k o
first_found k id None os e = none_above k (id + 1) os (omega arith)
first_found k id (Some c) os e =
    let yes : eqb id k ≡ true = grind (arith, nat_tests) in
    ap (λ (b : Bool). cond b (Some (record { id = id; contents = c })) (find (λ s. eqb s.id k) (kept (id + 1) os))) yes
    ∙ ap (λ (n : ℕ). Some (record { id = n; contents = c })) e

found : (i k id : ℕ) (os : List (Option (List ℕ))) → id + i ≡ k → find (λ s. eqb s.id k) (kept id os) ≡ as_section k (here i os)
found i k id [] e = refl
found zero k id (o ∷ os) e = first_found k id o os (omega arith)
found (suc i) k id (o ∷ os) e = skip k id o (kept (id + 1) os) (λ h. omega arith) ∙ found i k (id + 1) os (omega arith)

lower : (id : ℕ) (sections : List Section) → IsInOrder (id + 1) sections → IsInOrder id sections
lower id [] h = tt
lower id (s ∷ rest) h = elim h [ inl p ↦ inl (p.0, p.1, lower id rest p.2) | inr p ↦ inr (omega (arith, p.0), p.1, p.2) ]

ordered : (id : ℕ) (os : List (Option (List ℕ))) → id + length os ≤ 12 → IsInOrder id (kept id os)
ordered id [] few = tt
ordered id (None ∷ os) few = lower id (kept (id + 1) os) (ordered (id + 1) os (omega arith))
ordered id (Some c ∷ os) few = inr (omega arith, omega arith, ordered (id + 1) os (omega arith))

-- a part, and its contents where it is kept
record Kept {A : Type 0} (id : ℕ) (S : List ℕ → A → Type 0) (absent x : A) (bytes : List ℕ) : Type 0 where
  contents : Option (List ℕ)
  held : MatchOption contents (x ≡ absent) (λ c. S c x)
  items : SpellsItems SpellsSection bytes (section_of id contents)

kept_part : {A : Type 0} (id : ℕ) (S : List ℕ → A → Type 0) (xs : List A) (bytes : List ℕ) → SpellsPart id S bytes xs → Kept id (SpellsVector S) [] xs bytes
kept_part id S [] bytes h = record { contents = None; held = refl; items = h }
kept_part id S (x ∷ xs) bytes h =
    record {
      contents = Some h.1.1;
      held = h.1.3;
      items = (bytes, [], (h.1.0, h.1.2, h.2 ∙ ap (λ (l : List ℕ). id ∷ l) h.1.4), refl, sym (append-nil bytes));
    }

kept_start : (start : Option ℕ) (bytes : List ℕ) → SpellsStartPart bytes start → Kept 8 SpellsStart None start bytes
kept_start None bytes h = record { contents = None; held = refl; items = h }
kept_start (Some function) bytes h =
    record {
      contents = Some h.1.1;
      held = (function, h.1.3, refl);
      items = (bytes, [], (h.1.0, h.1.2, h.2 ∙ ap (λ (l : List ℕ). 0x08 ∷ l) h.1.4), refl, sym (append-nil bytes));
    }

has : {A : Type 0} (k : ℕ) (S : List ℕ → A → Type 0) (absent x : A) (sections : List Section) (o : Option (List ℕ)) → find (λ s. eqb s.id k) sections ≡ as_section k o
    → MatchOption o (x ≡ absent) (λ c. S c x) → HasPart k S absent sections x
has k S absent x sections o e h =
    subst (λ (f : Option Section). MatchOption f (x ≡ absent) (λ s. S s.contents x)) (sym e) (seen o h)
  where
    seen : (o : Option (List ℕ)) → MatchOption o (x ≡ absent) (λ c. S c x) → MatchOption (as_section k o) (x ≡ absent) (λ s. S s.contents x)
    seen None h = h
    seen (Some c) h = h

put : (id : ℕ) (o : Option (List ℕ)) (os : List (Option (List ℕ))) (first rest : List ℕ) → SpellsItems SpellsSection first (section_of id o)
    → SpellsItems SpellsSection rest (kept (id + 1) os) → SpellsItems SpellsSection (first ++ rest) (kept id (o ∷ os))
put id o os first rest h k = items_append SpellsSection (section_of id o) (kept (id + 1) os) first rest h k

pub spelled : (e l bytes : List ℕ) (m : Parts) → SpellsEarly e m → SpellsLate l m → length m.functions ≡ length m.bodies → bytes ≡ preamble ++ (e ++ l) → Spells bytes m
spelled e l bytes m a b counts whole =
    let k1 = kept_part 1 SpellsFuncType m.types a.types a.types_are in
    let k2 = kept_part 2 SpellsImport m.imports a.imports a.imports_are in
    let k3 = kept_part 3 SpellsU32 m.functions a.functions a.functions_are in
    let k4 = kept_part 4 SpellsTableType m.tables a.tables a.tables_are in
    let k5 = kept_part 5 SpellsLimits m.memories a.memories a.memories_are in
    let k6 = kept_part 6 SpellsGlobal m.globals a.globals a.globals_are in
    let k7 = kept_part 7 SpellsExport m.exports b.exports b.exports_are in
    let k8 = kept_start m.start b.start b.start_is in
    let k9 = kept_part 9 SpellsElement m.elements b.elements b.elements_are in
    let k10 = kept_part 10 SpellsBody m.bodies b.bodies b.bodies_are in
    let k11 = kept_part 11 SpellsSegment m.segments b.segments b.segments_are in
    let t11 : List (Option (List ℕ)) = k11.contents ∷ [] in
    let t10 : List (Option (List ℕ)) = k10.contents ∷ t11 in
    let t9 : List (Option (List ℕ)) = k9.contents ∷ t10 in
    let t8 : List (Option (List ℕ)) = k8.contents ∷ t9 in
    let t7 : List (Option (List ℕ)) = k7.contents ∷ t8 in
    let t6 : List (Option (List ℕ)) = k6.contents ∷ t7 in
    let t5 : List (Option (List ℕ)) = k5.contents ∷ t6 in
    let t4 : List (Option (List ℕ)) = k4.contents ∷ t5 in
    let t3 : List (Option (List ℕ)) = k3.contents ∷ t4 in
    let t2 : List (Option (List ℕ)) = k2.contents ∷ t3 in
    let os : List (Option (List ℕ)) = k1.contents ∷ t2 in
    let s11 : SpellsItems SpellsSection b.segments (kept 11 t11) = subst (λ (r : List ℕ). SpellsItems SpellsSection r (kept 11 t11)) (append-nil b.segments) (put 11 k11.contents [] b.segments [] k11.items refl) in
    let s10 : SpellsItems SpellsSection (b.bodies ++ b.segments) (kept 10 t10) = put 10 k10.contents t11 b.bodies b.segments k10.items s11 in
    let s9 : SpellsItems SpellsSection (b.elements ++ (b.bodies ++ b.segments)) (kept 9 t9) = put 9 k9.contents t10 b.elements (b.bodies ++ b.segments) k9.items s10 in
    let s8 : SpellsItems SpellsSection (b.start ++ (b.elements ++ (b.bodies ++ b.segments))) (kept 8 t8) = put 8 k8.contents t9 b.start (b.elements ++ (b.bodies ++ b.segments)) k8.items s9 in
    let s7 : SpellsItems SpellsSection l (kept 7 t7) =
    subst (λ (r : List ℕ). SpellsItems SpellsSection r (kept 7 t7)) (sym b.whole) (put 7 k7.contents t8 b.exports (b.start ++ (b.elements ++ (b.bodies ++ b.segments))) k7.items s8) in
    let s6 = put 6 k6.contents t7 a.globals l k6.items s7 in
    let s5 = put 5 k5.contents t6 a.memories (a.globals ++ l) k5.items s6 in
    let s4 = put 4 k4.contents t5 a.tables (a.memories ++ (a.globals ++ l)) k4.items s5 in
    let s3 = put 3 k3.contents t4 a.functions (a.tables ++ (a.memories ++ (a.globals ++ l))) k3.items s4 in
    let s2 = put 2 k2.contents t3 a.imports (a.functions ++ (a.tables ++ (a.memories ++ (a.globals ++ l)))) k2.items s3 in
    let s1 = put 1 k1.contents t2 a.types (a.imports ++ (a.functions ++ (a.tables ++ (a.memories ++ (a.globals ++ l))))) k1.items s2 in
    let same : a.types ++ (a.imports ++ (a.functions ++ (a.tables ++ (a.memories ++ (a.globals ++ l))))) ≡ e ++ l = regroup a.types a.imports a.functions a.tables a.memories a.globals l ∙ ap (λ (r : List ℕ). r ++ l) (sym a.whole) in
    record {
      sections = kept 1 os;
      after = e ++ l;
      whole = whole;
      spelled = subst (λ (r : List ℕ). SpellsItems SpellsSection r (kept 1 os)) same s1;
      in_order = ordered 1 os (omega arith);
      types = has 1 (SpellsVector SpellsFuncType) [] m.types (kept 1 os) k1.contents (found 0 1 1 os refl) k1.held;
      imports = has 2 (SpellsVector SpellsImport) [] m.imports (kept 1 os) k2.contents (found 1 2 1 os refl) k2.held;
      functions = has 3 (SpellsVector SpellsU32) [] m.functions (kept 1 os) k3.contents (found 2 3 1 os refl) k3.held;
      tables = has 4 (SpellsVector SpellsTableType) [] m.tables (kept 1 os) k4.contents (found 3 4 1 os refl) k4.held;
      memories = has 5 (SpellsVector SpellsLimits) [] m.memories (kept 1 os) k5.contents (found 4 5 1 os refl) k5.held;
      globals = has 6 (SpellsVector SpellsGlobal) [] m.globals (kept 1 os) k6.contents (found 5 6 1 os refl) k6.held;
      exports = has 7 (SpellsVector SpellsExport) [] m.exports (kept 1 os) k7.contents (found 6 7 1 os refl) k7.held;
      start = has 8 SpellsStart None m.start (kept 1 os) k8.contents (found 7 8 1 os refl) k8.held;
      elements = has 9 (SpellsVector SpellsElement) [] m.elements (kept 1 os) k9.contents (found 8 9 1 os refl) k9.held;
      bodies = has 10 (SpellsVector SpellsBody) [] m.bodies (kept 1 os) k10.contents (found 9 10 1 os refl) k10.held;
      segments = has 11 (SpellsVector SpellsSegment) [] m.segments (kept 1 os) k11.contents (found 10 11 1 os refl) k11.held;
      counts = counts;
    }
  where
    regroup : (t i f s n g x : List ℕ) → t ++ (i ++ (f ++ (s ++ (n ++ (g ++ x))))) ≡ (t ++ (i ++ (f ++ (s ++ (n ++ g))))) ++ x
    regroup t i f s n g x = simp append_assoc

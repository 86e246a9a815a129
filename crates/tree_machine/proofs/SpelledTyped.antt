-- The expressions of a module that bytes spell are trees of plain instructions, with constants in range.
use Rattle.std.specs.Prelude.{⊤, MatchOption}
use Rattle.std.proofs.Common.{◌≡◌, ◌<◌, ℕ, ◌+◌, ◌-◌, ◌*◌, ◌^◌, ◌==◌, inl, inr, Bool, true, false, cond, if◌then◌else◌, find, All, List, [], ◌∷◌, ◌++◌, Option, Some, None, arith, refl, sym, ◌∙◌, ap, subst, ℤ, pos, ◌+ℤ◌, ◌≤ℤ◌, ◌<ℤ◌}
use Rattle.std.proofs.lemmas.Nat.{pow-add}
use Rattle.std.proofs.lemmas.Int.{ints}
use Rattle.leb_read.specs.Numbers.{SpellsSigned}
use Rattle.wasm_form.specs.Ranges.{IsOctet}
use Rattle.std.proofs.lemmas.List.Elements.{All-nil, All-cons, All-head, All-tail}
use Rattle.std.specs.Int.{cast_unsigned, w32, w64}
use Rattle.wasm_form.specs.declared.instr.Instr.{Instr}
use Rattle.wasm_form.specs.declared.instr.Imm.{Imm}
use Rattle.wasm_form.specs.declared.immediates.Immediates.{Immediates}
use Rattle.wasm_form.specs.declared.immediates.Immediates.TheVariants as kind
use Rattle.wasm_form.specs.declared.sort.Sort.TheVariants as sort
use Rattle.wasm_form.specs.declared.expr.Expr.{Expr}
use Rattle.wasm_form.specs.declared.body.Body.{Body}
use Rattle.wasm_form.specs.declared.parts.GlobalDef.{GlobalDef}
use Rattle.wasm_form.specs.declared.parts.Segment.{Segment}
use Rattle.wasm_form.specs.declared.parts.Parts.{Parts}
use Rattle.wasm_form.specs.Values.{SpellsItems, SpellsVector}
use Rattle.wasm_form.specs.Instructions.{SpellsImmediates, SpellsPlain, fits}
use Rattle.wasm_form.specs.Trees.{Code, Empty, Then, TableOf, BlockOf, LoopOf, IfOf, IfElseOf, SpellsCode, SpellsExpr}
use Rattle.wasm_form.specs.Matching.{sort_at, sort_of, IsPlain}
use Rattle.wasm_form.specs.Sections.{SpellsGlobal, SpellsGlobals, SpellsBody, SpellsBodies, SpellsSegment, SpellsSegments}
use Rattle.wasm_form.specs.Modules.{Section, SpellsSection, preamble, IsSpelled}
use Rattle.tree_machine.specs.Typed.{HasConstant, HasInstrs}
use Rattle.tree_machine.proofs.ModuleTyped.{HasInstrTree}

-- a spelled signed number has so many bits
record HasBits (N : ℕ) (v : ℤ) : Type 0 where
  low : pos 0 ≤ℤ (v +ℤ pos (2 ^ (N - 1)))
  high : v <ℤ pos (2 ^ (N - 1))

has_bits : (N : ℕ) (v : ℤ) (bytes : List ℕ) → 0 < N → SpellsSigned N bytes v → HasBits N v
has_bits N v [] some h = absurd h
has_bits N v (b ∷ []) some h =
    elim h [
      | inl p ↦ record { low = omega (arith, ints, p.1, p.2); high = omega (arith, ints, p.1, p.2) }
      | inr p ↦ record { low = omega (arith, ints, p.1, p.2, p.3); high = omega (arith, ints, p.1, p.2, p.3) }
    ]
has_bits N v (b ∷ c ∷ bytes) some h =
    let above : HasBits (N - 7) h.3 = has_bits (N - 7) h.3 (c ∷ bytes) (omega (arith, h.2)) h.4 in
    let split : 2 ^ ((N - 8) + 7) ≡ 2 ^ (N - 8) * 2 ^ 7 = pow-add 2 (N - 8) 7 in
    let same : 2 ^ ((N - 8) + 7) ≡ 2 ^ (N - 1) = ap (λ k. 2 ^ k) (omega (arith, h.2)) in
    let less : 2 ^ ((N - 7) - 1) ≡ 2 ^ (N - 8) = ap (λ k. 2 ^ k) (omega (arith, h.2)) in
    record {
      low = omega (arith, ints, above.low, above.high, split, same, less, h.0, h.1, h.5);
      high = omega (arith, ints, above.low, above.high, split, same, less, h.0, h.1, h.5);
    }

i32_below : (v : ℤ) (bytes : List ℕ) → SpellsSigned 32 bytes v → cast_unsigned w32 v < 2 ^ 32
i32_below v bytes h = let is : HasBits 32 v = has_bits 32 v bytes (omega arith) h in omega (arith, ints, is.low, is.high)

i64_below : (v : ℤ) (bytes : List ℕ) → SpellsSigned 64 bytes v → cast_unsigned w64 v < 2 ^ 64
i64_below v bytes h = let is : HasBits 64 v = has_bits 64 v bytes (omega arith) h in omega (arith, ints, is.low, is.high)

-- immediates of their kind, with a constant in range
abbrev IsFit : Immediates → Imm → Type 0
IsFit k j = (fits k j ≡ true) × HasConstant j

fit_spelled : (k : Immediates) (bytes : List ℕ) (j : Imm) → SpellsImmediates k bytes j → IsFit k j
fit_spelled kind.Bare bytes j (none, e) = subst (IsFit kind.Bare) (sym e) (refl, tt)
fit_spelled kind.Index bytes j (n, spelled, e) = subst (IsFit kind.Index) (sym e) (refl, tt)
fit_spelled kind.TypeAndZero bytes j (number, n, spelled, whole, e) = subst (IsFit kind.TypeAndZero) (sym e) (refl, tt)
fit_spelled kind.Zero bytes j (whole, e) = subst (IsFit kind.Zero) (sym e) (refl, tt)
fit_spelled kind.Memory bytes j (align, offset, a, o, spells_a, spells_o, whole, e) = subst (IsFit kind.Memory) (sym e) (refl, tt)
fit_spelled kind.S32 bytes j (n, spelled, e) = subst (IsFit kind.S32) (sym e) (refl, i32_below n bytes spelled)
fit_spelled kind.S64 bytes j (n, spelled, e) = subst (IsFit kind.S64) (sym e) (refl, i64_below n bytes spelled)
fit_spelled kind.F32 bytes j (count, e) = subst (IsFit kind.F32) (sym e) (refl, tt)
fit_spelled kind.F64 bytes j (count, e) = subst (IsFit kind.F64) (sym e) (refl, tt)

spelled_plain : (bytes : List ℕ) (i : Instr) → SpellsPlain bytes i → IsPlain i × HasConstant i.imm
unfolding sort_of
spelled_plain bytes i (k, immediates, known, spelled, whole) =
    let fit = fit_spelled k immediates i.imm spelled in (
      ap (λ (o : Option Immediates). sort_at o i.code i.imm) known
          ∙ ap (λ (b : Bool). if b then Some sort.Plain else None) fit.0,
      fit.1,
    )

spelled_instrs : (tree : Code) (bytes : List ℕ) → SpellsCode bytes tree → HasInstrs tree
spelled_instrs Empty bytes h = tt
spelled_instrs (Then i rest) bytes (first, more, one, others, whole) =
    let plain = spelled_plain first i one in (plain.0, plain.1, spelled_instrs rest more others)
spelled_instrs (TableOf labels last rest) bytes (first, more, one, others, whole) = spelled_instrs rest more others
spelled_instrs (BlockOf result inside rest) bytes (ty, inner, more, ty_spelled, one, others, whole) =
    (spelled_instrs inside inner one, spelled_instrs rest more others)
spelled_instrs (LoopOf result inside rest) bytes (ty, inner, more, ty_spelled, one, others, whole) =
    (spelled_instrs inside inner one, spelled_instrs rest more others)
spelled_instrs (IfOf result inside rest) bytes (ty, inner, more, ty_spelled, one, others, whole) =
    (spelled_instrs inside inner one, spelled_instrs rest more others)
spelled_instrs (IfElseOf result inside other rest) bytes (ty, inner, second, more, ty_spelled, one, two, others, whole) =
    (spelled_instrs inside inner one, spelled_instrs other second two, spelled_instrs rest more others)

expr_spelled : (bytes : List ℕ) (e : Expr) → SpellsExpr bytes e → HasInstrTree e
expr_spelled bytes e (tree, code, spelled, whole, is) = (tree, spelled_instrs tree code spelled, is)

all_left : {X : Type 0} (P : X → Type 0) (xs ys : List X) → All P (xs ++ ys) → All P xs
all_left P [] ys h = All-nil P
all_left P (x ∷ xs) ys h = All-cons P x xs (All-head P x (xs ++ ys) h) (all_left P xs ys (All-tail P x (xs ++ ys) h))

all_right : {X : Type 0} (P : X → Type 0) (xs ys : List X) → All P (xs ++ ys) → All P ys
all_right P [] ys h = h
all_right P (x ∷ xs) ys h = all_right P xs ys (All-tail P x (xs ++ ys) h)

-- bytes that are spelled one after another, where all are bytes
each_item : {A : Type 0} (S : List ℕ → A → Type 0) (P : A → Type 0) → ((bytes : List ℕ) (x : A) → All IsOctet bytes → S bytes x → P x) →
    (xs : List A) (bytes : List ℕ) → All IsOctet bytes → SpellsItems S bytes xs → All P xs
each_item S P one [] bytes octets h = All-nil P
each_item S P one (x ∷ xs) bytes octets (first, rest, here, others, whole) =
    let both : All IsOctet (first ++ rest) = subst (All IsOctet) whole octets in
    All-cons P x xs (one first x (all_left IsOctet first rest both) here) (each_item S P one xs rest (all_right IsOctet first rest both) others)

each_of : {A : Type 0} (S : List ℕ → A → Type 0) (P : A → Type 0) → ((bytes : List ℕ) (x : A) → All IsOctet bytes → S bytes x → P x) →
    (xs : List A) (bytes : List ℕ) → All IsOctet bytes → SpellsVector S bytes xs → All P xs
each_of S P one xs bytes octets (count, items, counted, spelled, whole) =
    each_item S P one xs items (all_right IsOctet count items (subst (All IsOctet) whole octets)) spelled

found_first : (b : Bool) (s : Section) (o : Option Section) → All IsOctet s.contents → MatchOption o ⊤ (λ s. All IsOctet s.contents) →
    MatchOption (cond b (Some s) o) ⊤ (λ s. All IsOctet s.contents)
found_first true s o here h = here
found_first false s o here h = h

-- the contents of a section that is found
found_octets : (test : Section → Bool) (sections : List Section) → All (λ (s : Section). All IsOctet s.contents) sections → (o : Option Section) →
    find test sections ≡ o → MatchOption o ⊤ (λ s. All IsOctet s.contents)
found_octets test [] each o e = subst (λ (o : Option Section). MatchOption o ⊤ (λ s. All IsOctet s.contents)) e tt
found_octets test (s ∷ sections) each o e =
    subst (λ (o : Option Section). MatchOption o ⊤ (λ s. All IsOctet s.contents)) e
    (found_first (test s) s (find test sections) (All-head (λ (s : Section). All IsOctet s.contents) s sections each)
    (found_octets test sections (All-tail (λ (s : Section). All IsOctet s.contents) s sections each) (find test sections) refl))

-- what a section holds, or nothing where there is none
each_part : {A : Type 0} (S : List ℕ → A → Type 0) (P : A → Type 0) → ((bytes : List ℕ) (x : A) → All IsOctet bytes → S bytes x → P x) →
    (o : Option Section) → MatchOption o ⊤ (λ s. All IsOctet s.contents) → (absent x : A) → P absent → MatchOption o (x ≡ absent) (λ s. S s.contents x) → P x
each_part S P one None octets absent x h e = subst P (sym e) h
each_part S P one (Some s) octets absent x h e = one s.contents x octets e

section_octets : (bytes : List ℕ) (s : Section) → All IsOctet bytes → SpellsSection bytes s → All IsOctet s.contents
section_octets bytes s octets (size, size_spelled, whole) =
    all_right IsOctet size s.contents (All-tail IsOctet s.id (size ++ s.contents) (subst (All IsOctet) whole octets))

-- each section of a module holds bytes
sections_octets : (m : Parts) (is : IsSpelled m) → All (λ (s : Section). All IsOctet s.contents) is.spelled.sections
sections_octets m is =
    each_item SpellsSection (λ (s : Section). All IsOctet s.contents) section_octets is.spelled.sections is.spelled.after
    (all_right IsOctet preamble is.spelled.after (subst (All IsOctet) is.spelled.whole is.octets)) is.spelled.spelled

part_octets : (m : Parts) (is : IsSpelled m) (id : ℕ) →
    MatchOption (find (λ s. s.id == id) is.spelled.sections) ⊤ (λ s. All IsOctet s.contents)
part_octets m is id = found_octets (λ s. s.id == id) is.spelled.sections (sections_octets m is) _ refl

body_spelled : (bytes : List ℕ) (body : Body) → All IsOctet bytes → SpellsBody bytes body → HasInstrTree body.expr
body_spelled bytes body octets (size, contents, size_spelled, (locals, expr, locals_spelled, expr_is, few, function_whole), whole) =
    expr_spelled expr body.expr expr_is

global_spelled : (bytes : List ℕ) (g : GlobalDef) → All IsOctet bytes → SpellsGlobal bytes g → HasInstrTree g.init
global_spelled bytes g octets (ty, init, ty_spelled, init_is, whole) = expr_spelled init g.init init_is

segment_spelled : (bytes : List ℕ) (s : Segment) → All IsOctet bytes → SpellsSegment bytes s → All IsOctet s.bytes
segment_spelled bytes s octets (memory, offset, content, memory_is, offset_is, (count, count_is, content_whole), whole) =
    let all : All IsOctet (memory ++ (offset ++ content)) = subst (All IsOctet) whole octets in
    all_right IsOctet count s.bytes
    (subst (All IsOctet) content_whole (all_right IsOctet offset content (all_right IsOctet memory (offset ++ content) all)))

-- the bodies
pub bodies_spelled : (m : Parts) → IsSpelled m → All (λ (body : Body). HasInstrTree body.expr) m.bodies
bodies_spelled m is =
    each_part SpellsBodies (λ (bodies : List Body). All (λ (body : Body). HasInstrTree body.expr) bodies)
    (λ bytes bodies octets h. each_of SpellsBody (λ (body : Body). HasInstrTree body.expr) body_spelled bodies bytes octets h)
    _ (part_octets m is 10) [] m.bodies (All-nil (λ (body : Body). HasInstrTree body.expr)) is.spelled.bodies

-- the expressions of the globals
pub globals_spelled : (m : Parts) → IsSpelled m → All (λ (g : GlobalDef). HasInstrTree g.init) m.globals
globals_spelled m is =
    each_part SpellsGlobals (λ (globals : List GlobalDef). All (λ (g : GlobalDef). HasInstrTree g.init) globals)
    (λ bytes globals octets h. each_of SpellsGlobal (λ (g : GlobalDef). HasInstrTree g.init) global_spelled globals bytes octets h)
    _ (part_octets m is 6) [] m.globals (All-nil (λ (g : GlobalDef). HasInstrTree g.init)) is.spelled.globals

-- the bytes of the data segments
pub segments_spelled : (m : Parts) → IsSpelled m → All (λ (s : Segment). All IsOctet s.bytes) m.segments
segments_spelled m is =
    each_part SpellsSegments (λ (segments : List Segment). All (λ (s : Segment). All IsOctet s.bytes) segments)
    (λ bytes segments octets h. each_of SpellsSegment (λ (s : Segment). All IsOctet s.bytes) segment_spelled segments bytes octets h)
    _ (part_octets m is 11) [] m.segments (All-nil (λ (s : Segment). All IsOctet s.bytes)) is.spelled.segments

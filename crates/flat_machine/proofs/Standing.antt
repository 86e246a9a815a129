-- What is to come in the innermost list, by the instruction at the place.
use Rattle.std.proofs.Common.{◌≡◌, ◌⊎◌, ℕ, ◌+◌, List, [], ◌∷◌, length, slice_get, Option, Some, None, arith, refl, sym, ◌∙◌, ap, subst, inl, inr}
use Rattle.std.proofs.lemmas.Option.{slice_get_within}
use Rattle.wasm_form.specs.declared.value_type.ValType.{ValType}
use Rattle.wasm_form.specs.declared.body.Body.{Body}
use Rattle.wasm_form.specs.declared.expr.Expr.{Expr}
use Rattle.wasm_form.specs.declared.instr.Instr.{Instr}
use Rattle.wasm_form.specs.declared.parts.Parts.{Parts}
use Rattle.wasm_form.specs.Trees.{Code, Empty, Then, TableOf, BlockOf, LoopOf, IfOf, IfElseOf, else_instr, end_instr, block_instr, loop_instr, if_instr, table_instr, size}
use Rattle.tree_machine.specs.Instructions.{Plain, plain_of}
use Rattle.tree_machine.specs.Config.{Cont}
use Rattle.flat_machine.specs.Flat.{Place}
use Rattle.flat_machine.specs.Text.{IsAt, StandsAt, ListStands, ListsStand}
use Rattle.flat_machine.specs.Tells.{LeftStands, IsInstrAt}

pub same_some : {A : Type 0} (o : Option A) (a b : A) → o ≡ Some a → o ≡ Some b → a ≡ b
same_some o a b e f = cc

-- the instruction with which what is left of a list begins; where none is left, the one that closes it
abbrev pub BeginsWith : Instr → Code → Type 0
BeginsWith i Empty = (i ≡ end_instr) ⊎ (i ≡ else_instr)
BeginsWith i (Then j rest) = i ≡ j
BeginsWith i (TableOf labels last rest) = (first : ℕ) × (i ≡ table_instr first (length labels) last)
BeginsWith i (BlockOf result inside rest) = i ≡ block_instr result
BeginsWith i (LoopOf result inside rest) = i ≡ loop_instr result
BeginsWith i (IfOf result inside rest) = i ≡ if_instr result
BeginsWith i (IfElseOf result inside other rest) = i ≡ if_instr result

closes : (e : Expr) (pc stop : ℕ) (i j : Instr) → stop ≡ pc + 0 → IsAt e pc i → IsAt e stop j → i ≡ j
closes e pc stop i j place at there =
    let same : stop ≡ pc = omega arith in
    same_some (slice_get e.code pc) i j at (ap (λ (n : ℕ). slice_get e.code n) (sym same) ∙ there)

pub code_begins : (e : Expr) (pc after : ℕ) (i : Instr) (k : Cont) (around : List Cont) (code : Code) → k.rest ≡ code → IsAt e pc i →
    ListStands e pc after k around → BeginsWith i code
code_begins e pc after i k around Empty is at list =
    let place : list.stop ≡ pc + 0 = list.stops ∙ ap (λ (c : Code). pc + size c) is in
    elim list.ends as (λ w. BeginsWith i Empty) [
      | inl closed ↦ inl (closes e pc list.stop i end_instr place at closed.0)
      | inr other ↦ inr (closes e pc list.stop i else_instr place at other.1)
    ]
code_begins e pc after i k around (Then j rest) is at list =
    let stands : StandsAt e pc (Then j rest) = subst (λ (c : Code). StandsAt e pc c) is list.stands in same_some (slice_get e.code pc) i j at stands.0
code_begins e pc after i k around (TableOf labels last rest) is at list =
    let stands : StandsAt e pc (TableOf labels last rest) = subst (λ (c : Code). StandsAt e pc c) is list.stands in
    (stands.0.0, same_some (slice_get e.code pc) i (table_instr stands.0.0 (length labels) last) at stands.0.1)
code_begins e pc after i k around (BlockOf result inside rest) is at list =
    let stands : StandsAt e pc (BlockOf result inside rest) = subst (λ (c : Code). StandsAt e pc c) is list.stands in
    same_some (slice_get e.code pc) i (block_instr result) at stands.0
code_begins e pc after i k around (LoopOf result inside rest) is at list =
    let stands : StandsAt e pc (LoopOf result inside rest) = subst (λ (c : Code). StandsAt e pc c) is list.stands in
    same_some (slice_get e.code pc) i (loop_instr result) at stands.0
code_begins e pc after i k around (IfOf result inside rest) is at list =
    let stands : StandsAt e pc (IfOf result inside rest) = subst (λ (c : Code). StandsAt e pc c) is list.stands in
    same_some (slice_get e.code pc) i (if_instr result) at stands.0
code_begins e pc after i k around (IfElseOf result inside other rest) is at list =
    let stands : StandsAt e pc (IfElseOf result inside other rest) = subst (λ (c : Code). StandsAt e pc c) is list.stands in
    same_some (slice_get e.code pc) i (if_instr result) at stands.0

-- the innermost list, where there is an instruction at the place
pub record Innermost (m : Parts) (place : Place) (i : Instr) (ks : List Cont) : Type 0 where
  pub k : Cont
  pub around : List Cont
  pub is : ks ≡ k ∷ around
  pub body : Body
  pub body_is : slice_get m.bodies place.body ≡ Some body
  pub after : ℕ
  pub afters : List ℕ
  pub list : ListStands body.expr place.pc after k around
  pub outer : ListsStand body.expr after afters around
  pub begins : BeginsWith i k.rest

innermost_in : (m : Parts) (place : Place) (i : Instr) (body : Body) (afters : List ℕ) (ks : List Cont) → slice_get m.bodies place.body ≡ Some body →
    IsAt body.expr place.pc i → ListsStand body.expr place.pc afters ks → Innermost m place i ks
innermost_in m place i body [] [] is at lists = let past = slice_get_within body.expr.code place.pc i at in absurd (omega (arith, lists, past))
innermost_in m place i body [] (k ∷ ks) is at lists = absurd lists
innermost_in m place i body (after ∷ afters) [] is at lists = absurd lists
innermost_in m place i body (after ∷ afters) (k ∷ ks) is at lists = record {
  k = k;
  around = ks;
  is = refl;
  body = body;
  body_is = is;
  after = after;
  afters = afters;
  list = lists.0;
  outer = lists.1;
  begins = code_begins body.expr place.pc after i k ks k.rest refl at lists.0;
}

pub innermost : (m : Parts) (place : Place) (i : Instr) (ks : List Cont) → IsInstrAt m place i → LeftStands m place ks → Innermost m place i ks
innermost m place i ks at left =
    let same : at.0 ≡ left.body = same_some (slice_get m.bodies place.body) at.0 left.body at.1 left.is in
    innermost_in m place i left.body left.afters ks left.is (subst (λ (b : Body). IsAt b.expr place.pc i) same at.2) left.lists

-- no plain instruction has the code of an end, an else, a br_table or the beginning of a list
end_none : plain_of end_instr ≡ None
unfolding plain_of
end_none = refl

else_none : plain_of else_instr ≡ None
unfolding plain_of
else_none = refl

table_none : (first count last : ℕ) → plain_of (table_instr first count last) ≡ None
unfolding plain_of
table_none first count last = refl

block_none : (result : Option ValType) → plain_of (block_instr result) ≡ None
unfolding plain_of
block_none result = refl

loop_none : (result : Option ValType) → plain_of (loop_instr result) ≡ None
unfolding plain_of
loop_none result = refl

if_none : (result : Option ValType) → plain_of (if_instr result) ≡ None
unfolding plain_of
if_none result = refl

not_plain : (i j : Instr) (p : Plain) → plain_of i ≡ Some p → i ≡ j → plain_of j ≡ None → ⊥
not_plain i j p is e none = let same : Some p ≡ None = sym is ∙ ap plain_of e ∙ none in absurd (cc)

-- a plain instruction stands by itself
pub plain_comes : (i : Instr) (p : Plain) (code : Code) → plain_of i ≡ Some p → BeginsWith i code → (rest : Code) × (code ≡ Then i rest)
plain_comes i p Empty is (inl e) = absurd (not_plain i end_instr p is e end_none)
plain_comes i p Empty is (inr e) = absurd (not_plain i else_instr p is e else_none)
plain_comes i p (Then j rest) is e = (rest, ap (λ (x : Instr). Then x rest) (sym e))
plain_comes i p (TableOf labels last rest) is (first, e) =
    absurd (not_plain i (table_instr first (length labels) last) p is e (table_none first (length labels) last))
plain_comes i p (BlockOf result inside rest) is e = absurd (not_plain i (block_instr result) p is e (block_none result))
plain_comes i p (LoopOf result inside rest) is e = absurd (not_plain i (loop_instr result) p is e (loop_none result))
plain_comes i p (IfOf result inside rest) is e = absurd (not_plain i (if_instr result) p is e (if_none result))
plain_comes i p (IfElseOf result inside other rest) is e = absurd (not_plain i (if_instr result) p is e (if_none result))

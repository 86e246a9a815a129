-- A function of a module by its index, its type and its body.
use Rattle.std.proofs.Common.{◌≡◌, ℕ, zero, suc, ◌<◌, ◌≤◌, ◌^◌, List, [], ◌∷◌, length, reverse, get_or, Option, Some, None, Bool, true, cond, refl, sym, ap, subst, ◌∙◌, arith}
use Rattle.std.specs.Prelude.{slice_get, find, MatchOption, ◌==◌}
use Rattle.std.proofs.lemmas.Option.{slice_get_within, get_or_from_slice_get}
use Rattle.wasm_form.specs.declared.value_type.ValType.{ValType}
use Rattle.wasm_form.specs.declared.types.FuncType.{FuncType}
use Rattle.wasm_form.specs.declared.instr.Instr.{Instr}
use Rattle.wasm_form.specs.declared.instr.Imm.{Imm}
use Rattle.wasm_form.specs.declared.immediates.Immediates.{Immediates}
use Rattle.wasm_form.specs.declared.immediates.Immediates.TheVariants as kind
use Rattle.wasm_form.specs.declared.sort.Sort.TheVariants as sort
use Rattle.wasm_form.specs.declared.body.Body.{Body}
use Rattle.wasm_form.specs.declared.parts.Parts.{Parts}
use Rattle.wasm_form.specs.Values.{SpellsItems}
use Rattle.wasm_form.specs.Instructions.{SpellsImmediates, SpellsPlain, fits}
use Rattle.wasm_form.specs.Trees.{Code, Empty, Then, TableOf, BlockOf, LoopOf, IfOf, IfElseOf, SpellsCode, IsFlat}
use Rattle.wasm_form.specs.Matching.{sort_of, sort_at, IsPlain, HasPlain}
use Rattle.wasm_form.specs.Sections.{SpellsBody, SpellsBodies}
use Rattle.wasm_form.specs.Modules.{Section, IsSpelled, HasPart}
use Rattle.wasm_form.specs.Context.{context_of}
use Rattle.wasm_form.specs.Typing.{Types}
use Rattle.wasm_form.specs.Start.{start_parts}
use Rattle.wasm_form.specs.Validity.{HasSingleResults, IsValidFunction}
use Rattle.body_validator.specs.Locals.{count_of}

spelled_fits : (k : Immediates) (s : List ℕ) (i : Imm) → SpellsImmediates k s i → fits k i ≡ true
spelled_fits kind.Bare s i h = ap (fits kind.Bare) h.1
spelled_fits kind.Index s i h = ap (fits kind.Index) h.2
spelled_fits kind.TypeAndZero s i h = ap (fits kind.TypeAndZero) h.4
spelled_fits kind.Zero s i h = ap (fits kind.Zero) h.1
spelled_fits kind.Memory s i h = ap (fits kind.Memory) h.7
spelled_fits kind.S32 s i h = ap (fits kind.S32) h.2
spelled_fits kind.S64 s i h = ap (fits kind.S64) h.2
spelled_fits kind.F32 s i h = ap (fits kind.F32) h.1
spelled_fits kind.F64 s i h = ap (fits kind.F64) h.1

spelled_plain : (s : List ℕ) (i : Instr) → SpellsPlain s i → IsPlain i
unfolding sort_of
spelled_plain s i h =
    ap (λ o. sort_at o i.code i.imm) h.2 ∙ ap (λ (b : Bool). cond b (Some sort.Plain) None) (spelled_fits h.0 h.1 i.imm h.3)

has_plain : (c : Code) (s : List ℕ) → SpellsCode s c → HasPlain c
has_plain Empty s h = tt
has_plain (Then i rest) s h = (spelled_plain h.0 i h.2, has_plain rest h.1 h.3)
has_plain (TableOf labels last rest) s h = has_plain rest h.1 h.3
has_plain (BlockOf r a b) s h = (has_plain a h.1 h.4, has_plain b h.2 h.5)
has_plain (LoopOf r a b) s h = (has_plain a h.1 h.4, has_plain b h.2 h.5)
has_plain (IfOf r a b) s h = (has_plain a h.1 h.4, has_plain b h.2 h.5)
has_plain (IfElseOf r a d b) s h = (has_plain a h.1 h.5, has_plain d h.2 h.6, has_plain b h.3 h.7)

-- an item of a spelled list is spelled
item_spelled : {A : Type 0} (S : List ℕ → A → Type 0) (xs : List A) (bytes : List ℕ) (k : ℕ) (x : A) → SpellsItems S bytes xs → slice_get xs k ≡ Some x → (some : List ℕ) × S some x
item_spelled S [] bytes k x h e = absurd (cc e)
item_spelled S (y ∷ ys) bytes zero x h e = let f : y ≡ x = cc in (h.0, subst (λ z. S h.0 z) f h.2)
item_spelled S (y ∷ ys) bytes (suc k) x h e = item_spelled S ys h.1 k x h.3 e

bodies_spelled : (sections : List Section) (bodies : List Body) (k : ℕ) (body : Body) → HasPart 10 SpellsBodies [] sections bodies → slice_get bodies k ≡ Some body → (some : List ℕ) × SpellsBody some body
bodies_spelled sections bodies k body h e = at (find (λ (s : Section). s.id == 10) sections) h
  where
    at : (o : Option Section) → MatchOption o (bodies ≡ []) (λ s. SpellsBodies s.contents bodies) → (some : List ℕ) × SpellsBody some body
    at None none = let f : None ≡ Some body = sym (ap (λ l. slice_get l k) none) ∙ e in absurd (cc f)
    at (Some s) h = item_spelled SpellsBody bodies h.1 k body h.3 e

-- a body of a module that is spelled: few locals, and a tree
pub body_spelled : (m : Parts) (k : ℕ) (body : Body) → IsSpelled m → slice_get m.bodies k ≡ Some body
    → (count_of body.locals < 2 ^ 32) × ((tree : Code) × HasPlain tree × IsFlat body.expr tree)
body_spelled m k body h e =
    let b = bodies_spelled h.spelled.sections m.bodies k body h.spelled.bodies e in
    let f = b.1.3 in
    let t = f.3 in
    (f.4, (t.0, has_plain t.0 t.1 t.2, t.4))

-- a type has at most one result
pub single_results : (m : Parts) (index : ℕ) (ty : FuncType) → HasSingleResults m → slice_get m.types index ≡ Some ty → length ty.results ≤ 1
single_results m index ty h e =
    subst (λ (t : FuncType). length t.results ≤ 1) (get_or_from_slice_get m.types index ty ty e) (h index ty (slice_get_within m.types index ty e))

turned : (xs : List ValType) → length xs ≤ 1 → reverse xs ≡ xs
turned [] h = refl
turned (x ∷ []) h = refl
turned (x ∷ y ∷ xs) h = absurd (omega arith)

same_some : {A : Type 0} (o : Option A) (x y : A) → o ≡ Some x → o ≡ Some y → x ≡ y
same_some o x y e f = let g : Some x ≡ Some y = sym e ∙ f in cc

module _ (m : Parts) (place index : ℕ) (ty : FuncType) (body : Body) (has_index : slice_get m.functions place ≡ Some index) (has_type : slice_get m.types index ≡ Some ty) (has_body : slice_get m.bodies place ≡ Some body) where
  pub valid : HasSingleResults m → IsSpelled m → ((tree : Code) → HasPlain tree → IsFlat body.expr tree → Types (context_of m ty body.locals) tree [] ty.results) → IsValidFunction m place
  valid single spelled typed =
      let t = (body_spelled m place body spelled has_body).1 in
      record {
        index = index;
        ty = ty;
        body = body;
        has_index = has_index;
        has_type = has_type;
        has_body = has_body;
        typed = (t.0, t.1, t.2, subst (λ r. Types (context_of m ty body.locals) t.0 [] r) (sym (turned ty.results (single_results m index ty single has_type))) (typed t.0 t.1 t.2));
      }

  pub not_valid : HasSingleResults m → ((tree : Code) → HasPlain tree → IsFlat body.expr tree → ¬ Types (context_of m ty body.locals) tree [] ty.results) → ¬ IsValidFunction m place
  not_valid single untyped v =
      let i : v.index ≡ index = same_some (slice_get m.functions place) v.index index v.has_index has_index in
      let t : v.ty ≡ ty = same_some (slice_get m.types index) v.ty ty (subst (λ k. slice_get m.types k ≡ Some v.ty) i v.has_type) has_type in
      let b : v.body ≡ body = same_some (slice_get m.bodies place) v.body body v.has_body has_body in
      let w = v.typed in
      let flat : IsFlat body.expr w.0 = subst (λ (x : Body). IsFlat x.expr w.0) b w.2 in
      let typed : Types (context_of m ty body.locals) w.0 [] (reverse ty.results) =
      subst (λ (x : Body). Types (context_of m ty x.locals) w.0 [] (reverse ty.results)) b (subst (λ (x : FuncType). Types (context_of m x v.body.locals) w.0 [] (reverse x.results)) t w.3)
      in
      untyped w.0 w.1 flat (subst (λ r. Types (context_of m ty body.locals) w.0 [] r) (turned ty.results (single_results m index ty single has_type)) typed)

-- a function whose index, type or body isn't there
pub no_index : (m : Parts) (place : ℕ) → slice_get m.functions place ≡ None → ¬ IsValidFunction m place
no_index m place e v = let f : None ≡ Some v.index = sym e ∙ v.has_index in absurd (cc f)

pub no_type : (m : Parts) (place index : ℕ) → slice_get m.functions place ≡ Some index → slice_get m.types index ≡ None → ¬ IsValidFunction m place
no_type m place index h e v =
    let i : v.index ≡ index = same_some (slice_get m.functions place) v.index index v.has_index h in
    let f : None ≡ Some v.ty = sym e ∙ subst (λ k. slice_get m.types k ≡ Some v.ty) i v.has_type in
    absurd (cc f)

pub no_body : (m : Parts) (place : ℕ) → slice_get m.bodies place ≡ None → ¬ IsValidFunction m place
no_body m place e v = let f : None ≡ Some v.body = sym e ∙ v.has_body in absurd (cc f)

-- the type of the one function of `start_parts` gives nothing
pub start_single : (m : Parts) (code : List Instr) → m ≡ start_parts code → HasSingleResults m
start_single m code e k d within =
    let types : List FuncType = (start_parts code).types in
    let h : k < length types = subst (λ (p : Parts). k < length p.types) e within in
    let first : k ≡ 0 = omega arith in
    subst (λ (p : Parts). length (get_or p.types k d).results ≤ 1) (sym e)
    (subst (λ i. length (get_or types i d).results ≤ 1) (sym first) (omega arith))

-- The one type of each instruction that goes on, and which have none.
use Rattle.std.proofs.Common.{Bor, ◌≡◌, ℕ, ◌≤◌, ◌^◌, ◌⊎◌, inl, inr, List, [], ◌∷◌, ◌++◌, Option, Some, None, Bool, true, false, refl, sym, ap, subst, ◌∙◌, arith}
use Rattle.std.specs.Prelude.{slice_get, option_map, option_to_list, option_copied, map}
use Rattle.std.proofs.lemmas.Option.{slice_get-map}
use Rattle.body_validator.specs.declared.frame.Frame.{Frame}
use Rattle.body_validator.specs.Frames.{carried_by, labels_of}
use Rattle.wasm_ops.specs.declared.num.Num.{Num}
use Rattle.wasm_ops.specs.declared.instruction.Kind.TheVariants as kinds
use Rattle.wasm_ops.specs.declared.instruction.Row.{Row}
use Rattle.wasm_ops.specs.Table.{IsRowOf, kind_of, width_of, first_of, second_of, result_of}
use Rattle.wasm_form.specs.declared.value_type.ValType.{ValType}
use Rattle.wasm_form.specs.declared.value_type.ValType.TheVariants.{I32}
use Rattle.wasm_form.specs.declared.types.FuncType.{FuncType}
use Rattle.wasm_form.specs.declared.types.GlobalType.{GlobalType}
use Rattle.wasm_form.specs.declared.instr.Instr.{Instr}
use Rattle.wasm_form.specs.declared.instr.Imm.TheVariants as imm
use Rattle.wasm_form.specs.Context.{Context, HasTable, HasMemory}
use Rattle.wasm_form.specs.Typing.{arrow, value_type, listed_type, IsConstant, Leaves, HasType, Numeric, Local, Global, Access, MemorySize, Nop, BranchIf, Call, CallIndirect}
use Rattle.body_validator.specs.declared.rule.Rule.{Rule}
use Rattle.body_validator.specs.declared.rule.Rule.TheVariants as rules
use Rattle.body_validator.specs.Rules.{rule_of}
use Rattle.body_validator.proofs.Codes.{operation_kind, access_kind}
use Rattle.body_validator.proofs.Rules.{HasBy, has, leaves, HasOnly, HasNone}

-- what a look-up finds
pub found : {A : Type 0} (xs ys : List A) (k : ℕ) (o : Option A) (x : A) → xs ≡ ys → o ≡ slice_get ys k → o ≡ Some x → slice_get xs k ≡ Some x
found xs ys k o x e f g = ap (λ l. slice_get l k) e ∙ sym f ∙ g

pub missing : {A : Type 0} (xs ys : List A) (k : ℕ) (o : Option A) → xs ≡ ys → o ≡ slice_get ys k → o ≡ None → slice_get xs k ≡ None
missing xs ys k o e f g = ap (λ l. slice_get l k) e ∙ sym f ∙ g

-- what is copied
pub copied_some : {A : Type 0} (o : Option (Bor A)) (r : Option A) (x : Bor A) → o ≡ Some x → option_copied o ≡ r → r ≡ Some x.now
copied_some o r x e f = sym f ∙ ap option_copied e

pub copied_none : {A : Type 0} (o : Option (Bor A)) (r : Option A) → o ≡ None → option_copied o ≡ r → r ≡ None
copied_none o r e f = sym f ∙ ap option_copied e

-- what the label carries that a look-up finds
pub label_is : (frames : List Frame) (labels : List (List ValType)) (k : ℕ) (o : Option (Option ValType)) (carried : Option ValType) → labels ≡ labels_of frames → o ≡ slice_get (map carried_by frames) k → o ≡ Some carried
    → slice_get labels k ≡ Some (option_to_list carried)
label_is frames labels k o carried e f g =
    let listed : Option ValType → List ValType = λ x. option_to_list x in
    ap (λ l. slice_get l k) e ∙ slice_get-map listed (map carried_by frames) k ∙ ap (option_map listed) (sym f ∙ g)

pub label_none : (frames : List Frame) (labels : List (List ValType)) (k : ℕ) (o : Option (Option ValType)) → labels ≡ labels_of frames → o ≡ slice_get (map carried_by frames) k → o ≡ None
    → slice_get labels k ≡ None
label_none frames labels k o e f g =
    let listed : Option ValType → List ValType = λ x. option_to_list x in
    ap (λ l. slice_get l k) e ∙ slice_get-map listed (map carried_by frames) k ∙ ap (option_map listed) (sym f ∙ g)

one_listed : (a b : Option ValType) → option_to_list a ≡ option_to_list b → a ≡ b
one_listed None None e = refl
one_listed None (Some t) e = absurd (cc e)
one_listed (Some t) None e = absurd (cc e)
one_listed (Some t) (Some u) e = let f : t ≡ u = cc in ap Some f

-- a label that carries the same is found as the same
pub found_same : (frames : List Frame) (labels : List (List ValType)) (k : ℕ) (o : Option (Option ValType)) (carried : Option ValType) → labels ≡ labels_of frames → o ≡ slice_get (map carried_by frames) k
    → slice_get labels k ≡ Some (option_to_list carried) → o ≡ Some carried
found_same frames labels k o carried e f g = at o (label_map o e f)
  where
    label_map : (p : Option (Option ValType)) → labels ≡ labels_of frames → p ≡ slice_get (map carried_by frames) k → slice_get labels k ≡ option_map (λ x. option_to_list x) p
    label_map p e f = let listed : Option ValType → List ValType = λ x. option_to_list x in ap (λ l. slice_get l k) e ∙ slice_get-map listed (map carried_by frames) k ∙ ap (option_map listed) (sym f)

    at : (p : Option (Option ValType)) → slice_get labels k ≡ option_map (λ x. option_to_list x) p → p ≡ Some carried
    at None q = let h : None ≡ Some (option_to_list carried) = sym q ∙ g in absurd (cc h)
    at (Some x) q = let h : Some (option_to_list x) ≡ Some (option_to_list carried) = sym q ∙ g in let j : option_to_list x ≡ option_to_list carried = cc in ap Some (one_listed x carried j)

-- a type by its lists
pub type_is : (xs ys : List ValType) (ty : FuncType) → xs ≡ ty.params → ys ≡ ty.results → arrow xs ys ≡ ty
type_is xs ys ty e f = ap (λ l. arrow l ys) e ∙ ap (λ l. arrow ty.params l) f

pub indirect_is : (xs ys : List ValType) (ty : FuncType) → xs ≡ ty.params → ys ≡ ty.results → arrow (xs ++ I32 ∷ []) ys ≡ arrow (ty.params ++ I32 ∷ []) ty.results
indirect_is xs ys ty e f = ap (λ l. arrow (l ++ I32 ∷ []) ys) e ∙ ap (λ l. arrow (ty.params ++ I32 ∷ []) l) f

pub branch_if_is : (xs ys carried : List ValType) → xs ≡ carried → ys ≡ carried → arrow (xs ++ I32 ∷ []) ys ≡ arrow (carried ++ I32 ∷ []) carried
branch_if_is xs ys carried e f = ap (λ l. arrow (l ++ I32 ∷ []) ys) e ∙ ap (λ l. arrow (carried ++ I32 ∷ []) l) f

pub only_as : (context : Context) (i : Instr) (t ty : FuncType) → t ≡ ty → HasOnly context i ty → HasOnly context i t
only_as context i t ty e h = subst (λ x. HasOnly context i x) (sym e) h

-- a test is not both true and false
pub not_both : (b : Bool) → b ≡ true → b ≡ false → ⊥
not_both b e f = let g : true ≡ false = sym e ∙ f in absurd (cc g)

pub same_index : (i : Instr) (x y : ℕ) → i.imm ≡ imm.Index x → i.imm ≡ imm.Index y → y ≡ x
same_index i x y a b = let e : imm.Index x ≡ imm.Index y = sym a ∙ b in cc

pub same_found : {A : Type 0} (xs : List A) (x y : ℕ) (v w : A) → slice_get xs x ≡ Some v → slice_get xs y ≡ Some w → y ≡ x → w ≡ v
same_found xs x y v w a b e = let f : Some v ≡ Some w = sym a ∙ ap (λ k. slice_get xs k) (sym e) ∙ b in cc

pub not_found : {A : Type 0} (xs : List A) (x y : ℕ) (w : A) → slice_get xs x ≡ None → slice_get xs y ≡ Some w → y ≡ x → ⊥
not_found xs x y w a b e = let f : None ≡ Some w = sym a ∙ ap (λ k. slice_get xs k) (sym e) ∙ b in absurd (cc f)

goes_on_by : (context : Context) (i : Instr) (r : Rule) → rule_of i.code ≡ r → (r ≡ rules.Leaves → ⊥) → (needs : List ValType) → ¬ Leaves context i needs
goes_on_by context i r e other needs l = other (sym e ∙ leaves context i needs l)

-- an instruction with a rule has one type, where the rule says so
pub only_by : (context : Context) (i : Instr) (ty : FuncType) (r : Rule) → rule_of i.code ≡ r → (r ≡ rules.Leaves → ⊥) → HasType context i ty → ((t : FuncType) → HasBy r context i t → t ≡ ty) → HasOnly context i ty
only_by context i ty r e other h one =
    record {
      has = h;
      one = λ t s. one t (has context i t r e s);
      goes_on = goes_on_by context i r e other;
    }

pub none_by : (context : Context) (i : Instr) (r : Rule) → rule_of i.code ≡ r → (r ≡ rules.Leaves → ⊥) → ((t : FuncType) → ¬ HasBy r context i t) → HasNone context i
none_by context i r e other none =
    record {
      none = λ t s. none t (has context i t r e s);
      goes_on = goes_on_by context i r e other;
    }

-- constants
pub constant_only : (context : Context) (i : Instr) (t : ValType) → rule_of i.code ≡ rules.Constant → IsConstant i t → HasOnly context i (arrow [] (t ∷ []))
constant_only context i t r h = only_by context i (arrow [] (t ∷ [])) rules.Constant r (λ e. cc) (Numeric (inl (t, h, refl))) (λ u s. s.2 ∙ ap (λ v. arrow [] (v ∷ [])) (same s.0 h s.1))
  where
    same : (u : ValType) → IsConstant i t → IsConstant i u → u ≡ t
    same u (inl p) (inl q) = q.1 ∙ sym p.1
    same u (inr p) (inr q) = q.1 ∙ sym p.1
    same u (inl p) (inr q) = absurd (omega (arith, p.0, q.0))
    same u (inr p) (inl q) = absurd (omega (arith, p.0, q.0))

pub constant_none : (context : Context) (i : Instr) → rule_of i.code ≡ rules.Constant → (i.code ≡ 0x41 → ⊥) → (i.code ≡ 0x42 → ⊥) → HasNone context i
constant_none context i r a b = none_by context i rules.Constant r (λ e. cc) (λ t s. never s.0 s.1)
  where
    never : (u : ValType) → IsConstant i u → ⊥
    never u (inl p) = a p.0
    never u (inr p) = b p.0

-- what the table says that an instruction takes and gives
pub listed_is : (code : ℕ) (first second result : Option Num) (xs ys zs : List ValType) → first ≡ first_of code → second ≡ second_of code → result ≡ result_of code
    → xs ≡ option_to_list (option_map value_type first) → ys ≡ option_to_list (option_map value_type second) → zs ≡ option_to_list (option_map value_type result)
    → listed_type code ≡ arrow (xs ++ ys) zs
listed_is code first second result xs ys zs a b c d e f =
    let listed : Option Num → List ValType = λ n. option_to_list (option_map value_type n) in
    sym (ap (λ l. arrow (l ++ ys) zs) (d ∙ ap listed a) ∙ ap (λ l. arrow (listed (first_of code) ++ l) zs) (e ∙ ap listed b)
    ∙ ap (λ l. arrow (listed (first_of code) ++ listed (second_of code)) l) (f ∙ ap listed c))

-- integer operations
pub operation_only : (context : Context) (i : Instr) → rule_of i.code ≡ rules.Operation → kind_of i.code ≡ kinds.Plain → HasOnly context i (listed_type i.code)
operation_only context i r k = only_by context i (listed_type i.code) rules.Operation r (λ e. cc) (Numeric (inr (k, refl))) (λ t s. s)

-- local.get, local.set, local.tee of a variable of type t
abbrev pub LocalForm : Instr → ValType → FuncType → Type 0
LocalForm i t ty =
    ((i.code ≡ 0x20) × (ty ≡ arrow [] (t ∷ []))) ⊎ ((i.code ≡ 0x21) × (ty ≡ arrow (t ∷ []) [])) ⊎ ((i.code ≡ 0x22) × (ty ≡ arrow (t ∷ []) (t ∷ [])))

one_local : (i : Instr) (t : ValType) (ty u : FuncType) → LocalForm i t ty → LocalForm i t u → u ≡ ty
one_local i t ty u (inl p) (inl q) = q.1 ∙ sym p.1
one_local i t ty u (inr (inl p)) (inr (inl q)) = q.1 ∙ sym p.1
one_local i t ty u (inr (inr p)) (inr (inr q)) = q.1 ∙ sym p.1
one_local i t ty u (inl p) (inr (inl q)) = absurd (omega (arith, p.0, q.0))
one_local i t ty u (inl p) (inr (inr q)) = absurd (omega (arith, p.0, q.0))
one_local i t ty u (inr (inl p)) (inl q) = absurd (omega (arith, p.0, q.0))
one_local i t ty u (inr (inl p)) (inr (inr q)) = absurd (omega (arith, p.0, q.0))
one_local i t ty u (inr (inr p)) (inl q) = absurd (omega (arith, p.0, q.0))
one_local i t ty u (inr (inr p)) (inr (inl q)) = absurd (omega (arith, p.0, q.0))

pub local_only : (context : Context) (i : Instr) (x : ℕ) (t : ValType) (ty : FuncType) → rule_of i.code ≡ rules.Local → i.imm ≡ imm.Index x → slice_get context.locals x ≡ Some t → LocalForm i t ty → HasOnly context i ty
local_only context i x t ty r a b f =
    only_by context i ty rules.Local r (λ e. cc) (Local (x, t, a, b, f))
    (λ u s. one_local i t ty u f (subst (λ v. LocalForm i v u) (same_found context.locals x s.0 t s.1 b s.3 (same_index i x s.0 a s.2)) s.4))

pub local_no_index : (context : Context) (i : Instr) → rule_of i.code ≡ rules.Local → ((x : ℕ) → i.imm ≡ imm.Index x → ⊥) → HasNone context i
local_no_index context i r never = none_by context i rules.Local r (λ e. cc) (λ t s. never s.0 s.2)

pub local_missing : (context : Context) (i : Instr) (x : ℕ) → rule_of i.code ≡ rules.Local → i.imm ≡ imm.Index x → slice_get context.locals x ≡ None → HasNone context i
local_missing context i x r a b = none_by context i rules.Local r (λ e. cc) (λ t s. not_found context.locals x s.0 s.1 b s.3 (same_index i x s.0 a s.2))

pub local_other : (context : Context) (i : Instr) → rule_of i.code ≡ rules.Local → (i.code ≡ 0x20 → ⊥) → (i.code ≡ 0x21 → ⊥) → (i.code ≡ 0x22 → ⊥) → HasNone context i
local_other context i r a b d = none_by context i rules.Local r (λ e. cc) (λ t s. never t s.1 s.4)
  where
    never : (u : FuncType) (t : ValType) → LocalForm i t u → ⊥
    never u t (inl p) = a p.0
    never u t (inr (inl p)) = b p.0
    never u t (inr (inr p)) = d p.0

-- global.get, global.set
abbrev pub GlobalForm : Instr → GlobalType → FuncType → Type 0
GlobalForm i g ty = ((i.code ≡ 0x23) × (ty ≡ arrow [] (g.ty ∷ []))) ⊎ ((i.code ≡ 0x24) × (g.mutable ≡ true) × (ty ≡ arrow (g.ty ∷ []) []))

one_global : (i : Instr) (g : GlobalType) (ty u : FuncType) → GlobalForm i g ty → GlobalForm i g u → u ≡ ty
one_global i g ty u (inl p) (inl q) = q.1 ∙ sym p.1
one_global i g ty u (inr p) (inr q) = q.2 ∙ sym p.2
one_global i g ty u (inl p) (inr q) = absurd (omega (arith, p.0, q.0))
one_global i g ty u (inr p) (inl q) = absurd (omega (arith, p.0, q.0))

pub global_only : (context : Context) (i : Instr) (x : ℕ) (g : GlobalType) (ty : FuncType) → rule_of i.code ≡ rules.Global → i.imm ≡ imm.Index x → slice_get context.globals x ≡ Some g → GlobalForm i g ty → HasOnly context i ty
global_only context i x g ty r a b f =
    only_by context i ty rules.Global r (λ e. cc) (Global (x, g, a, b, f))
    (λ u s. one_global i g ty u f (subst (λ v. GlobalForm i v u) (same_found context.globals x s.0 g s.1 b s.3 (same_index i x s.0 a s.2)) s.4))

pub global_no_index : (context : Context) (i : Instr) → rule_of i.code ≡ rules.Global → ((x : ℕ) → i.imm ≡ imm.Index x → ⊥) → HasNone context i
global_no_index context i r never = none_by context i rules.Global r (λ e. cc) (λ t s. never s.0 s.2)

pub global_missing : (context : Context) (i : Instr) (x : ℕ) → rule_of i.code ≡ rules.Global → i.imm ≡ imm.Index x → slice_get context.globals x ≡ None → HasNone context i
global_missing context i x r a b = none_by context i rules.Global r (λ e. cc) (λ t s. not_found context.globals x s.0 s.1 b s.3 (same_index i x s.0 a s.2))

-- a global.set of a constant, or never such instruction
pub global_other : (context : Context) (i : Instr) (x : ℕ) (g : GlobalType) → rule_of i.code ≡ rules.Global → i.imm ≡ imm.Index x → slice_get context.globals x ≡ Some g → (i.code ≡ 0x23 → ⊥) → (i.code ≡ 0x24 → g.mutable ≡ true → ⊥) → HasNone context i
global_other context i x g r a b l m =
    none_by context i rules.Global r (λ e. cc)
    (λ t s. never t (subst (λ v. GlobalForm i v t) (same_found context.globals x s.0 g s.1 b s.3 (same_index i x s.0 a s.2)) s.4))
  where
    never : (u : FuncType) → GlobalForm i g u → ⊥
    never u (inl p) = l p.0
    never u (inr p) = m p.0 p.1

-- a row by its own code
pub own_row : (code : ℕ) (row : Row) → IsRowOf code row → IsRowOf row.code row
own_row code row r = subst (λ c. IsRowOf c row) (sym r.code) r

-- the width that a row of the table has
pub width_fits : (align : ℕ) (row : Row) (code : ℕ) → IsRowOf row.code row → row.code ≡ code → 2 ^ align ≤ row.width → 2 ^ align ≤ width_of code
width_fits align row code r e h = subst (λ c. 2 ^ align ≤ width_of c) e (subst (λ n. 2 ^ align ≤ n) r.width h)

pub fits_width : (align : ℕ) (row : Row) (code : ℕ) → IsRowOf row.code row → row.code ≡ code → 2 ^ align ≤ width_of code → 2 ^ align ≤ row.width
fits_width align row code r e h = subst (λ n. 2 ^ align ≤ n) (sym r.width) (subst (λ c. 2 ^ align ≤ width_of c) (sym e) h)

-- loads and stores
pub access_only : (context : Context) (i : Instr) (align offset : ℕ) → rule_of i.code ≡ rules.Access → i.imm ≡ imm.Mem align offset → 2 ^ align ≤ width_of i.code → HasMemory context
    → (kind_of i.code ≡ kinds.Load) ⊎ (kind_of i.code ≡ kinds.Store) → HasOnly context i (listed_type i.code)
access_only context i align offset r a b m k = only_by context i (listed_type i.code) rules.Access r (λ e. cc) (Access (align, offset, a, b, m, k, refl)) (λ t s. s.6)

pub access_no_mem : (context : Context) (i : Instr) → rule_of i.code ≡ rules.Access → ((a o : ℕ) → i.imm ≡ imm.Mem a o → ⊥) → HasNone context i
access_no_mem context i r never = none_by context i rules.Access r (λ e. cc) (λ t s. never s.0 s.1 s.2)

pub access_no_memory : (context : Context) (i : Instr) → rule_of i.code ≡ rules.Access → (HasMemory context → ⊥) → HasNone context i
access_no_memory context i r never = none_by context i rules.Access r (λ e. cc) (λ t s. never s.4)

pub access_unaligned : (context : Context) (i : Instr) (align offset : ℕ) → rule_of i.code ≡ rules.Access → i.imm ≡ imm.Mem align offset → (2 ^ align ≤ width_of i.code → ⊥) → HasNone context i
access_unaligned context i align offset r a never =
    none_by context i rules.Access r (λ e. cc)
    (λ t s. never (let f : imm.Mem align offset ≡ imm.Mem s.0 s.1 = sym a ∙ s.2 in let e : s.0 ≡ align = cc in subst (λ n. 2 ^ n ≤ width_of i.code) e s.3))

-- memory.size, memory.grow
abbrev pub SizeForm : Instr → FuncType → Type 0
SizeForm i ty = ((i.code ≡ 0x3F) × (ty ≡ arrow [] (I32 ∷ []))) ⊎ ((i.code ≡ 0x40) × (ty ≡ arrow (I32 ∷ []) (I32 ∷ [])))

one_size : (i : Instr) (ty u : FuncType) → SizeForm i ty → SizeForm i u → u ≡ ty
one_size i ty u (inl p) (inl q) = q.1 ∙ sym p.1
one_size i ty u (inr p) (inr q) = q.1 ∙ sym p.1
one_size i ty u (inl p) (inr q) = absurd (omega (arith, p.0, q.0))
one_size i ty u (inr p) (inl q) = absurd (omega (arith, p.0, q.0))

pub size_only : (context : Context) (i : Instr) (ty : FuncType) → rule_of i.code ≡ rules.MemorySize → HasMemory context → SizeForm i ty → HasOnly context i ty
size_only context i ty r m f = only_by context i ty rules.MemorySize r (λ e. cc) (MemorySize (m, f)) (λ u s. one_size i ty u f s.1)

pub size_no_memory : (context : Context) (i : Instr) → rule_of i.code ≡ rules.MemorySize → (HasMemory context → ⊥) → HasNone context i
size_no_memory context i r never = none_by context i rules.MemorySize r (λ e. cc) (λ t s. never s.0)

pub size_other : (context : Context) (i : Instr) → rule_of i.code ≡ rules.MemorySize → (i.code ≡ 0x3F → ⊥) → (i.code ≡ 0x40 → ⊥) → HasNone context i
size_other context i r a b = none_by context i rules.MemorySize r (λ e. cc) (λ t s. never t s.1)
  where
    never : (u : FuncType) → SizeForm i u → ⊥
    never u (inl p) = a p.0
    never u (inr p) = b p.0

-- nop, and what has never rule
pub nop_only : (context : Context) (i : Instr) → rule_of i.code ≡ rules.Nop → i.code ≡ 0x01 → HasOnly context i (arrow [] [])
nop_only context i r c = only_by context i (arrow [] []) rules.Nop r (λ e. cc) (Nop c refl) (λ t s. s)

pub untyped_none : (context : Context) (i : Instr) → rule_of i.code ≡ rules.Untyped → HasNone context i
untyped_none context i r = none_by context i rules.Untyped r (λ e. cc) (λ t s. s)

-- br_if
pub branch_if_only : (context : Context) (i : Instr) (x : ℕ) (carried : List ValType) → rule_of i.code ≡ rules.BranchIf → i.code ≡ 0x0D → i.imm ≡ imm.Index x → slice_get context.labels x ≡ Some carried
    → HasOnly context i (arrow (carried ++ I32 ∷ []) carried)
branch_if_only context i x carried r c a b =
    only_by context i (arrow (carried ++ I32 ∷ []) carried) rules.BranchIf r (λ e. cc) (BranchIf (x, carried, c, a, b, refl))
    (λ u s. s.5 ∙ ap (λ l. arrow (l ++ I32 ∷ []) l) (same_found context.labels x s.0 carried s.1 b s.4 (same_index i x s.0 a s.3)))

pub branch_if_no_index : (context : Context) (i : Instr) → rule_of i.code ≡ rules.BranchIf → ((x : ℕ) → i.imm ≡ imm.Index x → ⊥) → HasNone context i
branch_if_no_index context i r never = none_by context i rules.BranchIf r (λ e. cc) (λ t s. never s.0 s.3)

pub branch_if_missing : (context : Context) (i : Instr) (x : ℕ) → rule_of i.code ≡ rules.BranchIf → i.imm ≡ imm.Index x → slice_get context.labels x ≡ None → HasNone context i
branch_if_missing context i x r a b = none_by context i rules.BranchIf r (λ e. cc) (λ t s. not_found context.labels x s.0 s.1 b s.4 (same_index i x s.0 a s.3))

-- call
pub call_only : (context : Context) (i : Instr) (x index : ℕ) (ty : FuncType) → rule_of i.code ≡ rules.Call → i.code ≡ 0x10 → i.imm ≡ imm.Index x → slice_get context.functions x ≡ Some index
    → slice_get context.types index ≡ Some ty → HasOnly context i ty
call_only context i x index ty r c a b d =
    only_by context i ty rules.Call r (λ e. cc) (Call (x, c, a, (index, b, d)))
    (λ u s. same_found context.types index s.3.0 ty u d s.3.2 (same_found context.functions x s.0 index s.3.0 b s.3.1 (same_index i x s.0 a s.2)))

pub call_no_index : (context : Context) (i : Instr) → rule_of i.code ≡ rules.Call → ((x : ℕ) → i.imm ≡ imm.Index x → ⊥) → HasNone context i
call_no_index context i r never = none_by context i rules.Call r (λ e. cc) (λ t s. never s.0 s.2)

pub call_missing : (context : Context) (i : Instr) (x : ℕ) → rule_of i.code ≡ rules.Call → i.imm ≡ imm.Index x → slice_get context.functions x ≡ None → HasNone context i
call_missing context i x r a b = none_by context i rules.Call r (λ e. cc) (λ t s. not_found context.functions x s.0 s.3.0 b s.3.1 (same_index i x s.0 a s.2))

pub call_no_type : (context : Context) (i : Instr) (x index : ℕ) → rule_of i.code ≡ rules.Call → i.imm ≡ imm.Index x → slice_get context.functions x ≡ Some index → slice_get context.types index ≡ None → HasNone context i
call_no_type context i x index r a b d =
    none_by context i rules.Call r (λ e. cc)
    (λ u s. not_found context.types index s.3.0 u d s.3.2 (same_found context.functions x s.0 index s.3.0 b s.3.1 (same_index i x s.0 a s.2)))

-- call_indirect
pub indirect_only : (context : Context) (i : Instr) (x : ℕ) (callee : FuncType) → rule_of i.code ≡ rules.CallIndirect → i.code ≡ 0x11 → i.imm ≡ imm.Index x → HasTable context
    → slice_get context.types x ≡ Some callee → HasOnly context i (arrow (callee.params ++ I32 ∷ []) callee.results)
indirect_only context i x callee r c a t b =
    only_by context i (arrow (callee.params ++ I32 ∷ []) callee.results) rules.CallIndirect r (λ e. cc) (CallIndirect (x, callee, c, a, t, b, refl))
    (λ u s. s.6 ∙ ap (λ (f : FuncType). arrow (f.params ++ I32 ∷ []) f.results) (same_found context.types x s.0 callee s.1 b s.5 (same_index i x s.0 a s.3)))

pub indirect_no_index : (context : Context) (i : Instr) → rule_of i.code ≡ rules.CallIndirect → ((x : ℕ) → i.imm ≡ imm.Index x → ⊥) → HasNone context i
indirect_no_index context i r never = none_by context i rules.CallIndirect r (λ e. cc) (λ t s. never s.0 s.3)

pub indirect_missing : (context : Context) (i : Instr) (x : ℕ) → rule_of i.code ≡ rules.CallIndirect → i.imm ≡ imm.Index x → slice_get context.types x ≡ None → HasNone context i
indirect_missing context i x r a b = none_by context i rules.CallIndirect r (λ e. cc) (λ t s. not_found context.types x s.0 s.1 b s.5 (same_index i x s.0 a s.3))

pub indirect_no_table : (context : Context) (i : Instr) → rule_of i.code ≡ rules.CallIndirect → (HasTable context → ⊥) → HasNone context i
indirect_no_table context i r never = none_by context i rules.CallIndirect r (λ e. cc) (λ t s. never s.4)

-- codes of the kind Control have none of the two rules of other kinds
pub operation_not_control : (context : Context) (i : Instr) → rule_of i.code ≡ rules.Operation → kind_of i.code ≡ kinds.Control → HasNone context i
operation_not_control context i r k = let e : kinds.Control ≡ kinds.Plain = sym k ∙ operation_kind i.code r in absurd (cc e)

pub access_not_control : (context : Context) (i : Instr) → rule_of i.code ≡ rules.Access → kind_of i.code ≡ kinds.Control → HasNone context i
access_not_control context i r k = at (access_kind i.code r)
  where
    at : (kind_of i.code ≡ kinds.Load) ⊎ (kind_of i.code ≡ kinds.Store) → HasNone context i
    at (inl e) = let f : kinds.Control ≡ kinds.Load = sym k ∙ e in absurd (cc f)
    at (inr e) = let f : kinds.Control ≡ kinds.Store = sym k ∙ e in absurd (cc f)

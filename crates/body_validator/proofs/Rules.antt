-- What types an instruction has by its rule, and what follows for the stacks.
use Rattle.std.proofs.Common.{◌≡◌, ℕ, ◌⊎◌, inl, inr, List, [], ◌∷◌, sym, ap, subst, ◌∙◌}
use Rattle.wasm_ops.specs.declared.instruction.Kind.{Kind}
use Rattle.wasm_ops.specs.declared.instruction.Kind.TheVariants as kinds
use Rattle.wasm_ops.specs.Table.{kind_of}
use Rattle.wasm_form.specs.declared.value_type.ValType.{ValType}
use Rattle.wasm_form.specs.declared.types.FuncType.{FuncType}
use Rattle.wasm_form.specs.declared.instr.Instr.{Instr}
use Rattle.wasm_form.specs.Context.{Context}
use Rattle.wasm_form.specs.Typing.{arrow, Applies, listed_type, IsConstant, IsParametric, IsLocal, IsGlobal, IsAccess, IsMemorySize, IsBranchIf, IsCall, IsCallIndirect, Leads, Leaves, HasType, Numeric, Parametric, Local, Global, Access, MemorySize, Nop, BranchIf, Call, CallIndirect}
use Rattle.body_validator.specs.declared.rule.Rule.{Rule}
use Rattle.body_validator.specs.declared.rule.Rule.TheVariants as rules
use Rattle.body_validator.specs.Covering.{Known, IsImage, IsStuck}
use Rattle.body_validator.specs.Rules.{control_rule, rule_by, rule_of}
use Rattle.body_validator.proofs.Covering.{same_image}

-- what its rule says of an instruction's type
abbrev pub HasBy : Rule → Context → Instr → FuncType → Type 0
HasBy rules.Constant context i ty = (t : ValType) × IsConstant i t × (ty ≡ arrow [] (t ∷ []))
HasBy rules.Operation context i ty = ty ≡ listed_type i.code
HasBy rules.Parametric context i ty = IsParametric i ty
HasBy rules.Local context i ty = IsLocal context i ty
HasBy rules.Global context i ty = IsGlobal context i ty
HasBy rules.Access context i ty = IsAccess context i ty
HasBy rules.MemorySize context i ty = IsMemorySize context i ty
HasBy rules.Nop context i ty = ty ≡ arrow [] []
HasBy rules.BranchIf context i ty = IsBranchIf context i ty
HasBy rules.Call context i ty = IsCall context i ty
HasBy rules.CallIndirect context i ty = IsCallIndirect context i ty
HasBy rules.Leaves context i ty = ⊥
HasBy rules.Untyped context i ty = ⊥

-- the rules of single codes
at_constant : (c : ℕ) → (c ≡ 0x41) ⊎ (c ≡ 0x42) → rule_of c ≡ rules.Constant
unfolding rule_of control_rule
at_constant c (inl e) = ap rule_of e
at_constant c (inr e) = ap rule_of e

at_parametric : (c : ℕ) → (c ≡ 0x1A) ⊎ (c ≡ 0x1B) → rule_of c ≡ rules.Parametric
unfolding rule_of control_rule
at_parametric c (inl e) = ap rule_of e
at_parametric c (inr e) = ap rule_of e

at_local : (c : ℕ) → (c ≡ 0x20) ⊎ (c ≡ 0x21) ⊎ (c ≡ 0x22) → rule_of c ≡ rules.Local
unfolding rule_of control_rule
at_local c (inl e) = ap rule_of e
at_local c (inr (inl e)) = ap rule_of e
at_local c (inr (inr e)) = ap rule_of e

at_global : (c : ℕ) → (c ≡ 0x23) ⊎ (c ≡ 0x24) → rule_of c ≡ rules.Global
unfolding rule_of control_rule
at_global c (inl e) = ap rule_of e
at_global c (inr e) = ap rule_of e

at_memory_size : (c : ℕ) → (c ≡ 0x3F) ⊎ (c ≡ 0x40) → rule_of c ≡ rules.MemorySize
unfolding rule_of control_rule
at_memory_size c (inl e) = ap rule_of e
at_memory_size c (inr e) = ap rule_of e

at_nop : (c : ℕ) → c ≡ 0x01 → rule_of c ≡ rules.Nop
unfolding rule_of control_rule
at_nop c e = ap rule_of e

at_branch_if : (c : ℕ) → c ≡ 0x0D → rule_of c ≡ rules.BranchIf
unfolding rule_of control_rule
at_branch_if c e = ap rule_of e

at_call : (c : ℕ) → c ≡ 0x10 → rule_of c ≡ rules.Call
unfolding rule_of control_rule
at_call c e = ap rule_of e

at_call_indirect : (c : ℕ) → c ≡ 0x11 → rule_of c ≡ rules.CallIndirect
unfolding rule_of control_rule
at_call_indirect c e = ap rule_of e

at_leaves : (c : ℕ) → (c ≡ 0x00) ⊎ (c ≡ 0x0C) ⊎ (c ≡ 0x0F) → rule_of c ≡ rules.Leaves
unfolding rule_of control_rule
at_leaves c (inl e) = ap rule_of e
at_leaves c (inr (inl e)) = ap rule_of e
at_leaves c (inr (inr e)) = ap rule_of e

by_kind : (c : ℕ) (k : Kind) → kind_of c ≡ k → rule_of c ≡ rule_by k c
unfolding rule_of
by_kind c k e = ap (λ x. rule_by x c) e

pub control_is : (c : ℕ) → kind_of c ≡ kinds.Control → rule_of c ≡ control_rule c
unfolding rule_of
control_is c e = ap (λ x. rule_by x c) e

pub float_is : (c : ℕ) → kind_of c ≡ kinds.Float → rule_of c ≡ rules.Untyped
unfolding rule_of
float_is c e = ap (λ x. rule_by x c) e

pub plain_is : (c : ℕ) → kind_of c ≡ kinds.Plain → rule_of c ≡ rules.Operation
unfolding rule_of
plain_is c e = ap (λ x. rule_by x c) e

pub load_is : (c : ℕ) → kind_of c ≡ kinds.Load → rule_of c ≡ rules.Access
unfolding rule_of
load_is c e = ap (λ x. rule_by x c) e

pub store_is : (c : ℕ) → kind_of c ≡ kinds.Store → rule_of c ≡ rules.Access
unfolding rule_of
store_is c e = ap (λ x. rule_by x c) e

-- an instruction's type is as its rule says
has_by : (context : Context) (i : Instr) (ty : FuncType) → HasType context i ty → (r : Rule) × (rule_of i.code ≡ r) × HasBy r context i ty
has_by context i ty (Numeric (inl (t, inl c, e))) = (rules.Constant, at_constant i.code (inl c.0), (t, inl c, e))
has_by context i ty (Numeric (inl (t, inr c, e))) = (rules.Constant, at_constant i.code (inr c.0), (t, inr c, e))
has_by context i ty (Numeric (inr p)) = (rules.Operation, by_kind i.code _ p.0, p.1)
has_by context i ty (Parametric (inl p)) = (rules.Parametric, at_parametric i.code (inl p.1), inl p)
has_by context i ty (Parametric (inr p)) = (rules.Parametric, at_parametric i.code (inr p.1), inr p)
has_by context i ty (Local (x, t, a, b, inl p)) = (rules.Local, at_local i.code (inl p.0), (x, t, a, b, inl p))
has_by context i ty (Local (x, t, a, b, inr (inl p))) = (rules.Local, at_local i.code (inr (inl p.0)), (x, t, a, b, inr (inl p)))
has_by context i ty (Local (x, t, a, b, inr (inr p))) = (rules.Local, at_local i.code (inr (inr p.0)), (x, t, a, b, inr (inr p)))
has_by context i ty (Global (x, g, a, b, inl p)) = (rules.Global, at_global i.code (inl p.0), (x, g, a, b, inl p))
has_by context i ty (Global (x, g, a, b, inr p)) = (rules.Global, at_global i.code (inr p.0), (x, g, a, b, inr p))
has_by context i ty (Access (a, o, b, c, d, inl p, e)) = (rules.Access, by_kind i.code _ p, (a, o, b, c, d, inl p, e))
has_by context i ty (Access (a, o, b, c, d, inr p, e)) = (rules.Access, by_kind i.code _ p, (a, o, b, c, d, inr p, e))
has_by context i ty (MemorySize (a, inl p)) = (rules.MemorySize, at_memory_size i.code (inl p.0), (a, inl p))
has_by context i ty (MemorySize (a, inr p)) = (rules.MemorySize, at_memory_size i.code (inr p.0), (a, inr p))
has_by context i ty (Nop c e) = (rules.Nop, at_nop i.code c, e)
has_by context i ty (BranchIf p) = (rules.BranchIf, at_branch_if i.code p.2, p)
has_by context i ty (Call p) = (rules.Call, at_call i.code p.1, p)
has_by context i ty (CallIndirect p) = (rules.CallIndirect, at_call_indirect i.code p.2, p)

pub has : (context : Context) (i : Instr) (ty : FuncType) (r : Rule) → rule_of i.code ≡ r → HasType context i ty → HasBy r context i ty
has context i ty r e h =
    let w = has_by context i ty h in
    subst (λ x. HasBy x context i ty) (sym w.1 ∙ e) w.2

-- only unreachable, br and return do not go on
pub leaves : (context : Context) (i : Instr) (needs : List ValType) → Leaves context i needs → rule_of i.code ≡ rules.Leaves
leaves context i needs (inl p) = at_leaves i.code (inl p.0)
leaves context i needs (inr (inl p)) = at_leaves i.code (inr (inl p.1))
leaves context i needs (inr (inr p)) = at_leaves i.code (inr (inr p.0))

-- it goes on, and has this type alone
pub record HasOnly (context : Context) (i : Instr) (ty : FuncType) : Type 0 where
  pub has : HasType context i ty
  pub one : (t : FuncType) → HasType context i t → t ≡ ty
  pub goes_on : (needs : List ValType) → ¬ Leaves context i needs

-- it goes on, and has no type
pub record HasNone (context : Context) (i : Instr) : Type 0 where
  pub none : (t : FuncType) → ¬ HasType context i t
  pub goes_on : (needs : List ValType) → ¬ Leaves context i needs

pub only_image : (context : Context) (i : Instr) (ty : FuncType) (old new : Known) → HasOnly context i ty → IsImage (Applies ty) old new → IsImage (Leads context i) old new
only_image context i ty old new h p =
    same_image (Applies ty) (Leads context i) old new
    (λ x y a. inl (ty, h.has, a))
    (λ x y l. from x y l) p
  where
    from : (x y : List ValType) → Leads context i x y → Applies ty x y
    from x y (inl (t, s, a)) = subst (λ u. Applies u x y) (h.one t s) a
    from x y (inr (needs, l, e)) = absurd (h.goes_on needs l)

pub only_stuck : (context : Context) (i : Instr) (ty : FuncType) (old : Known) → HasOnly context i ty → IsStuck (Applies ty) old → IsStuck (Leads context i) old
only_stuck context i ty old h p x y c (inl (t, s, a)) = p x y c (subst (λ u. Applies u x y) (h.one t s) a)
only_stuck context i ty old h p x y c (inr (needs, l, e)) = h.goes_on needs l

pub none_stuck : (context : Context) (i : Instr) (old : Known) → HasNone context i → IsStuck (Leads context i) old
none_stuck context i old h x y c (inl (t, s, a)) = h.none t s
none_stuck context i old h x y c (inr (needs, l, e)) = h.goes_on needs l

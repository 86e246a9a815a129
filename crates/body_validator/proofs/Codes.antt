-- The rules that one code alone has.
use Rattle.std.proofs.Common.{◌≡◌, ℕ, ◌+◌, ◌≤◌, ◌⊎◌, inl, inr, Bool, true, false, refl, subst, arith}
use Rattle.std.specs.Prelude.{⊤, if◌then◌else◌, nat_le}
use Rattle.std.proofs.lemmas.Bool.{leb-true, leb-false}
use Rattle.body_validator.specs.declared.rule.Rule.{Rule}
use Rattle.body_validator.specs.declared.rule.Rule.TheVariants as rules
use Rattle.wasm_ops.specs.declared.instruction.Kind.{Kind}
use Rattle.wasm_ops.specs.declared.instruction.Kind.TheVariants as kinds
use Rattle.wasm_ops.specs.Table.{kind_of}
use Rattle.body_validator.specs.Rules.{control_rule, rule_by, rule_of}

abbrev HasCode : Rule → ℕ → Type 0
HasCode rules.Nop c = c ≡ 0x01
HasCode rules.BranchIf c = c ≡ 0x0D
HasCode rules.Call c = c ≡ 0x10
HasCode rules.CallIndirect c = c ≡ 0x11
HasCode rules.Constant c = ⊤
HasCode rules.Operation c = ⊤
HasCode rules.Parametric c = ⊤
HasCode rules.Local c = ⊤
HasCode rules.Global c = ⊤
HasCode rules.Access c = ⊤
HasCode rules.MemorySize c = ⊤
HasCode rules.Leaves c = ⊤
HasCode rules.Untyped c = ⊤

pick : (b : Bool) (c : ℕ) (r s : Rule) → (b ≡ true → HasCode r c) → (b ≡ false → HasCode s c) → HasCode (if b then r else s) c
pick true c r s a d = a refl
pick false c r s a d = d refl

-- a code at most n has the rule r, and one above n the rule s
link : (low c n : ℕ) (r s : Rule) → low ≤ c → (low ≤ c → c ≤ n → HasCode r c) → (n + 1 ≤ c → HasCode s c) → HasCode (if nat_le c n then r else s) c
link low c n r s h a d = pick (nat_le c n) c r s (λ e. a h (leb-true c n e)) (λ e. d (let f = leb-false c n e in omega (arith, f)))

control_code : (c : ℕ) → HasCode (control_rule c) c
unfolding control_rule
control_code c =
    link 0 c 0x00 rules.Leaves _ (omega arith) (λ a b. tt) (λ h.
    link 1 c 0x01 rules.Nop _ h (λ a b. omega arith) (λ h.
    link 2 c 0x0B rules.Untyped _ h (λ a b. tt) (λ h.
    link 0x0C c 0x0C rules.Leaves _ h (λ a b. tt) (λ h.
    link 0x0D c 0x0D rules.BranchIf _ h (λ a b. omega arith) (λ h.
    link 0x0E c 0x0E rules.Untyped _ h (λ a b. tt) (λ h.
    link 0x0F c 0x0F rules.Leaves _ h (λ a b. tt) (λ h.
    link 0x10 c 0x10 rules.Call _ h (λ a b. omega arith) (λ h.
    link 0x11 c 0x11 rules.CallIndirect _ h (λ a b. omega arith) (λ h.
    link 0x12 c 0x19 rules.Untyped _ h (λ a b. tt) (λ h.
    link 0x1A c 0x1B rules.Parametric _ h (λ a b. tt) (λ h.
    link 0x1C c 0x1F rules.Untyped _ h (λ a b. tt) (λ h.
    link 0x20 c 0x22 rules.Local _ h (λ a b. tt) (λ h.
    link 0x23 c 0x24 rules.Global _ h (λ a b. tt) (λ h.
    link 0x25 c 0x3E rules.Untyped _ h (λ a b. tt) (λ h.
    link 0x3F c 0x40 rules.MemorySize _ h (λ a b. tt) (λ h.
    link 0x41 c 0x42 rules.Constant _ h (λ a b. tt) (λ h. tt)))))))))))))))))

by_kind_code : (k : Kind) (c : ℕ) → HasCode (rule_by k c) c
by_kind_code kinds.Control c = control_code c
by_kind_code kinds.Plain c = tt
by_kind_code kinds.Load c = tt
by_kind_code kinds.Store c = tt
by_kind_code kinds.Float c = tt

has_code : (c : ℕ) (r : Rule) → rule_of c ≡ r → HasCode r c
unfolding rule_of
has_code c r e = subst (λ x. HasCode x c) e (by_kind_code (kind_of c) c)

pub nop_code : (c : ℕ) → rule_of c ≡ rules.Nop → c ≡ 0x01
nop_code c e = has_code c rules.Nop e

pub branch_if_code : (c : ℕ) → rule_of c ≡ rules.BranchIf → c ≡ 0x0D
branch_if_code c e = has_code c rules.BranchIf e

pub call_code : (c : ℕ) → rule_of c ≡ rules.Call → c ≡ 0x10
call_code c e = has_code c rules.Call e

pub indirect_code : (c : ℕ) → rule_of c ≡ rules.CallIndirect → c ≡ 0x11
indirect_code c e = has_code c rules.CallIndirect e

-- the kinds that two rules have
abbrev HasKind : Rule → Kind → Type 0
HasKind rules.Operation k = k ≡ kinds.Plain
HasKind rules.Access k = (k ≡ kinds.Load) ⊎ (k ≡ kinds.Store)
HasKind r k = ⊤

pick_kind : (b : Bool) (r s : Rule) → HasKind r kinds.Control → HasKind s kinds.Control → HasKind (if b then r else s) kinds.Control
pick_kind true r s a d = a
pick_kind false r s a d = d

control_kind : (c : ℕ) → HasKind (control_rule c) kinds.Control
unfolding control_rule
control_kind c =
    pick_kind (nat_le c 0x00) rules.Leaves _ tt (
    pick_kind (nat_le c 0x01) rules.Nop _ tt (
    pick_kind (nat_le c 0x0B) rules.Untyped _ tt (
    pick_kind (nat_le c 0x0C) rules.Leaves _ tt (
    pick_kind (nat_le c 0x0D) rules.BranchIf _ tt (
    pick_kind (nat_le c 0x0E) rules.Untyped _ tt (
    pick_kind (nat_le c 0x0F) rules.Leaves _ tt (
    pick_kind (nat_le c 0x10) rules.Call _ tt (
    pick_kind (nat_le c 0x11) rules.CallIndirect _ tt (
    pick_kind (nat_le c 0x19) rules.Untyped _ tt (
    pick_kind (nat_le c 0x1B) rules.Parametric _ tt (
    pick_kind (nat_le c 0x1F) rules.Untyped _ tt (
    pick_kind (nat_le c 0x22) rules.Local _ tt (
    pick_kind (nat_le c 0x24) rules.Global _ tt (
    pick_kind (nat_le c 0x3E) rules.Untyped _ tt (
    pick_kind (nat_le c 0x40) rules.MemorySize _ tt (
    pick_kind (nat_le c 0x42) rules.Constant rules.Untyped tt tt))))))))))))))))

kind_by : (k : Kind) (c : ℕ) → HasKind (rule_by k c) k
kind_by kinds.Control c = control_kind c
kind_by kinds.Plain c = refl
kind_by kinds.Load c = inl refl
kind_by kinds.Store c = inr refl
kind_by kinds.Float c = tt

has_kind : (c : ℕ) (r : Rule) → rule_of c ≡ r → HasKind r (kind_of c)
unfolding rule_of
has_kind c r e = subst (λ x. HasKind x (kind_of c)) e (kind_by (kind_of c) c)

pub operation_kind : (c : ℕ) → rule_of c ≡ rules.Operation → kind_of c ≡ kinds.Plain
operation_kind c e = has_kind c rules.Operation e

pub access_kind : (c : ℕ) → rule_of c ≡ rules.Access → (kind_of c ≡ kinds.Load) ⊎ (kind_of c ≡ kinds.Store)
access_kind c e = has_kind c rules.Access e

-- The instructions that bytes spell are plain.
use Rattle.std.proofs.Common.{◌≡◌, ℕ, List, Bool, true, cond, Some, None, ap, ◌∙◌}
use Rattle.wasm_form.specs.Instructions.{SpellsImmediates, SpellsPlain, fits}
use Rattle.wasm_form.specs.Trees.{Code, Empty, Then, TableOf, BlockOf, LoopOf, IfOf, IfElseOf, SpellsCode, SpellsExpr}
use Rattle.wasm_form.specs.Matching.{sort_of, sort_at, IsPlain, HasPlain, IsTree}
use Rattle.wasm_form.specs.declared.instr.Instr.{Instr}
use Rattle.wasm_form.specs.declared.instr.Imm.{Imm}
use Rattle.wasm_form.specs.declared.immediates.Immediates.{Immediates}
use Rattle.wasm_form.specs.declared.immediates.Immediates.TheVariants as kind
use Rattle.wasm_form.specs.declared.expr.Expr.{Expr}
use Rattle.wasm_form.specs.declared.sort.Sort.TheVariants as sort

spelled_fits : (k : Immediates) (s : List ℕ) (i : Imm) → SpellsImmediates k s i → fits k i ≡ true
spelled_fits kind.Bare s i h = ap (fits kind.Bare) h.1
spelled_fits kind.Index s i h = ap (fits kind.Index) h.2
spelled_fits kind.TypeAndZero s i h = ap (fits kind.TypeAndZero) h.4
spelled_fits kind.Zero s i h = ap (fits kind.Zero) h.1
spelled_fits kind.Memory s i h = ap (fits kind.Memory) h.7
spelled_fits kind.S32 s i h = ap (fits kind.S32) h.2
spelled_fits kind.S64 s i h = ap (fits kind.S64) h.2
spelled_fits kind.F32 s i h = ap (fits kind.F32) h.1
spelled_fits kind.F64 s i h = ap (fits kind.F64) h.1

pub spelled_plain : (s : List ℕ) (i : Instr) → SpellsPlain s i → IsPlain i
unfolding sort_of
spelled_plain s i h =
    ap (λ o. sort_at o i.code i.imm) h.2 ∙ ap (λ (b : Bool). cond b (Some sort.Plain) None) (spelled_fits h.0 h.1 i.imm h.3)

pub has_plain : (c : Code) (s : List ℕ) → SpellsCode s c → HasPlain c
has_plain Empty s h = tt
has_plain (Then i rest) s h = (spelled_plain h.0 i h.2, has_plain rest h.1 h.3)
has_plain (TableOf labels last rest) s h = has_plain rest h.1 h.3
has_plain (BlockOf r a b) s h = (has_plain a h.1 h.4, has_plain b h.2 h.5)
has_plain (LoopOf r a b) s h = (has_plain a h.1 h.4, has_plain b h.2 h.5)
has_plain (IfOf r a b) s h = (has_plain a h.1 h.4, has_plain b h.2 h.5)
has_plain (IfElseOf r a d b) s h = (has_plain a h.1 h.5, has_plain d h.2 h.6, has_plain b h.3 h.7)

-- an expression that is spelled is a tree
pub spelled_tree : (e : Expr) (s : List ℕ) → SpellsExpr s e → IsTree e
spelled_tree e s h = (h.0, has_plain h.0 h.1 h.2, h.4)

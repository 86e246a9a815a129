-- The value of an expression that is one constant.
use Rattle.std.proofs.Common.{◌≡◌, ℕ, List, [], ◌∷◌, Option, Some, None, get_or, refl, sym, ap, ◌∙◌}
use Rattle.std.specs.Prelude.{option_map}
use Rattle.wasm_form.specs.declared.instr.Instr.{Instr}
use Rattle.wasm_form.specs.declared.instr.Imm.{Imm}
use Rattle.wasm_form.specs.declared.expr.Expr.{Expr}
use Rattle.wasm_form.specs.Trees.{end_instr}
use Rattle.tree_machine.specs.Trees.{read, read_all, outermost, tree_of}
use Rattle.tree_machine.specs.Instructions.{Plain, plain_of, i32_in, i64_in}
use Rattle.tree_machine.specs.Instructions as op
use Rattle.tree_machine.specs.Instantiation.{constant_of, constant_in, value_of}
use Rattle.instance_store.specs.Constants.{IsOneConstant}

-- the value of this code and these immediates, and the end
abbrev read_value : (labels : List ℕ) → (code : ℕ) → Imm → Option ℕ
read_value labels code i = constant_in (outermost (read_all labels (record { code = code; imm = i } ∷ end_instr ∷ [])))

const_value : (o : Option ℕ) → constant_of (option_map (λ n. op.Const n) o) ≡ o
const_value None = refl
const_value (Some n) = refl

read_i32 : (labels : List ℕ) (i : Imm) → read_value labels 0x41 i ≡ i32_in i
unfolding read plain_of
read_i32 labels i = const_value (i32_in i)

read_i64 : (labels : List ℕ) (i : Imm) → read_value labels 0x42 i ≡ i64_in i
unfolding read plain_of
read_i64 labels i = const_value (i64_in i)

value_read : (e : Expr) (i : Instr) → e.code ≡ i ∷ end_instr ∷ [] → value_of e ≡ read_value e.labels i.code i.imm
unfolding value_of tree_of
value_read e i code = ap (λ (list : List Instr). constant_in (outermost (read_all e.labels list))) code

-- the first instruction of an expression that is one constant is that constant
first_is : (e : Expr) (h : IsOneConstant e) (list : List Instr) (d : Instr) → list ≡ e.code → get_or list 0 d ≡ h.instr
first_is e h list d is = ap (λ (xs : List Instr). get_or xs 0 d) (is ∙ h.flat.code)

value_first : (e : Expr) (h : IsOneConstant e) (list : List Instr) (d : Instr) → list ≡ e.code
    → value_of e ≡ read_value e.labels (get_or list 0 d).code (get_or list 0 d).imm
value_first e h list d is =
    value_read e h.instr h.flat.code
    ∙ ap (λ (i : Instr). read_value e.labels i.code i.imm) (sym (first_is e h list d is))

-- the value of an i32.const
pub i32_value : (e : Expr) → IsOneConstant e → (list : List Instr) (d : Instr) → list ≡ e.code → (get_or list 0 d).code ≡ 0x41
    → i32_in (get_or list 0 d).imm ≡ value_of e
i32_value e h list d is code =
    sym (value_first e h list d is
    ∙ ap (λ (k : ℕ). read_value e.labels k (get_or list 0 d).imm) code
    ∙ read_i32 e.labels (get_or list 0 d).imm)

-- the value of an i64.const
pub i64_value : (e : Expr) → IsOneConstant e → (list : List Instr) (d : Instr) → list ≡ e.code → (get_or list 0 d).code ≡ 0x42
    → i64_in (get_or list 0 d).imm ≡ value_of e
i64_value e h list d is code =
    sym (value_first e h list d is
    ∙ ap (λ (k : ℕ). read_value e.labels k (get_or list 0 d).imm) code
    ∙ read_i64 e.labels (get_or list 0 d).imm)

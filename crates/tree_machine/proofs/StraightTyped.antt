-- Instructions that change operands alone keep them typed.
use Rattle.std.specs.Prelude.{⊤}
use Rattle.std.proofs.Common.{◌≡◌, ℕ, inl, inr, Bool, true, false, cond, if◌then◌else◌, nat_eq, List, [], ◌∷◌, ◌++◌, Option, Some, None, option_map, option_to_list, Result, Ok, Err, refl, sym, ◌∙◌, ap, subst}
use Rattle.wasm_ops.specs.declared.num.Num.{Num}
use Rattle.wasm_ops.specs.declared.instruction.Kind.{Kind}
use Rattle.wasm_ops.specs.declared.instruction.Kind.TheVariants as kinds
use Rattle.wasm_ops.specs.declared.trap.Trap.{Trap}
use Rattle.wasm_ops.specs.Table.{kind_of, takes_one, takes_i64, gives_i64, moves_i64, num_if, first_operand, second_operand, result_type}
use Rattle.wasm_ops.specs.Operations.{unary_value, binary_value}
use Rattle.wasm_form.specs.declared.value_type.ValType.{ValType}
use Rattle.wasm_form.specs.declared.value_type.ValType.TheVariants.{I32}
use Rattle.wasm_form.specs.declared.types.FuncType.{FuncType}
use Rattle.wasm_form.specs.declared.instr.Instr.{Instr}
use Rattle.wasm_form.specs.declared.parts.Parts.{Parts}
use Rattle.wasm_form.specs.Matching.{IsPlain}
use Rattle.wasm_form.specs.Typing.{arrow, Applies, value_type, listed_type, IsNumeric, IsParametric}
use Rattle.tree_machine.specs.Instructions.{Plain, plain_of}
use Rattle.tree_machine.specs.Instructions as op
use Rattle.tree_machine.specs.Config.{Config, Frame}
use Rattle.tree_machine.specs.Outcomes.{Effect, Gives, Fails, Undefined, to_operands}
use Rattle.tree_machine.specs.Numeric.{unary_on, unary, binary_on, binary}
use Rattle.tree_machine.specs.Parametric.{drop_one, select}
use Rattle.tree_machine.specs.Step.{execute_plain, execute}
use Rattle.tree_machine.specs.Typed.{HasConstant, IsValue, AreValues}
use Rattle.tree_machine.proofs.PlainOf.{plain_numeric, plain_i32, plain_i64, plain_drop, plain_select}
use Rattle.tree_machine.proofs.OperationsTyped.{UnaryKept, BinaryKept, unary_kept, binary_kept}

-- operands of these types are left; a trap is none of the typing's matter
abbrev pub OperandsKept : List ValType → Effect (List ℕ) → Type 0
OperandsKept stack (Gives operands) = AreValues stack operands
OperandsKept stack (Fails trap) = ⊤
OperandsKept stack Undefined = ⊥

-- the instruction changes operands alone, and leaves these types
pub record IsStraight (m : Parts) (i : Instr) (c : Config) (f : Frame) (below : List Frame) (after : List ValType) : Type 0 where
  pub effect : Effect (List ℕ)
  pub runs : execute m (plain_of i) c f below ≡ to_operands c f below effect
  pub kept : OperandsKept after effect

unary_on_kept : (code : ℕ) (o : Option ℕ) (b : List ValType) (below : List ℕ) → UnaryKept code o → AreValues b below →
    OperandsKept (value_type (num_if (gives_i64 code)) ∷ b) (unary_on o below)
unary_on_kept code None b below h k = absurd h
unary_on_kept code (Some v) b below h k = (h, k)

binary_on_kept : (code : ℕ) (o : Option (Result ℕ Trap)) (b : List ValType) (below : List ℕ) → BinaryKept code o → AreValues b below →
    OperandsKept (value_type (num_if (gives_i64 code)) ∷ b) (binary_on o below)
binary_on_kept code None b below h k = absurd h
binary_on_kept code (Some (Ok v)) b below h k = (h, k)
binary_on_kept code (Some (Err trap)) b below h k = tt

unary_operands : (code : ℕ) (b : List ValType) (operands : List ℕ) → kind_of code ≡ kinds.Plain → takes_one code ≡ true →
    AreValues (value_type (num_if (takes_i64 code)) ∷ b) operands → OperandsKept (value_type (num_if (gives_i64 code)) ∷ b) (unary code operands)
unary_operands code b [] kind one h = absurd h
unary_operands code b (a ∷ below) kind one h = unary_on_kept code (unary_value code a) b below (unary_kept code a kind one h.0) h.1

binary_operands : (code : ℕ) (b : List ValType) (operands : List ℕ) → kind_of code ≡ kinds.Plain → takes_one code ≡ false →
    AreValues (value_type (num_if (takes_i64 code)) ∷ value_type (num_if (takes_i64 code)) ∷ b) operands →
    OperandsKept (value_type (num_if (gives_i64 code)) ∷ b) (binary code operands)
binary_operands code b [] kind one h = absurd h
binary_operands code b (y ∷ []) kind one h = absurd h.1
binary_operands code b (y ∷ x ∷ below) kind one h =
    binary_on_kept code (binary_value code x y) b below (binary_kept code x y kind one h.1.0 h.0) h.1.1

drop_kept : (t : ValType) (b : List ValType) (operands : List ℕ) → AreValues (t ∷ b) operands → OperandsKept b (drop_one operands)
drop_kept t b [] h = absurd h
drop_kept t b (n ∷ below) h = h.1

chosen : (t : ValType) (test : Bool) (x y : ℕ) → IsValue t x → IsValue t y → IsValue t (cond test x y)
chosen t true x y h k = h
chosen t false x y h k = k

select_kept : (t : ValType) (b : List ValType) (operands : List ℕ) → AreValues (I32 ∷ t ∷ t ∷ b) operands → OperandsKept (t ∷ b) (select operands)
select_kept t b [] h = absurd h
select_kept t b (n ∷ []) h = absurd h.1
select_kept t b (n ∷ y ∷ []) h = absurd h.1.1
select_kept t b (n ∷ y ∷ x ∷ below) h = (chosen t (nat_eq n 0) y x h.1.0 h.1.1.0, h.1.1.1)

-- what the table says of an instruction, by its kind
abbrev pub listed_by : Kind → (one : Bool) → (operand result moved : Num) → FuncType
listed_by kind one operand result moved =
    arrow (option_to_list (option_map value_type (first_operand kind operand)) ++ option_to_list (option_map value_type (second_operand kind one operand moved)))
    (option_to_list (option_map value_type (result_type kind result moved)))

pub listed_is : (code : ℕ) (kind : Kind) (one : Bool) → kind_of code ≡ kind → takes_one code ≡ one →
    listed_type code ≡ listed_by kind one (num_if (takes_i64 code)) (num_if (gives_i64 code)) (num_if (moves_i64 code))
listed_is code kind one e f =
    ap (λ (k : Kind). listed_by k (takes_one code) (num_if (takes_i64 code)) (num_if (gives_i64 code)) (num_if (moves_i64 code))) e
    ∙ ap (λ (b : Bool). listed_by kind b (num_if (takes_i64 code)) (num_if (gives_i64 code)) (num_if (moves_i64 code))) f

-- a type that is known
pub applies_to : (ty known : FuncType) (before after : List ValType) → ty ≡ known → Applies ty before after → Applies known before after
applies_to ty known before after e h = subst (λ (u : FuncType). Applies u before after) e h

module _ (m : Parts) (i : Instr) (c : Config) (f : Frame) (below : List Frame) (before after : List ValType) (operands : AreValues before f.operands) where
  constant_kept : (n : ℕ) (t : ValType) (ty : FuncType) → plain_of i ≡ Some (op.Const n) → IsValue t n → ty ≡ arrow [] (t ∷ []) → Applies ty before after →
      IsStraight m i c f below after
  unfolding execute_plain
  constant_kept n t ty plain value e applies =
      let is = applies_to ty (arrow [] (t ∷ [])) before after e applies in
      record {
        effect = Gives (n ∷ f.operands);
        runs = ap (λ (o : Option Plain). execute m o c f below) plain;
        kept = subst (λ (s : List ValType). AreValues s (n ∷ f.operands)) (sym is.2)
            (value, subst (λ (s : List ValType). AreValues s f.operands) is.1 operands);
      }

  unary_case : (ty : FuncType) → kind_of i.code ≡ kinds.Plain → takes_one i.code ≡ true → ty ≡ listed_type i.code → Applies ty before after →
      IsStraight m i c f below after
  unfolding execute_plain
  unary_case ty kind one e applies =
      let is = applies_to ty (listed_by kinds.Plain true (num_if (takes_i64 i.code)) (num_if (gives_i64 i.code)) (num_if (moves_i64 i.code))) before after
      (e ∙ listed_is i.code kinds.Plain true kind one) applies in
      record {
        effect = unary i.code f.operands;
        runs = ap (λ (o : Option Plain). execute m o c f below)
            (plain_numeric i kind ∙ ap (λ (b : Bool). Some (if b then op.Unary i.code else op.Binary i.code)) one);
        kept = subst (λ (s : List ValType). OperandsKept s (unary i.code f.operands)) (sym is.2)
            (unary_operands i.code is.0 f.operands kind one (subst (λ (s : List ValType). AreValues s f.operands) is.1 operands));
      }

  binary_case : (ty : FuncType) → kind_of i.code ≡ kinds.Plain → takes_one i.code ≡ false → ty ≡ listed_type i.code → Applies ty before after →
      IsStraight m i c f below after
  unfolding execute_plain
  binary_case ty kind one e applies =
      let is = applies_to ty (listed_by kinds.Plain false (num_if (takes_i64 i.code)) (num_if (gives_i64 i.code)) (num_if (moves_i64 i.code))) before after
      (e ∙ listed_is i.code kinds.Plain false kind one) applies in
      record {
        effect = binary i.code f.operands;
        runs = ap (λ (o : Option Plain). execute m o c f below)
            (plain_numeric i kind ∙ ap (λ (b : Bool). Some (if b then op.Unary i.code else op.Binary i.code)) one);
        kept = subst (λ (s : List ValType). OperandsKept s (binary i.code f.operands)) (sym is.2)
            (binary_operands i.code is.0 f.operands kind one (subst (λ (s : List ValType). AreValues s f.operands) is.1 operands));
      }

  numeric_case : (ty : FuncType) (one : Bool) → takes_one i.code ≡ one → kind_of i.code ≡ kinds.Plain → ty ≡ listed_type i.code → Applies ty before after →
      IsStraight m i c f below after
  numeric_case ty true e kind listed applies = unary_case ty kind e listed applies
  numeric_case ty false e kind listed applies = binary_case ty kind e listed applies

  -- numeric instructions
  pub numeric_kept : (ty : FuncType) → IsPlain i → HasConstant i.imm → IsNumeric i ty → Applies ty before after → IsStraight m i c f below after
  numeric_kept ty plain range (inr (kind, listed)) applies = numeric_case ty (takes_one i.code) refl kind listed applies
  numeric_kept ty plain range (inl (t, inl (code, t_is), e)) applies =
      let is = plain_i32 i plain code in
      constant_kept is.0 t ty is.2
      (subst (λ (u : ValType). IsValue u is.0) (sym t_is) (subst HasConstant is.1 range)) e applies
  numeric_kept ty plain range (inl (t, inr (code, t_is), e)) applies =
      let is = plain_i64 i plain code in
      constant_kept is.0 t ty is.2
      (subst (λ (u : ValType). IsValue u is.0) (sym t_is) (subst HasConstant is.1 range)) e applies

  -- parametric instructions
  pub parametric_kept : (ty : FuncType) → IsParametric i ty → Applies ty before after → IsStraight m i c f below after
  unfolding execute_plain
  parametric_kept ty (inl (t, code, e)) applies =
      let is = applies_to ty (arrow (t ∷ []) []) before after e applies in
      record {
        effect = drop_one f.operands;
        runs = ap (λ (o : Option Plain). execute m o c f below) (plain_drop i code);
        kept = subst (λ (s : List ValType). OperandsKept s (drop_one f.operands)) (sym is.2)
            (drop_kept t is.0 f.operands (subst (λ (s : List ValType). AreValues s f.operands) is.1 operands));
      }
  parametric_kept ty (inr (t, code, e)) applies =
      let is = applies_to ty (arrow (t ∷ t ∷ I32 ∷ []) (t ∷ [])) before after e applies in
      record {
        effect = select f.operands;
        runs = ap (λ (o : Option Plain). execute m o c f below) (plain_select i code);
        kept = subst (λ (s : List ValType). OperandsKept s (select f.operands)) (sym is.2)
            (select_kept t is.0 f.operands (subst (λ (s : List ValType). AreValues s f.operands) is.1 operands));
      }

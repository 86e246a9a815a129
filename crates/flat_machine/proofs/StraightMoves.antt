-- Straight instructions: their operands fit, and their moves are the steps of the trees.
use Rattle.std.proofs.Common.{◌≡◌, ◌≢◌, ◌≤◌, ◌<◌, ℕ, ◌+◌, ◌&&◌, inl, inr, Bool, true, false, if◌then◌else◌, nat_lt, List, [], ◌∷◌, ◌++◌, length, reverse, slice_get, Option, Some, arith, refl, sym, ◌∙◌, ap, subst, length-append}
use Rattle.std.proofs.lemmas.Bool.Decides.{nat_tests}
use Rattle.std.proofs.lemmas.List.{length-reverse}
use Rattle.wasm_ops.specs.declared.num.Num.{Num}
use Rattle.wasm_ops.specs.declared.num.Num.TheVariants as nums
use Rattle.wasm_ops.specs.declared.instruction.Kind.{Kind}
use Rattle.wasm_ops.specs.declared.instruction.Kind.TheVariants as kinds
use Rattle.wasm_ops.specs.Table.{kind_of, takes_one, takes_i64, gives_i64, moves_i64, num_if, first_operand, second_operand}
use Rattle.wasm_form.specs.declared.value_type.ValType.{ValType}
use Rattle.wasm_form.specs.declared.value_type.ValType.TheVariants.{I32}
use Rattle.wasm_form.specs.declared.types.FuncType.{FuncType}
use Rattle.wasm_form.specs.declared.body.LocalRun.{LocalRun}
use Rattle.wasm_form.specs.declared.instr.Instr.{Instr}
use Rattle.wasm_form.specs.declared.instr.Imm.{Imm}
use Rattle.wasm_form.specs.declared.parts.Parts.{Parts}
use Rattle.wasm_form.specs.Matching.{IsPlain}
use Rattle.wasm_form.specs.Context.{Context, context_of}
use Rattle.wasm_form.specs.Typing.{arrow, value_type, listed_type, Types, Leads, HasType, Numeric, Parametric, Local, Global, Access, MemorySize, Nop, BranchIf, Call, CallIndirect}
use Rattle.wasm_form.specs.Trees.{Code, Empty, Then, TableOf, BlockOf, LoopOf, IfOf, IfElseOf}
use Rattle.code_map.specs.declared.map.CodeMap.{CodeMap}
use Rattle.tree_machine.specs.Instructions.{Plain, plain_of, access_of}
use Rattle.tree_machine.specs.Instructions as op
use Rattle.tree_machine.specs.Config.{Cont, Frame, Config}
use Rattle.tree_machine.specs.Step.{next}
use Rattle.tree_machine.specs.Typed.{IsValue, AreValues, HasInstrs, ContsTyped, with_labels, FramesTyped, IsTyped, IsKept}
use Rattle.tree_machine.proofs.PlainOf.{load_within, store_within, plain_numeric, plain_access, plain_i32, plain_i64, plain_unreachable, plain_nop, plain_drop, plain_select, plain_size, plain_grow, plain_local_get, plain_local_set, plain_local_tee, plain_global_get, plain_global_set}
use Rattle.tree_machine.proofs.StraightTyped.{listed_by, listed_is}
use Rattle.tree_machine.proofs.Values.{as_many, place_below}
use Rattle.flat_machine.specs.Flat.{Flat}
use Rattle.flat_machine.specs.Values.{operands_with, all_values}
use Rattle.flat_machine.specs.Tells.{PlacesStand, IsInstrAt}
use Rattle.flat_machine.specs.Straight.{straight, IsStraight}
use Rattle.flat_machine.specs.Mapping.{Follows}
use Rattle.flat_machine.specs.Moves.{executes, fits, is_i32, operands_fit, go_straight}
use Rattle.flat_machine.specs.MovesAgree.{MoveAgrees}
use Rattle.flat_machine.proofs.Standing.{BeginsWith}
use Rattle.flat_machine.proofs.StraightAgrees.{low_values}
use Rattle.flat_machine.proofs.StraightFollows.{straight_follows}
use Rattle.flat_machine.proofs.BlocksAgree.{work}
use Rattle.flat_machine.proofs.BranchesAgree.{values_here}
use Rattle.flat_machine.proofs.CallMoves.{both_true, held}
use Rattle.flat_machine.proofs.Executing.{executes_agree}

-- a number of a type fits it
num_fits : (num : Num) (n : ℕ) → IsValue (value_type num) n → fits (Some num) n ≡ true
num_fits nums.I32 n h = grind (arith, nat_tests)
num_fits nums.I64 n h = grind (arith, nat_tests)

i32_fits : (n : ℕ) → IsValue I32 n → is_i32 n ≡ true
i32_fits n h = grind (arith, nat_tests)

unary_fits : (code base : ℕ) (b : List ValType) (operands low : List ℕ) → kind_of code ≡ kinds.Plain →
    AreValues (value_type (num_if (takes_i64 code)) ∷ b) operands → operands_fit (op.Unary code) base (operands ++ low) ≡ true
unary_fits code base b [] low kind h = absurd h
unary_fits code base b (a ∷ operands) low kind h =
    ap (λ (k : Kind). fits (first_operand k (num_if (takes_i64 code))) a) kind ∙ num_fits (num_if (takes_i64 code)) a h.0

binary_fits : (code base : ℕ) (b : List ValType) (operands low : List ℕ) → kind_of code ≡ kinds.Plain → takes_one code ≡ false →
    AreValues (value_type (num_if (takes_i64 code)) ∷ value_type (num_if (takes_i64 code)) ∷ b) operands → operands_fit (op.Binary code) base (operands ++ low) ≡ true
binary_fits code base b [] low kind one h = absurd h
binary_fits code base b (y ∷ []) low kind one h = absurd h.1
binary_fits code base b (y ∷ x ∷ operands) low kind one h =
    let num = num_if (takes_i64 code) in
    ap (λ (k : Kind). fits (first_operand k num) x && fits (second_operand k (takes_one code) num (num_if (moves_i64 code))) y) kind
    ∙ ap (λ (o : Bool). fits (Some num) x && fits (second_operand kinds.Plain o num (num_if (moves_i64 code))) y) one
    ∙ both_true (fits (Some num) x) (fits (Some num) y) (num_fits num x h.1.0) (num_fits num y h.0)

load_fits : (code offset base : ℕ) (b : List ValType) (operands low : List ℕ) → AreValues (I32 ∷ b) operands → operands_fit (op.Load code offset) base (operands ++ low) ≡ true
load_fits code offset base b [] low h = absurd h
load_fits code offset base b (address ∷ operands) low h = i32_fits address h.0

store_fits : (code offset base : ℕ) (t : ValType) (b : List ValType) (operands low : List ℕ) → AreValues (t ∷ I32 ∷ b) operands →
    operands_fit (op.Store code offset) base (operands ++ low) ≡ true
store_fits code offset base t b [] low h = absurd h
store_fits code offset base t b (value ∷ []) low h = absurd h.1
store_fits code offset base t b (value ∷ address ∷ operands) low h = i32_fits address h.1.0

grow_fits : (base : ℕ) (b : List ValType) (operands low : List ℕ) → AreValues (I32 ∷ b) operands → operands_fit op.MemoryGrow base (operands ++ low) ≡ true
grow_fits base b [] low h = absurd h
grow_fits base b (pages ∷ operands) low h = i32_fits pages h.0

local_there : (place : ℕ) (operands low : List ℕ) → place < length low → nat_lt place (length (operands ++ low)) ≡ true
local_there place operands low less = let all = length-append operands low in let there : place < length (operands ++ low) = omega arith in grind (arith, nat_tests)

set_fits : (x base : ℕ) (t : ValType) (b : List ValType) (operands low : List ℕ) → AreValues (t ∷ b) operands → base + x < length low →
    operands_fit (op.LocalSet x) base (operands ++ low) ≡ true
set_fits x base t b [] low h less = absurd h
set_fits x base t b (value ∷ operands) low h less = local_there (base + x) operands low less

tee_fits : (x base : ℕ) (t : ValType) (b : List ValType) (operands low : List ℕ) → AreValues (t ∷ b) operands → base + x < length low →
    operands_fit (op.LocalTee x) base (operands ++ low) ≡ true
tee_fits x base t b [] low h less = absurd h
tee_fits x base t b (value ∷ operands) low h less = local_there (base + x) operands low less

-- the instruction is a straight one, whose operands are there and fit
record GoesStraight (i : Instr) (base : ℕ) (values : List ℕ) : Type 0 where
  plain : Plain
  is : plain_of i ≡ Some plain
  straight_is : IsStraight plain
  fit : operands_fit plain base values ≡ true

module _ (context : Context) (i : Instr) (ty : FuncType) (b : List ValType) (operands low : List ℕ) (base : ℕ)
    (locals : (x : ℕ) (t : ValType) → slice_get context.locals x ≡ Some t → base + x < length low) (typed : AreValues (reverse ty.params ++ b) operands) where
  as_known : (known : FuncType) → ty ≡ known → AreValues (reverse known.params ++ b) operands
  as_known known e = subst (λ (u : FuncType). AreValues (reverse u.params ++ b) operands) e typed

  numeric_goes : (one : Bool) → takes_one i.code ≡ one → kind_of i.code ≡ kinds.Plain → ty ≡ listed_type i.code → GoesStraight i base (operands ++ low)
  numeric_goes true one kind listed =
      let known = as_known (listed_by kinds.Plain true (num_if (takes_i64 i.code)) (num_if (gives_i64 i.code)) (num_if (moves_i64 i.code)))
      (listed ∙ listed_is i.code kinds.Plain true kind one) in
      record {
        plain = op.Unary i.code;
        is = plain_numeric i kind ∙ ap (λ (x : Bool). Some (if x then op.Unary i.code else op.Binary i.code)) one;
        straight_is = tt;
        fit = unary_fits i.code base b operands low kind known;
      }
  numeric_goes false one kind listed =
      let known = as_known (listed_by kinds.Plain false (num_if (takes_i64 i.code)) (num_if (gives_i64 i.code)) (num_if (moves_i64 i.code)))
      (listed ∙ listed_is i.code kinds.Plain false kind one) in
      record {
        plain = op.Binary i.code;
        is = plain_numeric i kind ∙ ap (λ (x : Bool). Some (if x then op.Unary i.code else op.Binary i.code)) one;
        straight_is = tt;
        fit = binary_fits i.code base b operands low kind one known;
      }

  store_goes : (offset : ℕ) (one : Bool) → takes_one i.code ≡ one → kind_of i.code ≡ kinds.Store → plain_of i ≡ Some (op.Store i.code offset) → ty ≡ listed_type i.code →
      GoesStraight i base (operands ++ low)
  store_goes offset true one kind plain listed =
      let known = as_known (listed_by kinds.Store true (num_if (takes_i64 i.code)) (num_if (gives_i64 i.code)) (num_if (moves_i64 i.code)))
      (listed ∙ listed_is i.code kinds.Store true kind one) in
      record {
        plain = op.Store i.code offset;
        is = plain;
        straight_is = tt;
        fit = store_fits i.code offset base (value_type (num_if (moves_i64 i.code))) b operands low known;
      }
  store_goes offset false one kind plain listed =
      let known = as_known (listed_by kinds.Store false (num_if (takes_i64 i.code)) (num_if (gives_i64 i.code)) (num_if (moves_i64 i.code)))
      (listed ∙ listed_is i.code kinds.Store false kind one) in
      record {
        plain = op.Store i.code offset;
        is = plain;
        straight_is = tt;
        fit = store_fits i.code offset base (value_type (num_if (moves_i64 i.code))) b operands low known;
      }

  typed_goes : IsPlain i → i.code ≢ 0x0D → i.code ≢ 0x10 → i.code ≢ 0x11 → HasType context i ty → GoesStraight i base (operands ++ low)
  typed_goes plain no_if no_call no_indirect (Numeric (inr (kind, listed))) = numeric_goes (takes_one i.code) refl kind listed
  typed_goes plain no_if no_call no_indirect (Numeric (inl (t, inl (code, t_is), known))) =
      let c = plain_i32 i plain code in record { plain = op.Const c.0; is = c.2; straight_is = tt; fit = refl }
  typed_goes plain no_if no_call no_indirect (Numeric (inl (t, inr (code, t_is), known))) =
      let c = plain_i64 i plain code in record { plain = op.Const c.0; is = c.2; straight_is = tt; fit = refl }
  typed_goes plain no_if no_call no_indirect (Parametric (inl (t, code, known))) =
      record { plain = op.Drop; is = plain_drop i code; straight_is = tt; fit = refl }
  typed_goes plain no_if no_call no_indirect (Parametric (inr (t, code, known))) =
      record { plain = op.Select; is = plain_select i code; straight_is = tt; fit = refl }
  typed_goes plain no_if no_call no_indirect (Local (x, t, index, place, inl (code, known))) =
      record { plain = op.LocalGet x; is = plain_local_get i x code index; straight_is = tt; fit = refl }
  typed_goes plain no_if no_call no_indirect (Local (x, t, index, place, inr (inl (code, known)))) = record {
    plain = op.LocalSet x;
    is = plain_local_set i x code index;
    straight_is = tt;
    fit = set_fits x base t b operands low (as_known (arrow (t ∷ []) []) known) (locals x t place);
  }
  typed_goes plain no_if no_call no_indirect (Local (x, t, index, place, inr (inr (code, known)))) = record {
    plain = op.LocalTee x;
    is = plain_local_tee i x code index;
    straight_is = tt;
    fit = tee_fits x base t b operands low (as_known (arrow (t ∷ []) (t ∷ [])) known) (locals x t place);
  }
  typed_goes plain no_if no_call no_indirect (Global (x, g, index, place, inl (code, known))) =
      record { plain = op.GlobalGet x; is = plain_global_get i x code index; straight_is = tt; fit = refl }
  typed_goes plain no_if no_call no_indirect (Global (x, g, index, place, inr (code, mutable, known))) =
      record { plain = op.GlobalSet x; is = plain_global_set i x code index; straight_is = tt; fit = refl }
  typed_goes plain no_if no_call no_indirect (Access (align, offset, numbers, aligned, there, inl kind, known)) =
      let within = load_within i.code kind in
      let from : 0x28 ≤ i.code = within.0 in
      let to : i.code ≤ 0x35 = within.1 in
      let is_known = as_known (listed_by kinds.Load (takes_one i.code) (num_if (takes_i64 i.code)) (num_if (gives_i64 i.code)) (num_if (moves_i64 i.code)))
      (known ∙ listed_is i.code kinds.Load (takes_one i.code) kind refl) in
      record {
        plain = op.Load i.code offset;
        is = plain_access i from (omega arith) ∙ ap (λ (k : Kind). access_of k i.code i.imm) kind ∙ ap (λ (j : Imm). access_of kinds.Load i.code j) numbers;
        straight_is = tt;
        fit = load_fits i.code offset base b operands low is_known;
      }
  typed_goes plain no_if no_call no_indirect (Access (align, offset, numbers, aligned, there, inr kind, known)) =
      let within = store_within i.code kind in
      let from : 0x36 ≤ i.code = within.0 in
      let to : i.code ≤ 0x3E = within.1 in
      store_goes offset (takes_one i.code) refl kind
      (plain_access i (omega arith) to ∙ ap (λ (k : Kind). access_of k i.code i.imm) kind ∙ ap (λ (j : Imm). access_of kinds.Store i.code j) numbers) known
  typed_goes plain no_if no_call no_indirect (MemorySize (there, inl (code, known))) =
      record { plain = op.MemorySize; is = plain_size i code; straight_is = tt; fit = refl }
  typed_goes plain no_if no_call no_indirect (MemorySize (there, inr (code, known))) = record {
    plain = op.MemoryGrow;
    is = plain_grow i code;
    straight_is = tt;
    fit = grow_fits base b operands low (as_known (arrow (I32 ∷ []) (I32 ∷ [])) known);
  }
  typed_goes plain no_if no_call no_indirect (Nop code known) = record { plain = op.Nop; is = plain_nop i code; straight_is = tt; fit = refl }
  typed_goes plain no_if no_call no_indirect (BranchIf (label, carried, code, index, place, known)) = absurd (no_if code)
  typed_goes plain no_if no_call no_indirect (Call (function, code, index, known)) = absurd (no_call code)
  typed_goes plain no_if no_call no_indirect (CallIndirect (x, callee, code, index, there, place, known)) = absurd (no_indirect code)

-- the codes of what is no straight instruction
pub record IsOther (code : ℕ) : Type 0 where
  pub no_end : code ≢ 0x0B
  pub no_other : code ≢ 0x05
  pub no_block : code ≢ 0x02
  pub no_loop : code ≢ 0x03
  pub no_chosen : code ≢ 0x04
  pub no_br : code ≢ 0x0C
  pub no_br_if : code ≢ 0x0D
  pub no_table : code ≢ 0x0E
  pub no_return : code ≢ 0x0F
  pub no_call : code ≢ 0x10
  pub no_indirect : code ≢ 0x11

code_is : (i j : Instr) → i ≡ j → i.code ≡ j.code
code_is i j e = ap (λ (x : Instr). x.code) e

other_comes : (i : Instr) (code : Code) → IsOther i.code → BeginsWith i code → (rest : Code) × (code ≡ Then i rest)
other_comes i Empty other (inl e) = absurd (other.no_end (ap (λ (x : Instr). x.code) e))
other_comes i Empty other (inr e) = absurd (other.no_other (ap (λ (x : Instr). x.code) e))
other_comes i (Then j rest) other e = (rest, ap (λ (x : Instr). Then x rest) (sym e))
other_comes i (TableOf labels last rest) other (first, e) = absurd (other.no_table (ap (λ (x : Instr). x.code) e))
other_comes i (BlockOf result inside rest) other e = absurd (other.no_block (ap (λ (x : Instr). x.code) e))
other_comes i (LoopOf result inside rest) other e = absurd (other.no_loop (ap (λ (x : Instr). x.code) e))
other_comes i (IfOf result inside rest) other e = absurd (other.no_chosen (ap (λ (x : Instr). x.code) e))
other_comes i (IfElseOf result inside another rest) other e = absurd (other.no_chosen (ap (λ (x : Instr). x.code) e))

-- the typing of the first instruction of the innermost list, with the locals of its function
record LeadsWith (i : Instr) (stack locals : List ValType) : Type 0 where
  context : Context
  locals_are : context.locals ≡ locals
  after : List ValType
  leads : Leads context i stack after

leads_with : (m : Parts) (ty : FuncType) (runs : List LocalRun) (labels : List (List ValType)) (k : Cont) (ks : List Cont) (stack : List ValType) (i : Instr) (rest : Code) →
    k.rest ≡ Then i rest → ContsTyped (context_of m ty runs) labels (k ∷ ks) stack → LeadsWith i stack (context_of m ty runs).locals
leads_with m ty runs [] k ks stack i rest is conts = absurd conts
leads_with m ty runs (carried ∷ around) k ks stack i rest is conts =
    let context : Context = with_labels (carried ∷ around) (context_of m ty runs) in
    let types : Types context (Then i rest) stack conts.0 = subst (λ (code : Code). Types context code stack conts.0) is conts.2.leads in
    record { context = context; locals_are = refl; after = types.0; leads = types.1 }

module _ (m : Parts) (map : CodeMap) (flat : Flat) (c : Config) (follows : Follows m map.bodies flat c) (typed : IsTyped m [] c) (i : Instr) (at : IsInstrAt m flat.place i)
    (other : IsOther i.code) where
  led_goes : (stack locals : List ValType) (operands low : List ℕ) (base : ℕ) → IsPlain i → AreValues stack operands →
      ((x : ℕ) (t : ValType) → slice_get locals x ≡ Some t → base + x < length low) → (is : LeadsWith i stack locals) → (lead : Leads is.context i stack is.after) →
      GoesStraight i base (operands ++ low)
  led_goes stack locals operands low base plain values there is (inl (known, has_type, applies)) =
      typed_goes is.context i known applies.0 operands low base (λ x t e. there x t (subst (λ (ts : List ValType). slice_get ts x ≡ Some t) is.locals_are e))
      (subst (λ (s : List ValType). AreValues s operands) applies.1 values) plain other.no_br_if other.no_call other.no_indirect has_type
  led_goes stack locals operands low base plain values there is (inr (needs, inl (code, none), ends)) =
      record { plain = op.Unreachable; is = plain_unreachable i code; straight_is = tt; fit = refl }
  led_goes stack locals operands low base plain values there is (inr (needs, inr (inl (label, code, number, place)), ends)) = absurd (other.no_br code)
  led_goes stack locals operands low base plain values there is (inr (needs, inr (inr (code, results)), ends)) = absurd (other.no_return code)

  goes_at : (frames : List Frame) → c.frames ≡ frames → GoesStraight i flat.place.base flat.values
  goes_at [] e = absurd (subst (λ (frames : List Frame). PlacesStand m (flat.place ∷ flat.callers) frames) e follows.tells.places)
  goes_at (f ∷ below) e =
      let w = work m map.bodies flat c follows typed i f below at e in
      let there = w.inner in
      let comes = other_comes i there.k.rest other there.begins in
      let rest = comes.0 in
      let frames : FramesTyped m [] (f ∷ below) = subst (λ (frames : List Frame). FramesTyped m [] frames) e typed.frames in
      let frame = frames.1 in
      let instrs : HasInstrs (Then i rest) = subst HasInstrs comes.1 w.instrs in
      let conts : ContsTyped (context_of m frames.0 frame.runs) frame.labels (there.k ∷ there.around) frame.stack =
      subst (λ (x : List Cont). ContsTyped (context_of m frames.0 frame.runs) frame.labels x frame.stack) there.is frame.conts in
      let leads = leads_with m frames.0 frame.runs frame.labels there.k there.around frame.stack i rest comes.1 conts in
      let locals = (context_of m frames.0 frame.runs).locals in
      let low = low_values f.locals there.k there.around below in
      let count : length f.locals ≡ length locals = as_many locals f.locals frame.locals in
      let one = length-append (operands_with there.k.under there.around) (reverse f.locals ++ all_values below) in
      let two = length-append (reverse f.locals) (all_values below) in
      let turned = length-reverse f.locals in
      let base = w.base in
      subst (GoesStraight i flat.place.base) (sym (values_here m map.bodies flat c follows typed i f below w))
      (led_goes frame.stack locals f.operands low flat.place.base instrs.0 frame.operands
      (λ x t found. let less : x < length locals = place_below locals x t found in omega arith) leads leads.leads)

  -- a straight instruction
  pub straight_moves : IsKept m (next m c) → MoveAgrees m map flat c (go_straight (plain_of i) flat)
  straight_moves kept =
      let goes = goes_at c.frames refl in
      let p = goes.plain in
      subst (λ (o : Option Plain). MoveAgrees m map flat c (go_straight o flat)) (sym goes.is)
      (subst (MoveAgrees m map flat c) (sym (held (operands_fit p flat.place.base flat.values) (executes (straight p flat)) goes.fit))
      (executes_agree m map flat c (straight p flat) (next m c) refl
      (straight_follows m map.bodies flat c follows typed i p goes.is goes.straight_is at (λ stuck. subst (IsKept m) stuck kept)) kept))

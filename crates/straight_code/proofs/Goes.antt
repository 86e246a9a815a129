-- What a straight instruction asks of the values that show a machine which is not stuck at it, and what it leaves.
use Rattle.std.proofs.Common.{◌≡◌, ◌≢◌, ℕ, zero, suc, ◌+◌, ◌^◌, ◌<◌, ◌≤◌, ◌&&◌, Bool, true, false, cond, nat_lt, List, ◌∷◌, length, slice_get, Option, Some, None, option_map, Ok, refl, sym, ap, subst, ◌∙◌, arith}
use Rattle.std.proofs.lemmas.Bool.Decides.{nat_tests}
use Rattle.wasm_ops.specs.declared.trap.Trap.{Trap}
use Rattle.wasm_ops.specs.declared.trap.Trap.TheVariants as traps
use Rattle.wasm_ops.specs.declared.num.Num.{Num}
use Rattle.wasm_ops.specs.declared.num.Num.TheVariants.{I32, I64}
use Rattle.wasm_ops.specs.Table.{FitsType}
use Rattle.linear_memory.specs.Contents.{Contents}
use Rattle.tree_machine.specs.Instructions.{Plain, plain_of, index_in, offset_in, access_of, numeric_of}
use Rattle.tree_machine.specs.Instructions as op
use Rattle.tree_machine.specs.Outcomes.{Effect, Gives, Fails, Undefined}
use Rattle.tree_machine.specs.Numeric.{unary, binary}
use Rattle.tree_machine.specs.Parametric.{drop_one, select}
use Rattle.tree_machine.specs.Variables.{push_value}
use Rattle.tree_machine.specs.MemoryAccess.{load_from}
use Rattle.tree_machine.specs.MemorySize.{size_of}
use Rattle.flat_machine.specs.Flat.{Flat, goes_on}
use Rattle.flat_machine.specs.Straight.{to_values, local_value, set_top, tee_top, put_global, put_top, grow_memory, straight}
use Rattle.flat_machine.specs.Moves.{Stuck, where_holds, executes, fits, is_i32, operands_fit, go_straight}
use Rattle.flat_machine.specs.Shown.{stack_of, memory_where, IsShown, moved}
use Rattle.straight_code.specs.Going.{straight_of, GoesTo}

-- a machine that is not stuck

held : (b : Bool) (e : Effect Flat) → where_holds b (executes e) ≢ Stuck → (b ≡ true) × (e ≢ Undefined)
held true e h = (refl, λ w. h (ap executes w))
held false e h = absurd (h refl)

abbrev Held : Plain → Flat → Type 0
Held p flat = (operands_fit p flat.place.base flat.values ≡ true) × (straight p flat ≢ Undefined)

held_at : (o : Option Plain) (p : Plain) (flat : Flat) → o ≡ Some p → go_straight o flat ≢ Stuck → Held p flat
held_at o p flat is h =
    held (operands_fit p flat.place.base flat.values) (straight p flat) (subst (λ (x : Option Plain). go_straight x flat ≢ Stuck) is h)

-- an instruction with an index or an offset has one
pub some_there : (f : ℕ → Plain) (o : Option ℕ) (flat : Flat) → go_straight (option_map f o) flat ≢ Stuck → o ≢ None
some_there f o flat h w = h (ap (λ (x : Option ℕ). go_straight (option_map f x) flat) w)

-- the machine that the values show, after an effect on them
shown_on : (flat : Flat) (has : Bool) (values : List ℕ) (sp base : ℕ) (memory : Contents) (globals : List ℕ) →
    IsShown flat has values sp base memory globals → (after : List ℕ) (top : ℕ) →
    goes_on (stack_of after top) flat ≡ moved flat has after top memory globals (flat.place.pc + 1) flat.place.opens
shown_on flat has values sp base memory globals shown after top =
    ap (λ (m : Option Contents). record (goes_on (stack_of after top) flat) { memory = m }) shown.memory_is
    ∙ ap (λ (g : List ℕ). record (goes_on (stack_of after top) flat) { memory = memory_where has memory; globals = g }) shown.globals_are

module _ (o : Option Plain) (p : Plain) (is : o ≡ Some p) (flat : Flat) (has : Bool) (values : List ℕ) (sp base : ℕ) (memory : Contents)
    (globals : List ℕ) (shown : IsShown flat has values sp base memory globals) where
  -- the operands fit
  pub operands_held : go_straight o flat ≢ Stuck → operands_fit p base (stack_of values sp) ≡ true
  operands_held h =
      let two = held_at o p flat is h in
      ap (λ (b : ℕ). operands_fit p b (stack_of values sp)) (sym shown.base_is)
      ∙ ap (λ (s : List ℕ). operands_fit p flat.place.base s) (sym shown.values_are) ∙ two.0

  -- an effect on values is there
  pub values_held : (f : List ℕ → Effect (List ℕ)) → straight p flat ≡ to_values flat (f flat.values) → go_straight o flat ≢ Stuck →
      f (stack_of values sp) ≢ Undefined
  values_held f rule h w =
      let two = held_at o p flat is h in
      two.1 (rule ∙ ap (λ (s : List ℕ). to_values flat (f s)) shown.values_are ∙ ap (to_values flat) w)

  -- what it gives
  pub values_go : (f : List ℕ → Effect (List ℕ)) → straight p flat ≡ to_values flat (f flat.values) → (after : List ℕ) (top : ℕ) →
      f (stack_of values sp) ≡ Gives (stack_of after top) → GoesTo (straight_of o flat) flat has (Ok top) after memory globals
  values_go f rule after top e =
      ap (λ (o : Option Plain). straight_of o flat) is ∙ rule
      ∙ ap (λ (s : List ℕ). to_values flat (f s)) shown.values_are ∙ ap (to_values flat) e
      ∙ ap (λ (to : Flat). Gives to) (shown_on flat has values sp base memory globals shown after top)

  -- its trap
  pub values_trap : (f : List ℕ → Effect (List ℕ)) → straight p flat ≡ to_values flat (f flat.values) → (trap : Trap) →
      f (stack_of values sp) ≡ Fails trap → straight_of o flat ≡ Fails trap
  values_trap f rule trap e =
      ap (λ (o : Option Plain). straight_of o flat) is ∙ rule
      ∙ ap (λ (s : List ℕ). to_values flat (f s)) shown.values_are ∙ ap (to_values flat) e

  -- an effect on the machine is there
  pub flat_held : (f : List ℕ → Effect Flat) → straight p flat ≡ f flat.values → go_straight o flat ≢ Stuck → f (stack_of values sp) ≢ Undefined
  flat_held f rule h w = (held_at o p flat is h).1 (rule ∙ ap f shown.values_are ∙ w)

  pub flat_does : (f : List ℕ → Effect Flat) → straight p flat ≡ f flat.values → (e : Effect Flat) → f (stack_of values sp) ≡ e → straight_of o flat ≡ e
  flat_does f rule e w = ap (λ (o : Option Plain). straight_of o flat) is ∙ rule ∙ ap f shown.values_are ∙ w

-- the rules

pub nop_rule : (flat : Flat) → straight op.Nop flat ≡ to_values flat (Gives flat.values)
unfolding straight
nop_rule flat = refl

pub unreachable_rule : (flat : Flat) → straight op.Unreachable flat ≡ Fails traps.Unreachable
unfolding straight
unreachable_rule flat = refl

pub drop_rule : (flat : Flat) → straight op.Drop flat ≡ to_values flat (drop_one flat.values)
unfolding straight
drop_rule flat = refl

pub select_rule : (flat : Flat) → straight op.Select flat ≡ to_values flat (select flat.values)
unfolding straight
select_rule flat = refl

pub get_rule : (x : ℕ) (flat : Flat) → straight (op.LocalGet x) flat ≡ to_values flat (push_value (local_value flat.place.base x flat.values) flat.values)
unfolding straight
get_rule x flat = refl

pub set_rule : (x : ℕ) (flat : Flat) → straight (op.LocalSet x) flat ≡ to_values flat (set_top flat.place.base x flat.values)
unfolding straight
set_rule x flat = refl

pub tee_rule : (x : ℕ) (flat : Flat) → straight (op.LocalTee x) flat ≡ to_values flat (tee_top flat.place.base x flat.values)
unfolding straight
tee_rule x flat = refl

pub global_get_rule : (x : ℕ) (flat : Flat) → straight (op.GlobalGet x) flat ≡ to_values flat (push_value (slice_get flat.globals x) flat.values)
unfolding straight
global_get_rule x flat = refl

pub global_set_rule : (x : ℕ) (flat : Flat) → straight (op.GlobalSet x) flat ≡ put_global x flat.values flat
unfolding straight
global_set_rule x flat = refl

pub load_rule : (code offset : ℕ) (flat : Flat) → straight (op.Load code offset) flat ≡ to_values flat (load_from code offset flat.memory flat.values)
unfolding straight
load_rule code offset flat = refl

pub store_rule : (code offset : ℕ) (flat : Flat) → straight (op.Store code offset) flat ≡ put_top code offset flat.memory flat.values flat
unfolding straight
store_rule code offset flat = refl

pub size_rule : (flat : Flat) → straight op.MemorySize flat ≡ to_values flat (size_of flat.memory flat.values)
unfolding straight
size_rule flat = refl

pub grow_rule : (flat : Flat) → straight op.MemoryGrow flat ≡ grow_memory flat.memory flat.values flat
unfolding straight
grow_rule flat = refl

pub const_rule : (value : ℕ) (flat : Flat) → straight (op.Const value) flat ≡ to_values flat (Gives (value ∷ flat.values))
unfolding straight
const_rule value flat = refl

pub unary_rule : (code : ℕ) (flat : Flat) → straight (op.Unary code) flat ≡ to_values flat (unary code flat.values)
unfolding straight
unary_rule code flat = refl

pub binary_rule : (code : ℕ) (flat : Flat) → straight (op.Binary code) flat ≡ to_values flat (binary code flat.values)
unfolding straight
binary_rule code flat = refl

-- how many operands there are, by what is defined

pub one_there : (values : List ℕ) (sp : ℕ) → drop_one (stack_of values sp) ≢ Undefined → 1 ≤ sp
one_there values zero h = absurd (h refl)
one_there values (suc n) h = omega arith

pub three_there : (values : List ℕ) (sp : ℕ) → select (stack_of values sp) ≢ Undefined → 3 ≤ sp
three_there values zero h = absurd (h refl)
three_there values (suc zero) h = absurd (h refl)
three_there values (suc (suc zero)) h = absurd (h refl)
three_there values (suc (suc (suc n))) h = omega arith

pub unary_one : (code : ℕ) (values : List ℕ) (sp : ℕ) → unary code (stack_of values sp) ≢ Undefined → 1 ≤ sp
unary_one code values zero h = absurd (h refl)
unary_one code values (suc n) h = omega arith

pub binary_two : (code : ℕ) (values : List ℕ) (sp : ℕ) → binary code (stack_of values sp) ≢ Undefined → 2 ≤ sp
binary_two code values zero h = absurd (h refl)
binary_two code values (suc zero) h = absurd (h refl)
binary_two code values (suc (suc n)) h = omega arith

pub set_one : (base x : ℕ) (values : List ℕ) (sp : ℕ) → set_top base x (stack_of values sp) ≢ Undefined → 1 ≤ sp
set_one base x values zero h = absurd (h refl)
set_one base x values (suc n) h = omega arith

pub tee_one : (base x : ℕ) (values : List ℕ) (sp : ℕ) → tee_top base x (stack_of values sp) ≢ Undefined → 1 ≤ sp
tee_one base x values zero h = absurd (h refl)
tee_one base x values (suc n) h = omega arith

pub load_one : (code offset : ℕ) (o : Option Contents) (values : List ℕ) (sp : ℕ) → load_from code offset o (stack_of values sp) ≢ Undefined → 1 ≤ sp
load_one code offset None values sp h = absurd (h refl)
load_one code offset (Some memory) values zero h = absurd (h refl)
load_one code offset (Some memory) values (suc n) h = omega arith

pub store_two : (code offset : ℕ) (o : Option Contents) (flat : Flat) (values : List ℕ) (sp : ℕ) → put_top code offset o (stack_of values sp) flat ≢ Undefined → 2 ≤ sp
store_two code offset None flat values sp h = absurd (h refl)
store_two code offset (Some memory) flat values zero h = absurd (h refl)
store_two code offset (Some memory) flat values (suc zero) h = absurd (h refl)
store_two code offset (Some memory) flat values (suc (suc n)) h = omega arith

pub grow_one : (o : Option Contents) (flat : Flat) (values : List ℕ) (sp : ℕ) → grow_memory o (stack_of values sp) flat ≢ Undefined → 1 ≤ sp
grow_one None flat values sp h = absurd (h refl)
grow_one (Some memory) flat values zero h = absurd (h refl)
grow_one (Some memory) flat values (suc n) h = omega arith

cond_there : (b : Bool) (e : Effect Flat) → cond b e Undefined ≢ Undefined → b ≡ true
cond_there true e h = refl
cond_there false e h = absurd (h refl)

pub global_there : (x : ℕ) (flat : Flat) (values : List ℕ) (sp : ℕ) → put_global x (stack_of values sp) flat ≢ Undefined → (1 ≤ sp) × (x < length flat.globals)
global_there x flat values zero h = absurd (h refl)
global_there x flat values (suc n) h =
    let there : nat_lt x (length flat.globals) ≡ true = cond_there (nat_lt x (length flat.globals)) _ h in
    (omega arith, grind (arith, nat_tests))

pub got_there : (o : Option ℕ) (values : List ℕ) → push_value o values ≢ Undefined → (v : ℕ) × (o ≡ Some v)
got_there None values h = absurd (h refl)
got_there (Some v) values h = (v, refl)

-- the operands' types

pub fits_type : (o : Option Num) (n : ℕ) → fits o n ≡ true → FitsType o n
fits_type None n e = absurd (cc)
fits_type (Some I32) n e = grind (arith, nat_tests)
fits_type (Some I64) n e = grind (arith, nat_tests)

pub both : (a b : Bool) → (a && b) ≡ true → (a ≡ true) × (b ≡ true)
both true true e = (refl, refl)
both true false e = absurd (cc)
both false b e = absurd (cc)

pub is_short : (n : ℕ) → is_i32 n ≡ true → n < 2 ^ 32
is_short n e = grind (arith, nat_tests)

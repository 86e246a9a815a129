-- What a straight instruction asks of the values that show a machine which is not stuck at it.
use Rattle.std.proofs.Common.{◌≡◌, ◌≢◌, ℕ, zero, suc, ◌+◌, ◌-◌, ◌<◌, ◌≤◌, true, List, length, reverse, slice_get, Option, Some, None, option_map, refl, sym, ap, subst, ◌∙◌, arith}
use Rattle.std.specs.Prelude.{slice_index}
use Rattle.std.proofs.lemmas.List.{length-reverse}
use Rattle.std.proofs.lemmas.Bool.Decides.{nat_tests}
use Rattle.std.proofs.lemmas.Option.{slice_get_within}
use Rattle.wasm_ops.specs.Table.{first_of, second_of}
use Rattle.linear_memory.specs.Contents.{Contents}
use Rattle.tree_machine.specs.Instructions.{Plain}
use Rattle.tree_machine.specs.Instructions as op
use Rattle.tree_machine.specs.Outcomes.{Effect, Undefined}
use Rattle.tree_machine.specs.Numeric.{unary, binary}
use Rattle.tree_machine.specs.Parametric.{drop_one, select}
use Rattle.tree_machine.specs.Variables.{push_value}
use Rattle.tree_machine.specs.MemoryAccess.{load_from}
use Rattle.flat_machine.specs.Flat.{Flat}
use Rattle.flat_machine.specs.Straight.{to_values, local_value, set_top, tee_top, put_global, put_top, grow_memory, straight}
use Rattle.flat_machine.specs.Moves.{Stuck, fits, operands_fit, go_straight}
use Rattle.flat_machine.specs.Shown.{stack_of}
use Rattle.straight_code.specs.Going.{CanGo, TakesOne, TakesTwo, TakesAddress, TakesStored, TakesLocal}
use Rattle.straight_code.proofs.Stacks.{length_stack, top_of, two_of}
use Rattle.straight_code.proofs.Codes.{IsNotStraight}
use Rattle.straight_code.proofs.Goes.{some_there, operands_held, values_held, flat_held, drop_rule, select_rule, get_rule, set_rule, tee_rule, global_get_rule, global_set_rule, load_rule, store_rule, grow_rule, unary_rule, binary_rule, one_there, three_there, unary_one, binary_two, set_one, tee_one, load_one, store_two, grow_one, global_there, got_there, fits_type, both, is_short}

-- nothing is executed where there is no instruction
there : (o : Option Plain) (flat : Flat) → go_straight o flat ≢ Stuck → o ≢ None
there o flat h w = h (ap (λ (x : Option Plain). go_straight x flat) w)

-- no branch and no call is straight
not_straight : (o : Option Plain) (flat : Flat) → IsNotStraight o → go_straight o flat ≡ Stuck
unfolding straight
not_straight None flat h = refl
not_straight (Some (op.Br label)) flat h = refl
not_straight (Some (op.BrIf label)) flat h = refl
not_straight (Some op.Return) flat h = refl
not_straight (Some (op.Call function)) flat h = refl
not_straight (Some (op.CallIndirect ty)) flat h = refl
not_straight (Some op.Unreachable) flat h = absurd h
not_straight (Some op.Nop) flat h = absurd h
not_straight (Some op.Drop) flat h = absurd h
not_straight (Some op.Select) flat h = absurd h
not_straight (Some (op.LocalGet x)) flat h = absurd h
not_straight (Some (op.LocalSet x)) flat h = absurd h
not_straight (Some (op.LocalTee x)) flat h = absurd h
not_straight (Some (op.GlobalGet x)) flat h = absurd h
not_straight (Some (op.GlobalSet x)) flat h = absurd h
not_straight (Some (op.Load code offset)) flat h = absurd h
not_straight (Some (op.Store code offset)) flat h = absurd h
not_straight (Some op.MemorySize) flat h = absurd h
not_straight (Some op.MemoryGrow) flat h = absurd h
not_straight (Some (op.Const value)) flat h = absurd h
not_straight (Some (op.Unary code)) flat h = absurd h
not_straight (Some (op.Binary code)) flat h = absurd h

-- the guards, at the front of the array

set_fits : (base x : ℕ) (values : List ℕ) (sp : ℕ) → 1 ≤ sp → operands_fit (op.LocalSet x) base (stack_of values sp) ≡ true → TakesLocal base x sp
set_fits base x values zero one e = absurd (omega arith)
set_fits base x values (suc n) one e =
    let count : length (stack_of values n) ≡ n = length_stack values n in
    let below : base + x < length (stack_of values n) = grind (arith, nat_tests) in
    record { below = omega arith }

tee_fits : (base x : ℕ) (values : List ℕ) (sp : ℕ) → 1 ≤ sp → operands_fit (op.LocalTee x) base (stack_of values sp) ≡ true → TakesLocal base x sp
tee_fits base x values zero one e = absurd (omega arith)
tee_fits base x values (suc n) one e =
    let count : length (stack_of values n) ≡ n = length_stack values n in
    let below : base + x < length (stack_of values n) = grind (arith, nat_tests) in
    record { below = omega arith }

unary_takes : (code base : ℕ) (values : List ℕ) (sp : ℕ) → 1 ≤ sp → operands_fit (op.Unary code) base (stack_of values sp) ≡ true → TakesOne code values sp
unary_takes code base values sp one e =
    let top = top_of values sp (sp - 1) (omega arith) in
    let fit : fits (first_of code) (slice_index values (sp - 1)) ≡ true = sym (ap (λ (s : List ℕ). operands_fit (op.Unary code) base s) top) ∙ e in
    record { one = one; first = fits_type (first_of code) (slice_index values (sp - 1)) fit }

binary_takes : (code base : ℕ) (values : List ℕ) (sp : ℕ) → 2 ≤ sp → operands_fit (op.Binary code) base (stack_of values sp) ≡ true → TakesTwo code values sp
binary_takes code base values sp two e =
    let tops = two_of values sp (sp - 2) (sp - 1) (omega arith) (omega arith) in
    let fit = both (fits (first_of code) (slice_index values (sp - 2))) (fits (second_of code) (slice_index values (sp - 1)))
    (sym (ap (λ (s : List ℕ). operands_fit (op.Binary code) base s) tops) ∙ e) in
    record {
      two = two;
      first = fits_type (first_of code) (slice_index values (sp - 2)) fit.0;
      second = fits_type (second_of code) (slice_index values (sp - 1)) fit.1;
    }

load_takes : (code offset base : ℕ) (values : List ℕ) (sp : ℕ) → 1 ≤ sp → operands_fit (op.Load code offset) base (stack_of values sp) ≡ true → TakesAddress values sp
load_takes code offset base values sp one e =
    let top = top_of values sp (sp - 1) (omega arith) in
    record { one = one; short = is_short (slice_index values (sp - 1)) (sym (ap (λ (s : List ℕ). operands_fit (op.Load code offset) base s) top) ∙ e) }

store_takes : (code offset base : ℕ) (values : List ℕ) (sp : ℕ) → 2 ≤ sp → operands_fit (op.Store code offset) base (stack_of values sp) ≡ true → TakesStored values sp
store_takes code offset base values sp two e =
    let tops = two_of values sp (sp - 2) (sp - 1) (omega arith) (omega arith) in
    record { two = two; short = is_short (slice_index values (sp - 2)) (sym (ap (λ (s : List ℕ). operands_fit (op.Store code offset) base s) tops) ∙ e) }

grow_takes : (base : ℕ) (values : List ℕ) (sp : ℕ) → 1 ≤ sp → operands_fit op.MemoryGrow base (stack_of values sp) ≡ true → TakesAddress values sp
grow_takes base values sp one e =
    let top = top_of values sp (sp - 1) (omega arith) in
    record { one = one; short = is_short (slice_index values (sp - 1)) (sym (ap (λ (s : List ℕ). operands_fit op.MemoryGrow base s) top) ∙ e) }

module _ (o : Option Plain) (values : List ℕ) (sp base : ℕ) (memory : Contents) (globals : List ℕ) (can : CanGo o values sp base memory globals) where
  -- there is an instruction
  pub instr_there : o ≢ None
  instr_there = there o can.0 can.3

  -- and it is straight
  pub never_other : IsNotStraight o → ⊥
  never_other other = can.3 (not_straight o can.0 other)

  -- its index or its offset is there
  pub number_there : (f : ℕ → Plain) (n : Option ℕ) → o ≡ option_map f n → n ≢ None
  number_there f n is = some_there f n can.0 (subst (λ (x : Option Plain). go_straight x can.0 ≢ Stuck) is can.3)

  fitting : (p : Plain) → o ≡ Some p → operands_fit p base (stack_of values sp) ≡ true
  fitting p is = operands_held o p is can.0 can.1 values sp base memory globals can.2 can.3

  on_values : (p : Plain) → o ≡ Some p → (f : List ℕ → Effect (List ℕ)) → straight p can.0 ≡ to_values can.0 (f can.0.values) → f (stack_of values sp) ≢ Undefined
  on_values p is f rule = values_held o p is can.0 can.1 values sp base memory globals can.2 f rule can.3

  on_flat : (p : Plain) → o ≡ Some p → (f : List ℕ → Effect Flat) → straight p can.0 ≡ f can.0.values → f (stack_of values sp) ≢ Undefined
  on_flat p is f rule = flat_held o p is can.0 can.1 values sp base memory globals can.2 f rule can.3

  pub drop_asks : o ≡ Some op.Drop → 1 ≤ sp
  drop_asks is = one_there values sp (on_values op.Drop is drop_one (drop_rule can.0))

  pub select_asks : o ≡ Some op.Select → 3 ≤ sp
  select_asks is = three_there values sp (on_values op.Select is select (select_rule can.0))

  pub get_asks : (x : ℕ) → o ≡ Some (op.LocalGet x) → base + x < sp
  get_asks x is =
      let count : length (stack_of values sp) ≡ sp = length_stack values sp in
      let turned : length (reverse (stack_of values sp)) ≡ length (stack_of values sp) = length-reverse (stack_of values sp) in
      let held = on_values (op.LocalGet x) is (λ s. push_value (local_value base x s) s)
      (get_rule x can.0 ∙ ap (λ (b : ℕ). to_values can.0 (push_value (local_value b x can.0.values) can.0.values)) can.2.base_is) in
      let got = got_there (local_value base x (stack_of values sp)) (stack_of values sp) held in
      let within : base + x < length (reverse (stack_of values sp)) = slice_get_within (reverse (stack_of values sp)) (base + x) got.0 got.1 in
      omega arith

  pub set_asks : (x : ℕ) → o ≡ Some (op.LocalSet x) → TakesLocal base x sp
  set_asks x is =
      let held = on_values (op.LocalSet x) is (set_top base x)
      (set_rule x can.0 ∙ ap (λ (b : ℕ). to_values can.0 (set_top b x can.0.values)) can.2.base_is) in
      set_fits base x values sp (set_one base x values sp held) (fitting (op.LocalSet x) is)

  pub tee_asks : (x : ℕ) → o ≡ Some (op.LocalTee x) → TakesLocal base x sp
  tee_asks x is =
      let held = on_values (op.LocalTee x) is (tee_top base x)
      (tee_rule x can.0 ∙ ap (λ (b : ℕ). to_values can.0 (tee_top b x can.0.values)) can.2.base_is) in
      tee_fits base x values sp (tee_one base x values sp held) (fitting (op.LocalTee x) is)

  pub global_get_asks : (x : ℕ) → o ≡ Some (op.GlobalGet x) → x < length globals
  global_get_asks x is =
      let held = on_values (op.GlobalGet x) is (λ s. push_value (slice_get globals x) s)
      (global_get_rule x can.0 ∙ ap (λ (g : List ℕ). to_values can.0 (push_value (slice_get g x) can.0.values)) can.2.globals_are) in
      let got = got_there (slice_get globals x) (stack_of values sp) held in
      slice_get_within globals x got.0 got.1

  pub global_set_asks : (x : ℕ) → o ≡ Some (op.GlobalSet x) → (1 ≤ sp) × (x < length globals)
  global_set_asks x is =
      let two = global_there x can.0 values sp (on_flat (op.GlobalSet x) is (λ s. put_global x s can.0) (global_set_rule x can.0)) in
      (two.0, subst (λ (g : List ℕ). x < length g) can.2.globals_are two.1)

  pub load_asks : (code offset : ℕ) → o ≡ Some (op.Load code offset) → TakesAddress values sp
  load_asks code offset is =
      let held = on_values (op.Load code offset) is (load_from code offset can.0.memory) (load_rule code offset can.0) in
      load_takes code offset base values sp (load_one code offset can.0.memory values sp held) (fitting (op.Load code offset) is)

  pub store_asks : (code offset : ℕ) → o ≡ Some (op.Store code offset) → TakesStored values sp
  store_asks code offset is =
      let held = on_flat (op.Store code offset) is (λ s. put_top code offset can.0.memory s can.0) (store_rule code offset can.0) in
      store_takes code offset base values sp (store_two code offset can.0.memory can.0 values sp held) (fitting (op.Store code offset) is)

  pub grow_asks : o ≡ Some op.MemoryGrow → TakesAddress values sp
  grow_asks is =
      let held = on_flat op.MemoryGrow is (λ s. grow_memory can.0.memory s can.0) (grow_rule can.0) in
      grow_takes base values sp (grow_one can.0.memory can.0 values sp held) (fitting op.MemoryGrow is)

  pub unary_asks : (code : ℕ) → o ≡ Some (op.Unary code) → TakesOne code values sp
  unary_asks code is =
      unary_takes code base values sp (unary_one code values sp (on_values (op.Unary code) is (unary code) (unary_rule code can.0))) (fitting (op.Unary code) is)

  pub binary_asks : (code : ℕ) → o ≡ Some (op.Binary code) → TakesTwo code values sp
  binary_asks code is =
      binary_takes code base values sp (binary_two code values sp (on_values (op.Binary code) is (binary code) (binary_rule code can.0))) (fitting (op.Binary code) is)

-- What a straight instruction makes of each machine that the values show, by what its helper leaves.
use Rattle.std.proofs.Common.{◌≡◌, ◌≢◌, ℕ, Bool, true, false, if◌then◌else◌, IfOk, IfErr, List, ◌∷◌, slice_get, Option, Some, Result, Ok, Err, refl, sym, ap, ◌∙◌}
use Rattle.wasm_ops.specs.declared.trap.Trap.{Trap}
use Rattle.wasm_ops.specs.declared.trap.Trap.TheVariants as traps
use Rattle.linear_memory.specs.Contents.{Contents}
use Rattle.tree_machine.specs.Instructions.{Plain}
use Rattle.tree_machine.specs.Instructions as op
use Rattle.tree_machine.specs.Outcomes.{Effect, Gives, Fails, Undefined}
use Rattle.tree_machine.specs.Numeric.{unary, binary}
use Rattle.tree_machine.specs.Parametric.{drop_one, select}
use Rattle.tree_machine.specs.Variables.{push_value}
use Rattle.tree_machine.specs.MemoryAccess.{load, load_from}
use Rattle.tree_machine.specs.MemorySize.{size_of}
use Rattle.flat_machine.specs.Flat.{Flat, goes_on}
use Rattle.flat_machine.specs.Straight.{to_values, local_value, set_top, tee_top, put_global, put_top, grow_memory}
use Rattle.flat_machine.specs.Shown.{stack_of, memory_where}
use Rattle.straight_code.specs.Going.{straight_of, Leaves}
use Rattle.straight_code.proofs.Goes.{values_held, values_go, values_trap, flat_held, flat_does, nop_rule, unreachable_rule, drop_rule, select_rule, get_rule, set_rule, tee_rule, global_get_rule, global_set_rule, load_rule, store_rule, size_rule, grow_rule, const_rule, unary_rule, binary_rule}

-- the memory is there

load_given : (has : Bool) (code offset : ℕ) (memory : Contents) (s : List ℕ) (e : Effect (List ℕ)) →
    load_from code offset (memory_where has memory) s ≢ Undefined → load code offset memory.bytes s ≡ e → load_from code offset (memory_where has memory) s ≡ e
load_given true code offset memory s e h is = is
load_given false code offset memory s e h is = absurd (h refl)

size_given : (has : Bool) (memory : Contents) (s : List ℕ) (e : Effect (List ℕ)) →
    size_of (memory_where has memory) s ≢ Undefined → size_of (Some memory) s ≡ e → size_of (memory_where has memory) s ≡ e
size_given true memory s e h is = is
size_given false memory s e h is = absurd (h refl)

store_given : (has : Bool) (code offset : ℕ) (memory now : Contents) (s below : List ℕ) (flat : Flat) →
    put_top code offset (memory_where has memory) s flat ≢ Undefined →
    put_top code offset (Some memory) s flat ≡ Gives (record (goes_on below flat) { memory = Some now }) →
    put_top code offset (memory_where has memory) s flat ≡ Gives (record (goes_on below flat) { memory = memory_where has now })
store_given true code offset memory now s below flat h is = is
store_given false code offset memory now s below flat h is = absurd (h refl)

trap_given : (has : Bool) (code offset : ℕ) (memory : Contents) (s : List ℕ) (flat : Flat) (e : Effect Flat) →
    put_top code offset (memory_where has memory) s flat ≢ Undefined → put_top code offset (Some memory) s flat ≡ e →
    put_top code offset (memory_where has memory) s flat ≡ e
trap_given true code offset memory s flat e h is = is
trap_given false code offset memory s flat e h is = absurd (h refl)

grow_given : (has : Bool) (memory now : Contents) (s after : List ℕ) (flat : Flat) → flat.memory ≡ memory_where has memory →
    grow_memory (memory_where has memory) s flat ≢ Undefined →
    (flat.memory ≡ Some memory → grow_memory (Some memory) s flat ≡ Gives (record (goes_on after flat) { memory = Some now })) →
    grow_memory (memory_where has memory) s flat ≡ Gives (record (goes_on after flat) { memory = memory_where has now })
grow_given true memory now s after flat same h is = is same
grow_given false memory now s after flat same h is = absurd (h refl)

module _ (o : Option Plain) (values : List ℕ) (sp base : ℕ) (memory : Contents) (globals : List ℕ) where
  pub nop_leaves : o ≡ Some op.Nop → Leaves o values sp base memory globals (Ok sp) values memory globals
  nop_leaves is flat has shown h = values_go o op.Nop is flat has values sp base memory globals shown (λ s. Gives s) (nop_rule flat) values sp refl

  pub unreachable_leaves : o ≡ Some op.Unreachable → Leaves o values sp base memory globals (Err traps.Unreachable) values memory globals
  unreachable_leaves is flat has shown h = ap (λ (x : Option Plain). straight_of x flat) is ∙ unreachable_rule flat

  pub drop_leaves : o ≡ Some op.Drop → (top : ℕ) → drop_one (stack_of values sp) ≡ Gives (stack_of values top) →
      Leaves o values sp base memory globals (Ok top) values memory globals
  drop_leaves is top e flat has shown h = values_go o op.Drop is flat has values sp base memory globals shown drop_one (drop_rule flat) values top e

  pub select_leaves : o ≡ Some op.Select → (after : List ℕ) (top : ℕ) → select (stack_of values sp) ≡ Gives (stack_of after top) →
      Leaves o values sp base memory globals (Ok top) after memory globals
  select_leaves is after top e flat has shown h = values_go o op.Select is flat has values sp base memory globals shown select (select_rule flat) after top e

  pub const_leaves : (v : ℕ) → o ≡ Some (op.Const v) → (after : List ℕ) (top : ℕ) → stack_of after top ≡ v ∷ stack_of values sp →
      Leaves o values sp base memory globals (Ok top) after memory globals
  const_leaves v is after top e flat has shown h =
      values_go o (op.Const v) is flat has values sp base memory globals shown (λ s. Gives (v ∷ s)) (const_rule v flat) after top
      (sym (ap (λ (s : List ℕ). Gives s) e))

  pub get_leaves : (x : ℕ) → o ≡ Some (op.LocalGet x) → (after : List ℕ) (top : ℕ) →
      push_value (local_value base x (stack_of values sp)) (stack_of values sp) ≡ Gives (stack_of after top) →
      Leaves o values sp base memory globals (Ok top) after memory globals
  get_leaves x is after top e flat has shown h =
      values_go o (op.LocalGet x) is flat has values sp base memory globals shown (λ s. push_value (local_value base x s) s)
      (get_rule x flat ∙ ap (λ (b : ℕ). to_values flat (push_value (local_value b x flat.values) flat.values)) shown.base_is) after top e

  pub set_leaves : (x : ℕ) → o ≡ Some (op.LocalSet x) → (after : List ℕ) (top : ℕ) → set_top base x (stack_of values sp) ≡ Gives (stack_of after top) →
      Leaves o values sp base memory globals (Ok top) after memory globals
  set_leaves x is after top e flat has shown h =
      values_go o (op.LocalSet x) is flat has values sp base memory globals shown (set_top base x)
      (set_rule x flat ∙ ap (λ (b : ℕ). to_values flat (set_top b x flat.values)) shown.base_is) after top e

  pub tee_leaves : (x : ℕ) → o ≡ Some (op.LocalTee x) → (after : List ℕ) (top : ℕ) → tee_top base x (stack_of values sp) ≡ Gives (stack_of after top) →
      Leaves o values sp base memory globals (Ok top) after memory globals
  tee_leaves x is after top e flat has shown h =
      values_go o (op.LocalTee x) is flat has values sp base memory globals shown (tee_top base x)
      (tee_rule x flat ∙ ap (λ (b : ℕ). to_values flat (tee_top b x flat.values)) shown.base_is) after top e

  pub global_get_leaves : (x : ℕ) → o ≡ Some (op.GlobalGet x) → (after : List ℕ) (top : ℕ) →
      push_value (slice_get globals x) (stack_of values sp) ≡ Gives (stack_of after top) →
      Leaves o values sp base memory globals (Ok top) after memory globals
  global_get_leaves x is after top e flat has shown h =
      values_go o (op.GlobalGet x) is flat has values sp base memory globals shown (λ s. push_value (slice_get globals x) s)
      (global_get_rule x flat ∙ ap (λ (g : List ℕ). to_values flat (push_value (slice_get g x) flat.values)) shown.globals_are) after top e

  pub global_set_leaves : (x : ℕ) → o ≡ Some (op.GlobalSet x) → (top : ℕ) (variables : List ℕ) →
      ((flat : Flat) → flat.globals ≡ globals → put_global x (stack_of values sp) flat ≡ Gives (record (goes_on (stack_of values top) flat) { globals = variables })) →
      Leaves o values sp base memory globals (Ok top) values memory variables
  global_set_leaves x is top variables e flat has shown h =
      flat_does o (op.GlobalSet x) is flat has values sp base memory globals shown (λ s. put_global x s flat) (global_set_rule x flat) _ (e flat shown.globals_are)
      ∙ ap (λ (m : Option Contents). Gives (record (goes_on (stack_of values top) flat) { globals = variables; memory = m })) shown.memory_is

  pub load_leaves : (code offset : ℕ) → o ≡ Some (op.Load code offset) → (after : List ℕ) (top : ℕ) →
      load code offset memory.bytes (stack_of values sp) ≡ Gives (stack_of after top) → Leaves o values sp base memory globals (Ok top) after memory globals
  load_leaves code offset is after top e flat has shown h =
      let rule = load_rule code offset flat ∙ ap (λ (m : Option Contents). to_values flat (load_from code offset m flat.values)) shown.memory_is in
      let held = values_held o (op.Load code offset) is flat has values sp base memory globals shown (load_from code offset (memory_where has memory)) rule h in
      values_go o (op.Load code offset) is flat has values sp base memory globals shown (load_from code offset (memory_where has memory)) rule after top
      (load_given has code offset memory (stack_of values sp) (Gives (stack_of after top)) held e)

  pub load_traps : (code offset : ℕ) → o ≡ Some (op.Load code offset) → (trap : Trap) (after : List ℕ) →
      load code offset memory.bytes (stack_of values sp) ≡ Fails trap → Leaves o values sp base memory globals (Err trap) after memory globals
  load_traps code offset is trap after e flat has shown h =
      let rule = load_rule code offset flat ∙ ap (λ (m : Option Contents). to_values flat (load_from code offset m flat.values)) shown.memory_is in
      let held = values_held o (op.Load code offset) is flat has values sp base memory globals shown (load_from code offset (memory_where has memory)) rule h in
      values_trap o (op.Load code offset) is flat has values sp base memory globals shown (load_from code offset (memory_where has memory)) rule trap
      (load_given has code offset memory (stack_of values sp) (Fails trap) held e)

  pub store_leaves : (code offset : ℕ) → o ≡ Some (op.Store code offset) → (top : ℕ) (now : Contents) →
      ((flat : Flat) → put_top code offset (Some memory) (stack_of values sp) flat ≡ Gives (record (goes_on (stack_of values top) flat) { memory = Some now })) →
      Leaves o values sp base memory globals (Ok top) values now globals
  store_leaves code offset is top now e flat has shown h =
      let rule = store_rule code offset flat ∙ ap (λ (m : Option Contents). put_top code offset m flat.values flat) shown.memory_is in
      let held = flat_held o (op.Store code offset) is flat has values sp base memory globals shown (λ s. put_top code offset (memory_where has memory) s flat) rule h in
      flat_does o (op.Store code offset) is flat has values sp base memory globals shown (λ s. put_top code offset (memory_where has memory) s flat) rule _
      (store_given has code offset memory now (stack_of values sp) (stack_of values top) flat held (e flat))
      ∙ ap (λ (g : List ℕ). Gives (record (goes_on (stack_of values top) flat) { memory = memory_where has now; globals = g })) shown.globals_are

  pub store_traps : (code offset : ℕ) → o ≡ Some (op.Store code offset) → (trap : Trap) (now : Contents) →
      ((flat : Flat) → put_top code offset (Some memory) (stack_of values sp) flat ≡ Fails trap) →
      Leaves o values sp base memory globals (Err trap) values now globals
  store_traps code offset is trap now e flat has shown h =
      let rule = store_rule code offset flat ∙ ap (λ (m : Option Contents). put_top code offset m flat.values flat) shown.memory_is in
      let held = flat_held o (op.Store code offset) is flat has values sp base memory globals shown (λ s. put_top code offset (memory_where has memory) s flat) rule h in
      flat_does o (op.Store code offset) is flat has values sp base memory globals shown (λ s. put_top code offset (memory_where has memory) s flat) rule (Fails trap)
      (trap_given has code offset memory (stack_of values sp) flat (Fails trap) held (e flat))

  pub grow_leaves : o ≡ Some op.MemoryGrow → (after : List ℕ) (top : ℕ) (now : Contents) →
      ((flat : Flat) → flat.memory ≡ Some memory →
      grow_memory (Some memory) (stack_of values sp) flat ≡ Gives (record (goes_on (stack_of after top) flat) { memory = Some now })) →
      Leaves o values sp base memory globals (Ok top) after now globals
  grow_leaves is after top now e flat has shown h =
      let rule = grow_rule flat ∙ ap (λ (m : Option Contents). grow_memory m flat.values flat) shown.memory_is in
      let held = flat_held o op.MemoryGrow is flat has values sp base memory globals shown (λ s. grow_memory (memory_where has memory) s flat) rule h in
      flat_does o op.MemoryGrow is flat has values sp base memory globals shown (λ s. grow_memory (memory_where has memory) s flat) rule _
      (grow_given has memory now (stack_of values sp) (stack_of after top) flat shown.memory_is held (e flat))
      ∙ ap (λ (g : List ℕ). Gives (record (goes_on (stack_of after top) flat) { memory = memory_where has now; globals = g })) shown.globals_are

  pub size_leaves : o ≡ Some op.MemorySize → (after : List ℕ) (top : ℕ) → size_of (Some memory) (stack_of values sp) ≡ Gives (stack_of after top) →
      Leaves o values sp base memory globals (Ok top) after memory globals
  size_leaves is after top e flat has shown h =
      let rule = size_rule flat ∙ ap (λ (m : Option Contents). to_values flat (size_of m flat.values)) shown.memory_is in
      let held = values_held o op.MemorySize is flat has values sp base memory globals shown (size_of (memory_where has memory)) rule h in
      values_go o op.MemorySize is flat has values sp base memory globals shown (size_of (memory_where has memory)) rule after top
      (size_given has memory (stack_of values sp) (Gives (stack_of after top)) held e)

  pub unary_leaves : (code : ℕ) → o ≡ Some (op.Unary code) → (after : List ℕ) (top : ℕ) → unary code (stack_of values sp) ≡ Gives (stack_of after top) →
      Leaves o values sp base memory globals (Ok top) after memory globals
  unary_leaves code is after top e flat has shown h =
      values_go o (op.Unary code) is flat has values sp base memory globals shown (unary code) (unary_rule code flat) after top e

  pub binary_leaves : (code : ℕ) → o ≡ Some (op.Binary code) → (after : List ℕ) (top : ℕ) → binary code (stack_of values sp) ≡ Gives (stack_of after top) →
      Leaves o values sp base memory globals (Ok top) after memory globals
  binary_leaves code is after top e flat has shown h =
      values_go o (op.Binary code) is flat has values sp base memory globals shown (binary code) (binary_rule code flat) after top e

  pub binary_traps : (code : ℕ) → o ≡ Some (op.Binary code) → (trap : Trap) (after : List ℕ) → binary code (stack_of values sp) ≡ Fails trap →
      Leaves o values sp base memory globals (Err trap) after memory globals
  binary_traps code is trap after e flat has shown h =
      values_trap o (op.Binary code) is flat has values sp base memory globals shown (binary code) (binary_rule code flat) trap e

  pub unary_traps : (code : ℕ) → o ≡ Some (op.Unary code) → (trap : Trap) (after : List ℕ) → unary code (stack_of values sp) ≡ Fails trap →
      Leaves o values sp base memory globals (Err trap) after memory globals
  unary_traps code is trap after e flat has shown h =
      values_trap o (op.Unary code) is flat has values sp base memory globals shown (unary code) (unary_rule code flat) trap e

  -- by the result of a helper

  pub load_does : (code offset : ℕ) → o ≡ Some (op.Load code offset) → (r : Result ℕ Trap) (after : List ℕ) →
      IfOk r (λ top. load code offset memory.bytes (stack_of values sp) ≡ Gives (stack_of after top)) →
      IfErr r (λ trap. load code offset memory.bytes (stack_of values sp) ≡ Fails trap) → Leaves o values sp base memory globals r after memory globals
  load_does code offset is (Ok top) after done fails = load_leaves code offset is after top done
  load_does code offset is (Err trap) after done fails = load_traps code offset is trap after fails

  pub store_does : (code offset : ℕ) → o ≡ Some (op.Store code offset) → (r : Result ℕ Trap) (now : Contents) →
      IfOk r (λ top. (flat : Flat) → put_top code offset (Some memory) (stack_of values sp) flat ≡ Gives (record (goes_on (stack_of values top) flat) { memory = Some now })) →
      IfErr r (λ trap. (flat : Flat) → put_top code offset (Some memory) (stack_of values sp) flat ≡ Fails trap) →
      Leaves o values sp base memory globals r values now globals
  store_does code offset is (Ok top) now done fails = store_leaves code offset is top now done
  store_does code offset is (Err trap) now done fails = store_traps code offset is trap now fails

  pub binary_does : (code : ℕ) → o ≡ Some (op.Binary code) → (r : Result ℕ Trap) (after : List ℕ) →
      IfOk r (λ top. binary code (stack_of values sp) ≡ Gives (stack_of after top)) →
      IfErr r (λ trap. binary code (stack_of values sp) ≡ Fails trap) → Leaves o values sp base memory globals r after memory globals
  binary_does code is (Ok top) after done fails = binary_leaves code is after top done
  binary_does code is (Err trap) after done fails = binary_traps code is trap after fails

  pub numeric_does : (b : Bool) (code : ℕ) → o ≡ Some (if b then op.Unary code else op.Binary code) → (r : Result ℕ Trap) (after : List ℕ) →
      IfOk r (λ top. (if b then unary code (stack_of values sp) else binary code (stack_of values sp)) ≡ Gives (stack_of after top)) →
      IfErr r (λ trap. (if b then unary code (stack_of values sp) else binary code (stack_of values sp)) ≡ Fails trap) →
      Leaves o values sp base memory globals r after memory globals
  numeric_does true code is (Ok top) after done fails = unary_leaves code is after top done
  numeric_does true code is (Err trap) after done fails = unary_traps code is trap after fails
  numeric_does false code is (Ok top) after done fails = binary_leaves code is after top done
  numeric_does false code is (Err trap) after done fails = binary_traps code is trap after fails

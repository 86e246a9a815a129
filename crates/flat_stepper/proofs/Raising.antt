-- Instructions that leave a value or an open block more, from where a machine stands.
use Rattle.std.proofs.Common.{◌≡◌, ◌≢◌, ◌⊎◌, ◌≤◌, ◌<◌, ℕ, ◌+◌, Bool, true, false, List, ◌∷◌, length, reverse, slice_get, Option, Some, None, refl, sym, ◌∙◌, ap, subst, arith}
use Rattle.std.specs.Prelude.{option_map}
use Rattle.std.proofs.lemmas.List.{length-reverse}
use Rattle.std.proofs.lemmas.Option.{slice_get_within}
use Rattle.linear_memory.specs.Contents.{Contents}
use Rattle.wasm_form.specs.declared.instr.Instr.{Instr}
use Rattle.wasm_form.specs.declared.parts.Parts.{Parts}
use Rattle.code_map.specs.declared.map.CodeMap.{CodeMap}
use Rattle.tree_machine.specs.Limits.{most_values}
use Rattle.tree_machine.specs.Outcomes.{Gives}
use Rattle.tree_machine.specs.Instructions.{Plain, plain_of, index_in, i32_in, i64_in}
use Rattle.tree_machine.specs.Instructions as op
use Rattle.tree_machine.specs.Variables.{push_value}
use Rattle.tree_machine.specs.MemorySize.{size_of, pages_in}
use Rattle.flat_machine.specs.Flat.{Flat, goes_on}
use Rattle.flat_machine.specs.Control.{begin_list}
use Rattle.flat_machine.specs.Straight.{straight, to_values, local_value}
use Rattle.flat_machine.specs.Moves.{Executes, Stuck, executes, go_straight, places_in, move}
use Rattle.flat_machine.specs.Shown.{stack_of, memory_where, moved}
use Rattle.flat_stepper.specs.declared.within.Within.{Within}
use Rattle.flat_stepper.specs.declared.within.Spot.{Spot}
use Rattle.flat_stepper.specs.Pauses.{IsFull}
use Rattle.flat_stepper.specs.Standing.{Stands}
use Rattle.straight_code.proofs.Stacks.{length_stack}
use Rattle.flat_stepper.proofs.Arrivals.{lands, arrives, overfills}
use Rattle.flat_stepper.proofs.Codes.{IsPlainCode, moves_begin, moves_straight}

-- what these instructions are
local_plain : (i : Instr) → i.code ≡ 0x20 → plain_of i ≡ option_map (λ x. op.LocalGet x) (index_in i.imm)
unfolding plain_of
local_plain i e = rw e refl

global_plain : (i : Instr) → i.code ≡ 0x23 → plain_of i ≡ option_map (λ x. op.GlobalGet x) (index_in i.imm)
unfolding plain_of
global_plain i e = rw e refl

size_plain : (i : Instr) → i.code ≡ 0x3F → plain_of i ≡ Some op.MemorySize
unfolding plain_of
size_plain i e = rw e refl

constant_32_plain : (i : Instr) → i.code ≡ 0x41 → plain_of i ≡ option_map (λ n. op.Const n) (i32_in i.imm)
unfolding plain_of
constant_32_plain i e = rw e refl

constant_64_plain : (i : Instr) → i.code ≡ 0x42 → plain_of i ≡ option_map (λ n. op.Const n) (i64_in i.imm)
unfolding plain_of
constant_64_plain i e = rw e refl

-- a code that none of these numbers is
plain_code : (n k : ℕ) → n ≡ k → IsPlainCode k → IsPlainCode n
plain_code n k e p = subst IsPlainCode (sym e) p

is_32 : IsPlainCode 0x20
is_32 = (λ w. cc, λ w. cc, λ w. cc, λ w. cc, λ w. cc, λ w. cc, λ w. cc, λ w. cc, λ w. cc, λ w. cc, λ w. cc)

is_35 : IsPlainCode 0x23
is_35 = (λ w. cc, λ w. cc, λ w. cc, λ w. cc, λ w. cc, λ w. cc, λ w. cc, λ w. cc, λ w. cc, λ w. cc, λ w. cc)

is_63 : IsPlainCode 0x3F
is_63 = (λ w. cc, λ w. cc, λ w. cc, λ w. cc, λ w. cc, λ w. cc, λ w. cc, λ w. cc, λ w. cc, λ w. cc, λ w. cc)

is_65 : IsPlainCode 0x41
is_65 = (λ w. cc, λ w. cc, λ w. cc, λ w. cc, λ w. cc, λ w. cc, λ w. cc, λ w. cc, λ w. cc, λ w. cc, λ w. cc)

is_66 : IsPlainCode 0x42
is_66 = (λ w. cc, λ w. cc, λ w. cc, λ w. cc, λ w. cc, λ w. cc, λ w. cc, λ w. cc, λ w. cc, λ w. cc, λ w. cc)

-- the effects of the straight instructions that push a value
goes_local : (x : ℕ) (flat : Flat) → go_straight (Some (op.LocalGet x)) flat ≡ executes (to_values flat (push_value (local_value flat.place.base x flat.values) flat.values))
unfolding straight
goes_local x flat = refl

goes_global : (x : ℕ) (flat : Flat) → go_straight (Some (op.GlobalGet x)) flat ≡ executes (to_values flat (push_value (slice_get flat.globals x) flat.values))
unfolding straight
goes_global x flat = refl

goes_size : (flat : Flat) → go_straight (Some op.MemorySize) flat ≡ executes (to_values flat (size_of flat.memory flat.values))
unfolding straight
goes_size flat = refl

goes_constant : (n : ℕ) (flat : Flat) → go_straight (Some (op.Const n)) flat ≡ executes (Gives (goes_on (n ∷ flat.values) flat))
unfolding straight
goes_constant n flat = refl

-- an index or a number that an instruction must have
pub there : (f : ℕ → Plain) (o : Option ℕ) (flat : Flat) → go_straight (option_map f o) flat ≢ Stuck → o ≢ None
there f None flat free = λ w. free refl
there f (Some x) flat free = λ w. cc

-- a variable that must be there
record Pushes (o : Option ℕ) (flat : Flat) : Type 0 where
  value : ℕ
  is : o ≡ Some value

pushes : (o : Option ℕ) (flat : Flat) → executes (to_values flat (push_value o flat.values)) ≢ Stuck → Pushes o flat
pushes None flat free = absurd (free refl)
pushes (Some value) flat free = record { value = value; is = refl }

below_length : (l : List ℕ) (k v : ℕ) → slice_get l k ≡ Some v → k < length l
below_length l k v e = slice_get_within l k v e

module _ (m : Parts) (map : CodeMap) (flat : Flat) (has : Bool) (within : Within) (i : Instr) (old : List ℕ) (memory : Contents) (globals : List ℕ) (at : Spot)
    (s : Stands m map flat has within i old memory globals at) where
  -- the array has no place for what the instruction makes
  full : (to : Flat) → move m map flat ≡ executes (Gives to) → places_in to ≡ places_in flat + 1 → (places : ℕ) → places < at.sp + at.opens + 1 → IsFull m map places flat
  full to moves more places few =
      let count : length (stack_of old at.sp) ≡ at.sp = length_stack old at.sp in
      let values_are : length flat.values ≡ length (stack_of old at.sp) = ap length s.shown.values_are in
      let opens = s.opens_are in
      (omega arith, λ most. moves ∙ overfills to (places_in flat + 1) more (omega arith))

  -- one value more
  pub pushed : (value sp : ℕ) (new : List ℕ) (to : Spot) → move m map flat ≡ executes (Gives (goes_on (value ∷ flat.values) flat)) → stack_of new to.sp ≡ value ∷ stack_of old at.sp →
      to.pc ≡ at.pc + 1 → to.opens ≡ at.opens → to.sp + to.opens ≤ most_values → move m map flat ≡ Executes (moved flat has new to.sp memory globals to.pc to.opens)
  pushed value sp new to moves top pc opens room =
      let pc_is = s.pc_is in
      let opens_are = s.opens_are in
      moves
      ∙ arrives flat (goes_on (value ∷ flat.values) flat) has memory globals new to.sp to.pc to.opens
      (lands flat has memory globals (value ∷ flat.values) new to.sp (flat.place.pc + 1) flat.place.opens to.pc to.opens s.shown.memory_is s.shown.globals_are
      (ap (λ (v : List ℕ). value ∷ v) s.shown.values_are ∙ sym top) (omega arith) (omega arith))
      room

  pub full_push : (value : ℕ) → move m map flat ≡ executes (Gives (goes_on (value ∷ flat.values) flat)) → (places : ℕ) → places < at.sp + at.opens + 1 → IsFull m map places flat
  full_push value moves places few = full (goes_on (value ∷ flat.values) flat) moves (omega arith) places few

  -- the machine as it stands
  pub shows : moved flat has old at.sp memory globals at.pc at.opens ≡ flat
  shows = sym (lands flat has memory globals flat.values old at.sp flat.place.pc flat.place.opens at.pc at.opens s.shown.memory_is s.shown.globals_are s.shown.values_are s.pc_is s.opens_are)

  -- block and loop
  begin_moves : (i.code ≡ 0x02) ⊎ (i.code ≡ 0x03) → move m map flat ≡ executes (Gives (begin_list flat.values flat))
  begin_moves code = s.moves ∙ moves_begin m map (length within.code.now) i flat code

  pub begins : (i.code ≡ 0x02) ⊎ (i.code ≡ 0x03) → (to : Spot) → to.pc ≡ at.pc + 1 → to.sp ≡ at.sp → to.opens ≡ at.opens + 1 → to.sp + to.opens ≤ most_values →
      move m map flat ≡ Executes (moved flat has old to.sp memory globals to.pc to.opens)
  begins code to pc sp opens room =
      let pc_is = s.pc_is in
      let opens_are = s.opens_are in
      begin_moves code
      ∙ arrives flat (begin_list flat.values flat) has memory globals old to.sp to.pc to.opens
      (lands flat has memory globals flat.values old to.sp (flat.place.pc + 1) (flat.place.opens + 1) to.pc to.opens s.shown.memory_is s.shown.globals_are
      (s.shown.values_are ∙ ap (λ (n : ℕ). stack_of old n) (sym sp)) (omega arith) (omega arith))
      room

  pub begin_full : (i.code ≡ 0x02) ⊎ (i.code ≡ 0x03) → (places : ℕ) → places < at.sp + at.opens + 1 → IsFull m map places flat
  begin_full code places few = full (begin_list flat.values flat) (begin_moves code) (omega arith) places few

  -- straight code
  pub straight_moves : IsPlainCode i.code → move m map flat ≡ go_straight (plain_of i) flat
  straight_moves code = s.moves ∙ moves_straight m map (length within.code.now) i flat code

  -- local.get
  local_moves : i.code ≡ 0x20 → move m map flat ≡ go_straight (option_map (λ x. op.LocalGet x) (index_in i.imm)) flat
  local_moves code = straight_moves (plain_code i.code 0x20 code is_32) ∙ ap (λ (o : Option Plain). go_straight o flat) (local_plain i code)

  pub local_there : i.code ≡ 0x20 → index_in i.imm ≢ None
  local_there code = there (λ x. op.LocalGet x) (index_in i.imm) flat (λ w. s.free (local_moves code ∙ w))

  local_is : i.code ≡ 0x20 → (x : ℕ) → index_in i.imm ≡ Some x → move m map flat ≡ executes (to_values flat (push_value (local_value within.base x (stack_of old at.sp)) flat.values))
  local_is code x e =
      local_moves code
      ∙ ap (λ (o : Option ℕ). go_straight (option_map (λ x. op.LocalGet x) o) flat) e
      ∙ goes_local x flat
      ∙ ap (λ (b : ℕ). executes (to_values flat (push_value (local_value b x flat.values) flat.values))) s.shown.base_is
      ∙ ap (λ (v : List ℕ). executes (to_values flat (push_value (local_value within.base x v) flat.values))) s.shown.values_are

  local_pushes : i.code ≡ 0x20 → (x : ℕ) → index_in i.imm ≡ Some x → Pushes (local_value within.base x (stack_of old at.sp)) flat
  local_pushes code x e = pushes (local_value within.base x (stack_of old at.sp)) flat (λ w. s.free (local_is code x e ∙ w))

  pub local_below : i.code ≡ 0x20 → (x : ℕ) → index_in i.imm ≡ Some x → within.base + x < at.sp
  local_below code x e =
      let p = local_pushes code x e in
      let below : within.base + x < length (reverse (stack_of old at.sp)) = below_length (reverse (stack_of old at.sp)) (within.base + x) p.value p.is in
      let turned : length (reverse (stack_of old at.sp)) ≡ length (stack_of old at.sp) = length-reverse (stack_of old at.sp) in
      let count : length (stack_of old at.sp) ≡ at.sp = length_stack old at.sp in
      omega arith

  -- what a variable's instruction pushes, and what stands on the array then
  variable_pushed : (o : Option ℕ) → move m map flat ≡ executes (to_values flat (push_value o flat.values)) → Pushes o flat → (new : List ℕ) (to : Spot) →
      push_value o (stack_of old at.sp) ≡ Gives (stack_of new to.sp) → to.pc ≡ at.pc + 1 → to.opens ≡ at.opens → to.sp + to.opens ≤ most_values →
      move m map flat ≡ Executes (moved flat has new to.sp memory globals to.pc to.opens)
  variable_pushed o moves p new to gets pc opens room =
      let given : Gives (p.value ∷ stack_of old at.sp) ≡ Gives (stack_of new to.sp) = sym (ap (λ (o : Option ℕ). push_value o (stack_of old at.sp)) p.is) ∙ gets in
      let top : stack_of new to.sp ≡ p.value ∷ stack_of old at.sp = cc in
      pushed p.value at.sp new to (moves ∙ ap (λ (o : Option ℕ). executes (to_values flat (push_value o flat.values))) p.is) top pc opens room

  variable_full : (o : Option ℕ) → move m map flat ≡ executes (to_values flat (push_value o flat.values)) → Pushes o flat → (places : ℕ) → places < at.sp + at.opens + 1 →
      IsFull m map places flat
  variable_full o moves p places few = full_push p.value (moves ∙ ap (λ (o : Option ℕ). executes (to_values flat (push_value o flat.values))) p.is) places few

  some_index : (o : Option ℕ) → o ≢ None → (x : ℕ) × (o ≡ Some x)
  some_index None some = absurd (some refl)
  some_index (Some x) some = (x, refl)

  pub local_full : i.code ≡ 0x20 → (places : ℕ) → places < at.sp + at.opens + 1 → IsFull m map places flat
  local_full code places few =
      let x = some_index (index_in i.imm) (local_there code) in
      variable_full _ (local_is code x.0 x.1) (local_pushes code x.0 x.1) places few

  pub local_pushed : i.code ≡ 0x20 → (x : ℕ) → index_in i.imm ≡ Some x → (new : List ℕ) (to : Spot) →
      push_value (local_value within.base x (stack_of old at.sp)) (stack_of old at.sp) ≡ Gives (stack_of new to.sp) → to.pc ≡ at.pc + 1 → to.opens ≡ at.opens → to.sp + to.opens ≤ most_values →
      move m map flat ≡ Executes (moved flat has new to.sp memory globals to.pc to.opens)
  local_pushed code x e new to gets pc opens room = variable_pushed _ (local_is code x e) (local_pushes code x e) new to gets pc opens room

  -- global.get
  global_moves : i.code ≡ 0x23 → move m map flat ≡ go_straight (option_map (λ x. op.GlobalGet x) (index_in i.imm)) flat
  global_moves code = straight_moves (plain_code i.code 0x23 code is_35) ∙ ap (λ (o : Option Plain). go_straight o flat) (global_plain i code)

  pub global_there : i.code ≡ 0x23 → index_in i.imm ≢ None
  global_there code = there (λ x. op.GlobalGet x) (index_in i.imm) flat (λ w. s.free (global_moves code ∙ w))

  global_is : i.code ≡ 0x23 → (x : ℕ) → index_in i.imm ≡ Some x → move m map flat ≡ executes (to_values flat (push_value (slice_get globals x) flat.values))
  global_is code x e =
      global_moves code
      ∙ ap (λ (o : Option ℕ). go_straight (option_map (λ x. op.GlobalGet x) o) flat) e
      ∙ goes_global x flat
      ∙ ap (λ (g : List ℕ). executes (to_values flat (push_value (slice_get g x) flat.values))) s.shown.globals_are

  global_pushes : i.code ≡ 0x23 → (x : ℕ) → index_in i.imm ≡ Some x → Pushes (slice_get globals x) flat
  global_pushes code x e = pushes (slice_get globals x) flat (λ w. s.free (global_is code x e ∙ w))

  pub global_below : i.code ≡ 0x23 → (x : ℕ) → index_in i.imm ≡ Some x → x < length globals
  global_below code x e = let p = global_pushes code x e in below_length globals x p.value p.is

  pub global_full : i.code ≡ 0x23 → (places : ℕ) → places < at.sp + at.opens + 1 → IsFull m map places flat
  global_full code places few =
      let x = some_index (index_in i.imm) (global_there code) in
      variable_full _ (global_is code x.0 x.1) (global_pushes code x.0 x.1) places few

  pub global_pushed : i.code ≡ 0x23 → (x : ℕ) → index_in i.imm ≡ Some x → (new : List ℕ) (to : Spot) → push_value (slice_get globals x) (stack_of old at.sp) ≡ Gives (stack_of new to.sp) →
      to.pc ≡ at.pc + 1 → to.opens ≡ at.opens → to.sp + to.opens ≤ most_values → move m map flat ≡ Executes (moved flat has new to.sp memory globals to.pc to.opens)
  global_pushed code x e new to gets pc opens room = variable_pushed _ (global_is code x e) (global_pushes code x e) new to gets pc opens room

  -- constants
  constant_32_moves : i.code ≡ 0x41 → move m map flat ≡ go_straight (option_map (λ n. op.Const n) (i32_in i.imm)) flat
  constant_32_moves code = straight_moves (plain_code i.code 0x41 code is_65) ∙ ap (λ (o : Option Plain). go_straight o flat) (constant_32_plain i code)

  constant_64_moves : i.code ≡ 0x42 → move m map flat ≡ go_straight (option_map (λ n. op.Const n) (i64_in i.imm)) flat
  constant_64_moves code = straight_moves (plain_code i.code 0x42 code is_66) ∙ ap (λ (o : Option Plain). go_straight o flat) (constant_64_plain i code)

  pub constant_32_there : i.code ≡ 0x41 → i32_in i.imm ≢ None
  constant_32_there code = there (λ n. op.Const n) (i32_in i.imm) flat (λ w. s.free (constant_32_moves code ∙ w))

  pub constant_64_there : i.code ≡ 0x42 → i64_in i.imm ≢ None
  constant_64_there code = there (λ n. op.Const n) (i64_in i.imm) flat (λ w. s.free (constant_64_moves code ∙ w))

  pub constant_32_is : i.code ≡ 0x41 → (n : ℕ) → i32_in i.imm ≡ Some n → move m map flat ≡ executes (Gives (goes_on (n ∷ flat.values) flat))
  constant_32_is code n e = constant_32_moves code ∙ ap (λ (o : Option ℕ). go_straight (option_map (λ n. op.Const n) o) flat) e ∙ goes_constant n flat

  pub constant_64_is : i.code ≡ 0x42 → (n : ℕ) → i64_in i.imm ≡ Some n → move m map flat ≡ executes (Gives (goes_on (n ∷ flat.values) flat))
  constant_64_is code n e = constant_64_moves code ∙ ap (λ (o : Option ℕ). go_straight (option_map (λ n. op.Const n) o) flat) e ∙ goes_constant n flat

  pub constant_32_full : i.code ≡ 0x41 → (places : ℕ) → places < at.sp + at.opens + 1 → IsFull m map places flat
  constant_32_full code places few = let n = some_index (i32_in i.imm) (constant_32_there code) in full_push n.0 (constant_32_is code n.0 n.1) places few

  pub constant_64_full : i.code ≡ 0x42 → (places : ℕ) → places < at.sp + at.opens + 1 → IsFull m map places flat
  constant_64_full code places few = let n = some_index (i64_in i.imm) (constant_64_there code) in full_push n.0 (constant_64_is code n.0 n.1) places few

  -- memory.size
  size_moves : i.code ≡ 0x3F → move m map flat ≡ executes (to_values flat (size_of (memory_where has memory) flat.values))
  size_moves code =
      straight_moves (plain_code i.code 0x3F code is_63) ∙ ap (λ (o : Option Plain). go_straight o flat) (size_plain i code) ∙ goes_size flat
      ∙ ap (λ (o : Option Contents). executes (to_values flat (size_of o flat.values))) s.shown.memory_is

  has_memory : (b : Bool) → executes (to_values flat (size_of (memory_where b memory) flat.values)) ≢ Stuck → b ≡ true
  has_memory true free = refl
  has_memory false free = absurd (free refl)

  size_is : i.code ≡ 0x3F → move m map flat ≡ executes (Gives (goes_on (pages_in memory ∷ flat.values) flat))
  size_is code =
      size_moves code
      ∙ ap (λ (b : Bool). executes (to_values flat (size_of (memory_where b memory) flat.values))) (has_memory has (λ w. s.free (size_moves code ∙ w)))

  pub size_full : i.code ≡ 0x3F → (places : ℕ) → places < at.sp + at.opens + 1 → IsFull m map places flat
  size_full code places few = full_push (pages_in memory) (size_is code) places few

  pub size_pushed : i.code ≡ 0x3F → (new : List ℕ) (to : Spot) → size_of (Some memory) (stack_of old at.sp) ≡ Gives (stack_of new to.sp) →
      to.pc ≡ at.pc + 1 → to.opens ≡ at.opens → to.sp + to.opens ≤ most_values → move m map flat ≡ Executes (moved flat has new to.sp memory globals to.pc to.opens)
  size_pushed code new to sizes pc opens room =
      let given : Gives (pages_in memory ∷ stack_of old at.sp) ≡ Gives (stack_of new to.sp) = sizes in
      let top : stack_of new to.sp ≡ pages_in memory ∷ stack_of old at.sp = cc in
      pushed (pages_in memory) at.sp new to (size_is code) top pc opens room

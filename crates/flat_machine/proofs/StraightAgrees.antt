-- Straight code does to the flat machine what it does to the configuration that the machine stands for.
use Rattle.std.proofs.Common.{◌≡◌, ◌≢◌, ◌<◌, ℕ, pred, ◌+◌, Bool, true, false, cond, nat_le, nat_lt, List, [], ◌∷◌, ◌++◌, length, reverse, slice_get, slice_set, Option, Some, None, arith, refl, sym, ◌∙◌, ap, subst, append_assoc}
use Rattle.std.proofs.lemmas.Bool.Decides.{nat_tests}
use Rattle.wasm_ops.specs.declared.trap.Trap.TheVariants as traps
use Rattle.wasm_ops.specs.Table.{width_of}
use Rattle.linear_memory.specs.Bytes.{low_bytes, written}
use Rattle.linear_memory.specs.Contents.{Contents}
use Rattle.wasm_form.specs.declared.instr.Instr.{Instr}
use Rattle.wasm_form.specs.declared.parts.Parts.{Parts}
use Rattle.wasm_form.specs.Trees.{Code, Then, size}
use Rattle.tree_machine.specs.Instructions.{Plain, plain_of}
use Rattle.tree_machine.specs.Instructions as op
use Rattle.tree_machine.specs.Config.{Cont, Frame, Invocation, Config, with_frames, with_operands}
use Rattle.tree_machine.specs.Outcomes.{Effect, Gives, Fails, Undefined, Outcome, Goes, Traps, Stuck, to_frame, to_operands}
use Rattle.tree_machine.specs.Numeric.{unary, binary}
use Rattle.tree_machine.specs.Parametric.{drop_one, select}
use Rattle.tree_machine.specs.Variables.{push_value, local_set, local_tee, global_set}
use Rattle.tree_machine.specs.MemoryAccess.{load_from, store}
use Rattle.tree_machine.specs.MemorySize.{pages_in, size_of, minus_one, grown, grow}
use Rattle.tree_machine.specs.Step.{execute_plain, execute, with_rest, next_of, next_in, next_among, next}
use Rattle.flat_machine.specs.Flat.{Place, Flat, goes_on}
use Rattle.flat_machine.specs.Text.{StandsAt}
use Rattle.flat_machine.specs.Values.{operands_with, all_values}
use Rattle.flat_machine.specs.Tells.{LeftStands, opens_of, PlacesStand, Tells, IsInstrAt, Agrees}
use Rattle.flat_machine.specs.Straight.{to_values, local_value, with_local, set_top, tee_top, put_global, put_top, grow_memory, straight, IsStraight}
use Rattle.flat_machine.proofs.Standing.{Innermost, innermost, plain_comes}
use Rattle.flat_machine.proofs.Lies.{over, IsDefined, defined_by, drop_lies, select_lies, unary_lies, binary_lies, push_lies, load_from_lies, size_lies, local_lies, set_lies}

-- the machine with these values at this place that stands for the configuration
abbrev pub flat_of : (values : List ℕ) → Place → List Place → Config → Flat
flat_of values place callers c = record {
  values = values;
  place = place;
  callers = callers;
  globals = c.globals;
  table = c.table;
  memory = c.memory;
  invocations = c.invocations;
}

-- the place of the next instruction
abbrev pub next_place : Place → Place
next_place place = record place { pc = place.pc + 1 }

-- the list with this rest
abbrev pub cont_with : Code → Cont → Cont
cont_with rest k = record k { rest = rest }

-- what lies below the operands of the innermost list
abbrev pub low_values : (locals : List ℕ) → Cont → List Cont → List Frame → List ℕ
low_values locals k ks below = operands_with k.under ks ++ (reverse locals ++ all_values below)

pub values_are : (operands locals : List ℕ) (k : Cont) (ks : List Cont) (below : List Frame) →
    (((operands ++ operands_with k.under ks) ++ reverse locals) ++ all_values below) ≡ operands ++ low_values locals k ks below
values_are operands locals k ks below =
    append_assoc (operands ++ operands_with k.under ks) (reverse locals) (all_values below)
    ∙ append_assoc operands (operands_with k.under ks) (reverse locals ++ all_values below)

module _ (m : Parts) (c : Config) (place : Place) (callers : List Place) (f : Frame) (k : Cont) (ks : List Cont) (rest : Code) (below : List Frame)
    (left : LeftStands m (next_place place) (cont_with rest k ∷ ks)) (base : place.base ≡ length (all_values below))
    (opens : place.opens ≡ opens_of callers + length ks) (outer : PlacesStand m callers below) where
  abbrev later : Frame
  later = with_rest rest f k ks

  abbrev low : List ℕ
  low = low_values f.locals k ks below

  abbrev machine : Flat
  machine = flat_of (f.operands ++ low) place callers c

  pub keeps : (values operands : List ℕ) → values ≡ operands ++ low →
      Tells m (goes_on values machine) (with_frames (with_operands operands later ∷ below) c)
  keeps values operands e = record {
    values = e ∙ sym (values_are operands f.locals k ks below);
    places = (left, base, opens, outer);
    globals = refl;
    table = refl;
    memory = refl;
    invocations = refl;
  }

  over_agrees : (e : Effect (List ℕ)) → IsDefined e → Agrees (Tells m) (to_values machine (over low e)) (to_operands c later below e)
  over_agrees (Gives operands) h = keeps (operands ++ low) operands refl
  over_agrees (Fails trap) h = refl
  over_agrees Undefined h = absurd h

  -- an instruction that changes operands alone
  operands_agree : (e whole : Effect (List ℕ)) → whole ≡ over low e → to_operands c later below e ≢ Stuck →
      Agrees (Tells m) (to_values machine whole) (to_operands c later below e)
  operands_agree e whole same h =
      subst (λ (x : Effect (List ℕ)). Agrees (Tells m) (to_values machine x) (to_operands c later below e)) (sym same)
      (over_agrees e (defined_by c later below e h))

  local_agrees : (x : ℕ) (o : Option ℕ) → slice_get f.locals x ≡ o → to_operands c later below (push_value o f.operands) ≢ Stuck →
      push_value (local_value place.base x (f.operands ++ low)) (f.operands ++ low) ≡ over low (push_value o f.operands)
  local_agrees x None e h = absurd (h refl)
  local_agrees x (Some v) e h =
      let pre = f.operands ++ operands_with k.under ks in
      let same : f.operands ++ low ≡ pre ++ (reverse f.locals ++ all_values below) =
      sym (append_assoc f.operands (operands_with k.under ks) (reverse f.locals ++ all_values below)) in
      let there : local_value place.base x (f.operands ++ low) ≡ Some v =
      ap (λ (l : List ℕ). local_value place.base x l) same ∙ local_lies place.base x v pre f.locals (all_values below) base e in
      ap (λ (o : Option ℕ). push_value o (f.operands ++ low)) there

  written_tells : (x value : ℕ) (operands : List ℕ) → x < length f.locals →
      Tells m (goes_on (with_local place.base x value (operands ++ low)) machine)
      (with_frames (record later { locals = slice_set f.locals x value; operands = operands } ∷ below) c)
  written_tells x value operands within =
      let pre = operands ++ operands_with k.under ks in
      let same : operands ++ low ≡ pre ++ (reverse f.locals ++ all_values below) =
      sym (append_assoc operands (operands_with k.under ks) (reverse f.locals ++ all_values below)) in
      record {
        values = ap (λ (l : List ℕ). with_local place.base x value l) same
            ∙ set_lies place.base x value pre f.locals (all_values below) base within
            ∙ sym (append_assoc pre (reverse (slice_set f.locals x value)) (all_values below));
        places = (left, base, opens, outer);
        globals = refl;
        table = refl;
        memory = refl;
        invocations = refl;
      }

  set_agrees : (test : Bool) (x value : ℕ) (operands : List ℕ) → nat_lt x (length f.locals) ≡ test →
      to_frame c below (cond test (Gives (record later { locals = slice_set f.locals x value; operands = operands })) Undefined) ≢ Stuck →
      Agrees (Tells m) (Gives (goes_on (with_local place.base x value (operands ++ low)) machine))
      (to_frame c below (cond test (Gives (record later { locals = slice_set f.locals x value; operands = operands })) Undefined))
  set_agrees true x value operands test h = written_tells x value operands (grind (arith, nat_tests))
  set_agrees false x value operands test h = absurd (h refl)

  local_set_agrees : (x : ℕ) (operands : List ℕ) → to_frame c below (local_set x operands later) ≢ Stuck →
      Agrees (Tells m) (to_values machine (set_top place.base x (operands ++ low))) (to_frame c below (local_set x operands later))
  local_set_agrees x [] h = absurd (h refl)
  local_set_agrees x (value ∷ operands) h = set_agrees (nat_lt x (length f.locals)) x value operands refl h

  local_tee_agrees : (x : ℕ) (operands : List ℕ) → to_frame c below (local_tee x operands later) ≢ Stuck →
      Agrees (Tells m) (to_values machine (tee_top place.base x (operands ++ low))) (to_frame c below (local_tee x operands later))
  local_tee_agrees x [] h = absurd (h refl)
  local_tee_agrees x (value ∷ operands) h = set_agrees (nat_lt x (length f.locals)) x value (value ∷ operands) refl h

  put_agrees : (test : Bool) (x value : ℕ) (operands : List ℕ) →
      cond test (Goes (record c { globals = slice_set c.globals x value; frames = with_operands operands later ∷ below })) Stuck ≢ Stuck →
      Agrees (Tells m) (cond test (Gives (record (goes_on (operands ++ low) machine) { globals = slice_set c.globals x value })) Undefined)
      (cond test (Goes (record c { globals = slice_set c.globals x value; frames = with_operands operands later ∷ below })) Stuck)
  put_agrees true x value operands h =
      let tells = keeps (operands ++ low) operands refl in
      record { values = tells.values; places = tells.places; globals = refl; table = refl; memory = refl; invocations = refl }
  put_agrees false x value operands h = absurd (h refl)

  global_set_agrees : (x : ℕ) (operands : List ℕ) → global_set x operands c later below ≢ Stuck →
      Agrees (Tells m) (put_global x (operands ++ low) machine) (global_set x operands c later below)
  global_set_agrees x [] h = absurd (h refl)
  global_set_agrees x (value ∷ operands) h = put_agrees (nat_lt x (length c.globals)) x value operands h

  stored_agrees : (test : Bool) (memory : Contents) (operands : List ℕ) →
      Agrees (Tells m) (cond test (Gives (record (goes_on (operands ++ low) machine) { memory = Some memory })) (Fails traps.Bounds))
      (cond test (Goes (record c { memory = Some memory; frames = with_operands operands later ∷ below })) (Traps traps.Bounds))
  stored_agrees true memory operands =
      let tells = keeps (operands ++ low) operands refl in
      record { values = tells.values; places = tells.places; globals = refl; table = refl; memory = refl; invocations = refl }
  stored_agrees false memory operands = refl

  store_agrees : (code offset : ℕ) (o : Option Contents) (operands : List ℕ) → store code offset o operands c later below ≢ Stuck →
      Agrees (Tells m) (put_top code offset o (operands ++ low) machine) (store code offset o operands c later below)
  store_agrees code offset None operands h = absurd (h refl)
  store_agrees code offset (Some memory) [] h = absurd (h refl)
  store_agrees code offset (Some memory) (value ∷ []) h = absurd (h refl)
  store_agrees code offset (Some memory) (value ∷ address ∷ operands) h =
      stored_agrees (nat_le (address + offset + width_of code) (length memory.bytes))
      (record memory { bytes = written memory.bytes (address + offset) (low_bytes (width_of code) value) }) operands

  grown_agrees : (test : Bool) (memory : Contents) (pages : ℕ) (operands : List ℕ) →
      Agrees (Tells m)
      (cond test (Gives (record (goes_on (pages ∷ (operands ++ low)) machine) { memory = Some memory }))
      (Gives (goes_on (minus_one ∷ (operands ++ low)) machine)))
      (cond test (Goes (record c { memory = Some memory; frames = with_operands (pages ∷ operands) later ∷ below }))
      (Goes (with_frames (with_operands (minus_one ∷ operands) later ∷ below) c)))
  grown_agrees true memory pages operands =
      let tells = keeps (pages ∷ (operands ++ low)) (pages ∷ operands) refl in
      record { values = tells.values; places = tells.places; globals = refl; table = refl; memory = refl; invocations = refl }
  grown_agrees false memory pages operands = keeps (minus_one ∷ (operands ++ low)) (minus_one ∷ operands) refl

  grow_agrees : (o : Option Contents) (operands : List ℕ) → grow o operands c later below ≢ Stuck →
      Agrees (Tells m) (grow_memory o (operands ++ low) machine) (grow o operands c later below)
  grow_agrees None operands h = absurd (h refl)
  grow_agrees (Some memory) [] h = absurd (h refl)
  grow_agrees (Some memory) (pages ∷ operands) h =
      grown_agrees (nat_le (pages_in memory + pages) memory.most) (grown pages memory) (pages_in memory) operands

  pub plain_agrees : (p : Plain) → IsStraight p → execute_plain m p c later below ≢ Stuck →
      Agrees (Tells m) (straight p machine) (execute_plain m p c later below)
  unfolding straight execute_plain
  plain_agrees op.Unreachable is h = refl
  plain_agrees op.Nop is h = keeps (f.operands ++ low) f.operands refl
  plain_agrees (op.Br label) is h = absurd is
  plain_agrees (op.BrIf label) is h = absurd is
  plain_agrees op.Return is h = absurd is
  plain_agrees (op.Call function) is h = absurd is
  plain_agrees (op.CallIndirect ty) is h = absurd is
  plain_agrees op.Drop is h =
      operands_agree (drop_one f.operands) (drop_one (f.operands ++ low)) (drop_lies low f.operands (defined_by c later below (drop_one f.operands) h)) h
  plain_agrees op.Select is h =
      operands_agree (select f.operands) (select (f.operands ++ low)) (select_lies low f.operands (defined_by c later below (select f.operands) h)) h
  plain_agrees (op.LocalGet x) is h =
      operands_agree (push_value (slice_get f.locals x) f.operands) (push_value (local_value place.base x (f.operands ++ low)) (f.operands ++ low))
      (local_agrees x (slice_get f.locals x) refl h) h
  plain_agrees (op.LocalSet x) is h = local_set_agrees x f.operands h
  plain_agrees (op.LocalTee x) is h = local_tee_agrees x f.operands h
  plain_agrees (op.GlobalGet x) is h =
      operands_agree (push_value (slice_get c.globals x) f.operands) (push_value (slice_get c.globals x) (f.operands ++ low))
      (push_lies low (slice_get c.globals x) f.operands) h
  plain_agrees (op.GlobalSet x) is h = global_set_agrees x f.operands h
  plain_agrees (op.Load code offset) is h =
      operands_agree (load_from code offset c.memory f.operands) (load_from code offset c.memory (f.operands ++ low))
      (load_from_lies low code offset c.memory f.operands (defined_by c later below (load_from code offset c.memory f.operands) h)) h
  plain_agrees (op.Store code offset) is h = store_agrees code offset c.memory f.operands h
  plain_agrees op.MemorySize is h =
      operands_agree (size_of c.memory f.operands) (size_of c.memory (f.operands ++ low)) (size_lies low c.memory f.operands) h
  plain_agrees op.MemoryGrow is h = grow_agrees c.memory f.operands h
  plain_agrees (op.Const value) is h = keeps (value ∷ (f.operands ++ low)) (value ∷ f.operands) refl
  plain_agrees (op.Unary code) is h =
      operands_agree (unary code f.operands) (unary code (f.operands ++ low)) (unary_lies low code f.operands (defined_by c later below (unary code f.operands) h)) h
  plain_agrees (op.Binary code) is h =
      operands_agree (binary code f.operands) (binary code (f.operands ++ low)) (binary_lies low code f.operands (defined_by c later below (binary code f.operands) h)) h

-- what is left of the innermost list after its first instruction stands at the next place
pub left_after : (m : Parts) (place : Place) (i : Instr) (ks : List Cont) (inner : Innermost m place i ks) (j : Instr) (rest : Code) → inner.k.rest ≡ Then j rest →
    LeftStands m (next_place place) (cont_with rest inner.k ∷ inner.around)
left_after m place i ks inner j rest is =
    let here = inner.list in
    let stands : StandsAt inner.body.expr place.pc (Then j rest) = subst (λ (code : Code). StandsAt inner.body.expr place.pc code) is here.stands in
    let stops : here.stop ≡ place.pc + size (Then j rest) = here.stops ∙ ap (λ (code : Code). place.pc + size code) is in
    record {
      body = inner.body;
      is = inner.body_is;
      afters = inner.after ∷ inner.afters;
      lists = (record { stop = here.stop; stops = omega arith; ends = here.ends; stands = stands.1; loops = here.loops }, inner.outer);
    }

pub same_flat : (m : Parts) (flat : Flat) (c : Config) (values : List ℕ) → flat.values ≡ values → Tells m flat c → flat ≡ flat_of values flat.place flat.callers c
same_flat m flat c values e tells =
    ap (λ (x : List ℕ). record flat { values = x }) e
    ∙ ap (λ (x : List ℕ). record flat { values = values; globals = x }) tells.globals
    ∙ ap (λ (x : List (Option ℕ)). record flat { values = values; globals = c.globals; table = x }) tells.table
    ∙ ap (λ (x : Option Contents). record flat { values = values; globals = c.globals; table = c.table; memory = x }) tells.memory
    ∙ ap (λ (x : List Invocation). record (flat_of values flat.place flat.callers c) { invocations = x }) tells.invocations

module _ (m : Parts) (flat : Flat) (c : Config) (i : Instr) (p : Plain) (tells : Tells m flat c) (at : IsInstrAt m flat.place i)
    (plain : plain_of i ≡ Some p) (is : IsStraight p) where
  frame_agrees : (f : Frame) (below : List Frame) → c.frames ≡ f ∷ below → next_among m c (f ∷ below) ≢ Stuck →
      Agrees (Tells m) (straight p flat) (next_among m c (f ∷ below))
  frame_agrees f below e goes =
      let places : PlacesStand m (flat.place ∷ flat.callers) (f ∷ below) =
      subst (λ (frames : List Frame). PlacesStand m (flat.place ∷ flat.callers) frames) e tells.places in
      let inner = innermost m flat.place i f.conts at places.0 in
      let k = inner.k in
      let ks = inner.around in
      let comes = plain_comes i p k.rest plain inner.begins in
      let rest = comes.0 in
      let opens : flat.place.opens ≡ opens_of flat.callers + length ks =
      places.2 ∙ ap (λ (x : List Cont). opens_of flat.callers + pred (length x)) inner.is in
      let next_is : next_among m c (f ∷ below) ≡ execute_plain m p c (with_rest rest f k ks) below =
      ap (λ (x : List Cont). next_in m c f x below) inner.is
      ∙ ap (λ (code : Code). next_of m code c f k ks below) comes.1
      ∙ ap (λ (o : Option Plain). execute m o c (with_rest rest f k ks) below) plain in
      let values : flat.values ≡ f.operands ++ low_values f.locals k ks below =
      tells.values ∙ ap all_values e
      ∙ ap (λ (x : List Cont). (operands_with f.operands x ++ reverse f.locals) ++ all_values below) inner.is
      ∙ values_are f.operands f.locals k ks below in
      let same = same_flat m flat c (f.operands ++ low_values f.locals k ks below) values tells in
      subst (λ (o : Outcome). Agrees (Tells m) (straight p flat) o) (sym next_is)
      (subst (λ (x : Flat). Agrees (Tells m) (straight p x) (execute_plain m p c (with_rest rest f k ks) below)) (sym same)
      (plain_agrees m c flat.place flat.callers f k ks rest below (left_after m flat.place i f.conts inner i rest comes.1) places.1 opens places.3 p is
      (λ w. goes (next_is ∙ w))))

  frames_agree : (frames : List Frame) → c.frames ≡ frames → next_among m c frames ≢ Stuck → Agrees (Tells m) (straight p flat) (next_among m c frames)
  frames_agree [] e goes = absurd (goes refl)
  frames_agree (f ∷ below) e goes = frame_agrees f below e goes

  -- straight code
  pub straight_agrees : next m c ≢ Stuck → Agrees (Tells m) (straight p flat) (next m c)
  unfolding next
  straight_agrees goes = frames_agree c.frames refl goes

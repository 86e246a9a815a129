-- Branches and ifs, from where a machine stands.
use Rattle.std.proofs.Common.{◌≡◌, ◌≢◌, ◌⊎◌, ◌≤◌, ℕ, zero, suc, ◌+◌, ◌-◌, ◌++◌, Bool, true, cond, nat_eq, min, List, [], ◌∷◌, length, take, Option, Some, None, refl, sym, ◌∙◌, ap, subst, arith}
use Rattle.std.specs.Prelude.{slice_index}
use Rattle.std.proofs.lemmas.Bool.{ne_eqb}
use Rattle.linear_memory.specs.Contents.{Contents}
use Rattle.wasm_form.specs.declared.instr.Instr.{Instr}
use Rattle.wasm_form.specs.declared.instr.Imm.{Imm}
use Rattle.wasm_form.specs.declared.instr.Imm.TheVariants as imm
use Rattle.wasm_form.specs.declared.parts.Parts.{Parts}
use Rattle.code_map.specs.declared.target.Target.{Target}
use Rattle.code_map.specs.declared.body_map.BodyMap.{BodyMap}
use Rattle.code_map.specs.declared.map.CodeMap.{CodeMap}
use Rattle.code_map.specs.Targets.{count_if}
use Rattle.tree_machine.specs.Limits.{most_values}
use Rattle.tree_machine.specs.Outcomes.{Gives}
use Rattle.flat_machine.specs.Flat.{Flat, goes_on}
use Rattle.flat_machine.specs.Control.{jump, lowest, begin_list, begin_chosen, at_place}
use Rattle.flat_machine.specs.Tells.{opens_of}
use Rattle.flat_machine.specs.Moves.{Move, Executes, Stuck, executes, target_at, entry_at, leads, jump_to, branch_if, branch_among, branch_table, choose, move}
use Rattle.flat_machine.specs.Shown.{stack_of, moved}
use Rattle.flat_machine.proofs.Standing.{same_some}
use Rattle.flat_stepper.specs.declared.within.Within.{Within}
use Rattle.flat_stepper.specs.declared.within.Spot.{Spot}
use Rattle.flat_stepper.specs.Standing.{Stands, CanBranch, IsTable}
use Rattle.flat_stepper.specs.Targets.{target_of, entry_of}
use Rattle.straight_code.proofs.Stacks.{length_stack, top_of}
use Rattle.flat_stepper.proofs.Arrivals.{held, passed, lands, arrives}
use Rattle.flat_stepper.proofs.Codes.{moves_branch, moves_branch_if, moves_branch_table, moves_choose}
use Rattle.flat_stepper.proofs.Targets.{target_is, entry_is, Jumps, jumps, Leads, lead}

-- a target that a branch finds, from the first `sp` values
pub record Reaches (within : Within) (o : Option Target) (opens sp : ℕ) : Type 0 where
  pub target : Target
  pub is : o ≡ Some target
  pub to : target.to ≤ length within.code.now
  pub low : within.outer + target.opens ≤ opens
  pub height : within.base + target.height + count_if target.carries ≤ sp

-- the same of the target that was found
pub reached : (within : Within) (o : Option Target) (opens sp : ℕ) (t : Target) → Reaches within o opens sp → o ≡ Some t →
    (t.to ≤ length within.code.now) × (within.outer + t.opens ≤ opens) × (within.base + t.height + count_if t.carries ≤ sp)
reached within o opens sp t r e =
    let same : r.target ≡ t = same_some o r.target t r.is e in
    let P : Target → Type 0 = λ (u : Target). (u.to ≤ length within.code.now) × (within.outer + u.opens ≤ opens) × (within.base + u.height + count_if u.carries ≤ sp) in
    subst P same (r.to, r.low, r.height)

table_among : (maps : List BodyMap) (size : ℕ) (flat : Flat) (i : Imm) → branch_table maps i size flat ≢ Stuck → IsTable i
table_among maps size flat (imm.Table first count last) free = (first, count, last, refl)
table_among maps size flat others free = absurd (free refl)

-- an if that isn't stuck has its target
pub record Chooses (o : Option Target) (size : ℕ) (flat : Flat) : Type 0 where
  pub target : Target
  pub is : o ≡ Some target
  pub leads : Leads target size (flat.place.opens + 1) flat
  pub moves : choose o size flat ≡ executes (begin_chosen target flat.values flat)

pub chooses : (o : Option Target) (size : ℕ) (flat : Flat) → choose o size flat ≢ Stuck → Chooses o size flat
chooses None size flat free = absurd (free refl)
chooses (Some t) size flat free =
    let guard : leads t size (flat.place.opens + 1) flat ≡ true = held _ _ free in
    record { target = t; is = refl; leads = lead t size (flat.place.opens + 1) flat guard; moves = passed _ _ guard }

module _ (m : Parts) (map : CodeMap) (flat : Flat) (has : Bool) (within : Within) (i : Instr) (old : List ℕ) (memory : Contents) (globals : List ℕ) (at : Spot)
    (s : Stands m map flat has within i old memory globals at) where
  pub reaches : (o : Option Target) (sp : ℕ) → Jumps o (length within.code.now) (stack_of old sp) flat → Reaches within o at.opens sp
  reaches o sp j =
      let count = length_stack old sp in
      let base = s.shown.base_is in
      let outer = s.outer_is in
      let opens = s.opens_are in
      record {
        target = j.target;
        is = j.is;
        to = j.to;
        low = let low = j.low in omega arith;
        height = let height = j.height in omega arith;
      }

  -- the branch comes to its target
  pub jump_arrives : (o : Option Target) (size sp : ℕ) (new : List ℕ) (t : Target) (to : Spot) → Jumps o size (stack_of old sp) flat → o ≡ Some t → to.pc ≡ t.to →
      to.opens ≡ within.outer + t.opens → stack_of new to.sp ≡ take (count_if t.carries) (stack_of old sp) ++ lowest (within.base + t.height) (stack_of old sp) →
      to.sp + to.opens ≤ most_values → jump_to o size (stack_of old sp) flat ≡ Executes (moved flat has new to.sp memory globals to.pc to.opens)
  jump_arrives o size sp new t to j is pc opens values room =
      let same : j.target ≡ t = same_some o j.target t j.is is in
      let outer = s.outer_is in
      j.moves
      ∙ ap (λ (u : Target). executes (Gives (jump u (stack_of old sp) flat))) same
      ∙ arrives flat (jump t (stack_of old sp) flat) has memory globals new to.sp to.pc to.opens
      (lands flat has memory globals (take (count_if t.carries) (stack_of old sp) ++ lowest (flat.place.base + t.height) (stack_of old sp)) new to.sp
      t.to (opens_of flat.callers + t.opens) to.pc to.opens s.shown.memory_is s.shown.globals_are
      (ap (λ (b : ℕ). take (count_if t.carries) (stack_of old sp) ++ lowest (b + t.height) (stack_of old sp)) s.shown.base_is ∙ sym values)
      (sym pc) (omega arith))
      room

  pub branch_moves : (i.code ≡ 0x0C) ⊎ (i.code ≡ 0x0F) → move m map flat ≡ jump_to (target_of within at.pc) (length within.code.now) (stack_of old at.sp) flat
  branch_moves code =
      s.moves
      ∙ moves_branch m map (length within.code.now) i flat code
      ∙ ap (λ (o : Option Target). jump_to o (length within.code.now) flat.values flat) (target_is map flat.place within at.pc s.mapped s.pc_is)
      ∙ ap (λ (v : List ℕ). jump_to (target_of within at.pc) (length within.code.now) v flat) s.shown.values_are

  pub branch_jumps : (i.code ≡ 0x0C) ⊎ (i.code ≡ 0x0F) → Jumps (target_of within at.pc) (length within.code.now) (stack_of old at.sp) flat
  branch_jumps code = jumps _ _ _ flat (λ w. s.free (branch_moves code ∙ w))

  -- br_if
  below_is : (k : ℕ) → k + 1 ≡ at.sp → flat.values ≡ slice_index old k ∷ stack_of old k
  below_is k e = s.shown.values_are ∙ top_of old at.sp k e

  pub branch_if_moves : i.code ≡ 0x0D → (k : ℕ) → k + 1 ≡ at.sp → move m map flat ≡
      cond (nat_eq (slice_index old k) 0) (executes (Gives (goes_on (stack_of old k) flat))) (jump_to (target_of within at.pc) (length within.code.now) (stack_of old k) flat)
  branch_if_moves code k e =
      s.moves
      ∙ moves_branch_if m map (length within.code.now) i flat code
      ∙ ap (λ (o : Option Target). branch_if o (length within.code.now) flat.values flat) (target_is map flat.place within at.pc s.mapped s.pc_is)
      ∙ ap (λ (v : List ℕ). branch_if (target_of within at.pc) (length within.code.now) v flat) (below_is k e)

  taken : (f : List ℕ → Move) → f [] ≡ Stuck → move m map flat ≡ f flat.values → 1 ≤ at.sp
  taken f none is =
      let by_height : (n : ℕ) → n ≡ at.sp → 1 ≤ n = λ n. elim n as (λ k. k ≡ at.sp → 1 ≤ k) [
        | zero ↦ λ e. absurd (s.free (is ∙ ap f (s.shown.values_are ∙ ap (λ (k : ℕ). stack_of old k) (sym e)) ∙ none))
        | suc k ↦ λ e. omega arith
      ] in
      by_height at.sp refl

  pub if_taken : i.code ≡ 0x0D → 1 ≤ at.sp
  if_taken code = taken (λ v. branch_if (target_at map.bodies flat.place) (length within.code.now) v flat) refl (s.moves ∙ moves_branch_if m map (length within.code.now) i flat code)

  pub if_jumps : i.code ≡ 0x0D → (k : ℕ) → k + 1 ≡ at.sp → slice_index old k ≢ 0 → Jumps (target_of within at.pc) (length within.code.now) (stack_of old k) flat
  if_jumps code k e some = jumps _ _ _ flat (λ w. s.free (branch_if_moves code k e ∙ ap (λ (b : Bool). cond b (executes (Gives (goes_on (stack_of old k) flat))) (jump_to (target_of within at.pc) (length within.code.now) (stack_of old k) flat)) (ne_eqb (slice_index old k) 0 some) ∙ w))

  pub if_arrives : i.code ≡ 0x0D → (k : ℕ) → k + 1 ≡ at.sp → slice_index old k ≢ 0 →
      move m map flat ≡ jump_to (target_of within at.pc) (length within.code.now) (stack_of old k) flat
  if_arrives code k e some = branch_if_moves code k e ∙ ap (λ (b : Bool). cond b (executes (Gives (goes_on (stack_of old k) flat))) (jump_to (target_of within at.pc) (length within.code.now) (stack_of old k) flat)) (ne_eqb (slice_index old k) 0 some)

  pub if_goes_on : i.code ≡ 0x0D → (k : ℕ) → k + 1 ≡ at.sp → slice_index old k ≡ 0 → (to : Spot) → to.pc ≡ at.pc + 1 → to.sp ≡ k → to.opens ≡ at.opens → to.sp + to.opens ≤ most_values →
      move m map flat ≡ Executes (moved flat has old to.sp memory globals to.pc to.opens)
  if_goes_on code k e none to pc sp opens room =
      let pc_is = s.pc_is in
      let opens_are = s.opens_are in
      branch_if_moves code k e
      ∙ ap (λ (n : ℕ). cond (nat_eq n 0) (executes (Gives (goes_on (stack_of old k) flat))) (jump_to (target_of within at.pc) (length within.code.now) (stack_of old k) flat)) none
      ∙ arrives flat (goes_on (stack_of old k) flat) has memory globals old to.sp to.pc to.opens
      (lands flat has memory globals (stack_of old k) old to.sp (flat.place.pc + 1) flat.place.opens to.pc to.opens s.shown.memory_is s.shown.globals_are
      (ap (λ (n : ℕ). stack_of old n) (sym sp)) (omega arith) (omega arith))
      room

  -- br_table
  table_taken : (first count last : ℕ) → i.code ≡ 0x0E → i.imm ≡ imm.Table first count last → move m map flat ≡ branch_among map.bodies count (length within.code.now) flat.values flat
  table_taken first count last code is =
      s.moves
      ∙ moves_branch_table m map (length within.code.now) i flat code
      ∙ ap (λ (j : Imm). branch_table map.bodies j (length within.code.now) flat) is

  pub table_count : (first count last : ℕ) → i.code ≡ 0x0E → i.imm ≡ imm.Table first count last → 1 ≤ at.sp
  table_count first count last code is = taken (λ v. branch_among map.bodies count (length within.code.now) v flat) refl (table_taken first count last code is)

  pub table_moves : (first count last : ℕ) → i.code ≡ 0x0E → i.imm ≡ imm.Table first count last → (k number : ℕ) → k + 1 ≡ at.sp → number ≡ min (slice_index old k) count →
      move m map flat ≡ jump_to (entry_of within at.pc number) (length within.code.now) (stack_of old k) flat
  table_moves first count last code is k number e number_is =
      table_taken first count last code is
      ∙ ap (λ (v : List ℕ). branch_among map.bodies count (length within.code.now) v flat) (below_is k e)
      ∙ ap (λ (n : ℕ). jump_to (entry_at map.bodies flat.place n) (length within.code.now) (stack_of old k) flat) (sym number_is)
      ∙ ap (λ (o : Option Target). jump_to o (length within.code.now) (stack_of old k) flat) (entry_is map flat.place within at.pc number s.mapped s.pc_is)

  pub table_jumps : (first count last : ℕ) → i.code ≡ 0x0E → i.imm ≡ imm.Table first count last → (k number : ℕ) → k + 1 ≡ at.sp → number ≡ min (slice_index old k) count →
      Jumps (entry_of within at.pc number) (length within.code.now) (stack_of old k) flat
  table_jumps first count last code is k number e number_is = jumps _ _ _ flat (λ w. s.free (table_moves first count last code is k number e number_is ∙ w))

  pub table_is : i.code ≡ 0x0E → IsTable i.imm
  table_is code = table_among map.bodies (length within.code.now) flat i.imm (λ w. s.free (s.moves ∙ moves_branch_table m map (length within.code.now) i flat code ∙ w))

  -- if
  choose_moves : i.code ≡ 0x04 → move m map flat ≡ choose (target_of within at.pc) (length within.code.now) flat
  choose_moves code =
      s.moves
      ∙ moves_choose m map (length within.code.now) i flat code
      ∙ ap (λ (o : Option Target). choose o (length within.code.now) flat) (target_is map flat.place within at.pc s.mapped s.pc_is)

  pub chosen : i.code ≡ 0x04 → Chooses (target_of within at.pc) (length within.code.now) flat
  chosen code = chooses (target_of within at.pc) (length within.code.now) flat (λ w. s.free (choose_moves code ∙ w))

  pub choose_taken : i.code ≡ 0x04 → 1 ≤ at.sp
  choose_taken code =
      let c = chosen code in
      taken (λ v. executes (begin_chosen c.target v flat)) refl (choose_moves code ∙ c.moves)

  chosen_moves : (code : i.code ≡ 0x04) → (k : ℕ) → k + 1 ≡ at.sp → (t : Target) → target_of within at.pc ≡ Some t →
      move m map flat ≡ executes (Gives (cond (nat_eq (slice_index old k) 0) (at_place t.to t.opens (stack_of old k) flat) (begin_list (stack_of old k) flat)))
  chosen_moves code k e t is =
      let c = chosen code in
      choose_moves code ∙ c.moves
      ∙ ap (λ (v : List ℕ). executes (begin_chosen c.target v flat)) (below_is k e)
      ∙ ap (λ (u : Target). executes (begin_chosen u (slice_index old k ∷ stack_of old k) flat)) (same_some _ c.target t c.is is)

  pub choose_skips : i.code ≡ 0x04 → (k : ℕ) → k + 1 ≡ at.sp → slice_index old k ≡ 0 → (t : Target) → target_of within at.pc ≡ Some t → (to : Spot) → to.pc ≡ t.to → to.sp ≡ k →
      to.opens ≡ within.outer + t.opens → to.sp + to.opens ≤ most_values → move m map flat ≡ Executes (moved flat has old to.sp memory globals to.pc to.opens)
  choose_skips code k e none t is to pc sp opens room =
      let outer = s.outer_is in
      chosen_moves code k e t is
      ∙ ap (λ (n : ℕ). executes (Gives (cond (nat_eq n 0) (at_place t.to t.opens (stack_of old k) flat) (begin_list (stack_of old k) flat)))) none
      ∙ arrives flat (at_place t.to t.opens (stack_of old k) flat) has memory globals old to.sp to.pc to.opens
      (lands flat has memory globals (stack_of old k) old to.sp t.to (opens_of flat.callers + t.opens) to.pc to.opens s.shown.memory_is s.shown.globals_are
      (ap (λ (n : ℕ). stack_of old n) (sym sp)) (sym pc) (omega arith))
      room

  pub choose_begins : i.code ≡ 0x04 → (k : ℕ) → k + 1 ≡ at.sp → slice_index old k ≢ 0 → (to : Spot) → to.pc ≡ at.pc + 1 → to.sp ≡ k →
      to.opens ≡ at.opens + 1 → to.sp + to.opens ≤ most_values → move m map flat ≡ Executes (moved flat has old to.sp memory globals to.pc to.opens)
  choose_begins code k e some to pc sp opens room =
      let c = chosen code in
      let pc_is = s.pc_is in
      let opens_are = s.opens_are in
      chosen_moves code k e c.target c.is
      ∙ ap (λ (b : Bool). executes (Gives (cond b (at_place c.target.to c.target.opens (stack_of old k) flat) (begin_list (stack_of old k) flat)))) (ne_eqb (slice_index old k) 0 some)
      ∙ arrives flat (begin_list (stack_of old k) flat) has memory globals old to.sp to.pc to.opens
      (lands flat has memory globals (stack_of old k) old to.sp (flat.place.pc + 1) (flat.place.opens + 1) to.pc to.opens s.shown.memory_is s.shown.globals_are
      (ap (λ (n : ℕ). stack_of old n) (sym sp)) (omega arith) (omega arith))
      room

-- the same, where some machine stands so
pub branch_reaches : (within : Within) (i : Instr) (old : List ℕ) (at : Spot) → CanBranch within i old at → (i.code ≡ 0x0C) ⊎ (i.code ≡ 0x0F) → Reaches within (target_of within at.pc) at.opens at.sp
branch_reaches within i old at can code =
    let s = can.2 in
    reaches s.0 s.1 s.2 s.3 within i old can.0 can.1 at s.4 (target_of within at.pc) at.sp (branch_jumps s.0 s.1 s.2 s.3 within i old can.0 can.1 at s.4 code)

pub can_if : (within : Within) (i : Instr) (old : List ℕ) (at : Spot) → CanBranch within i old at → i.code ≡ 0x0D → 1 ≤ at.sp
can_if within i old at can code = let s = can.2 in if_taken s.0 s.1 s.2 s.3 within i old can.0 can.1 at s.4 code

pub if_reaches : (within : Within) (i : Instr) (old : List ℕ) (at : Spot) → CanBranch within i old at → i.code ≡ 0x0D → slice_index old (at.sp - 1) ≢ 0 →
    Reaches within (target_of within at.pc) at.opens (at.sp - 1)
if_reaches within i old at can code some =
    let s = can.2 in
    let one = can_if within i old at can code in
    reaches s.0 s.1 s.2 s.3 within i old can.0 can.1 at s.4 (target_of within at.pc) (at.sp - 1)
    (if_jumps s.0 s.1 s.2 s.3 within i old can.0 can.1 at s.4 code (at.sp - 1) (omega arith) some)

pub can_table : (within : Within) (i : Instr) (old : List ℕ) (at : Spot) → CanBranch within i old at → i.code ≡ 0x0E → IsTable i.imm
can_table within i old at can code = let s = can.2 in table_is s.0 s.1 s.2 s.3 within i old can.0 can.1 at s.4 code

pub can_take : (within : Within) (i : Instr) (old : List ℕ) (at : Spot) → CanBranch within i old at → i.code ≡ 0x0E → 1 ≤ at.sp
can_take within i old at can code =
    let s = can.2 in
    let t = can_table within i old at can code in
    table_count s.0 s.1 s.2 s.3 within i old can.0 can.1 at s.4 t.0 t.1 t.2 code t.3

pub table_reaches : (within : Within) (i : Instr) (old : List ℕ) (at : Spot) → CanBranch within i old at → i.code ≡ 0x0E → (count number : ℕ) →
    ((first count_is last : ℕ) → i.imm ≡ imm.Table first count_is last → count ≡ count_is) → number ≡ min (slice_index old (at.sp - 1)) count →
    Reaches within (entry_of within at.pc number) at.opens (at.sp - 1)
table_reaches within i old at can code count number counts is =
    let s = can.2 in
    let t = can_table within i old at can code in
    let one = can_take within i old at can code in
    let number_is : number ≡ min (slice_index old (at.sp - 1)) t.1 = is ∙ ap (λ (n : ℕ). min (slice_index old (at.sp - 1)) n) (counts t.0 t.1 t.2 t.3) in
    reaches s.0 s.1 s.2 s.3 within i old can.0 can.1 at s.4 (entry_of within at.pc number) (at.sp - 1)
    (table_jumps s.0 s.1 s.2 s.3 within i old can.0 can.1 at s.4 t.0 t.1 t.2 code t.3 (at.sp - 1) number (omega arith) number_is)

pub can_choose : (within : Within) (i : Instr) (old : List ℕ) (at : Spot) → CanBranch within i old at → i.code ≡ 0x04 → 1 ≤ at.sp
can_choose within i old at can code = let s = can.2 in choose_taken s.0 s.1 s.2 s.3 within i old can.0 can.1 at s.4 code

-- an if finds its target, with no more open blocks than the if and its inside
pub choose_finds : (within : Within) (i : Instr) (old : List ℕ) (at : Spot) → CanBranch within i old at → i.code ≡ 0x04 → (t : Target) × (target_of within at.pc ≡ Some t)
choose_finds within i old at can code =
    let s = can.2 in
    let c = chosen s.0 s.1 s.2 s.3 within i old can.0 can.1 at s.4 code in
    (c.target, c.is)

pub choose_low : (within : Within) (i : Instr) (old : List ℕ) (at : Spot) → CanBranch within i old at → i.code ≡ 0x04 → (t : Target) → target_of within at.pc ≡ Some t →
    within.outer + t.opens ≤ at.opens + 1
choose_low within i old at can code t is =
    let s = can.2 in
    let c = chosen s.0 s.1 s.2 s.3 within i old can.0 can.1 at s.4 code in
    let same : c.target ≡ t = same_some (target_of within at.pc) c.target t c.is is in
    let outer = s.4.outer_is in
    let opens = s.4.opens_are in
    let low = c.leads.low in
    let P : Target → Type 0 = λ (u : Target). within.outer + u.opens ≤ at.opens + 1 in
    subst P same (omega arith)

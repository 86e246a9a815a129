-- Where an instruction comes to.
use Rattle.std.proofs.Common.{◌≡◌, ◌≢◌, ◌≤◌, ℕ, ◌+◌, Bool, true, false, cond, nat_le, List, length, Option, refl, ◌∙◌, ap, arith}
use Rattle.std.proofs.lemmas.Bool.Decides.{nat_tests}
use Rattle.linear_memory.specs.Contents.{Contents}
use Rattle.tree_machine.specs.Limits.{most_values}
use Rattle.tree_machine.specs.Outcomes.{Gives}
use Rattle.host_port.specs.declared.stop.Spent.TheVariants as limit
use Rattle.flat_machine.specs.Flat.{Flat}
use Rattle.flat_machine.specs.Moves.{Move, Executes, Exceeds, Stuck, executes, where_holds, places_in}
use Rattle.flat_machine.specs.Shown.{stack_of, memory_where, moved}
use Rattle.straight_code.proofs.Stacks.{length_stack}

-- a guard of a move that isn't stuck holds
pub held : (holds : Bool) (move : Move) → where_holds holds move ≢ Stuck → holds ≡ true
held true move free = refl
held false move free = absurd (free refl)

pub passed : (holds : Bool) (move : Move) → holds ≡ true → where_holds holds move ≡ move
passed holds move e = ap (λ (b : Bool). where_holds b move) e

-- the machine with these values at this place
abbrev pub placed : Flat → (values : List ℕ) → (pc opens : ℕ) → Flat
placed flat values pc opens = record flat { values = values; place = record flat.place { pc = pc; opens = opens } }

pub lands : (flat : Flat) (has : Bool) (memory : Contents) (globals values new : List ℕ) (sp pc opens at_pc at_opens : ℕ) →
    flat.memory ≡ memory_where has memory → flat.globals ≡ globals → values ≡ stack_of new sp → pc ≡ at_pc → opens ≡ at_opens →
    placed flat values pc opens ≡ moved flat has new sp memory globals at_pc at_opens
lands flat has memory globals values new sp pc opens at_pc at_opens memory_is globals_are values_are pc_is opens_are =
    ap (λ (o : Option Contents). record (placed flat values pc opens) { memory = o }) memory_is
    ∙ ap (λ (g : List ℕ). record (placed flat values pc opens) { memory = memory_where has memory; globals = g }) globals_are
    ∙ ap (λ (v : List ℕ). record (placed flat v pc opens) { memory = memory_where has memory; globals = globals }) values_are
    ∙ ap (λ (n : ℕ). record (placed flat (stack_of new sp) n opens) { memory = memory_where has memory; globals = globals }) pc_is
    ∙ ap (λ (n : ℕ). record (placed flat (stack_of new sp) at_pc n) { memory = memory_where has memory; globals = globals }) opens_are

-- it has room there
pub arrives : (flat to : Flat) (has : Bool) (memory : Contents) (globals new : List ℕ) (sp pc opens : ℕ) →
    to ≡ moved flat has new sp memory globals pc opens → sp + opens ≤ most_values → executes (Gives to) ≡ Executes (moved flat has new sp memory globals pc opens)
arrives flat to has memory globals new sp pc opens e room =
    let count : length (stack_of new sp) ≡ sp = length_stack new sp in
    let few : places_in (moved flat has new sp memory globals pc opens) ≤ most_values = omega arith in
    let fits : nat_le (places_in (moved flat has new sp memory globals pc opens)) most_values ≡ true = grind (arith, nat_tests) in
    ap (λ (f : Flat). executes (Gives f)) e
    ∙ ap (λ (b : Bool). cond b (Executes (moved flat has new sp memory globals pc opens)) (Exceeds limit.Values)) fits

-- it has none
pub overfills : (to : Flat) (count : ℕ) → places_in to ≡ count → most_values + 1 ≤ count → executes (Gives to) ≡ Exceeds limit.Values
overfills to count e many =
    let fits : nat_le (places_in to) most_values ≡ false = grind (arith, nat_tests) in
    ap (λ (b : Bool). cond b (Executes to) (Exceeds limit.Values)) fits

use Rattle.std.proofs.Common.{◌≡◌, ℕ, List, ◌++◌, length, take, drop, refl, sym, ap, ◌∙◌, subst, rules}
use Rattle.flat_machine.specs.Flat.{Flat}
use Rattle.flat_machine.specs.Runs.{Runs}
use Rattle.flat_machine.specs.Shown.{stack_of, moved}
use Rattle.flat_stepper.specs.Begun.{IsBegun}
use Rattle.flat_stepper.specs.Pauses.{PausesSo}
use Rattle.flat_stepper.specs.States.{flat_of}
use Rattle.flat_stepper.proofs.StackFacts.{written_back}
use Rattle.flat_stepper.proofs.runs.go_on.Goals as goal
use Rattle.flat_stepper.proofs.runs.go_on.Goals.{After-as_mut_slice-globals}

begun : (c : After-as_mut_slice-globals) → IsBegun c.args.parts.now c.args.map.now (flat_of c.args.state.now) c.args.state.now.has_memory c.as_mut_slice-values.result.now
    c.args.state.now.sp c.args.state.now.place c.opens_of_callers-outer.result c.args.state.now.memory c.as_mut_slice-globals.result.now
begun c = record {
  shown = record {
    values_are = ap (λ (xs : List ℕ). stack_of xs c.args.state.now.sp) (sym c.as_mut_slice-values.ensures.value);
    base_is = refl;
    memory_is = refl;
    globals_are = sym c.as_mut_slice-globals.ensures.value;
  };
  place_is = refl;
  outer_is = sym (rw c.as_slice.ensures.value at c.opens_of_callers-outer.ensures);
  safe = c.requires.safe;
}

pub run_body-turn-requires-clause-start : goal.run_body-turn-requires-clause-start
run_body-turn-requires-clause-start c =
    (flat_of c.args.state.now, c.args.state.now.has_memory, begun (goal.at.run_body-turn-requires-clause-start c).After-as_mut_slice-globals)

pub returns-clause-runs : goal.returns-clause-runs
returns-clause-runs c =
    let s = c.args.state.now in
    let t = c.run_body-turn.result in
    let new = c.run_body-turn.new in
    let len : length new.values ≡ s.values.len = search rules in
    let old_len : length s.values.items ≡ s.values.len = search rules in
    let globals_len : length new.globals ≡ s.globals.len = search rules in
    let old_globals_len : length s.globals.items ≡ s.globals.len = search rules in
    let array = take s.values.len (new.values ++ drop (length new.values) s.values.items) in
    let turns = c.run_body-turn.ensures.turns (flat_of s) s.has_memory (begun (goal.at.returns-clause-runs c).After-as_mut_slice-globals) in
    let with_array = subst (λ (xs : List ℕ). Runs c.args.parts.now c.args.map.now t.executed (flat_of s) (moved (flat_of s) s.has_memory xs t.sp new.memory new.globals t.pc t.opens))
    (sym (written_back new.values s.values.items s.values.len len old_len)) turns.0 in
    subst (λ (gs : List ℕ). Runs c.args.parts.now c.args.map.now t.executed (flat_of s) (moved (flat_of s) s.has_memory array t.sp new.memory gs t.pc t.opens))
    (sym (written_back new.globals s.globals.items s.globals.len globals_len old_globals_len)) with_array

pub returns-clause-pauses : goal.returns-clause-pauses
returns-clause-pauses c =
    let s = c.args.state.now in
    let t = c.run_body-turn.result in
    let new = c.run_body-turn.new in
    let len : length new.values ≡ s.values.len = search rules in
    let old_len : length s.values.items ≡ s.values.len = search rules in
    let globals_len : length new.globals ≡ s.globals.len = search rules in
    let old_globals_len : length s.globals.items ≡ s.globals.len = search rules in
    let array = take s.values.len (new.values ++ drop (length new.values) s.values.items) in
    let turns = c.run_body-turn.ensures.turns (flat_of s) s.has_memory (begun (goal.at.returns-clause-pauses c).After-as_mut_slice-globals) in
    let with_array = subst (λ (xs : List ℕ). PausesSo c.args.parts.now c.args.map.now t.pause c.args.budget t.executed (length xs)
    (moved (flat_of s) s.has_memory xs t.sp new.memory new.globals t.pc t.opens))
    (sym (written_back new.values s.values.items s.values.len len old_len)) turns.1 in
    subst (λ (gs : List ℕ). PausesSo c.args.parts.now c.args.map.now t.pause c.args.budget t.executed (length array)
    (moved (flat_of s) s.has_memory array t.sp new.memory gs t.pc t.opens))
    (sym (written_back new.globals s.globals.items s.globals.len globals_len old_globals_len)) with_array

-- A run of the flat machine is the run of its module, where each of its moves is a step.
use Rattle.std.proofs.Common.{◌≡◌, ◌≢◌, ◌<◌, ◌≤◌, ◌⊎◌, ℕ, zero, suc, ◌+◌, inl, inr, Bool, true, false, nat_lt, List, [], ◌∷◌, Some, arith, refl, sym, ◌∙◌, ap, subst}
use Rattle.std.proofs.lemmas.Bool.Decides.{nat_tests}
use Rattle.host_port.specs.Standing.{State, Ready, Asking, Finished, Trapped, Exhausted}
use Rattle.host_port.specs.declared.call.Call.{Call}
use Rattle.host_port.specs.declared.start.Start.{Start}
use Rattle.host_port.specs.declared.stop.Spent.TheVariants as limit
use Rattle.wasm_form.specs.declared.parts.Parts.{Parts}
use Rattle.wasm_form.specs.Trees.{Code, Empty, Then, TableOf, BlockOf, LoopOf, IfOf, IfElseOf}
use Rattle.code_map.specs.declared.map.CodeMap.{CodeMap}
use Rattle.tree_machine.specs.Config.{Cont, Frame, Config}
use Rattle.tree_machine.specs.Limits.{judged}
use Rattle.tree_machine.specs.Outcomes.{Outcome, Stuck}
use Rattle.tree_machine.specs.Point.{Point, point, settle}
use Rattle.tree_machine.specs.Run.{point_at}
use Rattle.tree_machine.specs.RunLaws.{goes_on}
use Rattle.tree_machine.specs.Step.{next_of, next_in, next_among, next, stands_after, step}
use Rattle.tree_machine.specs.Typed.{IsTyped, IsNext, HasNextIn, HasNext}
use Rattle.flat_machine.specs.declared.halt.Halt.{Halt}
use Rattle.flat_machine.specs.declared.halt.Halt.TheVariants as halt
use Rattle.flat_machine.specs.Flat.{Flat}
use Rattle.flat_machine.specs.Mapping.{Follows}
use Rattle.flat_machine.specs.Entering.{StandsIn}
use Rattle.flat_machine.specs.Moves.{Move, Executes, Passes, Asks, Overfull, Ends, move}
use Rattle.flat_machine.specs.Moves as moves
use Rattle.flat_machine.specs.MovesAgree.{MoveAgrees}
use Rattle.flat_machine.specs.Runs.{MovesBy, RunsIn, IsSafe}
use Rattle.flat_machine.specs.Halts.{Comes, HaltsSo}
use Rattle.flat_machine.specs.Stands.{Stands, IsIn, IsReadyAt, HaltStands}
use Rattle.flat_machine.proofs.Executing.{ready_next, ready_settled}

-- where a rule applies an instruction is to come
code_comes : (m : Parts) (c : Config) (f : Frame) (k : Cont) (ks : List Cont) (below : List Frame) (code : Code) → next_of m code c f k ks below ≢ Stuck → IsNext code
code_comes m c f k ks below Empty h = absurd (h refl)
code_comes m c f k ks below (Then i rest) h = tt
code_comes m c f k ks below (TableOf labels last rest) h = tt
code_comes m c f k ks below (BlockOf result inside rest) h = tt
code_comes m c f k ks below (LoopOf result inside rest) h = tt
code_comes m c f k ks below (IfOf result inside rest) h = tt
code_comes m c f k ks below (IfElseOf result inside other rest) h = tt

list_comes : (m : Parts) (c : Config) (f : Frame) (below : List Frame) (ks : List Cont) → next_in m c f ks below ≢ Stuck → HasNextIn ks
list_comes m c f below [] h = absurd (h refl)
list_comes m c f below (k ∷ ks) h = code_comes m c f k ks below k.rest h

frame_comes : (m : Parts) (c : Config) (frames : List Frame) → next_among m c frames ≢ Stuck → HasNext frames
frame_comes m c [] h = absurd (h refl)
frame_comes m c (f ∷ below) h = list_comes m c f below f.conts h

goes_comes : (m : Parts) (c : Config) → next m c ≢ Stuck → HasNext c.frames
unfolding next
goes_comes m c h = frame_comes m c c.frames h

not_stuck : (m : Parts) (c : Config) (p : Point) (o : Outcome) → stands_after m c (judged o) ≡ Some p → o ≢ Stuck
unfolding judged
not_stuck m c p o h is =
    let none : stands_after m c (judged Stuck) ≡ Some p = ap (λ (x : Outcome). stands_after m c (judged x)) (sym is) ∙ h in absurd (cc)

-- a configuration that has a step was ready
pub step_ready : (m : Parts) (c : Config) (p : Point) → step m c ≡ Some p → settle m c ≡ point Ready c
unfolding step
step_ready m c p h = ready_settled m c (goes_comes m c (not_stuck m c p (next m c) h))

order : (k n : ℕ) (b : Bool) → nat_lt k n ≡ b → k < n + 1 → (k < n) ⊎ (k ≡ n)
order k n true e h = inl (grind (arith, nat_tests))
order k n false e h = let least : n ≤ k = grind (arith, nat_tests) in inr (omega arith)

module _ (m : Parts) (map : CodeMap) (agree : (flat : Flat) (c : Config) → Follows m map.bodies flat c → IsTyped m [] c → MoveAgrees m map flat c (move m map flat)) where
  -- the machine stands for a typed configuration
  record Told (flat : Flat) : Type 0 where
    config : Config
    follows : Follows m map.bodies flat config
    typed : IsTyped m [] config

  -- this move of the machine is a step of what it stands for
  agrees_as : (flat : Flat) (told : Told flat) (next_move : Move) → move m map flat ≡ next_move → MoveAgrees m map flat told.config next_move
  agrees_as flat told next_move is = subst (MoveAgrees m map flat told.config) is (agree flat told.config told.follows told.typed)

  told_on : (last : ℕ) (mid to : Flat) → Told mid → MovesBy m map last mid to → Told to
  told_on last mid to told (inl (one, is)) =
      let steps = agrees_as mid told (Executes to) is in record { config = steps.config; follows = steps.follows; typed = steps.typed }
  told_on last mid to told (inr (none, is)) =
      let stands = agrees_as mid told (Passes to) is in record { config = stands.to; follows = stands.follows; typed = stands.typed }

  told_in : (count executed : ℕ) (from to : Flat) → Told from → RunsIn m map count executed from to → Told to
  told_in zero executed from to told (none, same) = subst Told same told
  told_in (suc count) executed from to told (mid, before, last, sum, run, by) = told_on last mid to (told_in count before from mid told run) by

  not_stopped : (flat : Flat) → Told flat → move m map flat ≢ moves.Stuck
  not_stopped flat told is = agrees_as flat told moves.Stuck is

  module _ (start : Start) (calls : List Call) where
    abbrev told_of : (fuel : ℕ) (flat : Flat) → Stands m map start calls fuel flat → Told flat
    told_of fuel flat stands = record { config = stands.config; follows = stands.follows; typed = stands.typed }

    -- a machine that stands in the run is never stuck
    pub stands_safe : (fuel : ℕ) (flat : Flat) → Stands m map start calls fuel flat → IsSafe m map flat
    stands_safe fuel flat stands executed to runs = not_stopped to (told_in runs.0 executed flat to (told_of fuel flat stands) runs.1)

    -- the run is ready where its configuration has a step
    stands_ready : (fuel : ℕ) (flat : Flat) (stands : Stands m map start calls fuel flat) (p : Point) → step m stands.config ≡ Some p →
        point_at m start calls fuel ≡ Some (point Ready stands.config)
    stands_ready fuel flat stands p steps = stands.is_at ∙ ap (λ (q : Point). Some q) (step_ready m stands.config p steps)

    -- and goes on by it
    stands_steps : (fuel : ℕ) (flat : Flat) (stands : Stands m map start calls fuel flat) (p : Point) → step m stands.config ≡ Some p → fuel < start.limits.fuel →
        point_at m start calls (fuel + 1) ≡ Some p
    stands_steps fuel flat stands p steps less = goes_on m start calls fuel stands.config (stands_ready fuel flat stands p steps) less ∙ steps

    stands_by : (fuel last : ℕ) (mid to : Flat) → Stands m map start calls fuel mid → fuel + last ≤ start.limits.fuel → MovesBy m map last mid to →
        Stands m map start calls (fuel + last) to
    stands_by fuel last mid to stands most (inl (one, is)) =
        let steps = agrees_as mid (told_of fuel mid stands) (Executes to) is in
        let less : fuel < start.limits.fuel = omega arith in
        let count : fuel + 1 ≡ fuel + last = omega arith in
        record {
          config = steps.config;
          follows = steps.follows;
          typed = steps.typed;
          is_at = ap (point_at m start calls) (sym count) ∙ stands_steps fuel mid stands (settle m steps.config) steps.steps less;
        }
    stands_by fuel last mid to stands most (inr (none, is)) =
        let on = agrees_as mid (told_of fuel mid stands) (Passes to) is in
        let count : fuel ≡ fuel + last = omega arith in
        record {
          config = on.to;
          follows = on.follows;
          typed = on.typed;
          is_at = ap (point_at m start calls) (sym count) ∙ stands.is_at ∙ ap (λ (q : Point). Some q) (sym on.point);
        }

    stands_in : (count executed fuel : ℕ) (from to : Flat) → Stands m map start calls fuel from → fuel + executed ≤ start.limits.fuel → RunsIn m map count executed from to →
        Stands m map start calls (fuel + executed) to
    stands_in zero executed fuel from to stands most (none, same) =
        let count : fuel ≡ fuel + executed = omega arith in
        subst (λ (n : ℕ). Stands m map start calls n to) count (subst (Stands m map start calls fuel) same stands)
    stands_in (suc count) executed fuel from to stands most (mid, before, last, sum, run, by) =
        let there = stands_in count before fuel from mid stands (omega arith) run in
        let total : fuel + before + last ≡ fuel + executed = omega arith in
        subst (λ (n : ℕ). Stands m map start calls n to) total (stands_by (fuel + before) last mid to there (omega arith) by)

    -- on the way the run is ready at each number of instructions
    ready_by : (fuel last : ℕ) (mid to : Flat) → Stands m map start calls fuel mid → MovesBy m map last mid to → 0 < last → IsReadyAt m start calls fuel
    ready_by fuel last mid to stands (inl (one, is)) some =
        let steps = agrees_as mid (told_of fuel mid stands) (Executes to) is in
        (stands.config, stands_ready fuel mid stands (settle m steps.config) steps.steps)
    ready_by fuel last mid to stands (inr (none, is)) some = absurd (omega (arith, none, some))

    at_most_one : (last : ℕ) (mid to : Flat) → MovesBy m map last mid to → last ≤ 1
    at_most_one last mid to (inl (one, is)) = omega arith
    at_most_one last mid to (inr (none, is)) = omega arith

    ready_in : (count executed fuel k : ℕ) (from to : Flat) → Stands m map start calls fuel from → fuel + executed ≤ start.limits.fuel → k < executed →
        RunsIn m map count executed from to → IsReadyAt m start calls (fuel + k)
    ready_in zero executed fuel k from to stands most less (none, same) = absurd (omega (arith, none, less))
    ready_in (suc count) executed fuel k from to stands most less (mid, before, last, sum, run, by) =
        let one = at_most_one last mid to by in
        elim (order k before (nat_lt k before) refl (omega arith)) as (λ w. IsReadyAt m start calls (fuel + k)) [
          | inl earlier ↦ ready_in count before fuel k from mid stands (omega arith) earlier run
          | inr here ↦
              let there = stands_in count before fuel from mid stands (omega arith) run in
              subst (λ (n : ℕ). IsReadyAt m start calls (fuel + n)) (sym here) (ready_by (fuel + before) last mid to there by (omega arith))
        ]

    -- before the last instruction, which has this move, the machine stands
    before_last : (fuel executed : ℕ) (from before : Flat) (last : Move) (comes : Comes m map executed from before last) → Stands m map start calls fuel from →
        fuel + executed ≤ start.limits.fuel → Stands m map start calls (fuel + comes.count) before
    before_last fuel executed from before last comes stands most =
        let counted = comes.count_is in
        stands_in comes.runs.0 comes.count fuel from before stands (omega arith) comes.runs.1

    last_at : (fuel executed : ℕ) (from before : Flat) (last : Move) (comes : Comes m map executed from before last) (stands : Stands m map start calls fuel from)
        (most : fuel + executed ≤ start.limits.fuel) (p : Point) → step m (before_last fuel executed from before last comes stands most).config ≡ Some p →
        point_at m start calls (fuel + executed) ≡ Some p
    last_at fuel executed from before last comes stands most p steps =
        let counted = comes.count_is in
        let total : fuel + comes.count + 1 ≡ fuel + executed = omega arith in
        ap (point_at m start calls) (sym total)
        ∙ stands_steps (fuel + comes.count) before (before_last fuel executed from before last comes stands most) p steps (omega arith)

    last_ready : (fuel executed k : ℕ) (from before : Flat) (last : Move) (comes : Comes m map executed from before last) (stands : Stands m map start calls fuel from)
        (most : fuel + executed ≤ start.limits.fuel) → k < executed → (p : Point) →
        step m (before_last fuel executed from before last comes stands most).config ≡ Some p → IsReadyAt m start calls (fuel + k)
    last_ready fuel executed k from before last comes stands most less p steps =
        let counted = comes.count_is in
        let there = before_last fuel executed from before last comes stands most in
        elim (order k comes.count (nat_lt k comes.count) refl (omega arith)) as (λ w. IsReadyAt m start calls (fuel + k)) [
          | inl earlier ↦ ready_in comes.runs.0 comes.count fuel k from before stands (omega arith) earlier comes.runs.1
          | inr here ↦
              subst (λ (n : ℕ). IsReadyAt m start calls (fuel + n)) (sym here)
              (there.config, stands_ready (fuel + comes.count) before there p steps)
        ]

    -- what a machine's last move says of the step
    step_of : (fuel : ℕ) (flat : Flat) (stands : Stands m map start calls fuel flat) (next_move : Move) → move m map flat ≡ next_move →
        MoveAgrees m map flat stands.config next_move
    step_of fuel flat stands next_move is = agrees_as flat (told_of fuel flat stands) next_move is

    ended : (fuel : ℕ) (flat : Flat) (stands : Stands m map start calls fuel flat) (state : State) → StandsIn state flat.memory (settle m stands.config) →
        IsIn m start calls fuel state flat
    ended fuel flat stands state is =
        let p = settle m stands.config in
        (p.config, stands.is_at ∙ ap (λ (s : State). Some (point s p.config)) is.state_is, is.memory_is)

    -- where the machine halts the run stands so
    pub halts_stand : (reason : Halt) (fuel budget executed : ℕ) (from to : Flat) → Stands m map start calls fuel from → HaltsSo m map reason budget executed from to →
        fuel + executed ≤ start.limits.fuel → HaltStands m map start calls (fuel + executed) reason to
    halts_stand halt.Slice fuel budget executed from to stands (all, runs, ready) most =
        let there = stands_in runs.0 executed fuel from to stands most runs.1 in
        let is = ready_settled m there.config (ready_next m map to there.config there.follows there.typed ready) in
        (there, (there.config, there.is_at ∙ ap (λ (q : Point). Some q) is, sym there.follows.tells.memory))
    halts_stand (halt.Asks ask) fuel budget executed from to stands (before, results, comes) most =
        let there = before_last fuel executed from before (Asks ask results to) comes stands most in
        let asks = step_of (fuel + comes.count) before there (Asks ask results to) comes.last_is in
        let at = last_at fuel executed from before (Asks ask results to) comes stands most (point (Asking ask) asks.config) asks.steps in (
          record { results = results; config = asks.config; waits_for = asks.waits_for; is_at = at },
          (asks.config, at, sym asks.waits_for.follows.tells.memory),
        )
    halts_stand (halt.Trap trap) fuel budget executed from to stands (before, comes, memory) most =
        let there = before_last fuel executed from before (moves.Traps trap) comes stands most in
        let steps = step_of (fuel + comes.count) before there (moves.Traps trap) comes.last_is in
        (there.config, last_at fuel executed from before (moves.Traps trap) comes stands most (point (Trapped trap) there.config) steps, sym there.follows.tells.memory ∙ sym memory)
    halts_stand (halt.Spent spent) fuel budget executed from to stands (before, comes, memory) most =
        let there = before_last fuel executed from before (moves.Exceeds spent) comes stands most in
        let steps = step_of (fuel + comes.count) before there (moves.Exceeds spent) comes.last_is in
        (there.config, last_at fuel executed from before (moves.Exceeds spent) comes stands most (point (Exhausted spent) there.config) steps, sym there.follows.tells.memory ∙ sym memory)
    halts_stand halt.Overfull fuel budget executed from to stands (runs, is) most =
        let there = stands_in runs.0 executed fuel from to stands most runs.1 in
        ended (fuel + executed) to there (Exhausted limit.Values) (step_of (fuel + executed) to there Overfull is)
    halts_stand halt.Ends fuel budget executed from to stands (runs, is) most =
        let there = stands_in runs.0 executed fuel from to stands most runs.1 in
        ended (fuel + executed) to there Finished (step_of (fuel + executed) to there Ends is)

    -- and was ready before
    pub halts_ready : (reason : Halt) (fuel budget executed k : ℕ) (from to : Flat) → Stands m map start calls fuel from → HaltsSo m map reason budget executed from to →
        fuel + executed ≤ start.limits.fuel → k < executed → IsReadyAt m start calls (fuel + k)
    halts_ready halt.Slice fuel budget executed k from to stands (all, runs, ready) most less = ready_in runs.0 executed fuel k from to stands most less runs.1
    halts_ready (halt.Asks ask) fuel budget executed k from to stands (before, results, comes) most less =
        let there = before_last fuel executed from before (Asks ask results to) comes stands most in
        let asks = step_of (fuel + comes.count) before there (Asks ask results to) comes.last_is in
        last_ready fuel executed k from before (Asks ask results to) comes stands most less (point (Asking ask) asks.config) asks.steps
    halts_ready (halt.Trap trap) fuel budget executed k from to stands (before, comes, memory) most less =
        let there = before_last fuel executed from before (moves.Traps trap) comes stands most in
        last_ready fuel executed k from before (moves.Traps trap) comes stands most less (point (Trapped trap) there.config)
        (step_of (fuel + comes.count) before there (moves.Traps trap) comes.last_is)
    halts_ready (halt.Spent spent) fuel budget executed k from to stands (before, comes, memory) most less =
        let there = before_last fuel executed from before (moves.Exceeds spent) comes stands most in
        last_ready fuel executed k from before (moves.Exceeds spent) comes stands most less (point (Exhausted spent) there.config)
        (step_of (fuel + comes.count) before there (moves.Exceeds spent) comes.last_is)
    halts_ready halt.Overfull fuel budget executed k from to stands (runs, is) most less = ready_in runs.0 executed fuel k from to stands most less runs.1
    halts_ready halt.Ends fuel budget executed k from to stands (runs, is) most less = ready_in runs.0 executed fuel k from to stands most less runs.1

-- An instruction's effect is within the limit of values exactly where the trees' step is.
use Rattle.std.proofs.Common.{◌≡◌, ◌≢◌, ℕ, inl, inr, Bool, true, false, cond, nat_le, List, [], ◌∷◌, ◌++◌, Some, refl, sym, ◌∙◌, ap, subst}
use Rattle.wasm_ops.specs.declared.trap.Trap.{Trap}
use Rattle.host_port.specs.Standing.{Ready, Trapped, Exhausted}
use Rattle.host_port.specs.declared.stop.Spent.{Spent}
use Rattle.host_port.specs.declared.stop.Spent.TheVariants as limit
use Rattle.wasm_form.specs.declared.instr.Instr.{Instr}
use Rattle.wasm_form.specs.declared.parts.Parts.{Parts}
use Rattle.wasm_form.specs.Trees.{Code, Empty, Then, TableOf, BlockOf, LoopOf, IfOf, IfElseOf}
use Rattle.code_map.specs.declared.map.CodeMap.{CodeMap}
use Rattle.tree_machine.specs.Config.{Cont, Frame, Config}
use Rattle.tree_machine.specs.Exits.{unless_ended, leave_lists, unless_returned, return_to, settled}
use Rattle.tree_machine.specs.Limits.{most_values, places, judged}
use Rattle.tree_machine.specs.Outcomes.{Effect, Gives, Fails, Undefined, Outcome, Goes, Calls, Traps, Exceeds, Stuck}
use Rattle.tree_machine.specs.Point.{Point, point, unless_left, enter_next, settle}
use Rattle.tree_machine.specs.Step.{next, stands_after, step}
use Rattle.tree_machine.specs.Typed.{IsTyped, IsNext, HasNextIn, HasNext, IsKept}
use Rattle.flat_machine.specs.Flat.{Flat}
use Rattle.flat_machine.specs.Tells.{PlacesStand, IsInstrAt, Agrees}
use Rattle.flat_machine.specs.Mapping.{Follows}
use Rattle.flat_machine.specs.Moves.{Executes, Exceeds as Passed, executes, places_in}
use Rattle.flat_machine.specs.Runs.{IsReady}
use Rattle.flat_machine.specs.MovesAgree.{MoveAgrees}
use Rattle.flat_machine.proofs.Standing.{BeginsWith}
use Rattle.flat_machine.proofs.BlocksAgree.{work}
use Rattle.flat_machine.proofs.Rooms.{places_counted}

-- what an instruction that begins a list leaves to come
comes_next : (i : Instr) (code : Code) → BeginsWith i code → i.code ≢ 0x0B → i.code ≢ 0x05 → IsNext code
comes_next i Empty (inl e) end other = absurd (end (ap (λ (x : Instr). x.code) e))
comes_next i Empty (inr e) end other = absurd (other (ap (λ (x : Instr). x.code) e))
comes_next i (Then j rest) e end other = tt
comes_next i (TableOf labels last rest) e end other = tt
comes_next i (BlockOf result inside rest) e end other = tt
comes_next i (LoopOf result inside rest) e end other = tt
comes_next i (IfOf result inside rest) e end other = tt
comes_next i (IfElseOf result inside other_code rest) e end other = tt

module _ (m : Parts) (map : CodeMap) (flat : Flat) (c : Config) (follows : Follows m map.bodies flat c) (typed : IsTyped m [] c) where
  next_at : (frames : List Frame) → c.frames ≡ frames → (i : Instr) → IsInstrAt m flat.place i → i.code ≢ 0x0B → i.code ≢ 0x05 → HasNext frames
  next_at [] e i at end other = absurd (subst (λ (frames : List Frame). PlacesStand m (flat.place ∷ flat.callers) frames) e follows.tells.places)
  next_at (f ∷ below) e i at end other =
      let w = work m map.bodies flat c follows typed i f below at e in
      subst HasNextIn (sym w.inner.is) (comes_next i w.inner.k.rest w.inner.begins end other)

  -- where the machine has an instruction to come, so has the configuration
  pub ready_next : IsReady m flat → HasNext c.frames
  ready_next (i, at, end, other) = next_at c.frames refl i at end other

not_ended : (code : Code) (stays goes : Frame) → IsNext code → unless_ended code stays goes ≡ stays
not_ended Empty stays goes h = absurd h
not_ended (Then i rest) stays goes h = refl
not_ended (TableOf labels last rest) stays goes h = refl
not_ended (BlockOf result inside rest) stays goes h = refl
not_ended (LoopOf result inside rest) stays goes h = refl
not_ended (IfOf result inside rest) stays goes h = refl
not_ended (IfElseOf result inside other rest) stays goes h = refl

stays_in : (f : Frame) (ks : List Cont) → f.conts ≡ ks → HasNextIn ks → leave_lists f.locals f.operands ks ≡ record f { conts = ks }
stays_in f [] e h = absurd h
stays_in f (k ∷ ks) e h = not_ended k.rest (record f { conts = k ∷ ks }) (leave_lists f.locals (f.operands ++ k.under) ks) h

goes_on_with : (ks : List Cont) (stays goes : List Frame) → HasNextIn ks → unless_returned ks stays goes ≡ stays
goes_on_with [] stays goes h = absurd h
goes_on_with (k ∷ ks) stays goes h = refl

-- no exit is to be made
settled_next : (frames : List Frame) → HasNext frames → settled frames ≡ frames
unfolding settled
settled_next [] h = absurd h
settled_next (f ∷ below) h =
    let left : leave_lists f.locals f.operands f.conts ≡ f = stays_in f f.conts refl h in
    ap (λ (g : Frame). unless_returned g.conts (g ∷ below) (return_to g.operands below)) left
    ∙ goes_on_with f.conts (f ∷ below) (return_to f.operands below) h

ready_if : (c : Config) (frames : List Frame) (goes : Point) → c.frames ≡ frames → HasNext frames → unless_left frames c goes ≡ point Ready c
ready_if c [] goes e h = absurd h
ready_if c (f ∷ below) goes e h = ap (λ (frames : List Frame). point Ready (record c { frames = frames })) (sym e)

-- a configuration with an instruction to come is ready
pub ready_settled : (m : Parts) (c : Config) → HasNext c.frames → settle m c ≡ point Ready c
unfolding settle
ready_settled m c h =
    ap (λ (frames : List Frame). unless_left frames c (enter_next m c c.invocations)) (settled_next c.frames h)
    ∙ ready_if c c.frames (enter_next m c c.invocations) refl h

-- where a step leads
pub step_is : (m : Parts) (c : Config) (o j : Outcome) → next m c ≡ o → judged o ≡ j → step m c ≡ stands_after m c j
unfolding step
step_is m c o j is judge = ap (λ (x : Outcome). stands_after m c (judged x)) is ∙ ap (stands_after m c) judge

pub step_exceeds : (m : Parts) (c : Config) (spent : Spent) → next m c ≡ Exceeds spent → step m c ≡ Some (point (Exhausted spent) c)
unfolding judged
step_exceeds m c spent is = step_is m c (Exceeds spent) (Exceeds spent) is refl

pub step_traps : (m : Parts) (c : Config) (trap : Trap) → next m c ≡ Traps trap → step m c ≡ Some (point (Trapped trap) c)
unfolding judged
step_traps m c trap is = step_is m c (Traps trap) (Traps trap) is refl

module _ (m : Parts) (map : CodeMap) (flat : Flat) (c : Config) where
  within : (to : Flat) (d : Config) → next m c ≡ Goes d → Follows m map.bodies to d → IsTyped m [] d → (room : Bool) → nat_le (places_in to) most_values ≡ room →
      MoveAgrees m map flat c (executes (Gives to))
  unfolding judged
  within to d is follows typed true room =
      let counted : places_in to ≡ places d.frames = places_counted m to d follows.tells in
      let fits : judged (Goes d) ≡ Goes d =
      ap (λ (b : Bool). cond b (Goes d) (Exceeds limit.Values)) (ap (λ (n : ℕ). nat_le n most_values) (sym counted) ∙ room) in
      let moves : executes (Gives to) ≡ Executes to = ap (λ (b : Bool). cond b (Executes to) (Passed limit.Values)) room in
      subst (MoveAgrees m map flat c) (sym moves)
      (record { config = d; steps = step_is m c (Goes d) (Goes d) is fits; typed = typed; follows = follows })
  within to d is follows typed false room =
      let counted : places_in to ≡ places d.frames = places_counted m to d follows.tells in
      let over : judged (Goes d) ≡ Exceeds limit.Values =
      ap (λ (b : Bool). cond b (Goes d) (Exceeds limit.Values)) (ap (λ (n : ℕ). nat_le n most_values) (sym counted) ∙ room) in
      let moves : executes (Gives to) ≡ Passed limit.Values = ap (λ (b : Bool). cond b (Executes to) (Passed limit.Values)) room in
      subst (MoveAgrees m map flat c) (sym moves) (step_is m c (Goes d) (Exceeds limit.Values) is over)

  -- an effect that agrees with what the trees' instruction makes
  pub executes_agree : (e : Effect Flat) (o : Outcome) → next m c ≡ o → Agrees (Follows m map.bodies) e o → IsKept m o → MoveAgrees m map flat c (executes e)
  executes_agree (Gives to) (Goes d) is h kept = within to d is h kept (nat_le (places_in to) most_values) refl
  executes_agree (Fails trap) (Traps other) is h kept = step_traps m c trap (is ∙ ap (λ (t : Trap). Traps t) (sym h))
  executes_agree (Gives to) (Calls ask results waits) is h kept = absurd h
  executes_agree (Gives to) (Traps trap) is h kept = absurd h
  executes_agree (Gives to) (Exceeds spent) is h kept = absurd h
  executes_agree (Gives to) Stuck is h kept = absurd h
  executes_agree (Fails trap) (Goes d) is h kept = absurd h
  executes_agree (Fails trap) (Calls ask results waits) is h kept = absurd h
  executes_agree (Fails trap) (Exceeds spent) is h kept = absurd h
  executes_agree (Fails trap) Stuck is h kept = absurd h
  executes_agree Undefined (Goes d) is h kept = absurd h
  executes_agree Undefined (Calls ask results waits) is h kept = absurd h
  executes_agree Undefined (Traps trap) is h kept = absurd h
  executes_agree Undefined (Exceeds spent) is h kept = absurd h
  executes_agree Undefined Stuck is h kept = absurd h

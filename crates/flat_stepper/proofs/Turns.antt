-- What a turn tells where the execution of a body pauses.
use Rattle.std.proofs.Common.{◌≡◌, ◌≢◌, ◌<◌, ℕ, Bool, List, length, refl, sym, subst}
use Rattle.linear_memory.specs.Contents.{Contents}
use Rattle.wasm_form.specs.declared.instr.Instr.{Instr}
use Rattle.wasm_form.specs.declared.parts.Parts.{Parts}
use Rattle.code_map.specs.declared.map.CodeMap.{CodeMap}
use Rattle.flat_machine.specs.Flat.{Flat}
use Rattle.flat_machine.specs.Tells.{IsInstrAt}
use Rattle.flat_machine.specs.Moves.{leave, move}
use Rattle.flat_machine.specs.Runs.{Runs}
use Rattle.flat_machine.specs.Shown.{moved}
use Rattle.flat_stepper.specs.declared.turn.Pause.{Pause}
use Rattle.flat_stepper.specs.declared.turn.Pause.TheVariants as pause
use Rattle.flat_stepper.specs.declared.turn.Turn.{Turn}
use Rattle.flat_stepper.specs.declared.within.Spot.{Spot}
use Rattle.flat_stepper.specs.Pauses.{PausesSo}
use Rattle.flat_stepper.specs.Standing.{HoldsBack}

-- what a turn has to tell of a machine
abbrev pub Tells : Parts → CodeMap → Flat → (has : Bool) → (values : List ℕ) → Contents → (globals : List ℕ) → (budget : ℕ) → (why : Pause) → (executed pc sp opens : ℕ) → Type 0
Tells m map flat has values memory globals budget why executed pc sp opens =
    Runs m map executed flat (moved flat has values sp memory globals pc opens)
    × PausesSo m map why budget executed (length values) (moved flat has values sp memory globals pc opens)

-- it tells it of the spot at hand
told : (m : Parts) (map : CodeMap) (flat : Flat) (has : Bool) (values : List ℕ) (memory : Contents) (globals : List ℕ) (spot : Spot) (executed budget : ℕ) (turn : Turn) (why : Pause) →
    turn.pause ≡ why → turn.executed ≡ executed → turn.pc ≡ spot.pc → turn.sp ≡ spot.sp → turn.opens ≡ spot.opens →
    Tells m map flat has values memory globals budget why executed spot.pc spot.sp spot.opens →
    Tells m map flat has values memory globals budget turn.pause turn.executed turn.pc turn.sp turn.opens
told m map flat has values memory globals spot executed budget turn why why_is executed_is pc sp opens tells =
    let A : Pause → Type 0 = λ (w : Pause). Tells m map flat has values memory globals budget w executed spot.pc spot.sp spot.opens in
    let a = subst A (sym why_is) tells in
    let B : ℕ → Type 0 = λ (n : ℕ). Tells m map flat has values memory globals budget turn.pause n spot.pc spot.sp spot.opens in
    let b = subst B (sym executed_is) a in
    let C : ℕ → Type 0 = λ (n : ℕ). Tells m map flat has values memory globals budget turn.pause turn.executed n spot.sp spot.opens in
    let c = subst C (sym pc) b in
    let D : ℕ → Type 0 = λ (n : ℕ). Tells m map flat has values memory globals budget turn.pause turn.executed turn.pc n spot.opens in
    let d = subst D (sym sp) c in
    let E : ℕ → Type 0 = λ (n : ℕ). Tells m map flat has values memory globals budget turn.pause turn.executed turn.pc turn.sp n in
    subst E (sym opens) d

-- the budget is used up, at an instruction
pub ready_turn : (m : Parts) (map : CodeMap) (flat : Flat) (has : Bool) (values : List ℕ) (memory : Contents) (globals : List ℕ) (spot : Spot) (executed budget : ℕ) (turn : Turn) (i : Instr) →
    Runs m map executed flat (moved flat has values spot.sp memory globals spot.pc spot.opens) →
    turn.pause ≡ pause.Slice → turn.executed ≡ budget → turn.pc ≡ spot.pc → turn.sp ≡ spot.sp → turn.opens ≡ spot.opens → executed ≡ budget →
    IsInstrAt m (moved flat has values spot.sp memory globals spot.pc spot.opens).place i → i.code ≢ 0x0B → i.code ≢ 0x05 →
    Tells m map flat has values memory globals budget turn.pause turn.executed turn.pc turn.sp turn.opens
ready_turn m map flat has values memory globals spot executed budget turn i run why_is executed_is pc sp opens count at end other =
    let R : ℕ → Type 0 = λ (n : ℕ). Runs m map n flat (moved flat has values spot.sp memory globals spot.pc spot.opens) in
    told m map flat has values memory globals spot budget budget turn pause.Slice why_is executed_is pc sp opens (subst R count run, (refl, (i, at, end, other)))

-- behind the code
pub over_turn : (m : Parts) (map : CodeMap) (flat : Flat) (has : Bool) (values : List ℕ) (memory : Contents) (globals : List ℕ) (spot : Spot) (executed budget : ℕ) (turn : Turn) →
    Runs m map executed flat (moved flat has values spot.sp memory globals spot.pc spot.opens) →
    turn.pause ≡ pause.Over → turn.executed ≡ executed → turn.pc ≡ spot.pc → turn.sp ≡ spot.sp → turn.opens ≡ spot.opens →
    move m map (moved flat has values spot.sp memory globals spot.pc spot.opens) ≡ leave m map flat.callers (moved flat has values spot.sp memory globals spot.pc spot.opens) →
    Tells m map flat has values memory globals budget turn.pause turn.executed turn.pc turn.sp turn.opens
over_turn m map flat has values memory globals spot executed budget turn run why_is executed_is pc sp opens over =
    told m map flat has values memory globals spot executed budget turn pause.Over why_is executed_is pc sp opens (run, over)

-- why an instruction is not executed
pauses : (m : Parts) (map : CodeMap) (flat : Flat) (i : Instr) (executed budget places : ℕ) (why : Pause) → executed < budget → IsInstrAt m flat.place i → HoldsBack m map why places i flat →
    PausesSo m map why budget executed places flat
pauses m map flat i executed budget places pause.Slice less at h = absurd h
pauses m map flat i executed budget places pause.Over less at h = absurd h
pauses m map flat i executed budget places pause.Full less at h = (less, h)
pauses m map flat i executed budget places (pause.Call function) less at h = (less, (i, at, h.0, h.1))
pauses m map flat i executed budget places (pause.CallIndirect ty) less at h = (less, (i, at, h.0, h.1))
pauses m map flat i executed budget places (pause.Trap trap) less at h = (less, h)

-- at an instruction that is not executed; `before` is the machine before the step, which changes nothing
pub held_turn : (m : Parts) (map : CodeMap) (flat : Flat) (has : Bool) (values : List ℕ) (memory : Contents) (globals : List ℕ) (before : Flat) (spot : Spot) (executed budget : ℕ) (turn : Turn)
    (i : Instr) (why : Pause) → Runs m map executed flat before → turn.pause ≡ why → turn.executed ≡ executed → turn.pc ≡ spot.pc → turn.sp ≡ spot.sp → turn.opens ≡ spot.opens →
    executed < budget → IsInstrAt m before.place i →
    HoldsBack m map why (length values) i before × (moved flat has values spot.sp memory globals spot.pc spot.opens ≡ before) →
    Tells m map flat has values memory globals budget turn.pause turn.executed turn.pc turn.sp turn.opens
held_turn m map flat has values memory globals before spot executed budget turn i why run why_is executed_is pc sp opens less at held =
    let T : Flat → Type 0 = λ (f : Flat). Runs m map executed flat f × PausesSo m map why budget executed (length values) f in
    told m map flat has values memory globals spot executed budget turn why why_is executed_is pc sp opens
    (subst T (sym held.1) (run, pauses m map before i executed budget (length values) why less at held.0))

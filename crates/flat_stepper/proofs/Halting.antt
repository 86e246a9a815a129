-- How parts of a run make a run that halts.
use Rattle.std.proofs.Common.{◌≡◌, ◌≢◌, ℕ, zero, suc, ◌+◌, ◌≤◌, ◌<◌, List, length, slice_get, Option, Some, None, refl, sym, ap, ◌∙◌, subst, arith}
use Rattle.host_port.specs.declared.ask.Ask.{Ask}
use Rattle.host_port.specs.declared.stop.Spent.TheVariants as limit
use Rattle.wasm_form.specs.declared.body.Body.{Body}
use Rattle.wasm_form.specs.declared.instr.Instr.{Instr}
use Rattle.wasm_form.specs.declared.instr.Imm.TheVariants as imm
use Rattle.wasm_form.specs.declared.parts.Parts.{Parts}
use Rattle.code_map.specs.declared.map.CodeMap.{CodeMap}
use Rattle.flat_machine.specs.declared.halt.Halt.{Halt}
use Rattle.flat_machine.specs.declared.halt.Halt.TheVariants as halt
use Rattle.flat_machine.specs.Flat.{Flat}
use Rattle.flat_machine.specs.Tells.{IsInstrAt}
use Rattle.flat_machine.specs.Moves.{Move, Executes, Passes, Asks, Traps, Exceeds, Overfull, Ends, Stuck, move, move_by, move_in, move_at, call_function, call_indirect}
use Rattle.flat_machine.specs.Runs.{Runs, IsSafe}
use Rattle.flat_machine.specs.Halts.{Comes, HaltsSo}
use Rattle.flat_machine.proofs.RunsCompose.{runs_joined, runs_executed, runs_passed, safe_on}
use Rattle.flat_stepper.specs.Pauses.{IsIndexedAt}
use Rattle.flat_stepper.specs.Outcomes.{Calls, Leaves, AdvancesSo}

-- the move at an instruction
at_instr : (m : Parts) (map : CodeMap) (flat : Flat) (i : Instr) → (at : IsInstrAt m flat.place i) → move m map flat ≡ move_by m map (length at.0.expr.code) i flat
unfolding move
at_instr m map flat i (body, body_is, is) =
    ap (λ (b : Option Body). move_in m map b flat) body_is ∙ ap (λ (o : Option Instr). move_at m map (length body.expr.code) o flat) is

call_by : (m : Parts) (map : CodeMap) (size index : ℕ) (i : Instr) (flat : Flat) → i.code ≡ 0x10 → i.imm ≡ imm.Index index →
    move_by m map size i flat ≡ call_function m map (Some index) flat
unfolding move_by
call_by m map size index i flat code_is imm_is = rw (code_is, imm_is) refl

call_indirect_by : (m : Parts) (map : CodeMap) (size index : ℕ) (i : Instr) (flat : Flat) → i.code ≡ 0x11 → i.imm ≡ imm.Index index →
    move_by m map size i flat ≡ call_indirect m map (Some index) flat
unfolding move_by
call_indirect_by m map size index i flat code_is imm_is = rw (code_is, imm_is) refl

pub move_call : (m : Parts) (map : CodeMap) (index : ℕ) (flat : Flat) → IsIndexedAt m flat 0x10 index → move m map flat ≡ call_function m map (Some index) flat
move_call m map index flat (i, at, code_is, imm_is) = at_instr m map flat i at ∙ call_by m map (length at.0.expr.code) index i flat code_is imm_is

pub move_call_indirect : (m : Parts) (map : CodeMap) (index : ℕ) (flat : Flat) → IsIndexedAt m flat 0x11 index → move m map flat ≡ call_indirect m map (Some index) flat
move_call_indirect m map index flat (i, at, code_is, imm_is) = at_instr m map flat i at ∙ call_indirect_by m map (length at.0.expr.code) index i flat code_is imm_is

-- where it is safe it is not stuck
pub not_stuck : (m : Parts) (map : CodeMap) (executed : ℕ) (from to : Flat) (other : Move) → IsSafe m map from → Runs m map executed from to → move m map to ≡ other → other ≢ Stuck
not_stuck m map executed from to other safe run is stuck = safe executed to run (is ∙ stuck)

-- a call, after a run
pub calls_advance : (m : Parts) (map : CodeMap) (h : Option Halt) (budget n : ℕ) (start mid to : Flat) (other : Move) →
    Runs m map n start mid → move m map mid ≡ other → Calls other h mid to → AdvancesSo m map h budget (n + 1) start to
calls_advance m map None budget n start mid to other run is calls = runs_joined m map n 1 start mid to run (runs_executed m map mid to (is ∙ calls))
calls_advance m map (Some (halt.Asks ask)) budget n start mid to other run is calls =
    (mid, calls.0, record { count = n; count_is = refl; runs = run; last_is = is ∙ calls.1 })
calls_advance m map (Some (halt.Trap trap)) budget n start mid to other run is calls =
    (mid, record { count = n; count_is = refl; runs = run; last_is = is ∙ calls.0 }, ap (λ (f : Flat). f.memory) calls.1)
calls_advance m map (Some (halt.Spent spent)) budget n start mid to other run is calls =
    (mid, record { count = n; count_is = refl; runs = run; last_is = is ∙ calls.0 }, ap (λ (f : Flat). f.memory) calls.1)
calls_advance m map (Some halt.Slice) budget n start mid to other run is calls = absurd calls
calls_advance m map (Some halt.Overfull) budget n start mid to other run is calls = absurd calls
calls_advance m map (Some halt.Ends) budget n start mid to other run is calls = absurd calls

-- a function that is over, after a run
pub leaves_advance : (m : Parts) (map : CodeMap) (h : Option Halt) (budget n : ℕ) (start mid to : Flat) (other : Move) →
    Runs m map n start mid → move m map mid ≡ other → Leaves other h mid to → AdvancesSo m map h budget n start to
leaves_advance m map None budget n start mid to other run is leaves =
    let none : n + 0 ≡ n = omega arith in
    subst (λ (k : ℕ). Runs m map k start to) none (runs_joined m map n 0 start mid to run (runs_passed m map mid to (is ∙ leaves)))
leaves_advance m map (Some halt.Overfull) budget n start mid to other run is leaves =
    subst (λ (f : Flat). Runs m map n start f × (move m map f ≡ Overfull)) (sym leaves.1) (run, is ∙ leaves.0)
leaves_advance m map (Some halt.Ends) budget n start mid to other run is leaves =
    subst (λ (f : Flat). Runs m map n start f × (move m map f ≡ Ends)) (sym leaves.1) (run, is ∙ leaves.0)
leaves_advance m map (Some (halt.Asks ask)) budget n start mid to other run is leaves = absurd leaves
leaves_advance m map (Some (halt.Trap trap)) budget n start mid to other run is leaves = absurd leaves
leaves_advance m map (Some (halt.Spent spent)) budget n start mid to other run is leaves = absurd leaves
leaves_advance m map (Some halt.Slice) budget n start mid to other run is leaves = absurd leaves

comes_after : (m : Parts) (map : CodeMap) (a b : ℕ) (start mid before : Flat) (last : Move) → Runs m map a start mid →
    Comes m map b mid before last → Comes m map (a + b) start before last
comes_after m map a b start mid before last run c = record {
  count = a + c.count;
  count_is = omega (arith, c.count_is);
  runs = runs_joined m map a c.count start mid before run c.runs;
  last_is = c.last_is;
}

-- a run that halts, after a run
pub halts_after : (m : Parts) (map : CodeMap) (h : Halt) (budget a b left : ℕ) (start mid to : Flat) → budget ≡ a + left → Runs m map a start mid →
    HaltsSo m map h left b mid to → HaltsSo m map h budget (a + b) start to
halts_after m map halt.Slice budget a b left start mid to split run h = (omega (arith, h.0), runs_joined m map a b start mid to run h.1, h.2)
halts_after m map (halt.Asks ask) budget a b left start mid to split run h = (h.0, h.1, comes_after m map a b start mid h.0 _ run h.2)
halts_after m map (halt.Trap trap) budget a b left start mid to split run h = (h.0, comes_after m map a b start mid h.0 _ run h.1, h.2)
halts_after m map (halt.Spent spent) budget a b left start mid to split run h = (h.0, comes_after m map a b start mid h.0 _ run h.1, h.2)
halts_after m map halt.Overfull budget a b left start mid to split run h = (runs_joined m map a b start mid to run h.0, h.1)
halts_after m map halt.Ends budget a b left start mid to split run h = (runs_joined m map a b start mid to run h.0, h.1)

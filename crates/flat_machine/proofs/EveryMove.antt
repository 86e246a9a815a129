-- Each move of the flat machine is a step, or passes what costs nothing.
use Rattle.std.proofs.Common.{◌≡◌, ◌≢◌, ℕ, [], length, arith, refl, sym, ◌∙◌, ap, subst}
use Rattle.wasm_form.specs.declared.instr.Instr.{Instr}
use Rattle.wasm_form.specs.declared.parts.Parts.{Parts}
use Rattle.wasm_form.specs.Trees.{end_instr, else_instr, block_instr, loop_instr, if_instr, table_instr}
use Rattle.code_map.specs.declared.map.CodeMap.{CodeMap}
use Rattle.tree_machine.specs.Config.{Config}
use Rattle.tree_machine.specs.Step.{next}
use Rattle.tree_machine.specs.Typed.{IsTyped, IsTypedModule, IsKept}
use Rattle.tree_machine.proofs.StepTyped.{next_kept}
use Rattle.flat_machine.specs.Flat.{Flat}
use Rattle.flat_machine.specs.Text.{IsAt}
use Rattle.flat_machine.specs.Tells.{IsInstrAt}
use Rattle.flat_machine.specs.Mapping.{Follows}
use Rattle.flat_machine.specs.MappedModule.{IsMappedModule}
use Rattle.flat_machine.specs.Moves.{move}
use Rattle.flat_machine.specs.MovesAgree.{MoveAgrees}
use Rattle.flat_machine.proofs.Branchings.{br_moves, return_moves, br_if_moves, table_moves}
use Rattle.flat_machine.proofs.CallMoves.{call_agrees, call_through_agrees}
use Rattle.flat_machine.proofs.Dispatch.{MovesHere, every_agrees}
use Rattle.flat_machine.proofs.Executing.{ready_next}
use Rattle.flat_machine.proofs.ListMoves.{block_moves, loop_moves, if_moves, end_moves, else_moves}
use Rattle.flat_machine.proofs.StraightMoves.{straight_moves}

module _ (m : Parts) (map : CodeMap) (module_typed : IsTypedModule m) (mapped : IsMappedModule m map) (flat : Flat) (c : Config) (follows : Follows m map.bodies flat c)
    (typed : IsTyped m [] c) where
  -- a rule applies to what is no end
  kept : (i : Instr) → IsInstrAt m flat.place i → (code : ℕ) → i.code ≡ code → code ≢ 0x0B → code ≢ 0x05 → IsKept m (next m c)
  kept i at code e end other =
      next_kept m module_typed c typed (ready_next m map flat c follows typed (i, at, λ w. end (sym e ∙ w), λ w. other (sym e ∙ w)))

  -- what stands at the place, under another name
  abbrev named : (i j : Instr) (at : IsInstrAt m flat.place i) → i ≡ j → IsInstrAt m flat.place j
  named i j at e = (at.0, at.1, subst (λ (x : Instr). IsAt at.0.expr flat.place.pc x) e at.2)

  code_of : (i j : Instr) → i ≡ j → i.code ≡ j.code
  code_of i j e = ap (λ (x : Instr). x.code) e

  -- the moves of the instruction at the place
  every_here : (i : Instr) (at : IsInstrAt m flat.place i) → MovesHere m map flat c i (length at.0.expr.code)
  every_here i at = record {
    ends = λ e. end_moves m map flat c follows typed (named i end_instr at e);
    others = λ e. else_moves m map flat c follows typed (named i else_instr at e);
    blocks = λ result e. block_moves m map flat c follows typed result (named i (block_instr result) at e)
        (kept i at 0x02 (code_of i (block_instr result) e) (λ w. absurd (omega (arith, w))) (λ w. absurd (omega (arith, w))));
    loops = λ result e. loop_moves m map flat c follows typed result (named i (loop_instr result) at e)
        (kept i at 0x03 (code_of i (loop_instr result) e) (λ w. absurd (omega (arith, w))) (λ w. absurd (omega (arith, w))));
    chosen = λ result e. if_moves m map flat c follows typed result (named i (if_instr result) at e)
        (kept i at 0x04 (code_of i (if_instr result) e) (λ w. absurd (omega (arith, w))) (λ w. absurd (omega (arith, w))));
    tables = λ first count last e. table_moves m map flat c follows typed first count last (named i (table_instr first count last) at e)
        (kept i at 0x0E (code_of i (table_instr first count last) e) (λ w. absurd (omega (arith, w))) (λ w. absurd (omega (arith, w))));
    branches = λ label code index. br_moves m map flat c follows typed i label at code index
        (kept i at 0x0C code (λ w. absurd (omega (arith, w))) (λ w. absurd (omega (arith, w))));
    branches_if = λ label code index. br_if_moves m map flat c follows typed i label at code index
        (kept i at 0x0D code (λ w. absurd (omega (arith, w))) (λ w. absurd (omega (arith, w))));
    returns = λ code. return_moves m map flat c follows typed i at code
        (kept i at 0x0F code (λ w. absurd (omega (arith, w))) (λ w. absurd (omega (arith, w))));
    calls = λ function code index. call_agrees m map module_typed mapped flat c follows typed i at function code index;
    calls_through = λ ty code index. call_through_agrees m map module_typed mapped flat c follows typed i at ty code index;
    straight = λ other. straight_moves m map flat c follows typed i at other (kept i at i.code refl other.no_end other.no_other);
  }

  -- each move
  pub every_move : MoveAgrees m map flat c (move m map flat)
  every_move = every_agrees m map module_typed mapped flat c follows typed every_here

-- The move of an instruction, by its code.
use Rattle.std.proofs.Common.{◌≡◌, ◌≢◌, ◌⊎◌, inl, inr, ℕ, refl}
use Rattle.std.proofs.lemmas.Bool.{ne_eqb}
use Rattle.wasm_form.specs.declared.instr.Instr.{Instr}
use Rattle.wasm_form.specs.declared.parts.Parts.{Parts}
use Rattle.code_map.specs.declared.map.CodeMap.{CodeMap}
use Rattle.tree_machine.specs.Instructions.{plain_of, index_in}
use Rattle.tree_machine.specs.Outcomes.{Gives}
use Rattle.flat_machine.specs.Flat.{Flat}
use Rattle.flat_machine.specs.Control.{begin_list}
use Rattle.flat_machine.specs.Moves.{executes, target_at, jump_to, branch_if, branch_table, choose, pass_end, pass_other, call_function, call_indirect, go_straight, move_by}

pub moves_end : (m : Parts) (map : CodeMap) (size : ℕ) (i : Instr) (flat : Flat) → i.code ≡ 0x0B → move_by m map size i flat ≡ pass_end size flat
unfolding move_by
moves_end m map size i flat e = rw e refl

pub moves_other : (m : Parts) (map : CodeMap) (size : ℕ) (i : Instr) (flat : Flat) → i.code ≡ 0x05 →
    move_by m map size i flat ≡ pass_other (target_at map.bodies flat.place) size flat
unfolding move_by
moves_other m map size i flat e = rw e refl

pub moves_begin : (m : Parts) (map : CodeMap) (size : ℕ) (i : Instr) (flat : Flat) → (i.code ≡ 0x02) ⊎ (i.code ≡ 0x03) →
    move_by m map size i flat ≡ executes (Gives (begin_list flat.values flat))
unfolding move_by
moves_begin m map size i flat (inl e) = rw e refl
moves_begin m map size i flat (inr e) = rw e refl

pub moves_choose : (m : Parts) (map : CodeMap) (size : ℕ) (i : Instr) (flat : Flat) → i.code ≡ 0x04 →
    move_by m map size i flat ≡ choose (target_at map.bodies flat.place) size flat
unfolding move_by
moves_choose m map size i flat e = rw e refl

pub moves_branch : (m : Parts) (map : CodeMap) (size : ℕ) (i : Instr) (flat : Flat) → (i.code ≡ 0x0C) ⊎ (i.code ≡ 0x0F) →
    move_by m map size i flat ≡ jump_to (target_at map.bodies flat.place) size flat.values flat
unfolding move_by
moves_branch m map size i flat (inl e) = rw e refl
moves_branch m map size i flat (inr e) = rw e refl

pub moves_branch_if : (m : Parts) (map : CodeMap) (size : ℕ) (i : Instr) (flat : Flat) → i.code ≡ 0x0D →
    move_by m map size i flat ≡ branch_if (target_at map.bodies flat.place) size flat.values flat
unfolding move_by
moves_branch_if m map size i flat e = rw e refl

pub moves_branch_table : (m : Parts) (map : CodeMap) (size : ℕ) (i : Instr) (flat : Flat) → i.code ≡ 0x0E →
    move_by m map size i flat ≡ branch_table map.bodies i.imm size flat
unfolding move_by
moves_branch_table m map size i flat e = rw e refl

pub moves_call : (m : Parts) (map : CodeMap) (size : ℕ) (i : Instr) (flat : Flat) → i.code ≡ 0x10 →
    move_by m map size i flat ≡ call_function m map (index_in i.imm) flat
unfolding move_by
moves_call m map size i flat e = rw e refl

pub moves_call_indirect : (m : Parts) (map : CodeMap) (size : ℕ) (i : Instr) (flat : Flat) → i.code ≡ 0x11 →
    move_by m map size i flat ≡ call_indirect m map (index_in i.imm) flat
unfolding move_by
moves_call_indirect m map size i flat e = rw e refl

-- no branch, no call, no end, no else, no block
abbrev pub IsPlainCode : ℕ → Type 0
IsPlainCode n = (n ≢ 0x02) × (n ≢ 0x03) × (n ≢ 0x04) × (n ≢ 0x05) × (n ≢ 0x0B) × (n ≢ 0x0C) × (n ≢ 0x0D) × (n ≢ 0x0E) × (n ≢ 0x0F) × (n ≢ 0x10) × (n ≢ 0x11)

pub moves_straight : (m : Parts) (map : CodeMap) (size : ℕ) (i : Instr) (flat : Flat) → IsPlainCode i.code → move_by m map size i flat ≡ go_straight (plain_of i) flat
unfolding move_by
moves_straight m map size i flat n =
    rw (
      ne_eqb i.code 0x0B n.4,
      ne_eqb i.code 0x05 n.3,
      ne_eqb i.code 0x02 n.0,
      ne_eqb i.code 0x03 n.1,
      ne_eqb i.code 0x04 n.2,
      ne_eqb i.code 0x0C n.5,
      ne_eqb i.code 0x0D n.6,
      ne_eqb i.code 0x0E n.7,
      ne_eqb i.code 0x0F n.8,
      ne_eqb i.code 0x10 n.9,
      ne_eqb i.code 0x11 n.10,
    ) refl

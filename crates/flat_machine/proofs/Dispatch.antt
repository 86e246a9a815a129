-- The move at an instruction is that of its sort and its code.
use Rattle.std.proofs.Common.{◌≡◌, ◌≢◌, ◌≤◌, ◌==◌, ◌⊎◌, ℕ, zero, suc, inl, inr, Bool, true, false, if◌then◌else◌, nat_eq, List, [], ◌∷◌, length, slice_get, Option, Some, None, arith, refl, sym, ◌∙◌, ap, subst, eq-eqb}
use Rattle.std.proofs.lemmas.Bool.{ne_eqb}
use Rattle.std.proofs.lemmas.Bool.Decides.{nat_tests}
use Rattle.wasm_form.specs.declared.value_type.ValType.{ValType}
use Rattle.wasm_form.specs.declared.body.Body.{Body}
use Rattle.wasm_form.specs.declared.immediates.Immediates.{Immediates}
use Rattle.wasm_form.specs.declared.immediates.Immediates.TheVariants as kind
use Rattle.wasm_form.specs.declared.instr.Instr.{Instr}
use Rattle.wasm_form.specs.declared.instr.Imm.{Imm}
use Rattle.wasm_form.specs.declared.instr.Imm.TheVariants as imm
use Rattle.wasm_form.specs.declared.parts.Parts.{Parts}
use Rattle.wasm_form.specs.declared.sort.Sort.{Sort}
use Rattle.wasm_form.specs.declared.sort.Sort.TheVariants as sort
use Rattle.wasm_form.specs.Instructions.{immediates_of, fits}
use Rattle.wasm_form.specs.Matching.{special_sort, sort_at, sort_of, IsPlain}
use Rattle.wasm_form.specs.Trees.{Code, Empty, Then, TableOf, BlockOf, LoopOf, IfOf, IfElseOf, end_instr, else_instr, block_instr, loop_instr, if_instr, table_instr}
use Rattle.code_map.specs.declared.map.CodeMap.{CodeMap}
use Rattle.tree_machine.specs.Config.{Frame, Config}
use Rattle.tree_machine.specs.Instructions.{plain_of}
use Rattle.tree_machine.specs.Outcomes.{Gives}
use Rattle.tree_machine.specs.Typed.{HasInstrs, IsTyped, IsTypedModule}
use Rattle.tree_machine.proofs.PlainOf.{imm_fits}
use Rattle.flat_machine.specs.Flat.{Flat}
use Rattle.flat_machine.specs.Tells.{PlacesStand, IsInstrAt}
use Rattle.flat_machine.specs.Control.{begin_list}
use Rattle.flat_machine.specs.Mapping.{Follows}
use Rattle.flat_machine.specs.MappedModule.{IsMappedModule}
use Rattle.flat_machine.specs.Moves.{Move, executes, target_at, jump_to, branch_if, branch_table, choose, pass_end, pass_other, call_function, call_indirect, go_straight, move_by, move_at, move_in, move}
use Rattle.flat_machine.specs.MovesAgree.{MoveAgrees}
use Rattle.flat_machine.proofs.Standing.{BeginsWith}
use Rattle.flat_machine.proofs.BlocksAgree.{work}
use Rattle.flat_machine.proofs.Jumps.{stands_within}
use Rattle.flat_machine.proofs.LeaveMoves.{leave_agrees}
use Rattle.flat_machine.proofs.StraightMoves.{IsOther}

-- a code is this one, or another
code_cases : (n k : ℕ) (b : Bool) → nat_eq n k ≡ b → (n ≡ k) ⊎ (n ≢ k)
code_cases n k true e = inl (grind (arith, nat_tests))
code_cases n k false e = inr (λ w. let yes : nat_eq n k ≡ true = eq-eqb n k w in let no : true ≡ false = sym yes ∙ e in absurd (cc))

-- a code with a form of its own is no plain one
if_never : (b : Bool) (x y : Option Sort) → (x ≡ Some sort.Plain → ⊥) → (y ≡ Some sort.Plain → ⊥) → (if b then x else y) ≡ Some sort.Plain → ⊥
if_never true x y h k e = h e
if_never false x y h k e = k e

special_never : (code : ℕ) (j : Imm) → special_sort code j ≡ Some sort.Plain → ⊥
special_never code imm.None e =
    if_never (code == 0x05) (Some sort.Else) (if code == 0x0B then Some sort.End else None) (λ w. absurd (cc))
    (if_never (code == 0x0B) (Some sort.End) None (λ w. absurd (cc)) (λ w. absurd (cc))) e
special_never code (imm.Block result) e =
    if_never (code == 0x02) (Some sort.Block) (if code == 0x03 then Some sort.Block else if code == 0x04 then Some sort.If else None) (λ w. absurd (cc))
    (if_never (code == 0x03) (Some sort.Block) (if code == 0x04 then Some sort.If else None) (λ w. absurd (cc))
    (if_never (code == 0x04) (Some sort.If) None (λ w. absurd (cc)) (λ w. absurd (cc)))) e
special_never code (imm.Table first count last) e =
    if_never (code == 0x0E) (Some (sort.Table first count)) None (λ w. absurd (cc)) (λ w. absurd (cc)) e
special_never code (imm.Index n) e = absurd (cc)
special_never code (imm.Mem align offset) e = absurd (cc)
special_never code (imm.I32 n) e = absurd (cc)
special_never code (imm.I64 n) e = absurd (cc)
special_never code (imm.F32 n) e = absurd (cc)
special_never code (imm.F64 n) e = absurd (cc)

never_plain : (i : Instr) (k : ℕ) → immediates_of k ≡ None → IsPlain i → i.code ≢ k
unfolding sort_of
never_plain i k none plain e =
    special_never i.code i.imm (sym (ap (λ (o : Option Immediates). sort_at o i.code i.imm) (ap immediates_of e ∙ none)) ∙ plain)

none_02 : immediates_of 0x02 ≡ None
unfolding immediates_of
none_02 = refl

none_03 : immediates_of 0x03 ≡ None
unfolding immediates_of
none_03 = refl

none_04 : immediates_of 0x04 ≡ None
unfolding immediates_of
none_04 = refl

none_05 : immediates_of 0x05 ≡ None
unfolding immediates_of
none_05 = refl

none_0B : immediates_of 0x0B ≡ None
unfolding immediates_of
none_0B = refl

none_0E : immediates_of 0x0E ≡ None
unfolding immediates_of
none_0E = refl

index_0C : immediates_of 0x0C ≡ Some kind.Index
unfolding immediates_of
index_0C = refl

index_0D : immediates_of 0x0D ≡ Some kind.Index
unfolding immediates_of
index_0D = refl

index_10 : immediates_of 0x10 ≡ Some kind.Index
unfolding immediates_of
index_10 = refl

index_11 : immediates_of 0x11 ≡ Some kind.TypeAndZero
unfolding immediates_of
index_11 = refl

-- the index in immediates
index_imm : (j : Imm) → fits kind.Index j ≡ true → (n : ℕ) × (j ≡ imm.Index n)
index_imm (imm.Index n) e = (n, refl)
index_imm imm.None e = absurd (cc)
index_imm (imm.Block r) e = absurd (cc)
index_imm (imm.Table a b c) e = absurd (cc)
index_imm (imm.Mem a b) e = absurd (cc)
index_imm (imm.I32 n) e = absurd (cc)
index_imm (imm.I64 n) e = absurd (cc)
index_imm (imm.F32 n) e = absurd (cc)
index_imm (imm.F64 n) e = absurd (cc)

typed_imm : (j : Imm) → fits kind.TypeAndZero j ≡ true → (n : ℕ) × (j ≡ imm.Index n)
typed_imm (imm.Index n) e = (n, refl)
typed_imm imm.None e = absurd (cc)
typed_imm (imm.Block r) e = absurd (cc)
typed_imm (imm.Table a b c) e = absurd (cc)
typed_imm (imm.Mem a b) e = absurd (cc)
typed_imm (imm.I32 n) e = absurd (cc)
typed_imm (imm.I64 n) e = absurd (cc)
typed_imm (imm.F32 n) e = absurd (cc)
typed_imm (imm.F64 n) e = absurd (cc)

-- the moves of each instruction that may stand here, in a body of so many
pub record MovesHere (m : Parts) (map : CodeMap) (flat : Flat) (c : Config) (i : Instr) (size : ℕ) : Type 0 where
  pub ends : i ≡ end_instr → MoveAgrees m map flat c (pass_end size flat)
  pub others : i ≡ else_instr → MoveAgrees m map flat c (pass_other (target_at map.bodies flat.place) size flat)
  pub blocks : (result : Option ValType) → i ≡ block_instr result → MoveAgrees m map flat c (executes (Gives (begin_list flat.values flat)))
  pub loops : (result : Option ValType) → i ≡ loop_instr result → MoveAgrees m map flat c (executes (Gives (begin_list flat.values flat)))
  pub chosen : (result : Option ValType) → i ≡ if_instr result → MoveAgrees m map flat c (choose (target_at map.bodies flat.place) size flat)
  pub tables : (first count last : ℕ) → i ≡ table_instr first count last → MoveAgrees m map flat c (branch_table map.bodies (imm.Table first count last) size flat)
  pub branches : (label : ℕ) → i.code ≡ 0x0C → i.imm ≡ imm.Index label →
      MoveAgrees m map flat c (jump_to (target_at map.bodies flat.place) size flat.values flat)
  pub branches_if : (label : ℕ) → i.code ≡ 0x0D → i.imm ≡ imm.Index label →
      MoveAgrees m map flat c (branch_if (target_at map.bodies flat.place) size flat.values flat)
  pub returns : i.code ≡ 0x0F → MoveAgrees m map flat c (jump_to (target_at map.bodies flat.place) size flat.values flat)
  pub calls : (function : ℕ) → i.code ≡ 0x10 → i.imm ≡ imm.Index function → MoveAgrees m map flat c (call_function m map (Some function) flat)
  pub calls_through : (ty : ℕ) → i.code ≡ 0x11 → i.imm ≡ imm.Index ty → MoveAgrees m map flat c (call_indirect m map (Some ty) flat)
  pub straight : IsOther i.code → MoveAgrees m map flat c (go_straight (plain_of i) flat)

module _ (m : Parts) (map : CodeMap) (size : ℕ) (flat : Flat) where
  at_end : move_by m map size end_instr flat ≡ pass_end size flat
  unfolding move_by
  at_end = refl

  at_else : move_by m map size else_instr flat ≡ pass_other (target_at map.bodies flat.place) size flat
  unfolding move_by
  at_else = refl

  at_block : (result : Option ValType) → move_by m map size (block_instr result) flat ≡ executes (Gives (begin_list flat.values flat))
  unfolding move_by
  at_block result = refl

  at_loop : (result : Option ValType) → move_by m map size (loop_instr result) flat ≡ executes (Gives (begin_list flat.values flat))
  unfolding move_by
  at_loop result = refl

  at_if : (result : Option ValType) → move_by m map size (if_instr result) flat ≡ choose (target_at map.bodies flat.place) size flat
  unfolding move_by
  at_if result = refl

  at_table : (first count last : ℕ) → move_by m map size (table_instr first count last) flat ≡ branch_table map.bodies (imm.Table first count last) size flat
  unfolding move_by
  at_table first count last = refl

  at_br : (j : Imm) → move_by m map size (record { code = 0x0C; imm = j }) flat ≡ jump_to (target_at map.bodies flat.place) size flat.values flat
  unfolding move_by
  at_br j = refl

  at_br_if : (j : Imm) → move_by m map size (record { code = 0x0D; imm = j }) flat ≡ branch_if (target_at map.bodies flat.place) size flat.values flat
  unfolding move_by
  at_br_if j = refl

  at_return : (j : Imm) → move_by m map size (record { code = 0x0F; imm = j }) flat ≡ jump_to (target_at map.bodies flat.place) size flat.values flat
  unfolding move_by
  at_return j = refl

  at_call : (function : ℕ) → move_by m map size (record { code = 0x10; imm = imm.Index function }) flat ≡ call_function m map (Some function) flat
  unfolding move_by
  at_call function = refl

  at_call_indirect : (ty : ℕ) → move_by m map size (record { code = 0x11; imm = imm.Index ty }) flat ≡ call_indirect m map (Some ty) flat
  unfolding move_by
  at_call_indirect ty = refl

  at_straight : (i : Instr) → IsOther i.code → move_by m map size i flat ≡ go_straight (plain_of i) flat
  unfolding move_by
  at_straight i other =
      let end : nat_eq i.code 0x0B ≡ false = ne_eqb i.code 0x0B other.no_end in
      let else_test : nat_eq i.code 0x05 ≡ false = ne_eqb i.code 0x05 other.no_other in
      let block : nat_eq i.code 0x02 ≡ false = ne_eqb i.code 0x02 other.no_block in
      let loop : nat_eq i.code 0x03 ≡ false = ne_eqb i.code 0x03 other.no_loop in
      let chosen : nat_eq i.code 0x04 ≡ false = ne_eqb i.code 0x04 other.no_chosen in
      let br : nat_eq i.code 0x0C ≡ false = ne_eqb i.code 0x0C other.no_br in
      let br_if : nat_eq i.code 0x0D ≡ false = ne_eqb i.code 0x0D other.no_br_if in
      let table : nat_eq i.code 0x0E ≡ false = ne_eqb i.code 0x0E other.no_table in
      let return : nat_eq i.code 0x0F ≡ false = ne_eqb i.code 0x0F other.no_return in
      let call : nat_eq i.code 0x10 ≡ false = ne_eqb i.code 0x10 other.no_call in
      let indirect : nat_eq i.code 0x11 ≡ false = ne_eqb i.code 0x11 other.no_indirect in
      rw (end, else_test, block, loop, chosen, br, br_if, table, return, call, indirect) refl

coded : (i : Instr) (k : ℕ) (j : Imm) → i.code ≡ k → i.imm ≡ j → i ≡ record { code = k; imm = j }
coded i k j e f = ap (λ (n : ℕ). record i { code = n }) e ∙ ap (λ (x : Imm). let to : Instr = record { code = k; imm = x } in to) f

module _ (m : Parts) (map : CodeMap) (size : ℕ) (flat : Flat) (c : Config) (i : Instr) (here : MovesHere m map flat c i size) where
  -- where the move of an instruction is known
  as_move : (j : Instr) (known : Move) → i ≡ j → move_by m map size j flat ≡ known → MoveAgrees m map flat c known → MoveAgrees m map flat c (move_by m map size i flat)
  as_move j known same is h = subst (MoveAgrees m map flat c) (sym (ap (λ (x : Instr). move_by m map size x flat) same ∙ is)) h

  plain_indirect : IsPlain i → i.code ≢ 0x0C → i.code ≢ 0x0D → i.code ≢ 0x0F → i.code ≢ 0x10 → (i.code ≡ 0x11) ⊎ (i.code ≢ 0x11) →
      MoveAgrees m map flat c (move_by m map size i flat)
  plain_indirect plain no_br no_br_if no_return no_call (inl e) =
      let index = typed_imm i.imm (imm_fits i 0x11 kind.TypeAndZero plain e index_11) in
      as_move (record { code = 0x11; imm = imm.Index index.0 }) (call_indirect m map (Some index.0) flat) (coded i 0x11 (imm.Index index.0) e index.1)
      (at_call_indirect m map size flat index.0) (here.calls_through index.0 e index.1)
  plain_indirect plain no_br no_br_if no_return no_call (inr no_indirect) =
      let other : IsOther i.code = record {
        no_end = never_plain i 0x0B none_0B plain;
        no_other = never_plain i 0x05 none_05 plain;
        no_block = never_plain i 0x02 none_02 plain;
        no_loop = never_plain i 0x03 none_03 plain;
        no_chosen = never_plain i 0x04 none_04 plain;
        no_br = no_br;
        no_br_if = no_br_if;
        no_table = never_plain i 0x0E none_0E plain;
        no_return = no_return;
        no_call = no_call;
        no_indirect = no_indirect;
      } in
      as_move i (go_straight (plain_of i) flat) refl (at_straight m map size flat i other) (here.straight other)

  plain_call : IsPlain i → i.code ≢ 0x0C → i.code ≢ 0x0D → i.code ≢ 0x0F → (i.code ≡ 0x10) ⊎ (i.code ≢ 0x10) → MoveAgrees m map flat c (move_by m map size i flat)
  plain_call plain no_br no_br_if no_return (inl e) =
      let index = index_imm i.imm (imm_fits i 0x10 kind.Index plain e index_10) in
      as_move (record { code = 0x10; imm = imm.Index index.0 }) (call_function m map (Some index.0) flat) (coded i 0x10 (imm.Index index.0) e index.1)
      (at_call m map size flat index.0) (here.calls index.0 e index.1)
  plain_call plain no_br no_br_if no_return (inr no_call) = plain_indirect plain no_br no_br_if no_return no_call (code_cases i.code 0x11 _ refl)

  plain_return : IsPlain i → i.code ≢ 0x0C → i.code ≢ 0x0D → (i.code ≡ 0x0F) ⊎ (i.code ≢ 0x0F) → MoveAgrees m map flat c (move_by m map size i flat)
  plain_return plain no_br no_br_if (inl e) =
      as_move (record { code = 0x0F; imm = i.imm }) (jump_to (target_at map.bodies flat.place) size flat.values flat) (coded i 0x0F i.imm e refl)
      (at_return m map size flat i.imm) (here.returns e)
  plain_return plain no_br no_br_if (inr no_return) = plain_call plain no_br no_br_if no_return (code_cases i.code 0x10 _ refl)

  plain_br_if : IsPlain i → i.code ≢ 0x0C → (i.code ≡ 0x0D) ⊎ (i.code ≢ 0x0D) → MoveAgrees m map flat c (move_by m map size i flat)
  plain_br_if plain no_br (inl e) =
      let index = index_imm i.imm (imm_fits i 0x0D kind.Index plain e index_0D) in
      as_move (record { code = 0x0D; imm = i.imm }) (branch_if (target_at map.bodies flat.place) size flat.values flat) (coded i 0x0D i.imm e refl)
      (at_br_if m map size flat i.imm) (here.branches_if index.0 e index.1)
  plain_br_if plain no_br (inr no_br_if) = plain_return plain no_br no_br_if (code_cases i.code 0x0F _ refl)

  plain_br : IsPlain i → (i.code ≡ 0x0C) ⊎ (i.code ≢ 0x0C) → MoveAgrees m map flat c (move_by m map size i flat)
  plain_br plain (inl e) =
      let index = index_imm i.imm (imm_fits i 0x0C kind.Index plain e index_0C) in
      as_move (record { code = 0x0C; imm = i.imm }) (jump_to (target_at map.bodies flat.place) size flat.values flat) (coded i 0x0C i.imm e refl)
      (at_br m map size flat i.imm) (here.branches index.0 e index.1)
  plain_br plain (inr no_br) = plain_br_if plain no_br (code_cases i.code 0x0D _ refl)

  -- the instruction with which this code begins
  dispatched : (code : Code) → HasInstrs code → BeginsWith i code → MoveAgrees m map flat c (move_by m map size i flat)
  dispatched Empty h (inl e) = as_move end_instr (pass_end size flat) e (at_end m map size flat) (here.ends e)
  dispatched Empty h (inr e) = as_move else_instr (pass_other (target_at map.bodies flat.place) size flat) e (at_else m map size flat) (here.others e)
  dispatched (Then j rest) h e = plain_br (subst IsPlain (sym e) h.0) (code_cases i.code 0x0C _ refl)
  dispatched (TableOf labels last rest) h (first, e) =
      as_move (table_instr first (length labels) last) (branch_table map.bodies (imm.Table first (length labels) last) size flat) e
      (at_table m map size flat first (length labels) last) (here.tables first (length labels) last e)
  dispatched (BlockOf result inside rest) h e =
      as_move (block_instr result) (executes (Gives (begin_list flat.values flat))) e (at_block m map size flat result) (here.blocks result e)
  dispatched (LoopOf result inside rest) h e =
      as_move (loop_instr result) (executes (Gives (begin_list flat.values flat))) e (at_loop m map size flat result) (here.loops result e)
  dispatched (IfOf result inside rest) h e =
      as_move (if_instr result) (choose (target_at map.bodies flat.place) size flat) e (at_if m map size flat result) (here.chosen result e)
  dispatched (IfElseOf result inside other rest) h e =
      as_move (if_instr result) (choose (target_at map.bodies flat.place) size flat) e (at_if m map size flat result) (here.chosen result e)

none_there : {X : Type 0} (xs : List X) (n : ℕ) → slice_get xs n ≡ None → length xs ≤ n
none_there [] n e = omega arith
none_there (x ∷ xs) zero e = absurd (cc)
none_there (x ∷ xs) (suc n) e = let most : length xs ≤ n = none_there xs n e in omega arith

module _ (m : Parts) (map : CodeMap) (module_typed : IsTypedModule m) (mapped : IsMappedModule m map) (flat : Flat) (c : Config) (follows : Follows m map.bodies flat c)
    (typed : IsTyped m [] c) (moves : (i : Instr) (at : IsInstrAt m flat.place i) → MovesHere m map flat c i (length at.0.expr.code)) where
  instr_moves : (f : Frame) (below : List Frame) → c.frames ≡ f ∷ below → (i : Instr) (at : IsInstrAt m flat.place i) →
      MoveAgrees m map flat c (move_by m map (length at.0.expr.code) i flat)
  instr_moves f below e i at =
      let w = work m map.bodies flat c follows typed i f below at e in
      dispatched m map (length at.0.expr.code) flat c i (moves i at) w.inner.k.rest w.instrs w.inner.begins

  moves_at : (f : Frame) (below : List Frame) → c.frames ≡ f ∷ below → (body : Body) → slice_get m.bodies flat.place.body ≡ Some body → flat.place.pc ≤ length body.expr.code →
      (o : Option Instr) → slice_get body.expr.code flat.place.pc ≡ o → MoveAgrees m map flat c (move_at m map (length body.expr.code) o flat)
  moves_at f below e body is within None none =
      let least = none_there body.expr.code flat.place.pc none in
      leave_agrees m map module_typed mapped flat c follows typed (body, is, omega arith)
  moves_at f below e body is within (Some i) at = instr_moves f below e i (body, is, at)

  moves_of : (frames : List Frame) → c.frames ≡ frames → MoveAgrees m map flat c (move m map flat)
  unfolding move
  moves_of [] e = absurd (subst (λ (frames : List Frame). PlacesStand m (flat.place ∷ flat.callers) frames) e follows.tells.places)
  moves_of (f ∷ below) e =
      let places : PlacesStand m (flat.place ∷ flat.callers) (f ∷ below) =
      subst (λ (frames : List Frame). PlacesStand m (flat.place ∷ flat.callers) frames) e follows.tells.places in
      let left = places.0 in
      subst (λ (o : Option Body). MoveAgrees m map flat c (move_in m map o flat)) (sym left.is)
      (moves_at f below e left.body left.is (stands_within left.body.expr flat.place.pc left.afters f.conts left.lists)
      (slice_get left.body.expr.code flat.place.pc) refl)

  -- whatever stands at the place
  pub every_agrees : MoveAgrees m map flat c (move m map flat)
  every_agrees = moves_of c.frames refl

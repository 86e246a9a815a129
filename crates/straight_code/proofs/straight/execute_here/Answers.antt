use Rattle.std.proofs.Common.{◌≤◌, ℕ, if◌then◌else◌, Some, sym, ◌∙◌, ap, arith}
use Rattle.wasm_ops.specs.Table.{kind_of, takes_one}
use Rattle.tree_machine.specs.Instructions.{plain_of, index_in, offset_in}
use Rattle.tree_machine.specs.Instructions as op
use Rattle.tree_machine.proofs.PlainOf.{plain_unreachable, plain_nop, plain_drop, plain_select, plain_grow, plain_numeric}
use Rattle.straight_code.proofs.Codes.{is_local_set, is_local_tee, is_global_set, local_set_at, local_tee_at, global_set_at, load_kind, store_kind, numeric_kind, is_load, is_store, load_at, store_at, unary_at, binary_at, other_codes}
use Rattle.straight_code.proofs.Asks.{instr_there, never_other, number_there, drop_asks, select_asks, set_asks, tee_asks, global_set_asks, load_asks, store_asks, grow_asks, unary_asks, binary_asks}
use Rattle.straight_code.proofs.Leaving.{nop_leaves, unreachable_leaves, drop_leaves, select_leaves, set_leaves, tee_leaves, global_set_leaves, load_does, store_does, grow_leaves, numeric_does}
use Rattle.straight_code.proofs.straight.execute_here.Goals as goal
use Rattle.straight_code.proofs.straight.execute_here.Goals.{in_default-via-then-code-lt40, in_default-via-else-code-lt40+else-code-lt54+else-code-lt63+then-code-lt69, in_default-via-else-code-lt40+else-code-lt54+else-code-lt63+else-code-lt69+else-code-lt192}

pub returns-in-0-clause-goes : goal.returns-in-0-clause-goes
returns-in-0-clause-goes c =
    unreachable_leaves (plain_of c.args.instr.now) c.args.values.now c.args.sp c.args.base c.args.memory.now c.args.globals.now (plain_unreachable c.args.instr.now (c.requires.same ∙ c.in-0.is))

pub returns-in-1-clause-goes : goal.returns-in-1-clause-goes
returns-in-1-clause-goes c =
    nop_leaves (plain_of c.args.instr.now) c.args.values.now c.args.sp c.args.base c.args.memory.now c.args.globals.now (plain_nop c.args.instr.now (c.requires.same ∙ c.in-1.is))

pub drop_top-requires : goal.drop_top-requires
drop_top-requires c =
    record { one = drop_asks (plain_of c.args.instr.now) c.args.values.now c.args.sp c.args.base c.args.memory.now c.args.globals.now c.requires.goes (plain_drop c.args.instr.now (c.requires.same ∙ c.in-26.is)) }

pub returns-in-26-clause-goes : goal.returns-in-26-clause-goes
returns-in-26-clause-goes c =
    drop_leaves (plain_of c.args.instr.now) c.args.values.now c.args.sp c.args.base c.args.memory.now c.args.globals.now (plain_drop c.args.instr.now (c.requires.same ∙ c.in-26.is)) _ c.drop_top.ensures.drops

pub select_top-requires-clause-three : goal.select_top-requires-clause-three
select_top-requires-clause-three c =
    select_asks (plain_of c.args.instr.now) c.args.values.now c.args.sp c.args.base c.args.memory.now c.args.globals.now c.requires.goes (plain_select c.args.instr.now (c.requires.same ∙ c.in-27.is))

pub returns-in-27-clause-goes : goal.returns-in-27-clause-goes
returns-in-27-clause-goes c =
    select_leaves (plain_of c.args.instr.now) c.args.values.now c.args.sp c.args.base c.args.memory.now c.args.globals.now (plain_select c.args.instr.now (c.requires.same ∙ c.in-27.is)) _ _ c.select_top.ensures.selects

pub index_of-requires : goal.index_of-requires
index_of-requires c =
    number_there (plain_of c.args.instr.now) c.args.values.now c.args.sp c.args.base c.args.memory.now c.args.globals.now c.requires.goes
    (λ x. op.LocalSet x) (index_in c.args.instr.now.imm) (is_local_set c.args.instr.now (c.requires.same ∙ c.in-33.is))

pub set_local-requires-clause-takes : goal.set_local-requires-clause-takes
set_local-requires-clause-takes c =
    set_asks (plain_of c.args.instr.now) c.args.values.now c.args.sp c.args.base c.args.memory.now c.args.globals.now c.requires.goes
    c.index_of.result (local_set_at c.args.instr.now _ (c.requires.same ∙ c.in-33.is) c.index_of.ensures)

pub returns-in-33-clause-goes : goal.returns-in-33-clause-goes
returns-in-33-clause-goes c =
    set_leaves (plain_of c.args.instr.now) c.args.values.now c.args.sp c.args.base c.args.memory.now c.args.globals.now
    c.index_of.result (local_set_at c.args.instr.now _ (c.requires.same ∙ c.in-33.is) c.index_of.ensures) _ _ c.set_local.ensures.sets

pub index_of-requires-in-34 : goal.index_of-requires-in-34
index_of-requires-in-34 c =
    number_there (plain_of c.args.instr.now) c.args.values.now c.args.sp c.args.base c.args.memory.now c.args.globals.now c.requires.goes
    (λ x. op.LocalTee x) (index_in c.args.instr.now.imm) (is_local_tee c.args.instr.now (c.requires.same ∙ c.in-34.is))

pub tee_local-requires-clause-takes : goal.tee_local-requires-clause-takes
tee_local-requires-clause-takes c =
    tee_asks (plain_of c.args.instr.now) c.args.values.now c.args.sp c.args.base c.args.memory.now c.args.globals.now c.requires.goes
    c.index_of-in-34.result (local_tee_at c.args.instr.now _ (c.requires.same ∙ c.in-34.is) c.index_of-in-34.ensures)

pub returns-in-34-clause-goes : goal.returns-in-34-clause-goes
returns-in-34-clause-goes c =
    tee_leaves (plain_of c.args.instr.now) c.args.values.now c.args.sp c.args.base c.args.memory.now c.args.globals.now
    c.index_of-in-34.result (local_tee_at c.args.instr.now _ (c.requires.same ∙ c.in-34.is) c.index_of-in-34.ensures) _ _ c.tee_local.ensures

pub index_of-requires-in-36 : goal.index_of-requires-in-36
index_of-requires-in-36 c =
    number_there (plain_of c.args.instr.now) c.args.values.now c.args.sp c.args.base c.args.memory.now c.args.globals.now c.requires.goes
    (λ x. op.GlobalSet x) (index_in c.args.instr.now.imm) (is_global_set c.args.instr.now (c.requires.same ∙ c.in-36.is))

pub set_global-requires-clause-one : goal.set_global-requires-clause-one
set_global-requires-clause-one c =
    (global_set_asks (plain_of c.args.instr.now) c.args.values.now c.args.sp c.args.base c.args.memory.now c.args.globals.now c.requires.goes
    c.index_of-in-36.result (global_set_at c.args.instr.now _ (c.requires.same ∙ c.in-36.is) c.index_of-in-36.ensures)).0

pub set_global-requires-clause-there : goal.set_global-requires-clause-there
set_global-requires-clause-there c =
    (global_set_asks (plain_of c.args.instr.now) c.args.values.now c.args.sp c.args.base c.args.memory.now c.args.globals.now c.requires.goes
    c.index_of-in-36.result (global_set_at c.args.instr.now _ (c.requires.same ∙ c.in-36.is) c.index_of-in-36.ensures)).1

pub returns-in-36-clause-goes : goal.returns-in-36-clause-goes
returns-in-36-clause-goes c =
    global_set_leaves (plain_of c.args.instr.now) c.args.values.now c.args.sp c.args.base c.args.memory.now c.args.globals.now
    c.index_of-in-36.result (global_set_at c.args.instr.now _ (c.requires.same ∙ c.in-36.is) c.index_of-in-36.ensures) _ _ c.set_global.ensures.sets

pub grow_top-requires-clause-takes : goal.grow_top-requires-clause-takes
grow_top-requires-clause-takes c =
    grow_asks (plain_of c.args.instr.now) c.args.values.now c.args.sp c.args.base c.args.memory.now c.args.globals.now c.requires.goes (plain_grow c.args.instr.now (c.requires.same ∙ c.in-64.is))

pub returns-in-64-clause-goes : goal.returns-in-64-clause-goes
returns-in-64-clause-goes c =
    grow_leaves (plain_of c.args.instr.now) c.args.values.now c.args.sp c.args.base c.args.memory.now c.args.globals.now (plain_grow c.args.instr.now (c.requires.same ∙ c.in-64.is)) _ _ _ c.grow_top.ensures

pub offset_of-requires : goal.offset_of-requires
offset_of-requires c =
    let low : 0x28 ≤ c.args.instr.now.code = omega (arith, c.requires.same) in
    let high : c.args.instr.now.code ≤ 0x35 = omega (arith, c.requires.same) in
    let kind = load_kind c.args.instr.now low high (instr_there (plain_of c.args.instr.now) c.args.values.now c.args.sp c.args.base c.args.memory.now c.args.globals.now c.requires.goes) in
    number_there (plain_of c.args.instr.now) c.args.values.now c.args.sp c.args.base c.args.memory.now c.args.globals.now c.requires.goes
    (λ offset. op.Load c.args.instr.now.code offset) (offset_in c.args.instr.now.imm) (is_load c.args.instr.now kind)

pub load_top-requires-clause-load : goal.load_top-requires-clause-load
load_top-requires-clause-load c =
    let low : 0x28 ≤ c.args.instr.now.code = omega (arith, c.requires.same) in
    let high : c.args.instr.now.code ≤ 0x35 = omega (arith, c.requires.same) in
    let kind = load_kind c.args.instr.now low high (instr_there (plain_of c.args.instr.now) c.args.values.now c.args.sp c.args.base c.args.memory.now c.args.globals.now c.requires.goes) in
    sym (ap kind_of c.requires.same) ∙ kind

pub load_top-requires-clause-takes : goal.load_top-requires-clause-takes
load_top-requires-clause-takes c =
    let low : 0x28 ≤ c.args.instr.now.code = omega (arith, c.requires.same) in
    let high : c.args.instr.now.code ≤ 0x35 = omega (arith, c.requires.same) in
    let kind = load_kind c.args.instr.now low high (instr_there (plain_of c.args.instr.now) c.args.values.now c.args.sp c.args.base c.args.memory.now c.args.globals.now c.requires.goes) in
    load_asks (plain_of c.args.instr.now) c.args.values.now c.args.sp c.args.base c.args.memory.now c.args.globals.now c.requires.goes
    c.args.code c.offset_of.result (load_at c.args.instr.now c.args.code c.offset_of.result c.requires.same (sym (ap kind_of c.requires.same) ∙ kind) c.offset_of.ensures)

pub returns-in-40-to-53-clause-goes : goal.returns-in-40-to-53-clause-goes
returns-in-40-to-53-clause-goes c =
    let low : 0x28 ≤ c.args.instr.now.code = omega (arith, c.requires.same) in
    let high : c.args.instr.now.code ≤ 0x35 = omega (arith, c.requires.same) in
    let kind = load_kind c.args.instr.now low high (instr_there (plain_of c.args.instr.now) c.args.values.now c.args.sp c.args.base c.args.memory.now c.args.globals.now c.requires.goes) in
    load_does (plain_of c.args.instr.now) c.args.values.now c.args.sp c.args.base c.args.memory.now c.args.globals.now
    c.args.code c.offset_of.result (load_at c.args.instr.now c.args.code c.offset_of.result c.requires.same (sym (ap kind_of c.requires.same) ∙ kind) c.offset_of.ensures) c.load_top.result _
    c.load_top.ensures.value c.load_top.ensures.trap

pub offset_of-requires-in-54-to-62 : goal.offset_of-requires-in-54-to-62
offset_of-requires-in-54-to-62 c =
    let low : 0x36 ≤ c.args.instr.now.code = omega (arith, c.requires.same) in
    let high : c.args.instr.now.code ≤ 0x3E = omega (arith, c.requires.same) in
    let kind = store_kind c.args.instr.now low high (instr_there (plain_of c.args.instr.now) c.args.values.now c.args.sp c.args.base c.args.memory.now c.args.globals.now c.requires.goes) in
    number_there (plain_of c.args.instr.now) c.args.values.now c.args.sp c.args.base c.args.memory.now c.args.globals.now c.requires.goes
    (λ offset. op.Store c.args.instr.now.code offset) (offset_in c.args.instr.now.imm) (is_store c.args.instr.now kind)

pub store_top-requires-clause-store : goal.store_top-requires-clause-store
store_top-requires-clause-store c =
    let low : 0x36 ≤ c.args.instr.now.code = omega (arith, c.requires.same) in
    let high : c.args.instr.now.code ≤ 0x3E = omega (arith, c.requires.same) in
    let kind = store_kind c.args.instr.now low high (instr_there (plain_of c.args.instr.now) c.args.values.now c.args.sp c.args.base c.args.memory.now c.args.globals.now c.requires.goes) in
    sym (ap kind_of c.requires.same) ∙ kind

pub store_top-requires-clause-takes : goal.store_top-requires-clause-takes
store_top-requires-clause-takes c =
    let low : 0x36 ≤ c.args.instr.now.code = omega (arith, c.requires.same) in
    let high : c.args.instr.now.code ≤ 0x3E = omega (arith, c.requires.same) in
    let kind = store_kind c.args.instr.now low high (instr_there (plain_of c.args.instr.now) c.args.values.now c.args.sp c.args.base c.args.memory.now c.args.globals.now c.requires.goes) in
    store_asks (plain_of c.args.instr.now) c.args.values.now c.args.sp c.args.base c.args.memory.now c.args.globals.now c.requires.goes
    c.args.code c.offset_of-in-54-to-62.result (store_at c.args.instr.now c.args.code c.offset_of-in-54-to-62.result c.requires.same (sym (ap kind_of c.requires.same) ∙ kind) c.offset_of-in-54-to-62.ensures)

pub returns-in-54-to-62-clause-goes : goal.returns-in-54-to-62-clause-goes
returns-in-54-to-62-clause-goes c =
    let low : 0x36 ≤ c.args.instr.now.code = omega (arith, c.requires.same) in
    let high : c.args.instr.now.code ≤ 0x3E = omega (arith, c.requires.same) in
    let kind = store_kind c.args.instr.now low high (instr_there (plain_of c.args.instr.now) c.args.values.now c.args.sp c.args.base c.args.memory.now c.args.globals.now c.requires.goes) in
    store_does (plain_of c.args.instr.now) c.args.values.now c.args.sp c.args.base c.args.memory.now c.args.globals.now
    c.args.code c.offset_of-in-54-to-62.result (store_at c.args.instr.now c.args.code c.offset_of-in-54-to-62.result c.requires.same (sym (ap kind_of c.requires.same) ∙ kind) c.offset_of-in-54-to-62.ensures) c.store_top.result _
    c.store_top.ensures.stored c.store_top.ensures.trap

pub numeric_top-requires-clause-plain : goal.numeric_top-requires-clause-plain
numeric_top-requires-clause-plain c =
    let low : 0x43 ≤ c.args.instr.now.code = omega (arith, c.requires.same) in
    let kind = numeric_kind c.args.instr.now low (instr_there (plain_of c.args.instr.now) c.args.values.now c.args.sp c.args.base c.args.memory.now c.args.globals.now c.requires.goes) in
    sym (ap kind_of c.requires.same) ∙ kind

pub numeric_top-requires-clause-one : goal.numeric_top-requires-clause-one
numeric_top-requires-clause-one c =
    let low : 0x43 ≤ c.args.instr.now.code = omega (arith, c.requires.same) in
    let kind = numeric_kind c.args.instr.now low (instr_there (plain_of c.args.instr.now) c.args.values.now c.args.sp c.args.base c.args.memory.now c.args.globals.now c.requires.goes) in
    λ one. unary_asks (plain_of c.args.instr.now) c.args.values.now c.args.sp c.args.base c.args.memory.now c.args.globals.now c.requires.goes
    c.args.code (unary_at c.args.instr.now c.args.code c.requires.same (sym (ap kind_of c.requires.same) ∙ kind) one)

pub numeric_top-requires-clause-two : goal.numeric_top-requires-clause-two
numeric_top-requires-clause-two c =
    let low : 0x43 ≤ c.args.instr.now.code = omega (arith, c.requires.same) in
    let kind = numeric_kind c.args.instr.now low (instr_there (plain_of c.args.instr.now) c.args.values.now c.args.sp c.args.base c.args.memory.now c.args.globals.now c.requires.goes) in
    λ two. binary_asks (plain_of c.args.instr.now) c.args.values.now c.args.sp c.args.base c.args.memory.now c.args.globals.now c.requires.goes
    c.args.code (binary_at c.args.instr.now c.args.code c.requires.same (sym (ap kind_of c.requires.same) ∙ kind) two)

pub returns-in-69-to-191-clause-goes : goal.returns-in-69-to-191-clause-goes
returns-in-69-to-191-clause-goes c =
    let low : 0x43 ≤ c.args.instr.now.code = omega (arith, c.requires.same) in
    let kind = numeric_kind c.args.instr.now low (instr_there (plain_of c.args.instr.now) c.args.values.now c.args.sp c.args.base c.args.memory.now c.args.globals.now c.requires.goes) in
    numeric_does (plain_of c.args.instr.now) c.args.values.now c.args.sp c.args.base c.args.memory.now c.args.globals.now
    (takes_one c.args.code) c.args.code (plain_numeric c.args.instr.now kind ∙ ap (λ (n : ℕ). Some (if takes_one n then op.Unary n else op.Binary n)) c.requires.same) c.numeric_top.result _
    c.numeric_top.ensures.value c.numeric_top.ensures.trap

pub unreachable-requires : goal.unreachable-requires
unreachable-requires c =
    elim c.in_default.branch [
      | in_default-via-then-code-lt40 w ↦ never_other (plain_of c.args.instr.now) c.args.values.now c.args.sp c.args.base c.args.memory.now c.args.globals.now c.requires.goes
          (other_codes c.args.instr.now (λ e. omega (arith, e, c.requires.same)) (λ e. omega (arith, e, c.requires.same)) (λ e. omega (arith, e, c.requires.same)) (λ e. omega (arith, e, c.requires.same)) c.requires.none.0
          (λ e. omega (arith, e, c.requires.same)) (λ e. omega (arith, e, c.requires.same)) c.requires.none.1 (λ e. omega (arith, e, c.requires.same))
          (λ h. omega (arith, c.requires.same)) c.requires.none.2 (λ e. omega (arith, e, c.requires.same)) c.requires.none.3 c.requires.none.4 (λ h. omega (arith, c.requires.same)))
      | in_default-via-else-code-lt40+else-code-lt54+else-code-lt63+then-code-lt69 w ↦
          never_other (plain_of c.args.instr.now) c.args.values.now c.args.sp c.args.base c.args.memory.now c.args.globals.now c.requires.goes
          (other_codes c.args.instr.now (λ e. omega (arith, e, c.requires.same)) (λ e. omega (arith, e, c.requires.same)) (λ e. omega (arith, e, c.requires.same)) (λ e. omega (arith, e, c.requires.same)) c.requires.none.0
          (λ e. omega (arith, e, c.requires.same)) (λ e. omega (arith, e, c.requires.same)) c.requires.none.1 (λ e. omega (arith, e, c.requires.same))
          (λ h. omega (arith, c.requires.same)) c.requires.none.2 (λ e. omega (arith, e, c.requires.same)) c.requires.none.3 c.requires.none.4 (λ h. omega (arith, c.requires.same)))
      | in_default-via-else-code-lt40+else-code-lt54+else-code-lt63+else-code-lt69+else-code-lt192 w ↦
          never_other (plain_of c.args.instr.now) c.args.values.now c.args.sp c.args.base c.args.memory.now c.args.globals.now c.requires.goes
          (other_codes c.args.instr.now (λ e. omega (arith, e, c.requires.same)) (λ e. omega (arith, e, c.requires.same)) (λ e. omega (arith, e, c.requires.same)) (λ e. omega (arith, e, c.requires.same)) c.requires.none.0
          (λ e. omega (arith, e, c.requires.same)) (λ e. omega (arith, e, c.requires.same)) c.requires.none.1 (λ e. omega (arith, e, c.requires.same))
          (λ h. omega (arith, c.requires.same)) c.requires.none.2 (λ e. omega (arith, e, c.requires.same)) c.requires.none.3 c.requires.none.4 (λ h. omega (arith, c.requires.same)))
    ]

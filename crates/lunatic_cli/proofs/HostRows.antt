-- What a module may ask has a row in the host table.
use Rattle.std.proofs.Common.{◌≡◌, ℕ, List, length, Bool, true, false, Option, Some, None, IsSome, slice_get, nat_lt, option_and_then, refl, sym, ◌∙◌, ap, if◌then◌else◌}
use Rattle.host_port.specs.HostTable.{Row, row_of, row_of_import}
use Rattle.host_port.proofs.RowLaws.{import_call}
use Rattle.node_state.specs.Rows.{AllHaveRows}
use Rattle.wasm_form.specs.declared.types.FuncType.{FuncType}
use Rattle.wasm_form.specs.declared.parts.Import.{Import}
use Rattle.wasm_form.specs.declared.parts.Parts.{Parts}
use Rattle.module_validator.specs.ValidModule.{ValidModule}
use Rattle.tree_machine.specs.Functions.{Function, Host, host_call, imported_callee, imported_functions, own_function, owned, callee_of}
use Rattle.tree_machine.specs.Run.{may_ask}

row_there : (t : Option FuncType) (module_name name : List ℕ) (r : Option Row) (ty : FuncType) (call : ℕ) → row_of_import module_name name ≡ r →
    host_call t r ≡ Some (Host ty call) → IsSome (row_of call)
row_there (Some t) module_name name (Some row) ty call f h =
    let same : row.call ≡ call = cc in
    let is : row_of call ≡ Some row = ap row_of (sym same) ∙ import_call module_name name row f in
    rw is refl
row_there (Some t) module_name name None ty call f h = absurd (cc)
row_there None module_name name r ty call f h = absurd (cc)

row_if : (m : Parts) (b : Bool) (x : Option Import) (o : Option Function) (ty : FuncType) (call : ℕ) →
    (if b then option_and_then (imported_callee m) x else owned o) ≡ Some (Host ty call) → IsSome (row_of call)
row_if m true None o ty call h = absurd (cc)
row_if m true (Some i) o ty call h = row_there _ i.«module» i.name _ ty call refl h
row_if m false x None ty call h = absurd (cc)
row_if m false x (Some function) ty call h = absurd (cc)

asks-have-rows : (m : Parts) (call : ℕ) → may_ask m call → IsSome (row_of call)
unfolding callee_of
asks-have-rows m call may = row_if m (nat_lt may.0 (length (imported_functions m))) (slice_get (imported_functions m) may.0) (own_function m may.0) may.1 call may.2

pub all-have-rows : (programs : List ValidModule) → AllHaveRows (λ valid call. may_ask valid.parts call) programs
all-have-rows programs = λ k program there call may. asks-have-rows program.parts call may

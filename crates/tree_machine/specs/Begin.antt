-- The begin of a life: what is refused, and where the run stands before its first instruction (Core 1.0, 4.5.4 and
-- 4.5.5).
use Rattle.std.specs.Prelude.{ℕ, ◌&&◌, Bool, true, false, cond, nat_le, List, [], ◌++◌, map, find, slice_get, Option, Some, None, option_map, option_and_then, option_to_list, is_some}
use Rattle.std.specs.Cmp.Lexicographic.{pointwise}
use Rattle.host_port.specs.HostTable.{same_text}
use Rattle.host_port.specs.TypedValue.{TypedValue}
use Rattle.host_port.specs.declared.start.Start.{Start}
use Rattle.host_port.specs.declared.start.StartRefusal.{StartRefusal}
use Rattle.host_port.specs.declared.start.StartRefusal.TheVariants.{NoExport, BadParams, PagesOver, SegmentOut}
use Rattle.wasm_form.specs.declared.types.Bounds.{Bounds}
use Rattle.wasm_form.specs.declared.parts.ExportKind.{ExportKind}
use Rattle.wasm_form.specs.declared.parts.ExportKind.TheVariants as kind
use Rattle.wasm_form.specs.declared.parts.Export.{Export}
use Rattle.wasm_form.specs.declared.parts.Parts.{Parts}
use Rattle.wasm_form.specs.Context.{memories_of}
use Rattle.wasm_form.specs.Typing.{value_type}
use Rattle.tree_machine.specs.Functions.{Function, own_function, same_value_type}
use Rattle.tree_machine.specs.Config.{Config, Invocation}
use Rattle.tree_machine.specs.Instantiation.{new_globals, segments_lie_in, first_table, first_memory}
use Rattle.tree_machine.specs.Point.{Point, enter_next}

-- what is exported is a function
abbrev pub is_function : ExportKind → Bool
is_function kind.Function = true
is_function kind.Table = false
is_function kind.Memory = false
is_function kind.Global = false

-- a function that the module defines is exported under this name; an imported one is none
abbrev pub is_entry : Parts → (name : List ℕ) → Export → Bool
is_entry m name e = same_text e.name name && is_function e.kind && is_some (own_function m e.index)

-- the index of the entry function
unfoldable pub entry_of : Parts → (name : List ℕ) → Option ℕ
entry_of m name = option_map (λ (e : Export). e.index) (find (is_entry m name) m.exports)

-- the parameters have the types of the function's, in order
abbrev pub has_params : Function → List TypedValue → Bool
has_params function params =
    pointwise same_value_type (map (λ (p : TypedValue). value_type p.num) params) function.ty.params

-- the pages that the memory begins with; none without a memory
abbrev pub least_pages : Option Bounds → ℕ
least_pages None = 0
least_pages (Some bounds) = bounds.min

-- the first that applies: no entry; parameters of other types; a memory that begins with too many pages; a segment out
-- of bounds
abbrev pub refusal_of : Option Function → Parts → Start → Option StartRefusal
refusal_of None m start = Some NoExport
refusal_of (Some function) m start =
    cond (has_params function start.params)
    (cond (nat_le (least_pages (slice_get (memories_of m) 0)) start.limits.pages)
    (cond (segments_lie_in start.limits.pages m) None (Some SegmentOut))
    (Some PagesOver))
    (Some BadParams)

-- why a module does not start so, or nothing
unfoldable pub begin : Parts → Start → Option StartRefusal
begin m start = refusal_of (option_and_then (own_function m) (entry_of m start.entry)) m start

-- a function is to be entered with these arguments
abbrev pub invocation : (arguments : List ℕ) → (function : ℕ) → Invocation
invocation arguments function = record { function = function; arguments = arguments }

-- the start function, where there is one, and then the entry function with the parameters
abbrev pub invocations_of : Parts → Start → List Invocation
invocations_of m start =
    map (invocation []) (option_to_list m.start)
    ++ map (invocation (map (λ (p : TypedValue). p.value) start.params)) (option_to_list (entry_of m start.entry))

-- the configuration that instantiation makes
abbrev pub instance_of : Parts → Start → Config
instance_of m start = record {
  globals = new_globals m;
  table = first_table m;
  memory = first_memory start.limits.pages m;
  invocations = invocations_of m start;
  frames = [];
}

-- where a run begins: the first function is entered, and exits are made
unfoldable pub begun : Parts → Start → Point
begun m start = enter_next m (instance_of m start) (invocations_of m start)

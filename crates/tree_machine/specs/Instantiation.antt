-- What instantiation makes of a module: globals, table and memory (Core 1.0, 4.5.4). It is said for accepted modules:
-- no global is imported, each expression has a value, and there is one table and one memory at most; the defaults below
-- are met in no other.
use Rattle.std.specs.Prelude.{ℕ, ◌+◌, ◌*◌, ◌&&◌, Bool, false, nat_le, min, List, [], ◌++◌, length, map, fold, take, drop, replicate, slice_get, Option, Some, None, unwrap_or}
use Rattle.std.specs.List.{list_all}
use Rattle.linear_memory.specs.Bytes.{written}
use Rattle.linear_memory.specs.Contents.{Contents, page_size}
use Rattle.wasm_form.specs.declared.types.Bounds.{Bounds}
use Rattle.wasm_form.specs.declared.expr.Expr.{Expr}
use Rattle.wasm_form.specs.declared.parts.GlobalDef.{GlobalDef}
use Rattle.wasm_form.specs.declared.parts.Element.{Element}
use Rattle.wasm_form.specs.declared.parts.Segment.{Segment}
use Rattle.wasm_form.specs.declared.parts.Parts.{Parts}
use Rattle.wasm_form.specs.Trees.{Code, Empty, Then}
use Rattle.wasm_form.specs.Context.{tables_of, memories_of}
use Rattle.tree_machine.specs.Trees.{tree_of}
use Rattle.tree_machine.specs.Instructions.{Plain, plain_of}
use Rattle.tree_machine.specs.Instructions as op
use Rattle.tree_machine.specs.Config.{bytes_of}

-- the value of a constant instruction
abbrev pub constant_of : Option Plain → Option ℕ
constant_of (Some (op.Const value)) = Some value
constant_of i = None

-- the value of the one instruction of a list
abbrev pub constant_in : Code → Option ℕ
constant_in (Then i Empty) = constant_of (plain_of i)
constant_in code = None

-- Core 1.0, 3.3.7: the value of a constant expression. No global is imported, so that it is one constant
unfoldable pub value_of : Expr → Option ℕ
value_of e = constant_in (tree_of e)

-- Core 1.0, 4.5.4: each global has the value of its expression
abbrev pub new_globals : Parts → List ℕ
new_globals m = map (λ (g : GlobalDef). unwrap_or (value_of g.init) 0) m.globals

-- a table with its minimum of elements, all unset; without one there are none
abbrev pub table_with : Option Bounds → List (Option ℕ)
table_with None = []
table_with (Some bounds) = replicate bounds.min None

abbrev pub new_table : Parts → List (Option ℕ)
new_table m = table_with (slice_get (tables_of m) 0)

-- the most pages that a memory may have: its maximum, where it has one, and the limit of the process
abbrev pub most_pages : (limit : ℕ) → Option ℕ → ℕ
most_pages limit None = limit
most_pages limit (Some max) = min max limit

-- a memory with its minimum of pages of zeros
abbrev pub memory_with : (limit : ℕ) → Option Bounds → Option Contents
memory_with limit None = None
memory_with limit (Some bounds) =
    Some (record { bytes = replicate (bounds.min * page_size) 0; most = most_pages limit bounds.max })

abbrev pub new_memory : (limit : ℕ) → Parts → Option Contents
new_memory limit m = memory_with limit (slice_get (memories_of m) 0)

-- so many places from this offset on lie among those that there are
abbrev pub lies_in : (places : ℕ) → (offset : Option ℕ) → (count : ℕ) → Bool
lies_in places None count = false
lies_in places (Some offset) count = nat_le (offset + count) places

-- each element segment lies in the table, and each data segment in the memory
unfoldable pub segments_lie_in : (limit : ℕ) → Parts → Bool
segments_lie_in limit m =
    list_all (λ (e : Element). lies_in (length (new_table m)) (value_of e.offset) (length e.functions)) m.elements
    && list_all
    (λ (s : Segment). lies_in (length (bytes_of (new_memory limit m))) (value_of s.offset) (length s.bytes)) m.segments

-- the table after these elements were written over it from this place on
abbrev pub overwritten : List (Option ℕ) → (at : ℕ) → (new : List (Option ℕ)) → List (Option ℕ)
overwritten table at new = take at table ++ (new ++ drop (at + length new) table)

-- an element segment is written: its functions from its offset on
abbrev pub put_element : List (Option ℕ) → Element → List (Option ℕ)
put_element table e =
    overwritten table (unwrap_or (value_of e.offset) 0) (map (λ (function : ℕ). Some function) e.functions)

-- a data segment is written: its bytes from its offset on
abbrev pub put_segment : Option Contents → Segment → Option Contents
put_segment None s = None
put_segment (Some memory) s =
    Some (record memory { bytes = written memory.bytes (unwrap_or (value_of s.offset) 0) s.bytes })

-- the table and the memory after all segments, in their order
abbrev pub first_table : Parts → List (Option ℕ)
first_table m = fold put_element (new_table m) m.elements

abbrev pub first_memory : (limit : ℕ) → Parts → Option Contents
first_memory limit m = fold put_segment (new_memory limit m) m.segments

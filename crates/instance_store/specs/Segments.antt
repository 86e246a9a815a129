-- Where the segments of a module lie.
use Rattle.std.specs.Prelude.{ℕ, Bool, List, length}
use Rattle.std.specs.List.{list_all}
use Rattle.wasm_form.specs.declared.parts.Element.{Element}
use Rattle.wasm_form.specs.declared.parts.Segment.{Segment}
use Rattle.tree_machine.specs.Instantiation.{value_of, lies_in}

-- each element segment lies in a table of so many places
abbrev pub elements_lie_in : (places : ℕ) → List Element → Bool
elements_lie_in places elements =
    list_all (λ (e : Element). lies_in places (value_of e.offset) (length e.functions)) elements

-- each data segment lies in a memory of so many bytes
abbrev pub data_lie_in : (places : ℕ) → List Segment → Bool
data_lie_in places segments =
    list_all (λ (s : Segment). lies_in places (value_of s.offset) (length s.bytes)) segments

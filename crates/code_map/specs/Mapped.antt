-- When a body's code is mapped, over its tree. Heights are those that the text gives, along the code that is gone on
-- to: code after an instruction that leaves may be mapped in any way.
use Rattle.std.specs.Prelude.{◌≡◌, ℕ, ◌+◌, ◌-◌, ⊤, false, List, [], ◌∷◌, ◌++◌, length, slice_get, Option, Some}
use Rattle.wasm_form.specs.declared.value_type.ValType.{ValType}
use Rattle.wasm_form.specs.declared.parts.Parts.{Parts}
use Rattle.wasm_form.specs.Trees.{Code, Empty, Then, TableOf, BlockOf, LoopOf, IfOf, IfElseOf, size}
use Rattle.code_map.specs.declared.target.Target.{Target}
use Rattle.code_map.specs.declared.body_map.BodyMap.{BodyMap}
use Rattle.code_map.specs.Flows.{MayBranch, GoesOn}
use Rattle.code_map.specs.Targets.{target, gives_value, count_if, opens_of, HasTarget, HasTable}

-- Core 1.0, 4.4.5: the label of a block or an if in these lists that ends at `stop`, over so many values
abbrev pub block_label : List Target → (stop height : ℕ) → Option ValType → Target
block_label labels stop height result = target (stop + 1) height (opens_of labels) (gives_value result)

-- the label of the loop at this place in these lists: the loop itself, which begins it again and carries nothing
abbrev pub loop_label : List Target → (place height : ℕ) → Target
loop_label labels place height = target place height (opens_of labels) false

-- where the if in these lists goes if its number is 0: inside, to the start of the else part, or to the end
abbrev pub skipped : List Target → (to height : ℕ) → Target
skipped labels to height = target to height (length labels) false

-- so many values stand after a block over so many
abbrev pub after_block : (height : ℕ) → Option ValType → ℕ
after_block height result = height + count_if (gives_value result)

-- the code whose first instruction stands at `place`, where so many values stand, has its targets; `labels` are the
-- targets of the labels, the innermost first
abbrev pub Mapped : Parts → BodyMap → (labels : List Target) → (place height : ℕ) → Code → Type 0
Mapped m map labels place height Empty = ⊤
Mapped m map labels place height (Then i rest) =
    ((label : ℕ) (t : Target) → MayBranch (length labels) i label → slice_get labels label ≡ Some t
    → HasTarget map place t)
    × ((after : ℕ) → GoesOn m i height after → Mapped m map labels (place + 1) after rest)
Mapped m map labels place height (TableOf indexes last rest) = HasTable map place labels (indexes ++ last ∷ [])
Mapped m map labels place height (BlockOf result inside rest) =
    Mapped m map (block_label labels (place + 1 + size inside) height result ∷ labels) (place + 1) height inside
    × Mapped m map labels (place + 1 + size inside + 1) (after_block height result) rest
Mapped m map labels place height (LoopOf result inside rest) =
    Mapped m map (loop_label labels place height ∷ labels) (place + 1) height inside
    × Mapped m map labels (place + 1 + size inside + 1) (after_block height result) rest
Mapped m map labels place height (IfOf result inside rest) =
    let stop = place + 1 + size inside in
    HasTarget map place (skipped labels stop (height - 1))
    × Mapped m map (block_label labels stop (height - 1) result ∷ labels) (place + 1) (height - 1) inside
    × Mapped m map labels (stop + 1) (after_block (height - 1) result) rest
Mapped m map labels place height (IfElseOf result inside other rest) =
    let middle = place + 1 + size inside in
    let stop = middle + 1 + size other in
    let label = block_label labels stop (height - 1) result in
    HasTarget map place (skipped labels (middle + 1) (height - 1))
    × Mapped m map (label ∷ labels) (place + 1) (height - 1) inside
    × HasTarget map middle label
    × Mapped m map (label ∷ labels) (middle + 1) (height - 1) other
    × Mapped m map labels (stop + 1) (after_block (height - 1) result) rest

-- Straight code: what an instruction that goes on to the next one makes of the flat machine. What it does to operands
-- it does to the values, of which they are the first.
use Rattle.std.specs.Prelude.{ℕ, ◌+◌, ⊤, List, [], ◌∷◌, cond, nat_lt, nat_le, length, reverse, slice_get, slice_set, Option, Some, None}
use Rattle.wasm_ops.specs.declared.trap.Trap.TheVariants as traps
use Rattle.wasm_ops.specs.Table.{width_of}
use Rattle.linear_memory.specs.Bytes.{low_bytes, written}
use Rattle.linear_memory.specs.Contents.{Contents}
use Rattle.tree_machine.specs.Instructions.{Plain}
use Rattle.tree_machine.specs.Instructions as op
use Rattle.tree_machine.specs.Outcomes.{Effect, Gives, Fails, Undefined}
use Rattle.tree_machine.specs.Numeric.{unary, binary}
use Rattle.tree_machine.specs.Parametric.{drop_one, select}
use Rattle.tree_machine.specs.Variables.{push_value}
use Rattle.tree_machine.specs.MemoryAccess.{load_from}
use Rattle.tree_machine.specs.MemorySize.{pages_in, size_of, minus_one, grown}
use Rattle.flat_machine.specs.Flat.{Flat, goes_on}

-- the values are changed so, and the next instruction is to come
abbrev pub to_values : Flat → Effect (List ℕ) → Effect Flat
to_values flat (Gives values) = Gives (goes_on values flat)
to_values flat (Fails trap) = Fails trap
to_values flat Undefined = Undefined

-- the value of a local: the locals are counted from the base upwards
abbrev pub local_value : (base x : ℕ) → (values : List ℕ) → Option ℕ
local_value base x values = slice_get (reverse values) (base + x)

-- the values where a local has this value
abbrev pub with_local : (base x value : ℕ) → (values : List ℕ) → List ℕ
with_local base x value values = reverse (slice_set (reverse values) (base + x) value)

-- local.set
abbrev pub set_top : (base x : ℕ) → (values : List ℕ) → Effect (List ℕ)
set_top base x [] = Undefined
set_top base x (value ∷ below) = Gives (with_local base x value below)

-- local.tee
abbrev pub tee_top : (base x : ℕ) → (values : List ℕ) → Effect (List ℕ)
tee_top base x [] = Undefined
tee_top base x (value ∷ below) = Gives (with_local base x value (value ∷ below))

-- global.set
abbrev pub put_global : (x : ℕ) → (values : List ℕ) → Flat → Effect Flat
put_global x [] flat = Undefined
put_global x (value ∷ below) flat =
    cond (nat_lt x (length flat.globals))
    (Gives (record (goes_on below flat) { globals = slice_set flat.globals x value })) Undefined

-- the low bytes of a value are written from this address on; past the end of the memory it traps
abbrev pub put_bytes : (code address value : ℕ) → Contents → (below : List ℕ) → Flat → Effect Flat
put_bytes code address value memory below flat =
    cond (nat_le (address + width_of code) (length memory.bytes))
    (Gives (record (goes_on below flat) {
      memory = Some (record memory { bytes = written memory.bytes address (low_bytes (width_of code) value) });
    }))
    (Fails traps.Bounds)

-- store: the value lies on top of the address
abbrev pub put_top : (code offset : ℕ) → Option Contents → (values : List ℕ) → Flat → Effect Flat
put_top code offset None values flat = Undefined
put_top code offset (Some memory) [] flat = Undefined
put_top code offset (Some memory) (value ∷ []) flat = Undefined
put_top code offset (Some memory) (value ∷ address ∷ below) flat =
    put_bytes code (address + offset) value memory below flat

-- memory.grow: the size before, or -1 exactly where the memory would pass the most pages that it may have
abbrev pub grow_memory : Option Contents → (values : List ℕ) → Flat → Effect Flat
grow_memory None values flat = Undefined
grow_memory (Some memory) [] flat = Undefined
grow_memory (Some memory) (pages ∷ below) flat =
    cond (nat_le (pages_in memory + pages) memory.most)
    (Gives (record (goes_on (pages_in memory ∷ below) flat) { memory = Some (grown pages memory) }))
    (Gives (goes_on (minus_one ∷ below) flat))

-- what a straight instruction makes of the machine
unfoldable pub straight : Plain → Flat → Effect Flat
straight op.Unreachable flat = Fails traps.Unreachable
straight op.Nop flat = to_values flat (Gives flat.values)
straight (op.Br label) flat = Undefined
straight (op.BrIf label) flat = Undefined
straight op.Return flat = Undefined
straight (op.Call function) flat = Undefined
straight (op.CallIndirect ty) flat = Undefined
straight op.Drop flat = to_values flat (drop_one flat.values)
straight op.Select flat = to_values flat (select flat.values)
straight (op.LocalGet x) flat = to_values flat (push_value (local_value flat.place.base x flat.values) flat.values)
straight (op.LocalSet x) flat = to_values flat (set_top flat.place.base x flat.values)
straight (op.LocalTee x) flat = to_values flat (tee_top flat.place.base x flat.values)
straight (op.GlobalGet x) flat = to_values flat (push_value (slice_get flat.globals x) flat.values)
straight (op.GlobalSet x) flat = put_global x flat.values flat
straight (op.Load code offset) flat = to_values flat (load_from code offset flat.memory flat.values)
straight (op.Store code offset) flat = put_top code offset flat.memory flat.values flat
straight op.MemorySize flat = to_values flat (size_of flat.memory flat.values)
straight op.MemoryGrow flat = grow_memory flat.memory flat.values flat
straight (op.Const value) flat = to_values flat (Gives (value ∷ flat.values))
straight (op.Unary code) flat = to_values flat (unary code flat.values)
straight (op.Binary code) flat = to_values flat (binary code flat.values)

-- the instruction is a straight one: no branch and no call
abbrev pub IsStraight : Plain → Type 0
IsStraight (op.Br label) = ⊥
IsStraight (op.BrIf label) = ⊥
IsStraight op.Return = ⊥
IsStraight (op.Call function) = ⊥
IsStraight (op.CallIndirect ty) = ⊥
IsStraight i = ⊤

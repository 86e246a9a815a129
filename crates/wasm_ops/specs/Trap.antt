-- The words of the traps.
use Rattle.std.specs.Prelude.{ℕ, List, codes}
use Rattle.wasm_ops.specs.declared.trap.Trap.{Trap}
use Rattle.wasm_ops.specs.declared.trap.Trap.TheVariants.{Unreachable, DivideByZero, Overflow, Bounds, TableBounds, NoElement, WrongType}

-- the word that a report has for a trap
abbrev pub word_of : Trap → List ℕ
word_of Unreachable = codes "unreachable"
word_of DivideByZero = codes "divide"
word_of Overflow = codes "overflow"
word_of Bounds = codes "bounds"
word_of TableBounds = codes "table"
word_of NoElement = codes "element"
word_of WrongType = codes "type"

use Rattle.std.specs.Prelude.{ℕ, Bool, List, Option}
use Rattle.wasm_ops.specs.declared.num.Num.{Num}
-- who performs a call: the turn itself; the world at the give; the outside, through the worker, before the give
pub use Rattle.host_port.specs.declared.row.Kind.{Kind}
pub use Rattle.host_port.specs.declared.row.Kind.TheVariants.{Local, World, Outside}
-- the areas that are read, each by the arguments that are its address and its length: plain bytes, tags of eight
-- bytes, or a name of 1 to 255 bytes
pub use Rattle.host_port.specs.declared.row.ReadArea.{ReadArea}
pub use Rattle.host_port.specs.declared.row.Reads.{Reads}
pub use Rattle.host_port.specs.declared.row.Reads.TheVariants.{NoArea, OneArea, TwoAreas}
pub use Rattle.host_port.specs.declared.row.Holds.{Holds}
pub use Rattle.host_port.specs.declared.row.Holds.TheVariants.{Plain, Tags, Name}
-- what is written with which results: a text, at most so long as its area and so many bytes; a word of 4 or 8 bytes
pub use Rattle.host_port.specs.declared.row.When.{When}
pub use Rattle.host_port.specs.declared.row.When.TheVariants.{Always, OnlyWith}
pub use Rattle.host_port.specs.declared.row.WrittenText.{WrittenText}
pub use Rattle.host_port.specs.declared.row.WrittenWord.{WrittenWord}
pub use Rattle.host_port.specs.declared.row.Width.{Width}
pub use Rattle.host_port.specs.declared.row.Width.TheVariants.{Four, Eight}
pub use Rattle.host_port.specs.declared.row.WordValue.{WordValue}
pub use Rattle.host_port.specs.declared.row.WordValue.TheVariants.{AnyValue, LengthOfText, AtMost}
-- what may come beside a call in an entry: nothing, the clock, or an answer, possibly none yet or an opened stream
pub use Rattle.host_port.specs.declared.row.MayCome.{MayCome}

-- the results that a call may give: none; one of these numbers; a number up to this one; a count that passes neither
-- the argument at this place nor this number; any i64
pub data Results : Type 0 where
  NoResult : Results
  OneOf : (numbers : List ℕ) → Results
  UpTo : (most : ℕ) → Results
  Count : (argument most : ℕ) → Results
  AnyI64 : Results

-- a row of the host table: the number of the call, the import's module and name, its type, who performs it, the areas
-- that it reads, the text and the word that it writes, what may come beside it, the results that it may give, and
-- whether it may be refused memory by the world, which answers 12
pub record Row : Type 0 where
  pub call : ℕ
  pub import_module : List ℕ
  pub import_name : List ℕ
  pub params : List Num
  pub result : Option Num
  pub kind : Kind
  pub reads : Reads
  pub text : Option WrittenText
  pub word : Option WrittenWord
  pub may_come : MayCome
  pub results : Results
  pub refusable : Bool

-- How a run of the flat machine halts, and how it goes on from a reply.
use Rattle.std.specs.Prelude.{◌≡◌, ℕ, ◌+◌, List, ◌++◌, Option, Some, None, option_to_list}
use Rattle.linear_memory.specs.Bytes.{low_bytes, written}
use Rattle.host_port.specs.declared.reply.Reply.{Reply}
use Rattle.host_port.specs.declared.reply.Text.{Text}
use Rattle.host_port.specs.declared.reply.Word.{Word}
use Rattle.wasm_form.specs.declared.parts.Parts.{Parts}
use Rattle.code_map.specs.declared.map.CodeMap.{CodeMap}
use Rattle.tree_machine.specs.Config.{bytes_of, with_bytes}
use Rattle.flat_machine.specs.declared.halt.Halt.{Halt}
use Rattle.flat_machine.specs.declared.halt.Halt.TheVariants as halt
use Rattle.flat_machine.specs.Flat.{Flat}
use Rattle.flat_machine.specs.Moves.{Move, Asks, Traps, Exceeds, Overfull, Ends, move}
use Rattle.flat_machine.specs.Runs.{Runs, IsReady}

-- the last of so many instructions had this move, and the one before it led here
pub record Comes (m : Parts) (map : CodeMap) (executed : ℕ) (from before : Flat) (last : Move) : Type 0 where
  pub count : ℕ
  pub count_is : executed ≡ count + 1
  pub runs : Runs m map count from before
  pub last_is : move m map before ≡ last

-- A run of at most `budget` instructions, of which so many were executed, halts so. At a trap and a limit the machine's
-- memory alone is still its own.
abbrev pub HaltsSo : Parts → CodeMap → Halt → (budget executed : ℕ) → (from to : Flat) → Type 0
HaltsSo m map halt.Slice budget executed from to = (executed ≡ budget) × Runs m map executed from to × IsReady m to
HaltsSo m map (halt.Asks ask) budget executed from to =
    (before : Flat) × (results : ℕ) × Comes m map executed from before (Asks ask results to)
HaltsSo m map (halt.Trap trap) budget executed from to =
    (before : Flat) × Comes m map executed from before (Traps trap) × (to.memory ≡ before.memory)
HaltsSo m map (halt.Spent spent) budget executed from to =
    (before : Flat) × Comes m map executed from before (Exceeds spent) × (to.memory ≡ before.memory)
HaltsSo m map halt.Overfull budget executed from to = Runs m map executed from to × (move m map to ≡ Overfull)
HaltsSo m map halt.Ends budget executed from to = Runs m map executed from to × (move m map to ≡ Ends)

-- the text of a reply is written, and then its word
abbrev pub with_text : Option Text → (bytes : List ℕ) → List ℕ
with_text None bytes = bytes
with_text (Some text) bytes = written bytes text.addr text.bytes

abbrev pub with_word : Option Word → (bytes : List ℕ) → List ℕ
with_word None bytes = bytes
with_word (Some word) bytes = written bytes word.addr (low_bytes word.width word.value)

-- the machine goes on from this reply: its text and its word are written, and its result comes on top
abbrev pub replied_to : Reply → Flat → Flat
replied_to reply flat = record flat {
  values = option_to_list reply.result ++ flat.values;
  memory = with_bytes (with_word reply.word (with_text reply.text (bytes_of flat.memory))) flat.memory;
}

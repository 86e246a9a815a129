-- The host's replies: whose they are, and what they make of the configuration that waits.
use Rattle.std.specs.Prelude.{ℕ, ◌+◌, ◌&&◌, Bool, true, false, cond, nat_eq, nat_le, List, [], ◌∷◌, ◌++◌, length, Option, Some, None, option_map, option_and_then, option_to_list}
use Rattle.std.specs.Cmp.Lexicographic.{pointwise}
use Rattle.host_port.specs.declared.ask.Ask.{Ask}
use Rattle.host_port.specs.declared.request.Request.{Request}
use Rattle.host_port.specs.declared.reply.Reply.{Reply}
use Rattle.host_port.specs.declared.reply.Text.{Text}
use Rattle.host_port.specs.declared.reply.Word.{Word}
use Rattle.linear_memory.specs.Bytes.{low_bytes, written}
use Rattle.wasm_form.specs.declared.parts.Parts.{Parts}
use Rattle.tree_machine.specs.Config.{Config, Frame, with_operands, bytes_of, with_bytes}
use Rattle.tree_machine.specs.Point.{Point, settle}

-- two asks are the same
abbrev pub same_ask : Ask → Ask → Bool
same_ask a b = nat_eq a.call b.call && pointwise nat_eq a.args b.args

-- two truth values are the same
abbrev pub same_truth : Bool → Bool → Bool
same_truth true b = b
same_truth false true = false
same_truth false false = true

-- two requests are the same
unfoldable pub same_request : Request → Request → Bool
same_request r s =
    same_ask r.ask s.ask && same_truth r.fits s.fits
    && pointwise nat_eq r.first s.first && pointwise nat_eq r.second s.second

-- these bytes are written from this address on, where they lie in the memory
abbrev pub write_at : (addr : ℕ) → (new bytes : List ℕ) → Option (List ℕ)
write_at addr new bytes = cond (nat_le (addr + length new) (length bytes)) (Some (written bytes addr new)) None

-- the text of a reply is written
abbrev pub write_text : Option Text → (bytes : List ℕ) → Option (List ℕ)
write_text None bytes = Some bytes
write_text (Some text) bytes = write_at text.addr text.bytes bytes

-- the word of a reply is written, the low byte first
abbrev pub write_word : Option Word → (bytes : List ℕ) → Option (List ℕ)
write_word None bytes = Some bytes
write_word (Some word) bytes = write_at word.addr (low_bytes word.width word.value) bytes

-- the result of a reply is pushed
abbrev pub push_result : Option ℕ → List Frame → List Frame
push_result result [] = []
push_result result (f ∷ below) = with_operands (option_to_list result ++ f.operands) f ∷ below

-- the configuration with these bytes in its memory, and with the result
abbrev pub resumed : Option ℕ → Config → (bytes : List ℕ) → Config
resumed result c bytes = record c { memory = with_bytes bytes c.memory; frames = push_result result c.frames }

-- A run goes on from a reply: the text is written first, and then the word; then the result is pushed, and exits are
-- made. The reply is to have the form of its call; after one with a result of another kind the run may have no further
-- step.
unfoldable pub replied : Parts → Config → Reply → Option Point
replied m c reply =
    option_map (λ bytes. settle m (resumed reply.result c bytes))
    (option_and_then (write_word reply.word) (write_text reply.text (bytes_of c.memory)))

-- A reply of its call's form leaves a typed configuration.
use Rattle.std.proofs.Common.{◌≡◌, ◌≤◌, ℕ, ◌+◌, All, Bool, true, false, nat_le, List, [], ◌∷◌, ◌++◌, length, slice_index, Option, Some, None, option_map, option_and_then, option_to_list, arith, refl, sym, ◌∙◌, ap, subst}
use Rattle.std.proofs.lemmas.Bool.Decides.{nat_tests}
use Rattle.host_port.specs.declared.ask.Ask.{Ask}
use Rattle.host_port.specs.declared.reply.Reply.{Reply}
use Rattle.host_port.specs.declared.reply.Text.{Text}
use Rattle.host_port.specs.declared.reply.Word.{Word}
use Rattle.host_port.specs.declared.row.WrittenText.{WrittenText}
use Rattle.host_port.specs.declared.row.WrittenWord.{WrittenWord}
use Rattle.host_port.specs.HostTable.{bytes_in}
use Rattle.host_port.specs.Areas.{areas_fit, text_fits, word_fits}
use Rattle.host_port.specs.Forms.{HasForm, WritesAsCalled, IsText, IsTextIf, IsWord, IsWordIf, is_written, text_of, word_of}
use Rattle.host_port.proofs.Requests.{writes_fit}
use Rattle.linear_memory.specs.Bytes.{low_bytes, written}
use Rattle.linear_memory.specs.Contents.{Contents}
use Rattle.wasm_form.specs.Ranges.{IsOctet}
use Rattle.wasm_form.specs.declared.value_type.ValType.{ValType}
use Rattle.wasm_form.specs.declared.parts.Parts.{Parts}
use Rattle.tree_machine.specs.Config.{Config, Frame, bytes_of, with_bytes}
use Rattle.tree_machine.specs.Point.{settle}
use Rattle.tree_machine.specs.Replies.{write_at, write_text, write_word, push_result, resumed, replied}
use Rattle.tree_machine.specs.Typed.{AreValues, FramesTyped, MemoryTyped, IsTyped, StandsTyped, IsTypedModule}
use Rattle.tree_machine.proofs.MemoryTyped.{written_typed, length-written, length-low_bytes, low_octets}
use Rattle.tree_machine.proofs.Values.{values_append}
use Rattle.tree_machine.proofs.ExitsTyped.{settle_keeps}

same_memory : (m : Parts) (memory : Option Contents) → MemoryTyped m memory → MemoryTyped m (with_bytes (bytes_of memory) memory)
same_memory m None h = h
same_memory m (Some memory) h = h

-- what a write of some bytes leaves: as many bytes, and a typed memory
pub record IsWritten (m : Parts) (memory : Option Contents) (result : Option (List ℕ)) : Type 0 where
  pub bytes : List ℕ
  pub there : result ≡ Some bytes
  pub size : length bytes ≡ length (bytes_of memory)
  pub typed : MemoryTyped m (with_bytes bytes memory)

not_written : (m : Parts) (memory : Option Contents) → MemoryTyped m memory → IsWritten m memory (Some (bytes_of memory))
not_written m memory typed = record { bytes = bytes_of memory; there = refl; size = refl; typed = same_memory m memory typed }

bytes_written : (m : Parts) (memory : Option Contents) (addr : ℕ) (new : List ℕ) → MemoryTyped m memory → All IsOctet new →
    addr + length new ≤ length (bytes_of memory) → IsWritten m memory (write_at addr new (bytes_of memory))
bytes_written m None addr new typed octets room =
    let yes : nat_le (addr + length new) (length {A = ℕ} []) ≡ true = grind (arith, nat_tests) in
    record { bytes = written [] addr new; there = rw yes refl; size = length-written [] new addr room; typed = typed }
bytes_written m (Some memory) addr new typed octets room =
    let yes : nat_le (addr + length new) (length memory.bytes) ≡ true = grind (arith, nat_tests) in
    record {
      bytes = written memory.bytes addr new;
      there = rw yes refl;
      size = length-written memory.bytes new addr room;
      typed = written_typed memory addr new typed octets room;
    }

-- an area that lies in the memory has room for what is no longer than it
room_in : (size addr len : ℕ) (at : ℕ) (count : ℕ) → nat_le (addr + len) size ≡ true → at ≡ addr → count ≤ len → at + count ≤ size
room_in size addr len at count fits same few = let lies : addr + len ≤ size = grind (arith, nat_tests) in omega arith

text_written_if : (m : Parts) (memory : Option Contents) → MemoryTyped m memory → (args : List ℕ) (form : WrittenText) (result : Option ℕ) (b : Bool) (text : Option Text) →
    IsTextIf b form args result text → text_fits (bytes_of memory) args (Some form) ≡ true → IsWritten m memory (write_text text (bytes_of memory))
text_written_if m memory typed args form result false text is fits =
    subst (λ (t : Option Text). IsWritten m memory (write_text t (bytes_of memory))) (sym is) (not_written m memory typed)
text_written_if m memory typed args form result true None is fits = absurd is
text_written_if m memory typed args form result true (Some text) is fits =
    bytes_written m memory text.addr text.bytes typed is.octets
    (room_in (length (bytes_of memory)) (slice_index args form.addr) (slice_index args form.length) text.addr (length text.bytes) fits is.addr is.within)

-- the text of a reply is written
text_written : (m : Parts) (memory : Option Contents) → MemoryTyped m memory → (args : List ℕ) (form : Option WrittenText) (result : Option ℕ) (text : Option Text) →
    IsText form args result text → text_fits (bytes_of memory) args form ≡ true → IsWritten m memory (write_text text (bytes_of memory))
text_written m memory typed args None result text is fits =
    subst (λ (t : Option Text). IsWritten m memory (write_text t (bytes_of memory))) (sym is) (not_written m memory typed)
text_written m memory typed args (Some form) result text is fits =
    text_written_if m memory typed args form result (is_written form.when result) text is fits

word_written_if : (m : Parts) (memory : Option Contents) → MemoryTyped m memory → (args : List ℕ) (form : WrittenWord) (b : Bool) (text : Option Text) (word : Option Word) →
    IsWordIf b form args text word → word_fits (bytes_of memory) args (Some form) ≡ true → IsWritten m memory (write_word word (bytes_of memory))
word_written_if m memory typed args form false text word is fits =
    subst (λ (w : Option Word). IsWritten m memory (write_word w (bytes_of memory))) (sym is) (not_written m memory typed)
word_written_if m memory typed args form true text None is fits = absurd is
word_written_if m memory typed args form true text (Some word) is fits =
    let size : length (low_bytes word.width word.value) ≡ word.width = length-low_bytes word.width word.value in
    let few : length (low_bytes word.width word.value) ≤ bytes_in form.width = let same : word.width ≡ bytes_in form.width = is.width in omega arith in
    bytes_written m memory word.addr (low_bytes word.width word.value) typed (low_octets word.width word.value)
    (room_in (length (bytes_of memory)) (slice_index args form.addr) (bytes_in form.width) word.addr (length (low_bytes word.width word.value)) fits is.addr few)

-- the word of a reply is written
word_written : (m : Parts) (memory : Option Contents) → MemoryTyped m memory → (args : List ℕ) (form : Option WrittenWord) (result : Option ℕ) (text : Option Text) (word : Option Word) →
    IsWord form args result text word → word_fits (bytes_of memory) args form ≡ true → IsWritten m memory (write_word word (bytes_of memory))
word_written m memory typed args None result text word is fits =
    subst (λ (w : Option Word). IsWritten m memory (write_word w (bytes_of memory))) (sym is) (not_written m memory typed)
word_written m memory typed args (Some form) result text word is fits =
    word_written_if m memory typed args form (is_written form.when result) text word is fits

-- whether a word fits is told by how many bytes there are
same_room : (a b args : List ℕ) (form : Option WrittenWord) → length b ≡ length a → word_fits a args form ≡ true → word_fits b args form ≡ true
same_room a b args None same fits = refl
same_room a b args (Some form) same fits =
    subst (λ (n : ℕ). nat_le (slice_index args form.addr + bytes_in form.width) n ≡ true) (sym same) fits

no_bytes : (bytes : List ℕ) → length bytes ≡ 0 → [] ≡ bytes
no_bytes [] e = refl
no_bytes (b ∷ bytes) e = absurd (omega arith)

with_again : (first next : List ℕ) (memory : Option Contents) → with_bytes next (with_bytes first memory) ≡ with_bytes next memory
with_again first next None = refl
with_again first next (Some memory) = refl

bytes_with : (bytes : List ℕ) (memory : Option Contents) → length bytes ≡ length (bytes_of memory) → bytes_of (with_bytes bytes memory) ≡ bytes
bytes_with bytes None same = no_bytes bytes same
bytes_with bytes (Some memory) same = refl

-- a text and a word are written one after the other
pub both_written : (m : Parts) (memory : Option Contents) → MemoryTyped m memory → (ask : Ask) (reply : Reply) → areas_fit (bytes_of memory) ask ≡ true →
    WritesAsCalled ask reply.result reply.word reply.text → IsWritten m memory (option_and_then (write_word reply.word) (write_text reply.text (bytes_of memory)))
both_written m memory typed ask reply fits is =
    let fit = writes_fit (bytes_of memory) ask fits in
    let first = text_written m memory typed ask.args (text_of ask.call) reply.result reply.text is.text_is fit.0 in
    let after = with_bytes first.bytes memory in
    let here : bytes_of after ≡ first.bytes = bytes_with first.bytes memory first.size in
    let room : word_fits (bytes_of after) ask.args (word_of ask.call) ≡ true =
    same_room (bytes_of memory) (bytes_of after) ask.args (word_of ask.call) (ap (λ (bs : List ℕ). length bs) here ∙ first.size) fit.1 in
    let next = word_written m after first.typed ask.args (word_of ask.call) reply.result reply.text reply.word is.word_is room in
    record {
      bytes = next.bytes;
      there = ap (option_and_then (write_word reply.word)) first.there ∙ ap (λ (bs : List ℕ). write_word reply.word bs) (sym here) ∙ next.there;
      size = next.size ∙ ap (λ (bs : List ℕ). length bs) here ∙ first.size;
      typed = subst (MemoryTyped m) (with_again first.bytes next.bytes memory) next.typed;
    }

pub pushed_typed : (m : Parts) (given : List ValType) (result : Option ℕ) (frames : List Frame) → FramesTyped m given frames →
    AreValues given (option_to_list result) → FramesTyped m [] (push_result result frames)
pushed_typed m given result [] typed h = tt
pushed_typed m given result (f ∷ below) typed h =
    let frame = typed.1 in (
      typed.0,
      record {
        runs = frame.runs;
        labels = frame.labels;
        stack = given ++ frame.stack;
        locals = frame.locals;
        operands = values_append given frame.stack (option_to_list result) f.operands h frame.operands;
        conts = frame.conts;
      },
      typed.2,
    )

-- a reply to an ask whose areas fit
pub reply_kept : (m : Parts) → IsTypedModule m → (ask : Ask) (given : List ValType) (c : Config) (reply : Reply) → IsTyped m given c →
    areas_fit (bytes_of c.memory) ask ≡ true → HasForm ask reply → AreValues given (option_to_list reply.result) → StandsTyped m (replied m c reply)
unfolding replied
reply_kept m module_typed ask given c reply is fits form h =
    let to_write = both_written m c.memory is.memory ask reply fits form.writes in
    let to = resumed reply.result c to_write.bytes in (
      settle m to,
      ap (option_map (λ bytes. settle m (resumed reply.result c bytes))) to_write.there,
      settle_keeps m module_typed to (record {
        globals = is.globals;
        table = is.table;
        memory = to_write.typed;
        invocations = is.invocations;
        frames = pushed_typed m given reply.result c.frames is.frames h;
      }),
    )

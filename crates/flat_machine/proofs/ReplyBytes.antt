-- What a reply writes lies in the memory, and with it the machine goes on as the configuration that waits.
use Rattle.std.specs.Prelude.{IfSome}
use Rattle.std.proofs.Common.{◌≡◌, ◌≤◌, ℕ, ◌+◌, inl, inr, Bool, true, false, cond, nat_le, List, ◌++◌, length, reverse, Option, Some, None, option_and_then, option_to_list, arith, refl, sym, ◌∙◌, ap, subst}
use Rattle.std.proofs.lemmas.Bool.Decides.{nat_tests}
use Rattle.std.proofs.lemmas.List.{length-reverse}
use Rattle.linear_memory.specs.Bytes.{low_bytes, written}
use Rattle.host_port.specs.Areas.{areas_fit}
use Rattle.host_port.specs.Forms.{IsResult, IsWord, IsWordIf, HasForm, is_written, word_of}
use Rattle.host_port.specs.HostTable.{Row, Results, bytes_in, row_of, results_of}
use Rattle.host_port.specs.SoundRows.{IsSoundRow}
use Rattle.host_port.specs.declared.ask.Ask.{Ask}
use Rattle.host_port.specs.declared.reply.Reply.{Reply}
use Rattle.host_port.specs.declared.reply.Text.{Text}
use Rattle.host_port.specs.declared.reply.Word.{Word}
use Rattle.host_port.specs.declared.row.Width.{Width}
use Rattle.host_port.specs.declared.row.Width.TheVariants as widths
use Rattle.host_port.specs.declared.row.WrittenWord.{WrittenWord}
use Rattle.host_port.proofs.HostLaws.{results_by}
use Rattle.host_port.proofs.RowLaws.{rows_sound, row_has}
use Rattle.wasm_ops.specs.Table.{IsAccessWidth}
use Rattle.wasm_form.specs.declared.types.FuncType.{FuncType}
use Rattle.wasm_form.specs.declared.parts.Parts.{Parts}
use Rattle.code_map.specs.declared.map.CodeMap.{CodeMap}
use Rattle.tree_machine.specs.Config.{Config, bytes_of, with_bytes}
use Rattle.tree_machine.specs.Replies.{write_at, write_text, write_word}
use Rattle.tree_machine.specs.Typed.{AreValues, offered_type}
use Rattle.tree_machine.proofs.MemoryTyped.{length-written, length-low_bytes}
use Rattle.tree_machine.proofs.RunsTyped.{row_gives}
use Rattle.tree_machine.proofs.Values.{as_many}
use Rattle.flat_machine.specs.Flat.{Flat}
use Rattle.flat_machine.specs.Mapping.{Follows}
use Rattle.flat_machine.specs.MappedModule.{AreOffered, IsMappedModule}
use Rattle.flat_machine.specs.Halts.{with_text, with_word}
use Rattle.flat_machine.specs.MovesAgree.{WaitsFor, TakesReply}
use Rattle.flat_machine.proofs.Replying.{reply_resumes}

-- bytes that are written lie in the memory
record IsPut (addr : ℕ) (new bytes after : List ℕ) : Type 0 where
  room : addr + length new ≤ length bytes
  is : after ≡ written bytes addr new
  size : length after ≡ length bytes

put_if : (addr : ℕ) (new bytes after : List ℕ) (b : Bool) → nat_le (addr + length new) (length bytes) ≡ b → cond b (Some (written bytes addr new)) None ≡ Some after →
    IsPut addr new bytes after
put_if addr new bytes after true test e =
    let room : addr + length new ≤ length bytes = grind (arith, nat_tests) in
    let same : written bytes addr new ≡ after = cc in
    record { room = room; is = sym same; size = ap length (sym same) ∙ length-written bytes new addr room }
put_if addr new bytes after false test e = absurd (cc)

put : (addr : ℕ) (new bytes after : List ℕ) → write_at addr new bytes ≡ Some after → IsPut addr new bytes after
put addr new bytes after e = put_if addr new bytes after (nat_le (addr + length new) (length bytes)) refl e

-- a text, if there is one
record TextPut (o : Option Text) (bytes after : List ℕ) : Type 0 where
  room : IfSome o (λ (t : Text). t.addr + length t.bytes ≤ length bytes)
  is : after ≡ with_text o bytes
  size : length after ≡ length bytes

text_put : (o : Option Text) (bytes after : List ℕ) → write_text o bytes ≡ Some after → TextPut o bytes after
text_put None bytes after e =
    let same : bytes ≡ after = cc in
    record { room = tt; is = sym same; size = ap length (sym same) }
text_put (Some t) bytes after e =
    let done = put t.addr t.bytes bytes after e in
    record { room = done.room; is = done.is; size = done.size }

-- a word, if there is one
record WordPut (o : Option Word) (bytes after : List ℕ) : Type 0 where
  room : IfSome o (λ (w : Word). w.addr + w.width ≤ length bytes)
  is : after ≡ with_word o bytes

word_put : (o : Option Word) (bytes after : List ℕ) → write_word o bytes ≡ Some after → WordPut o bytes after
word_put None bytes after e = let same : bytes ≡ after = cc in record { room = tt; is = sym same }
word_put (Some w) bytes after e =
    let done = put w.addr (low_bytes w.width w.value) bytes after e in
    let size : length (low_bytes w.width w.value) ≡ w.width = length-low_bytes w.width w.value in
    let all = done.room in
    record { room = (let fits : w.addr + w.width ≤ length bytes = omega arith in fits); is = done.is }

-- both, one after the other
record BothPut (reply : Reply) (bytes after : List ℕ) : Type 0 where
  text : IfSome reply.text (λ (t : Text). t.addr + length t.bytes ≤ length bytes)
  word : IfSome reply.word (λ (w : Word). w.addr + w.width ≤ length bytes)
  is : after ≡ with_word reply.word (with_text reply.text bytes)

word_room : (o : Option Word) (a b : List ℕ) → length a ≡ length b → IfSome o (λ (w : Word). w.addr + w.width ≤ length a) → IfSome o (λ (w : Word). w.addr + w.width ≤ length b)
word_room None a b same h = tt
word_room (Some w) a b same h = subst (λ (n : ℕ). w.addr + w.width ≤ n) same h

both_if : (reply : Reply) (bytes after : List ℕ) (first : Option (List ℕ)) → write_text reply.text bytes ≡ first →
    option_and_then (write_word reply.word) first ≡ Some after → BothPut reply bytes after
both_if reply bytes after None is e = absurd (cc)
both_if reply bytes after (Some first) is e =
    let one = text_put reply.text bytes first is in
    let two = word_put reply.word first after e in
    record { text = one.room; word = word_room reply.word first bytes one.size two.room; is = two.is ∙ ap (with_word reply.word) one.is }

-- a word is as wide as an access
width_is : (width : Width) (n : ℕ) → n ≡ bytes_in width → IsAccessWidth n
width_is widths.Four n e = inr (inr (inl e))
width_is widths.Eight n e = inr (inr (inr e))

wide_if : (b : Bool) (form : WrittenWord) (args : List ℕ) (text : Option Text) (o : Option Word) → IsWordIf b form args text o → IfSome o (λ (w : Word). IsAccessWidth w.width)
wide_if false form args text None h = tt
wide_if false form args text (Some w) h = absurd (cc)
wide_if true form args text None h = tt
wide_if true form args text (Some w) h = width_is form.width w.width h.width

wide : (form : Option WrittenWord) (args : List ℕ) (result : Option ℕ) (text : Option Text) (o : Option Word) → IsWord form args result text o →
    IfSome o (λ (w : Word). IsAccessWidth w.width)
wide None args result text None h = tt
wide None args result text (Some w) h = absurd (cc)
wide (Some form) args result text o h = wide_if (is_written form.when result) form args text o h

both_some : (o : Option Word) (P Q : Word → Type 0) → IfSome o P → IfSome o Q → IfSome o (λ (w : Word). P w × Q w)
both_some None P Q p q = tt
both_some (Some w) P Q p q = (p, q)

-- the result of a reply has the type of the call
pub offered_result : (m : Parts) → AreOffered m → (ty : FuncType) (call index : ℕ) (result : Option ℕ) → (offered : (row : Row) × (row_of call ≡ Some row) × (ty ≡ offered_type row)) →
    IsResult (results_of call) result → AreValues (reverse ty.results) (option_to_list result)
offered_result m hosts ty call index result (row, is, type_is) h =
    subst (λ (t : FuncType). AreValues (reverse t.results) (option_to_list result)) (sym type_is)
    (row_gives row (row_has IsSoundRow rows_sound call row is) result (subst (λ (o : Option Results). IsResult o result) (results_by call row is) h))

-- a reply of the call's form is taken
pub reply_taken : (m : Parts) (map : CodeMap) (ask : Ask) (results : ℕ) (waits : Flat) (c : Config) (reply : Reply) → IsMappedModule m map →
    WaitsFor m map.bodies ask results waits c → areas_fit (bytes_of waits.memory) ask ≡ true → HasForm ask reply → TakesReply m map.bodies results waits c reply
reply_taken m map ask results waits c reply mapped is fits form =
    let values : AreValues (reverse is.ty.results) (option_to_list reply.result) =
    offered_result m mapped.hosts is.ty ask.call is.index reply.result (mapped.hosts is.index is.ty ask.call is.callee_is) form.result in
    let count : results ≡ length (reverse is.ty.results) = is.results_are ∙ sym (length-reverse is.ty.results) in
    let resumes = reply_resumes m map.bodies waits c ask (reverse is.ty.results) results reply is.follows is.typed count fits form values in
    let both = both_if reply (bytes_of waits.memory) resumes.bytes (write_text reply.text (bytes_of waits.memory)) refl resumes.written in
    record {
      text = both.text;
      word = both_some reply.word (λ (w : Word). IsAccessWidth w.width) (λ (w : Word). w.addr + w.width ≤ length (bytes_of waits.memory))
          (wide (word_of ask.call) ask.args reply.result reply.text reply.word form.writes.word_is) both.word;
      count = as_many (reverse is.ty.results) (option_to_list reply.result) values ∙ sym count;
      to = resumes.to;
      goes_on = resumes.goes_on;
      typed = resumes.typed;
      follows = subst
          (λ (bytes : List ℕ). Follows m map.bodies (record waits { values = option_to_list reply.result ++ waits.values; memory = with_bytes bytes waits.memory }) resumes.to)
          both.is resumes.follows;
    }

-- The form of a reply, from the row of its call.
use Rattle.std.specs.Prelude.{IsSomeAnd}
use Rattle.std.proofs.Common.{◌≡◌, ℕ, Option, Some, None, refl, sym, ◌∙◌, ap, subst}
use Rattle.host_port.specs.declared.ask.Ask.{Ask}
use Rattle.host_port.specs.declared.reply.Reply.{Reply}
use Rattle.host_port.specs.declared.host_table.HostRow.{HostRow}
use Rattle.host_port.specs.Rows.{Row, Results, WrittenText, WrittenWord}
use Rattle.host_port.specs.HostTable.{row_of, results_of}
use Rattle.host_port.specs.HostRows.{shown_results, IsRow}
use Rattle.host_port.specs.Forms.{IsResult, HasParts, HasForm, text_of, word_of}
use Rattle.host_port.proofs.HostLaws.{results_by, text_by, word_by}

-- the three things that a row says of a reply
record IsSaid (call : ℕ) (results : Option Results) (text : Option WrittenText) (word : Option WrittenWord) : Type 0 where
  same_results : results_of call ≡ results
  same_text : text_of call ≡ text
  same_word : word_of call ≡ word

said_by : (o : Option Row) (call : ℕ) (shown : HostRow) → row_of call ≡ o → IsSomeAnd o (IsRow shown) → IsSaid call (Some (shown_results shown.results)) shown.text shown.word
said_by None call shown e h = absurd h
said_by (Some row) call shown e h = record {
  same_results = results_by call row e ∙ ap (λ (r : Results). Some r) (sym h.same_results);
  same_text = text_by call row e ∙ sym h.same_text;
  same_word = word_by call row e ∙ sym h.same_word;
}

parts_form : (ask : Ask) (reply : Reply) → HasParts (results_of ask.call) (text_of ask.call) (word_of ask.call) ask.args reply → HasForm ask reply
parts_form ask reply h = record { result = h.result; count = h.count; writes = record { text_is = h.text_is; word_is = h.word_is } }

form_parts : (ask : Ask) (reply : Reply) → HasForm ask reply → HasParts (results_of ask.call) (text_of ask.call) (word_of ask.call) ask.args reply
form_parts ask reply h = record { result = h.result; count = h.count; text_is = h.writes.text_is; word_is = h.writes.word_is }

abbrev PartsOf : Ask → Reply → Option Results → Option WrittenText → Option WrittenWord → Type 0
PartsOf ask reply results text word = HasParts results text word ask.args reply

said_parts : (ask : Ask) (reply : Reply) (results : Option Results) (text : Option WrittenText) (word : Option WrittenWord) → IsSaid ask.call results text word →
    PartsOf ask reply (results_of ask.call) (text_of ask.call) (word_of ask.call) → PartsOf ask reply results text word
said_parts ask reply results text word said h =
    subst (λ (w : Option WrittenWord). PartsOf ask reply results text w) said.same_word
    (subst (λ (t : Option WrittenText). PartsOf ask reply results t (word_of ask.call)) said.same_text
    (subst (λ (r : Option Results). PartsOf ask reply r (text_of ask.call) (word_of ask.call)) said.same_results h))

parts_said : (ask : Ask) (reply : Reply) (results : Option Results) (text : Option WrittenText) (word : Option WrittenWord) → IsSaid ask.call results text word →
    PartsOf ask reply results text word → PartsOf ask reply (results_of ask.call) (text_of ask.call) (word_of ask.call)
parts_said ask reply results text word said h =
    subst (λ (w : Option WrittenWord). PartsOf ask reply (results_of ask.call) (text_of ask.call) w) (sym said.same_word)
    (subst (λ (t : Option WrittenText). PartsOf ask reply (results_of ask.call) t word) (sym said.same_text)
    (subst (λ (r : Option Results). PartsOf ask reply r text word) (sym said.same_results) h))

-- a reply with the parts that the row says has its form, and the other way round
pub has_form : (ask : Ask) (reply : Reply) (shown : HostRow) → IsSomeAnd (row_of ask.call) (IsRow shown) →
    HasParts (Some (shown_results shown.results)) shown.text shown.word ask.args reply → HasForm ask reply
has_form ask reply shown h parts = parts_form ask reply (parts_said ask reply _ _ _ (said_by (row_of ask.call) ask.call shown refl h) parts)

pub has_parts : (ask : Ask) (reply : Reply) (shown : HostRow) → IsSomeAnd (row_of ask.call) (IsRow shown) → HasForm ask reply →
    HasParts (Some (shown_results shown.results)) shown.text shown.word ask.args reply
has_parts ask reply shown h form = said_parts ask reply _ _ _ (said_by (row_of ask.call) ask.call shown refl h) (form_parts ask reply form)

-- a call that is not served has no reply
pub no_form : (ask : Ask) (reply : Reply) → row_of ask.call ≡ None → HasForm ask reply → ⊥
unfolding results_of
no_form ask reply none form =
    let no : results_of ask.call ≡ None = rw none refl in
    subst (λ (o : Option Results). IsResult o reply.result) no form.result

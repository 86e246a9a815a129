-- What the run of a file says, by the run of its module.
use Rattle.std.proofs.Common.{◌≡◌, ◌≢◌, ℕ, List, [], Option, Some, None, IsSome, true, false, refl, sym, ◌∙◌, ap, ◌⊎◌, inl, inr}
use Rattle.std.specs.Prelude.{◌↔◌, IsSomeAnd}
use Rattle.resource_table.specs.Steps.{Told}
use Rattle.outside.specs.Files.{Contents}
use Rattle.host_port.specs.declared.start.StartRefusal.{StartRefusal}
use Rattle.world_rules.specs.declared.entry.Entry.{Entry}
use Rattle.world_rules.specs.Book.{Book, IsBlank}
use Rattle.world_rules.specs.World.{first_world}
use Rattle.world_rules.specs.Told.{told, all_after}
use Rattle.wasm_form.specs.declared.parts.Parts.{Parts}
use Rattle.module_validator.specs.declared.answer.Verdict.{Verdict}
use Rattle.module_validator.specs.declared.answer.Verdict.TheVariants.{Accepted}
use Rattle.lunatic_cli.specs.declared.finish.Finish.{Finish}
use Rattle.command_words.specs.declared.options.Options.{Options}
use Rattle.lunatic_cli.specs.File.{HasModule}
use Rattle.lunatic_cli.specs.Headline.{HeadlineOfFile}
use Rattle.lunatic_cli.specs.Ending.{Outcome, RunsModule}

-- a run that is told to its end
pub headline-of : {S : Type 0} {tells : Told S} (content : Option Contents) (name : List ℕ) (options : Options) (m : Parts) (at : Outcome) (finish : Finish S) → HasModule content name m →
    RunsModule options m tells at finish → finish.status ≢ 3 → finish.status ≢ 5 → finish.status ≢ 8 →
    HeadlineOfFile content name options at.outsides tells at.sink.before at.sink.after finish.journal finish.closed.items
headline-of content name options m at finish has (inl whole) three five eight = elim whole.writes [
  | inl reported ↦ record { module_of_file = m; is_module = has; holds = record { journal = whole.journal; written = reported.written } }
  | inr rest ↦ elim rest [ inl unwritten ↦ absurd (five unwritten.status_is) | inr memory ↦ absurd (eight memory.0) ]
]
headline-of content name options m at finish has (inr (inl refuses)) three five eight = absurd (three refuses.status_is)
headline-of content name options m at finish has (inr (inr nothing)) three five eight = absurd (eight nothing.status_is)

-- a run whose journal is blank closes nothing: a run that is over has an entry

blank-goes-on : {A : Type 0} (book : Book) → IsBlank book → (told book).over ≡ true → A
unfolding told
blank-goes-on book blank over =
    let e : false ≡ true = sym (ap (λ (entries : List Entry). (all_after book.births (first_world book.births) entries).over) blank.entries) ∙ over in
    absurd (cc)

pub blank-closed : {S : Type 0} {tells : Told S} (options : Options) (m : Parts) (at : Outcome) (finish : Finish S) → RunsModule options m tells at finish → IsBlank finish.journal →
    finish.closed.items ≡ []
blank-closed options m at finish (inl whole) blank = blank-goes-on finish.journal blank whole.journal.is_over
blank-closed options m at finish (inr (inl refuses)) blank = refuses.none_closed
blank-closed options m at finish (inr (inr nothing)) blank = nothing.none_closed

-- when it is refused

accepted-is-not-refused : {A : Type 0} (verdict : Option Verdict) → verdict ≡ Some Accepted → IsSomeAnd verdict (λ said. said ≢ Accepted) → A
accepted-is-not-refused None is h = absurd (cc)
accepted-is-not-refused (Some said) is h = let same : said ≡ Accepted = cc in absurd (h same)

pub refused-run : (verdict : Option Verdict) (start : Option StartRefusal) (status : ℕ) → verdict ≡ Some Accepted → (status ≡ 3) ↔ IsSome start →
    (status ≡ 3) ↔ (IsSomeAnd verdict (λ said. said ≢ Accepted) ⊎ IsSome start)
refused-run verdict start status is both =
    (λ three. inr (both.0 three), λ cause. elim cause [ inl refused ↦ accepted-is-not-refused verdict is refused | inr some ↦ both.1 some ])

other-verdict : (verdict : Option Verdict) → verdict ≢ Some Accepted → IsSome verdict → IsSomeAnd verdict (λ said. said ≢ Accepted)
other-verdict None other some = absurd (cc)
other-verdict (Some said) other some = λ e. other (ap (λ (v : Verdict). Some v) e)

some-verdict : (verdict : Option Verdict) → IsSomeAnd verdict (λ said. said ≢ Accepted) → IsSome verdict
some-verdict None h = absurd h
some-verdict (Some said) h = refl

none-is-not-some : {A X : Type 0} (o : Option X) → o ≡ None → IsSome o → A
none-is-not-some None is some = absurd (cc)
none-is-not-some (Some x) is some = absurd (cc)

pub refused-unrun : (verdict : Option Verdict) (start : Option StartRefusal) (status : ℕ) → verdict ≢ Some Accepted → start ≡ None → (status ≡ 3) ↔ IsSome verdict →
    (status ≡ 3) ↔ (IsSomeAnd verdict (λ said. said ≢ Accepted) ⊎ IsSome start)
refused-unrun verdict start status other none both =
    (λ three. inl (other-verdict verdict other (both.0 three)), λ cause. elim cause [ inl refused ↦ both.1 (some-verdict verdict refused) | inr some ↦ none-is-not-some start none some ])

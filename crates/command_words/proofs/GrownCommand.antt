-- The command of `clap` as the loop over the rows adds them.
use Rattle.std.proofs.Common.{◌≡◌, ◌∙◌, ℕ, ◌+◌, ◌<◌, ◌≤◌, sym, ap, ap₂, List, [], ◌∷◌, ◌++◌, map, take, length, refl, zero, suc, arith, add-one}
use Rattle.std.specs.List.{slice_index_or}
use Rattle.clap.specs.Words.{Rule, app_of, with_rule}
use Rattle.clap.specs.declared.builder.command.Command.{Command}
use Rattle.command_words.specs.Table.{Text, names_in, shown}
use Rattle.command_words.specs.Grammar.{app_with, raw_option, raw_positionals, raw_rules}
use Rattle.command_words.specs.declared.table.OptionRow.{OptionRow}
use Rattle.command_words.specs.declared.table.Measure.TheVariants.{Number}

-- the options of these rows
abbrev pub options_of : List OptionRow → List Rule
options_of rows = map raw_option (names_in (map shown rows))

-- what stands past the end of the rows
abbrev pub no_row : OptionRow
no_row = record { name = record { ref_ptr = (0, 0); now = [] }; measure = Number; least = 0; most = 0; preset = record { ref_ptr = (0, 0); now = [] } }

one_more : (rows : List OptionRow) (i : ℕ) (d : OptionRow) → i < length rows
    → options_of (take (suc i) rows) ≡ options_of (take i rows) ++ raw_option (slice_index_or rows i d).name.now ∷ []
one_more [] i d lt = absurd (omega arith)
one_more (row ∷ rows) zero d lt = refl
one_more (row ∷ rows) (suc i) d lt = ap (λ rs. raw_option row.name.now ∷ rs) (one_more rows i d (omega arith))

all_taken : (rows : List OptionRow) (i : ℕ) → length rows ≤ i → options_of (take i rows) ≡ options_of rows
all_taken [] zero le = refl
all_taken [] (suc i) le = refl
all_taken (row ∷ rows) zero le = absurd (omega arith)
all_taken (row ∷ rows) (suc i) le = ap (λ rs. raw_option row.name.now ∷ rs) (all_taken rows i (omega arith))

pub grown : (name : Text) (rows : List OptionRow) (i : ℕ) (d : OptionRow) (old new : Command) (rule : Rule) → i < length rows
    → app_of old ≡ app_with name (options_of (take i rows)) → app_of new ≡ with_rule (app_of old) rule
    → rule ≡ raw_option (slice_index_or rows i d).name.now → app_of new ≡ app_with name (options_of (take (i + 1) rows))
grown name rows i d old new rule lt before added is =
    added ∙ ap₂ with_rule before is ∙ ap (app_with name) (sym (one_more rows i d lt)) ∙ ap (λ k. app_with name (options_of (take k rows))) (sym (add-one i))

pub finished : (name : Text) (rows : List OptionRow) (i : ℕ) (old new : Command) (rule : Rule) → length rows ≤ i
    → app_of old ≡ app_with name (options_of (take i rows)) → app_of new ≡ with_rule (app_of old) rule → rule ≡ raw_positionals
    → app_of new ≡ app_with name (raw_rules (names_in (map shown rows)))
finished name rows i old new rule le before added is =
    added ∙ ap₂ with_rule (before ∙ ap (app_with name) (all_taken rows i le)) is

-- The simple command of `clap` that reads the words: options of these names, and any number of positionals.
use Rattle.std.specs.Prelude.{true, List, [], ◌∷◌, ◌++◌, map, Some, codes}
use Rattle.clap.specs.Walk.{Rule}
use Rattle.clap.specs.Simple.{App, Shape, new_rule, new_shape}
use Rattle.clap.specs.declared.builder.action.ArgAction.TheVariants.{Append}
use Rattle.command_words.specs.Table.{Text}

-- the id of the positionals
abbrev pub positionals_id : Text
positionals_id = codes "words"

abbrev pub raw_option : Text → Rule
raw_option name = record (new_rule name) { long = Some name }

abbrev pub raw_positionals : Rule
raw_positionals = record (new_rule positionals_id) { action = Some Append }

abbrev pub raw_rules : List Text → List Rule
raw_rules names = map raw_option names ++ raw_positionals ∷ []

-- the command has no name of a program before its words, no help and no version
abbrev pub shape_with : Text → List Rule → Shape
shape_with name rules = record (new_shape name) {
  no_binary_name = true;
  disable_help_flag = true;
  disable_version_flag = true;
  rules = rules;
}

abbrev pub app_with : Text → List Rule → App
app_with name rules = record { top = shape_with name rules; subs = [] }

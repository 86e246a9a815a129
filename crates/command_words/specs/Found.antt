-- What a parse finds.
use Rattle.std.specs.Prelude.{◌≡◌, false, List, [], Option, Some, None, Result, MatchResult, unwrap_or, option_map}
use Rattle.std.specs.Str.{bytes_eq}
use Rattle.clap.specs.Words.{first_value, found_of, matched_of, raw_values}
use Rattle.clap.specs.declared.parser.matches.ArgMatches.{ArgMatches}
use Rattle.command_words.specs.Table.{Text}
use Rattle.command_words.specs.Grammar.{positionals_id}
use Rattle.command_words.specs.Said.{Said, value_of}
use Rattle.command_words.specs.declared.words.WordsFault.{WordsFault}
use Rattle.command_words.specs.declared.words.WordsFault.TheVariants as fault

-- the positionals that a parse found
abbrev pub positionals_of : ArgMatches → List Text
positionals_of m = unwrap_or (option_map raw_values (matched_of (found_of m) positionals_id)) []

-- the parse found what the words say: the value of each option, and the positionals
pub record Shows (said : Said) (m : ArgMatches) : Type 0 where
  pub given : (name : Text) → bytes_eq positionals_id name ≡ false
      → first_value (found_of m) name ≡ value_of said.options name
  pub positionals : positionals_of m ≡ said.positionals

-- a parse that succeeds found what the words say; Words comes where they say nothing
abbrev pub Finds : Option Said → Result ArgMatches WordsFault → Type 0
Finds meaning result = MatchResult result
    (λ m. (said : Said) × (meaning ≡ Some said) × Shows said m)
    (λ refusal. refusal ≡ fault.Words → ◌≡◌ {A = Option Said} meaning None)

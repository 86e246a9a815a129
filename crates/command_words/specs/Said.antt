-- What the words after the command say: options, each with its value, and positionals.
use Rattle.std.specs.Prelude.{ℕ, ◌==◌, ◌&&◌, Bool, true, not, List, [], ◌∷◌, Option, Some, None}
use Rattle.std.specs.Prelude.{find, option_and_then, option_map, if◌then◌else◌}
use Rattle.std.specs.List.{after_first, before_first, list_any}
use Rattle.std.specs.Str.{bytes_eq}
use Rattle.command_words.specs.Table.{Text}

-- options with their values, and positionals, each in the order of the words
pub record Said : Type 0 where
  pub options : List (Text × Text)
  pub positionals : List Text

-- ---- one word, before `--`

pub data Word : Type 0 where
  -- `--`
  Ends : Word
  -- it is `-`, or does not begin with `-`: a positional, or an option's value
  Plain : Word
  -- `--name`
  Named : (name : Text) → Word
  -- `--name=value`
  Joined : (name value : Text) → Word
  -- any other that begins with `-`
  Other : Word

abbrev pub is_equals : ℕ → Bool
is_equals byte = byte == 61

-- what follows the two dashes: the name stands before the first `=`, the value after it
abbrev pub option_word : Text → Word
option_word [] = Ends
option_word (first ∷ rest) =
    if list_any is_equals (first ∷ rest)
    then Joined (before_first is_equals (first ∷ rest)) (after_first is_equals (first ∷ rest))
    else Named (before_first is_equals (first ∷ rest))

-- the second byte of a word that begins with `-` is another
abbrev pub dashed_word : Text → Word
dashed_word [] = Plain
dashed_word (second ∷ rest) = if second == 45 then option_word rest else Other

abbrev pub word_of : Text → Word
word_of [] = Plain
word_of (first ∷ rest) = if first == 45 then dashed_word rest else Plain

-- a name is among these
abbrev pub is_among : List Text → Text → Bool
is_among names name = list_any (λ other. bytes_eq other name) names

-- ---- all words

abbrev pub nothing : Said
nothing = record { options = []; positionals = [] }

abbrev pub with_option : (name value : Text) → Option Said → Option Said
with_option name value = option_map (λ (said : Said). record said { options = (name, value) ∷ said.options })

abbrev pub with_positional : Text → Option Said → Option Said
with_positional word = option_map (λ (said : Said). record said { positionals = word ∷ said.positionals })

-- what words say of which this is the first, by what the others say: where an option waits for its value, and where
-- none does
abbrev pub said_by : List Text → Word → (word : Text) (rest : List Text) → (Option Text → Option Said) → Option Said
said_by names Ends word rest others = Some (record { options = []; positionals = rest })
said_by names Plain word rest others = with_positional word (others None)
said_by names (Named name) word rest others = if is_among names name then others (Some name) else None
said_by names (Joined name value) word rest others =
    if is_among names name then with_option name value (others None) else None
said_by names Other word rest others = None

-- the value of this option is the first word, which is plain
abbrev pub valued_by : (name : Text) → Word → (word : Text) → Option Said → Option Said
valued_by name Plain word others = with_option name word others
valued_by name _ word others = None

-- what the words say to a command that has options of these names, if they say anything; `waits` is the option whose
-- value stands first
abbrev pub said : List Text → (waits : Option Text) → List Text → Option Said
said names None [] = Some nothing
said names (Some name) [] = None
said names None (word ∷ rest) = said_by names (word_of word) word rest (λ waits. said names waits rest)
said names (Some name) (word ∷ rest) = valued_by name (word_of word) word (said names None rest)

-- ---- options

-- one of these options has the name
abbrev pub names_one : Text → List (Text × Text) → Bool
names_one name = list_any (λ option. bytes_eq name option.0)

-- no option stands there twice
abbrev pub is_once : List (Text × Text) → Bool
is_once [] = true
is_once (option ∷ others) = not (names_one option.0 others) && is_once others

-- the value of the option of this name
abbrev pub value_of : List (Text × Text) → Text → Option Text
value_of options name = option_map (λ option. option.1) (find (λ option. bytes_eq option.0 name) options)

abbrev pub once : Said → Option Said
once all = if is_once all.options then Some all else None

-- what the words say, each option at most once
abbrev pub understood : List Text → List Text → Option Said
understood names words = option_and_then once (said names None words)

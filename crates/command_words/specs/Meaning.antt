-- What the words of the command line mean.
use Rattle.std.specs.Prelude.{◌≡◌, ℕ, ◌≤◌, ◌&&◌, Bool, not, List, [], ◌∷◌, length, All, Option, Some, None}
use Rattle.std.specs.Prelude.{Result, MatchResult, codes, is_some, nat_le, option_and_then, option_map, unwrap_or, if◌then◌else◌}
use Rattle.std.specs.List.{list_all}
use Rattle.std.specs.Str.{bytes_eq}
use Rattle.std.specs.Str.Parse.{digits_value}
use Rattle.command_words.specs.Table.{Row, Text, IsWithin, measured, names_in, number_of, solo_table, table, within}
use Rattle.command_words.specs.Table.{entry, fuel, idle, live, pages, traffic, workers}
use Rattle.command_words.specs.Said.{Said, understood, value_of}
use Rattle.command_words.specs.declared.asked.Command.{Command}
use Rattle.command_words.specs.declared.asked.Command.TheVariants.{Run, Check, Gen, Solo}
use Rattle.command_words.specs.declared.words.WordsFault.{WordsFault}
use Rattle.command_words.specs.declared.words.WordsFault.TheVariants as fault
use Rattle.command_words.specs.declared.options.Options.{Options}

-- ---- options

-- the value of a row's option: the one that is given, or else the row's own
abbrev pub text_of : (Text → Option Text) → Row → Text
text_of given row = unwrap_or (given row.name) row.preset

-- the number of a row's option
abbrev pub number_at : (Text → Option Text) → Row → ℕ
number_at given row = digits_value 10 (text_of given row)

-- the value of a row's option is in the row's range
abbrev pub is_fit : (Text → Option Text) → Row → Bool
is_fit given row = is_some (measured row (text_of given row))

-- the name of the entry function, where it is fit
abbrev pub entry_in : (Text → Option Text) → Option Text
entry_in given = if is_fit given entry then Some (text_of given entry) else None

-- the options of a run by their texts
abbrev pub options_at : (Text → Option Text) → Options
options_at given = record {
  workers = number_at given workers;
  entry = text_of given entry;
  limits = record {
    pages = number_at given pages;
    fuel = number_at given fuel;
    traffic = number_at given traffic;
  };
  live = number_at given live;
  idle = number_at given idle;
}

-- the options of a run where these values are given, each fit for its row
abbrev pub options_by : (Text → Option Text) → Option Options
options_by given = if list_all (is_fit given) table then Some (options_at given) else None

-- the options of a run whose words name none
abbrev pub default_options : Options
default_options = record {
  workers = 1;
  entry = codes "_start";
  limits = record { pages = 64; fuel = 1000000000; traffic = 67108864 };
  live = 1024;
  idle = 100000;
}

-- each option lies in the range of its row
pub record InRange (options : Options) : Type 0 where
  pub workers : IsWithin workers options.workers
  pub entry : IsWithin entry (length options.entry)
  pub pages : IsWithin pages options.limits.pages
  pub fuel : IsWithin fuel options.limits.fuel
  pub traffic : IsWithin traffic options.limits.traffic
  pub live : IsWithin live options.live
  pub idle : IsWithin idle options.idle

-- ---- names, and numbers that stand as positionals

-- a file is named
abbrev pub is_name : Text → Bool
is_name text = not (nat_le (length text) 0)

-- 1 to 16 files are named
abbrev pub are_names : List Text → Bool
are_names texts = nat_le 1 (length texts) && nat_le (length texts) 16 && list_all is_name texts

abbrev pub names_of : List Text → Option (List Text)
names_of texts = if are_names texts then Some texts else None

-- these names number 1 to 16, and none is empty
pub record AreNames (names : List Text) : Type 0 where
  pub some : 1 ≤ length names
  pub few : length names ≤ 16
  pub each : All (λ name. 1 ≤ length name) names

-- the number, between these, that the text writes
abbrev pub number_between : (least most : ℕ) → Text → Option ℕ
number_between least most text = option_and_then (within least most) (number_of text)

-- ---- commands, by what the words after the first say

-- `run` asks to run the files by the options
abbrev pub run_of : Said → Option Command
run_of said =
    option_and_then (λ names. option_map (Run names) (options_by (value_of said.options))) (names_of said.positionals)

-- `check` asks to check one file
abbrev pub check_of : List Text → Option Command
check_of (name ∷ []) = if is_name name then Some (Check name) else None
check_of _ = None

-- `gen` asks for a number between 2 and 1,000
abbrev pub gen_of : List Text → Option Command
gen_of (text ∷ []) = option_map Gen (number_between 2 1000 text)
gen_of _ = None

-- `solo` asks for one process, of a number between 1 and 1,000,000, of a run of the files
abbrev pub solo_by : Said → List Text → Option Command
solo_by said [] = None
solo_by said (pid ∷ texts) = option_and_then (λ number. option_and_then (λ names.
    option_map (Solo number names) (options_by (value_of said.options))) (names_of texts))
    (number_between 1 1000000 pid)

-- what the first word asks for of the words after it
abbrev pub asked_of : (first : Text) → List Text → Option Command
asked_of first words =
    if bytes_eq first (codes "run") then option_and_then run_of (understood (names_in table) words)
    else if bytes_eq first (codes "check")
    then option_and_then (λ said. check_of said.positionals) (understood [] words)
    else if bytes_eq first (codes "gen") then option_and_then (λ said. gen_of said.positionals) (understood [] words)
    else if bytes_eq first (codes "solo")
    then option_and_then (λ said. solo_by said said.positionals) (understood (names_in solo_table) words)
    else None

-- what the words after the program's name ask for, if they have a meaning
abbrev pub command_of : List Text → Option Command
command_of [] = None
command_of (first ∷ words) = asked_of first words

-- ---- what an answer says

-- an answer is right by the meaning: Ok has it, and Words comes where there is none; want of memory may come anywhere
abbrev pub Tells : {A : Type 0} → Option A → Result A WordsFault → Type 0
Tells meaning result =
    MatchResult result (λ answer. meaning ≡ Some answer) (λ refusal. refusal ≡ fault.Words → meaning ≡ None)

-- what a command asks for lies in its ranges
abbrev pub IsSound : Command → Type 0
IsSound (Run names options) = AreNames names × InRange options
IsSound (Check name) = 1 ≤ length name
IsSound (Gen n) = (2 ≤ n) × (n ≤ 1000)
IsSound (Solo pid names options) = (1 ≤ pid) × (pid ≤ 1000000) × AreNames names × InRange options

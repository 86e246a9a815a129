-- What the words of the command line, after the program's name, ask for.
use Rattle.std.specs.Prelude.{ℕ, ◌==◌, List, [], ◌∷◌, Option, Some, None, option_and_then, if◌then◌else◌}
use Rattle.command_words.specs.declared.asked.Command.{Command}
use Rattle.command_words.specs.declared.asked.Command.TheVariants as command
use Rattle.command_words.specs.declared.options.Options.{Options}
use Rattle.command_words.specs.Meaning.{command_of}
use Rattle.lunatic_cli.specs.declared.words.Asked.{Asked}
use Rattle.lunatic_cli.specs.declared.words.Asked.TheVariants.{Run, Check}

-- the name of the file
abbrev pub file_of : Asked → List ℕ
file_of (Run name options) = name
file_of (Check name) = name

-- a run of one file by one worker is served
abbrev pub run_of : (names : List (List ℕ)) → Options → Option Asked
run_of (name ∷ []) options = if options.workers == 1 then Some (Run name options) else None
run_of _ options = None

-- what is served of what the words mean
abbrev pub served : Command → Option Asked
served (command.Run names options) = run_of names options
served (command.Check name) = Some (Check name)
served (command.Gen n) = None
served (command.Solo pid names options) = None

-- what the words ask for, or none where they are refused: they have no meaning, or it isn't served
abbrev pub asked_by : List (List ℕ) → Option Asked
asked_by words = option_and_then served (command_of words)

use Rattle.std.proofs.Common.{◌≡◌, map, take}
use Rattle.clap.specs.Words.{app_of}
use Rattle.command_words.specs.Table.{names_in, shown}
use Rattle.command_words.specs.Grammar.{app_with, raw_option}
use Rattle.command_words.proofs.split.grammar.Given as goal

-- the command has the options of the rows so far
abbrev pub invariant-loop-row : goal.invariant-loop-row
invariant-loop-row l = app_of l.command ≡ app_with l.name (map raw_option (names_in (map shown (take l.row-index l.rows))))

-- The options of a run in their ranges, and a run that was made by them.
use Rattle.std.specs.Prelude.{◌≡◌, ◌≤◌, length}
use Rattle.command_words.specs.declared.options.Options.{Options}
use Rattle.command_words.specs.Meaning.{InRange}
use Rattle.world_rules.specs.Book.{Book}
use Rattle.world_rules.specs.Lives.{IsRun}
use Rattle.wasm_form.specs.declared.parts.Parts.{Parts}
use Rattle.lunatic_cli.specs.declared.words.Asked.{Asked}
use Rattle.lunatic_cli.specs.declared.words.Asked.TheVariants.{Run, Check}
use Rattle.lunatic_cli.specs.Options.{first_start}
use Rattle.lunatic_cli.specs.Runs.{run_setting}
use Rattle.lunatic_cli.specs.Headline.{FirstIsBornWith}

-- a run can be made by these options: it has one worker, and may be idle
pub record IsRunnable (options : Options) : Type 0 where
  pub one_worker : options.workers ≡ 1
  pub idle : 1 ≤ options.idle

-- the file has a name, and each option lies in its range, by which a run can be made
abbrev pub IsInRange : Asked → Type 0
IsInRange (Run name options) = (1 ≤ length name) × InRange options × IsRunnable options
IsInRange (Check name) = 1 ≤ length name

-- the journal is that of a run by just these options
pub record IsRunBy (options : Options) (book : Book) : Type 0 where
  pub module_of_file : Parts
  -- process 1 is born first, to enter the function that they name, within their pages, their fuel and their traffic
  pub first : FirstIsBornWith (first_start options) book.births
  -- it is a run of this module with their limit of processes that have not ended, and idle at most as long as they say
  pub run : IsRun (run_setting options module_of_file) book

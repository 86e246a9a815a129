-- What the words ask for, by what was read from them.
use Rattle.std.proofs.Common.{◌≡◌, ℕ, ◌==◌, ◌≤◌, Bool, true, false, cond, List, [], ◌∷◌, length, Option, Some, None, refl, sym, ◌∙◌, ap, subst}
use Rattle.std.specs.Prelude.{IfOk, IfSome, Result, Ok, Err}
use Rattle.std.proofs.lemmas.Bool.{eqb-true}
use Rattle.std.proofs.lemmas.List.Elements.{All-head}
use Rattle.outside.specs.Files.{Contents}
use Rattle.command_words.specs.Meaning.{IsSound, Tells}
use Rattle.command_words.specs.declared.asked.Command.TheVariants as command
use Rattle.command_words.specs.declared.options.Options.{Options}
use Rattle.command_words.specs.declared.words.WordsFault.{WordsFault}
use Rattle.lunatic_cli.specs.declared.words.Asked.{Asked}
use Rattle.lunatic_cli.specs.declared.words.Asked.TheVariants.{Run}
use Rattle.lunatic_cli.specs.Words.{file_of, run_of}
use Rattle.lunatic_cli.specs.Ranges.{IsInRange}
use Rattle.lunatic_cli.specs.File.{TellsUnread}

-- a run of one file by one worker is in its ranges where its files and options are in theirs
pub run_in_range : (names : List (List ℕ)) (options : Options) (read : Result Asked WordsFault) → IsSound (command.Run names options) → Tells (run_of names options) read →
    IfOk read IsInRange
run_in_range names options (Err e) sound told = tt
run_in_range [] options (Ok asked) sound told = absurd (cc)
run_in_range (name ∷ other ∷ names) options (Ok asked) sound told = absurd (cc)
run_in_range (name ∷ []) options (Ok asked) sound told = go (options.workers == 1) refl told
  where
    go : (one : Bool) → (options.workers == 1) ≡ one → cond one (Some (Run name options)) None ≡ Some asked → IsInRange asked
    go false is some = absurd (cc)
    go true is some =
        let same : Run name options ≡ asked = cc in
        subst IsInRange same (All-head (λ name. 1 ≤ length name) name [] sound.0.each, sound.1, record { one_worker = eqb-true options.workers 1 is; idle = sound.1.idle.0 })

-- the words ask for this
pub asked_is : (asked : Option Asked) (read : Result Asked WordsFault) (one other : Asked) → Tells asked read → read ≡ Ok one → one ≡ other → asked ≡ Some other
asked_is asked read one other told is named = let some : asked ≡ Some one = subst (Tells asked) is told in some ∙ ap (λ (a : Asked). Some a) named

-- their file was read as this one says
pub asked_unread : (content : Option Contents) (before now status : ℕ) (asked : Option Asked) (one : Asked) (name : List ℕ) → asked ≡ Some one → name ≡ file_of one →
    TellsUnread content before now name status → IfSome asked (λ a. TellsUnread content before now (file_of a) status)
asked_unread content before now status asked one name e is told =
    subst (λ (o : Option Asked). IfSome o (λ a. TellsUnread content before now (file_of a) status)) (sym e) (subst (λ (n : List ℕ). TellsUnread content before now n status) is told)

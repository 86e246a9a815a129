use Rattle.std.proofs.Common.{◌∙◌, map, string_bytes, sym, ap, subst}
use Rattle.clap.specs.Words.{App, is_simple, matches_of}
use Rattle.clap.specs.Faults.{fault_of, is_simple_and_free}
use Rattle.clap.specs.Kinds.{HasKind}
use Rattle.command_words.specs.Table.{names_in, shown}
use Rattle.command_words.proofs.Rules.{simple_app, simple_and_free}
use Rattle.command_words.proofs.Parses.{all_text, says, says_nothing}
use Rattle.command_words.proofs.split.split.Goals as goal

pub returns-in-Ok-try_get_matches_from : goal.returns-in-Ok-try_get_matches_from
returns-in-Ok-try_get_matches_from c =
    let name = c.args.name.now in
    let ns = names_in (map shown c.args.rows.now) in
    let words = map string_bytes c.args.words.now in
    let is = c.in-Ok.ensures in
    let none = c.in-Ok-try_get_matches_from.ensures.kinds (ap is_simple_and_free is ∙ simple_and_free name ns) in
    let rows = (c.in-Ok-try_get_matches_from.ensures.matches (ap is_simple is ∙ simple_app name ns)).0 in
    says name ns c.requires words (all_text c.args.words.now) c.in-Ok-try_get_matches_from.matches
    (ap (λ (a : App). fault_of a words) (sym is) ∙ none) (rows ∙ ap (λ (a : App). matches_of a words) is)

pub returns-in-Err-try_get_matches_from : goal.returns-in-Err-try_get_matches_from
returns-in-Err-try_get_matches_from c =
    let name = c.args.name.now in
    let ns = names_in (map shown c.args.rows.now) in
    let words = map string_bytes c.args.words.now in
    let is = c.in-Ok.ensures in
    let has = c.in-Err-try_get_matches_from.ensures.kinds (ap is_simple_and_free is ∙ simple_and_free name ns) in
    λ w. says_nothing name ns c.requires words (all_text c.args.words.now) c.in-Err-try_get_matches_from.error (c.fault_of.ensures w)
    (subst (λ (a : App). HasKind (fault_of a words) c.in-Err-try_get_matches_from.error) is has)

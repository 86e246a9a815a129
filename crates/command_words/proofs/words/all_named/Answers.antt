use Rattle.std.proofs.Common.{◌∙◌, sym, rules, tests, Bor, List, ℕ}
use Rattle.std.proofs.lemmas.Iterator.{YieldsList-from_slice}
use Rattle.std.proofs.lemmas.Iterator.Search.{all_from_yields_List}
use Rattle.std.proofs.lemmas.List.Folds.{list_all-map}
use Rattle.command_words.specs.Meaning.{is_name}
use Rattle.command_words.proofs.words.all_named.Goals as goal

pub returns : goal.returns
returns c =
    all_from_yields_List (λ (text : Bor (List ℕ)). is_name text.now) _ _ c.all.result c.all.ensures.ran (YieldsList-from_slice c.args.texts.now cc) (λ x b q k. search (rules, tests))
    ∙ sym (list_all-map is_name (λ (text : Bor (List ℕ)). text.now) c.args.texts.now)

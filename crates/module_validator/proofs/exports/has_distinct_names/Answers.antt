use Rattle.std.proofs.Common.{List, ℕ, ◌∙◌, sym, subst, take}
use Rattle.std.proofs.lemmas.Bool.{not-true, not-false}
use Rattle.module_validator.proofs.Names.{Holds, Apart, names_of, one_more_held, one_more_apart, more_names, name_twice}
use Rattle.module_validator.proofs.exports.has_distinct_names.Goals as goal

pub returns-then-not-branch-clause-no : goal.returns-then-not-branch-clause-no
returns-then-not-branch-clause-no c =
    let key = c.as_str.result in
    let found = not-false _ (sym c.in_ok-insert.ensures.added ∙ c.if-not-branch.true) in
    λ _ apart.
    name_twice c.exports-exports.result.now c.loop-export.export-index c.export-item.result key c.loop-export-test.true c.export-item.is c.as_str.ensures
    c.args.module.now.exports c.exports-exports.ensures ((c.loop-export.invariant.held key).0 found) apart

pub loop-export-preserved : goal.loop-export-preserved
loop-export-preserved c =
    let key = c.as_str.result in
    let old = c.loop-export.names in
    let before = take c.loop-export.export-index (names_of c.exports-exports.result.now) in
    let new = not-true _ (sym c.in_ok-insert.ensures.added ∙ c.if-not-branch.false) in
    let more = more_names c.exports-exports.result.now c.loop-export.export-index c.export-item.result key c.loop-export-test.true c.export-item.is c.as_str.ensures in
    record {
      held = subst (λ (names : List (List ℕ)). Holds c.insert.new.self names) (sym more) (one_more_held old c.insert.new.self before key c.loop-export.invariant.held c.in_ok-insert.ensures.updates);
      apart = subst (λ (names : List (List ℕ)). Apart names) (sym more) (one_more_apart old before key c.loop-export.invariant.held new c.loop-export.invariant.apart);
    }

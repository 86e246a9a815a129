use Rattle.std.proofs.Common.{rules, sym, ap, ◌∙◌, subst}
use Rattle.std.specs.List.{Contains}
use Rattle.log_lock.specs.Words.{EachFrom, IsNewPass, knowledge}
use Rattle.tally_log.specs.Tally.{amounts_of}
use Rattle.tally_log.proofs.Amounts.{amounts_extended, both_contained, contains_own, first_added, new_keeps}
use Rattle.tally_log.proofs.adding.add_in_turn.Goals as goal

pub close-tally-requires-clause-all : goal.close-tally-requires-clause-all
close-tally-requires-clause-all g c κs =
    let each = subst (EachFrom (IsNewPass c.in-Ok.lock c.args.start 2) 0) c.both_passes-one.ensures
    c.in-Ok.ensures.each in
    let one = new_keeps c.add-one.result.1 c.args.start 2 0 _ _ _ each.0.1 c.add-one.ensures.adds in
    let two = new_keeps c.add-two.result.1 c.args.start 2 1 _ _ _ each.1.0.1 c.add-two.ensures.adds in
    let knows = c.join-pass.ensures.knows in
    λ k lt. subst (λ ns. Contains ns k) (sym (ap (λ v. v.numbers) knows))
    (both_contained _ _ _ one.0 two.0 (ap (λ v. v.count) knows ∙ one.1) k lt)

pub returns-then-two_added-clause-first : goal.returns-then-two_added-clause-first
returns-then-two_added-clause-first g c =
    let each = subst (EachFrom (IsNewPass c.in-Ok.lock c.args.start 2) 0) c.both_passes-one.ensures
    c.in-Ok.ensures.each in
    let one = first_added c.add-one.result.1 c.args.start 2 0 _ _ _ (search (rules, c.if-one_added.true)) each.0.1
    c.add-one.ensures.adds in
    ap (amounts_of 0) c.close-tally.ensures.log
    ∙ (amounts_extended 0 (knowledge c.add-one.result.0) _
    (subst (λ ns. Contains ns 0) (sym one.0) (contains_own 0)) c.join-pass.ensures.this ∙ one.2)

pub returns-then-two_added-clause-second : goal.returns-then-two_added-clause-second
returns-then-two_added-clause-second g c =
    let each = subst (EachFrom (IsNewPass c.in-Ok.lock c.args.start 2) 0) c.both_passes-one.ensures
    c.in-Ok.ensures.each in
    let two = first_added c.add-two.result.1 c.args.start 2 1 _ _ _ (search (rules, c.if-two_added.true)) each.1.0.1
    c.add-two.ensures.adds in
    ap (amounts_of 1) c.close-tally.ensures.log
    ∙ (amounts_extended 1 (knowledge c.add-two.result.0) _
    (subst (λ ns. Contains ns 1) (sym two.0) (contains_own 1)) c.join-pass.ensures.that ∙ two.2)

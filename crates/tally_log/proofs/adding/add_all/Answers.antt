use Rattle.std.proofs.Common.{rules, List, ◌++◌, ℕ, ◌∷◌, [], sym, ap, ◌∙◌, arith}
use Rattle.std.proofs.lemmas.List.{take_all}
use Rattle.tally_log.specs.Tally.{amounts_of}
use Rattle.log_lock.specs.declared.knowledge.Knowledge.{Knowledge}
use Rattle.log_lock.specs.Knowledge.{with_seen}
use Rattle.log_lock.specs.Words.{knowledge}
use Rattle.tally_log.specs.declared.tally.Entry.{Entry}
use Rattle.tally_log.proofs.Amounts.{adds_keeps, next_added, none_added}
use Rattle.tally_log.proofs.adding.add_all.Goals as goal

pub returns-then-not-added-clause-adds : goal.returns-then-not-added-clause-adds
returns-then-not-added-clause-adds g c =
    let i = c.loop-count.invariant in
    let number = ap (λ k. k.number) i.1 in (
      c.loop-count.count,
      c.loop-count-test.true,
      none_added c.add-next.result.1 (knowledge c.args.pass).number _ (knowledge c.loop-count.pass)
          (knowledge c.add-next.result.0) (search (rules, c.if-not-added.true)) (i.0.1 ∙ ap (λ n. n ∷ []) number)
          c.add-next.ensures.adds ∙ i.3,
    )

pub loop-count-preserved : goal.loop-count-preserved
loop-count-preserved g c =
    let i = c.loop-count.invariant in
    let number = ap (λ k. k.number) i.1 in
    let kept = adds_keeps _ _ (knowledge c.loop-count.pass) (knowledge c.add-next.result.0) c.add-next.ensures.adds in (
      (c.add-next.ensures.lock, ap (λ k. k.numbers) kept ∙ (i.0.1 ∙ ap (λ k. k.number ∷ []) (sym kept))),
      kept ∙ ap (λ (k : Knowledge Entry ℕ). with_seen (knowledge c.add-next.result.0).seen k) i.1,
      omega (arith, c.loop-count-test.true),
      next_added c.add-next.result.1 (knowledge c.args.pass).number c.args.amounts.now c.loop-count.count _
          (knowledge c.args.pass) (knowledge c.loop-count.pass) (knowledge c.add-next.result.0)
          (search (rules, c.if-not-added.false)) c.loop-count-test.true (i.0.1 ∙ ap (λ n. n ∷ []) number) number i.3
          c.add-next.ensures.adds,
    )

pub returns-clause-adds : goal.returns-clause-adds
returns-clause-adds g c =
    let k = knowledge c.args.pass in
    c.loop-count.invariant.3 ∙ ap (λ (l : List ℕ). amounts_of k.number k.seen ++ l)
    (take_all c.loop-count.count c.args.amounts.now (omega (arith, c.loop-count-test.false)))

use Rattle.std.proofs.Common.{rules, ◌≡◌, ◌-◌, ◌<◌, length, reverse, sym, ap, ◌∙◌, subst, arith}
use Rattle.log_lock.specs.declared.pass.Pass.{Pass}
use Rattle.log_lock.proofs.SplitViews.{without_last_is, last_alone_is, each_push, with_numbers}
use Rattle.log_lock.specs.Knowledge.{numbers_below}
use Rattle.log_lock.specs.Steps.{alone}
use Rattle.log_lock.specs.Words.{EachFrom}
use Rattle.log_lock.proofs.PassSteps.{splits}
use Rattle.log_lock.proofs.pass.LogLock.split.Goals as goal

pub split_seat-other-requires : goal.split_seat-other-requires
split_seat-other-requires g c =
    let is = c.loop-k.invariant.4 in
    let first = c.requires.seat.2 in
    (search rules, search rules, splits _ _ _ _ _ _ c.loop-k.k _ (ap (λ v. v.turn) is ∙ first.0) (ap (λ v. v.knows.number) is ∙ first.1) (ap (λ v. v.knows.numbers) is) (search rules))

pub at-requires-after_bounds : goal.at-requires-after_bounds
at-requires-after_bounds g c κs within =
    let v0 = c.args.seat.me.0 in
    let told = c.split_seat-other.ensures.4 in
    let is = ap (λ m. m.0) told ∙ last_alone_is v0 c.loop-k.seat.me.0 c.loop-k.k c.loop-k.invariant.4 in
    (ap (λ m. m.1) told, ap (λ v. v.turn) is ∙ c.requires.seat.2.0, ap (λ v. v.knows.number) is, subst (λ ns. 0 < length ns) (sym (ap (λ v. v.knows.numbers) is)) (omega arith))

pub loop-k-preserved : goal.loop-k-preserved
loop-k-preserved g c =
    let v0 = c.args.seat.me.0 in
    let e = c.split_seat-other.ensures in
    let i = c.loop-k.invariant in (
      omega (arith, c.loop-k-test.true),
      omega (arith, i.1),
      search rules,
      search rules,
      ap (λ m. m.0) e.2 ∙ without_last_is v0 c.loop-k.seat.me.0 c.loop-k.k i.4,
      search rules,
      search rules,
      subst (λ xs. EachFrom (λ k p. (p.seat.table_id ≡ c.args.seat.table_id) × (p.seat.me.0 ≡ alone k v0)) (c.loop-k.k - 1) (reverse xs)) (sym c.push_reserved.ensures.items)
          (each_push {A = Pass g.row.V.Denot g.row.V-Item.Denot g.row.V-Base.Denot g.V.Logged} (λ k p. (p.seat.table_id ≡ c.args.seat.table_id) × (p.seat.me.0 ≡ alone k v0)) (c.loop-k.k - 1) c.loop-k.k c.at.result c.loop-k.list.items (omega (arith, c.loop-k-test.true))
          (ap (λ s. s.table_id) c.at.ensures ∙ (e.3 ∙ i.2), ap (λ s. s.me.0) c.at.ensures ∙ (ap (λ m. m.0) e.4 ∙ last_alone_is v0 c.loop-k.seat.me.0 c.loop-k.k i.4)) i.7),
    )

pub returns-clause-each : goal.returns-clause-each
returns-clause-each g c =
    let v0 = c.args.seat.me.0 in
    let i = c.loop-k.invariant in
    let one : c.loop-k.k ≡ 1 = omega (arith, c.loop-k-test.false, i.0) in
    let is = i.4 ∙ ap (λ k. with_numbers (numbers_below k) v0) one in
    subst (λ xs. EachFrom (λ k p. (p.seat.table_id ≡ c.args.seat.table_id) × (p.seat.me.0 ≡ alone k v0)) 0 (reverse xs)) (sym c.push_reserved-2.ensures.items)
    (each_push {A = Pass g.row.V.Denot g.row.V-Item.Denot g.row.V-Base.Denot g.V.Logged} (λ k p. (p.seat.table_id ≡ c.args.seat.table_id) × (p.seat.me.0 ≡ alone k v0)) 0 c.loop-k.k c.at-2.result c.loop-k.list.items (sym one)
    (ap (λ s. s.table_id) c.at-2.ensures ∙ i.2, ap (λ s. s.me.0) c.at-2.ensures ∙ (is ∙ ap (λ z. let w = alone 0 v0 in record w { knows = record w.knows { number = z } }) c.requires.seat.2.1)) i.7)

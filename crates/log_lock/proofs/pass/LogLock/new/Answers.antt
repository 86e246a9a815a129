use Rattle.std.proofs.Common.{◌≡◌, List, [], ◌∷◌, reverse, sym, ap, ◌∙◌, subst, Option}
use Rattle.atomic_table.specs.Table.{opening}
use Rattle.log_lock.specs.declared.pass.Pass.{Pass}
use Rattle.log_lock.proofs.SplitViews.{each_weaker}
use Rattle.log_lock.specs.Knowledge.{first_knowledge}
use Rattle.log_lock.specs.Rule.{first_view, IsKept}
use Rattle.log_lock.specs.Steps.{alone}
use Rattle.log_lock.proofs.PassSteps.{opens}
use Rattle.log_lock.proofs.pass.LogLock.new.Goals as goal

pub new-requires : goal.new-requires
new-requires g c =
    let l = g.V.Logged in
    let n = c.args.n in
    subst (λ (z : g.row.V.Denot × List (Option g.row.V.Denot)). IsKept l.entries l.maker l.base (l.base z.0) n (opening (0 ∷ 0 ∷ []) z.1 (first_view (l.base z.0) n)))
    (λ i. (sym c.of.ensures i, sym c.in-Ok-slot_with.ensures.ok i))
    (opens l.entries l.maker l.base c.args.value n c.requires.empty c.requires.count.0 c.requires.count.1)

pub returns-in-Ok-new-clause-each : goal.returns-in-Ok-new-clause-each
returns-in-Ok-new-clause-each g c =
    let l = g.V.Logged in
    let n = c.args.n in
    let made = c.in-Ok-new.ensures.ok in
    let lock = ap (λ t. t.shared.table_id) c.over-lock.ensures in
    each_weaker {A = Pass g.row.V.Denot g.row.V-Item.Denot g.row.V-Base.Denot g.V.Logged}
    (λ k p. (p.seat.table_id ≡ c.in-Ok-new.seat.table_id) × (p.seat.me.0 ≡ alone k c.in-Ok-new.seat.me.0))
    (λ k p. (p.seat.table_id ≡ c.over-lock.result.table.shared.table_id) × (p.seat.me.0.knows ≡ first_knowledge (l.base c.args.value) n k))
    (λ k p h. (h.0 ∙ (made.2 ∙ sym lock), ap (λ v. v.knows) h.1 ∙ (ap (λ m. (alone k m.0).knows) made.4 ∙ ap (λ v. first_knowledge (l.base v) n k) c.of.ensures)))
    0 (reverse c.split-rest.result.items) c.split-rest.ensures.each

use Rattle.std.proofs.Common.{rules, sym, ap, ◌∙◌, subst, ◌∷◌, Some}
use Rattle.atomic_table.specs.Table.{rest}
use Rattle.log_lock.specs.Knowledge.{ExtendsByOthers}
use Rattle.log_lock.proofs.QueueSteps.{draws, hand_same}
use Rattle.log_lock.proofs.pass.LogLock.enter.Goals as goal

pub fetch_add-ticket-requires : goal.fetch_add-ticket-requires
fetch_add-ticket-requires g c = (search rules, search rules, draws _ _ _ _ _ _ _ _ (search rules) (search rules))

pub exchange-taken-requires : goal.exchange-taken-requires
exchange-taken-requires g c =
    let s = c.wait_for_turn.ensures.taken in
    let e = ap (λ m. m.1) s.1 in
    (search rules, (Some s.0, e ∙ ap (λ r. (0, Some s.0) ∷ r) (sym (ap rest e))))

pub returns-clause-log : goal.returns-clause-log
returns-clause-log g c =
    let s = c.wait_for_turn.ensures.taken in
    let same = hand_same s.0 c.in-Some.value _ _ (sym (ap (λ m. m.1) s.1) ∙ (c.exchange-taken.ensures.2 ∙ ap (λ o. (0, o) ∷ rest c.wait_for_turn.new.seat.me.1) c.in-Some.is)) in
    let view = ap (λ m. m.0) c.fetch_add-ticket.ensures.2.2 in
    subst (λ v. ExtendsByOthers g.V.Logged.maker c.args.pass.seat.me.0.knows (g.V.Logged.entries v)) same
    (subst (λ v. ExtendsByOthers g.V.Logged.maker v.knows (g.V.Logged.entries s.0)) view s.2)

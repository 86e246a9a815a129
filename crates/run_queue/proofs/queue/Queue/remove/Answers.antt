use Rattle.std.proofs.Common.{ℕ, not, eqb, ap, ◌∙◌, rules}
use Rattle.std.proofs.lemmas.Fn.{filter_same}
use Rattle.run_queue.specs.Schedule.{without}
use Rattle.run_queue.proofs.queue.Queue.remove.Goals as goal

pub returns-clause-ready : goal.returns-clause-ready
returns-clause-ready c =
    filter_same _ (λ (other : ℕ). not (eqb other c.args.pid)) _ (λ x b f' k. search rules) c.self.inside.ready.items
    c.retain.new.self.items c.retain.ensures.filtered
    ∙ ap (λ schedule. without schedule.ready c.args.pid) c.self.view_is

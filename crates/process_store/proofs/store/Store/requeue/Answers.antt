use Rattle.std.proofs.Common.{◌≡◌, ◌++◌, ◌∙◌, None, refl, ap, sym, vec_capacity}
use Rattle.std.specs.Option.{option_to_list}
use Rattle.process_store.proofs.Requeueing.{requeue_keeps, requeue_queues}
use Rattle.process_store.proofs.store.Store.requeue.Goals as goal

pub returns-clause-keeps : goal.returns-clause-keeps
returns-clause-keeps g c =
    let old = c.args.self.now in
    let s = record old { queue = c.push_last.new.queue; came = c.clear.new.self; giver = None } in
    requeue_keeps old s c.sort_unstable.new.self.items c.requires.keeps c.sort_unstable.ensures.permutation
    (c.push_last.ensures.ready ∙ ap (λ xs. xs ++ option_to_list old.giver) (c.push_all.ensures.ready ∙ ap (λ xs. old.queue.ready ++ xs) c.deref.ensures.value))
    c.clear.ensures.items refl (c.push_last.ensures.room ∙ c.push_all.ensures.room) (c.clear.ensures.capacity ∙ c.sort_unstable.ensures.capacity)
    (c.push_last.ensures.deadlines ∙ c.push_all.ensures.deadlines)

pub returns-clause-ready : goal.returns-clause-ready
returns-clause-ready g c =
    let old = c.args.self.now in
    let s = record old { queue = c.push_last.new.queue; came = c.clear.new.self; giver = None } in
    requeue_queues old s c.sort_unstable.new.self.items c.requires.keeps c.sort_unstable.ensures.permutation c.sort_unstable.ensures.sorted
    (c.push_last.ensures.ready ∙ ap (λ xs. xs ++ option_to_list old.giver) (c.push_all.ensures.ready ∙ ap (λ xs. old.queue.ready ++ xs) c.deref.ensures.value))

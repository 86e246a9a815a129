use Rattle.std.proofs.Common.{rules, ◌≡◌, ◌<◌, length, get_or, ap}
use Rattle.host_calls.specs.Listening.{Bound}
use Rattle.host_calls.proofs.ListenersKept.{numbers_set}
use Rattle.host_calls.proofs.listeners.accept_at.Goals as goal

pub returns-clause-numbers : goal.returns-clause-numbers
returns-clause-numbers g c =
    let items = c.args.bound.now.items in
    let before = c.index_mut.result.now in
    let read : before ≡ get_or items c.args.place before = search rules in
    let lt : c.args.place < length items = search rules in
    numbers_set items c.args.place _ before lt (ap (λ (b : Bound _). b.number) c.behind-bound.view_is) read

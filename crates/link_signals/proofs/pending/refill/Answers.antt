use Rattle.std.proofs.Common.{◌≡◌, ◌+◌, List, ◌++◌, length, ap, sym, ◌∙◌, arith, rules}
use Rattle.std.specs.Ordering.{nat_cmp}
use Rattle.std.specs.FinMap.{from_entries}
use Rattle.std.proofs.lemmas.Bool.Decides.{nat_tests}
use Rattle.link_signals.specs.declared.signal.Signal.{Signal}
use Rattle.link_signals.specs.Links.{pair_cmp}
use Rattle.link_signals.specs.Fall.{signals_left, members_of}
use Rattle.link_signals.proofs.Signals.{left_more, left_none, no_signals}
use Rattle.link_signals.proofs.pending.refill.Goals as goal

pub loop-first-preserved : goal.loop-first-preserved
loop-first-preserved c =
    let more = left_more (from_entries {R = nat_cmp} c.args.processes.now.entries) (from_entries {R = pair_cmp} c.args.tags.now.entries) (members_of c.args.first c.args.others.now) c.loop-first.next c.in-Some.member (sym c.in-Some.ensures) in
    let long : length c.loop-first.pending.items ≡ 0 = search (rules, nat_tests) in
    let none = no_signals c.loop-first.pending.items long in (
      ap (λ (xs : List Signal). xs ++ signals_left (from_entries {R = nat_cmp} c.args.processes.now.entries) (from_entries {R = pair_cmp} c.args.tags.now.entries) (members_of c.args.first c.args.others.now) (c.loop-first.next + 1)) c.fill.ensures.signals
          ∙ sym more.1
          ∙ ap (λ (xs : List Signal). xs ++ signals_left (from_entries {R = nat_cmp} c.args.processes.now.entries) (from_entries {R = pair_cmp} c.args.tags.now.entries) (members_of c.args.first c.args.others.now) c.loop-first.next) (sym none)
          ∙ c.loop-first.invariant.0,
      omega (arith, c.loop-first.invariant.1, c.fill.ensures.capacity),
      omega (arith, c.loop-first.invariant.2, c.fill.ensures.capacity),
    )

pub returns-in-None-clause-filled : goal.returns-in-None-clause-filled
returns-in-None-clause-filled c =
    λ _. left_none (from_entries {R = nat_cmp} c.args.processes.now.entries) (from_entries {R = pair_cmp} c.args.tags.now.entries) (members_of c.args.first c.args.others.now) c.loop-first.next (sym c.in-None.ensures)

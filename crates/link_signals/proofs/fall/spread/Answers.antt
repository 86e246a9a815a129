use Rattle.std.proofs.Common.{length, nat_cmp, ap, sym, ◌∙◌, subst, arith}
use Rattle.std.specs.FinMap.{from_entries}
use Rattle.std.proofs.lemmas.List.{length_push}
use Rattle.link_signals.specs.Links.{pair_cmp}
use Rattle.link_signals.proofs.Spread.{Grown, alone, grows, room_for_one, settles}
use Rattle.link_signals.proofs.fall.spread.Goals as goal

pub loop-pid-init : goal.loop-pid-init
loop-pid-init c =
    let processes = from_entries {R = nat_cmp} c.args.processes.now.entries in
    let tags = from_entries {R = pair_cmp} c.args.tags.now.entries in
    record {
      grown = subst (Grown processes tags c.args.first) (sym c.clear.ensures.items) (alone processes tags c.args.first);
      capacity = omega (arith, c.clear.ensures.capacity);
    }

pub loop-pid-smaller : goal.loop-pid-smaller
loop-pid-smaller c =
    let room = room_for_one c.args.processes.now (from_entries {R = pair_cmp} c.args.tags.now.entries) c.args.first c.loop-pid.others.items c.deref.result.now c.in-Some.pid
    c.deref.ensures.value c.loop-pid.invariant.grown c.in-Some.ensures in
    let longer = ap length c.in-Ok.ensures.items ∙ length_push c.loop-pid.others.items c.in-Some.pid in
    omega arith

pub loop-pid-preserved : goal.loop-pid-preserved
loop-pid-preserved c =
    let processes = from_entries {R = nat_cmp} c.args.processes.now.entries in
    let tags = from_entries {R = pair_cmp} c.args.tags.now.entries in
    record {
      grown = subst (Grown processes tags c.args.first) (sym c.in-Ok.ensures.items)
          (grows processes tags c.args.first c.loop-pid.others.items c.deref.result.now c.in-Some.pid c.deref.ensures.value c.loop-pid.invariant.grown c.in-Some.ensures);
      capacity = omega (arith, c.push.ensures.capacity, c.loop-pid.invariant.capacity);
    }

pub unreachable-requires : goal.unreachable-requires
unreachable-requires c =
    let room = room_for_one c.args.processes.now (from_entries {R = pair_cmp} c.args.tags.now.entries) c.args.first c.loop-pid.others.items c.deref.result.now c.in-Some.pid
    c.deref.ensures.value c.loop-pid.invariant.grown c.in-Some.ensures in
    omega (arith, c.in-Err.ensures.full, c.requires, c.loop-pid.invariant.capacity)

pub returns-clause-fall : goal.returns-clause-fall
returns-clause-fall c =
    settles (from_entries {R = nat_cmp} c.args.processes.now.entries) (from_entries {R = pair_cmp} c.args.tags.now.entries) c.args.first
    c.loop-pid.others.items c.deref.result.now c.sort_unstable.new.self.items c.deref.ensures.value c.loop-pid.invariant.grown (λ pid next. c.in_default.ensures pid next)
    c.sort_unstable.ensures.permutation c.sort_unstable.ensures.sorted

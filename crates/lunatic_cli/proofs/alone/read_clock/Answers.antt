use Rattle.std.proofs.Common.{[], ◌∷◌, rules, refl, sym, append-nil, arith}
use Rattle.world_rules.specs.declared.entry.Entry.TheVariants.{Tick}
use Rattle.process_table.specs.Seen.{world_of, setting_of}
use Rattle.process_table.specs.Takes.{IsTimed}
use Rattle.lunatic_cli.specs.Causes.{failures_by, waits_by}
use Rattle.lunatic_cli.specs.Times.{times_of}
use Rattle.lunatic_cli.proofs.Clocks.{between-none, between-tick, times-one}
use Rattle.lunatic_cli.proofs.Causing.{counted-more}
use Rattle.lunatic_cli.proofs.Entered.{takes-none}
use Rattle.lunatic_cli.proofs.Steps.{awake-read, awake-unread}
use Rattle.lunatic_cli.proofs.Rounds.{timed-going}
use Rattle.lunatic_cli.proofs.Ticking.{has-read, not-read}
use Rattle.lunatic_cli.proofs.alone.read_clock.Goals as goal

-- nobody waits with a deadline

pub returns-then-not-timed-clause-awake : goal.returns-then-not-timed-clause-awake
returns-then-not-timed-clause-awake g c = awake-unread g.E.Engine.begin g.E.Engine.at c.args.node.now c.requires.rest

pub returns-then-not-timed-clause-read : goal.returns-then-not-timed-clause-read
returns-then-not-timed-clause-read g c = not-read g.E.Engine.begin g.E.Engine.at c.args.node.now (λ timed. let yes = c.timed.ensures.1 timed in absurd (cc))

pub returns-then-not-timed-clause-times : goal.returns-then-not-timed-clause-times
returns-then-not-timed-clause-times g c = ([], sym (append-nil (times_of c.args.node.now.book.entries)), between-none _ _)

-- process 1 does

pub tick-requires-clause-going : goal.tick-requires-clause-going
tick-requires-clause-going g c κs within =
    let timed : IsTimed (world_of c.args.node.now) = search rules in
    timed-going (setting_of g.E.Engine.begin g.E.Engine.at c.args.node.now) c.args.node.now.book.births (world_of c.args.node.now) c.args.node.now.book.entries (world_of c.args.node.now).over refl
    c.requires.rest timed

pub returns-clause-awake : goal.returns-clause-awake
returns-clause-awake g c =
    let timed : IsTimed (world_of c.args.node.now) = search rules in
    let going = timed-going (setting_of g.E.Engine.begin g.E.Engine.at c.args.node.now) c.args.node.now.book.births (world_of c.args.node.now) c.args.node.now.book.entries (world_of
    c.args.node.now).over refl c.requires.rest timed in
    awake-read g.E.Engine.begin g.E.Engine.at c.args.node.now c.tick.new.self _ c.tick.ensures.same c.tick.ensures.ticks going timed c.requires.rest

pub returns-clause-read : goal.returns-clause-read
returns-clause-read g c =
    let timed : IsTimed (world_of c.args.node.now) = search rules in
    has-read g.E.Engine.begin g.E.Engine.at c.args.node.now c.tick.new.self _ c.tick.ensures.ticks c.requires.rest timed

pub returns-clause-times : goal.returns-clause-times
returns-clause-times g c =
    let ticks = c.tick.ensures.ticks in
    (ticks.now ∷ [], times-one c.args.node.now.book.entries c.tick.new.self.book.entries (Tick 0 ticks.now) ticks.recorded.entries, between-tick _ ticks.now ticks.told)

pub returns-clause-takes : goal.returns-clause-takes
returns-clause-takes g c = takes-none c.args.node.now.book.entries c.tick.new.self.book.entries (Tick 0 c.tick.ensures.ticks.now ∷ []) c.tick.ensures.ticks.recorded.entries refl

pub returns-clause-failures : goal.returns-clause-failures
returns-clause-failures g c =
    let ticks = c.tick.ensures.ticks in
    let more = counted-more failures_by c.args.node.now.book c.tick.new.self.book (Tick 0 ticks.now) ticks.recorded.births ticks.recorded.entries in
    omega (arith, more)

pub returns-clause-waits : goal.returns-clause-waits
returns-clause-waits g c =
    let ticks = c.tick.ensures.ticks in
    let more = counted-more waits_by c.args.node.now.book c.tick.new.self.book (Tick 0 ticks.now) ticks.recorded.births ticks.recorded.entries in
    omega (arith, more)

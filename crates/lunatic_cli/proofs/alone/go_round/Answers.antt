use Rattle.std.proofs.Common.{◌≡◌, ◌++◌, [], ℕ, List, Option, Bool, cond, option_map, refl, sym, ap, ◌∙◌, subst, arith, append-nil, inl, inr}
use Rattle.host_port.specs.declared.request.Request.{Request}
use Rattle.host_port.specs.declared.start.Start.{Start}
use Rattle.host_port.specs.Areas.{request_of}
use Rattle.world_rules.specs.declared.entry.Entry.{Entry}
use Rattle.world_rules.specs.declared.entry.Entry.TheVariants.{Take, Give, Starve}
use Rattle.world_rules.specs.Views.{deed_of, want_of, wanted_in, is_pending}
use Rattle.node_state.specs.Seats.{meaning}
use Rattle.host_calls.specs.Outsides.{failures_in, waits_in}
use Rattle.host_calls.specs.Shown.{seat_of, brought_in, streams_in, hands_of}
use Rattle.process_table.specs.Seen.{world_of}
use Rattle.lunatic_cli.specs.Quiet.{quiet_in}
use Rattle.lunatic_cli.specs.Times.{times_of, time_beside, AreBetween}
use Rattle.lunatic_cli.specs.Entering.{taken_by, takes_of, EntersAll}
use Rattle.lunatic_cli.proofs.Clocks.{between-none, between-given, between-both, between-same, not-back-refl, not-back-same, not-back-then, times-ended, times-none, times-round, times-both}
use Rattle.lunatic_cli.proofs.Entered.{enters-none, takes-ended, takes-none, takes-round}
use Rattle.lunatic_cli.proofs.Steps.{rest-reserved, left-reserved, rest-starved, entries-starved, rest-nothing, rest-stuck, entries-stuck, way-is, fits-given, streams-given}
use Rattle.lunatic_cli.proofs.Steps.{rest-round, gone-round, recorded-pends, recorded-fails, recorded-waits}
use Rattle.lunatic_cli.proofs.Steps.{fewer-proc, fewer-nothing, same-then}
use Rattle.lunatic_cli.proofs.Ticking.{quiet-kept, quiet-starved, quiet-stuck, quiet-other, quiet-more, more-quiet, front-some, one-or-none, rested-one}
use Rattle.lunatic_cli.specs.Causes.{failures_by, waits_by}
use Rattle.lunatic_cli.proofs.Causing.{counted-same, counted-other, counted-more, counted-starved, counted-stuck}
use Rattle.lunatic_cli.proofs.alone.go_round.Goals as goal

-- no memory for a round

pub returns-then-is_err-clause-rest : goal.returns-then-is_err-clause-rest
returns-then-is_err-clause-rest g c =
    let reserved = c.reserve_turn.ensures in
    let rest = rest-reserved g.E.Engine.begin g.E.Engine.at c.args.node.now c.reserve_turn.new.self reserved.same reserved.kept c.requires in
    rest-starved g.E.Engine.begin g.E.Engine.at c.reserve_turn.new.self c.starve.new.self (world_of c.reserve_turn.new.self).over refl c.starve.ensures.same c.starve.ensures.over
    c.starve.ensures.recorded rest

pub returns-then-is_err-clause-times : goal.returns-then-is_err-clause-times
returns-then-is_err-clause-times g c =
    let more = entries-starved c.reserve_turn.new.self c.starve.new.self (world_of c.reserve_turn.new.self).over refl c.starve.ensures.over c.starve.ensures.recorded in (
      [],
      times-ended c.args.node.now.book.entries c.reserve_turn.new.self.book.entries c.starve.new.self.book.entries more.0 (Starve 0) c.reserve_turn.ensures.kept.entries more.1 more.2
          refl,
      between-none _ _,
    )

pub returns-then-is_err-clause-entered : goal.returns-then-is_err-clause-entered
returns-then-is_err-clause-entered g c =
    let more = entries-starved c.reserve_turn.new.self c.starve.new.self (world_of c.reserve_turn.new.self).over refl c.starve.ensures.over c.starve.ensures.recorded in (
      [],
      takes-ended c.args.node.now.book.entries c.reserve_turn.new.self.book.entries c.starve.new.self.book.entries more.0 (Starve 0) c.reserve_turn.ensures.kept.entries more.1 more.2
          refl,
      enters-none _,
    )

pub returns-then-is_err-clause-rested : goal.returns-then-is_err-clause-rested
returns-then-is_err-clause-rested g c =
    let same = quiet-starved c.args.node.now c.reserve_turn.new.self c.starve.new.self (world_of c.reserve_turn.new.self).over refl c.reserve_turn.ensures.kept c.starve.ensures.over
    c.starve.ensures.recorded in
    (0, omega (arith, same), omega arith, λ e. absurd (cc))

pub returns-then-is_err-clause-failed : goal.returns-then-is_err-clause-failed
returns-then-is_err-clause-failed g c =
    let same = counted-starved failures_by c.args.node.now c.reserve_turn.new.self c.starve.new.self (world_of c.reserve_turn.new.self).over refl refl c.reserve_turn.ensures.kept
    c.starve.ensures.over c.starve.ensures.recorded in
    omega (arith, same)

pub returns-then-is_err-clause-waited : goal.returns-then-is_err-clause-waited
returns-then-is_err-clause-waited g c =
    let same = counted-starved waits_by c.args.node.now c.reserve_turn.new.self c.starve.new.self (world_of c.reserve_turn.new.self).over refl refl c.reserve_turn.ensures.kept
    c.starve.ensures.over c.starve.ensures.recorded in
    omega (arith, same)

-- the clock is read

pub read_clock-requires-clause-rest : goal.read_clock-requires-clause-rest
read_clock-requires-clause-rest g c κs within =
    let reserved = c.reserve_turn.ensures in
    rest-reserved g.E.Engine.begin g.E.Engine.at c.args.node.now c.reserve_turn.new.self reserved.same reserved.kept c.requires

-- the run is over

pub returns-in-Over-clause-rest : goal.returns-in-Over-clause-rest
returns-in-Over-clause-rest g c =
    rest-stuck g.E.Engine.begin g.E.Engine.at c.read_clock.new.node c.take.new.self (world_of c.read_clock.new.node).over refl c.take.ensures.same c.in-Over.ensures.taken c.read_clock.ensures.awake

pub returns-in-Over-clause-times : goal.returns-in-Over-clause-times
returns-in-Over-clause-times g c =
    let read = c.read_clock.ensures in
    let more = entries-stuck c.read_clock.new.node c.take.new.self (world_of c.read_clock.new.node).over refl c.in-Over.ensures.taken in
    let none : times_of c.take.new.self.book.entries ≡ times_of c.read_clock.new.node.book.entries =
    times-none c.read_clock.new.node.book.entries c.take.new.self.book.entries more.0 more.1 (elim more.2 as (λ _. times_of more.0 ≡ []) [
      | inl e ↦ ap times_of e
      | inr one ↦ elim one as (λ _. times_of more.0 ≡ []) [ inl e ↦ ap times_of e | inr e ↦ ap times_of e ]
    ]) in (
      read.times.0,
      none ∙ read.times.1 ∙ ap (λ (es : List Entry). times_of es ++ read.times.0) c.reserve_turn.ensures.kept.entries,
      between-same _ _ _ read.times.0 read.outside.clock (not-back-refl _) read.times.2,
    )

pub returns-in-Over-clause-entered : goal.returns-in-Over-clause-entered
returns-in-Over-clause-entered g c =
    let read = c.read_clock.ensures in
    let more = entries-stuck c.read_clock.new.node c.take.new.self (world_of c.read_clock.new.node).over refl c.in-Over.ensures.taken in
    let none : takes_of c.take.new.self.book.entries ≡ takes_of c.read_clock.new.node.book.entries =
    takes-none c.read_clock.new.node.book.entries c.take.new.self.book.entries more.0 more.1 (elim more.2 as (λ _. takes_of more.0 ≡ []) [
      | inl e ↦ ap takes_of e
      | inr one ↦ elim one as (λ _. takes_of more.0 ≡ []) [ inl e ↦ ap takes_of e | inr e ↦ ap takes_of e ]
    ]) in (
      [],
      none ∙ read.takes ∙ ap takes_of c.reserve_turn.ensures.kept.entries ∙ sym (append-nil (takes_of c.args.node.now.book.entries)),
      subst (λ (told : Option (List ℕ)). EntersAll (g.O.Outside.entered c.args.outside.now) told []) (sym read.entered) (enters-none _),
    )

pub returns-in-Over-clause-clock : goal.returns-in-Over-clause-clock
returns-in-Over-clause-clock g c = not-back-same _ _ c.read_clock.ensures.outside.clock

pub returns-in-Over-clause-rested : goal.returns-in-Over-clause-rested
returns-in-Over-clause-rested g c =
    let read = c.read_clock.ensures.read in
    let kept = quiet-kept c.args.node.now.book c.reserve_turn.new.self.book c.reserve_turn.ensures.kept.births c.reserve_turn.ensures.kept.entries in
    let same = quiet-stuck c.read_clock.new.node c.take.new.self (world_of c.read_clock.new.node).over refl c.in-Over.ensures.taken in
    let n = more-quiet (quiet_in c.args.node.now.book) (quiet_in c.reserve_turn.new.self.book) (quiet_in c.read_clock.new.node.book) (quiet_in c.take.new.self.book) kept same read.no_fewer
    read.one_more in
    (n.0, n.1, n.2, λ e. absurd (cc))

pub returns-in-Over-clause-failed : goal.returns-in-Over-clause-failed
returns-in-Over-clause-failed g c =
    let kept = counted-same failures_by c.args.node.now.book c.reserve_turn.new.self.book c.reserve_turn.ensures.kept.births c.reserve_turn.ensures.kept.entries in
    let same = counted-stuck failures_by c.read_clock.new.node c.take.new.self (world_of c.read_clock.new.node).over refl refl refl c.in-Over.ensures.taken in
    let read = c.read_clock.ensures.failures in
    let outside = c.read_clock.ensures.outside.faults in
    omega (arith, kept, same, read, outside)

pub returns-in-Over-clause-waited : goal.returns-in-Over-clause-waited
returns-in-Over-clause-waited g c =
    let kept = counted-same waits_by c.args.node.now.book c.reserve_turn.new.self.book c.reserve_turn.ensures.kept.births c.reserve_turn.ensures.kept.entries in
    let same = counted-stuck waits_by c.read_clock.new.node c.take.new.self (world_of c.read_clock.new.node).over refl refl refl c.in-Over.ensures.taken in
    let read = c.read_clock.ensures.waits in
    let outside = c.read_clock.ensures.outside.waits in
    omega (arith, kept, same, read, outside)

-- nothing is ready

pub returns-in-Nothing-clause-rest : goal.returns-in-Nothing-clause-rest
returns-in-Nothing-clause-rest g c =
    rest-nothing g.E.Engine.begin g.E.Engine.at c.read_clock.new.node c.take.new.self c.take.ensures.same c.in-Nothing.ensures.taken c.read_clock.ensures.awake

pub returns-in-Nothing-clause-fewer : goal.returns-in-Nothing-clause-fewer
returns-in-Nothing-clause-fewer g c _ =
    let reserved = c.reserve_turn.ensures in
    let left = left-reserved g.E.Engine.begin g.E.Engine.at c.args.node.now c.reserve_turn.new.self reserved.same reserved.kept in
    let fewer = fewer-nothing g.E.Engine.begin g.E.Engine.at c.reserve_turn.new.self c.read_clock.new.node c.take.new.self _ _ c.read_clock.ensures.same c.take.ensures.same c.read_clock.ensures.read
    c.read_clock.ensures.awake c.in-Nothing.ensures.taken in
    omega (arith, left, fewer)

pub returns-in-Nothing-clause-times : goal.returns-in-Nothing-clause-times
returns-in-Nothing-clause-times g c =
    let read = c.read_clock.ensures in (
      read.times.0,
      ap (λ book. times_of book.entries) c.in-Nothing.ensures.taken.same ∙ read.times.1 ∙ ap (λ (es : List Entry). times_of es ++ read.times.0) c.reserve_turn.ensures.kept.entries,
      between-same _ _ _ read.times.0 read.outside.clock c.rest.ensures.clock read.times.2,
    )

pub returns-in-Nothing-clause-entered : goal.returns-in-Nothing-clause-entered
returns-in-Nothing-clause-entered g c =
    let read = c.read_clock.ensures in (
      [],
      ap (λ book. takes_of book.entries) c.in-Nothing.ensures.taken.same ∙ read.takes ∙ ap takes_of c.reserve_turn.ensures.kept.entries ∙ sym (append-nil (takes_of c.args.node.now.book.entries)),
      subst (λ (told : Option (List ℕ)). EntersAll (g.O.Outside.entered c.args.outside.now) told []) (sym (c.rest.ensures.entered ∙ read.entered)) (enters-none _),
    )

pub returns-in-Nothing-clause-clock : goal.returns-in-Nothing-clause-clock
returns-in-Nothing-clause-clock g c = not-back-then _ _ _ (not-back-same _ _ c.read_clock.ensures.outside.clock) c.rest.ensures.clock

pub returns-in-Nothing-clause-rested : goal.returns-in-Nothing-clause-rested
returns-in-Nothing-clause-rested g c =
    let read = c.read_clock.ensures.read in
    let kept = quiet-kept c.args.node.now.book c.reserve_turn.new.self.book c.reserve_turn.ensures.kept.births c.reserve_turn.ensures.kept.entries in
    let n = more-quiet (quiet_in c.args.node.now.book) (quiet_in c.reserve_turn.new.self.book) (quiet_in c.read_clock.new.node.book) (quiet_in c.take.new.self.book) kept (ap quiet_in
    c.in-Nothing.ensures.taken.same) read.no_fewer read.one_more in
    (n.0, n.1, n.2, λ _. rested-one _ _ _ n.0 n.2 c.read_clock.ensures.outside.rests c.rest.ensures.rests)

-- a turn

pub turn-turn-requires-clause-way : goal.turn-turn-requires-clause-way
turn-turn-requires-clause-way g c κs within =
    way-is (meaning g.E.Engine.stands g.E.Engine.phase g.E.Engine.memory) g.E.Engine.begin g.E.Engine.at g.E.Engine.may_ask c.read_clock.new.node c.take.new.self (seat_of c.in-Proc.proc)
    c.take.ensures.same c.read_clock.ensures.awake c.in-Proc.ensures.taken.0

pub turn-turn-requires-clause-shed : goal.turn-turn-requires-clause-shed
turn-turn-requires-clause-shed g c κs within = c.in-Proc.ensures.taken.1.shed_empty

pub give-requires-clause-fits : goal.give-requires-clause-fits
give-requires-clause-fits g c κs within =
    fits-given (meaning g.E.Engine.stands g.E.Engine.phase g.E.Engine.memory) g.E.Engine.begin g.E.Engine.at g.E.Engine.may_ask c.read_clock.new.node c.take.new.self (seat_of c.in-Proc.proc)
    c.take.ensures.same c.read_clock.ensures.awake c.in-Proc.ensures.taken.0 (brought_in c.turn-turn.result) c.turn-turn.ensures.given c.turn-turn.ensures.same

pub give-requires-clause-streams : goal.give-requires-clause-streams
give-requires-clause-streams g c κs within =
    streams-given (meaning g.E.Engine.stands g.E.Engine.phase g.E.Engine.memory) g.E.Engine.begin g.E.Engine.at g.E.Engine.may_ask c.read_clock.new.node c.take.new.self (seat_of c.in-Proc.proc)
    c.take.ensures.same c.read_clock.ensures.awake c.in-Proc.ensures.taken.0 _ (hands_of c.in-Proc.proc) (brought_in c.turn-turn.result) (streams_in c.turn-turn.result) c.turn-turn.ensures.same
    c.in-Proc.ensures.taken.1.stand c.turn-turn.ensures.streams

pub returns-in-Proc-clause-times : goal.returns-in-Proc-clause-times
returns-in-Proc-clause-times g c =
    let read = c.read_clock.ensures in
    let turn = c.turn-turn.result in
    let given = c.give.ensures.given in
    let entered = c.enter.ensures.clock in
    let goes = not-back-then (g.O.Outside.clock c.enter.new.self) (g.O.Outside.clock c.turn-turn.new.outside) (g.O.Outside.clock c.rest_if.new.outside)
    c.turn-turn.ensures.outside.clock c.rest_if.ensures.clock in
    let later = not-back-then (g.O.Outside.clock c.read_clock.new.outside) (g.O.Outside.clock c.enter.new.self) (g.O.Outside.clock c.rest_if.new.outside) entered goes in
    let turned : AreBetween (g.O.Outside.clock c.read_clock.new.outside) (g.O.Outside.clock c.rest_if.new.outside) (time_beside given.0) =
    between-given (g.O.Outside.clock c.read_clock.new.outside) (g.O.Outside.clock c.enter.new.self) (g.O.Outside.clock c.rest_if.new.outside)
    turn.side given.0 entered goes c.turn-turn.ensures.time given.1 in
    let round = times-round c.read_clock.new.node.book.entries c.read_clock.new.node.book.entries c.take.new.self.book.entries c.give.new.self.book.entries (Take 0 c.in-Proc.proc.start.pid)
    (Give 0 turn.proc.start.pid turn.calls turn.proc.fuel turn.halt given.0) refl c.in-Proc.ensures.taken.0.recorded.entries given.2.1.entries refl in (
      read.times.0 ++ time_beside given.0,
      times-both c.args.node.now.book.entries c.reserve_turn.new.self.book.entries c.read_clock.new.node.book.entries c.give.new.self.book.entries read.times.0 (time_beside given.0)
          c.reserve_turn.ensures.kept.entries read.times.1 round,
      between-both _ _ _ read.times.0 (time_beside given.0) (not-back-same _ _ read.outside.clock) later (between-same _ _ _ read.times.0 read.outside.clock (not-back-refl _) read.times.2) turned,
    )

pub returns-in-Proc-clause-entered : goal.returns-in-Proc-clause-entered
returns-in-Proc-clause-entered g c =
    let read = c.read_clock.ensures in
    let turn = c.turn-turn.result in
    let given = c.give.ensures.given in
    let round = takes-round c.read_clock.new.node.book.entries c.read_clock.new.node.book.entries c.take.new.self.book.entries c.give.new.self.book.entries (Take 0 c.in-Proc.proc.start.pid)
    (Give 0 turn.proc.start.pid turn.calls turn.proc.fuel turn.halt given.0) refl c.in-Proc.ensures.taken.0.recorded.entries given.2.1.entries refl in
    let started : EntersAll (g.O.Outside.entered c.args.outside.now) (g.O.Outside.entered c.enter.new.self) (taken_by (Take 0 c.in-Proc.proc.start.pid)) =
    subst (λ (from : Option (List ℕ)). EntersAll from (g.O.Outside.entered c.enter.new.self) (taken_by (Take 0 c.in-Proc.proc.start.pid))) read.entered c.enter.ensures.entered in (
      taken_by (Take 0 c.in-Proc.proc.start.pid),
      round ∙ ap (λ (ps : List ℕ). ps ++ taken_by (Take 0 c.in-Proc.proc.start.pid)) (read.takes ∙ ap takes_of c.reserve_turn.ensures.kept.entries),
      subst (λ (told : Option (List ℕ)). EntersAll (g.O.Outside.entered c.args.outside.now) told (taken_by (Take 0 c.in-Proc.proc.start.pid)))
          (sym (c.rest_if.ensures.entered ∙ c.turn-turn.ensures.entered)) started,
    )

pub returns-in-Proc-clause-clock : goal.returns-in-Proc-clause-clock
returns-in-Proc-clause-clock g c =
    not-back-then _ _ _ (not-back-same _ _ c.read_clock.ensures.outside.clock)
    (not-back-then _ _ _ c.enter.ensures.clock (not-back-then _ _ _ c.turn-turn.ensures.outside.clock c.rest_if.ensures.clock))

pub returns-in-Proc-clause-rest : goal.returns-in-Proc-clause-rest
returns-in-Proc-clause-rest g c =
    let engines = meaning g.E.Engine.stands g.E.Engine.phase g.E.Engine.memory in
    let laws = g.met.E.Engine g.world.𝓛 g.world.𝓜 g.world.𝓡 ((λ s x. x), (λ x. x), (λ x. x), λ x. x) in
    let turn = c.turn-turn.result in
    let given = c.give.ensures.given in
    let fits = fits-given engines g.E.Engine.begin g.E.Engine.at g.E.Engine.may_ask c.read_clock.new.node c.take.new.self (seat_of c.in-Proc.proc) c.take.ensures.same c.read_clock.ensures.awake
    c.in-Proc.ensures.taken.0 (brought_in turn) c.turn-turn.ensures.given c.turn-turn.ensures.same in
    rest-round engines g.E.Engine.begin g.E.Engine.at g.E.Engine.may_ask c.read_clock.new.node c.take.new.self (seat_of c.in-Proc.proc) c.take.ensures.same c.read_clock.ensures.awake
    c.in-Proc.ensures.taken.0 c.give.new.self (brought_in turn) given.0 given.2.0 c.give.ensures.same c.turn-turn.ensures.same fits given.2.1 given.1
    laws.asks_what_it_may laws.owes_its_ask laws.shows_memory laws.keeps_to_fuel laws.running_may_step

pub returns-in-Proc-clause-fewer : goal.returns-in-Proc-clause-fewer
returns-in-Proc-clause-fewer g c _ =
    let reserved = c.reserve_turn.ensures in
    let engines = meaning g.E.Engine.stands g.E.Engine.phase g.E.Engine.memory in
    let laws = g.met.E.Engine g.world.𝓛 g.world.𝓜 g.world.𝓡 ((λ s x. x), (λ x. x), (λ x. x), λ x. x) in
    let turn = c.turn-turn.result in
    let given = c.give.ensures.given in
    let fits = fits-given engines g.E.Engine.begin g.E.Engine.at g.E.Engine.may_ask c.read_clock.new.node c.take.new.self (seat_of c.in-Proc.proc) c.take.ensures.same c.read_clock.ensures.awake
    c.in-Proc.ensures.taken.0 (brought_in turn) c.turn-turn.ensures.given c.turn-turn.ensures.same in
    let gone = gone-round engines g.E.Engine.begin g.E.Engine.at g.E.Engine.may_ask c.read_clock.new.node c.take.new.self (seat_of c.in-Proc.proc) c.take.ensures.same c.read_clock.ensures.awake
    c.in-Proc.ensures.taken.0 c.give.new.self (brought_in turn) given.0 given.2.0 c.give.ensures.same c.turn-turn.ensures.same fits given.2.1 given.1
    laws.asks_what_it_may laws.owes_its_ask laws.shows_memory laws.keeps_to_fuel laws.running_may_step in
    let less = fewer-proc g.E.Engine.begin g.E.Engine.at c.reserve_turn.new.self c.read_clock.new.node c.give.new.self _ _ c.read_clock.ensures.same
    (same-then c.read_clock.new.node c.take.new.self c.give.new.self c.take.ensures.same c.give.ensures.same)
    c.read_clock.ensures.read c.in-Proc.ensures.taken.0.going c.in-Proc.ensures.taken.0.busy gone in
    let left = left-reserved g.E.Engine.begin g.E.Engine.at c.args.node.now c.reserve_turn.new.self reserved.same reserved.kept in
    omega (arith, left, less)

pub returns-in-Proc-clause-failed : goal.returns-in-Proc-clause-failed
returns-in-Proc-clause-failed g c =
    let turn = c.turn-turn.result in
    let given = c.give.ensures.given in
    let took = c.in-Proc.ensures.taken.0 in
    let memory = g.E.Engine.memory c.in-Proc.proc.engine in
    let owed : ((world_of c.take.new.self).process turn.proc.start.pid).owed ≡ option_map (request_of memory) c.in-Proc.proc.owed =
    ap (λ (s : Start). ((world_of c.take.new.self).process s.pid).owed) c.turn-turn.ensures.same ∙ took.seated.owed in
    let by : failures_by (world_of c.take.new.self) (deed_of (Give 0 turn.proc.start.pid turn.calls turn.proc.fuel turn.halt given.0))
    ≡ failures_in (wanted_in (want_of turn.halt) (option_map (request_of memory) c.in-Proc.proc.owed)) turn.side =
    recorded-fails (wanted_in (want_of turn.halt) ((world_of c.take.new.self).process turn.proc.start.pid).owed) turn.side given.0 given.1
    ∙ ap (λ (o : Option Request). failures_in (wanted_in (want_of turn.halt) o) turn.side) owed in
    let kept = counted-same failures_by c.args.node.now.book c.reserve_turn.new.self.book c.reserve_turn.ensures.kept.births c.reserve_turn.ensures.kept.entries in
    let read = c.read_clock.ensures.failures in
    let taking = counted-other failures_by c.read_clock.new.node.book c.take.new.self.book (Take 0 c.in-Proc.proc.start.pid) took.recorded.births took.recorded.entries refl in
    let giving = counted-more failures_by c.take.new.self.book c.give.new.self.book (Give 0 turn.proc.start.pid turn.calls turn.proc.fuel turn.halt given.0) given.2.1.births given.2.1.entries in
    let turned = c.turn-turn.ensures.outside.faults in
    omega (arith, by, kept, read, taking, giving, turned, c.read_clock.ensures.outside.faults, c.enter.ensures.faults, c.rest_if.ensures.faults)

pub returns-in-Proc-clause-waited : goal.returns-in-Proc-clause-waited
returns-in-Proc-clause-waited g c =
    let turn = c.turn-turn.result in
    let given = c.give.ensures.given in
    let took = c.in-Proc.ensures.taken.0 in
    let memory = g.E.Engine.memory c.in-Proc.proc.engine in
    let owed : ((world_of c.take.new.self).process turn.proc.start.pid).owed ≡ option_map (request_of memory) c.in-Proc.proc.owed =
    ap (λ (s : Start). ((world_of c.take.new.self).process s.pid).owed) c.turn-turn.ensures.same ∙ took.seated.owed in
    let by : waits_by (world_of c.take.new.self) (deed_of (Give 0 turn.proc.start.pid turn.calls turn.proc.fuel turn.halt given.0))
    ≡ waits_in (wanted_in (want_of turn.halt) (option_map (request_of memory) c.in-Proc.proc.owed)) turn.side =
    recorded-waits (wanted_in (want_of turn.halt) ((world_of c.take.new.self).process turn.proc.start.pid).owed) turn.side given.0 given.1
    ∙ ap (λ (o : Option Request). waits_in (wanted_in (want_of turn.halt) o) turn.side) owed in
    let kept = counted-same waits_by c.args.node.now.book c.reserve_turn.new.self.book c.reserve_turn.ensures.kept.births c.reserve_turn.ensures.kept.entries in
    let read = c.read_clock.ensures.waits in
    let taking = counted-other waits_by c.read_clock.new.node.book c.take.new.self.book (Take 0 c.in-Proc.proc.start.pid) took.recorded.births took.recorded.entries refl in
    let giving = counted-more waits_by c.take.new.self.book c.give.new.self.book (Give 0 turn.proc.start.pid turn.calls turn.proc.fuel turn.halt given.0) given.2.1.births given.2.1.entries in
    let turned = c.turn-turn.ensures.outside.waits in
    omega (arith, by, kept, read, taking, giving, turned, c.read_clock.ensures.outside.waits, c.enter.ensures.waits, c.rest_if.ensures.waits)

pub returns-in-Proc-clause-rested : goal.returns-in-Proc-clause-rested
returns-in-Proc-clause-rested g c =
    let turn = c.turn-turn.result in
    let given = c.give.ensures.given in
    let took = c.in-Proc.ensures.taken.0 in
    let pends : is_pending given.0 ≡ c.is_pending-pending.result = recorded-pends turn.side given.0 given.1 ∙ sym c.is_pending-pending.ensures in
    let kept = quiet-kept c.args.node.now.book c.reserve_turn.new.self.book c.reserve_turn.ensures.kept.births c.reserve_turn.ensures.kept.entries in
    let loud = c.read_clock.ensures.read.waking (front-some (world_of c.read_clock.new.node).ready c.in-Proc.proc.start.pid took.front) in
    let taking = quiet-other c.read_clock.new.node.book c.take.new.self.book (Take 0 c.in-Proc.proc.start.pid) took.recorded.births took.recorded.entries refl in
    let giving = quiet-more c.take.new.self.book c.give.new.self.book (Give 0 turn.proc.start.pid turn.calls turn.proc.fuel turn.halt given.0) given.2.1.births given.2.1.entries in
    let counted : cond {A = ℕ} (is_pending given.0) 1 0 ≡ cond c.is_pending-pending.result 1 0 = ap (λ (b : Bool). cond {A = ℕ} b 1 0) pends in
    let few = one-or-none c.is_pending-pending.result in
    let later = c.turn-turn.ensures.outside.rests in
    let rests = c.rest_if.ensures.rests in (
      cond c.is_pending-pending.result 1 0,
      omega (arith, kept, loud, taking, giving, counted),
      few,
      λ _. omega (arith, few, c.read_clock.ensures.outside.rests, c.enter.ensures.rests, later, rests),
    )

use Rattle.std.proofs.Common.{◌≡◌, ◌∙◌, ℕ, List, [], Option, Some, IfSome, MatchOption, subst}
use Rattle.std.specs.FinMap.{remove}
use Rattle.run_queue.specs.Schedule.{IsDue, IsLeastDue}
use Rattle.node_state.specs.Seats.{meaning}
use Rattle.process_store.specs.Holds.{kept_of}
use Rattle.process_store.specs.Late.{ComesLate}
use Rattle.process_store.proofs.Passing.{passes_then_stays}
use Rattle.process_store.proofs.WakingDue.{due_begins, due_ends, due_goes_on, fewer_dates, was_none, was_some, stays_beside, stays_giving, stays_gone}
use Rattle.process_store.proofs.store.Store.wake_due.Goals as goal

pub loop-some-init : goal.loop-some-init
loop-some-init g c = due_begins (meaning g.E.Engine.stands g.E.Engine.phase g.E.Engine.memory) _ c.args.self.now c.requires.keeps c.requires.waits

pub late_next-requires-clause-keeps : goal.late_next-requires-clause-keeps
late_next-requires-clause-keeps g c κs within = c.loop-some.invariant.keeps

pub late_next-requires-clause-waits : goal.late_next-requires-clause-waits
late_next-requires-clause-waits g c κs within = c.loop-some.invariant.waits

pub loop-some-smaller : goal.loop-some-smaller
loop-some-smaller g c =
    let mid = c.loop-some.self in
    let new = c.late_next.new.self in
    let e = c.late_next.ensures in
    let found = was_some c.late_next.result c.is_some.result c.is_some.ensures c.loop-some-test.true in
    let least : IsLeastDue mid.queue.deadlines mid.time found.0 =
    subst (λ (o : Option ℕ). MatchOption o ((pid : ℕ) → IsDue mid.queue.deadlines mid.time pid → ⊥) (IsLeastDue mid.queue.deadlines mid.time)) found.1 e.least in
    let dates : new.queue.deadlines ≡ remove mid.queue.deadlines found.0 = subst (λ (o : Option ℕ). IfSome o (λ pid. new.queue.deadlines ≡ remove mid.queue.deadlines pid)) found.1 e.dates in
    fewer_dates mid.queue.deadlines new.queue.deadlines mid.time found.0 dates least.due

pub loop-some-preserved : goal.loop-some-preserved
loop-some-preserved g c =
    let engines = meaning g.E.Engine.stands g.E.Engine.phase g.E.Engine.memory in
    let mid = c.loop-some.self in
    let new = c.late_next.new.self in
    let e = c.late_next.ensures in
    let found = was_some c.late_next.result c.is_some.result c.is_some.ensures c.loop-some-test.true in
    let least : IsLeastDue mid.queue.deadlines mid.time found.0 =
    subst (λ (o : Option ℕ). MatchOption o ((pid : ℕ) → IsDue mid.queue.deadlines mid.time pid → ⊥) (IsLeastDue mid.queue.deadlines mid.time)) found.1 e.least in
    let dates : new.queue.deadlines ≡ remove mid.queue.deadlines found.0 = subst (λ (o : Option ℕ). IfSome o (λ pid. new.queue.deadlines ≡ remove mid.queue.deadlines pid)) found.1 e.dates in
    let late : ComesLate engines mid new found.0 = subst (λ (o : Option ℕ). IfSome o (ComesLate engines mid new)) found.1 e.late in
    due_goes_on engines _ c.args.self.now mid new c.loop-some.some found.0 c.loop-some.invariant least late dates e.beside e.keeps e.giver e.streams

pub returns-clause-mirrors : goal.returns-clause-mirrors
returns-clause-mirrors g c =
    let engines = meaning g.E.Engine.stands g.E.Engine.phase g.E.Engine.memory in
    let mid = c.loop-some.self in
    let e = c.late_next.ensures in
    let none = was_none c.late_next.result c.is_some.result c.is_some.ensures c.loop-some-test.false in
    let undue : (pid : ℕ) → IsDue mid.queue.deadlines mid.time pid → ⊥ =
    subst (λ (o : Option ℕ). MatchOption o ((pid : ℕ) → IsDue mid.queue.deadlines mid.time pid → ⊥) (IsLeastDue mid.queue.deadlines mid.time)) none e.least in
    due_ends engines _ c.args.self.now mid c.late_next.new.self c.loop-some.some c.loop-some.invariant undue (e.stays none)

pub returns-clause-gives_stay : goal.returns-clause-gives_stay
returns-clause-gives_stay g c =
    let none = was_none c.late_next.result c.is_some.result c.is_some.ensures c.loop-some-test.false in
    stays_giving c.args.self.now c.loop-some.self c.late_next.new.self (c.late_next.ensures.stays none) c.loop-some.invariant.gives_stay

pub returns-clause-stay_gone : goal.returns-clause-stay_gone
returns-clause-stay_gone g c =
    let none = was_none c.late_next.result c.is_some.result c.is_some.ensures c.loop-some-test.false in
    stays_gone c.args.self.now c.loop-some.self c.late_next.new.self (c.late_next.ensures.stays none) c.loop-some.invariant.stay_gone

pub returns-clause-beside : goal.returns-clause-beside
returns-clause-beside g c =
    let none = was_none c.late_next.result c.is_some.result c.is_some.ensures c.loop-some-test.false in
    stays_beside c.args.self.now c.loop-some.self c.late_next.new.self (c.late_next.ensures.stays none) c.loop-some.invariant.beside

pub returns-clause-giver : goal.returns-clause-giver
returns-clause-giver g c = c.late_next.ensures.giver ∙ c.loop-some.invariant.giver

pub returns-clause-streams : goal.returns-clause-streams
returns-clause-streams g c =
    passes_then_stays _ (kept_of c.args.self.now) (kept_of c.loop-some.self) (kept_of c.late_next.new.self) [] [] c.loop-some.invariant.streams c.late_next.ensures.streams

use Rattle.std.proofs.Common.{◌≡◌, [], None, Some, arith, refl, sym, ◌∙◌, ap, subst, false, inl, inr}
use Rattle.node_state.specs.Seats.{meaning}
use Rattle.node_mirror.specs.Slots.{Asleep, Home}
use Rattle.node_mirror.specs.Held.{Mirrors}
use Rattle.node_mirror.specs.Steps.{asleep, closing, home, with_one}
use Rattle.world_rules.specs.Answers.{number_reply}
use Rattle.world_rules.specs.Calls as CallIs
use Rattle.world_rules.specs.Mail.{pick, tags_in, unpicked}
use Rattle.world_rules.specs.Part.{scratch_handles}
use Rattle.world_rules.specs.Rules.{performed}
use Rattle.world_rules.specs.Settled.{settled, Delivered}
use Rattle.process_store.specs.Holds.{held_of, kept_of, place_at}
use Rattle.process_store.specs.Performing.{Performs, PerformsAt}
use Rattle.process_store.specs.Telling.{MayBeTold}
use Rattle.process_store.proofs.Passing.{passes_then_stays}
use Rattle.process_store.proofs.Performed.{beside_answer, beside_receive, beside_wait, called_receive, may_tell_number, numbers_stay, performing_at, performs_by, request_is, tags_whole}
use Rattle.process_store.proofs.PerformedCalls.{late_mirrors, received_mirrors, receiving_mirrors}
use Rattle.process_store.proofs.performing.perform_receive.Goals as goal

pub receive-requires-clause-whole : goal.receive-requires-clause-whole
receive-requires-clause-whole g c κs within =
    rw c.as_slice.ensures (tags_whole g.E.Engine.phase g.E.Engine.memory (place_at c.args.store.now c.args.pid) c.args.request.now c.requires.performs c.requires.call)

pub receive-requires-clause-signal : goal.receive-requires-clause-signal
receive-requires-clause-signal g c κs within =
    may_tell_number g.E.Engine.phase g.E.Engine.memory (place_at c.args.store.now c.args.pid) c.args.request.now (Some CallIs.Receive) 1 c.requires.performs c.requires.call (1, omega arith, refl)

pub returns-then-receive-clause-performs : goal.returns-then-receive-clause-performs
returns-then-receive-clause-performs g c =
    let engines = meaning g.E.Engine.stands g.E.Engine.phase g.E.Engine.memory in
    let old = c.args.store.now in
    let new = c.receive.new.self in
    let pid = c.args.pid in
    let request = c.args.request.now in
    let tags = tags_in request.first in
    let p = performing_at g.E.Engine.phase g.E.Engine.memory (place_at old pid) request c.requires.performs in
    let e = c.if-receive.ensures in
    let found = rw c.as_slice.ensures at (e.found refl) in
    let told = found.2 p.0 p.1 p.2 in
    let slot = Home (record p.0 { engine = told.0; part = settled p.0.part (Delivered found.0) }) in
    let held = closing (with_one (held_of old) pid slot (unpicked tags ((held_of old).mail pid)) None) (scratch_handles p.0.part) in
    performs_by engines old new pid request false held slot p.0 p.1 p.2 told.2 refl refl
    (λ setting w ends births side is m. subst (λ call. Mirrors engines setting (performed births call w pid request side) held ends) (sym c.requires.call)
    (received_mirrors w (held_of old) ends pid p.0 p.1 request m p.2 (request_is g.E.Engine.phase g.E.Engine.memory p.0 p.1 request p.3) found.0 told.0 found.1 told.1))
    (λ refused. let h : ⊥ = cc in absurd h)
    (beside_receive old new e.same (e.keeps.shed ∙ sym c.requires.keeps.shed) (numbers_stay old new held c.requires.keeps e.keeps told.2 refl) e.rooms)
    ∣ inl (e.giver ∙ c.requires.giver) ∣₁

pub answer-requires-clause-giving : goal.answer-requires-clause-giving
answer-requires-clause-giving g c κs within =
    rw c.number_reply.ensures (subst (λ s. MayBeTold g.E.Engine.phase g.E.Engine.memory (place_at s c.args.pid) (number_reply 9027)) (sym (c.if-receive.ensures.stays refl))
    (may_tell_number g.E.Engine.phase g.E.Engine.memory (place_at c.args.store.now c.args.pid) c.args.request.now (Some CallIs.Receive) 9027 c.requires.performs c.requires.call
    (2, omega arith, refl)))

pub returns-then-ms-eq0-clause-performs : goal.returns-then-ms-eq0-clause-performs
returns-then-ms-eq0-clause-performs g c =
    let engines = meaning g.E.Engine.stands g.E.Engine.phase g.E.Engine.memory in
    let old = c.receive.new.self in
    let new = c.answer.new.self in
    let pid = c.args.pid in
    let request = c.args.request.now in
    let tags = tags_in request.first in
    let stays = c.if-receive.ensures.stays refl in
    let may = subst (λ s. PerformsAt g.E.Engine.phase g.E.Engine.memory (place_at s pid) request) (sym stays) c.requires.performs in
    let none = subst (λ s. pick tags ((held_of s).mail pid) ≡ None) (sym stays) (rw c.as_slice.ensures at (c.if-receive.ensures.none refl)) in
    let p = performing_at g.E.Engine.phase g.E.Engine.memory (place_at old pid) request may in
    let e = c.answer.ensures in
    let told = rw c.number_reply.ensures at (e.held p.0 p.1 p.2) in
    let slot = Home (record p.0 { engine = told.0 }) in
    let held = home (held_of old) pid (record p.0 { engine = told.0 }) in
    subst (λ s. Performs engines s new pid request false) stays (performs_by engines old new pid request false held slot p.0 p.1 p.2 told.2 refl refl
    (λ setting w ends births side is m. subst (λ call. Mirrors engines setting (performed births call w pid request side) held ends) (sym c.requires.call)
    (late_mirrors w (held_of old) ends pid p.0 p.1 request m p.2 (request_is g.E.Engine.phase g.E.Engine.memory p.0 p.1 request p.3) told.0 none c.if-ms-eq0.true told.1))
    (λ refused. let h : ⊥ = cc in absurd h)
    (beside_answer old new e.same (numbers_stay old new held c.if-receive.ensures.keeps e.keeps told.2 refl))
    ∣ inl (e.giver ∙ c.if-receive.ensures.giver ∙ c.requires.giver) ∣₁)

pub returns-then-ms-eq0-clause-streams : goal.returns-then-ms-eq0-clause-streams
returns-then-ms-eq0-clause-streams g c =
    passes_then_stays _ (kept_of c.args.store.now) (kept_of c.receive.new.self) (kept_of c.answer.new.self) [] [] c.if-receive.ensures.streams c.answer.ensures.streams

pub returns-clause-performs : goal.returns-clause-performs
returns-clause-performs g c =
    let engines = meaning g.E.Engine.stands g.E.Engine.phase g.E.Engine.memory in
    let old = c.receive.new.self in
    let new = c.wait.new.self in
    let pid = c.args.pid in
    let request = c.args.request.now in
    let tags = tags_in request.first in
    let stays = c.if-receive.ensures.stays refl in
    let may = subst (λ s. PerformsAt g.E.Engine.phase g.E.Engine.memory (place_at s pid) request) (sym stays) c.requires.performs in
    let none = subst (λ s. pick tags ((held_of s).mail pid) ≡ None) (sym stays) (rw c.as_slice.ensures at (c.if-receive.ensures.none refl)) in
    let p = performing_at g.E.Engine.phase g.E.Engine.memory (place_at old pid) request may in
    let e = c.wait.ensures in
    let due = rw c.time.ensures at c.deadline_of.ensures in
    let held = asleep (held_of old) pid p.0 p.1 c.deadline_of.result in
    subst (λ s. Performs engines s new pid request false) stays (performs_by engines old new pid request false held (Asleep p.0 p.1) p.0 p.1 p.2 (e.held p.0 p.1 p.2) refl refl
    (λ setting w ends births side is m. subst (λ call. Mirrors engines setting (performed births call w pid request side) held ends) (sym c.requires.call)
    (receiving_mirrors w (held_of old) ends pid p.0 p.1 request m p.2 (request_is g.E.Engine.phase g.E.Engine.memory p.0 p.1 request p.3) c.deadline_of.result
    (ap (λ ask. ask.call) (sym p.3.asked) ∙ called_receive request c.requires.call) none c.if-ms-eq0.false (sym due)))
    (λ refused. let h : ⊥ = cc in absurd h)
    (beside_wait old new e.same (numbers_stay old new held c.if-receive.ensures.keeps e.keeps (e.held p.0 p.1 p.2) refl) e.ready) ∣ inr (e.giver, refl) ∣₁)

pub returns-clause-streams : goal.returns-clause-streams
returns-clause-streams g c =
    passes_then_stays _ (kept_of c.args.store.now) (kept_of c.receive.new.self) (kept_of c.wait.new.self) [] [] c.if-receive.ensures.streams c.wait.ensures.streams

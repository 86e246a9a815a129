use Rattle.std.proofs.Common.{◌≡◌, [], None, Some, refl, sym, ◌∙◌, ap, subst, false, inl, inr}
use Rattle.node_state.specs.Seats.{meaning}
use Rattle.node_mirror.specs.Slots.{Asleep, Home}
use Rattle.node_mirror.specs.Held.{Mirrors}
use Rattle.node_mirror.specs.Steps.{asleep, home}
use Rattle.world_rules.specs.Calls as CallIs
use Rattle.world_rules.specs.Rules.{performed}
use Rattle.process_store.specs.Holds.{held_of, place_at}
use Rattle.process_store.proofs.Performed.{beside_answer, beside_wait, called_sleep, numbers_stay, performing_at, performs_by, request_is}
use Rattle.process_store.proofs.PerformedCalls.{sleeping_mirrors, slept_mirrors}
use Rattle.process_store.proofs.performing.perform_sleep.Goals as goal

pub returns-in-Some-clause-performs : goal.returns-in-Some-clause-performs
returns-in-Some-clause-performs g c =
    let engines = meaning g.E.Engine.stands g.E.Engine.phase g.E.Engine.memory in
    let old = c.args.store.now in
    let new = c.wait.new.self in
    let pid = c.args.pid in
    let request = c.args.request.now in
    let p = performing_at g.E.Engine.phase g.E.Engine.memory (place_at old pid) request c.requires.performs in
    let e = c.wait.ensures in
    let held = asleep (held_of old) pid p.0 p.1 (Some c.in-Some.at) in
    let due = rw c.time.ensures at c.in-Some.ensures in
    performs_by engines old new pid request false held (Asleep p.0 p.1) p.0 p.1 p.2 (e.held p.0 p.1 p.2) refl refl
    (λ setting w ends births side is m. subst (λ call. Mirrors engines setting (performed births call w pid request side) held ends) (sym c.requires.call)
    (sleeping_mirrors w (held_of old) ends pid p.0 p.1 request m p.2 (request_is g.E.Engine.phase g.E.Engine.memory p.0 p.1 request p.3) c.in-Some.at
    (ap (λ ask. ask.call) (sym p.3.asked) ∙ called_sleep request c.requires.call) (sym due)))
    (λ refused. let h : ⊥ = cc in absurd h)
    (beside_wait old new e.same (numbers_stay old new held c.requires.keeps e.keeps (e.held p.0 p.1 p.2) refl) e.ready) ∣ inr (e.giver, refl) ∣₁

pub returns-in-None-clause-performs : goal.returns-in-None-clause-performs
returns-in-None-clause-performs g c =
    let engines = meaning g.E.Engine.stands g.E.Engine.phase g.E.Engine.memory in
    let old = c.args.store.now in
    let new = c.answer.new.self in
    let pid = c.args.pid in
    let request = c.args.request.now in
    let p = performing_at g.E.Engine.phase g.E.Engine.memory (place_at old pid) request c.requires.performs in
    let e = c.answer.ensures in
    let told = rw c.empty_reply.ensures at (e.held p.0 p.1 p.2) in
    let held = home (held_of old) pid (record p.0 { engine = told.0 }) in
    let due = rw c.time.ensures at c.in-None.ensures in
    performs_by engines old new pid request false held (Home (record p.0 { engine = told.0 })) p.0 p.1 p.2 told.2 refl refl
    (λ setting w ends births side is m. subst (λ call. Mirrors engines setting (performed births call w pid request side) held ends) (sym c.requires.call)
    (slept_mirrors w (held_of old) ends pid p.0 p.1 request m p.2 (request_is g.E.Engine.phase g.E.Engine.memory p.0 p.1 request p.3) told.0 (sym due) told.1))
    (λ refused. let h : ⊥ = cc in absurd h)
    (beside_answer old new e.same (numbers_stay old new held c.requires.keeps e.keeps told.2 refl)) ∣ inl (e.giver ∙ c.requires.giver) ∣₁

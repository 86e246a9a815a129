use Rattle.std.proofs.Common.{◌≡◌, ◌<◌, ◌∙◌, length, false, true, refl, arith, sym, ap}
use Rattle.process_store.specs.Holds.{slot_of}
use Rattle.node_mirror.specs.Slots.{is_home}
use Rattle.process_store.proofs.TakingOut.{front_within, home_found, not_home, passed_more, skips_found}
use Rattle.process_store.proofs.store.Store.next_home.Goals as goal

pub index-requires : goal.index-requires
index-requires g c =
    let old = c.args.self.now in
    let now = c.loop-pid.self in
    let within = front_within old now c.in-Some.pid c.pop.new.self.ready c.requires.keeps c.loop-pid.invariant c.in-Some.ensures.popped in
    let l = now.places.ok.0 in
    omega (arith, within, l)

pub returns-in-Home-clause-skips : goal.returns-in-Home-clause-skips
returns-in-Home-clause-skips g c =
    let old = c.args.self.now in
    let now = c.loop-pid.self in
    let next = record now { queue = c.pop.new.self } in
    let within = front_within old now c.in-Some.pid c.pop.new.self.ready c.requires.keeps c.loop-pid.invariant c.in-Some.ensures.popped in
    skips_found old now next c.in-Some.pid c.loop-pid.invariant c.in-Some.ensures.popped
    (home_found old now c.in-Some.pid c.index.result.now true c.loop-pid.invariant within c.index.ensures (ap (λ p. is_home (slot_of p)) c.in-Home.is))

pub loop-pid-preserved : goal.loop-pid-preserved
loop-pid-preserved g c =
    let old = c.args.self.now in
    let now = c.loop-pid.self in
    let next = record now { queue = c.pop.new.self } in
    let within = front_within old now c.in-Some.pid c.pop.new.self.ready c.requires.keeps c.loop-pid.invariant c.in-Some.ensures.popped in
    passed_more old now next c.in-Some.pid c.loop-pid.invariant c.in-Some.ensures.popped
    (home_found old now c.in-Some.pid c.index.result.now false c.loop-pid.invariant within c.index.ensures (not_home c.index.result.now c.in_default-index.not-Home))
    c.in-Some.ensures.deadlines c.in-Some.ensures.room refl

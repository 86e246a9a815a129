use Rattle.std.proofs.Common.{◌≡◌, ℕ, ◌<◌, false, eqb, length, position, ap, sym, ◌∙◌, subst, arith}
use Rattle.std.specs.FinMap.{insert, contains_key, len}
use Rattle.run_queue.specs.Schedule.{Places}
use Rattle.run_queue.proofs.Entries.{map_of, Once, absent, once_push, once_set, push_is_insert, set_is_insert}
use Rattle.run_queue.proofs.Dues.{before_set, before_push}
use Rattle.run_queue.proofs.deadlines.Deadlines.set.Goals as goal

pub invariant_of-self : goal.invariant_of-self
invariant_of-self c =
    let found = ap (position (λ (e : ℕ × ℕ). eqb e.0 c.args.pid)) (sym c.deref.ensures.value) ∙ sym c.place_of.ensures
    ∙ c.in-Some.is in (
      once_set c.self.inside.entries.items c.args.pid c.args.at c.in-Some.place (0, 0) found c.self.invariant.0,
      before_set c.self.inside.entries.items c.self.inside.earliest c.in-Some.place c.args.pid c.args.at
          c.min-self-inside.result c.min-self-inside.ensures c.self.invariant.1,
    )

pub invariant_of-self-in-Ok : goal.invariant_of-self-in-Ok
invariant_of-self-in-Ok c =
    let none = ap (position (λ (e : ℕ × ℕ). eqb e.0 c.args.pid)) (sym c.deref.ensures.value) ∙ sym c.place_of.ensures
    ∙ c.in-None.is in (
      subst Once (sym c.in-Ok.ensures.items) (once_push c.self.inside.entries.items c.args.pid c.args.at none
          c.self.invariant.0),
      before_push c.self.inside.entries.items c.push.new.self.items c.self.inside.earliest c.args.pid c.args.at
          c.min-self-inside.result c.min-self-inside.ensures c.in-Ok.ensures.items c.self.invariant.1,
    )

pub unreachable-requires : goal.unreachable-requires
unreachable-requires c =
    let none = ap (position (λ (e : ℕ × ℕ). eqb e.0 c.args.pid)) (sym c.deref.ensures.value) ∙ sym c.place_of.ensures
    ∙ c.in-None.is in
    let room = subst (λ (places : Places). contains_key places.deadlines c.args.pid ≡ false
    → len places.deadlines < places.room) (sym c.self.view_is) c.requires
    (absent c.self.inside.entries.items c.args.pid none) in
    omega (arith, room, c.self.invariant.0, c.in-Err.ensures.full, c.deref.ensures.len, ap length c.deref.ensures.value)

pub returns-in-Some-clause-deadlines : goal.returns-in-Some-clause-deadlines
returns-in-Some-clause-deadlines c =
    let found = ap (position (λ (e : ℕ × ℕ). eqb e.0 c.args.pid)) (sym c.deref.ensures.value) ∙ sym c.place_of.ensures
    ∙ c.in-Some.is in
    set_is_insert c.self.inside.entries.items c.args.pid c.args.at c.in-Some.place (0, 0) found
    ∙ ap (λ (places : Places). insert places.deadlines c.args.pid c.args.at) c.self.view_is

pub returns-in-Ok-clause-deadlines : goal.returns-in-Ok-clause-deadlines
returns-in-Ok-clause-deadlines c =
    let none = ap (position (λ (e : ℕ × ℕ). eqb e.0 c.args.pid)) (sym c.deref.ensures.value) ∙ sym c.place_of.ensures
    ∙ c.in-None.is in
    ap map_of c.in-Ok.ensures.items
    ∙ push_is_insert c.self.inside.entries.items c.args.pid c.args.at none
    ∙ ap (λ (places : Places). insert places.deadlines c.args.pid c.args.at) c.self.view_is

use Rattle.std.proofs.Common.{◌≡◌, ℕ, ◌+◌, ◌-◌, ◌≤◌, List, length, drop, ap, sym, ◌∙◌, arith, refl}
use Rattle.host_port.specs.declared.ask.Ask.{Ask}
use Rattle.code_map.specs.Targets.{count_if}
use Rattle.flat_machine.specs.Flat.{Flat}
use Rattle.flat_machine.specs.Calls as place
use Rattle.flat_machine.specs.Moves.{Asks}
use Rattle.flat_machine.specs.Shown.{stack_of}
use Rattle.flat_stepper.specs.Places.{place_of}
use Rattle.flat_stepper.specs.States.{flat_of}
use Rattle.flat_stepper.proofs.StackFacts.{stack_length, stack_drop}
use Rattle.flat_stepper.proofs.Moving.{host_exceeds, host_asks, ask_is, same_flat}
use Rattle.flat_stepper.proofs.calls.ask_host.Goals as goal

pub returns-then-below-at-gt-MOST_VALUES-clause-calls : goal.returns-then-below-at-gt-MOST_VALUES-clause-calls
returns-then-below-at-gt-MOST_VALUES-clause-calls c = λ map class.
    let s = c.args.state.now in
    let values = stack_of s.values.items c.args.sp in
    let count = stack_length s.values.items c.args.sp in (
      host_exceeds c.args.parts.now map c.args.number c.args.params c.args.gives class values (flat_of s) (omega (arith, count)) c.requires.few
          (omega (arith, count, c.if-below-at-gt-MOST_VALUES.true, c.from.ensures)),
      refl,
    )

pub returns-clause-calls : goal.returns-clause-calls
returns-clause-calls c = λ map class.
    let s = c.args.state.now in
    let below = c.args.sp - c.args.params in
    let split : c.args.sp ≡ below + c.args.params = omega arith in
    let values = stack_of s.values.items c.args.sp in
    let count = stack_length s.values.items c.args.sp in
    let args_are = rw c.as_slice.ensures.value at c.arguments-args.ensures in
    let ask = ask_is c.args.number c.args.params below c.args.sp s.values.items c.arguments-args.result split args_are in
    let below_is : drop c.args.params values ≡ stack_of s.values.items below =
    ap (λ (n : ℕ). drop c.args.params (stack_of s.values.items n)) split ∙ stack_drop s.values.items below c.args.params in
    let waits = same_flat (flat_of s) (drop c.args.params values) (stack_of s.values.items below) (place.behind (place_of s.place)) (place_of c.behind-state.result)
    (flat_of s).callers (flat_of s).callers below_is (sym c.behind-state.ensures) refl in (
      count_if c.args.gives,
      host_asks c.args.parts.now map c.args.number c.args.params c.args.gives class values (flat_of s) (omega (arith, count)) c.requires.few
          (omega (arith, count, c.if-below-at-gt-MOST_VALUES.false, c.from.ensures))
          ∙ ap (λ (a : Ask). Asks a (count_if c.args.gives) (record (flat_of s) { values = drop c.args.params values; place = place.behind (place_of s.place) })) ask
          ∙ ap (λ (w : Flat). Asks (record { call = c.args.number; args = c.arguments-args.result }) (count_if c.args.gives) w) waits,
    )

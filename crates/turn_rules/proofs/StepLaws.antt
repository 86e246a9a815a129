use Rattle.std.proofs.Common.{◌≡◌, ℕ, ◌+◌, ◌-◌, ◌<◌, ◌≤◌, List, Option, Some, IsSome, refl, sym, ◌∙◌, ap, subst, arith}
use Rattle.host_port.specs.declared.ask.Ask.{Ask}
use Rattle.host_port.specs.declared.request.Request.{Request}
use Rattle.host_port.specs.declared.reply.Reply.{Reply}
use Rattle.host_port.specs.declared.stop.Stop.{Stop}
use Rattle.host_port.specs.declared.stop.Spent.TheVariants as limit
use Rattle.host_port.specs.Areas.{request_of}
use Rattle.host_port.specs.Standing.{Standing, State, Ready, Asking, state_of}
use Rattle.host_port.specs.Steps.{IsStep, RunsOut}
use Rattle.turn_rules.specs.Turn.{turn_fuel, most_answers, Executes, Requests, EndsSo, Exceeds}

-- a step executes its instructions
pub IsStep-executes : (at : ℕ → Option Standing) (most fuel budget : ℕ) (reason : Stop) (used answered : ℕ) →
    IsStep at most fuel budget reason used → answered < most_answers → Executes at answered fuel (fuel + used)
IsStep-executes at most fuel budget reason used answered step few = record {
  onward = omega arith;
  ready = λ k low high.
      let here : fuel + (k - fuel) ≡ k = omega arith in
      subst (λ (m : ℕ). IsSome (at m) → state_of (at m) ≡ Some Ready) here (step.ready (k - fuel) (omega arith));
  bounded = λ less. few;
}

-- a run that asks is at the request of this ask
pub asking-requests : (standing : Option Standing) (state : State) (memory : List ℕ) (ask : Ask) →
    standing ≡ Some (record { state = state; memory = memory }) → state_of standing ≡ Some (Asking ask) →
    Requests standing (request_of memory ask)
asking-requests standing state memory ask there asking =
    let both : Some state ≡ Some (Asking ask) = sym (ap state_of there) ∙ asking in
    let same : state ≡ Asking ask = cc in
    record {
      memory = memory;
      asking = there ∙ ap (λ (s : State). Some (record { state = s; memory = memory })) same;
      bytes = refl;
    }

-- a limit that a step met in the rest of the turn's budget ends the turn
pub spent-ends : {Part : Type 0} (local : Part → Request → Option (Reply × Part)) (spent : _) (standing : Option Standing) (part : Part)
    (fuel most before used answers : ℕ) → before ≤ turn_fuel → answers < most_answers →
    RunsOut spent (state_of standing) fuel most used (turn_fuel - before) →
    EndsSo local (Exceeds spent) standing part fuel most (before + used) answers
spent-ends local limit.Fuel standing part fuel most before used answers within few out = ((out.0, out.1, let o = out.2 in omega arith), λ _. few)
spent-ends local limit.Frames standing part fuel most before used answers within few out = (out, λ _. few)
spent-ends local limit.Values standing part fuel most before used answers within few out = (out, λ _. few)
spent-ends local limit.Traffic standing part fuel most before used answers within few out = (out, λ _. few)

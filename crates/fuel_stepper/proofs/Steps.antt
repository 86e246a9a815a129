-- How an instance goes on, from what its machine did.
use Rattle.std.proofs.Common.{◌≡◌, ◌≢◌, ℕ, ◌+◌, ◌-◌, ◌<◌, ◌≤◌, Bool, nat_lt, min, List, [], ◌∷◌, ◌++◌, length, Option, Some, IsSome, IsTrue, refl, sym, ap, ◌∙◌, subst, arith, add-zero}
use Rattle.host_port.specs.Areas.{areas_fit, request_of}
use Rattle.host_port.specs.Forms.{HasForm}
use Rattle.host_port.specs.Standing.{State, Standing, Ready, Phase, Running, Owing, state_of}
use Rattle.host_port.specs.Steps.{IsStep, IsAnswerable}
use Rattle.host_port.specs.declared.ask.Ask.{Ask}
use Rattle.host_port.specs.declared.call.Call.{Call}
use Rattle.host_port.specs.declared.reply.Reply.{Reply}
use Rattle.host_port.specs.declared.start.Start.{Start}
use Rattle.host_port.specs.declared.stop.Stop.{Stop}
use Rattle.wasm_form.specs.declared.parts.Parts.{Parts}
use Rattle.wasm_form.specs.Modules.{IsSpelled}
use Rattle.wasm_form.specs.Verdict.{IsAccepted}
use Rattle.code_map.specs.declared.map.CodeMap.{CodeMap}
use Rattle.module_validator.specs.Host.{host}
use Rattle.module_validator.specs.Calls.{IsItsMap}
use Rattle.module_validator.specs.ValidModule.{ValidModule}
use Rattle.tree_machine.specs.Config.{bytes_of}
use Rattle.tree_machine.specs.Point.{Point, point, shown}
use Rattle.tree_machine.specs.Run.{point_at, at}
use Rattle.flat_machine.specs.declared.halt.Halt.{Halt}
use Rattle.flat_machine.specs.Flat.{Flat}
use Rattle.flat_machine.specs.Runs.{IsSafe}
use Rattle.flat_machine.specs.Halts.{HaltsSo, replied_to}
use Rattle.flat_machine.specs.Stands.{Stands, Awaits, IsReadyAt, HaltStands, ReplyFits}
use Rattle.fuel_stepper.specs.declared.stage.End.{End}
use Rattle.fuel_stepper.specs.declared.stage.Stage.{Stage}
use Rattle.fuel_stepper.specs.declared.stage.Stage.TheVariants as stage
use Rattle.fuel_stepper.specs.Stages.{stage_after, stage_behind, told, phase_of}
use Rattle.fuel_stepper.specs.Life.{Life, StandsAt, StandsIn, HasRun}
use Rattle.fuel_stepper.proofs.Bridge.{IsKnown, few_bodies, safe, halts, ready, reply_fits, reply_stands}
use Rattle.fuel_stepper.proofs.Halted.{behind_stands, told_stands, told_stops}

pub known_of : (valid : ValidModule) (p : Parts) (q : CodeMap) → p ≡ valid.parts → q ≡ valid.map →
    IsAccepted host valid.parts → IsSpelled valid.parts → IsItsMap valid.parts valid.map → IsKnown p q
known_of valid p q p_is q_is accepted spelled mapped = record {
  accepted = subst (λ (x : Parts). IsAccepted host x) (sym p_is) accepted;
  spelled = subst (λ (x : Parts). IsSpelled x) (sym p_is) spelled;
  mapped = subst (λ (x : Parts). IsItsMap x q) (sym p_is) (subst (λ (y : CodeMap). IsItsMap valid.parts y) (sym q_is) mapped);
}

ready_stands : (s : Stage) (m : Parts) (map : CodeMap) (start : Start) (calls : List Call) (fuel : ℕ) (flat : Flat) →
    phase_of s ≡ Running → ((e : End) → s ≢ stage.Ended e) → StandsAt s m map start calls fuel flat → Stands m map start calls fuel flat
ready_stands stage.Ready m map start calls fuel flat running not_ended here = here.0
ready_stands (stage.Asking ask) m map start calls fuel flat running not_ended here = absurd (cc)
ready_stands (stage.Ended end) m map start calls fuel flat running not_ended here = absurd (not_ended end refl)
ready_stands (stage.Over stop) m map start calls fuel flat running not_ended here = absurd (cc)

owed_awaits : (s : Stage) (ask : Ask) (m : Parts) (map : CodeMap) (start : Start) (calls : List Call) (fuel : ℕ) (flat : Flat) →
    phase_of s ≡ Owing ask → StandsAt s m map start calls fuel flat → Awaits m map start calls fuel ask flat
owed_awaits stage.Ready ask m map start calls fuel flat owing here = absurd (cc)
owed_awaits (stage.Asking other) ask m map start calls fuel flat owing here =
    let same : other ≡ ask = cc in subst (λ (a : Ask). Awaits m map start calls fuel a flat) same here.0
owed_awaits (stage.Ended end) ask m map start calls fuel flat owing here = absurd (cc)
owed_awaits (stage.Over stop) ask m map start calls fuel flat owing here = absurd (cc)

ready_shown : (m : Parts) (start : Start) (calls : List Call) (fuel : ℕ) → IsReadyAt m start calls fuel →
    state_of (at m start calls fuel) ≡ Some Ready
unfolding at
ready_shown m start calls fuel here = rw here.1 refl

-- the machine was given this module and its map
module _ (life : Life) (p : Parts) (q : CodeMap) (p_is : p ≡ life.program.parts) (q_is : q ≡ life.program.map) (known : IsKnown p q) where
  -- a run in which the instance stands, by what the machine was given
  here : (v : ValidModule) (start : Start) (calls : List Call) (fuel : ℕ) → StandsIn v start calls fuel life →
      StandsAt life.stage p q start calls fuel life.machine
  here v start calls fuel s =
      let ps : v.parts ≡ p = ap (λ (x : ValidModule). x.parts) (sym s.program) ∙ sym p_is in
      let qs : v.map ≡ q = ap (λ (x : ValidModule). x.map) (sym s.program) ∙ sym q_is in
      subst (λ (x : Parts). StandsAt life.stage x q start calls fuel life.machine) ps
      (subst (λ (y : CodeMap). StandsAt life.stage v.parts y start calls fuel life.machine) qs s.at)

  there : (v : ValidModule) (start : Start) (calls : List Call) (fuel : ℕ) (s : Stage) (flat : Flat) → life.program ≡ v →
      StandsAt s p q start calls fuel flat → StandsAt s v.parts v.map start calls fuel flat
  there v start calls fuel s flat same h =
      let ps : p ≡ v.parts = p_is ∙ ap (λ (x : ValidModule). x.parts) same in
      let qs : q ≡ v.map = q_is ∙ ap (λ (x : ValidModule). x.map) same in
      subst (λ (x : Parts). StandsAt s x v.map start calls fuel flat) ps
      (subst (λ (y : CodeMap). StandsAt s p y start calls fuel flat) qs h)

  -- the machine may run
  pub may_run : HasRun life → phase_of life.stage ≡ Running → ((e : End) → life.stage ≢ stage.Ended e) → IsSafe p q life.machine
  may_run run running not_ended =
      safe p q known run.start run.calls run.fuel life.machine
      (ready_stands life.stage p q run.start run.calls run.fuel life.machine running not_ended
      (here life.program run.start run.calls run.fuel run.stands))

  -- the reply may be given, and the machine may run then
  pub may_resume : (reply : Reply) → HasRun life → IsAnswerable (phase_of life.stage) (bytes_of life.machine.memory) reply →
      ReplyFits reply life.machine
  may_resume reply run answerable =
      reply_fits p q known run.start run.calls run.fuel answerable.ask life.machine reply
      (owed_awaits life.stage answerable.ask p q run.start run.calls run.fuel life.machine answerable.owed
      (here life.program run.start run.calls run.fuel run.stands)) answerable.fits answerable.form

  -- a step
  module _ (budget used : ℕ) (reason : Halt) (reached : Bool) (to : Flat) (running : phase_of life.stage ≡ Running)
      (not_ended : (e : End) → life.stage ≢ stage.Ended e) (reached_is : reached ≡ nat_lt used budget)
      (within : used ≤ min budget life.fuel_left) (halted : HaltsSo p q reason (min budget life.fuel_left) used life.machine to)
      (stopped : Stop) (stopped_is : stopped ≡ told reason reached) (after : Stage) (after_is : after ≡ stage_after stopped) where
    stage_told : stage_after (told reason reached) ≡ after
    stage_told = ap (λ (x : Stop). stage_after x) (sym stopped_is) ∙ sym after_is

    module _ (v : ValidModule) (start : Start) (calls : List Call) (fuel : ℕ) (s : StandsIn v start calls fuel life) where
      stands_now : Stands p q start calls fuel life.machine
      stands_now = ready_stands life.stage p q start calls fuel life.machine running not_ended (here v start calls fuel s)

      fueled : fuel + used ≤ start.limits.fuel
      fueled = let kept : fuel + life.fuel_left ≡ start.limits.fuel = s.kept in omega arith

      halt_stands : HaltStands p q start calls (fuel + used) reason to
      halt_stands = halts p q known start calls fuel (min budget life.fuel_left) used reason life.machine to stands_now halted fueled

      pub steps_on : StandsIn v start calls (fuel + used) (record {
        program = life.program;
        machine = to;
        fuel_left = life.fuel_left - used;
        stage = after;
      })
      steps_on = record {
        program = s.program;
        kept = let kept : fuel + life.fuel_left ≡ start.limits.fuel = s.kept in omega arith;
        at = there v start calls (fuel + used) after to s.program
            (subst (λ (x : Stage). StandsAt x p q start calls (fuel + used) to) stage_told
            (told_stands p q start calls reason reached (fuel + used) (min budget life.fuel_left) used life.machine to halted halt_stands));
      }

      step_of : IsStep (at p start calls) start.limits.fuel fuel budget (told reason reached) used
      step_of = record {
        within = omega arith;
        ready = λ k less some.
            ready_shown p start calls (fuel + k)
            (ready p q known start calls fuel (min budget life.fuel_left) used k reason life.machine to stands_now halted fueled less);
        fueled = fueled;
        stops = told_stops p q start calls reason reached fuel life.fuel_left start.limits.fuel used budget life.machine to reached_is s.kept
            halted halt_stands;
      }

      pub is_step : IsStep (at v.parts start calls) start.limits.fuel fuel budget stopped used
      is_step =
          subst (λ (x : Stop). IsStep (at v.parts start calls) start.limits.fuel fuel budget x used) (sym stopped_is)
          (subst (λ (x : Parts). IsStep (at x start calls) start.limits.fuel fuel budget (told reason reached) used)
          (p_is ∙ ap (λ (x : ValidModule). x.parts) s.program) step_of)

    pub keeps_run : HasRun life → HasRun (record {
      program = life.program;
      machine = to;
      fuel_left = life.fuel_left - used;
      stage = after;
    })
    keeps_run run = record {
      start = run.start;
      calls = run.calls;
      fuel = run.fuel + used;
      stands = steps_on life.program run.start run.calls run.fuel run.stands;
    }

  -- an answer
  module _ (reply : Reply) (used : ℕ) (reason : Halt) (between to : Flat)
      (answerable : IsAnswerable (phase_of life.stage) (bytes_of life.machine.memory) reply)
      (resumed : between ≡ replied_to reply life.machine) where
    abbrev answered : (ask : Ask) → Call
    answered ask = record { request = request_of (bytes_of life.machine.memory) ask; reply = reply }

    module _ (v : ValidModule) (start : Start) (calls : List Call) (fuel : ℕ) (ask : Ask) (owed : phase_of life.stage ≡ Owing ask)
        (s : StandsIn v start calls fuel life) where
      same_ask : answerable.ask ≡ ask
      same_ask = let owed_too : Owing answerable.ask ≡ Owing ask = sym answerable.owed ∙ owed in cc

      pub replied_stands : Stands p q start (calls ++ record { request = request_of (bytes_of life.machine.memory) ask; reply = reply } ∷ []) fuel between
      replied_stands =
          subst (λ (x : Flat). Stands p q start (calls ++ record { request = request_of (bytes_of life.machine.memory) ask; reply = reply } ∷ []) fuel x)
          (sym resumed)
          (reply_stands p q known start calls fuel ask life.machine reply
          (owed_awaits life.stage ask p q start calls fuel life.machine owed (here v start calls fuel s))
          (subst (λ (a : Ask). IsTrue (areas_fit (bytes_of life.machine.memory) a)) same_ask answerable.fits)
          (subst (λ (a : Ask). HasForm a reply) same_ask answerable.form))

    pub may_go_on : HasRun life → IsSafe p q between
    may_go_on run =
        safe p q known run.start _ run.fuel between
        (replied_stands life.program run.start run.calls run.fuel answerable.ask answerable.owed run.stands)

    module _ (none : used ≤ 0) (halted : HaltsSo p q reason 0 used between to) (after : Stage) (after_is : after ≡ stage_behind reason) where
      module _ (v : ValidModule) (start : Start) (calls : List Call) (fuel : ℕ) (ask : Ask) (owed : phase_of life.stage ≡ Owing ask)
          (s : StandsIn v start calls fuel life) where
        behind : StandsAt (stage_behind reason) p q start (calls ++ record { request = request_of (bytes_of life.machine.memory) ask; reply = reply } ∷ [])
            (fuel + used) to × (phase_of (stage_behind reason) ≡ Running)
        behind =
            let kept : fuel + life.fuel_left ≡ start.limits.fuel = s.kept in
            behind_stands p q start (calls ++ record { request = request_of (bytes_of life.machine.memory) ask; reply = reply } ∷ [])
            reason (fuel + used) used between to halted none
            (halts p q known start _ fuel 0 used reason between to (replied_stands v start calls fuel ask owed s) halted (omega arith))

        pub answers_on : StandsIn v start (calls ++ record { request = request_of (bytes_of life.machine.memory) ask; reply = reply } ∷ []) fuel (record {
          program = life.program;
          machine = to;
          fuel_left = life.fuel_left;
          stage = after;
        })
        answers_on =
            let same : fuel + used ≡ fuel = omega arith in
            record {
              program = s.program;
              kept = s.kept;
              at = there v start _ fuel after to s.program
                  (subst (λ (x : Stage). StandsAt x p q start
                  (calls ++ record { request = request_of (bytes_of life.machine.memory) ask; reply = reply } ∷ []) fuel to) (sym after_is)
                  (subst (λ (n : ℕ). StandsAt (stage_behind reason) p q start
                  (calls ++ record { request = request_of (bytes_of life.machine.memory) ask; reply = reply } ∷ []) n to) same behind.0));
            }

      pub answer_keeps_run : HasRun life → HasRun (record {
        program = life.program;
        machine = to;
        fuel_left = life.fuel_left;
        stage = after;
      })
      answer_keeps_run run = record {
        start = run.start;
        calls = run.calls ++ answered answerable.ask ∷ [];
        fuel = run.fuel;
        stands = answers_on life.program run.start run.calls run.fuel answerable.ask answerable.owed run.stands;
      }

      pub answer_running : HasRun life → phase_of after ≡ Running
      answer_running run = ap (λ (x : Stage). phase_of x) after_is ∙ (behind life.program run.start run.calls run.fuel answerable.ask answerable.owed run.stands).1

-- The ready list that a node makes is that of the world.
use Rattle.std.specs.Prelude.{◌≡◌, ◌⊎◌, ℕ, List, ◌++◌, filter, not, Bool, true, false, refl}
use Rattle.std.proofs.Common.{sym, ◌∙◌, ap, inl, inr}
use Rattle.world_rules.specs.Part.{is_among}
use Rattle.world_rules.specs.World.{World, Process, Stage, Unborn, Ready, Out, Waiting, Doomed, Ended, is_ready, is_ended, up_to}
use Rattle.world_rules.specs.Rules.{ready_among, all_but, queued}
use Rattle.world_rules.specs.Sound.{AreInOrder}
use Rattle.world_rules.specs.laws.KeepingLaws.{false_is_true}
use Rattle.node_state.specs.Seats.{Meaning}
use Rattle.node_mirror.specs.Slots.{Slot, Nobody, Home, Asleep, Giving, Away, Fated, Gone, SlotFits, is_home, is_giving}
use Rattle.node_mirror.specs.Held.{Held}
use Rattle.node_mirror.specs.Steps.{homes_among, Requeued}
use Rattle.node_mirror.proofs.Members.{among_append, among_filter, filter_among, ready_there, there_among}
use Rattle.node_mirror.proofs.Ascents.{rise_filter, up_to_rise, rises_same}

-- HOMES

ended_not_ready : (stage : Stage) → is_ended stage ≡ true → false ≡ is_ready stage
ended_not_ready Unborn e = refl
ended_not_ready Ready e = false_is_true e
ended_not_ready (Out worker) e = refl
ended_not_ready (Waiting request) e = refl
ended_not_ready (Doomed worker end) e = refl
ended_not_ready (Ended end) e = refl

-- where no Give is being performed, who may be taken is who is ready
pub home_ready : {E P : Type 0} (engines : Meaning E P) (programs : List P) (p : Process) (slot : Slot E) → SlotFits engines programs p slot → is_giving slot ≡ false → is_home slot ≡ is_ready p.stage
home_ready engines programs p Nobody fits idle = ap (λ (x : Process). is_ready x.stage) (sym fits)
home_ready engines programs p (Home seat) fits idle = ap (λ (s : Stage). is_ready s) (sym fits.stage)
home_ready engines programs p (Asleep seat ask) fits idle = ap (λ (s : Stage). is_ready s) (sym fits.stage)
home_ready engines programs p (Giving seat ask) fits idle = false_is_true (sym idle)
home_ready engines programs p (Away worker) fits idle = ap (λ (s : Stage). is_ready s) (sym fits)
home_ready engines programs p (Fated worker end) fits idle = ap (λ (s : Stage). is_ready s) (sym fits)
home_ready engines programs p Gone fits idle = ended_not_ready p.stage fits.ended

-- QUEUED. The list that is made so is the world's.
pub requeued : {E : Type 0} (v : World) (held : Held E) (earlier giver : List ℕ) → AreInOrder v → ((q : ℕ) → is_home (held.slots q) ≡ is_ready (v.process q).stage)
    → Requeued earlier giver held → (queued earlier giver v).ready ≡ held.ready
requeued v held earlier giver order same queue =
    (λ i. homes earlier i ++ came i ++ homes giver i) ∙ sym queue.ready
  where
    homes : (pids : List ℕ) → ready_among v pids ≡ homes_among held pids
    homes pids = λ i. filter (λ q. sym (same q) i) pids

    no : (b : Bool) → b ≡ false → not b ≡ true
    no true e = false_is_true (sym e)
    no false e = refl

    outside : (b : Bool) → not b ≡ true → b ≡ true → ⊥
    outside true out is = false_is_true out
    outside false out is = false_is_true is

    there : (q : ℕ) → is_among (ready_among v (all_but v (earlier ++ giver))) q ≡ true → is_among queue.came q ≡ true
    there q is =
        let both = among_filter (λ pid. is_ready (v.process pid).stage) (all_but v (earlier ++ giver)) q is in
        let out = among_filter (λ pid. not (is_among (earlier ++ giver) pid)) (up_to v.numbers_drawn) q both.0 in
        behind (among_append (earlier ++ giver) queue.came q (queue.all q (same q ∙ both.1))) out.1
      where
        behind : (is_among (earlier ++ giver) q ≡ true) ⊎ (is_among queue.came q ≡ true) → not (is_among (earlier ++ giver) q) ≡ true → is_among queue.came q ≡ true
        behind (inl was) out = absurd (outside (is_among (earlier ++ giver) q) out was)
        behind (inr new) out = new

    back : (q : ℕ) → is_among queue.came q ≡ true → is_among (ready_among v (all_but v (earlier ++ giver))) q ≡ true
    back q is =
        let fresh = queue.fresh q is in
        let ready : is_ready (v.process q).stage ≡ true = sym (same q) ∙ fresh.0 in
        filter_among (λ pid. is_ready (v.process pid).stage) (all_but v (earlier ++ giver)) q
        (filter_among (λ pid. not (is_among (earlier ++ giver) pid)) (up_to v.numbers_drawn) q (there_among v q order (ready_there (v.process q).stage ready))
        (no (is_among (earlier ++ giver) q) fresh.1)) ready

    came : ready_among v (all_but v (earlier ++ giver)) ≡ queue.came
    came =
        rises_same (ready_among v (all_but v (earlier ++ giver))) queue.came
        (rise_filter (λ pid. is_ready (v.process pid).stage) (all_but v (earlier ++ giver))
        (rise_filter (λ pid. not (is_among (earlier ++ giver) pid)) (up_to v.numbers_drawn) (up_to_rise v.numbers_drawn)))
        queue.rising there back

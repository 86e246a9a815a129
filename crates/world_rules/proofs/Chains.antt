-- Each step of the walk touches each process by the closed list of changes alone, and turns no count back.
use Rattle.std.specs.Prelude.{◌≡◌, ◌≢◌, ◌⊎◌, ℕ, ◌≤◌, List, [], ◌∷◌, ◌++◌, Bool, true, false, nat_eq, if◌then◌else◌, refl}
use Rattle.std.proofs.Common.{subst, sym, ◌∙◌, ap, inl, inr, arith, append-nil, append_assoc}
use Rattle.std.proofs.lemmas.Bool.Decides.{eqb_tells}
use Rattle.host_port.specs.declared.start.Start.{Start}
use Rattle.host_port.specs.declared.call.Call.{Call}
use Rattle.world_rules.specs.declared.halt.End.{End}
use Rattle.world_rules.specs.World.{World, Process, Stage, Unborn, Ready, Out, Waiting, Doomed, Ended, is_live, is_ended, put}
use Rattle.world_rules.specs.Allowed.{is_out}
use Rattle.world_rules.specs.Touches.{Change, Takes, Arrives, Turns, Returns, Answers, Pends, Waits, Posts, Picks, Settles, Minds, Dooms, Finishes, Begins, changed, all_changed, MayCome, AllMayCome, Touched, CallsGo, Stays, BirthStands, is_there, can_end}
use Rattle.world_rules.specs.laws.KeepingLaws.{false_is_true}
use Rattle.world_rules.proofs.Walk.{is_mild}
use Rattle.world_rules.proofs.MildWalk.{home_live, away_there}

-- CHAINS OF CHANGES

all_may_come : (pid : ℕ) (first second : List Change) (p : Process) → AllMayCome pid first p →
    AllMayCome pid second (all_changed first p) → AllMayCome pid (first ++ second) p
all_may_come pid [] second p a b = b
all_may_come pid (change ∷ first) second p a b = (a.0, all_may_come pid first second (changed change p) a.1 b)

all_changed_then : (first second : List Change) (p : Process) →
    all_changed (first ++ second) p ≡ all_changed second (all_changed first p)
all_changed_then [] second p = refl
all_changed_then (change ∷ first) second p = all_changed_then first second (changed change p)

pub touched_self : (pid : ℕ) (p : Process) → Touched pid p p
touched_self pid p = record { changes = []; may_come = tt; all = refl }

pub touched_then : (pid : ℕ) (a b c : Process) → Touched pid a b → Touched pid b c → Touched pid a c
touched_then pid a b c first second = record {
  changes = first.changes ++ second.changes;
  may_come = all_may_come pid first.changes second.changes a first.may_come (subst (λ (p : Process). AllMayCome pid second.changes p) first.all second.may_come);
  all = second.all ∙ ap (λ (p : Process). all_changed second.changes p) first.all ∙ sym (all_changed_then first.changes second.changes a);
}

pub touched_once : (pid : ℕ) (p : Process) (change : Change) → MayCome pid change p → Touched pid p (changed change p)
touched_once pid p change may = record { changes = change ∷ []; may_come = (may, tt); all = refl }

pub touched_same : (pid : ℕ) (p after : Process) → after ≡ p → Touched pid p after
touched_same pid p after same = subst (λ (q : Process). Touched pid p q) (sym same) (touched_self pid p)

-- one process is replaced by its change

pub touched_put : (w : World) (pid : ℕ) (change : Change) → MayCome pid change (w.process pid) → (q : ℕ) →
    Touched q (w.process q) (put w.process pid (changed change (w.process pid)) q)
touched_put w pid change may q = by (eqb_tells q pid)
  where
    by : ((nat_eq q pid ≡ true) × (q ≡ pid)) ⊎ ((nat_eq q pid ≡ false) × (q ≢ pid)) →
        Touched q (w.process q) (put w.process pid (changed change (w.process pid)) q)
    by (inl same) =
        subst (λ (b : Bool). Touched q (w.process q) (if b then changed change (w.process pid) else w.process q)) (sym same.0)
        (subst (λ (n : ℕ). Touched n (w.process n) (changed change (w.process pid))) (sym same.1) (touched_once pid (w.process pid) change may))
    by (inr other) =
        subst (λ (b : Bool). Touched q (w.process q) (if b then changed change (w.process pid) else w.process q)) (sym other.0)
        (touched_self q (w.process q))

-- WHAT FOLLOWS

none_more : (p : Process) → CallsGo p p
none_more p = ([], sym (append-nil p.calls))

-- who may be changed hasn't ended
not_there : (s : Stage) (end : End) → s ≡ Ended end → is_there s ≡ true → ⊥
not_there s end at there = absurd (false_is_true {X = ⊥} (sym (ap (λ (r : Stage). is_there r) at) ∙ there))

out_there : (s : Stage) → is_out s ≡ true → is_there s ≡ true
out_there Unborn e = false_is_true e
out_there Ready e = false_is_true e
out_there (Out worker) e = refl
out_there (Waiting request) e = false_is_true e
out_there (Doomed worker end) e = false_is_true e
out_there (Ended end) e = false_is_true e

pub live_there : (s : Stage) → is_live s ≡ true → is_there s ≡ true
live_there Unborn e = false_is_true e
live_there Ready e = refl
live_there (Out worker) e = refl
live_there (Waiting request) e = refl
live_there (Doomed worker end) e = false_is_true e
live_there (Ended end) e = false_is_true e

pub ends_there : (s : Stage) → can_end s ≡ true → is_there s ≡ true
ends_there Unborn e = false_is_true e
ends_there Ready e = refl
ends_there (Out worker) e = false_is_true e
ends_there (Waiting request) e = refl
ends_there (Doomed worker end) e = refl
ends_there (Ended end) e = false_is_true e

-- a change comes to a process that is there, or begins one where nobody was
abbrev pub Begun : ℕ → Change → Process → Type 0
Begun pid change p = (start : Start) × ((change ≡ Begins start) × BirthStands pid p start)

pub there_or_begun : (pid : ℕ) (change : Change) (p : Process) → MayCome pid change p → (is_there p.stage ≡ true) ⊎ Begun pid change p
there_or_begun pid (Takes worker) p may = inl (ap (λ (s : Stage). is_there s) may)
there_or_begun pid (Arrives what) p may = inl may
there_or_begun pid (Turns give) p may = inl (away_there p.stage may.away)
there_or_begun pid Returns p may = inl (out_there p.stage may)
there_or_begun pid (Answers request reply) p may = inl (live_there p.stage (home_live p.stage may))
there_or_begun pid (Pends request) p may = inl (ap (λ (s : Stage). is_there s) may)
there_or_begun pid (Waits request deadline) p may = inl (ap (λ (s : Stage). is_there s) may)
there_or_begun pid (Posts item) p may = inl (live_there p.stage may.live)
there_or_begun pid (Picks tags) p may = inl (live_there p.stage (home_live p.stage may))
there_or_begun pid (Settles outcome) p may = inl (live_there p.stage (home_live p.stage may))
there_or_begun pid (Minds dies) p may = inl (ap (λ (s : Stage). is_there s) may)
there_or_begun pid (Dooms worker end) p may = inl (ap (λ (s : Stage). is_there s) may)
there_or_begun pid (Finishes end) p may = inl (ends_there p.stage may)
there_or_begun pid (Begins start) p may = inr (start, (refl, may))

pub mild_there : (pid : ℕ) (change : Change) (p : Process) → MayCome pid change p → is_mild change ≡ true → is_there p.stage ≡ true
mild_there pid change p may mild = by (there_or_begun pid change p may)
  where
    by : (is_there p.stage ≡ true) ⊎ Begun pid change p → is_there p.stage ≡ true
    by (inl there) = there
    by (inr begun) = false_is_true (sym (ap (λ (c : Change). is_mild c) begun.1.0) ∙ mild)

change_calls : (pid : ℕ) (change : Change) (p : Process) → MayCome pid change p → CallsGo p (changed change p)
change_calls pid (Takes worker) p may = none_more p
change_calls pid (Arrives what) p may = none_more p
change_calls pid (Turns give) p may = (give.calls, refl)
change_calls pid Returns p may = none_more p
change_calls pid (Answers request reply) p may = (record { request = request; reply = reply } ∷ [], refl)
change_calls pid (Pends request) p may = none_more p
change_calls pid (Waits request deadline) p may = none_more p
change_calls pid (Posts item) p may = none_more p
change_calls pid (Picks tags) p may = none_more p
change_calls pid (Settles outcome) p may = none_more p
change_calls pid (Minds dies) p may = none_more p
change_calls pid (Dooms worker end) p may = none_more p
change_calls pid (Finishes end) p may = none_more p
change_calls pid (Begins start) p may = ([], sym (ap (λ (q : Process). q.calls ++ []) may.before))

same_fuel : (n : ℕ) → n ≤ n
same_fuel n = omega arith

change_fuel : (pid : ℕ) (change : Change) (p : Process) → MayCome pid change p → p.fuel ≤ (changed change p).fuel
change_fuel pid (Turns give) p may = may.grown
change_fuel pid (Begins start) p may = subst (λ (q : Process). q.fuel ≤ 0) (sym may.before) (same_fuel 0)
change_fuel pid (Takes worker) p may = same_fuel p.fuel
change_fuel pid (Arrives what) p may = same_fuel p.fuel
change_fuel pid Returns p may = same_fuel p.fuel
change_fuel pid (Answers request reply) p may = same_fuel p.fuel
change_fuel pid (Pends request) p may = same_fuel p.fuel
change_fuel pid (Waits request deadline) p may = same_fuel p.fuel
change_fuel pid (Posts item) p may = same_fuel p.fuel
change_fuel pid (Picks tags) p may = same_fuel p.fuel
change_fuel pid (Settles outcome) p may = same_fuel p.fuel
change_fuel pid (Minds dies) p may = same_fuel p.fuel
change_fuel pid (Dooms worker end) p may = same_fuel p.fuel
change_fuel pid (Finishes end) p may = same_fuel p.fuel

-- who is born keeps its start; born here is: there, or ended
pub change_start : (pid : ℕ) (change : Change) (p : Process) → MayCome pid change p → is_there p.stage ≡ true →
    (changed change p).start ≡ p.start
change_start pid (Begins start) p may there = false_is_true (sym (ap (λ (q : Process). is_there q.stage) may.before) ∙ there)
change_start pid (Takes worker) p may there = refl
change_start pid (Arrives what) p may there = refl
change_start pid (Turns give) p may there = refl
change_start pid Returns p may there = refl
change_start pid (Answers request reply) p may there = refl
change_start pid (Pends request) p may there = refl
change_start pid (Waits request deadline) p may there = refl
change_start pid (Posts item) p may there = refl
change_start pid (Picks tags) p may there = refl
change_start pid (Settles outcome) p may there = refl
change_start pid (Minds dies) p may there = refl
change_start pid (Dooms worker end) p may there = refl
change_start pid (Finishes end) p may there = refl

-- who has ended is touched by no change
none_ended : (pid : ℕ) (changes : List Change) (p : Process) (end : End) → AllMayCome pid changes p → p.stage ≡ Ended end →
    all_changed changes p ≡ p
none_ended pid [] p end may at = refl
none_ended pid (change ∷ changes) p end may at = absurd (by (there_or_begun pid change p may.0))
  where
    by : (is_there p.stage ≡ true) ⊎ Begun pid change p → ⊥
    by (inl there) = not_there p.stage end at there
    by (inr begun) =
        false_is_true (ap (λ (q : Process). is_ended q.stage) (sym begun.1.1.before) ∙ ap (λ (s : Stage). is_ended s) at)

-- of each chain of changes

all_calls : (pid : ℕ) (changes : List Change) (p : Process) → AllMayCome pid changes p → CallsGo p (all_changed changes p)
all_calls pid [] p may = none_more p
all_calls pid (change ∷ changes) p may =
    let first = change_calls pid change p may.0 in
    let rest = all_calls pid changes (changed change p) may.1 in
    (first.0 ++ rest.0, rest.1 ∙ ap (λ (calls : List Call). calls ++ rest.0) first.1 ∙ append_assoc p.calls first.0 rest.0)

fuel_then : (a b c : ℕ) → a ≤ b → b ≤ c → a ≤ c
fuel_then a b c x y = omega (arith, x, y)

all_fuel : (pid : ℕ) (changes : List Change) (p : Process) → AllMayCome pid changes p → p.fuel ≤ (all_changed changes p).fuel
all_fuel pid [] p may = same_fuel p.fuel
all_fuel pid (change ∷ changes) p may =
    fuel_then p.fuel (changed change p).fuel (all_changed changes (changed change p)).fuel (change_fuel pid change p may.0)
    (all_fuel pid changes (changed change p) may.1)

-- who is there is there afterwards, or has ended
change_there : (pid : ℕ) (change : Change) (p : Process) → MayCome pid change p → is_there p.stage ≡ true →
    (is_there (changed change p).stage ≡ true) ⊎ ((end : End) × ((changed change p).stage ≡ Ended end))
change_there pid (Takes worker) p may there = inl refl
change_there pid (Arrives what) p may there = inl there
change_there pid (Turns give) p may there = inl there
change_there pid Returns p may there = inl refl
change_there pid (Answers request reply) p may there = inl refl
change_there pid (Pends request) p may there = inl refl
change_there pid (Waits request deadline) p may there = inl refl
change_there pid (Posts item) p may there = inl there
change_there pid (Picks tags) p may there = inl there
change_there pid (Settles outcome) p may there = inl there
change_there pid (Minds dies) p may there = inl there
change_there pid (Dooms worker end) p may there = inl refl
change_there pid (Finishes end) p may there = inr (end, refl)
change_there pid (Begins start) p may there = inl refl

all_start : (pid : ℕ) (changes : List Change) (p : Process) → AllMayCome pid changes p → is_there p.stage ≡ true →
    (all_changed changes p).start ≡ p.start
all_start pid [] p may there = refl
all_start pid (change ∷ changes) p may there = by (λ still. all_start pid changes (changed change p) may.1 still) (change_there pid change p may.0 there) ∙ change_start pid change p may.0 there
  where
    by : (is_there (changed change p).stage ≡ true → (all_changed changes (changed change p)).start ≡ (changed change p).start)
        → (is_there (changed change p).stage ≡ true) ⊎ ((end : End) × ((changed change p).stage ≡ Ended end)) →
        (all_changed changes (changed change p)).start ≡ (changed change p).start
    by rest (inl still) = rest still
    by rest (inr gone) = ap (λ (q : Process). q.start) (none_ended pid changes (changed change p) gone.0 may.1 gone.1)

pub stays : (pid : ℕ) (old new : Process) → Touched pid old new → Stays old new
stays pid old new touched =
    subst (λ (p : Process). Stays old p) (sym touched.all) (record {
      calls = all_calls pid touched.changes old touched.may_come;
      fuel = all_fuel pid touched.changes old touched.may_come;
      start = λ there. all_start pid touched.changes old touched.may_come there;
      ended = λ end at. none_ended pid touched.changes old end touched.may_come at;
    })

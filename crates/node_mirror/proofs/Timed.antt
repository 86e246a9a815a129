-- What the deadlines that a node holds tell of who waits with one.
use Rattle.std.specs.Prelude.{◌≡◌, ℕ, suc, ◌<◌, ◌&&◌, List, [], ◌∷◌, length, cond, filter, Option, Some, None, Bool, true, false, refl}
use Rattle.std.proofs.Common.{sym, ◌∙◌, ap, arith}
use Rattle.world_rules.specs.declared.life.Ended.{Ended as EndMemory}
use Rattle.world_rules.specs.Lives.{Setting}
use Rattle.world_rules.specs.Part.{is_among}
use Rattle.world_rules.specs.Time.{has_deadline, timed_processes}
use Rattle.world_rules.specs.World.{World, Process, Stage, Unborn, Ready, Out, Waiting, Doomed, Ended, is_live, is_waiting, up_to}
use Rattle.world_rules.specs.laws.KeepingLaws.{false_is_true}
use Rattle.node_state.specs.Seats.{Meaning}
use Rattle.node_mirror.specs.Held.{Held, Mirrors}
use Rattle.node_mirror.proofs.Members.{filter_among, live_there, there_among}

-- who has no deadline doesn't wait with one; who has one waits with it
has_none : (p : Process) → p.deadline ≡ None → has_deadline p ≡ false
has_none p none = rw none (either (is_waiting p.stage))
  where
    either : (b : Bool) → (b && false) ≡ false
    either true = refl
    either false = refl

has_some : (p : Process) (d : ℕ) → p.deadline ≡ Some d → is_waiting p.stage ≡ true → has_deadline p ≡ true
has_some p d some waits = rw (some, waits) refl

abbrev is_some_of : Option ℕ → Bool
is_some_of None = false
is_some_of (Some d) = true

waits_by : (p : Process) (d : ℕ) (b : Bool) → is_waiting p.stage ≡ b → (is_waiting p.stage ≡ false → p.deadline ≡ None) → p.deadline ≡ Some d → is_waiting p.stage ≡ true
waits_by p d true is untimed some = is
waits_by p d false is untimed some = false_is_true (sym (ap is_some_of (untimed is)) ∙ ap is_some_of some)

waiting_live : (s : Stage) → is_waiting s ≡ true → is_live s ≡ true
waiting_live Unborn e = false_is_true e
waiting_live Ready e = refl
waiting_live (Out worker) e = refl
waiting_live (Waiting request) e = refl
waiting_live (Doomed worker end) e = false_is_true e
waiting_live (Ended end) e = false_is_true e

-- lists that keep nobody, and somebody
keeps_none : (test : ℕ → Bool) (xs : List ℕ) → ((x : ℕ) → test x ≡ false) → filter test xs ≡ []
keeps_none test [] never = refl
keeps_none test (x ∷ xs) never = ap (λ (b : Bool). cond b (x ∷ filter test xs) (filter test xs)) (never x) ∙ keeps_none test xs never

some_there : (xs : List ℕ) (x : ℕ) → is_among xs x ≡ true → 0 < length xs
some_there [] x is = false_is_true is
some_there (y ∷ ys) x is = more (length ys)
  where
    more : (n : ℕ) → 0 < suc n
    more n = omega arith

-- THE LAW

pub nobody_timed : {E P : Type 0} (engines : Meaning E P) (setting : Setting P) (w : World) (held : Held E) (ends : List EndMemory)
    → Mirrors engines setting w held ends → ((pid : ℕ) → held.deadlines pid ≡ None) → timed_processes w ≡ []
nobody_timed engines setting w held ends m none =
    keeps_none (λ pid. has_deadline (w.process pid)) (up_to w.numbers_drawn) (λ pid. has_none (w.process pid) (m.deadlines pid ∙ none pid))

pub somebody_timed : {E P : Type 0} (engines : Meaning E P) (setting : Setting P) (w : World) (held : Held E) (ends : List EndMemory) (pid d : ℕ)
    → Mirrors engines setting w held ends → held.deadlines pid ≡ Some d → 0 < length (timed_processes w)
somebody_timed engines setting w held ends pid d m some =
    let is : (w.process pid).deadline ≡ Some d = m.deadlines pid ∙ some in
    let waits : is_waiting (w.process pid).stage ≡ true = waits_by (w.process pid) d (is_waiting (w.process pid).stage) refl (m.order.each pid).deadline is in
    let there = there_among w pid m.order (live_there (w.process pid).stage (waiting_live (w.process pid).stage waits)) in
    some_there (timed_processes w) pid (filter_among (λ k. has_deadline (w.process k)) (up_to w.numbers_drawn) pid there (has_some (w.process pid) d is waits))

-- The ready list after each entry: each ready process is in it once, and no other.
use Rattle.std.specs.Prelude.{◌≡◌, ◌≢◌, ◌⊎◌, ℕ, zero, suc, ◌+◌, ◌<◌, ◌≤◌, List, [], ◌∷◌, ◌++◌, filter, cond, slice_get, Option, Some, Bool, true, false, not, ◌&&◌, ◌||◌, nat_eq, nat_lt, nat_le, refl}
use Rattle.std.proofs.Common.{subst, sym, ◌∙◌, ap, inl, inr, arith}
use Rattle.std.proofs.lemmas.Bool.Decides.{eqb_tells, leb_tells, nat_tests}
use Rattle.world_rules.specs.declared.life.Birth.{Birth}
use Rattle.world_rules.specs.Views.{Deed, Taking, Giving, Timing, EndingAll}
use Rattle.world_rules.specs.Part.{is_among}
use Rattle.world_rules.specs.Streams.{one_if}
use Rattle.world_rules.specs.World.{World, Stage, Unborn, Ready, Out, Waiting, Doomed, Ended, is_ready, up_to}
use Rattle.world_rules.specs.Rules.{giver_of, ready_among, all_but, queued}
use Rattle.world_rules.specs.Births.{Terms}
use Rattle.world_rules.specs.Allowed.{DeedFits, IsWith}
use Rattle.world_rules.specs.Touches.{is_there}
use Rattle.world_rules.specs.Sound.{is_drawn, times, IsReadyList, AreInOrder}
use Rattle.world_rules.specs.laws.BirthLaws.{none_is_some, same_some}
use Rattle.world_rules.specs.laws.KeepingLaws.{false_is_true}
use Rattle.world_rules.proofs.Keeping.{there_drawn}

-- HOW MANY TIMES

one_if_more : (b : Bool) (m n : ℕ) → one_if b (m + n) ≡ one_if b m + n
one_if_more true m n = omega arith
one_if_more false m n = refl

times_append : (q : ℕ) (xs ys : List ℕ) → times q (xs ++ ys) ≡ times q xs + times q ys
times_append q [] ys = none (times q ys)
  where
    none : (n : ℕ) → n ≡ 0 + n
    none n = omega arith
times_append q (x ∷ xs) ys =
    ap (λ (n : ℕ). one_if (nat_eq q x) n) (times_append q xs ys) ∙ one_if_more (nat_eq q x) (times q xs) (times q ys)

times_kept : (q x : ℕ) (xs : List ℕ) (test : ℕ → Bool) (b : Bool) → test x ≡ b → test q ≡ true → times q (filter test xs) ≡ times q xs →
    times q (cond b (x ∷ filter test xs) (filter test xs)) ≡ one_if (nat_eq q x) (times q xs)
times_kept q x xs test true e is rest = ap (λ (n : ℕ). one_if (nat_eq q x) n) rest
times_kept q x xs test false e is rest = rest ∙ by (eqb_tells q x)
  where
    by : ((nat_eq q x ≡ true) × (q ≡ x)) ⊎ ((nat_eq q x ≡ false) × (q ≢ x)) → times q xs ≡ one_if (nat_eq q x) (times q xs)
    by (inl same) = false_is_true (sym e ∙ ap (λ (n : ℕ). test n) (sym same.1) ∙ is)
    by (inr differs) = ap (λ (b : Bool). one_if b (times q xs)) (sym differs.0)

-- who passes the test is as often among those who pass
times_passing : (q : ℕ) (test : ℕ → Bool) (xs : List ℕ) → test q ≡ true → times q (filter test xs) ≡ times q xs
times_passing q test [] is = refl
times_passing q test (x ∷ xs) is = times_kept q x xs test (test x) refl is (times_passing q test xs is)

times_gone : (q x : ℕ) (xs : List ℕ) (test : ℕ → Bool) (b : Bool) → test x ≡ b → test q ≡ false → times q (filter test xs) ≡ 0 →
    times q (cond b (x ∷ filter test xs) (filter test xs)) ≡ 0
times_gone q x xs test true e isnt rest = by (eqb_tells q x)
  where
    by : ((nat_eq q x ≡ true) × (q ≡ x)) ⊎ ((nat_eq q x ≡ false) × (q ≢ x)) → one_if (nat_eq q x) (times q (filter test xs)) ≡ 0
    by (inl same) = false_is_true (sym isnt ∙ ap (λ (n : ℕ). test n) same.1 ∙ e)
    by (inr differs) = ap (λ (b : Bool). one_if b (times q (filter test xs))) differs.0 ∙ rest
times_gone q x xs test false e isnt rest = rest

-- and who fails it is never among them
times_failing : (q : ℕ) (test : ℕ → Bool) (xs : List ℕ) → test q ≡ false → times q (filter test xs) ≡ 0
times_failing q test [] isnt = refl
times_failing q test (x ∷ xs) isnt = times_gone q x xs test (test x) refl isnt (times_failing q test xs isnt)

-- who isn't in a list isn't among its numbers, and who is among them is in it
among_times : (q : ℕ) (xs : List ℕ) → times q xs ≡ 0 → is_among xs q ≡ false
among_times q [] none = refl
among_times q (x ∷ xs) none = by (λ less. among_times q xs less) (nat_eq q x) none
  where
    more : (n : ℕ) → n + 1 ≡ 0 → ⊥
    more n e = omega (arith, e)

    by : (times q xs ≡ 0 → is_among xs q ≡ false) → (b : Bool) → one_if b (times q xs) ≡ 0 → (b || is_among xs q) ≡ false
    by rest true none = absurd (more (times q xs) none)
    by rest false none = rest none

times_among : (q : ℕ) (xs : List ℕ) (n : ℕ) → times q xs ≡ n + 1 → is_among xs q ≡ true
times_among q [] n is = absurd (none n is)
  where
    none : (n : ℕ) → 0 ≡ n + 1 → ⊥
    none n e = omega (arith, e)
times_among q (x ∷ xs) n is = by (λ less. times_among q xs n less) (nat_eq q x) is
  where
    by : (times q xs ≡ n + 1 → is_among xs q ≡ true) → (b : Bool) → one_if b (times q xs) ≡ n + 1 → (b || is_among xs q) ≡ true
    by rest true is = refl
    by rest false is = rest is

-- of the numbers from 1 to n each is there once
times_up_to : (n q : ℕ) → 0 < q → (q ≤ n → times q (up_to n) ≡ 1) × (n < q → times q (up_to n) ≡ 0)
times_up_to zero q low = (λ high. absurd (none q low high), λ above. refl)
  where
    none : (q : ℕ) → 0 < q → q ≤ 0 → ⊥
    none q low high = omega (arith, low, high)
times_up_to (suc n) q low = by (times_up_to n q low) (eqb_tells q (suc n))
  where
    lower : (q n : ℕ) → q ≤ suc n → q ≢ suc n → q ≤ n
    lower q n high other = omega (arith, high, other)

    above : (q n : ℕ) → suc n < q → n < q
    above q n high = omega (arith, high)

    here : (q n : ℕ) → q ≡ suc n → n < q
    here q n same = omega (arith, same)

    not_here : (q n : ℕ) → q ≡ suc n → suc n < q → ⊥
    not_here q n same high = omega (arith, same, high)

    by : (q ≤ n → times q (up_to n) ≡ 1) × (n < q → times q (up_to n) ≡ 0) → ((nat_eq q (suc n) ≡ true) × (q ≡ suc n)) ⊎ ((nat_eq q (suc n) ≡ false) × (q ≢ suc n)) →
        (q ≤ suc n → times q (up_to n ++ suc n ∷ []) ≡ 1) × (suc n < q → times q (up_to n ++ suc n ∷ []) ≡ 0)
    by rest (inl same) = (
      λ high. times_append q (up_to n) (suc n ∷ []) ∙ ap (λ (k : ℕ). k + times q (suc n ∷ [])) (rest.1 (here q n same.1)) ∙ ap (λ (b : Bool). 0 + one_if b 0) same.0,
      λ high. absurd (not_here q n same.1 high),
    )
    by rest (inr differs) = (
      λ high. times_append q (up_to n) (suc n ∷ []) ∙ ap (λ (k : ℕ). k + times q (suc n ∷ [])) (rest.0 (lower q n high differs.1)) ∙ ap (λ (b : Bool). 1 + one_if b 0) differs.0,
      λ high. times_append q (up_to n) (suc n ∷ []) ∙ ap (λ (k : ℕ). k + times q (suc n ∷ [])) (rest.1 (above q n high)) ∙ ap (λ (b : Bool). 0 + one_if b 0) differs.0,
    )

drawn_once : (n q : ℕ) → (nat_lt 0 q && nat_le q n) ≡ true → times q (up_to n) ≡ 1
drawn_once n q is = by (leb_tells 1 q) (leb_tells q n)
  where
    no_first : (b : Bool) → (false && b) ≡ true → times q (up_to n) ≡ 1
    no_first b e = false_is_true e

    no_second : (a : Bool) → (a && false) ≡ true → times q (up_to n) ≡ 1
    no_second true e = false_is_true e
    no_second false e = false_is_true e

    by : ((nat_lt 0 q ≡ true) × (1 ≤ q)) ⊎ ((nat_lt 0 q ≡ false) × (q < 1)) → ((nat_le q n ≡ true) × (q ≤ n)) ⊎ ((nat_le q n ≡ false) × (n < q)) → times q (up_to n) ≡ 1
    by (inl low) (inl high) = (times_up_to n q low.1).0 high.1
    by (inl low) (inr high) = no_second (nat_lt 0 q) (ap (λ (b : Bool). nat_lt 0 q && b) (sym high.0) ∙ is)
    by (inr low) y = no_first (nat_le q n) (ap (λ (b : Bool). b && nat_le q n) (sym low.0) ∙ is)

-- THE LIST

ready_there : (s : Stage) → is_ready s ≡ true → is_there s ≡ true
ready_there Unborn e = false_is_true e
ready_there Ready e = refl
ready_there (Out worker) e = false_is_true e
ready_there (Waiting request) e = false_is_true e
ready_there (Doomed worker end) e = false_is_true e
ready_there (Ended end) e = false_is_true e

pub is_at_ready : (s : Stage) → is_ready s ≡ true → s ≡ Ready
is_at_ready Unborn e = false_is_true e
is_at_ready Ready e = refl
is_at_ready (Out worker) e = false_is_true e
is_at_ready (Waiting request) e = false_is_true e
is_at_ready (Doomed worker end) e = false_is_true e
is_at_ready (Ended end) e = false_is_true e

with_not_ready : (s : Stage) (worker : ℕ) → IsWith s worker → is_ready s ≡ false
with_not_ready Unborn worker is = absurd is
with_not_ready Ready worker is = absurd is
with_not_ready (Out other) worker is = refl
with_not_ready (Waiting request) worker is = absurd is
with_not_ready (Doomed other end) worker is = refl
with_not_ready (Ended end) worker is = absurd is

at_most_one : (b : Bool) → one_if b 0 ≤ 1
at_most_one true = omega arith
at_most_one false = omega arith

-- before the entry, who is in the ready list or gives is so once
once : (terms : Option Terms) (births : List Birth) (w : World) (deed : Deed) (q : ℕ) → IsReadyList w → DeedFits terms births w deed
    → times q w.ready + times q (giver_of deed) ≤ 1
once terms births w (Giving give) q ready fits = by (eqb_tells q give.pid)
  where
    none_and : (e g : ℕ) → e ≡ 0 → g ≡ 1 → e + g ≤ 1
    none_and e g x y = omega (arith, x, y)

    and_none : (e g : ℕ) → e ≤ 1 → g ≡ 0 → e + g ≤ 1
    and_none e g x y = omega (arith, x, y)

    by : ((nat_eq q give.pid ≡ true) × (q ≡ give.pid)) ⊎ ((nat_eq q give.pid ≡ false) × (q ≢ give.pid)) → times q w.ready + times q (give.pid ∷ []) ≤ 1
    by (inl same) =
        none_and (times q w.ready) (times q (give.pid ∷ []))
        (ready q ∙ ap (λ (n : ℕ). one_if (is_ready (w.process n).stage) 0) same.1 ∙ ap (λ (b : Bool). one_if b 0) (with_not_ready (w.process give.pid).stage give.worker fits.away))
        (ap (λ (b : Bool). one_if b 0) same.0)
    by (inr differs) =
        and_none (times q w.ready) (times q (give.pid ∷ [])) (subst (λ (n : ℕ). n ≤ 1) (sym (ready q)) (at_most_one (is_ready (w.process q).stage)))
        (ap (λ (b : Bool). one_if b 0) differs.0)
once terms births w (Taking worker pid) q ready fits = and_no (times q w.ready) (subst (λ (n : ℕ). n ≤ 1) (sym (ready q)) (at_most_one (is_ready (w.process q).stage)))
  where
    and_no : (e : ℕ) → e ≤ 1 → e + 0 ≤ 1
    and_no e x = omega (arith, x)
once terms births w (Timing now) q ready fits = and_no (times q w.ready) (subst (λ (n : ℕ). n ≤ 1) (sym (ready q)) (at_most_one (is_ready (w.process q).stage)))
  where
    and_no : (e : ℕ) → e ≤ 1 → e + 0 ≤ 1
    and_no e x = omega (arith, x)
once terms births w (EndingAll cause) q ready fits = and_no (times q w.ready) (subst (λ (n : ℕ). n ≤ 1) (sym (ready q)) (at_most_one (is_ready (w.process q).stage)))
  where
    and_no : (e : ℕ) → e ≤ 1 → e + 0 ≤ 1
    and_no e x = omega (arith, x)

-- the number that the others hold is 1 where the two lists hold none of it, and 0 where they hold one
others_times : (w : World) (pids : List ℕ) (q n : ℕ) → is_drawn w q ≡ true → times q pids ≡ n → n ≤ 1 → n + times q (all_but w pids) ≡ 1
others_times w pids q zero drawn is most =
    ap (λ (k : ℕ). 0 + k) (times_passing q (λ pid. not (is_among pids pid)) (up_to w.numbers_drawn) (ap (λ (b : Bool). not b) (among_times q pids is)) ∙ drawn_once w.numbers_drawn q drawn)
others_times w pids q (suc n) drawn is most =
    ap (λ (k : ℕ). suc n + k) (times_failing q (λ pid. not (is_among pids pid)) (up_to w.numbers_drawn) (ap (λ (b : Bool). not b) (times_among q pids n (is ∙ one_more n))))
    ∙ only_one n most
  where
    one_more : (n : ℕ) → suc n ≡ n + 1
    one_more n = omega arith

    only_one : (n : ℕ) → suc n ≤ 1 → suc n + 0 ≡ 1
    only_one n most = omega (arith, most)

all_times : (after : World) (earlier giver : List ℕ) (q : ℕ) → AreInOrder after → times q earlier + times q giver ≤ 1 → (b : Bool) → is_ready (after.process q).stage ≡ b
    → times q (ready_among after earlier ++ ready_among after (all_but after (earlier ++ giver)) ++ ready_among after giver) ≡ one_if b 0
all_times after earlier giver q order most b e =
    times_append q (ready_among after earlier ++ ready_among after (all_but after (earlier ++ giver))) (ready_among after giver)
    ∙ ap (λ (k : ℕ). k + times q (ready_among after giver)) (times_append q (ready_among after earlier) (ready_among after (all_but after (earlier ++ giver))))
    ∙ by b e
  where
    sum : (x y z e o g : ℕ) → x ≡ e → y ≡ o → z ≡ g → (e + g) + o ≡ 1 → x + y + z ≡ 1
    sum x y z e o g ix iy iz all = omega (arith, ix, iy, iz, all)

    nothing : (x y z : ℕ) → x ≡ 0 → y ≡ 0 → z ≡ 0 → x + y + z ≡ 0
    nothing x y z ix iy iz = omega (arith, ix, iy, iz)

    by : (b : Bool) → is_ready (after.process q).stage ≡ b →
        times q (ready_among after earlier) + times q (ready_among after (all_but after (earlier ++ giver))) + times q (ready_among after giver) ≡ one_if b 0
    by true e =
        let drawn = there_drawn after q order (ready_there (after.process q).stage e) in
        sum (times q (ready_among after earlier)) (times q (ready_among after (all_but after (earlier ++ giver)))) (times q (ready_among after giver))
        (times q earlier) (times q (all_but after (earlier ++ giver))) (times q giver)
        (times_passing q (λ pid. is_ready (after.process pid).stage) earlier e)
        (times_passing q (λ pid. is_ready (after.process pid).stage) (all_but after (earlier ++ giver)) e)
        (times_passing q (λ pid. is_ready (after.process pid).stage) giver e)
        (others_times after (earlier ++ giver) q (times q earlier + times q giver) drawn (times_append q earlier giver) most)
    by false e =
        nothing (times q (ready_among after earlier)) (times q (ready_among after (all_but after (earlier ++ giver)))) (times q (ready_among after giver))
        (times_failing q (λ pid. is_ready (after.process pid).stage) earlier e)
        (times_failing q (λ pid. is_ready (after.process pid).stage) (all_but after (earlier ++ giver)) e)
        (times_failing q (λ pid. is_ready (after.process pid).stage) giver e)

pub queued_ready : (terms : Option Terms) (births : List Birth) (w after : World) (deed : Deed) → IsReadyList w → DeedFits terms births w deed → AreInOrder after
    → IsReadyList (queued w.ready (giver_of deed) after)
queued_ready terms births w after deed ready fits order q =
    all_times after w.ready (giver_of deed) q order (once terms births w deed q ready fits) (is_ready (after.process q).stage) refl

-- who is at the front of the list is ready
pub front_ready : (w : World) (pid : ℕ) → IsReadyList w → slice_get w.ready 0 ≡ Some pid → (w.process pid).stage ≡ Ready
front_ready w pid ready front = is_at_ready (w.process pid).stage (by (is_ready (w.process pid).stage) w.ready front (ready pid))
  where
    more : (n : ℕ) → n + 1 ≡ 0 → ⊥
    more n e = omega (arith, e)

    same : (n : ℕ) → nat_eq n n ≡ true
    same n = grind (arith, nat_tests)

    by : (b : Bool) (xs : List ℕ) → slice_get xs 0 ≡ Some pid → times pid xs ≡ one_if b 0 → b ≡ true
    by true xs front is = refl
    by false [] front is = absurd (none_is_some front)
    by false (x ∷ xs) front is =
        let here : x ≡ pid = same_some x pid front in
        absurd (more (times pid xs) (ap (λ (b : Bool). one_if b (times pid xs)) (sym (ap (λ (n : ℕ). nat_eq pid n) here ∙ same pid)) ∙ is))

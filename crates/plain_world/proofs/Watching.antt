-- What is kept of the processes: who hasn't ended is among the unended, who is ready in the ready list or among the woken.
use Rattle.std.specs.Prelude.{◌≡◌, ◌≢◌, ◌⊎◌, ℕ, List, [], ◌∷◌, ◌++◌, filter, cond, not, Bool, true, false, ◌||◌, ◌&&◌, nat_eq, nat_lt, nat_le, refl}
use Rattle.std.proofs.Common.{sym, ◌∙◌, ap, subst, inl, inr}
use Rattle.std.proofs.lemmas.Bool.Decides.{eqb_tells}
use Rattle.world_rules.specs.Part.{is_among, without_number}
use Rattle.world_rules.specs.Sound.{Rise}
use Rattle.world_rules.specs.Touches.{is_there}
use Rattle.world_rules.specs.World.{Process, is_ready, put, up_to}
use Rattle.world_rules.specs.laws.KeepingLaws.{false_is_true}
use Rattle.plain_world.specs.Population.{Population, AreWatched, is_made_ready, made_ready, ready_in, ready_after}
use Rattle.plain_world.specs.ShownProcess.{nobody, process_in}
use Rattle.plain_world.proofs.Members.{both_true, among_left, among_right, among_append, filter_among}
use Rattle.plain_world.proofs.Rising.{among_up_to, chosen}

-- BOTH, EITHER

pub or_left : (a b : Bool) → a ≡ true → (a || b) ≡ true
or_left true b e = refl
or_left false b e = false_is_true e

pub or_right : (a b : Bool) → b ≡ true → (a || b) ≡ true
or_right true b e = refl
or_right false b e = e

or_more : (a b c : Bool) → (b ≡ true → c ≡ true) → (a || b) ≡ true → (a || c) ≡ true
or_more true b c f e = refl
or_more false b c f e = f e

or_other : (a b : Bool) → (a || b) ≡ true → a ≡ false → b ≡ true
or_other true b e none = false_is_true (sym none)
or_other false b e none = e

not_true : (b : Bool) → not b ≡ true → b ≡ false
not_true true e = false_is_true e
not_true false e = refl

-- ONE PROCESS

-- who passes after one is put in is that one, or another who passed before
put_cases : (test : Process → Bool) (process : ℕ → Process) (pid : ℕ) (p : Process) (q : ℕ) → test (put process pid p q) ≡ true
    → ((nat_eq q pid ≡ true) × (test p ≡ true)) ⊎ ((nat_eq q pid ≡ false) × (test (process q) ≡ true))
put_cases test process pid p q is = by (nat_eq q pid) refl is
  where
    by : (b : Bool) → nat_eq q pid ≡ b → test (cond b p (process q)) ≡ true
        → ((nat_eq q pid ≡ true) × (test p ≡ true)) ⊎ ((nat_eq q pid ≡ false) × (test (process q) ≡ true))
    by true e is = inl (e, is)
    by false e is = inr (e, is)

-- one is taken out
pub take_watched : (listed unended woken : List ℕ) (process : ℕ → Process) (pid : ℕ) → AreWatched listed process unended woken
    → AreWatched listed (put process pid nobody) unended woken
take_watched listed unended woken process pid a = record {
  there = λ q is. a.there q (there q (put_cases (λ p. is_there p.stage) process pid nobody q is));
  ready = λ q is. a.ready q (ready q (put_cases (λ p. is_ready p.stage) process pid nobody q is));
}
  where
    there : (q : ℕ) → ((nat_eq q pid ≡ true) × (false ≡ true)) ⊎ ((nat_eq q pid ≡ false) × (is_there (process q).stage ≡ true)) → is_there (process q).stage ≡ true
    there q (inl same) = false_is_true same.1
    there q (inr other) = other.1

    ready : (q : ℕ) → ((nat_eq q pid ≡ true) × (false ≡ true)) ⊎ ((nat_eq q pid ≡ false) × (is_ready (process q).stage ≡ true)) → is_ready (process q).stage ≡ true
    ready q (inl same) = false_is_true same.1
    ready q (inr other) = other.1

-- more are among the unended and among the woken
pub more_watched : (listed unended woken unended' woken' : List ℕ) (process : ℕ → Process) (pid : ℕ) (there ready : Bool)
    → AreWatched listed process unended woken → ((q : ℕ) → is_among unended' q ≡ ((there && nat_eq q pid) || is_among unended q))
    → ((q : ℕ) → is_among woken' q ≡ ((ready && nat_eq q pid) || is_among woken q)) → AreWatched listed process unended' woken'
more_watched listed unended woken unended' woken' process pid there ready a u w = record {
  there = λ q is. u q ∙ or_right (there && nat_eq q pid) (is_among unended q) (a.there q is);
  ready = λ q is. or_more (is_among listed q) (is_among woken q) (is_among woken' q) (λ e. w q ∙ or_right (ready && nat_eq q pid) (is_among woken q) e) (a.ready q is);
}

-- one is put in
pub put_watched : (listed unended woken unended' woken' last : List ℕ) (process : ℕ → Process) (pid : ℕ) (p : Process) (there ready : Bool)
    → AreWatched listed process unended woken → there ≡ is_there p.stage → ready ≡ is_ready p.stage
    → ((q : ℕ) → is_among unended' q ≡ ((there && nat_eq q pid) || is_among unended q))
    → ((q : ℕ) → is_among woken' q ≡ ((ready && nat_eq q pid) || is_among woken q))
    → ((q : ℕ) → is_among unended' q ≡ true → (not there && nat_eq q pid) ≡ false → is_among last q ≡ true)
    → AreWatched listed (put process pid p) last woken'
put_watched listed unended woken unended' woken' last process pid p there ready a t r u w l = record {
  there = λ q is. stays q (put_cases (λ x. is_there x.stage) process pid p q is);
  ready = λ q is. wakes q (put_cases (λ x. is_ready x.stage) process pid p q is);
}
  where
    both : (b c : Bool) → b ≡ true → c ≡ true → (b && c) ≡ true
    both b c x y = ap (λ (d : Bool). d && c) x ∙ y

    never : (b c : Bool) → b ≡ true → (not b && c) ≡ false
    never true c e = refl
    never false c e = false_is_true e

    nor : (b c : Bool) → c ≡ false → (b && c) ≡ false
    nor true c e = e
    nor false c e = refl

    stays : (q : ℕ) → ((nat_eq q pid ≡ true) × (is_there p.stage ≡ true)) ⊎ ((nat_eq q pid ≡ false) × (is_there (process q).stage ≡ true)) → is_among last q ≡ true
    stays q (inl same) = l q (u q ∙ or_left (there && nat_eq q pid) (is_among unended q) (both there (nat_eq q pid) (t ∙ same.1) same.0)) (never there (nat_eq q pid) (t ∙ same.1))
    stays q (inr other) = l q (u q ∙ or_right (there && nat_eq q pid) (is_among unended q) (a.there q other.1)) (nor (not there) (nat_eq q pid) other.0)

    wakes : (q : ℕ) → ((nat_eq q pid ≡ true) × (is_ready p.stage ≡ true)) ⊎ ((nat_eq q pid ≡ false) × (is_ready (process q).stage ≡ true)) → (is_among listed q || is_among woken' q) ≡ true
    wakes q (inl same) = or_right (is_among listed q) (is_among woken' q) (w q ∙ or_left (ready && nat_eq q pid) (is_among woken q) (both ready (nat_eq q pid) (r ∙ same.1) same.0))
    wakes q (inr other) =
        or_more (is_among listed q) (is_among woken q) (is_among woken' q) (λ e. w q ∙ or_right (ready && nat_eq q pid) (is_among woken q) e) (a.ready q other.1)

-- another number stays
pub others_stay : (pid : ℕ) (old new : List ℕ) (goes : Bool) → new ≡ without_number pid old → goes ≡ true → (q : ℕ) → is_among old q ≡ true → (goes && nat_eq q pid) ≡ false
    → is_among new q ≡ true
others_stay pid old new goes is so q there other =
    ap (λ (xs : List ℕ). is_among xs q) is
    ∙ filter_among (λ n. not (nat_eq n pid)) old q there (ap (λ (b : Bool). not b) (sym (ap (λ (b : Bool). b && nat_eq q pid) so) ∙ other))

-- WHO IS CHOSEN

pub filter_twice : (p q : ℕ → Bool) (xs : List ℕ) → filter (λ x. p x && q x) xs ≡ filter p (filter q xs)
filter_twice p q [] = refl
filter_twice p q (x ∷ xs) = by (λ _. filter_twice p q xs) (p x) refl (q x) refl
  where
    by : (Unit {0} → filter (λ x. p x && q x) xs ≡ filter p (filter q xs)) → (b : Bool) → p x ≡ b → (c : Bool) → q x ≡ c
        → cond (b && c) (x ∷ filter (λ x. p x && q x) xs) (filter (λ x. p x && q x) xs) ≡ filter p (cond c (x ∷ filter q xs) (filter q xs))
    by rest true e true f = ap (λ (ys : List ℕ). x ∷ ys) (rest tt) ∙ sym (ap (λ (d : Bool). cond d (x ∷ filter p (filter q xs)) (filter p (filter q xs))) e)
    by rest true e false f = rest tt
    by rest false e true f = rest tt ∙ sym (ap (λ (d : Bool). cond d (x ∷ filter p (filter q xs)) (filter p (filter q xs))) e)
    by rest false e false f = rest tt

-- of the woken those that were made ready are all that were
pub woken_are : (all : Population) (unended woken giver : List ℕ) (drawn : ℕ) → AreWatched all.ready (process_in all.list) unended woken → Rise woken
    → filter (λ pid. (nat_lt 0 pid && nat_le pid drawn) && is_made_ready all giver pid) woken ≡ made_ready all giver drawn
woken_are all unended woken giver drawn a rise =
    chosen (is_made_ready all giver) drawn woken rise held
    ∙ filter_twice (λ pid. is_ready (process_in all.list pid).stage) (λ pid. not (is_among (all.ready ++ giver) pid)) (up_to drawn)
  where
    absent : (q : ℕ) → (b : Bool) → is_among all.ready q ≡ b → is_among (all.ready ++ giver) q ≡ false → is_among all.ready q ≡ false
    absent q true e none = false_is_true (sym none ∙ among_left all.ready giver q e)
    absent q false e none = e

    held : (q : ℕ) → is_made_ready all giver q ≡ true → is_among woken q ≡ true
    held q is =
        let e = both_true (is_ready (process_in all.list q).stage) (not (is_among (all.ready ++ giver) q)) is in
        or_other (is_among all.ready q) (is_among woken q) (a.ready q e.0) (absent q (is_among all.ready q) refl (not_true (is_among (all.ready ++ giver) q) e.1))

-- of the unended those that are there are all that are
pub unended_are : (all : Population) (unended woken : List ℕ) (drawn : ℕ) → AreWatched all.ready (process_in all.list) unended woken → Rise unended
    → filter (λ pid. (nat_lt 0 pid && nat_le pid drawn) && is_there (process_in all.list pid).stage) unended
    ≡ filter (λ pid. is_there (process_in all.list pid).stage) (up_to drawn)
unended_are all unended woken drawn a rise = chosen (λ pid. is_there (process_in all.list pid).stage) drawn unended rise a.there

-- THE LIST ANEW

pub kept_watched : (listed unended woken : List ℕ) (process : ℕ → Process) → AreWatched listed process unended woken
    → AreWatched (filter (λ pid. is_ready (process pid).stage) listed) process unended woken
kept_watched listed unended woken process a = record { there = a.there; ready = λ q is. by q is (is_among listed q) refl (a.ready q is) }
  where
    by : (q : ℕ) → is_ready (process q).stage ≡ true → (b : Bool) → is_among listed q ≡ b → (b || is_among woken q) ≡ true
        → (is_among (filter (λ pid. is_ready (process pid).stage) listed) q || is_among woken q) ≡ true
    by q is true e either = or_left (is_among (filter (λ pid. is_ready (process pid).stage) listed) q) (is_among woken q) (filter_among (λ pid. is_ready (process pid).stage) listed q e is)
    by q is false e either = or_right (is_among (filter (λ pid. is_ready (process pid).stage) listed) q) (is_among woken q) either

pub longer_watched : (listed more unended woken : List ℕ) (process : ℕ → Process) → AreWatched listed process unended woken → AreWatched (listed ++ more) process unended woken
longer_watched listed more unended woken process a = record { there = a.there; ready = λ q is. by q (is_among listed q) refl (a.ready q is) }
  where
    by : (q : ℕ) → (b : Bool) → is_among listed q ≡ b → (b || is_among woken q) ≡ true → (is_among (listed ++ more) q || is_among woken q) ≡ true
    by q true e either = or_left (is_among (listed ++ more) q) (is_among woken q) (among_left listed more q e)
    by q false e either = or_right (is_among (listed ++ more) q) (is_among woken q) either

pub queued_watched : (all : Population) (unended woken giver : List ℕ) (drawn : ℕ) → AreWatched all.ready (process_in all.list) unended woken
    → AreWatched (ready_after all giver drawn) (process_in all.list) unended (filter (λ n. not (nat_lt 0 n && nat_le n drawn)) woken)
queued_watched all unended woken giver drawn a = record { there = a.there; ready = λ q is. by q is (is_among all.ready q) refl (a.ready q is) }
  where
    kept : List ℕ
    kept = ready_in all all.ready

    made : List ℕ
    made = made_ready all giver drawn

    last : List ℕ
    last = ready_in all giver

    undrawn : List ℕ
    undrawn = filter (λ n. not (nat_lt 0 n && nat_le n drawn)) woken

    test : ℕ → Bool
    test pid = is_ready (process_in all.list pid).stage

    listed : (q : ℕ) → is_among (kept ++ made ++ last) q ≡ true → (is_among (kept ++ made ++ last) q || is_among undrawn q) ≡ true
    listed q e = or_left (is_among (kept ++ made ++ last) q) (is_among undrawn q) e

    given : (q : ℕ) → test q ≡ true → is_among woken q ≡ true → is_among all.ready q ≡ false → (nat_lt 0 q && nat_le q drawn) ≡ true → (b : Bool) → is_among (all.ready ++ giver) q ≡ b
        → is_among (kept ++ made ++ last) q ≡ true
    given q is there none drawn_q true e = among_right (kept ++ made) last q (filter_among test giver q (at (among_append all.ready giver q e)) is)
      where
        at : (is_among all.ready q ≡ true) ⊎ (is_among giver q ≡ true) → is_among giver q ≡ true
        at (inl here) = false_is_true (sym none ∙ here)
        at (inr here) = here
    given q is there none drawn_q false e =
        among_left (kept ++ made) last q
        (among_right kept made q
        (filter_among test (filter (λ pid. not (is_among (all.ready ++ giver) pid)) (up_to drawn)) q
        (filter_among (λ pid. not (is_among (all.ready ++ giver) pid)) (up_to drawn) q (among_up_to drawn q ∙ drawn_q) (ap (λ (b : Bool). not b) e)) is))

    woke : (q : ℕ) → test q ≡ true → is_among woken q ≡ true → is_among all.ready q ≡ false → (b : Bool) → (nat_lt 0 q && nat_le q drawn) ≡ b
        → (is_among (kept ++ made ++ last) q || is_among undrawn q) ≡ true
    woke q is there none true e = listed q (given q is there none e (is_among (all.ready ++ giver) q) refl)
    woke q is there none false e =
        or_right (is_among (kept ++ made ++ last) q) (is_among undrawn q) (filter_among (λ n. not (nat_lt 0 n && nat_le n drawn)) woken q there (ap (λ (b : Bool). not b) e))

    by : (q : ℕ) → test q ≡ true → (b : Bool) → is_among all.ready q ≡ b → (b || is_among woken q) ≡ true → (is_among (kept ++ made ++ last) q || is_among undrawn q) ≡ true
    by q is true e either = listed q (among_left (kept ++ made) last q (among_left kept made q (filter_among test all.ready q e is)))
    by q is false e either = woke q is either e (nat_lt 0 q && nat_le q drawn) refl

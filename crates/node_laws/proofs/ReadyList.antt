use Rattle.std.proofs.Common.{◌≡◌, ◌≢◌, ℕ, List, [], ◌∷◌, ◌++◌, Bool, true, false, cond, not, nat_eq, ◌||◌, filter, append-nil, refl, sym, ◌∙◌, ap, arith, ◌⊎◌, inl, inr}
use Rattle.std.proofs.lemmas.Bool.Decides.{nat_tests, eqb_tells}
use Rattle.std.proofs.lemmas.List.Folds.{list_any-append}
use Rattle.world_rules.specs.World.{World, Process, is_ready, up_to}
use Rattle.world_rules.specs.Rules.{queued, ready_among, all_but}
use Rattle.node_state.specs.Held.{is_in, AreReady}

-- The ready list after an entry.

pub nat_eq_same : (n : ℕ) → nat_eq n n ≡ true
nat_eq_same n = grind (arith, nat_tests)

pub nat_eq_other : (a b : ℕ) → a ≢ b → nat_eq a b ≡ false
nat_eq_other a b h = grind (arith, nat_tests)

pub true_is_not_false : {X : Type 0} → true ≡ false → X
true_is_not_false e = absurd cc

step : {X : Type 0} (p g : X → Bool) (x : X) (ys : List X) (b c : Bool) → g x ≡ b → p x ≡ c → (p x ≡ true → g x ≡ false) → filter p ys ≡ [] → filter p (cond b (x ∷ ys) ys) ≡ []
step p g x ys false c gb pc h rest = rest
step p g x ys true false gb pc h rest = rw pc rest
step p g x ys true true gb pc h rest = true_is_not_false (sym gb ∙ h pc)

-- no element passes two tests that exclude each other
nothing_passes : {X : Type 0} (p g : X → Bool) (xs : List X) → ((x : X) → p x ≡ true → g x ≡ false) → filter p (filter g xs) ≡ []
nothing_passes p g [] h = refl
nothing_passes p g (x ∷ xs) h = step p g x (filter g xs) (g x) (p x) refl refl (h x) (nothing_passes p g xs h)

-- where everybody who is ready was in the list or is given back, the list is what is left of it, with the giver behind
pub queued-ready : (earlier giver kept : List ℕ) (v : World) → ready_among v earlier ≡ kept → ((q : ℕ) → is_ready (v.process q).stage ≡ true → is_in q (earlier ++ giver) ≡ true)
    → (queued earlier giver v).ready ≡ kept ++ ready_among v giver
queued-ready earlier giver kept v e complete =
    let none : ready_among v (all_but v (earlier ++ giver)) ≡ [] = nothing_passes (λ pid. is_ready (v.process pid).stage) (λ pid. not (is_in pid (earlier ++ giver))) (up_to v.numbers_drawn)
    (λ q r. ap not (complete q r)) in
    rw (e, none) (ap (λ (xs : List ℕ). xs ++ ready_among v giver) (append-nil kept))

-- a list of which each is ready stays whole
pub ready-all : (ps : ℕ → Process) (qs : List ℕ) → AreReady ps qs → filter (λ q. is_ready (ps q).stage) qs ≡ qs
ready-all ps [] r = refl
ready-all ps (q ∷ qs) r = rw r.0 (ap (λ (xs : List ℕ). q ∷ xs) (ready-all ps qs r.2))

unlisted : (ps : ℕ → Process) (pid q : ℕ) (qs : List ℕ) → is_ready (ps q).stage ≡ true → is_ready (ps pid).stage ≡ false → is_in pid qs ≡ false
    → ((nat_eq pid q ≡ true) × (pid ≡ q)) ⊎ ((nat_eq pid q ≡ false) × (pid ≢ q)) → is_in pid (q ∷ qs) ≡ false
unlisted ps pid q qs r n rest (inl same) = true_is_not_false (sym r ∙ ap (λ (k : ℕ). is_ready (ps k).stage) (sym same.1) ∙ n)
unlisted ps pid q qs r n rest (inr other) = rw other.0 rest

-- who is not ready is not in the list
pub not_listed : (ps : ℕ → Process) (pid : ℕ) (qs : List ℕ) → AreReady ps qs → is_ready (ps pid).stage ≡ false → is_in pid qs ≡ false
not_listed ps pid [] r n = refl
not_listed ps pid (q ∷ qs) r n = unlisted ps pid q qs r.0 n (not_listed ps pid qs r.2 n) (eqb_tells pid q)

not_first : (pid q : ℕ) (qs : List ℕ) → is_in pid (q ∷ qs) ≡ false → ((nat_eq pid q ≡ true) × (pid ≡ q)) ⊎ ((nat_eq pid q ≡ false) × (pid ≢ q)) → (q ≢ pid) × (is_in pid qs ≡ false)
not_first pid q qs h (inl same) = let e = rw same.0 at h in true_is_not_false e
not_first pid q qs h (inr other) = (λ e. other.1 (sym e), rw other.0 at h)

-- who is not in the list may change
pub ready-stays : (ps after : ℕ → Process) (pid : ℕ) (qs : List ℕ) → ((q : ℕ) → q ≢ pid → after q ≡ ps q) → is_in pid qs ≡ false → AreReady ps qs → AreReady after qs
ready-stays ps after pid [] others h r = tt
ready-stays ps after pid (q ∷ qs) others h r =
    let out = not_first pid q qs h (eqb_tells pid q) in
    (ap (λ (p : Process). is_ready p.stage) (others q out.0) ∙ r.0, r.1, ready-stays ps after pid qs others out.1 r.2)

-- one more at the end
pub ready-last : (ps : ℕ → Process) (pid : ℕ) (qs : List ℕ) → AreReady ps qs → is_ready (ps pid).stage ≡ true → is_in pid qs ≡ false → AreReady ps (qs ++ pid ∷ [])
ready-last ps pid [] r ready h = (ready, refl, tt)
ready-last ps pid (q ∷ qs) r ready h =
    let out = not_first pid q qs h (eqb_tells pid q) in
    (r.0, list_any-append (nat_eq q) qs (pid ∷ []) ∙ rw (r.1, nat_eq_other q pid out.0) refl, ready-last ps pid qs r.2 ready out.1)

or_true : (b : Bool) → (b || true) ≡ true
or_true true = refl
or_true false = refl

pub in-last : (pid : ℕ) (qs : List ℕ) → is_in pid (qs ++ pid ∷ []) ≡ true
in-last pid qs = list_any-append (nat_eq pid) qs (pid ∷ []) ∙ rw (nat_eq_same pid) (or_true (is_in pid qs))

pub in-longer : (q pid : ℕ) (qs : List ℕ) → is_in q qs ≡ true → is_in q (qs ++ pid ∷ []) ≡ true
in-longer q pid qs h = list_any-append (nat_eq q) qs (pid ∷ []) ∙ rw h refl

-- who is in the list and isn't its front is in the rest
pub in-rest : (q pid : ℕ) (qs : List ℕ) → q ≢ pid → is_in q (pid ∷ qs) ≡ true → is_in q qs ≡ true
in-rest q pid qs other h = rw (nat_eq_other q pid other) at h

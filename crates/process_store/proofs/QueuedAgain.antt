use Rattle.std.proofs.Common.{◌≡◌, ◌≢◌, ◌⊎◌, ℕ, List, [], ◌∷◌, ◌++◌, Option, Some, None, Bool, true, false, nat_eq, filter, if◌then◌else◌, refl, sym, ◌∙◌, ap, subst, inl, inr}
use Rattle.std.proofs.lemmas.Bool.Decides.{eqb_tells}
use Rattle.std.specs.Option.{option_to_list}
use Rattle.world_rules.specs.Part.{is_among}
use Rattle.node_mirror.specs.Slots.{Slot, Nobody, Home, Asleep, Giving, Away, Fated, Gone, is_giving, is_home}
use Rattle.node_mirror.specs.Held.{Held}
use Rattle.node_mirror.specs.Steps.{Requeued, homes_among, replaced}
use Rattle.node_mirror.proofs.Members.{among_cases, among_first, among_rest, among_append, among_left, among_right, among_filter, filter_among}
use Rattle.process_store.specs.declared.store.Store.{Store}
use Rattle.process_store.specs.Holds.{held_of, place_at, ready_of}
use Rattle.process_store.specs.Keeps.{IsListed, StoreKeeps, listed_of}

-- The queue at the end of an entry, by the ready list at its begin: those of the queue that had ended then are no matter.

false_true : (b : Bool) → b ≡ false → b ≡ true → ⊥
false_true b no_it yes_it = let e : false ≡ true = sym no_it ∙ yes_it in let h : ⊥ = cc in h

by_bool : (b : Bool) → (b ≡ true) ⊎ (b ≡ false)
by_bool true = inl refl
by_bool false = inr refl

false_by : (b : Bool) → (b ≡ true → ⊥) → b ≡ false
false_by true never = absurd (never refl)
false_by false never = refl

-- who is listed, is giving nothing, and is at home now unless it had ended, was at home
home_by : {E : Type 0} (slot now : Slot E) → IsListed slot → is_giving slot ≡ false → (slot ≡ Gone → now ≡ Gone) → is_home now ≡ true → is_home slot ≡ true
home_by Nobody now listed idle gone home = absurd listed
home_by (Home seat) now listed idle gone home = refl
home_by (Asleep seat ask) now listed idle gone home = absurd listed
home_by (Giving seat ask) now listed idle gone home = absurd (false_true true idle refl)
home_by (Away worker) now listed idle gone home = absurd listed
home_by (Fated worker end) now listed idle gone home = absurd listed
home_by Gone now listed idle gone home = absurd (false_true (is_home now) (ap is_home (gone refl)) home)

-- who was in the queue at the begin, and is at home now, was at home then
pub stayed_home : {E O P S L : Type 0} (store : Store E O P S L) (held : Held E) → StoreKeeps store → ((q : ℕ) → is_giving (place_at store q) ≡ false) → ((q : ℕ) → place_at store q ≡ Gone → held.slots q ≡ Gone)
    → (q : ℕ) → is_among store.queue.ready q ≡ true → is_home (held.slots q) ≡ true → is_home (place_at store q) ≡ true
stayed_home store held keeps idle gone q among home =
    home_by (place_at store q) (held.slots q)
    (keeps.listed q (among_left (store.queue.ready ++ store.came.items) (option_to_list store.giver) q (among_left store.queue.ready store.came.items q among))) (idle q) (gone q) home

-- of those that pass this test, and of all, the same are at home
pub homes_filtered : {E : Type 0} (held : Held E) (test : ℕ → Bool) (xs : List ℕ) → ((q : ℕ) → is_among xs q ≡ true → is_home (held.slots q) ≡ true → test q ≡ true)
    → homes_among held (filter test xs) ≡ homes_among held xs
homes_filtered held test [] all = refl
homes_filtered held test (x ∷ xs) all = by (test x) refl (homes_filtered held test xs (λ q among home. all q (among_rest x xs q among) home))
  where
    absent : (b : Bool) → test x ≡ false → is_home (held.slots x) ≡ b → homes_among held xs ≡ (if b then (x ∷ homes_among held xs) else homes_among held xs)
    absent true out home = absurd (false_true (test x) out (all x (among_first x xs x refl) home))
    absent false out home = refl

    by : (b : Bool) → test x ≡ b → homes_among held (filter test xs) ≡ homes_among held xs → homes_among held (if b then (x ∷ filter test xs) else filter test xs) ≡ homes_among held (x ∷ xs)
    by true passes rest = ap (λ (ys : List ℕ). if is_home (held.slots x) then (x ∷ ys) else ys) rest
    by false out rest = rest ∙ absent (is_home (held.slots x)) out refl

-- where an entry has no giver
pub entry_requeued : {E O P S L : Type 0} (store : Store E O P S L) (held : Held E) → StoreKeeps store → ((q : ℕ) → is_giving (place_at store q) ≡ false)
    → ((q : ℕ) → place_at store q ≡ Gone → held.slots q ≡ Gone) → Requeued store.queue.ready [] held → Requeued (ready_of store) [] held
entry_requeued store held keeps idle gone r =
    let stayed = stayed_home store held keeps idle gone in
    let ready = store.queue.ready in
    let homes = λ (q : ℕ). is_home (place_at store q) in
    record {
      came = r.came;
      rising = r.rising;
      ready = r.ready ∙ ap (λ (xs : List ℕ). xs ++ r.came ++ homes_among held []) (sym (homes_filtered held homes ready stayed));
      fresh = λ q among. ((r.fresh q among).0, false_by (is_among (ready_of store ++ []) q) (λ there. false_true (is_among (ready ++ []) q) (r.fresh q among).1 (fewer q there)));
      all = λ q home. more q home (r.all q home);
    }
  where
    fewer : (q : ℕ) → is_among (ready_of store ++ []) q ≡ true → is_among (store.queue.ready ++ []) q ≡ true
    fewer q among = by (among_append (ready_of store) [] q among)
      where
        by : (is_among (ready_of store) q ≡ true) ⊎ (is_among [] q ≡ true) → is_among (store.queue.ready ++ []) q ≡ true
        by (inl there) = among_left store.queue.ready [] q (among_filter (λ (p : ℕ). is_home (place_at store p)) store.queue.ready q there).0
        by (inr none) = among_right store.queue.ready [] q none

    more : (q : ℕ) → is_home (held.slots q) ≡ true → is_among ((store.queue.ready ++ []) ++ r.came) q ≡ true → is_among ((ready_of store ++ []) ++ r.came) q ≡ true
    more q home among = by (among_append (store.queue.ready ++ []) r.came q among)
      where
        kept : (is_among store.queue.ready q ≡ true) ⊎ (is_among [] q ≡ true) → is_among (ready_of store ++ []) q ≡ true
        kept (inl there) = among_left (ready_of store) [] q (filter_among (λ (p : ℕ). is_home (place_at store p)) store.queue.ready q there (stayed_home store held keeps idle gone q there home))
        kept (inr none) = among_right (ready_of store) [] q none

        by : (is_among (store.queue.ready ++ []) q ≡ true) ⊎ (is_among r.came q ≡ true) → is_among ((ready_of store ++ []) ++ r.came) q ≡ true
        by (inl there) = among_left (ready_of store ++ []) r.came q (kept (among_append store.queue.ready [] q there))
        by (inr there) = among_right (ready_of store ++ []) r.came q there

-- who is to go behind the others: the process that was given back, or nobody, where it isn't at home
abbrev pub IsGiver : {E : Type 0} → Held E → ℕ → Option ℕ → Type 0
IsGiver held pid giver = (giver ≡ Some pid) ⊎ ((giver ≡ None) × (is_home (held.slots pid) ≡ false))

-- where this process is given back
pub give_requeued : {E O P S L : Type 0} (store : Store E O P S L) (held : Held E) (pid : ℕ) (giver : Option ℕ) → StoreKeeps store → ((q : ℕ) → is_giving (place_at store q) ≡ false)
    → ((q : ℕ) → place_at store q ≡ Gone → held.slots q ≡ Gone) → IsGiver held pid giver → Requeued store.queue.ready (option_to_list giver) held → Requeued (ready_of store) (pid ∷ []) held
give_requeued {E = E} store held pid giver keeps idle gone how r =
    let stayed = stayed_home store held keeps idle gone in
    let ready = store.queue.ready in
    let homes = λ (q : ℕ). is_home (place_at store q) in
    record {
      came = r.came;
      rising = r.rising;
      ready = r.ready ∙ ap (λ (xs : List ℕ). xs ++ r.came ++ homes_among held (option_to_list giver)) (sym (homes_filtered held homes ready stayed))
          ∙ ap (λ (xs : List ℕ). homes_among held (ready_of store) ++ r.came ++ xs) (last giver how);
      fresh = λ q among. (
        (r.fresh q among).0,
        false_by (is_among (ready_of store ++ pid ∷ []) q)
            (λ there. not_there giver how q (r.fresh q among).0 (r.fresh q among).1 there),
      );
      all = λ q home. more giver how q home (r.all q home);
    }
  where
    last : (giver : Option ℕ) → IsGiver held pid giver → homes_among held (option_to_list giver) ≡ homes_among held (pid ∷ [])
    last giver (inl is) = ap (λ (g : Option ℕ). homes_among held (option_to_list g)) is
    last giver (inr none) = ap (λ (g : Option ℕ). homes_among held (option_to_list g)) none.0 ∙ ap (λ (b : Bool). if b then (pid ∷ []) else []) (sym none.1)

    in_ready : (q : ℕ) (giver : Option ℕ) → is_among (ready_of store) q ≡ true → is_among (store.queue.ready ++ option_to_list giver) q ≡ true
    in_ready q giver there = among_left store.queue.ready (option_to_list giver) q (among_filter (λ (p : ℕ). is_home (place_at store p)) store.queue.ready q there).0

    not_there : (giver : Option ℕ) → IsGiver held pid giver → (q : ℕ) → is_home (held.slots q) ≡ true → is_among (store.queue.ready ++ option_to_list giver) q ≡ false
        → is_among (ready_of store ++ pid ∷ []) q ≡ true → ⊥
    not_there giver how q home absent among = by (among_append (ready_of store) (pid ∷ []) q among)
      where
        itself : IsGiver held pid giver → (q ≡ pid) ⊎ (is_among [] q ≡ true) → ⊥
        itself (inl is) there = false_true (is_among (store.queue.ready ++ option_to_list giver) q) absent (in_giver is there)
          where
            in_giver : giver ≡ Some pid → (q ≡ pid) ⊎ (is_among [] q ≡ true) → is_among (store.queue.ready ++ option_to_list giver) q ≡ true
            in_giver is (inl same) =
                subst (λ (g : Option ℕ). is_among (store.queue.ready ++ option_to_list g) q ≡ true) (sym is) (among_right store.queue.ready (pid ∷ []) q (among_first pid [] q same))
            in_giver is (inr none) = let h : ⊥ = cc in absurd h
        itself (inr none) (inl same) = false_true (is_home (held.slots q)) (ap (λ (n : ℕ). is_home (held.slots n)) same ∙ none.1) home
        itself (inr none) (inr nothing) = let h : ⊥ = cc in h

        by : (is_among (ready_of store) q ≡ true) ⊎ (is_among (pid ∷ []) q ≡ true) → ⊥
        by (inl there) = false_true (is_among (store.queue.ready ++ option_to_list giver) q) absent (in_ready q giver there)
        by (inr there) = itself how (among_cases pid [] q there)

    more : (giver : Option ℕ) → IsGiver held pid giver → (q : ℕ) → is_home (held.slots q) ≡ true → is_among ((store.queue.ready ++ option_to_list giver) ++ r.came) q ≡ true
        → is_among ((ready_of store ++ pid ∷ []) ++ r.came) q ≡ true
    more giver how q home among = by (among_append (store.queue.ready ++ option_to_list giver) r.came q among)
      where
        in_last : (giver : Option ℕ) → IsGiver held pid giver → is_among (option_to_list giver) q ≡ true → is_among (pid ∷ []) q ≡ true
        in_last giver (inl is) there = subst (λ (g : Option ℕ). is_among (option_to_list g) q ≡ true) is there
        in_last giver (inr none) there = let e : is_among [] q ≡ true = subst (λ (g : Option ℕ). is_among (option_to_list g) q ≡ true) none.0 there in let h : ⊥ = cc in absurd h

        kept : (is_among store.queue.ready q ≡ true) ⊎ (is_among (option_to_list giver) q ≡ true) → is_among (ready_of store ++ pid ∷ []) q ≡ true
        kept (inl there) = among_left (ready_of store) (pid ∷ []) q (filter_among (λ (p : ℕ). is_home (place_at store p)) store.queue.ready q there (stayed_home store held keeps idle gone q there home))
        kept (inr there) = among_right (ready_of store) (pid ∷ []) q (in_last giver how there)

        by : (is_among (store.queue.ready ++ option_to_list giver) q ≡ true) ⊎ (is_among r.came q ≡ true) → is_among ((ready_of store ++ pid ∷ []) ++ r.came) q ≡ true
        by (inl there) = among_left (ready_of store ++ pid ∷ []) r.came q (kept (among_append store.queue.ready (option_to_list giver) q there))
        by (inr there) = among_right (ready_of store ++ pid ∷ []) r.came q there

-- one slot alone was replaced, at which a worker's process stood: who had ended has ended
pub gone_but : {E : Type 0} (was is : Held E) (pid worker : ℕ) (slot : Slot E) → was.slots pid ≡ Away worker → ((q : ℕ) → is.slots q ≡ replaced was.slots pid slot q)
    → (q : ℕ) → was.slots q ≡ Gone → is.slots q ≡ Gone
gone_but was is pid worker slot away slots q gone = slots q ∙ by (eqb_tells q pid)
  where
    by : ((nat_eq q pid ≡ true) × (q ≡ pid)) ⊎ ((nat_eq q pid ≡ false) × (q ≢ pid)) → (if nat_eq q pid then slot else was.slots q) ≡ Gone
    by (inl same) = let e : Away worker ≡ Gone = sym away ∙ ap was.slots (sym same.1) ∙ gone in let h : ⊥ = cc in absurd h
    by (inr other) = ap (λ (b : Bool). if b then slot else was.slots q) other.0 ∙ gone

-- Splitting, joining and comparing keep the rule; the first state has it, and what the last one tells.
use Rattle.std.proofs.Common.{◌≡◌, ◌≢◌, ℕ, zero, suc, ◌-◌, ◌<◌, ◌≤◌, Bool, true, false, List, [], ◌∷◌, ◌++◌, length, get_or, set, sym, refl, ap, ◌∙◌, subst, ⊎_elim, arith, Option, Some}
use Rattle.std.proofs.lemmas.List.{append-nil, length-set, length-append}
use Rattle.std.proofs.lemmas.List.Elements.{All-nil, All-head, All-weaker, Contains-append_cases, Contains-append_left, Contains-get_or}
use Rattle.log_lock.proofs.Growth.{extends_self, extends_both}
use Rattle.log_lock.proofs.Lists.{sum_by_set, sum_by_snoc, seats_stay, snoc_at, all_right, contains_one, same_at, pick, put, put_here, put_else, length_numbers_below, contains_numbers_below, numbers_below_contains}
use Rattle.log_lock.specs.Knowledge.{numbers_below}
use Rattle.log_lock.specs.Rule.{tickets_at, is_served, ticket_count, number_count, first_view, joined_view, spent_view, TurnFits, ViewFits, ValueFits, IsKept}
use Rattle.log_lock.specs.Steps.{ComparesSources, without_last, last_alone}
use Rattle.std.specs.List.{All, Contains}
use mathlib.Core.Option.{none, some, some-injective, some-ne-none}
use mathlib.Core.Option as maybe
use native.Mathlib.Decide.{ℕ_discrete}
use lib.ListN.{get_elem?}
use lib.Seq.{set-get_or}
use Rattle.atomic_table.specs.Table.{State, Me, step, keeps, Allows, Splits, Joins, opening}
use Rattle.atomic_table.proofs.Lists.{at_set, set_else, at_longer}
use Rattle.log_lock.specs.declared.knowledge.View.{View}
use Rattle.log_lock.specs.declared.knowledge.Turn.{Turn}
use Rattle.log_lock.specs.declared.knowledge.Turn.TheVariants.{Idle}
use Rattle.log_lock.proofs.QueueSteps.{value_stays, false-true}

-- the numbers of one seat go to another
moved : (ℕ → ℕ) → ℕ → ℕ → ℕ → ℕ
moved owner from to k = pick (ℕ_discrete (owner k) from) to (owner k)

moved_from : (owner : ℕ → ℕ) (from to k : ℕ) → owner k ≡ from → moved owner from to k ≡ to
unfolding moved
moved_from owner from to k e = go (ℕ_discrete (owner k) from)
  where
    go : (d : Dec (owner k ≡ from)) → pick d to (owner k) ≡ to
    go (yes _) = refl
    go (no n) = absurd (n e)

moved_else : (owner : ℕ → ℕ) (from to k : ℕ) → owner k ≢ from → moved owner from to k ≡ owner k
unfolding moved
moved_else owner from to k n = go (ℕ_discrete (owner k) from)
  where
    go : (d : Dec (owner k ≡ from)) → pick d to (owner k) ≡ owner k
    go (yes e) = absurd (n e)
    go (no _) = refl

module _ {T I B : Type 0} (entries : T → List I) (maker : I → ℕ) (base_of : T → B) (b : B) (n : ℕ) where
  abbrev V : Type 0
  V = View I B

  abbrev St : Type 0
  St = State (Option T) V

  abbrev M : Type 0
  M = Me (Option T) V

  abbrev Rule : St → Type 0
  Rule = IsKept entries maker base_of b n

  value_longer : (log : List I) (serving : ℕ) (holder : ℕ → ℕ) (homes : List (maybe.Option (Option T))) (views : List V) (w : V) (away : Bool)
      → ValueFits entries base_of b log serving holder homes views away → ValueFits entries base_of b log serving holder homes (views ++ w ∷ []) away
  value_longer log serving holder homes views w false x = x
  value_longer log serving holder homes views w true x = (x.0, (x.1.0, at_longer views (w ∷ []) (holder serving) x.1.0 x.1.1, x.1.2, x.1.3))

  idle : (s : St) (r : Rule s) (j : ℕ) (st : Turn) → st ≡ Idle → TurnFits r.next r.serving r.holder r.out j st
  idle s r j st e = subst (TurnFits r.next r.serving r.holder r.out j) (sym e) tt

  pub splits : (id m : ℕ) (v : V) → v.turn ≡ Idle → v.knows.number ≡ 0 → v.knows.numbers ≡ numbers_below m → 1 < m → Splits Rule id v (without_last v) (last_alone v)
  splits id m v out zeroth firsts many s r at =
      let last : ℕ = length v.knows.numbers - 1 in
      let count : length v.knows.numbers ≡ m = ap length firsts ∙ length_numbers_below m in
      let left : V = without_last v in
      let right : V = last_alone v in
      let k = r.views id v at in
      let live = k.of_lock (omega (arith, count, many)) in
      let has : (x : ℕ) → x < m → Contains v.knows.numbers x = λ x l. subst (λ (z : List ℕ). Contains z x) (sym firsts) (contains_numbers_below m x l) in
      let last_in : last < m = omega (arith, count, many) in
      let mine = k.numbers last (has last last_in) in
      let no_ticket : ticket_count v ≡ 0 = ap tickets_at out in
      let long : length (set s.views id left) ≡ length s.views = length-set s.views id left in
      let owner : ℕ → ℕ = put r.owner last (length s.views) in
      let inside : (j : ℕ) (d : V) → get_elem? (set s.views id left) j ≡ some d → ViewFits maker b n r.log owner j d = seats_stay (ViewFits maker b n r.log owner) s.views id left
      record {
        of_lock = λ _. (live.0, live.1, subst (Contains (numbers_below last)) (sym zeroth) (contains_numbers_below last 0 (omega (arith, count, many))));
        ticket = omega (arith, no_ticket);
        seen = (
          k.seen.0,
          k.seen.1,
          All-weaker (λ e. ¬ Contains v.knows.numbers (maker e)) (λ e. ¬ Contains (numbers_below last) (maker e))
              (λ e not h. not (has (maker e) (let l = numbers_below_contains last (maker e) h in omega (arith, l, last_in)))) k.seen.0 k.seen.2,
        );
        numbers = λ x h. let l = numbers_below_contains last x h in let o = k.numbers x (has x (omega (arith, l, last_in))) in (put_else r.owner last (length s.views) x (λ e. omega (arith, l, e)) ∙ o.0, o.1);
        sources = k.sources;
      }
      (λ j d other there. let o = r.views j d there in record {
        of_lock = o.of_lock;
        ticket = o.ticket;
        seen = o.seen;
        numbers = λ x h. let p = o.numbers x h in (put_else r.owner last (length s.views) x (λ e. other (sym p.0 ∙ (ap r.owner e ∙ mine.0))) ∙ p.0, p.1);
        sources = o.sources;
      }) in
      let outside : ViewFits maker b n r.log owner (length s.views) right =
      record {
        of_lock = λ _. (live.0, live.1, Contains-get_or (last ∷ []) 0 last (omega arith));
        ticket = omega (arith, no_ticket);
        seen = (
          k.seen.0,
          k.seen.1,
          All-weaker (λ e. ¬ Contains v.knows.numbers (maker e)) (λ e. ¬ Contains (last ∷ []) (maker e))
              (λ e not h. not (subst (Contains v.knows.numbers) (contains_one last (maker e) h) (has last last_in))) k.seen.0 k.seen.2,
        );
        numbers = λ x h. let e = contains_one last x h in subst (λ (z : ℕ). (owner z ≡ length s.views) × (z < n)) e (put_here r.owner last (length s.views), mine.1);
        sources = k.sources;
      } in
      record {
        log = r.log;
        next = r.next;
        serving = r.serving;
        owner = owner;
        holder = r.holder;
        out = r.out;
        words = r.words;
        few = r.few;
        all_numbers = (let q = sum_by_set number_count s.views id v left at in let p = sum_by_snoc number_count (set s.views id left) right in let a = r.all_numbers in let z = length_numbers_below last in omega (arith, q, p, a, z, count, many));
        all_tickets = (let q = sum_by_set ticket_count s.views id v left at in let p = sum_by_snoc ticket_count (set s.views id left) right in let a = r.all_tickets in omega (arith, q, p, a, no_ticket));
        makers = r.makers;
        value = value_longer r.log r.serving r.holder s.homes (set s.views id left) right r.out
            (value_stays entries maker base_of b n r.log r.serving r.holder r.holder s.homes s.views id v left at (ap is_served out) (λ u there is. refl) r.out r.value);
        turns = λ j d there. ⊎_elim (seats_stay (λ x y. TurnFits r.next r.serving r.holder r.out x y.turn) s.views id left (idle s r id left.turn out) (λ x y _. r.turns x y) j d)
            (λ t. subst (λ (y : V). TurnFits r.next r.serving r.holder r.out j y.turn) t.1 (idle s r j right.turn out)) (snoc_at (set s.views id left) right d j there);
        views = λ j d there. ⊎_elim (inside j d) (λ t. subst (λ (y : V). ViewFits maker b n r.log owner j y) t.1 (subst (λ (x : ℕ). ViewFits maker b n r.log owner x right) (sym (t.0 ∙ long)) outside)) (snoc_at (set s.views id left) right d j there);
      }

  known_else : (s : St) (r : Rule s) (id other : ℕ) (both : V) (owner : ℕ → ℕ) → ((x : ℕ) → r.owner x ≢ other → owner x ≡ r.owner x) → ViewFits maker b n r.log owner id both
      → (j : ℕ) (d : V) → j ≢ other → get_elem? (set s.views id both) j ≡ some d → ViewFits maker b n r.log owner j d
  known_else s r id other both owner same known j d not_other here = ⊎_elim (λ (t : (j ≡ id) × (both ≡ d)). subst (λ (x : ℕ × V). ViewFits maker b n r.log owner x.0 x.1) (λ i. (sym t.0 i, t.1 i)) known)
      (λ (t : (j ≢ id) × (get_elem? s.views j ≡ some d)). let o = r.views j d t.1 in record {
        of_lock = o.of_lock;
        ticket = o.ticket;
        seen = o.seen;
        numbers = λ x h. let p = o.numbers x h in (same x (λ e. not_other (sym p.0 ∙ e)) ∙ p.0, p.1);
        sources = o.sources;
      }) (at_set s.views id j both d here)

  pub joins : (id : ℕ) (v : V) (other : ℕ) (w : V) → v.turn ≡ Idle → w.turn ≡ Idle → 0 < length v.knows.numbers → Joins Rule id v other w (joined_view v w) spent_view
  joins id v other w out w_out some_number s r at apart there =
      let both : V = joined_view v w in
      let w_at : get_elem? s.views other ≡ some w = sym (set_else s.views id other both apart) ∙ there in
      let k = r.views id v at in
      let l = r.views other w w_at in
      let no_ticket : ticket_count v ≡ 0 = ap tickets_at out in
      let w_no_ticket : ticket_count w ≡ 0 = ap tickets_at w_out in
      let together = extends_both maker v.knows.numbers w.knows.numbers v.knows.seen w.knows.seen r.log k.seen l.seen in
      let live = k.of_lock some_number in
      let owner : ℕ → ℕ = moved r.owner other id in
      record {
        log = r.log;
        next = r.next;
        serving = r.serving;
        owner = owner;
        holder = r.holder;
        out = r.out;
        words = r.words;
        few = r.few;
        all_numbers = (let q = sum_by_set number_count s.views id v both at in let p = sum_by_set number_count (set s.views id both) other w spent_view there in let a = r.all_numbers in let z = length-append v.knows.numbers w.knows.numbers in omega (arith, q, p, a, z));
        all_tickets = (let q = sum_by_set ticket_count s.views id v both at in let p = sum_by_set ticket_count (set s.views id both) other w spent_view there in let a = r.all_tickets in omega (arith, q, p, a, no_ticket, w_no_ticket));
        makers = r.makers;
        value = value_stays entries maker base_of b n r.log r.serving r.holder r.holder s.homes (set s.views id both) other w spent_view there (ap is_served w_out) (λ u _ _. refl) r.out
            (value_stays entries maker base_of b n r.log r.serving r.holder r.holder s.homes s.views id v both at (ap is_served out) (λ u _ _. refl) r.out r.value);
        turns = seats_stay (λ x y. TurnFits r.next r.serving r.holder r.out x y.turn) (set s.views id both) other spent_view tt
            (λ j d _. seats_stay (λ x y. TurnFits r.next r.serving r.holder r.out x y.turn) s.views id both (idle s r id both.turn out) (λ x y _. r.turns x y) j d);
        views = seats_stay (ViewFits maker b n r.log owner) (set s.views id both) other spent_view
            record {
              of_lock = λ h. absurd (omega (arith, h));
              ticket = omega arith;
              seen = (r.log, refl, (λ x d _ h. (let z = h.1 in omega (arith, z))));
              numbers = λ x h. (let z = h.1 in absurd (omega (arith, z)));
              sources = tt;
            }
            (λ j d not_other here. known_else s r id other both owner (λ x e. moved_else r.owner other id x e) record {
              of_lock = λ _. (live.0, live.1, Contains-append_left v.knows.numbers w.knows.numbers v.knows.number live.2);
              ticket = omega (arith, no_ticket);
              seen = together.2;
              numbers = λ x h. ⊎_elim (λ t. let o = k.numbers x t in (moved_else r.owner other id x (λ e. apart (sym e ∙ o.0)) ∙ o.0, o.1)) (λ t. let o = l.numbers x t in (moved_from r.owner other id x o.0, o.1)) (Contains-append_cases v.knows.numbers w.knows.numbers x h);
              sources = (together.0, (together.1, tt));
            } j d not_other here);
      }

  pub compares : (slots id : ℕ) (me : M) → me.0.turn ≡ Idle → Allows Rule slots id me 0 (λ x. x) (ComparesSources maker (step slots 0 0 0 none) me)
  compares slots id me out s r deep at fits =
      let v = me.0 in
      let w : V = record v { sources = [] } in
      let k = r.views id v at in (
        w,
        keeps,
        tt,
        record {
          log = r.log;
          next = r.next;
          serving = r.serving;
          owner = r.owner;
          holder = r.holder;
          out = r.out;
          words = set-get_or s.words 0 0 ∙ r.words;
          few = r.few;
          all_numbers = (let q = sum_by_set number_count s.views id v w at in let a = r.all_numbers in omega (arith, q, a));
          all_tickets = (let q = sum_by_set ticket_count s.views id v w at in let a = r.all_tickets in omega (arith, q, a));
          makers = r.makers;
          value = value_stays entries maker base_of b n r.log r.serving r.holder r.holder s.homes s.views id v w at (ap is_served out) (λ u _ _. refl) r.out r.value;
          turns = seats_stay (λ x y. TurnFits r.next r.serving r.holder r.out x y.turn) s.views id w (idle s r id w.turn out) (λ x y _. r.turns x y);
          views = seats_stay (ViewFits maker b n r.log r.owner) s.views id w record { of_lock = k.of_lock; ticket = k.ticket; seen = k.seen; numbers = k.numbers; sources = tt } (λ x y _. r.views x y);
        },
        (refl, k.sources),
      )

  pub closes : (s : St) (r : Rule s) (id : ℕ) (v : V) → get_elem? s.views id ≡ some v → v.turn ≡ Idle → 0 < length v.knows.numbers → ((k : ℕ) → k < v.knows.count → Contains v.knows.numbers k)
      → (value : T) × (s.homes ≡ some (Some value) ∷ []) × (entries value ≡ v.knows.seen) × (v.knows.base ≡ Some (base_of value)) × All (λ e. maker e < v.knows.count) v.knows.seen
  closes s r id v at out some_number all =
      let k = r.views id v at in
      let live = k.of_lock some_number in
      let all_n : (x : ℕ) → x < n → Contains v.knows.numbers x = λ x l. all x (subst (λ (z : ℕ). x < z) (sym live.1) l) in
      let log_is : r.log ≡ v.knows.seen = nothing_more k.seen.0 k.seen.1 k.seen.2 all_n in
      let home = at_rest all_n r.out r.value in
      (home.0, home.1, home.2 ∙ log_is, live.0 ∙ ap Some (sym home.3), subst (λ (z : ℕ × List I). All (λ e. maker e < z.0) z.1) (λ i. (sym live.1 i, log_is i)) r.makers)
    where
      nothing_more : (more : List I) → r.log ≡ v.knows.seen ++ more → All (λ e. ¬ Contains v.knows.numbers (maker e)) more → ((x : ℕ) → x < n → Contains v.knows.numbers x) → r.log ≡ v.knows.seen
      nothing_more [] e none_of all_n = e ∙ append-nil v.knows.seen
      nothing_more (x ∷ xs) e none_of all_n =
          absurd (All-head (λ y. ¬ Contains v.knows.numbers (maker y)) x xs none_of
          (all_n (maker x) (All-head (λ y. maker y < n) x xs (all_right (λ y. maker y < n) v.knows.seen (x ∷ xs) (subst (All (λ y. maker y < n)) e r.makers)))))

      at_rest : ((x : ℕ) → x < n → Contains v.knows.numbers x) → (away : Bool) → ValueFits entries base_of b r.log r.serving r.holder s.homes s.views away
          → (value : T) × (s.homes ≡ some (Some value) ∷ []) × (entries value ≡ r.log) × (base_of value ≡ b)
      at_rest all_n false x = x
      at_rest all_n true x =
          let u = x.1.0 in
          let o = r.views (r.holder r.serving) u x.1.1 in
          let has_ticket : ticket_count u ≡ 1 = ap tickets_at x.1.2 in
          let t = o.ticket in
          let first = get_or u.knows.numbers 0 0 in
          let p = o.numbers first (Contains-get_or u.knows.numbers 0 0 (omega (arith, has_ticket, t))) in
          let q = k_mine first (all_n first p.1) in
          absurd (false-true (sym (ap is_served out) ∙ (ap (λ (z : V). is_served z.turn) (sym (same_at s.views (r.holder r.serving) id u v (sym p.0 ∙ q.0) x.1.1 at)) ∙ ap is_served x.1.2)))
        where
          k_mine : (x : ℕ) → Contains v.knows.numbers x → (r.owner x ≡ id) × (x < n)
          k_mine = (r.views id v at).numbers

module _ {T I B : Type 0} (entries : T → List I) (maker : I → ℕ) (base_of : T → B) (value : T) (n : ℕ) where
  first_turns : (first : View I B) → first ≡ first_view (base_of value) n → (j : ℕ) (d : View I B) → get_elem? (first ∷ []) j ≡ some d → TurnFits 0 0 (λ _. 0) false j d.turn
  first_turns first is zero d e = subst (λ (y : View I B). TurnFits 0 0 (λ _. 0) false 0 y.turn) (sym is ∙ some-injective first d e) tt
  first_turns first is (suc j) d e = absurd (some-ne-none d (sym e))

  first_views : (first : View I B) → first ≡ first_view (base_of value) n → 0 < n → (j : ℕ) (d : View I B) → get_elem? (first ∷ []) j ≡ some d → ViewFits maker (base_of value) n [] (λ _. 0) j d
  first_views first is some_n zero d e = subst (λ (y : View I B). ViewFits maker (base_of value) n [] (λ _. 0) 0 y) (sym is ∙ some-injective first d e)
      record { of_lock = λ _. (refl, refl, contains_numbers_below n 0 some_n); ticket = omega arith; seen = extends_self maker (numbers_below n) []; numbers = λ x h. (refl, numbers_below_contains n x h); sources = tt }
  first_views first is some_n (suc j) d e = absurd (some-ne-none d (sym e))

  -- the first state
  pub opens : entries value ≡ [] → 0 < n → n ≤ 64 → IsKept entries maker base_of (base_of value) n (opening (0 ∷ 0 ∷ []) (Some value ∷ []) (first_view (base_of value) n))
  opens empty some_n few = record {
    log = [];
    next = 0;
    serving = 0;
    owner = λ _. 0;
    holder = λ _. 0;
    out = false;
    words = refl;
    few = few;
    all_numbers = (let z = length_numbers_below n in omega (arith, z));
    all_tickets = refl;
    makers = All-nil (λ e. maker e < n);
    value = (value, refl, empty, refl);
    turns = first_turns (first_view (base_of value) n) refl;
    views = first_views (first_view (base_of value) n) refl some_n;
  }

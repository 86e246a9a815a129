-- The steps of the queue keep the rule: drawing a ticket, loading the serving number, advancing it.
use Rattle.std.proofs.Common.{◌≡◌, ◌≢◌, ℕ, ◌+◌, ◌%◌, ◌^◌, ◌<◌, ◌≤◌, Bool, true, false, List, [], ◌∷◌, ◌++◌, length, get_or, set, sym, refl, ap, ◌∙◌, subst, arith, Option, Some, None}
use Rattle.std.proofs.lemmas.List.{append-nil, append_assoc}
use Rattle.std.proofs.lemmas.List.Elements.{All-nil, All-append, All-weaker}
use Rattle.std.proofs.Math.Nat.{mod-add-mod}
use Rattle.log_lock.proofs.Lists.{sum_by_set, sum_by_le, seats_stay, set_there, same_at, put, put_here, put_else}
use Rattle.log_lock.specs.Knowledge.{ExtendsByOthers}
use Rattle.log_lock.specs.Rule.{tickets_at, ticket_of, is_served, ticket_count, number_count, TurnFits, ViewFits, ValueFits, IsKept}
use Rattle.log_lock.specs.Steps.{at_turn, after_seeing, DrawsTicket, LooksForTurn, GivesBack}
use Rattle.std.specs.List.{All, Contains}
use mathlib.Core.Logic.{dite}
use mathlib.Core.Option.{none, some}
use mathlib.Core.Option as maybe
use native.Mathlib.Decide.{ℕ_discrete}
use lib.ListN.{get_elem?}
use lib.Seq.{set-get_or}
use Rattle.atomic_table.specs.Table.{State, Me, step, keeps, takes, gives, stepped, Allows, rest}
use Rattle.atomic_table.proofs.Lists.{set_again, set_else, one_turn}
use Rattle.log_lock.specs.declared.knowledge.View.{View}
use Rattle.log_lock.specs.declared.knowledge.Turn.{Turn}
use Rattle.log_lock.specs.declared.knowledge.Turn.TheVariants.{Idle, Waiting, Served}

pub false-true : false ≡ true → ⊥
false-true e = cc

pub some_of : {B : Type 0} (a b : B) → Some a ≡ Some b → a ≡ b
some_of a b e = cc

module _ {T : Type 0} where
  option_or : T → Option T → T
  option_or d None = d
  option_or d (Some y) = y

  -- the value in hand, or d
  value_in : T → List (ℕ × Option T) → T
  value_in d [] = d
  value_in d (x ∷ xs) = option_or d x.1

  pub hand_same : (a b : T) (xs ys : List (ℕ × Option T)) → (0, Some a) ∷ xs ≡ (0, Some b) ∷ ys → a ≡ b
  unfolding option_or value_in
  hand_same a b xs ys e = ap (value_in a) e

module _ {T I B : Type 0} (entries : T → List I) (maker : I → ℕ) (base_of : T → B) (b : B) (n : ℕ) where
  abbrev V : Type 0
  V = View I B

  abbrev St : Type 0
  St = State (Option T) V

  abbrev M : Type 0
  M = Me (Option T) V

  abbrev Rule : St → Type 0
  Rule = IsKept entries maker base_of b n

  -- there are fewer tickets out than there are numbers, and so no two alike modulo 2 ^ 64
  short : (s : St) (r : Rule s) → r.next ≤ r.serving + 64
  short s r =
      let t = sum_by_le ticket_count number_count s.views (λ j v e. (r.views j v e).ticket) in
      let q = r.all_tickets in
      let k = r.all_numbers in
      let f = r.few in
      omega (arith, t, q, k, f)

  -- a seat that is not LooksForTurn may change its view and the holders of other ticket_count
  pub value_stays : (log : List I) (serving : ℕ) (holder holder' : ℕ → ℕ) (homes : List (maybe.Option (Option T))) (views : List V) (me : ℕ) (v w : V) → get_elem? views me ≡ some v → is_served v.turn ≡ false
      → ((u : V) → get_elem? views (holder serving) ≡ some u → u.turn ≡ Served serving → holder' serving ≡ holder serving) → (away : Bool) → ValueFits entries base_of b log serving holder homes views away
      → ValueFits entries base_of b log serving holder' homes (set views me w) away
  value_stays log serving holder holder' homes views me v w at out same false x = x
  value_stays log serving holder holder' homes views me v w at out same true x =
      let u = x.1.0 in
      let e = same u x.1.1 x.1.2 in
      let other : holder serving ≢ me = λ is. false-true (sym out ∙ (ap (λ (z : V). is_served z.turn) (sym (same_at views (holder serving) me u v is x.1.1 at)) ∙ ap is_served x.1.2)) in
      (x.0, (u, ap (get_elem? (set views me w)) e ∙ (set_else views me (holder serving) w other ∙ x.1.1), x.1.2, x.1.3))

  draw_stays : (next serving : ℕ) (holder : ℕ → ℕ) (away : Bool) (j me : ℕ) (st : Turn) → TurnFits next serving holder away j st → TurnFits (next + 1) serving (put holder next me) away j st
  draw_stays next serving holder away j me Idle k = tt
  draw_stays next serving holder away j me (Waiting t) k = let l = k.1 in (k.0, omega (arith, l), put_else holder next me t (λ e. omega (arith, e, l)) ∙ k.2)
  draw_stays next serving holder away j me (Served t) k = let l = k.1 in (k.0, omega (arith, l), put_else holder next me t (λ e. omega (arith, e, l)) ∙ k.2, k.3)

  pub draws : (slots id : ℕ) (me : M) → me.0.turn ≡ Idle → 0 < length me.0.knows.numbers → Allows Rule slots id me 0 (λ x. (x + 1) % 2 ^ 64) (DrawsTicket (step slots 0 1 0 none) me)
  draws slots id me out some_number s r deep at fits =
      let v = me.0 in
      let w : V = at_turn (Waiting r.next) v in
      let k = r.views id v at in
      let queue = r.all_tickets in (
        w,
        keeps,
        tt,
        record {
          log = r.log;
          next = r.next + 1;
          serving = r.serving;
          owner = r.owner;
          holder = put r.holder r.next id;
          out = r.out;
          words = ap (λ (ws : List ℕ). set ws 0 ((get_or ws 0 0 + 1) % 2 ^ 64)) r.words ∙ ap (λ (z : ℕ). z ∷ r.serving % 2 ^ 64 ∷ []) (mod-add-mod r.next (2 ^ 64) 1);
          few = r.few;
          all_numbers = (let t = sum_by_set number_count s.views id v w at in let a = r.all_numbers in omega (arith, t, a));
          all_tickets = (let t = sum_by_set ticket_count s.views id v w at in let z : ticket_count v ≡ 0 = ap tickets_at out in omega (arith, t, z, queue));
          makers = r.makers;
          value = value_stays r.log r.serving r.holder (put r.holder r.next id) s.homes s.views id v w at (ap is_served out)
              (λ u there is. put_else r.holder r.next id r.serving (λ e. let l = (subst (TurnFits r.next r.serving r.holder r.out (r.holder r.serving)) is (r.turns (r.holder r.serving) u there)).1 in omega (arith, l, e))) r.out r.value;
          turns = seats_stay (λ j d. TurnFits (r.next + 1) r.serving (put r.holder r.next id) r.out j d.turn) s.views id w (omega (arith, queue), omega arith, put_here r.holder r.next id)
              (λ j d other there. draw_stays r.next r.serving r.holder r.out j id d.turn (r.turns j d there));
          views = seats_stay (ViewFits maker b n r.log r.owner) s.views id w record { of_lock = k.of_lock; ticket = omega (arith, some_number); seen = k.seen; numbers = k.numbers; sources = k.sources } (λ j d other there. r.views j d there);
        },
        (r.next, sym (ap (λ (ws : List ℕ). get_or ws 0 0) r.words), refl),
      )

  take_stays : (next serving : ℕ) (holder : ℕ → ℕ) (away : Bool) (j : ℕ) (st : Turn) → TurnFits next serving holder away j st → TurnFits next serving holder true j st
  take_stays next serving holder away j Idle k = tt
  take_stays next serving holder away j (Waiting t) k = k
  take_stays next serving holder away j (Served t) k = (k.0, k.1, k.2, refl)

  -- where one waits whose ticket is LooksForTurn, the value is at home
  at_home : (s : St) (r : Rule s) (id t : ℕ) (v : V) → get_elem? s.views id ≡ some v → v.turn ≡ Waiting t → r.holder r.serving ≡ id → (away : Bool) → ValueFits entries base_of b r.log r.serving r.holder s.homes s.views away
      → (value : T) × (s.homes ≡ some (Some value) ∷ []) × (entries value ≡ r.log) × (base_of value ≡ b)
  at_home s r id t v at is mine false x = x
  at_home s r id t v at is mine true x =
      let u = x.1.0 in
      absurd (false-true (sym (ap is_served is) ∙ (ap (λ (z : V). is_served z.turn) (sym (same_at s.views (r.holder r.serving) id u v mine x.1.1 at)) ∙ ap is_served x.1.2)))

  pub serves : (slots id t : ℕ) (me : M) → me.1 ≡ [] → me.0.turn ≡ Waiting t → 0 < length me.0.knows.numbers → Allows Rule slots id me 1 (λ x. x) (LooksForTurn entries maker base_of (step slots 1 0 0 none) me)
  serves slots id t me nothing is some_number s r deep at fits =
      let v = me.0 in
      let k = r.views id v at in
      let st = subst (TurnFits r.next r.serving r.holder r.out id) is (r.turns id v at) in
      let same : ticket_of v.turn ≡ t = ap ticket_of is in
      let word : get_or s.words 1 0 ≡ r.serving % 2 ^ 64 = ap (λ (ws : List ℕ). get_or ws 1 0) r.words in
      let still : set s.words 1 (get_or s.words 1 0) ≡ s.words = set-get_or s.words 1 0 in
      dite (ℕ_discrete (ticket_of v.turn % 2 ^ 64) (get_or s.words 1 0))
      (λ hit.
      let few = short s r in
      let low = st.0 in
      let high = st.1 in
      let turn : r.serving ≡ t = one_turn r.serving t (2 ^ 64) low (omega (arith, high, few)) (sym word ∙ (sym hit ∙ ap (λ (z : ℕ). z % 2 ^ 64) same)) in
      let mine : r.holder r.serving ≡ id = ap r.holder turn ∙ st.2 in
      let home = at_home s r id t v at is mine r.out r.value in
      let value = home.0 in
      let w : V = after_seeing (entries value) (Served (ticket_of v.turn)) v in
      let turn_is : Served (ticket_of v.turn) ≡ Served r.serving = ap Served (same ∙ sym turn) in
      let grown : ExtendsByOthers maker v.knows (entries value) = subst (ExtendsByOthers maker v.knows) (sym home.2) k.seen in (
        w,
        takes 0 (Some value),
        ap (λ (hs : List (maybe.Option (Option T))). get_elem? hs 0) home.1,
        record {
          log = r.log;
          next = r.next;
          serving = r.serving;
          owner = r.owner;
          holder = r.holder;
          out = true;
          words = still ∙ r.words;
          few = r.few;
          all_numbers = (let q = sum_by_set number_count s.views id v w at in let a = r.all_numbers in omega (arith, q, a));
          all_tickets = (let q = sum_by_set ticket_count s.views id v w at in let z : ticket_count v ≡ 1 = ap tickets_at is in let a = r.all_tickets in omega (arith, q, z, a));
          makers = r.makers;
          value = (
            ap (λ (hs : List (maybe.Option (Option T))). set hs 0 none) home.1,
            (w, ap (get_elem? (set s.views id w)) mine ∙ set_there s.views id v w at, turn_is, home.2),
          );
          turns = seats_stay (λ j d. TurnFits r.next r.serving r.holder true j d.turn) s.views id w (same ∙ sym turn, omega (arith, high, same), ap r.holder same ∙ st.2, refl)
              (λ j d other there. take_stays r.next r.serving r.holder r.out j d.turn (r.turns j d there));
          views = seats_stay (ViewFits maker b n r.log r.owner) s.views id w
              record { of_lock = k.of_lock; ticket = omega (arith, some_number); seen = ([], sym (append-nil (entries value) ∙ home.2), All-nil _); numbers = k.numbers; sources = tt } (λ j d other there. r.views j d there);
        },
        (λ _. (value, refl, grown, (k.of_lock some_number).0 ∙ ap Some (sym home.3)), λ not. absurd (not hit)),
      ))
      (λ miss. (
        v,
        keeps,
        tt,
        subst (λ (ws : List ℕ). Rule record { words = ws; homes = s.homes; views = set s.views id v }) (sym still)
            (subst (λ (vs : List V). Rule record { words = s.words; homes = s.homes; views = vs }) (sym (set_again s.views id v at)) r),
        (λ hit. absurd (miss hit), λ _. refl),
      ))

  give_stays : (next serving : ℕ) (holder : ℕ → ℕ) (away : Bool) (id j : ℕ) (st : Turn) → holder serving ≡ id → j ≢ id → TurnFits next serving holder away j st → TurnFits next (serving + 1) holder false j st
  give_stays next serving holder away id j Idle mine other k = tt
  give_stays next serving holder away id j (Waiting t) mine other k =
      let l = k.0 in
      let apart : t ≢ serving = λ e. other (sym k.2 ∙ (ap holder e ∙ mine)) in
      (omega (arith, l, apart), k.1, k.2)
  give_stays next serving holder away id j (Served t) mine other k = absurd (other (sym k.2 ∙ (ap holder k.0 ∙ mine)))

  turn_of_served : (st : Turn) → is_served st ≡ true → st ≡ Served (ticket_of st)
  turn_of_served Idle e = absurd (false-true e)
  turn_of_served (Waiting t) e = absurd (false-true e)
  turn_of_served (Served t) e = refl

  -- the LooksForTurn seat has the value, and knows the log
  in_hand : (s : St) (r : Rule s) (id : ℕ) (v : V) → get_elem? s.views id ≡ some v → r.holder r.serving ≡ id → (away : Bool) → away ≡ true → ValueFits entries base_of b r.log r.serving r.holder s.homes s.views away
      → (s.homes ≡ none ∷ []) × (v.knows.seen ≡ r.log)
  in_hand s r id v at mine false e x = absurd (false-true e)
  in_hand s r id v at mine true e x = (x.0, ap (λ (z : V). z.knows.seen) (same_at s.views id (r.holder r.serving) v x.1.0 (sym mine) at x.1.1) ∙ x.1.3)

  -- what a seat knows stays so where entries of a number that does not stand in it are added
  others_know : (log added : List I) (owner : ℕ → ℕ) (j id by : ℕ) (d : V) → j ≢ id → owner by ≡ id → All (λ e. maker e ≡ by) added → ViewFits maker b n log owner j d → ViewFits maker b n (log ++ added) owner j d
  others_know log added owner j id by d other owns made k =
      let h = k.seen in
      record {
        of_lock = k.of_lock;
        ticket = k.ticket;
        seen = (
          h.0 ++ added,
          ap (λ (z : List I). z ++ added) h.1 ∙ append_assoc d.knows.seen h.0 added,
          All-append (λ e. ¬ Contains d.knows.numbers (maker e)) h.0 added h.2 (All-weaker (λ e. maker e ≡ by) (λ e. ¬ Contains d.knows.numbers (maker e)) (λ e is there. other (sym (k.numbers by (subst (Contains d.knows.numbers) is there)).0 ∙ owns)) added made),
        );
        numbers = k.numbers;
        sources = k.sources;
      }

  pub gives_back : (slots id : ℕ) (me : M) (value : T) (added : List I) → me.1 ≡ (0, Some value) ∷ [] → is_served me.0.turn ≡ true → 0 < length me.0.knows.numbers → me.0.knows.base ≡ Some (base_of value)
      → entries value ≡ me.0.knows.seen ++ added → All (λ e. maker e ≡ me.0.knows.number) added → Allows Rule slots id me 1 (λ x. (x + 1) % 2 ^ 64) (GivesBack entries (step slots 1 1 0 none) me)
  gives_back slots id me value added hand is some_number base grown own s r deep at fits =
      let v = me.0 in
      let k = r.views id v at in
      let turn_is = turn_of_served v.turn is in
      let st = subst (TurnFits r.next r.serving r.holder r.out id) turn_is (r.turns id v at) in
      let mine : r.holder r.serving ≡ id = ap r.holder (sym st.0) ∙ st.2 in
      let got = in_hand s r id v at mine r.out st.3 r.value in
      let w : V = after_seeing (entries value) Idle v in
      let live = k.of_lock some_number in
      let number = k.numbers v.knows.number live.2 in
      let log_is : entries value ≡ r.log ++ added = grown ∙ ap (λ (z : List I). z ++ added) got.1 in
      let below_n : (x : ℕ) → x ≡ v.knows.number → x < n = λ x e. (let l = number.1 in omega (arith, l, e)) in (
        w,
        gives,
        tt,
        subst (λ (c : List (ℕ × Option T)). Rule (stepped s 1 ((get_or s.words 1 0 + 1) % 2 ^ 64) id c w gives)) (sym hand) record {
          log = r.log ++ added;
          next = r.next;
          serving = r.serving + 1;
          owner = r.owner;
          holder = r.holder;
          out = false;
          words = ap (λ (ws : List ℕ). set ws 1 ((get_or ws 1 0 + 1) % 2 ^ 64)) r.words ∙ ap (λ (z : ℕ). r.next % 2 ^ 64 ∷ z ∷ []) (mod-add-mod r.serving (2 ^ 64) 1);
          few = r.few;
          all_numbers = (let q = sum_by_set number_count s.views id v w at in let a = r.all_numbers in omega (arith, q, a));
          all_tickets = (let q = sum_by_set ticket_count s.views id v w at in let z : ticket_count v ≡ 1 = ap tickets_at turn_is in let a = r.all_tickets in omega (arith, q, z, a));
          makers = All-append (λ e. maker e < n) r.log added r.makers (All-weaker (λ e. maker e ≡ v.knows.number) (λ e. maker e < n) (λ e. below_n (maker e)) added own);
          value = (value, ap (λ (hs : List (maybe.Option (Option T))). set hs 0 (some (Some value))) got.0, log_is, some_of _ _ (sym base ∙ live.0));
          turns = seats_stay (λ j d. TurnFits r.next (r.serving + 1) r.holder false j d.turn) s.views id w tt
              (λ j d other there. give_stays r.next r.serving r.holder r.out id j d.turn mine other (r.turns j d there));
          views = seats_stay (ViewFits maker b n (r.log ++ added) r.owner) s.views id w
              record { of_lock = k.of_lock; ticket = omega arith; seen = ([], sym (append-nil (entries value) ∙ log_is), All-nil _); numbers = k.numbers; sources = tt }
              (λ j d other there. others_know r.log added r.owner j id v.knows.number d other number.0 own (r.views j d there));
        },
        λ value' hand'. let e = hand_same value value' [] [] (sym hand ∙ hand') in λ i. (after_seeing (entries (e i)) Idle v, (ap rest hand) i),
      )

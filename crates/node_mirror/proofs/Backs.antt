use Rattle.std.proofs.Common.{◌≡◌, ◌≢◌, ℕ, zero, suc, ◌+◌, ◌<◌, ◌≤◌, List, [], ◌∷◌, ◌++◌, length, filter, ◌&&◌, Option, Some, None, Bool, true, false, cond, not, nat_eq, nat_lt, nat_le, refl, sym, ◌∙◌, ap, subst, arith, ◌⊎◌, inl, inr}
use Rattle.std.specs.Option.{option_map_or}
use Rattle.std.proofs.lemmas.Bool.Decides.{eqb_tells, nat_tests}
use Rattle.host_port.specs.declared.start.Start.{Start}
use Rattle.world_rules.specs.declared.life.Ended.{Ended as EndMemory}
use Rattle.world_rules.specs.Arrivals as Came
use Rattle.world_rules.specs.Changes.{reached, with_arrival}
use Rattle.world_rules.specs.Lives.{Setting, IsMemoryOf, EndsAreMemories}
use Rattle.world_rules.specs.Rules.{turned, recorded, home, streamed_in}
use Rattle.world_rules.specs.Sound.{AreInOrder, IsInOrder, is_born, is_drawn}
use Rattle.world_rules.specs.Unmet.{NothingWanted}
use Rattle.host_port.specs.declared.request.Request.{Request}
use Rattle.world_rules.specs.Views.{Given, is_starved, clock_in, want_of, wanted_in}
use Rattle.world_rules.specs.Time.{clocked, at_time}
use Rattle.world_rules.specs.World.{World, Process, Stage, Ready, Out, Exit, is_away, is_ended, is_live, is_waiting, up_to, unended_count}
use Rattle.node_state.specs.Seats.{Meaning}
use Rattle.node_laws.proofs.ReadyList.{nat_eq_same, nat_eq_other, true_is_not_false}
use Rattle.node_laws.proofs.Tallies.{Tally}
use Rattle.node_laws.proofs.Goes.{Alters, all-one}
use Rattle.node_laws.proofs.Worlds.{Becomes, starved, come_home, recording, becomes-recorded, becomes-home}
use Rattle.node_mirror.specs.Slots.{Slot, Away, SlotFits}
use Rattle.node_mirror.specs.Held.{Held, Mirrors, HaveEnded, HasProgram, away_count}
use Rattle.node_mirror.specs.Steps.{replaced, back}
use Rattle.node_mirror.proofs.Rising.{turn_rise}

-- A process that was out is back from its worker, and at home.

-- NAMES AND LINKS stay

pub record Rest : Type 0 where
  pub names : List ℕ → Option ℕ
  pub links : ℕ → ℕ → Option ℕ

abbrev pub rest_of : World → Rest
rest_of w = record { names = w.names; links = w.links }

rest_clocked : (clock : Option ℕ) (w : World) → rest_of (option_map_or (λ now. at_time now w) clock w) ≡ rest_of w
rest_clocked None w = refl
rest_clocked (Some now) w = refl

rest_streamed : (request : Option Request) (give : Given) (w : World) → rest_of (streamed_in request give w) ≡ rest_of w
rest_streamed None give w = refl
rest_streamed (Some request) give w = refl

rest_starved : (b : Bool) (give : Given) (w : World) → rest_of (cond b (with_arrival w give.pid (Came.Starved (length give.calls))) w) ≡ rest_of w
rest_starved true give w = refl
rest_starved false give w = refl

pub rest-recorded : (w : World) (give : Given) → rest_of (recorded w give) ≡ rest_of w
rest-recorded w give =
    let wanted : Option Request = wanted_in (want_of give.halt) (w.process give.pid).owed in
    rest_starved (is_starved give.halt) give (streamed_in wanted give (clocked give.side w))
    ∙ rest_streamed wanted give (clocked give.side w) ∙ rest_clocked (clock_in give.side) w

-- COMING HOME

-- the world in which one process, that was out, is this one: so much is counted, the processes are in order, and
-- nothing else is changed that a node keeps
pub record ComesBack (w v : World) (pid : ℕ) (p : Process) (n : Tally) : Type 0 where
  pub becomes : Becomes w v pid p n
  pub order : AreInOrder v
  pub rest : rest_of v ≡ rest_of w

starved_stage : (b : Bool) (p : Process) (give : Given) → (turned (cond b (reached p (Came.Starved (length give.calls))) p) give).stage ≡ p.stage
starved_stage true p give = refl
starved_stage false p give = refl

-- after what is always recorded of a turn, the process is where it was
pub recorded-stage : (w : World) (give : Given) → ((recorded w give).process give.pid).stage ≡ (w.process give.pid).stage
recorded-stage w give =
    ap (λ (x : Process). x.stage) (becomes-recorded w give).alters.at ∙ starved_stage (is_starved give.halt) (w.process give.pid) give

-- one who is out has a number that was drawn
pub out-drawn : (w : World) (pid worker : ℕ) → AreInOrder w → (w.process pid).stage ≡ Out worker → is_drawn w pid ≡ true
out-drawn w pid worker order out = by (is_drawn w pid) refl
  where
    by : (b : Bool) → is_drawn w pid ≡ b → is_drawn w pid ≡ true
    by true is = is
    by false is = true_is_not_false (sym (ap is_away out) ∙ ap (λ (p : Process). is_away p.stage) (order.undrawn pid is))

both_true : (a b : Bool) → (a && b) ≡ true → (a ≡ true) × (b ≡ true)
both_true true b e = (refl, e)
both_true false b e = true_is_not_false (sym e)

within : (a b : ℕ) → (nat_lt 0 a && nat_le a b) ≡ true → (1 ≤ a) × (a ≤ b)
within a b e = let both = both_true _ _ e in (low both.0, high both.1)
  where
    low : nat_lt 0 a ≡ true → 1 ≤ a
    low h = grind (arith, nat_tests, h)

    high : nat_le a b ≡ true → a ≤ b
    high h = grind (arith, nat_tests, h)

-- where one process, that was out, is live, and nothing else is changed, the processes are in order
pub orders-one : (w v : World) (pid worker : ℕ) (p : Process) → AreInOrder w → (w.process pid).stage ≡ Out worker → Alters w v pid p → v.over ≡ w.over → rest_of v ≡ rest_of w
    → is_live p.stage ≡ true → is_born p.stage ≡ true → IsInOrder pid p → AreInOrder v
orders-one w v pid worker p order out a over rest live born each =
    let drawn_same : (q : ℕ) → is_drawn v q ≡ is_drawn w q = λ q i. nat_lt 0 q && nat_le q (a.drawn i) in
    let live_same : (q : ℕ) → is_live (v.process q).stage ≡ is_live (w.process q).stage =
    all-one w v pid p (λ q x. is_live x.stage ≡ is_live (w.process q).stage) a (live ∙ sym (ap is_live out)) (λ q other. refl) in
    record {
      undrawn = λ q none.
          let before : is_drawn w q ≡ false = sym (drawn_same q) ∙ none in
          a.others q (λ same. true_is_not_false (sym (out-drawn w pid worker order out) ∙ ap (λ (k : ℕ). is_drawn w k) (sym same) ∙ before)) ∙ order.undrawn q before;
      drawn = λ q is. all-one w v pid p (λ r x. is_drawn w r ≡ true → is_born x.stage ≡ true) a (λ _. born) (λ r other. order.drawn r) q (sym (drawn_same q) ∙ is);
      each = all-one w v pid p (λ q x. IsInOrder q x) a each (λ q other. order.each q);
      over = λ is q. live_same q ∙ order.over (sym over ∙ is) q;
      names = λ name q is. live_same q ∙ order.names name q (ap (λ (r : Rest). r.names name) (sym rest) ∙ is);
      links = λ x y tag is.
          let both = order.links x y tag (ap (λ (r : Rest). r.links x y) (sym rest) ∙ is) in (live_same x ∙ both.0, live_same y ∙ both.1);
    }

-- what holds of a process, and of it with what arrived at it, holds after want of memory may have arrived
pub each-starved : (p : Process) (give : Given) (P : Process → Type 0) → P p → P (reached p (Came.Starved (length give.calls))) → P (starved p give)
each-starved p give P here there =
    one (is_starved give.halt)
  where
    one : (b : Bool) → P (cond b (reached p (Came.Starved (length give.calls))) p)
    one true = there
    one false = here

-- the process is in order where it has come home
home_order : (pid worker : ℕ) (p : Process) (give : Given) → IsInOrder pid p → p.stage ≡ Out worker → IsInOrder pid (come_home p give)
home_order pid worker p give order out =
    each-starved p give (λ x. IsInOrder pid (record (turned x give) { stage = Ready })) (one p order out) (one (reached p (Came.Starved (length give.calls)))
    (record { own = order.own; deadline = order.deadline; mail = order.mail; handles = order.handles }) out)
  where
    one : (x : Process) → IsInOrder pid x → x.stage ≡ Out worker → IsInOrder pid (record (turned x give) { stage = Ready })
    one x o at = record { own = λ _. o.own (ap is_born at); deadline = λ _. o.deadline (ap is_waiting at); mail = o.mail; handles = turn_rise x give o.handles }

-- the process comes home from a turn
pub comes-home : (w : World) (give : Given) (worker : ℕ) → AreInOrder w → (w.process give.pid).stage ≡ Out worker
    → ComesBack w (home (recorded w give) give.pid) give.pid (come_home (w.process give.pid) give) (recording w give)
comes-home w give worker order out =
    let b = becomes-home w give in
    record {
      becomes = b;
      order = orders-one w (home (recorded w give) give.pid) give.pid worker (come_home (w.process give.pid) give) order out b.alters b.over (rest-recorded w give) refl refl
          (home_order give.pid worker (w.process give.pid) give (order.each give.pid) out);
      rest = rest-recorded w give;
    }

-- HOW MANY

-- as many are away of the numbers below the one that changes
same_count : (ps qs : ℕ → Process) (pid n : ℕ) → ((q : ℕ) → q ≢ pid → is_away (qs q).stage ≡ is_away (ps q).stage) → n < pid → away_count qs n ≡ away_count ps n
same_count ps qs pid zero same less = refl
same_count ps qs pid (suc n) same less =
    let rest : away_count qs n ≡ away_count ps n = same_count ps qs pid n same (omega (arith, less)) in
    let here : is_away (qs (suc n)).stage ≡ is_away (ps (suc n)).stage = same (suc n) (λ is. omega (arith, less, is)) in
    (λ i. rest i + cond (here i) 1 0)

-- one worker fewer has a process where the one that changes comes home
pub one-home : (ps qs : ℕ → Process) (pid n : ℕ) → ((q : ℕ) → q ≢ pid → is_away (qs q).stage ≡ is_away (ps q).stage) → is_away (ps pid).stage ≡ true → is_away (qs pid).stage ≡ false
    → 1 ≤ pid → pid ≤ n → away_count qs n + 1 ≡ away_count ps n
one-home ps qs pid zero same was is low high = let none : ⊥ = omega (arith, low, high) in absurd none
one-home ps qs pid (suc n) same was is low high = by (λ less. one-home ps qs pid n same was is low less) (eqb_tells (suc n) pid)
  where
    lower : suc n ≢ pid → pid ≤ n
    lower other = omega (arith, high, other)

    by : (pid ≤ n → away_count qs n + 1 ≡ away_count ps n) → ((nat_eq (suc n) pid ≡ true) × (suc n ≡ pid)) ⊎ ((nat_eq (suc n) pid ≡ false) × (suc n ≢ pid))
        → away_count qs (suc n) + 1 ≡ away_count ps (suc n)
    by fewer (inl here) =
        let same_is = here.1 in
        let less : n < pid = omega (arith, same_is) in
        let rest : away_count qs n ≡ away_count ps n = same_count ps qs pid n same less in
        let now : is_away (qs (suc n)).stage ≡ false = ap (λ (k : ℕ). is_away (qs k).stage) here.1 ∙ is in
        let before : is_away (ps (suc n)).stage ≡ true = ap (λ (k : ℕ). is_away (ps k).stage) here.1 ∙ was in
        rw (now, before, rest) (omega arith)
    by fewer (inr other) =
        let rest : away_count qs n + 1 ≡ away_count ps n = fewer (lower other.1) in
        let stays : is_away (qs (suc n)).stage ≡ is_away (ps (suc n)).stage = same (suc n) other.1 in
        rw stays (omega (arith, rest))

-- as many haven't ended
pub unended-same : (w v : World) → ((q : ℕ) → is_ended (v.process q).stage ≡ is_ended (w.process q).stage) → v.numbers_drawn ≡ w.numbers_drawn → unended_count v ≡ unended_count w
unended-same w v same drawn = λ i. length (filter (λ q. not (same q i)) (up_to (drawn i)))

-- ENDS

-- who has ended keeps what it had
pub ended-stay : (ps after : ℕ → Process) (exits : List Exit) → HaveEnded ps exits → ((q : ℕ) → is_ended (ps q).stage ≡ true → after q ≡ ps q) → HaveEnded after exits
ended-stay ps after [] h same = tt
ended-stay ps after (exit ∷ exits) h same = (ap (λ (p : Process). is_ended p.stage) (same exit.pid h.0) ∙ h.0, ended-stay ps after exits h.1 same)

pub ends-stay : {P : Type 0} (setting : Setting P) (ps after : ℕ → Process) (exits : List Exit) (memories : List EndMemory) → HaveEnded ps exits
    → ((q : ℕ) → is_ended (ps q).stage ≡ true → after q ≡ ps q) → EndsAreMemories setting ps exits memories → EndsAreMemories setting after exits memories
ends-stay setting ps after [] [] h same ends = tt
ends-stay setting ps after [] (memory ∷ memories) h same ends = absurd ends
ends-stay setting ps after (exit ∷ exits) [] h same ends = absurd ends
ends-stay setting ps after (exit ∷ exits) (memory ∷ memories) h same ends =
    (ends.0, subst (λ (p : Process). IsMemoryOf setting p memory) (sym (same exit.pid h.0)) ends.1, ends-stay setting ps after exits memories h.1 same ends.2)

-- THE MIRROR

-- a process whose slot is away is out to its worker
pub away-out : {E P : Type 0} {engines : Meaning E P} {setting : Setting P} {w : World} {held : Held E} {ends : List EndMemory} (pid worker : ℕ)
    → Mirrors engines setting w held ends → held.slots pid ≡ Away worker → (w.process pid).stage ≡ Out worker
away-out {E = E} {engines = engines} {setting = setting} {w = w} pid worker mirrors away =
    subst (λ (s : Slot E). SlotFits engines setting.programs (w.process pid) s) away (mirrors.slots pid)

-- BACK. Where a Give makes one process, at home, of the one that was out, the node that has it back in a slot that fits
-- mirrors what the Give has made.
pub becomes-mirrors : {E P : Type 0} (engines : Meaning E P) (setting : Setting P) (w v : World) (was : Held E) (ends : List EndMemory) (pid worker : ℕ) (p : Process) (n : Tally) (slot : Slot E)
    (time streams : ℕ) (shed : List ℕ) → Mirrors engines setting w was ends → was.slots pid ≡ Away worker → ComesBack w v pid p n
    → p.stage ≡ Ready → p.start ≡ (w.process pid).start → p.mail ≡ (w.process pid).mail → p.deadline ≡ (w.process pid).deadline → SlotFits engines setting.programs p slot
    → n.sends ≡ was.sends → n.time ≡ time → n.streams ≡ streams → n.closed ≡ was.closed ++ shed
    → Mirrors engines setting v (record (back was pid slot time shed) { streams = streams }) ends
becomes-mirrors engines setting w v was ends pid worker p n slot time streams shed m away c ready started mailed due fits sends time_is streams_is closed =
    let b = c.becomes in
    let a = b.alters in
    let out : (w.process pid).stage ≡ Out worker = away-out pid worker m away in
    let drawn = within pid w.numbers_drawn (out-drawn w pid worker m.order out) in
    let at_home : is_away (v.process pid).stage ≡ false = ap (λ (x : Process). is_away x.stage) a.at ∙ ap is_away ready in
    let ended_same : (q : ℕ) → is_ended (v.process q).stage ≡ is_ended (w.process q).stage =
    all-one w v pid p (λ q x. is_ended x.stage ≡ is_ended (w.process q).stage) a (ap is_ended ready ∙ sym (ap is_ended out)) (λ q other. refl) in
    let away_same : (q : ℕ) → q ≢ pid → is_away (v.process q).stage ≡ is_away (w.process q).stage = λ q other. ap (λ (x : Process). is_away x.stage) (a.others q other) in
    let fewer : away_count v.process w.numbers_drawn + 1 ≡ away_count w.process w.numbers_drawn =
    one-home w.process v.process pid w.numbers_drawn away_same (ap is_away out) at_home drawn.0 drawn.1 in
    let was_out = m.out in
    let stays : (q : ℕ) → is_ended (w.process q).stage ≡ true → v.process q ≡ w.process q =
    λ q ended. a.others q (λ same. true_is_not_false (sym ended ∙ ap (λ (k : ℕ). is_ended (w.process k).stage) same ∙ ap is_ended out)) in
    record {
      order = c.order;
      unmet = all-one w v pid p (λ q x. NothingWanted x.stage x.mail) a (subst (λ (s : Stage). NothingWanted s p.mail) (sym ready) tt) (λ q other. m.unmet q);
      programs = all-one w v pid p (λ q x. is_born x.stage ≡ true → HasProgram setting.programs x.start) a
          (λ born. subst (λ (s : Start). HasProgram setting.programs s) (sym started) (m.programs pid (ap is_born out))) (λ q other. m.programs q);
      slots = all-one w v pid p (λ q x. SlotFits engines setting.programs x (replaced was.slots pid slot q)) a (rw (nat_eq_same pid) fits)
          (λ q other. rw (nat_eq_other q pid other) (m.slots q));
      mail = all-one w v pid p (λ q x. x.mail ≡ was.mail q) a (mailed ∙ m.mail pid) (λ q other. m.mail q);
      deadlines = all-one w v pid p (λ q x. x.deadline ≡ was.deadlines q) a (due ∙ m.deadlines pid) (λ q other. m.deadlines q);
      names = λ name. ap (λ (r : Rest). r.names name) c.rest ∙ m.names name;
      numbers = a.drawn ∙ m.numbers;
      births = ap (λ (k : ℕ). k + 1) a.spawns ∙ m.births;
      drawn = rw (a.drawn, a.spawns) m.drawn;
      unended = unended-same w v ended_same a.drawn ∙ m.unended;
      out = rw a.drawn (omega (arith, fewer, was_out));
      sends = ap (λ (t : Tally). t.sends) b.counted ∙ sends;
      time = ap (λ (t : Tally). t.time) b.counted ∙ time_is;
      over = b.over ∙ m.over;
      streams = ap (λ (t : Tally). t.streams) b.counted ∙ streams_is;
      closed = ap (λ (t : Tally). t.closed) b.counted ∙ closed;
      ended = subst (λ (exits : List Exit). HaveEnded v.process exits) (sym b.exits) (ended-stay w.process v.process w.exits m.ended stays);
      memories = subst (λ (exits : List Exit). EndsAreMemories setting v.process exits ends) (sym b.exits) (ends-stay setting w.process v.process w.exits ends m.ended stays m.memories);
      room = m.room;
    }

use Rattle.std.proofs.Common.{◌≡◌, ◌≢◌, ◌⊎◌, ℕ, zero, suc, ◌+◌, ◌<◌, ◌≤◌, List, [], ◌∷◌, ◌++◌, length, length-append, append-nil, Option, Some, None, Bool, true, false, nat_eq, refl, sym, ◌∙◌, ap, subst, inl, inr, arith}
use Rattle.std.specs.Prelude.{nat_lt, nat_le, ◌&&◌, flat_map, if◌then◌else◌}
use Rattle.std.specs.Option.{option_map_or}
use Rattle.std.proofs.lemmas.Bool.Decides.{eqb_tells, leb_tells, nat_tests}
use Rattle.std.proofs.lemmas.Grind.{flat_map-append}
use Rattle.host_port.specs.declared.request.Request.{Request}
use Rattle.host_port.specs.declared.row.MayCome.{MayCome}
use Rattle.host_port.specs.declared.row.MayCome.TheVariants as Beside
use Rattle.world_rules.specs.declared.entry.Side.{Side}
use Rattle.world_rules.specs.declared.entry.Side.TheVariants as SideIs
use Rattle.world_rules.specs.declared.halt.Halt.{Halt}
use Rattle.world_rules.specs.declared.halt.Halt.TheVariants as HaltIs
use Rattle.world_rules.specs.declared.life.Birth.{Birth}
use Rattle.world_rules.specs.Views.{Given, Want, Goes, Wants, Retries, Ends, want_of, wanted_in, asked_in}
use Rattle.world_rules.specs.Calls.{call_of}
use Rattle.world_rules.specs.Kinds.{may_come}
use Rattle.world_rules.specs.Part.{Part, is_among, most_handles, handles_in, slots_of}
use Rattle.world_rules.specs.Mail.{mail_handles}
use Rattle.world_rules.specs.Judge.{charged}
use Rattle.world_rules.specs.Local.{part_after, AreLocal}
use Rattle.world_rules.specs.Handles.{closings_of}
use Rattle.world_rules.specs.Settled.{settled, ListenerBound}
use Rattle.world_rules.specs.Streams.{one_if}
use Rattle.world_rules.specs.World.{World, Process, up_to}
use Rattle.world_rules.specs.Rules.{part_after_turn}
use Rattle.world_rules.specs.Ends.{held_handles}
use Rattle.world_rules.specs.Births.{Terms}
use Rattle.world_rules.specs.Allowed.{handles_full, SideFits, WantFits, RetryEndsSo, GivesTurn}
use Rattle.world_rules.specs.Sound.{times, IsSound}
use Rattle.world_rules.specs.Placed.{all_streams, IsPlaced}
use Rattle.world_rules.specs.Touches.{nobody}
use Rattle.world_rules.specs.Lives.{Setting, terms_of}
use Rattle.world_rules.specs.laws.KeepingLaws.{false_is_true}
use Rattle.node_state.specs.Seats.{Meaning, IsOnce, part_handles}
use Rattle.node_state.specs.Fits.{Brought, TurnFits, PartFits, give_of, is_bound, with_bound, part_brought}
use Rattle.node_laws.proofs.Numbers.{times-append, absent, at-most}
use Rattle.node_laws.proofs.TurnStreams.{Keeps, calls-keep}

-- Where the streams of a sound world stand: no number is in two places.

-- SUMS

abbrev sum_to : (ℕ → ℕ) → ℕ → ℕ
sum_to t zero = 0
sum_to t (suc n) = sum_to t n + t (suc n)

one_within : (t : ℕ → ℕ) (n p : ℕ) → 0 < p → p ≤ n → t p ≤ sum_to t n
one_within t zero p low high = absurd (no low high)
  where
    no : 0 < p → p ≤ 0 → ⊥
    no low high = omega (arith, low, high)
one_within t (suc n) p low high = by (λ less. one_within t n p low less) (eqb_tells p (suc n))
  where
    here : (a b c : ℕ) → a ≡ c → a ≤ b + c
    here a b c e = omega (arith, e)

    there : (a b c : ℕ) → a ≤ b → a ≤ b + c
    there a b c e = omega (arith, e)

    lower : p ≤ suc n → p ≢ suc n → p ≤ n
    lower high other = omega (arith, high, other)

    by : (p ≤ n → t p ≤ sum_to t n) → ((nat_eq p (suc n) ≡ true) × (p ≡ suc n)) ⊎ ((nat_eq p (suc n) ≡ false) × (p ≢ suc n)) → t p ≤ sum_to t n + t (suc n)
    by rest (inl same) = here (t p) (sum_to t n) (t (suc n)) (ap t same.1)
    by rest (inr other) = there (t p) (sum_to t n) (t (suc n)) (rest (lower high other.1))

two_within : (t : ℕ → ℕ) (n p q : ℕ) → 0 < p → p ≤ n → 0 < q → q ≤ n → p ≢ q → t p + t q ≤ sum_to t n
two_within t zero p q low high low' high' apart = absurd (no low high)
  where
    no : 0 < p → p ≤ 0 → ⊥
    no low high = omega (arith, low, high)
two_within t (suc n) p q low high low' high' apart = by (λ less less'. two_within t n p q low less low' less' apart) (eqb_tells p (suc n)) (eqb_tells q (suc n))
  where
    first : (a b c d : ℕ) → a ≡ d → b ≤ c → a + b ≤ c + d
    first a b c d e f = omega (arith, e, f)

    second : (a b c d : ℕ) → b ≡ d → a ≤ c → a + b ≤ c + d
    second a b c d e f = omega (arith, e, f)

    third : (a b c d : ℕ) → a + b ≤ c → a + b ≤ c + d
    third a b c d e = omega (arith, e)

    lower : (k : ℕ) → k ≤ suc n → k ≢ suc n → k ≤ n
    lower k high other = omega (arith, high, other)

    by : (p ≤ n → q ≤ n → t p + t q ≤ sum_to t n) → ((nat_eq p (suc n) ≡ true) × (p ≡ suc n)) ⊎ ((nat_eq p (suc n) ≡ false) × (p ≢ suc n))
        → ((nat_eq q (suc n) ≡ true) × (q ≡ suc n)) ⊎ ((nat_eq q (suc n) ≡ false) × (q ≢ suc n)) → t p + t q ≤ sum_to t n + t (suc n)
    by rest (inl same) (inl too) = absurd (apart (same.1 ∙ sym too.1))
    by rest (inl same) (inr other) = first (t p) (t q) (sum_to t n) (t (suc n)) (ap t same.1) (one_within t n q low' (lower q high' other.1))
    by rest (inr other) (inl same) = second (t p) (t q) (sum_to t n) (t (suc n)) (ap t same.1) (one_within t n p low (lower p high other.1))
    by rest (inr other) (inr too) = third (t p) (t q) (sum_to t n) (t (suc n)) (rest (lower p high other.1) (lower q high' too.1))

-- ALL STREAMS

abbrev held_count : ℕ → World → ℕ → ℕ
held_count k w q = times k (held_handles (w.process q))

held_sum : (k : ℕ) (process : ℕ → Process) (n : ℕ) → times k (flat_map (λ pid. held_handles (process pid)) (up_to n)) ≡ sum_to (λ pid. times k (held_handles (process pid))) n
held_sum k process zero = refl
held_sum k process (suc n) =
    ap (λ (xs : List ℕ). times k xs) (flat_map-append (λ (pid : ℕ). held_handles (process pid)) (up_to n) (suc n ∷ []))
    ∙ times-append k (flat_map (λ pid. held_handles (process pid)) (up_to n)) (held_handles (process (suc n)) ++ [])
    ∙ ap (λ (xs : List ℕ). times k (flat_map (λ pid. held_handles (process pid)) (up_to n)) + times k xs) (append-nil (held_handles (process (suc n))))
    ∙ ap (λ (t : ℕ). t + times k (held_handles (process (suc n)))) (held_sum k process n)

all_sum : (k : ℕ) (w : World) → times k (all_streams w) ≡ sum_to (held_count k w) w.numbers_drawn + times k w.closed
all_sum k w =
    times-append k (flat_map (λ pid. held_handles (w.process pid)) (up_to w.numbers_drawn)) w.closed
    ∙ ap (λ (t : ℕ). t + times k w.closed) (held_sum k w.process w.numbers_drawn)

-- a number was drawn for a process, or wasn't
drawn_or : (pid n : ℕ) → ((0 < pid) × (pid ≤ n)) ⊎ ((nat_lt 0 pid && nat_le pid n) ≡ false)
drawn_or pid n = by (leb_tells 1 pid) (leb_tells pid n)
  where
    by : ((nat_le 1 pid ≡ true) × (1 ≤ pid)) ⊎ ((nat_le 1 pid ≡ false) × (pid < 1)) → ((nat_le pid n ≡ true) × (pid ≤ n)) ⊎ ((nat_le pid n ≡ false) × (n < pid))
        → ((0 < pid) × (pid ≤ n)) ⊎ ((nat_lt 0 pid && nat_le pid n) ≡ false)
    by (inl low) (inl high) = inl (low.1, high.1)
    by (inl low) (inr high) = inr (ap (λ (b : Bool). b && nat_le pid n) low.0 ∙ high.0)
    by (inr low) high = inr (ap (λ (b : Bool). b && nat_le pid n) low.0)

held_times : (k : ℕ) (p : Process) → times k (held_handles p) ≡ times k (part_handles p.part) + times k (mail_handles p.mail)
held_times k p = times-append k (part_handles p.part) (mail_handles p.mail)

nobody_holds : (k : ℕ) (w : World) (pid : ℕ) → w.process pid ≡ nobody → times k (held_handles (w.process pid)) ≡ 0
nobody_holds k w pid none = ap (λ (p : Process). times k (held_handles p)) none

-- a stream is in one place, and only where its number was drawn: of one process, and of two
pub apart-one : (w : World) → IsSound w → IsPlaced w → (k pid : ℕ)
    → times k (part_handles (w.process pid).part) + times k (mail_handles (w.process pid).mail) + times k w.closed ≤ one_if (nat_lt k w.streams) 0
apart-one w sound placed k pid =
    less (times k (held_handles (w.process pid))) (times k (part_handles (w.process pid).part)) (times k (mail_handles (w.process pid).mail)) (times k w.closed)
    (sum_to (held_count k w) w.numbers_drawn) (times k (all_streams w)) (one_if (nat_lt k w.streams) 0)
    (held_times k (w.process pid)) (all_sum k w) (placed.once k) (by (drawn_or pid w.numbers_drawn))
  where
    less : (h a b c s t o : ℕ) → h ≡ a + b → t ≡ s + c → t ≡ o → h ≤ s → a + b + c ≤ o
    less h a b c s t o e f g i = omega (arith, e, f, g, i)

    none : (a b : ℕ) → a ≡ 0 → a ≤ b
    none a b e = omega (arith, e)

    by : ((0 < pid) × (pid ≤ w.numbers_drawn)) ⊎ ((nat_lt 0 pid && nat_le pid w.numbers_drawn) ≡ false)
        → times k (held_handles (w.process pid)) ≤ sum_to (held_count k w) w.numbers_drawn
    by (inl drawn) = one_within (held_count k w) w.numbers_drawn pid drawn.0 drawn.1
    by (inr not_drawn) =
        none (times k (held_handles (w.process pid))) (sum_to (held_count k w) w.numbers_drawn) (nobody_holds k w pid (sound.processes.undrawn pid not_drawn))

pub apart-two : (w : World) → IsSound w → IsPlaced w → (k pid other : ℕ) → pid ≢ other
    → times k (part_handles (w.process pid).part) + (times k (part_handles (w.process other).part) + times k (mail_handles (w.process other).mail)) ≤ 1
apart-two w sound placed k pid other differs =
    less (times k (held_handles (w.process pid))) (times k (part_handles (w.process pid).part)) (times k (mail_handles (w.process pid).mail))
    (times k (held_handles (w.process other))) (times k (part_handles (w.process other).part)) (times k (mail_handles (w.process other).mail))
    (sum_to (held_count k w) w.numbers_drawn) (times k w.closed) (times k (all_streams w)) (one_if (nat_lt k w.streams) 0)
    (held_times k (w.process pid)) (held_times k (w.process other)) (all_sum k w) (placed.once k) (at_one (nat_lt k w.streams))
    (by (drawn_or pid w.numbers_drawn) (drawn_or other w.numbers_drawn))
  where
    less : (h a b i c d s z all o : ℕ) → h ≡ a + b → i ≡ c + d → all ≡ s + z → all ≡ o → o ≤ 1 → h + i ≤ s → a + (c + d) ≤ 1
    less h a b i c d s z all o e f g j l m = omega (arith, e, f, g, j, l, m)

    at_one : (b : Bool) → one_if b 0 ≤ 1
    at_one true = omega arith
    at_one false = omega arith

    first : (a b s : ℕ) → a ≡ 0 → b ≤ s → a + b ≤ s
    first a b s e f = omega (arith, e, f)

    second : (a b s : ℕ) → b ≡ 0 → a ≤ s → a + b ≤ s
    second a b s e f = omega (arith, e, f)

    none : (a b s : ℕ) → a ≡ 0 → b ≡ 0 → a + b ≤ s
    none a b s e f = omega (arith, e, f)

    by : ((0 < pid) × (pid ≤ w.numbers_drawn)) ⊎ ((nat_lt 0 pid && nat_le pid w.numbers_drawn) ≡ false)
        → ((0 < other) × (other ≤ w.numbers_drawn)) ⊎ ((nat_lt 0 other && nat_le other w.numbers_drawn) ≡ false) → held_count k w pid + held_count k w other ≤ sum_to (held_count k w) w.numbers_drawn
    by (inl one) (inl two) = two_within (held_count k w) w.numbers_drawn pid other one.0 one.1 two.0 two.1 differs
    by (inl one) (inr two) =
        second (held_count k w pid) (held_count k w other) (sum_to (held_count k w) w.numbers_drawn) (nobody_holds k w other (sound.processes.undrawn other two))
        (one_within (held_count k w) w.numbers_drawn pid one.0 one.1)
    by (inr one) (inl two) =
        first (held_count k w pid) (held_count k w other) (sum_to (held_count k w) w.numbers_drawn) (nobody_holds k w pid (sound.processes.undrawn pid one))
        (one_within (held_count k w) w.numbers_drawn other two.0 two.1)
    by (inr one) (inr two) =
        none (held_count k w pid) (held_count k w other) (sum_to (held_count k w) w.numbers_drawn) (nobody_holds k w pid (sound.processes.undrawn pid one))
        (nobody_holds k w other (sound.processes.undrawn other two))

one_bound : (b : Bool) (n : ℕ) → n ≤ one_if b 0 → n ≤ 1
one_bound true n e = e
one_bound false n e = omega (arith, e)

pub hands-once : (w : World) → IsSound w → IsPlaced w → (pid : ℕ) → IsOnce (w.process pid).part
hands-once w sound placed pid = record {
  once = λ k. less (times k (part_handles (w.process pid).part)) (times k (mail_handles (w.process pid).mail)) (times k w.closed)
      (one_bound (nat_lt k w.streams) _ (apart-one w sound placed k pid));
}
  where
    less : (a b c : ℕ) → a + b + c ≤ 1 → a ≤ 1
    less a b c e = omega (arith, e)

-- ROOM

pub closed-room : (w : World) → IsSound w → IsPlaced w → (pid : ℕ)
    → length w.closed + (length (part_handles (w.process pid).part) + length (mail_handles (w.process pid).mail)) ≤ w.streams
closed-room w sound placed pid =
    let hands : List ℕ = part_handles (w.process pid).part in
    let mail : List ℕ = mail_handles (w.process pid).mail in
    bound (length (w.closed ++ (hands ++ mail))) (length w.closed) (length (hands ++ mail)) (length hands) (length mail) w.streams
    (length-append w.closed (hands ++ mail)) (length-append hands mail)
    (at-most w.streams (w.closed ++ (hands ++ mail)) (λ k.
    few (times k (w.closed ++ (hands ++ mail))) (times k w.closed) (times k (hands ++ mail)) (times k hands) (times k mail) (one_if (nat_lt k w.streams) 0)
    (times-append k w.closed (hands ++ mail)) (times-append k hands mail) (apart-one w sound placed k pid)))
  where
    bound : (all a bc b c n : ℕ) → all ≡ a + bc → bc ≡ b + c → all ≤ n → a + (b + c) ≤ n
    bound all a bc b c n e f g = omega (arith, e, f, g)

    few : (all a bc b c o : ℕ) → all ≡ a + bc → bc ≡ b + c → b + c + a ≤ o → all ≤ o
    few all a bc b c o e f g = omega (arith, e, f, g)

-- WHAT IS BROUGHT BACK

turn_local : (terms : Option Terms) (births : List Birth) (w : World) (p : Process) (give : Given) (owed : Option Request) → GivesTurn terms births w p give owed → AreLocal p.start p.part give.calls
turn_local terms births w p give None turn = turn.local
turn_local terms births w p give (Some request) turn = subst (λ calls. AreLocal p.start p.part calls) (sym turn.calls) tt

-- the same streams are in hand
record SameHands (part after : Part) : Type 0 where
  handles : part.handles ≡ after.handles
  scratch : part.scratch ≡ after.scratch

same_parts : (part after : Part) → part ≡ after → SameHands part after
same_parts part after same = record { handles = ap (λ (x : Part). x.handles) same; scratch = ap (λ (x : Part). x.scratch) same }

fits_hands : (part : Part) (halt : Halt) (after : Part) → PartFits part halt after → SameHands part after
fits_hands part HaltIs.Slice after fits = same_parts part after fits
fits_hands part (HaltIs.Asks request) after fits = same_parts part after fits
fits_hands part HaltIs.Done after fits = same_parts part after fits
fits_hands part (HaltIs.Trap trap) after fits = same_parts part after fits
fits_hands part (HaltIs.Spent spent) after fits = same_parts part after fits
fits_hands part (HaltIs.Host fault request) after fits = same_parts part after fits
fits_hands part HaltIs.NoMemory after fits = record { handles = ap (λ (x : Part). x.handles) fits; scratch = ap (λ (x : Part). x.scratch) fits }
fits_hands part HaltIs.Again after fits = same_parts part after fits

if_bound : (b : Bool) (part : Part) → SameHands (if b then settled part ListenerBound else part) part
if_bound true part = record { handles = refl; scratch = refl }
if_bound false part = record { handles = refl; scratch = refl }

bound_hands : (request : Option Request) (side : Side) (part : Part) → SameHands (with_bound request side part) part
bound_hands None side part = record { handles = refl; scratch = refl }
bound_hands (Some request) side part = if_bound (is_bound (call_of request) side) part

charged_hands : (asked : Option Request) (part : Part) → SameHands (option_map_or (λ (request : Request). charged request part) asked part) part
charged_hands None part = record { handles = refl; scratch = refl }
charged_hands (Some request) part = record { handles = refl; scratch = refl }

then_hands : (a b c : Part) → SameHands a b → SameHands b c → SameHands a c
then_hands a b c first second = record { handles = first.handles ∙ second.handles; scratch = first.scratch ∙ second.scratch }

brought_hands : {E P : Type 0} (engines : Meaning E P) (setting : Setting P) (births : List Birth) (w : World) (worker pid : ℕ) (brought : Brought E)
    → TurnFits engines setting births w worker pid brought
    → SameHands brought.seat.part (part_after (w.process pid).start (w.process pid).part brought.calls)
brought_hands {E = E} engines setting births w worker pid brought fits =
    let p : Process = w.process pid in
    let give : Given = give_of worker pid brought in
    let after : Part = part_after p.start p.part brought.calls in
    then_hands brought.seat.part (part_brought p give) after (fits_hands brought.seat.part brought.halt (part_brought p give) fits.seated.part)
    (then_hands (part_brought p give) (part_after_turn p give) after (bound_hands (wanted_in (want_of give.halt) p.owed) give.side (part_after_turn p give))
    (charged_hands (asked_in give.halt) after))

-- the streams of the table are those that the turn left
pub brought-handles : {E P : Type 0} (engines : Meaning E P) (setting : Setting P) (births : List Birth) (w : World) (worker pid : ℕ) (brought : Brought E)
    → TurnFits engines setting births w worker pid brought
    → brought.seat.part.handles ≡ (part_after (w.process pid).start (w.process pid).part brought.calls).handles
brought-handles engines setting births w worker pid brought fits = (brought_hands engines setting births w worker pid brought fits).handles

-- what is brought back in hand, and what the turn's calls closed, is together what was in hand
pub brought-keeps : {E P : Type 0} (engines : Meaning E P) (setting : Setting P) (births : List Birth) (w : World) (worker pid : ℕ) (brought : Brought E) → IsSound w → IsPlaced w
    → TurnFits engines setting births w worker pid brought → Keeps (w.process pid).part brought.seat.part brought.shed
brought-keeps {E = E} engines setting births w worker pid brought sound placed fits k =
    let p : Process = w.process pid in
    let give : Given = give_of worker pid brought in
    let after : Part = part_after p.start p.part brought.calls in
    let same : SameHands brought.seat.part after = brought_hands engines setting births w worker pid brought fits in
    sum (times k (part_handles brought.seat.part)) (times k (part_handles after)) (times k brought.shed) (times k (closings_of p.start p.part brought.calls)) (times k (part_handles p.part))
    (λ i. times k (same.handles i ++ handles_in (slots_of (same.scratch i))))
    (ap (λ (xs : List ℕ). times k xs) fits.seated.closed)
    (calls-keep p.start p.part brought.calls (turn_local (Some (terms_of setting)) births w p give p.owed fits.allowed.turn) (hands-once w sound placed pid) k)
  where
    sum : (a b c d t : ℕ) → a ≡ b → c ≡ d → b + d ≡ t → a + c ≡ t
    sum a b c d t e f g = omega (arith, e, f, g)

pub brought-once : {E P : Type 0} (engines : Meaning E P) (setting : Setting P) (births : List Birth) (w : World) (worker pid : ℕ) (brought : Brought E) → IsSound w → IsPlaced w
    → TurnFits engines setting births w worker pid brought → IsOnce brought.seat.part
brought-once {E = E} engines setting births w worker pid brought sound placed fits = record {
  once = λ k. less (times k (part_handles brought.seat.part)) (times k brought.shed) (times k (part_handles (w.process pid).part))
      (brought-keeps engines setting births w worker pid brought sound placed fits k) ((hands-once w sound placed pid).once k);
}
  where
    less : (a b t : ℕ) → a + b ≡ t → t ≤ 1 → a ≤ 1
    less a b t e f = omega (arith, e, f)

pub brought-room : {E P : Type 0} (engines : Meaning E P) (setting : Setting P) (births : List Birth) (w : World) (worker pid : ℕ) (brought : Brought E) → IsSound w → IsPlaced w
    → TurnFits engines setting births w worker pid brought
    → length w.closed + (length brought.shed + (length (part_handles brought.seat.part) + length (mail_handles (w.process pid).mail))) ≤ w.streams
brought-room {E = E} engines setting births w worker pid brought sound placed fits =
    let hands : List ℕ = part_handles brought.seat.part in
    let mail : List ℕ = mail_handles (w.process pid).mail in
    bound (length (w.closed ++ (brought.shed ++ (hands ++ mail)))) (length w.closed) (length (brought.shed ++ (hands ++ mail))) (length brought.shed) (length (hands ++ mail)) (length hands)
    (length mail) w.streams (length-append w.closed (brought.shed ++ (hands ++ mail))) (length-append brought.shed (hands ++ mail)) (length-append hands mail)
    (at-most w.streams (w.closed ++ (brought.shed ++ (hands ++ mail))) (λ k.
    few (times k (w.closed ++ (brought.shed ++ (hands ++ mail)))) (times k w.closed) (times k (brought.shed ++ (hands ++ mail))) (times k brought.shed) (times k (hands ++ mail)) (times k hands)
    (times k mail) (times k (part_handles (w.process pid).part)) (one_if (nat_lt k w.streams) 0)
    (times-append k w.closed (brought.shed ++ (hands ++ mail))) (times-append k brought.shed (hands ++ mail)) (times-append k hands mail)
    (brought-keeps engines setting births w worker pid brought sound placed fits k) (apart-one w sound placed k pid)))
  where
    bound : (all a bcd b cd c d n : ℕ) → all ≡ a + bcd → bcd ≡ b + cd → cd ≡ c + d → all ≤ n → a + (b + (c + d)) ≤ n
    bound all a bcd b cd c d n e f g h = omega (arith, e, f, g, h)

    few : (all a bcd b cd c d t o : ℕ) → all ≡ a + bcd → bcd ≡ b + cd → cd ≡ c + d → c + b ≡ t → t + d + a ≤ o → all ≤ o
    few all a bcd b cd c d t o e f g h i = omega (arith, e, f, g, h, i)

-- the next number is of none in hand
pub fresh-number : (w : World) → IsSound w → IsPlaced w → (k pid : ℕ) → w.streams ≤ k → times k (part_handles (w.process pid).part) ≡ 0
fresh-number w sound placed k pid more =
    none (times k (part_handles (w.process pid).part)) (times k (mail_handles (w.process pid).mail)) (times k w.closed)
    (subst (λ (b : Bool). times k (part_handles (w.process pid).part) + times k (mail_handles (w.process pid).mail) + times k w.closed ≤ one_if b 0) (isnt k w.streams more)
    (apart-one w sound placed k pid))
  where
    none : (a b c : ℕ) → a + b + c ≤ 0 → a ≡ 0
    none a b c e = omega (arith, e)

    isnt : (a b : ℕ) → b ≤ a → nat_lt a b ≡ false
    isnt a b h = grind (arith, nat_tests)

pub brought-undrawn : {E P : Type 0} (engines : Meaning E P) (setting : Setting P) (births : List Birth) (w : World) (worker pid : ℕ) (brought : Brought E) → IsSound w → IsPlaced w
    → TurnFits engines setting births w worker pid brought → is_among (part_handles brought.seat.part) w.streams ≡ false
brought-undrawn {E = E} engines setting births w worker pid brought sound placed fits =
    absent w.streams (part_handles brought.seat.part)
    (none (times w.streams (part_handles brought.seat.part)) (times w.streams brought.shed) (times w.streams (part_handles (w.process pid).part))
    (brought-keeps engines setting births w worker pid brought sound placed fits w.streams) (fresh-number w sound placed w.streams pid (same w.streams)))
  where
    none : (a b t : ℕ) → a + b ≡ t → t ≡ 0 → a ≡ 0
    none a b t e f = omega (arith, e, f)

    same : (n : ℕ) → n ≤ n
    same n = omega arith

-- A PLACE FOR THE OPENED STREAM

opened_side : (come : Option MayCome) (w : World) (pid : ℕ) (part : Part) (request : Request) → SideFits come w pid part request SideIs.Opened → handles_full part ≡ false
opened_side None w pid part request fits = absurd fits
opened_side (Some Beside.Nothing) w pid part request fits = absurd fits
opened_side (Some Beside.Clock) w pid part request fits = absurd fits
opened_side (Some (Beside.Answer true true)) w pid part request fits = fits
opened_side (Some (Beside.Answer true false)) w pid part request fits = absurd fits
opened_side (Some (Beside.Answer false true)) w pid part request fits = fits
opened_side (Some (Beside.Answer false false)) w pid part request fits = absurd fits

not_opened : (side : Side) → side ≡ SideIs.Nothing → side ≡ SideIs.Opened → ⊥
not_opened side a b = cc

want_opened : (want : Want) (terms : Option Terms) (births : List Birth) (w : World) (p : Process) (give : Given) → WantFits terms births w p give want → give.side ≡ SideIs.Opened
    → handles_full (part_after_turn p give) ≡ false
want_opened Goes terms births w p give fits is = absurd (not_opened give.side fits.0 is)
want_opened (Wants request) terms births w p give fits is =
    opened_side (may_come request) w give.pid (part_after_turn p give) request (subst
    (λ (side : Side). SideFits (may_come request) w give.pid (part_after_turn p give) request side) is fits.beside.side)
want_opened Retries terms births w p give fits is = absurd fits
want_opened (Ends end) terms births w p give fits is = absurd (not_opened give.side fits.0 is)

retry_opened : (want : Want) (terms : Option Terms) (births : List Birth) (w : World) (p : Process) (give : Given) (request : Request) → RetryEndsSo terms births w p give request want
    → give.side ≡ SideIs.Opened → handles_full p.part ≡ false
retry_opened Goes terms births w p give request fits is = absurd fits
retry_opened (Wants other) terms births w p give request fits is = absurd fits
retry_opened Retries terms births w p give request fits is =
    opened_side (may_come request) w give.pid p.part request (subst (λ (side : Side). SideFits (may_come request) w give.pid p.part request side) is fits.side)
retry_opened (Ends end) terms births w p give request fits is = absurd (not_opened give.side fits.1 is)

turn_opened : (owed : Option Request) (terms : Option Terms) (births : List Birth) (w : World) (p : Process) (give : Given) → GivesTurn terms births w p give owed → give.side ≡ SideIs.Opened
    → handles_full (part_after p.start p.part give.calls) ≡ false
turn_opened None terms births w p give turn is =
    ap (λ (xs : List ℕ). nat_le most_handles (length xs)) (sym (charged_hands (asked_in give.halt) (part_after p.start p.part give.calls)).handles)
    ∙ want_opened (want_of give.halt) terms births w p give turn.halted is
turn_opened (Some request) terms births w p give turn is =
    ap (λ calls. handles_full (part_after p.start p.part calls)) turn.calls ∙ retry_opened (want_of give.halt) terms births w p give request turn.halted is

pub brought-place : {E P : Type 0} (engines : Meaning E P) (setting : Setting P) (births : List Birth) (w : World) (worker pid : ℕ) (brought : Brought E)
    → TurnFits engines setting births w worker pid brought → brought.side ≡ SideIs.Opened → length brought.seat.part.handles < most_handles
brought-place engines setting births w worker pid brought fits is =
    let p : Process = w.process pid in
    below (length brought.seat.part.handles)
    (ap (λ (xs : List ℕ). nat_le most_handles (length xs)) (brought-handles engines setting births w worker pid brought fits)
    ∙ turn_opened p.owed (Some (terms_of setting)) births w p (give_of worker pid brought) fits.allowed.turn is)
  where
    below : (n : ℕ) → nat_le most_handles n ≡ false → n < most_handles
    below n e = by (leb_tells most_handles n)
      where
        by : ((nat_le most_handles n ≡ true) × (most_handles ≤ n)) ⊎ ((nat_le most_handles n ≡ false) × (n < most_handles)) → n < most_handles
        by (inl h) = false_is_true (sym e ∙ h.0)
        by (inr h) = h.1

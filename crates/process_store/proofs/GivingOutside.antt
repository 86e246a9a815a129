use Rattle.std.specs.Prelude.{IfSome}
use Rattle.std.proofs.Common.{◌≡◌, ◌≤◌, ◌<◌, ◌^◌, ◌*◌, ◌||◌, ◌⊎◌, ℕ, ◌+◌, List, [], ◌∷◌, ◌++◌, All, Contains, Option, Some, None, Bool, true, false, filter, length, length-append, nat_eq, nat_lt, if◌then◌else◌, refl, arith, sym, ◌∙◌, ap, subst, inl, inr}
use Rattle.std.proofs.Math.Logic.{∥∥₁_map}
use Rattle.std.proofs.lemmas.Bool.Decides.{nat_tests}
use Rattle.std.proofs.lemmas.List.Elements.{Contains-append_left, Contains-append_right, Contains-append_cases, Contains-push, Contains-push_cases, All-append, All-cons, All-filter, All-weaker, All-contains, All-contains_itself}
use Rattle.resource_table.specs.Handles.{Handle, numbers_of, with_handle}
use Rattle.resource_table.specs.Steps.{Told, IsShut}
use Rattle.resource_table.proofs.Numbers.{numbers_of-with_handle}
use Rattle.host_port.specs.declared.ask.Ask.{Ask}
use Rattle.host_port.specs.declared.reply.Reply.{Reply}
use Rattle.host_port.specs.declared.request.Request.{Request}
use Rattle.host_port.specs.Standing.{Phase}
use Rattle.host_port.specs.Steps.{IsAnswerable}
use Rattle.world_rules.specs.declared.entry.Side.TheVariants as SideIs
use Rattle.world_rules.specs.declared.life.Birth.{Birth}
use Rattle.world_rules.specs.Allowed.{SpawnFits}
use Rattle.world_rules.specs.Answers.{written_reply}
use Rattle.world_rules.specs.Births.{Terms}
use Rattle.world_rules.specs.Book.{Book}
use Rattle.world_rules.specs.Calls.{HostCall, call_of}
use Rattle.world_rules.specs.Calls as CallIs
use Rattle.world_rules.specs.Lives.{Setting, IsRun, terms_of}
use Rattle.world_rules.specs.Part.{is_among}
use Rattle.world_rules.specs.Rules.{turned}
use Rattle.world_rules.specs.Told.{told}
use Rattle.world_rules.specs.Views.{Given}
use Rattle.world_rules.specs.World.{World, Process, Stage}
use Rattle.node_state.specs.Fits.{Brought, give_of}
use Rattle.node_state.specs.Posts.{id_of}
use Rattle.node_state.specs.Seats.{Meaning}
use Rattle.node_state.specs.Streaming.{Kept}
use Rattle.node_laws.proofs.OutsideRows.{is_external, is_outside_name}
use Rattle.node_laws.proofs.ReadyList.{true_is_not_false}
use Rattle.node_mirror.specs.Fits.{HasBirth, TurnFits}
use Rattle.node_mirror.proofs.MayGive.{refusing, may-give}
use Rattle.node_mirror.proofs.Outward.{outward}
use Rattle.process_store.specs.PassOn.{PassesOn, Stood, WasClosed}

-- A process is given back whose request the outside was asked.

-- NO BIRTH COMES WITH IT

-- a call of the outside spawns nobody
no_spawn : (terms : Option Terms) (births : List Birth) (name : HostCall) (stage : Stage) (w : World) (parent : Process) (request : Request) → is_outside_name (Some name) ≡ true
    → SpawnFits terms births (Some name) stage w parent request SideIs.Nothing
no_spawn terms births CallIs.Spawn stage w parent request outside = true_is_not_false (sym outside)
no_spawn terms births _ stage w parent request outside = tt

-- where it comes beside what the outside says, there is the birth that it needs: none
pub outside_birth : {E P : Type 0} {engines : Meaning E P} {setting : Setting P} (old : Book) (worker pid : ℕ) (brought : Brought E) → is_external brought.side ≡ true → IsRun setting old
    → TurnFits engines setting old.births (told old) worker pid brought → HasBirth (Some (terms_of setting)) old.births (told old) (give_of worker pid brought)
outside_birth {engines = engines} {setting = setting} old worker pid brought external run fits =
    let w : World = told old in
    let give : Given = give_of worker pid brought in
    let parent : Process = turned (w.process pid) give in
    let terms : Option Terms = Some (terms_of setting) in
    let o = outward {engines = engines} None (refusing old.births) w worker pid brought.seat brought.calls brought.halt brought.side external (may-give old worker pid brought run fits) fits.phase in
    subst (λ (wanted : Option Request). IfSome wanted (λ (request : Request). SpawnFits terms old.births (call_of request) (w.process pid).stage w parent request SideIs.Nothing)) (sym o.wanted)
    (subst (λ (call : Option HostCall). SpawnFits terms old.births call (w.process pid).stage w parent o.request SideIs.Nothing) (sym o.call.called)
    (no_spawn terms old.births o.call.name (w.process pid).stage w parent o.request o.call.named))

-- THE NUMBER THAT IS DRAWN

or_left : (a b : Bool) → (a || b) ≡ false → a ≡ false
or_left true b e = e
or_left false b e = refl

or_right : (a b : Bool) → (a || b) ≡ false → b ≡ false
or_right true b e = let h : ⊥ = cc in absurd h
or_right false b e = e

differs : (n m : ℕ) → nat_eq n m ≡ false → m ≡ n → ⊥
differs n m e same = grind (arith, nat_tests, e, same)

has_none : {X : Type 0} (x : X) → Contains {X = X} [] x → ⊥
has_none x has = let lt = has.1 in omega (arith, lt)

not_among : (numbers : List ℕ) (n : ℕ) → is_among numbers n ≡ false → Contains numbers n → ⊥
not_among [] n e has = has_none n has
not_among (m ∷ numbers) n e has = by (λ there. not_among numbers n (or_right (nat_eq n m) (is_among numbers n) e) there) (Contains-append_cases (m ∷ []) numbers n has)
  where
    first : Contains {X = ℕ} [] n ⊎ (m ≡ n) → ⊥
    first (inl none) = has_none n none
    first (inr same) = differs n m (or_left (nat_eq n m) (is_among numbers n) e) same

    by : (Contains numbers n → ⊥) → Contains (m ∷ []) n ⊎ Contains numbers n → ⊥
    by later (inl here) = first (Contains-push_cases [] m n here)
    by later (inr there) = later there

-- the number is new in the table
pub table_new : (table scratch : List ℕ) (n drawn : ℕ) → n ≡ drawn → is_among (table ++ scratch) n ≡ false → Contains table drawn → ⊥
table_new table scratch n drawn same e has = not_among (table ++ scratch) n e (Contains-append_left table scratch n (subst (λ k. Contains table k) (sym same) has))

-- what the engine is told of an opened stream, by its ask
some_same : {X : Type 0} (o : Option X) (x y : X) → o ≡ Some x → o ≡ Some y → x ≡ y
some_same o x y a b = let e : Some x ≡ Some y = sym a ∙ b in cc

pub opened_answerable : (phase : Phase) (memory : List ℕ) (owed : Option Ask) (ask other : Ask) (number : ℕ) (reply : Reply) → owed ≡ Some ask → owed ≡ Some other
    → ((n : ℕ) → n < 2 ^ 64 → IsAnswerable phase memory (written_reply 0 (id_of ask) n)) → number < 2 ^ 64 → reply ≡ written_reply 0 (id_of other) number → IsAnswerable phase memory reply
opened_answerable phase memory owed ask other number reply a b answers small is =
    let same : ask ≡ other = some_same owed ask other a b in
    subst (λ r. IsAnswerable phase memory r) (sym is) (subst (λ k. IsAnswerable phase memory (written_reply 0 (id_of k) number)) same (answers number small))

pub cast_small : (owed : Option Ask) (ask other : Ask) (id pages memory : ℕ) → owed ≡ Some ask → owed ≡ Some other → id_of ask + 8 ≤ memory → id ≡ id_of other → memory ≡ 65536 * pages → pages ≤ 1024
    → id < 4294967296
cast_small owed ask other id pages memory a b within is whole few =
    let same : ask ≡ other = some_same owed ask other a b in
    let here : id_of other + 8 ≤ memory = subst (λ k. id_of k + 8 ≤ memory) same within in
    small id (id_of other) is here
  where
    small : (n m : ℕ) → n ≡ m → m + 8 ≤ memory → n < 4294967296
    small n m same here = omega (arith, same, here, whole, few)

-- THE STREAM THAT WAS OPENED

-- what is passed on from one pool is from each that has all of it
pub passes_from : {S : Type 0} (tells : Told S) (was is : Kept S) (pool other shed : List (Handle S)) → ((h : Handle S) → Contains pool h → Contains other h) → PassesOn tells was is pool shed
    → PassesOn tells was is other shed
passes_from {S = S} tells was is pool other shed all passes = record {
  in_hand = λ pid h has. stood h (passes.in_hand pid h has);
  in_mail = λ pid h has. stood h (passes.in_mail pid h has);
  more = passes.more;
  closed = passes.closed;
  shut = λ h has. shut h (passes.shut h has);
}
  where
    stood : (h : Handle S) → Stood was pool h → Stood was other h
    stood h s = ∥∥₁_map s by
      where
        by : ((pid : ℕ) × Contains (was.hands pid) h) ⊎ ((pid : ℕ) × Contains (was.mail pid) h) ⊎ (Contains pool h)
            → ((pid : ℕ) × Contains (was.hands pid) h) ⊎ ((pid : ℕ) × Contains (was.mail pid) h) ⊎ (Contains other h)
        by (inl hand) = inl hand
        by (inr (inl mail)) = inr (inl mail)
        by (inr (inr has)) = inr (inr (all h has))

    shut : (h : Handle S) → WasClosed tells was pool shed h → WasClosed tells was other shed h
    shut h s = ∥∥₁_map s by
      where
        by : (Contains shed h) ⊎ ((before : Handle S) × Stood was pool before × IsShut tells before h) → (Contains shed h) ⊎ ((before : Handle S) × Stood was other before × IsShut tells before h)
        by (inl there) = inl there
        by (inr from) = inr (from.0, stood from.0 from.1, from.2)

-- the streams in hand then are those that came, and the one that was opened
pub opened_from : {S : Type 0} (table now scratch : List (Handle S)) (opened other : Handle S) → now ≡ with_handle opened table → other ≡ opened → (h : Handle S) → Contains (now ++ scratch) h
    → Contains ((table ++ scratch) ++ other ∷ []) h
opened_from {S = S} table now scratch opened other is same h has =
    let pool : List (Handle S) = (table ++ scratch) ++ other ∷ [] in
    let in_hand : (x : Handle S) → Contains (table ++ scratch) x → Contains pool x = λ x c. Contains-append_left (table ++ scratch) (other ∷ []) x c in
    let of_table : All (Contains pool) table = All-weaker (Contains table) (Contains pool) (λ x c. in_hand x (Contains-append_left table scratch x c)) table (All-contains_itself table) in
    let of_scratch : All (Contains pool) scratch = All-weaker (Contains scratch) (Contains pool) (λ x c. in_hand x (Contains-append_right table scratch x c)) scratch (All-contains_itself scratch) in
    let of_opened : Contains pool opened = subst (λ x. Contains pool x) same (Contains-push (table ++ scratch) other) in
    let of_now : All (Contains pool) now = subst (λ xs. All (Contains pool) xs) (sym is)
    (All-append (Contains pool) (filter (λ k. nat_lt k.number opened.number) table) (opened ∷ filter (λ k. nat_lt opened.number k.number) table)
    (All-filter (λ k. nat_lt k.number opened.number) (Contains pool) table of_table)
    (All-cons (Contains pool) opened (filter (λ k. nat_lt opened.number k.number) table) of_opened (All-filter (λ k. nat_lt opened.number k.number) (Contains pool) table of_table))) in
    All-contains (Contains pool) (now ++ scratch) h (All-append (Contains pool) now scratch of_now of_scratch) has

-- there is one more of them, at most
neither : (n m : ℕ) → nat_lt n m ≡ true → nat_lt m n ≡ true → ⊥
neither n m a b = grind (arith, nat_tests, a, b)

two_sides : {S : Type 0} (hs : List (Handle S)) (n : ℕ) → length (filter (λ h. nat_lt h.number n) hs) + length (filter (λ h. nat_lt n h.number) hs) ≤ length hs
two_sides [] n = omega arith
two_sides {S = S} (x ∷ hs) n = by (nat_lt x.number n) (nat_lt n x.number) refl refl (two_sides hs n)
  where
    low : List (Handle S)
    low = filter (λ h. nat_lt h.number n) hs

    high : List (Handle S)
    high = filter (λ h. nat_lt n h.number) hs

    by : (a b : Bool) → nat_lt x.number n ≡ a → nat_lt n x.number ≡ b → length low + length high ≤ length hs
        → length (if a then (x ∷ low) else low) + length (if b then (x ∷ high) else high) ≤ length (x ∷ hs)
    by true true below above rest = absurd (neither x.number n below above)
    by true false below above rest = omega (arith, rest)
    by false true below above rest = omega (arith, rest)
    by false false below above rest = omega (arith, rest)

pub opened_few : {S : Type 0} (table now scratch : List (Handle S)) (opened : Handle S) → now ≡ with_handle opened table → length (now ++ scratch) ≤ length (table ++ scratch) + 1
opened_few {S = S} table now scratch opened is =
    let low : List (Handle S) = filter (λ h. nat_lt h.number opened.number) table in
    let high : List (Handle S) = filter (λ h. nat_lt opened.number h.number) table in
    let sides = two_sides table opened.number in
    let a = length-append now scratch in
    let b = length-append table scratch in
    let c = ap (λ (hs : List (Handle S)). length hs) is ∙ length-append low (opened ∷ high) in
    omega (arith, sides, a, b, c)

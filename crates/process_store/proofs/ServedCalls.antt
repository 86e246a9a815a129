-- Which calls a node gives back: what holds of the calls that the host serves today is computed from their rows.
use Rattle.std.proofs.Common.{◌≡◌, ◌≢◌, ◌⊎◌, ℕ, ◌&&◌, ◌||◌, ◌++◌, Bool, true, false, nat_eq, List, [], ◌∷◌, find, cond, option_map, Option, Some, None, IsSome, arith, refl, sym, ◌∙◌}
use Rattle.std.proofs.Common.{subst, inl, inr}
use Rattle.std.specs.List.{list_all}
use Rattle.std.proofs.lemmas.Bool.Decides.{nat_tests}
use Rattle.host_port.specs.declared.ask.Ask.{Ask}
use Rattle.host_port.specs.declared.call.Call.{Call}
use Rattle.host_port.specs.declared.request.Request.{Request}
use Rattle.host_port.specs.declared.start.Start.{Start}
use Rattle.host_port.specs.declared.row.MayCome.{MayCome}
use Rattle.host_port.specs.declared.row.MayCome.TheVariants as comes
use Rattle.host_port.specs.HostTable.{Row, all_rows, is_served, host_table, row_of, known_row_of, is_local_kind}
use Rattle.host_port.specs.Standing.{Owing}
use Rattle.host_port.proofs.RowLaws.{row_if_served}
use Rattle.world_rules.specs.declared.entry.Side.{Side}
use Rattle.world_rules.specs.declared.entry.Side.TheVariants as SideIs
use Rattle.world_rules.specs.declared.halt.Halt.TheVariants.{Asks}
use Rattle.world_rules.specs.declared.life.Birth.{Birth}
use Rattle.world_rules.specs.Allowed.{GivesTurn, RetryEndsSo, SideFits}
use Rattle.world_rules.specs.Allowed.{TurnFits as IsAllowedTurn}
use Rattle.world_rules.specs.Lives.{Setting, OwnTurnIsRun, IsTurnOfProgram, terms_of}
use Rattle.world_rules.specs.Part.{Part}
use Rattle.world_rules.specs.Views.{Given, Wants, want_of}
use Rattle.world_rules.specs.World.{World, Process}
use Rattle.node_state.specs.Seats.{Meaning, Seat}
use Rattle.node_state.specs.Fits.{Brought, TurnFits, give_of}
use Rattle.host_port.specs.declared.reply.Reply.{Reply}
use Rattle.node_state.specs.Rows.{AllHaveRows}
use Rattle.world_rules.specs.Calls.{call_of}
use Rattle.node_laws.proofs.HostRows.{send-called, receive-called, sleep-called}
use Rattle.process_store.specs.Performing.{IsPerformed}

both : (a b : Bool) → (a && b) ≡ true → (a ≡ true) × (b ≡ true)
both true true e = (refl, refl)
both true false e = absurd (cc)
both false b e = absurd (cc)

found_next : (b : Bool) (p test : Row → Bool) (r row : Row) (rest : Option Row) → p r ≡ b → test r ≡ true → (rest ≡ Some row → (test row ≡ true) × (p row ≡ true)) →
    cond b (Some r) rest ≡ Some row → (test row ≡ true) × (p row ≡ true)
found_next true p test r row rest e t others f = let same : r ≡ row = cc in subst (λ (x : Row). (test x ≡ true) × (p x ≡ true)) same (t, e)
found_next false p test r row rest e t others f = others f

found_has : (rows : List Row) (p test : Row → Bool) (row : Row) → list_all test rows ≡ true → find p rows ≡ Some row → (test row ≡ true) × (p row ≡ true)
found_has [] p test row each f = absurd (cc)
found_has (r ∷ rows) p test row each f =
    let two = both (test r) (list_all test rows) each in
    found_next (p r) p test r row (find p rows) refl two.0 (found_has rows p test row two.1) f

same_call : (a b : ℕ) → nat_eq a b ≡ true → a ≡ b
same_call a b e = grind (arith, nat_tests)

-- what a test says of each row that is served, it says of the row of a call
served_has : (test : Row → Bool) → list_all test host_table ≡ true → (call : ℕ) (row : Row) → row_of call ≡ Some row → (test row ≡ true) × (row.call ≡ call)
unfolding row_of
served_has test each call row is =
    let h = found_has host_table (λ (r : Row). nat_eq r.call call) test row each is in
    (h.0, same_call row.call call h.1)

-- a call of the world is a send, beside which nothing comes, or a receive or a sleep, beside which the clock comes
abbrev is_clock : MayCome → Bool
is_clock comes.Nothing = false
is_clock comes.Clock = true
is_clock (comes.Answer pending opened) = false

abbrev is_nothing : MayCome → Bool
is_nothing comes.Nothing = true
is_nothing comes.Clock = false
is_nothing (comes.Answer pending opened) = false

abbrev is_answer : MayCome → Bool
is_answer comes.Nothing = false
is_answer comes.Clock = false
is_answer (comes.Answer pending opened) = true

abbrev other_is : Row → Bool
other_is row =
    is_local_kind (Some row.kind) || (is_answer row.may_come || ((nat_eq row.call 8 && is_nothing row.may_come) || ((nat_eq row.call 9 || nat_eq row.call 17) && is_clock row.may_come)))

other_are : list_all other_is host_table ≡ true
unfolding all_rows is_served
other_are = refl

-- a call, with what comes beside it
pub data AskedCall : ℕ → Option MayCome → Type 0 where
  sends : AskedCall 8 (Some comes.Nothing)
  receives : AskedCall 9 (Some comes.Clock)
  sleeps : AskedCall 17 (Some comes.Clock)
  outside : (call : ℕ) (pending opened : Bool) → AskedCall call (Some (comes.Answer pending opened))

the_nothing : (m : MayCome) → is_nothing m ≡ true → m ≡ comes.Nothing
the_nothing comes.Nothing e = refl
the_nothing comes.Clock e = absurd (cc)
the_nothing (comes.Answer pending opened) e = absurd (cc)

the_clock : (m : MayCome) → is_clock m ≡ true → m ≡ comes.Clock
the_clock comes.Nothing e = absurd (cc)
the_clock comes.Clock e = refl
the_clock (comes.Answer pending opened) e = absurd (cc)

by_tests : (number : ℕ) (m : MayCome) (eight nine seventeen none clock : Bool) → nat_eq number 8 ≡ eight → nat_eq number 9 ≡ nine → nat_eq number 17 ≡ seventeen → is_nothing m ≡ none
    → is_clock m ≡ clock
    → ((eight && none) || ((nine || seventeen) && clock)) ≡ true → AskedCall number (Some m)
by_tests number m true nine seventeen true clock a b c d e h = rw (same_call number 8 a, the_nothing m d) sends
by_tests number m true true seventeen false true a b c d e h = rw (same_call number 9 b, the_clock m e) receives
by_tests number m true false true false true a b c d e h = rw (same_call number 17 c, the_clock m e) sleeps
by_tests number m true false false false true a b c d e h = absurd (cc)
by_tests number m true true seventeen false false a b c d e h = absurd (cc)
by_tests number m true false true false false a b c d e h = absurd (cc)
by_tests number m true false false false false a b c d e h = absurd (cc)
by_tests number m false true seventeen none true a b c d e h = rw (same_call number 9 b, the_clock m e) receives
by_tests number m false false true none true a b c d e h = rw (same_call number 17 c, the_clock m e) sleeps
by_tests number m false false false none clock a b c d e h = absurd (cc)
by_tests number m false true seventeen none false a b c d e h = absurd (cc)
by_tests number m false false true none false a b c d e h = absurd (cc)

not_local : (b rest : Bool) → (b || rest) ≡ true → b ≡ false → rest ≡ true
not_local true rest e f = absurd (cc)
not_local false rest e f = e

by_answer : (call : ℕ) (m : MayCome) (rest : Bool) → (is_answer m || rest) ≡ true → (rest ≡ true → AskedCall call (Some m)) → AskedCall call (Some m)
by_answer call comes.Nothing rest e others = others e
by_answer call comes.Clock rest e others = others e
by_answer call (comes.Answer pending opened) rest e others = outside call pending opened

by_row : (call : ℕ) (row : Row) → row_of call ≡ Some row → is_local_kind (Some row.kind) ≡ false → AskedCall call (Some row.may_come)
by_row call row is foreign =
    let h = served_has other_is other_are call row is in
    let world : Bool = (nat_eq row.call 8 && is_nothing row.may_come) || ((nat_eq row.call 9 || nat_eq row.call 17) && is_clock row.may_come) in
    let rest = not_local (is_local_kind (Some row.kind)) (is_answer row.may_come || world) h.0 foreign in
    subst (λ (n : ℕ). AskedCall n (Some row.may_come)) h.1
    (by_answer row.call row.may_come world rest
    (by_tests row.call row.may_come (nat_eq row.call 8) (nat_eq row.call 9) (nat_eq row.call 17) (is_nothing row.may_come) (is_clock row.may_come) refl refl refl refl refl))

-- the row of a call that is served is its row among all
known_too : (served : Bool) (known : Option Row) (row : Row) → cond served known None ≡ Some row → known ≡ Some row
known_too true known row e = e
known_too false known row e = absurd (cc)

by_served : (call : ℕ) (o : Option Row) → row_of call ≡ o → IsSome o → is_local_kind (option_map (λ (row : Row). row.kind) (known_row_of call)) ≡ false
    → AskedCall call (option_map (λ (row : Row). row.may_come) (known_row_of call))
by_served call None is there foreign = absurd (cc)
by_served call (Some row) is there foreign =
    let known : known_row_of call ≡ Some row = known_too (is_served call) (known_row_of call) row (sym (row_if_served call) ∙ is) in
    let kind : is_local_kind (Some row.kind) ≡ false = rw known at foreign in
    rw known (by_row call row is kind)

-- THE REQUEST OF A TURN

-- a program whose engine owes the reply to an ask may ask it
abbrev pub AsksWhatItMay : {E P : Type 0} → Meaning E P → (P → ℕ → Type 0) → Type 0
AsksWhatItMay {E = E} {P = P} engines may_ask =
    (engine : E) (program : P) (start : Start) (calls : List Call) (fuel : ℕ) (ask : Ask) → engines.stands engine program start calls fuel → engines.phase engine ≡ Owing ask → may_ask program ask.call

-- what is brought back with a request
abbrev pub asking : {E : Type 0} → Seat E → List Call → Request → Side → List ℕ → Brought E
asking seat calls request side shed = record { seat = seat; calls = calls; halt = Asks request; side = side; shed = shed }

-- who asks has a turn of its own
pub own_turn : {P : Type 0} (setting : Setting P) (births : List Birth) (w : World) (p : Process) (give : Given) (request : Request) (owed : Option Request) → want_of give.halt ≡ Wants request
    → GivesTurn (Some (terms_of setting)) births w p give owed → OwnTurnIsRun setting p give owed → IsAllowedTurn (Some (terms_of setting)) births w p give × IsTurnOfProgram setting p give
own_turn setting births w p give request None wants turn run = (turn, run)
own_turn setting births w p give request (Some other) wants turn run = absurd (subst (λ want. RetryEndsSo (Some (terms_of setting)) births w p give other want) wants turn.halted)

asked_served : {E P : Type 0} {engines : Meaning E P} {may_ask : P → ℕ → Type 0} {setting : Setting P} → AsksWhatItMay engines may_ask → AllHaveRows may_ask setting.programs
    → (births : List Birth) (w : World) (worker pid : ℕ) (seat : Seat E) (calls : List Call) (request : Request) (side : Side) (shed : List ℕ)
    → TurnFits engines setting births w worker pid (asking seat calls request side shed) → IsSome (row_of request.ask.call)
asked_served {setting = setting} asks rows births w worker pid seat calls request side shed fits =
    let p : Process = w.process pid in
    let turn = (own_turn setting births w p (give_of worker pid (asking seat calls request side shed)) request p.owed refl fits.allowed.turn fits.turn).1 in
    rows p.start.«module» turn.program turn.found request.ask.call
    (asks seat.engine turn.program p.start (p.calls ++ calls) seat.fuel request.ask (fits.seated.stands turn.program turn.found) fits.phase.0.phase)

-- what comes beside which call
pub data AskedBeside (call : ℕ) : Side → Type 0 where
  beside_send : call ≡ 8 → AskedBeside call SideIs.Nothing
  beside_receive : (now : ℕ) → call ≡ 9 → AskedBeside call (SideIs.Clock now)
  beside_sleep : (now : ℕ) → call ≡ 17 → AskedBeside call (SideIs.Clock now)
  beside_pending : AskedBeside call SideIs.Pending
  beside_answer : (reply : Reply) → AskedBeside call (SideIs.Answer reply)
  beside_opened : AskedBeside call SideIs.Opened

by_side : (call : ℕ) (m : Option MayCome) (w : World) (pid : ℕ) (part : Part) (request : Request) (side : Side) → AskedCall call m → SideFits m w pid part request side → side ≢ SideIs.NoMemory
    → AskedBeside call side
by_side call m w pid part request SideIs.Pending asked_call fits asked = beside_pending
by_side call m w pid part request (SideIs.Answer reply) asked_call fits asked = beside_answer reply
by_side call m w pid part request SideIs.Opened asked_call fits asked = beside_opened
by_side call m w pid part request SideIs.NoMemory asked_call fits asked = absurd (asked refl)
by_side _ _ w pid part request SideIs.Nothing sends fits asked = beside_send refl
by_side _ _ w pid part request SideIs.Nothing receives fits asked = absurd fits
by_side _ _ w pid part request SideIs.Nothing sleeps fits asked = absurd fits
by_side _ _ w pid part request SideIs.Nothing (outside call true true) fits asked = absurd fits
by_side _ _ w pid part request SideIs.Nothing (outside call true false) fits asked = absurd fits
by_side _ _ w pid part request SideIs.Nothing (outside call false true) fits asked = absurd fits
by_side _ _ w pid part request SideIs.Nothing (outside call false false) fits asked = absurd fits
by_side _ _ w pid part request (SideIs.Clock now) sends fits asked = absurd fits
by_side _ _ w pid part request (SideIs.Clock now) receives fits asked = beside_receive now refl
by_side _ _ w pid part request (SideIs.Clock now) sleeps fits asked = beside_sleep now refl
by_side _ _ w pid part request (SideIs.Clock now) (outside call true true) fits asked = absurd fits
by_side _ _ w pid part request (SideIs.Clock now) (outside call true false) fits asked = absurd fits
by_side _ _ w pid part request (SideIs.Clock now) (outside call false true) fits asked = absurd fits
by_side _ _ w pid part request (SideIs.Clock now) (outside call false false) fits asked = absurd fits

-- what a worker brings back with a request asks for a send, a receive or a sleep, or for a call of the outside, with what comes beside it
pub asked_beside_by : {E P : Type 0} {engines : Meaning E P} {may_ask : P → ℕ → Type 0} {setting : Setting P} → AsksWhatItMay engines may_ask → AllHaveRows may_ask setting.programs
    → (births : List Birth) (w : World) (worker pid : ℕ) (seat : Seat E) (calls : List Call) (request : Request) (side : Side) (shed : List ℕ)
    → TurnFits engines setting births w worker pid (asking seat calls request side shed) → AskedBeside request.ask.call side
asked_beside_by {setting = setting} asks rows births w worker pid seat calls request side shed fits =
    let p : Process = w.process pid in
    let t = (own_turn setting births w p (give_of worker pid (asking seat calls request side shed)) request p.owed refl fits.allowed.turn fits.turn).0 in
    by_side request.ask.call _ w pid _ request side
    (by_served request.ask.call (row_of request.ask.call) refl (asked_served asks rows births w worker pid seat calls request side shed fits) t.halted.kind)
    t.halted.beside.side fits.asked

-- the call beside which nothing came, and those beside which the clock came
nothing_call : (call : ℕ) → AskedBeside call SideIs.Nothing → call ≡ 8
nothing_call call (beside_send is) = is

clock_call : (call now : ℕ) → AskedBeside call (SideIs.Clock now) → (call ≡ 9) ⊎ (call ≡ 17)
clock_call call now (beside_receive _ is) = inl is
clock_call call now (beside_sleep _ is) = inr is

nothing_performed : (request : Request) → AskedBeside request.ask.call SideIs.Nothing → IsPerformed (call_of request)
nothing_performed request asked = subst IsPerformed (sym (send-called request (nothing_call request.ask.call asked))) tt

clock_performed : (request : Request) (now : ℕ) → AskedBeside request.ask.call (SideIs.Clock now) → IsPerformed (call_of request)
clock_performed request now asked = by (clock_call request.ask.call now asked)
  where
    by : (request.ask.call ≡ 9) ⊎ (request.ask.call ≡ 17) → IsPerformed (call_of request)
    by (inl ninth) = subst IsPerformed (sym (receive-called request ninth)) tt
    by (inr other) = subst IsPerformed (sym (sleep-called request other)) tt

pub world_performed : (request : Request) (side : Side) → AskedBeside request.ask.call side → (side ≡ SideIs.Nothing) ⊎ ((now : ℕ) × (side ≡ SideIs.Clock now)) → IsPerformed (call_of request)
world_performed request side asked (inl none) = nothing_performed request (subst (λ (s : Side). AskedBeside request.ask.call s) none asked)
world_performed request side asked (inr clock) = clock_performed request clock.0 (subst (λ (s : Side). AskedBeside request.ask.call s) clock.1 asked)

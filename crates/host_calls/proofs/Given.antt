-- What is brought back may be given.
use Rattle.std.proofs.Common.{◌≡◌, ◌≢◌, ℕ, ◌+◌, ◌-◌, ◌<◌, ◌≤◌, List, [], ◌++◌, length, Option, Some, None, IfSome, IsSome, option_map, true, false, Bool, slice_get, refl, sym, ap, subst, ◌∙◌, append-nil}
use Rattle.host_port.specs.declared.ask.Ask.{Ask}
use Rattle.host_port.specs.declared.call.Call.{Call}
use Rattle.host_port.specs.declared.start.Start.{Start}
use Rattle.host_port.specs.declared.start.StartRefusal.{StartRefusal}
use Rattle.host_port.specs.declared.request.Request.{Request}
use Rattle.host_port.specs.Areas.{request_of}
use Rattle.host_port.specs.Standing.{Standing, Asking, Owing, state_of}
use Rattle.host_port.specs.HostTable.{row_of}
use Rattle.turn_rules.specs.Turn.{most_answers}
use Rattle.world_rules.specs.declared.entry.Side.{Side}
use Rattle.world_rules.specs.declared.entry.Side.TheVariants as SideIs
use Rattle.world_rules.specs.declared.halt.Halt.{Halt}
use Rattle.world_rules.specs.declared.halt.Halt.TheVariants as HaltIs
use Rattle.world_rules.specs.declared.life.Birth.{Birth}
use Rattle.world_rules.specs.Calls.{HostCall, call_of, call_numbered}
use Rattle.world_rules.specs.Calls as CallIs
use Rattle.world_rules.specs.Views.{Given, want_of, wanted_in, asked_in}
use Rattle.world_rules.specs.Kinds.{may_come}
use Rattle.world_rules.specs.Part.{Part}
use Rattle.world_rules.specs.Handles.{closings_of}
use Rattle.world_rules.specs.World.{World, Process, Stage}
use Rattle.world_rules.specs.Births.{Terms}
use Rattle.world_rules.specs.Allowed.{WantFits, SideFits, SpawnFits, GivesTurn, PendingFits, RetryFits, TurnFits as OwnTurnFits}
use Rattle.world_rules.specs.Lives.{Setting, OwnTurnIsRun, IsTurnOfProgram, IsTurnOf, terms_of}
use Rattle.world_rules.specs.Rules.{turned}
use Rattle.node_state.specs.Seats.{Meaning, Seat, IsAsked, IsOwed}
use Rattle.node_state.specs.Fits.{Brought, is_from_outside, give_of, PhaseFits, PartFits, Owes, kept_ask, with_bound}
use Rattle.node_state.specs.Rows.{HasRows}
use Rattle.host_calls.specs.Brings.{IsAt, HasGone, HasEnded, IsJudged, MayBeGiven, turn_part}
use Rattle.host_calls.proofs.Served.{by_served}
use Rattle.host_calls.proofs.Turns.{traffic_alone}

-- no spawn is served, so there is no birth
no_birth : (terms : Option Terms) (births : List Birth) (stage : Stage) (w : World) (parent : Process) (request : Request) (side : Side) →
    IsSome (row_of request.ask.call) → SpawnFits terms births (call_of request) stage w parent request side
no_birth terms births stage w parent request side row =
    by_served (λ call. SpawnFits terms births (call_numbered call) stage w parent request side)
    (tt, (tt, (tt, (tt, (tt, (tt, (tt, (tt, (tt, (tt, (tt, (tt, (tt, (tt, (tt, (tt, (tt, (tt, (tt, (tt, (tt, tt)))))))))))))))))))))
    request.ask.call row

-- a call to which there may be no answer yet is no spawn
pending_birth : (o : Option HostCall) (terms : Option Terms) (births : List Birth) (stage : Stage) (w : World) (parent : Process) (part : Part) (request : Request) (side : Side) →
    PendingFits o part request → SpawnFits terms births o stage w parent request side
pending_birth None terms births stage w parent part request side fits = absurd fits
pending_birth (Some CallIs.Accept) terms births stage w parent part request side fits = tt
pending_birth (Some CallIs.ReadStream) terms births stage w parent part request side fits = tt
pending_birth (Some CallIs.WriteStream) terms births stage w parent part request side fits = tt
pending_birth (Some _) terms births stage w parent part request side fits = absurd fits

gives_own : (terms : Option Terms) (births : List Birth) (w : World) (p : Process) (give : Given) (owed : Option Request) → owed ≡ None → OwnTurnFits terms births w p give →
    GivesTurn terms births w p give owed
gives_own terms births w p give owed none fits = rw none fits

own_run : {P : Type 0} (setting : Setting P) (p : Process) (give : Given) (owed : Option Request) → owed ≡ None → IsTurnOfProgram setting p give → OwnTurnIsRun setting p give owed
own_run setting p give owed none run = rw none run

gives_again : (terms : Option Terms) (births : List Birth) (w : World) (p : Process) (give : Given) (owed : Option Request) (request : Request) → owed ≡ Some request →
    RetryFits terms births w p give request → GivesTurn terms births w p give owed
gives_again terms births w p give owed request is fits = rw is fits

no_run : {P : Type 0} (setting : Setting P) (p : Process) (give : Given) (owed : Option Request) (request : Request) → owed ≡ Some request → OwnTurnIsRun setting p give owed
no_run setting p give owed request is = rw is tt

-- the halt names no request that is asked
abbrev pub AsksNothing : Halt → Type 0
AsksNothing halt = (request : Request) → halt ≢ HaltIs.Asks request

-- what came beside a request whose call is served
pub record CameBeside (part : Part) (request : Request) (side : Side) (memory : List ℕ) (part_after : Part) (owed : Option Ask) : Type 0 where
  pub beside : IsSome (row_of request.ask.call) → (w : World) (pid : ℕ) → SideFits (may_come request) w pid part request side
  pub part_is : part_after ≡ with_bound (Some request) side part
  pub owed_is : IsSome (row_of request.ask.call) → owed ≡ kept_ask request
  pub tries : IsSome (row_of request.ask.call) → IfSome owed (IsAsked memory part_after)
  pub pending : IsSome (row_of request.ask.call) → World → side ≡ SideIs.Pending → IfSome owed (IsOwed memory part_after)
  pub unrefused : side ≢ SideIs.NoMemory

module _ {E P : Type 0} (engines : Meaning E P) (begin : P → Start → Option StartRefusal) (at : P → Start → List Call → ℕ → Option Standing) (may_ask : P → ℕ → Type 0) where
  -- what a turn of its own brings back of a process, by its program
  record BringsOwn (program : P) (p : Process) (after : Seat E) (shed : List ℕ) (calls : List Call) (halt : Halt) (side : Side) : Type 0 where
    gone : HasGone engines program p after calls
    part : PartFits after.part halt (with_bound (asked_in halt) side (turn_part p calls halt))
    answered : length calls ≤ most_answers
    turn : IsTurnOf (at program p.start) p calls (after.fuel - p.fuel) halt
    halted : (terms : Option Terms) (births : List Birth) (w : World) (worker pid : ℕ) →
        WantFits terms births w p (give_of worker pid (record { seat = after; calls = calls; halt = halt; side = side; shed = shed })) (want_of halt)
    phase : (owed : Option Request) → PhaseFits engines owed after halt
    closed : shed ≡ closings_of p.start p.part calls
    tries : IfSome after.owed (IsAsked (engines.memory after.engine) after.part)
    pending : World → side ≡ SideIs.Pending → IfSome after.owed (IsOwed (engines.memory after.engine) after.part)
    own : halt ≢ HaltIs.Again

  given_own : (before after : Seat E) (shed : List ℕ) (calls : List Call) (halt : Halt) (side : Side) → before.owed ≡ None → side ≢ SideIs.NoMemory →
      ((program : P) (p : Process) → HasRows may_ask program → IsAt engines program p before → BringsOwn program p after shed calls halt side) →
      MayBeGiven engines begin at may_ask before (record { seat = after; calls = calls; halt = halt; side = side; shed = shed })
  given_own before after shed calls halt side unowed unrefused ends programs first live idle births w worker program away seated found rows =
      let pid = before.start.pid in
      let p = w.process pid in
      let setting : Setting P = record { programs = programs; begin = begin; at = at; first = first; live = live; idle = idle } in
      let here : slice_get programs p.start.«module» ≡ Some program = rw (← seated.start) found in
      let at_here : IsAt engines program p before = record {
        stands = seated.stands program here;
        start = seated.start;
        part = seated.part;
        fuel = seated.fuel;
      } in
      let b = ends program p rows at_here in
      let brought : Brought E = record { seat = after; calls = calls; halt = halt; side = side; shed = shed } in
      let give = give_of worker pid brought in
      let owed : p.owed ≡ None = seated.owed ∙ ap (option_map (request_of (engines.memory before.engine))) unowed in
      let fits : OwnTurnFits (Some (terms_of setting)) births w p give = record {
        grown = b.gone.grown;
        burnt = b.gone.executed;
        answered = b.answered;
        local = b.gone.local;
        halted = b.halted (Some (terms_of setting)) births w worker pid;
      } in
      record {
        allowed = record { away = away; turn = gives_own (Some (terms_of setting)) births w p give p.owed owed fits };
        turn = own_run setting p give p.owed owed (record { program = program; found = here; turn = b.turn });
        seated = record {
          stands = λ other there.
              let both : Some program ≡ Some other = sym here ∙ there in
              let same : program ≡ other = cc in
              subst (λ (q : P). engines.stands after.engine q p.start (p.calls ++ calls) after.fuel) same b.gone.stands;
          start = b.gone.start;
          part = subst (λ (o : Option Request). PartFits after.part halt (with_bound (wanted_in (want_of halt) o) side (turn_part p calls halt))) (sym owed) b.part;
          closed = b.closed;
        };
        phase = b.phase p.owed;
        tries = b.tries;
        pending = b.pending w;
        retried = λ again. absurd (b.own again);
        asked = unrefused;
      }

  -- NOTHING ASKED

  if_none : {A : Type 0} (o : Option A) (Q : A → Type 0) → o ≡ None → IfSome o Q
  if_none o Q none = rw none tt

  plain_part : (p : Process) (after : Seat E) (calls : List Call) (halt : Halt) → AsksNothing halt → PartFits after.part halt (turn_part p calls halt) →
      PartFits after.part halt (with_bound (asked_in halt) SideIs.Nothing (turn_part p calls halt))
  plain_part p after calls HaltIs.Slice none is = is
  plain_part p after calls (HaltIs.Asks request) none is = absurd (none request refl)
  plain_part p after calls HaltIs.Done none is = is
  plain_part p after calls (HaltIs.Trap trap) none is = is
  plain_part p after calls (HaltIs.Spent spent) none is = is
  plain_part p after calls (HaltIs.Host fault request) none is = is
  plain_part p after calls HaltIs.NoMemory none is = is
  plain_part p after calls HaltIs.Again none is = is

  plain_halted : (program : P) (p : Process) (after : Seat E) (shed : List ℕ) (calls : List Call) (halt : Halt) → AsksNothing halt → HasEnded engines at program p after shed calls halt →
      (terms : Option Terms) (births : List Birth) (w : World) (worker pid : ℕ) →
      WantFits terms births w p (give_of worker pid (record { seat = after; calls = calls; halt = halt; side = SideIs.Nothing; shed = shed })) (want_of halt)
  plain_halted program p after shed calls HaltIs.Slice none ended terms births w worker pid =
      let whole = ended.turn in
      let e = rw whole.halted at whole.turn.ends in
      (refl, ∣ e.1 ∣₁)
  plain_halted program p after shed calls (HaltIs.Asks request) none ended terms births w worker pid = absurd (none request refl)
  plain_halted program p after shed calls HaltIs.Done none ended terms births w worker pid = (refl, tt)
  plain_halted program p after shed calls (HaltIs.Trap trap) none ended terms births w worker pid = (refl, tt)
  plain_halted program p after shed calls (HaltIs.Spent spent) none ended terms births w worker pid = (refl, tt)
  plain_halted program p after shed calls (HaltIs.Host fault request) none ended terms births w worker pid = (refl, ended.judged)
  plain_halted program p after shed calls HaltIs.NoMemory none ended terms births w worker pid = (refl, tt)
  plain_halted program p after shed calls HaltIs.Again none ended terms births w worker pid = absurd ended.judged

  plain_phase : (program : P) (p : Process) (after : Seat E) (shed : List ℕ) (calls : List Call) (halt : Halt) → AsksNothing halt → after.owed ≡ None →
      HasEnded engines at program p after shed calls halt → (owed : Option Request) → PhaseFits engines owed after halt
  plain_phase program p after shed calls HaltIs.Slice none unowed ended owed = (ended.phase, unowed)
  plain_phase program p after shed calls (HaltIs.Asks request) none unowed ended owed = absurd (none request refl)
  plain_phase program p after shed calls HaltIs.Done none unowed ended owed = tt
  plain_phase program p after shed calls (HaltIs.Trap trap) none unowed ended owed = tt
  plain_phase program p after shed calls (HaltIs.Spent spent) none unowed ended owed = tt
  plain_phase program p after shed calls (HaltIs.Host fault request) none unowed ended owed = tt
  plain_phase program p after shed calls HaltIs.NoMemory none unowed ended owed = tt
  plain_phase program p after shed calls HaltIs.Again none unowed ended owed = absurd ended.judged

  -- a turn of its own tries nothing again
  not_again : (p : Process) (calls : List Call) (halt : Halt) → IsJudged p calls halt → halt ≢ HaltIs.Again
  not_again p calls HaltIs.Slice judged e = cc
  not_again p calls (HaltIs.Asks request) judged e = cc
  not_again p calls HaltIs.Done judged e = cc
  not_again p calls (HaltIs.Trap trap) judged e = cc
  not_again p calls (HaltIs.Spent spent) judged e = cc
  not_again p calls (HaltIs.Host fault request) judged e = cc
  not_again p calls HaltIs.NoMemory judged e = cc
  not_again p calls HaltIs.Again judged e = judged

  -- a turn that asks nothing
  pub given_plain : (before after : Seat E) (shed : List ℕ) (calls : List Call) (halt : Halt) → before.owed ≡ None → after.owed ≡ None → AsksNothing halt →
      ((program : P) (p : Process) → HasRows may_ask program → IsAt engines program p before → HasEnded engines at program p after shed calls halt) →
      MayBeGiven engines begin at may_ask before (record { seat = after; calls = calls; halt = halt; side = SideIs.Nothing; shed = shed })
  given_plain before after shed calls halt unowed unowed_after none ends =
      given_own before after shed calls halt SideIs.Nothing unowed (λ e. cc)
      (λ program p rows here.
      let ended = ends program p rows here in
      record {
        gone = ended.gone;
        part = plain_part p after calls halt none ended.part;
        answered = ended.answered;
        turn = ended.turn;
        halted = plain_halted program p after shed calls halt none ended;
        phase = plain_phase program p after shed calls halt none unowed_after ended;
        closed = ended.closed;
        tries = if_none after.owed (IsAsked (engines.memory after.engine) after.part) unowed_after;
        pending = λ w pending. if_none after.owed (IsOwed (engines.memory after.engine) after.part) unowed_after;
        own = not_again p calls halt ended.judged;
      })

  -- CUT SHORT

  -- a turn that ended by asking, cut short at its ask, whatever its traffic is
  pub cut_short : (program : P) (p : Process) (halted : Seat E) (shed : List ℕ) (calls : List Call) (request : Request) → length calls < 64 →
      HasEnded engines at program p halted shed calls (HaltIs.Asks request) → HasEnded engines at program p halted shed calls HaltIs.NoMemory
  cut_short program p halted shed calls request few ended =
      let whole = ended.turn in
      let e = rw whole.halted at whole.turn.ends in
      record {
        gone = ended.gone;
        part = subst (λ (q : Part). q ≡ record (turn_part p calls HaltIs.NoMemory) { traffic = q.traffic }) (sym ended.part) refl;
        answered = ended.answered;
        turn = record {
          after = whole.turn.after;
          request = request;
          goes = whole.turn.goes;
          within = whole.turn.within;
          few = few;
          fueled = whole.turn.fueled;
          meets = e.0;
        };
        judged = tt;
        phase = tt;
        closed = ended.closed;
      }

  pub given_short : (before halted : Seat E) (shed : List ℕ) (calls : List Call) (request : Request) → before.owed ≡ None → halted.owed ≡ None → length calls < 64 →
      ((program : P) (p : Process) → HasRows may_ask program → IsAt engines program p before → HasEnded engines at program p halted shed calls (HaltIs.Asks request)) →
      MayBeGiven engines begin at may_ask before (record { seat = halted; calls = calls; halt = HaltIs.NoMemory; side = SideIs.Nothing; shed = shed })
  given_short before halted shed calls request unowed unowed_after few ends =
      given_plain before halted shed calls HaltIs.NoMemory unowed unowed_after (λ request e. cc)
      (λ program p rows here. cut_short program p halted shed calls request few (ends program p rows here))

  -- ASKED

  module _ (asks : (program : P) (start : Start) (calls : List Call) (fuel : ℕ) (ask : Ask) → state_of (at program start calls fuel) ≡ Some (Asking ask) → may_ask program ask.call) where
    row_there : (program : P) (p : Process) (halted : Seat E) (shed : List ℕ) (calls : List Call) (request : Request) → HasRows may_ask program →
        HasEnded engines at program p halted shed calls (HaltIs.Asks request) → IsSome (row_of request.ask.call)
    row_there program p halted shed calls request rows ended =
        let whole = ended.turn in
        let e = rw whole.halted at whole.turn.ends in
        rows request.ask.call (asks program p.start (p.calls ++ calls) (p.fuel + (halted.fuel - p.fuel)) request.ask (ap state_of e.0.asking))

    pub given_asked : (before halted : Seat E) (shed : List ℕ) (calls : List Call) (request : Request) (side : Side) (part : Part) (owed : Option Ask) → before.owed ≡ None →
        ((program : P) (p : Process) → HasRows may_ask program → IsAt engines program p before → HasEnded engines at program p halted shed calls (HaltIs.Asks request)) →
        CameBeside halted.part request side (engines.memory halted.engine) part owed →
        MayBeGiven engines begin at may_ask before (record { seat = record halted { part = part; owed = owed }; calls = calls; halt = HaltIs.Asks request; side = side; shed = shed })
    given_asked before halted shed calls request side part owed unowed ends came =
        given_own before (record halted { part = part; owed = owed }) shed calls (HaltIs.Asks request) side unowed came.unrefused
        (λ program p rows here.
        let ended = ends program p rows here in
        let row = row_there program p halted shed calls request rows ended in
        record {
          gone = record { stands = ended.gone.stands; start = ended.gone.start; grown = ended.gone.grown; executed = ended.gone.executed; local = ended.gone.local };
          part = came.part_is ∙ ap (with_bound (Some request) side) ended.part;
          answered = ended.answered;
          turn = ended.turn;
          halted = λ terms births w worker pid.
              let give = give_of worker pid (record { seat = record halted { part = part; owed = owed }; calls = calls; halt = HaltIs.Asks request; side = side; shed = shed }) in
              record {
                kind = ended.judged.0;
                judged = ended.judged.1;
                beside = record {
                  side = subst (λ (q : Part). SideFits (may_come request) w pid q request side) ended.part (came.beside row w pid);
                  birth = no_birth terms births (w.process pid).stage w (turned p give) request side row;
                };
              };
          phase = λ owed_before. (record { phase = ended.phase.phase; bytes = ended.phase.bytes }, came.owed_is row);
          closed = ended.closed;
          tries = came.tries row;
          pending = came.pending row;
          own = λ e. cc;
        })

  -- TRIED AGAIN

  -- a request that is owed is tried again, and this came beside it
  pub given_again : (before : Seat E) (ask : Ask) (side : Side) (part : Part) (owed : Option Ask) → before.owed ≡ Some ask → engines.phase before.engine ≡ Owing ask →
      IsOwed (engines.memory before.engine) before.part ask →
      ((w : World) (pid : ℕ) → SideFits (may_come (request_of (engines.memory before.engine) ask)) w pid before.part (request_of (engines.memory before.engine) ask) side) →
      part ≡ with_bound (Some (request_of (engines.memory before.engine) ask)) side before.part → owed ≡ Some ask → IfSome owed (IsAsked (engines.memory before.engine) part) →
      (World → side ≡ SideIs.Pending → IfSome owed (IsOwed (engines.memory before.engine) part)) → is_from_outside side ≡ true → side ≢ SideIs.NoMemory →
      MayBeGiven engines begin at may_ask before (record { seat = record before { part = part; owed = owed }; calls = []; halt = HaltIs.Again; side = side; shed = [] })
  given_again before ask side part owed is_owed owing tries beside part_is kept asked pending outside unrefused programs first live idle births w worker program away seated found rows =
      let pid = before.start.pid in
      let p = w.process pid in
      let request = request_of (engines.memory before.engine) ask in
      let setting : Setting P = record { programs = programs; begin = begin; at = at; first = first; live = live; idle = idle } in
      let brought : Brought E = record { seat = record before { part = part; owed = owed }; calls = []; halt = HaltIs.Again; side = side; shed = [] } in
      let give = give_of worker pid brought in
      let owed_is : p.owed ≡ Some request = seated.owed ∙ ap (option_map (request_of (engines.memory before.engine))) is_owed in
      record {
        allowed = record {
          away = away;
          turn = gives_again (Some (terms_of setting)) births w p give p.owed request owed_is (record {
            calls = refl;
            fuel = seated.fuel;
            halted = record {
              side = subst (λ (q : Part). SideFits (may_come request) w pid q request side) seated.part (beside w pid);
              birth = pending_birth (call_of request) (Some (terms_of setting)) births (w.process pid).stage w p before.part request side tries.pending;
            };
          });
        };
        turn = no_run setting p give p.owed request owed_is;
        seated = record {
          stands = λ other there. rw (append-nil p.calls, seated.fuel) (seated.stands other there);
          start = seated.start;
          part = part_is ∙ ap (with_bound (Some request) side) seated.part ∙ ap (λ (o : Option Request). with_bound o side p.part) (sym owed_is);
          closed = refl;
        };
        phase = (request, owed_is, record { phase = owing; bytes = refl }, kept);
        tries = asked;
        pending = pending w;
        retried = λ again. outside;
        asked = unrefused;
      }

  -- memory was lacking
  pub given_again_short : (before : Seat E) (ask : Ask) → before.owed ≡ Some ask → IsOwed (engines.memory before.engine) before.part ask →
      MayBeGiven engines begin at may_ask before (record { seat = before; calls = []; halt = HaltIs.NoMemory; side = SideIs.Nothing; shed = [] })
  given_again_short before ask is_owed tries programs first live idle births w worker program away seated found rows =
      let pid = before.start.pid in
      let p = w.process pid in
      let request = request_of (engines.memory before.engine) ask in
      let setting : Setting P = record { programs = programs; begin = begin; at = at; first = first; live = live; idle = idle } in
      let brought : Brought E = record { seat = before; calls = []; halt = HaltIs.NoMemory; side = SideIs.Nothing; shed = [] } in
      let give = give_of worker pid brought in
      let owed_is : p.owed ≡ Some request = seated.owed ∙ ap (option_map (request_of (engines.memory before.engine))) is_owed in
      record {
        allowed = record {
          away = away;
          turn = gives_again (Some (terms_of setting)) births w p give p.owed request owed_is (record { calls = refl; fuel = seated.fuel; halted = (refl, refl) });
        };
        turn = no_run setting p give p.owed request owed_is;
        seated = record {
          stands = λ other there. rw (append-nil p.calls, seated.fuel) (seated.stands other there);
          start = seated.start;
          part = traffic_alone before.part p.part seated.part;
          closed = refl;
        };
        phase = tt;
        tries = rw is_owed tries.asked;
        pending = λ e. absurd (cc);
        retried = λ e. absurd (cc);
        asked = λ e. cc;
      }

use Rattle.std.specs.Prelude.{◌≡◌, ℕ, ◌+◌, List, ◌++◌, Option, Some, None}
use Rattle.std.proofs.Common.{subst, sym, ◌∙◌, inl, inr}
use Rattle.host_port.specs.declared.request.Request.{Request}
use Rattle.world_rules.specs.declared.entry.Entry.{Entry}
use Rattle.world_rules.specs.declared.entry.Side.{Side}
use Rattle.world_rules.specs.declared.life.Birth.{Birth}
use Rattle.world_rules.specs.declared.life.Birth.TheVariants.{Born, Refused}
use Rattle.world_rules.specs.Views.{Given, Cause, Stuck, Idling, Starving, Deed, Taking, Giving, Timing, EndingAll, deed_of, Want, Goes, Wants, Retries, Ends, want_of}
use Rattle.world_rules.specs.Calls.{HostCall, call_of}
use Rattle.world_rules.specs.Calls as CallIs
use Rattle.world_rules.specs.World.{World, Process, Stage, Out}
use Rattle.world_rules.specs.Spawn.{next_birth}
use Rattle.world_rules.specs.Births.{Terms, IsRefusedBirth, BirthFits}
use Rattle.world_rules.specs.Allowed.{SpawnFits, BesideFits, WantFits, RetryEndsSo, GivesTurn, CauseFits, DeedFits, Allowed}
use Rattle.world_rules.specs.laws.BirthLaws.{birth_found, found_longer}

-- What is allowed stays allowed when births are added behind, and when nothing is tested against the terms. Both are
-- one walk: only what is asked of a spawn's birth changes.

-- what is asked of a birth, changed
record Weakens (terms other : Option Terms) (births longer : List Birth) (w : World) : Type 0 where
  birth : (parent : Process) (request : Request) (side : Side)
      → BirthFits terms w parent request side (next_birth births w) →
      BirthFits other w parent request side (next_birth longer w)
  idle : (cause : Cause) → CauseFits terms w cause → CauseFits other w cause

module _ (terms other : Option Terms) (births longer : List Birth) (w : World)
    (weakens : Weakens terms other births longer w) where
  weaker_spawn : (call : Option HostCall) (stage : Stage) (parent : Process) (request : Request) (side : Side)
      → SpawnFits terms births call stage w parent request side → SpawnFits other longer call stage w parent request side
  weaker_spawn (Some CallIs.Spawn) (Out worker) parent request side fits = weakens.birth parent request side fits
  weaker_spawn _ _ parent request side fits = tt

  weaker_beside : (after : Process) (give : Given) (request : Request)
      → BesideFits terms births w after give request → BesideFits other longer w after give request
  weaker_beside after give request fits = record {
    side = fits.side;
    birth = weaker_spawn (call_of request) (w.process give.pid).stage after request give.side fits.birth;
  }

  weaker_want : (p : Process) (give : Given) (want : Want) → WantFits terms births w p give want →
      WantFits other longer w p give want
  weaker_want p give Goes fits = fits
  weaker_want p give (Wants request) fits =
      record { kind = fits.kind; judged = fits.judged; beside = weaker_beside _ give request fits.beside }
  weaker_want p give Retries fits = fits
  weaker_want p give (Ends end) fits = fits

  weaker_retry : (p : Process) (give : Given) (owed : Request) (want : Want)
      → RetryEndsSo terms births w p give owed want → RetryEndsSo other longer w p give owed want
  weaker_retry p give owed Goes fits = fits
  weaker_retry p give owed (Wants request) fits = fits
  weaker_retry p give owed Retries fits = weaker_beside p give owed fits
  weaker_retry p give owed (Ends end) fits = fits

  weaker_turn : (p : Process) (give : Given) (owed : Option Request) → GivesTurn terms births w p give owed →
      GivesTurn other longer w p give owed
  weaker_turn p give None turn = record {
    grown = turn.grown;
    burnt = turn.burnt;
    answered = turn.answered;
    local = turn.local;
    halted = weaker_want p give (want_of give.halt) turn.halted;
  }
  weaker_turn p give (Some owed) turn = record {
    calls = turn.calls;
    fuel = turn.fuel;
    halted = weaker_retry p give owed (want_of give.halt) turn.halted;
  }

  weaker_deed : (deed : Deed) → DeedFits terms births w deed → DeedFits other longer w deed
  weaker_deed (Taking worker pid) fits = fits
  weaker_deed (Giving give) fits = record {
    away = fits.away;
    turn = weaker_turn (w.process give.pid) give (w.process give.pid).owed fits.turn;
  }
  weaker_deed (Timing now) fits = fits
  weaker_deed (EndingAll cause) fits = (fits.0, weakens.idle cause fits.1)

-- MORE BIRTHS BEHIND

longer_births : (terms : Option Terms) (births more : List Birth) (w : World) →
    Weakens terms terms births (births ++ more) w
longer_births terms births more w = record {
  birth = λ parent request side fits.
      let found : (b : Birth)
      × (next_birth births w ≡ Some b) = birth_found terms w parent request side (next_birth births w) fits in
      let P : Option Birth → Type 0 = λ b. BirthFits terms w parent request side b in
      subst P (found.1 ∙ sym (found_longer births more (w.spawns + 1) found.0 found.1)) fits;
  idle = λ cause fits. fits;
}

pub allowed_extends : (terms : Option Terms) (births more : List Birth) (w : World) (entry : Entry)
    → Allowed terms births w entry → Allowed terms (births ++ more) w entry
allowed_extends terms births more w entry allowed =
    weaker_deed terms terms births (births ++ more) w (longer_births terms births more w) (deed_of entry) allowed

-- WITHOUT TERMS

untested_refusal : (terms : Terms) (w : World) (parent : Process) (request : Request) (side : Side) (reply : ℕ)
    → IsRefusedBirth (Some terms) w parent request side reply → IsRefusedBirth None w parent request side reply
untested_refusal terms w parent request side reply (inl crowded) =
    inl (record { answer = crowded.answer; beside = crowded.beside; crowded = tt })
untested_refusal terms w parent request side reply (inr (inl numberless)) =
    inr (inl (record { answer = numberless.answer; beside = numberless.beside; place = tt; drawn = numberless.drawn }))
untested_refusal terms w parent request side reply (inr (inr (inl startless))) =
    inr (inr (inl (record {
      answer =
          startless.answer;
      beside = startless.beside;
      place = tt;
      number = startless.number;
      startless = tt;
    })))
untested_refusal terms w parent request side reply (inr (inr (inr memoryless))) =
    inr (inr (inr (record {
      answer =
          memoryless.answer;
      beside = memoryless.beside;
      place = tt;
      number = memoryless.number;
    })))

untested_birth : (terms : Terms) (w : World) (parent : Process) (request : Request) (side : Side) (birth : Option Birth)
    → BirthFits (Some terms) w parent request side birth → BirthFits None w parent request side birth
untested_birth terms w parent request side None fits = fits
untested_birth terms w parent request side (Some (Born start)) fits =
    record { beside = fits.beside; place = tt; number = fits.number; child = fits.child; starts = tt }
untested_birth terms w parent request side (Some (Refused reply)) fits =
    untested_refusal terms w parent request side reply fits

untested_cause : (terms : Terms) (w : World) (cause : Cause) → CauseFits (Some terms) w cause → CauseFits None w cause
untested_cause terms w Stuck fits = fits
untested_cause terms w Idling fits = tt
untested_cause terms w Starving fits = fits

untested : (terms : Terms) (births : List Birth) (w : World) → Weakens (Some terms) None births births w
untested terms births w = record {
  birth = λ parent request side fits. untested_birth terms w parent request side (next_birth births w) fits;
  idle = untested_cause terms w;
}

pub allowed_untested : (terms : Terms) (births : List Birth) (w : World) (entry : Entry) →
    Allowed (Some terms) births w entry → Allowed None births w entry
allowed_untested terms births w entry allowed =
    weaker_deed (Some terms) None births births w (untested terms births w) (deed_of entry) allowed

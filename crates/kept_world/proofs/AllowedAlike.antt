-- In alike worlds the same entries are allowed, where it is known what the giver's worker brings back.
use Rattle.std.specs.Prelude.{◌≡◌, ◌⊎◌, ℕ, ◌+◌, ◌-◌, ◌<◌, ◌≤◌, List, length, slice_get, Option, Some, None, true, false, not, nat_eq, if◌then◌else◌, refl}
use Rattle.std.specs.Option.{option_map_or}
use Rattle.std.proofs.Common.{subst, sym, ◌∙◌, ap, inl, inr}
use Rattle.host_port.specs.Allowance.{Allowance}
use Rattle.host_port.specs.declared.start.Start.{Start}
use Rattle.host_port.specs.declared.request.Request.{Request}
use Rattle.host_port.specs.declared.row.MayCome.{MayCome}
use Rattle.host_port.specs.declared.row.MayCome.TheVariants as Beside
use Rattle.spawn_config.specs.Lower.{lower_of}
use Rattle.turn_rules.specs.Turn.{turn_fuel, IsUsedUp}
use Rattle.world_rules.specs.declared.entry.Side.{Side}
use Rattle.world_rules.specs.declared.entry.Side.TheVariants as SideIs
use Rattle.world_rules.specs.declared.halt.HostFault.{HostFault}
use Rattle.world_rules.specs.declared.life.Birth.{Birth}
use Rattle.world_rules.specs.declared.life.Birth.TheVariants.{Born, Refused}
use Rattle.world_rules.specs.Views.{Given, Cause, Stuck, Idling, Starving, Deed, Taking, Giving, Timing, EndingAll, Want, Goes, Wants, Retries, Ends, want_of, asked_in, fault_in}
use Rattle.world_rules.specs.Calls.{HostCall, call_of, arg}
use Rattle.world_rules.specs.Calls as CallIs
use Rattle.world_rules.specs.Kinds.{may_come}
use Rattle.world_rules.specs.Part.{Part}
use Rattle.world_rules.specs.Judge.{charged, Fit, Faulty, judge, no_config}
use Rattle.world_rules.specs.Local.{AreLocal, part_after}
use Rattle.world_rules.specs.World.{World, Process, Stage, Out, is_away, is_ended, unended_count}
use Rattle.world_rules.specs.Rules.{turned}
use Rattle.world_rules.specs.Spawn.{child_limits, IsChildStart, next_birth}
use Rattle.world_rules.specs.Births.{Terms, most_numbers, IsCrowded, HasPlace, StartsNothing, IsRefusedBirth, BirthFits}
use Rattle.world_rules.specs.Allowed.{IsWith, is_out, plain_answer, IsRefusal, SideFits, SpawnFits, BesideFits, FaultFits, WantFits, RetryEndsSo, GivesTurn, CauseFits, DeedFits}
use Rattle.kept_world.proofs.Alike.{Seen, Hand, hand_of, Rest, Same}
use Rattle.kept_world.proofs.MailAlike.{tested_same, timed_same, send_answer_same}
use Rattle.kept_world.proofs.EndsAlike.{link_answer_same, put_answer_same, next_birth_same}
use Rattle.kept_world.proofs.NextAlike.{Brings}

-- alike is alike the other way round
pub like_back : (known : ℕ → Type 0) (w v : World) → Same known w v → Same known v w
like_back known w v like = record {
  rest = sym like.rest;
  process = λ q. record { seen = sym (like.process q).seen; hand = λ k. sym ((like.process q).hand (by q k)) };
}
  where
    by : (q : ℕ) → (is_away (v.process q).stage ≡ false) ⊎ known q → (is_away (w.process q).stage ≡ false) ⊎ known q
    by q (inl home) = inl (ap (λ (s : Seen). is_away s.stage) (like.process q).seen ∙ home)
    by q (inr k) = inr k

-- BIRTHS

-- the parent as what it had at hand
abbrev SameParent : Process → Process → Type 0
SameParent p r = (p.start ≡ r.start) × (p.part ≡ r.part)

limits_same : (p r : Process) (config : ℕ) → SameParent p r → child_limits p config ≡ child_limits r config
limits_same p r config same =
    ap (λ (start : Start). if nat_eq config no_config then start.limits else option_map_or (λ (limits : Allowance). lower_of limits start.limits) (p.part.configs config) start.limits) same.0
    ∙ ap (λ (part : Part). if nat_eq config no_config then r.start.limits else option_map_or (λ (limits : Allowance). lower_of limits r.start.limits) (part.configs config) r.start.limits) same.1

module _ (known : ℕ → Type 0) (w v : World) (like : Same known w v) where
  child_fits : (p r : Process) (request : Request) (start : Start) → SameParent p r → IsChildStart w p request start → IsChildStart v r request start
  child_fits p r request start same child = record {
    pid = child.pid ∙ ap (λ (x : Rest). x.numbers + 1) like.rest;
    «module» = child.«module»;
    entry = child.entry;
    params = child.params;
    limits = child.limits ∙ limits_same p r (arg request 1) same;
  }

  unended_same : unended_count w ≡ unended_count v
  unended_same = ap (λ (pids : List ℕ). length pids) (tested_same known w v (λ s. not (is_ended s.stage)) like)

  place_fits : (terms : Option Terms) → HasPlace terms w → HasPlace terms v
  place_fits None place = tt
  place_fits (Some terms) place = subst (λ (n : ℕ). n < terms.live) unended_same place

  crowd_fits : (terms : Option Terms) → IsCrowded terms w → IsCrowded terms v
  crowd_fits None crowded = tt
  crowd_fits (Some terms) crowded = subst (λ (n : ℕ). terms.live ≤ n) unended_same crowded

  number_fits : w.numbers_drawn < most_numbers → v.numbers_drawn < most_numbers
  number_fits less = subst (λ (x : Rest). x.numbers < most_numbers) like.rest less

  drawn_fits : most_numbers ≤ w.numbers_drawn → most_numbers ≤ v.numbers_drawn
  drawn_fits more = subst (λ (x : Rest). most_numbers ≤ x.numbers) like.rest more

starts_nothing : (known : ℕ → Type 0) (w v : World) (terms : Option Terms) (p r : Process) (request : Request) → Same known w v → SameParent p r
    → StartsNothing terms w p request → StartsNothing terms v r request
starts_nothing known w v None p r request like same fits = tt
starts_nothing known w v (Some terms) p r request like same fits =
    λ start child. fits start (child_fits known v w (like_back known w v like) r p request start (sym same.0, sym same.1) child)

module _ (known : ℕ → Type 0) (w v : World) (like : Same known w v) where
  refused_fits : (terms : Option Terms) (p r : Process) (request : Request) (side : Side) (reply : ℕ) → SameParent p r
      → IsRefusedBirth terms w p request side reply → IsRefusedBirth terms v r request side reply
  refused_fits terms p r request side reply same (inl crowded) =
      inl (record { answer = crowded.answer; beside = crowded.beside; crowded = crowd_fits known w v like terms crowded.crowded })
  refused_fits terms p r request side reply same (inr (inl numberless)) =
      inr (inl (record { answer = numberless.answer; beside = numberless.beside; place = place_fits known w v like terms numberless.place; drawn = drawn_fits known w v like numberless.drawn }))
  refused_fits terms p r request side reply same (inr (inr (inl startless))) =
      inr (inr (inl (record {
        answer = startless.answer;
        beside = startless.beside;
        place = place_fits known w v like terms startless.place;
        number = number_fits known w v like startless.number;
        startless = starts_nothing known w v terms p r request like same startless.startless;
      })))
  refused_fits terms p r request side reply same (inr (inr (inr memoryless))) =
      inr (inr (inr (record {
        answer = memoryless.answer;
        beside = memoryless.beside;
        place = place_fits known w v like terms memoryless.place;
        number = number_fits known w v like memoryless.number;
      })))

  birth_fits : (terms : Option Terms) (p r : Process) (request : Request) (side : Side) (birth : Option Birth) → SameParent p r
      → BirthFits terms w p request side birth → BirthFits terms v r request side birth
  birth_fits terms p r request side None same fits = fits
  birth_fits terms p r request side (Some (Born start)) same fits = record {
    beside = fits.beside;
    place = place_fits known w v like terms fits.place;
    number = number_fits known w v like fits.number;
    child = child_fits known w v like p r request start same fits.child;
    starts = fits.starts;
  }
  birth_fits terms p r request side (Some (Refused reply)) same fits = refused_fits terms p r request side reply same fits

  spawn_fits : (terms : Option Terms) (births : List Birth) (call : Option HostCall) (stage : Stage) (p r : Process) (request : Request) (side : Side) → SameParent p r
      → SpawnFits terms births call stage w p request side → SpawnFits terms births call stage v r request side
  spawn_fits terms births (Some CallIs.Spawn) (Out worker) p r request side same fits =
      subst (λ (birth : Option Birth). BirthFits terms v r request side birth) (next_birth_same known births w v like)
      (birth_fits terms p r request side (next_birth births w) same fits)
  spawn_fits terms births _ _ p r request side same fits = tt

  -- SIDES

  plain_same : (call : Option HostCall) (pid : ℕ) (request : Request) → known pid → plain_answer call w pid request ≡ plain_answer call v pid request
  plain_same (Some CallIs.Send) pid request k = send_answer_same known pid k w v (arg request 0) false like
  plain_same (Some CallIs.Link) pid request k = link_answer_same known w v pid (arg request 1) false like
  plain_same (Some CallIs.RegistryPut) pid request k = put_answer_same known w v (arg request 2) false like
  plain_same _ pid request k = refl

  refusal_fits : (pid : ℕ) (request : Request) → known pid → IsRefusal w pid request → IsRefusal v pid request
  refusal_fits pid request k fits = record {
    refusable = fits.refusable;
    performed = subst (λ (s : Seen). is_out s.stage ≡ true) (like.process pid).seen fits.performed;
    lost = sym (plain_same (call_of request) pid request k) ∙ fits.lost;
  }

  side_fits : (comes : Option MayCome) (pid : ℕ) (part : Part) (request : Request) (side : Side) → known pid
      → SideFits comes w pid part request side → SideFits comes v pid part request side
  side_fits None pid part request side k fits = absurd fits
  side_fits (Some Beside.Nothing) pid part request SideIs.Nothing k fits = tt
  side_fits (Some Beside.Nothing) pid part request (SideIs.Clock now) k fits = absurd fits
  side_fits (Some Beside.Nothing) pid part request SideIs.Pending k fits = absurd fits
  side_fits (Some Beside.Nothing) pid part request (SideIs.Answer reply) k fits = absurd fits
  side_fits (Some Beside.Nothing) pid part request SideIs.Opened k fits = absurd fits
  side_fits (Some Beside.Nothing) pid part request SideIs.NoMemory k fits = refusal_fits pid request k fits
  side_fits (Some Beside.Clock) pid part request SideIs.Nothing k fits = absurd fits
  side_fits (Some Beside.Clock) pid part request (SideIs.Clock now) k fits = tt
  side_fits (Some Beside.Clock) pid part request SideIs.Pending k fits = absurd fits
  side_fits (Some Beside.Clock) pid part request (SideIs.Answer reply) k fits = absurd fits
  side_fits (Some Beside.Clock) pid part request SideIs.Opened k fits = absurd fits
  side_fits (Some Beside.Clock) pid part request SideIs.NoMemory k fits = absurd fits
  side_fits (Some (Beside.Answer pending opened)) pid part request SideIs.Nothing k fits = absurd fits
  side_fits (Some (Beside.Answer pending opened)) pid part request (SideIs.Clock now) k fits = absurd fits
  side_fits (Some (Beside.Answer true opened)) pid part request SideIs.Pending k fits = fits
  side_fits (Some (Beside.Answer false opened)) pid part request SideIs.Pending k fits = absurd fits
  side_fits (Some (Beside.Answer pending opened)) pid part request (SideIs.Answer reply) k fits = fits
  side_fits (Some (Beside.Answer pending true)) pid part request SideIs.Opened k fits = fits
  side_fits (Some (Beside.Answer pending false)) pid part request SideIs.Opened k fits = absurd fits
  side_fits (Some (Beside.Answer pending opened)) pid part request SideIs.NoMemory k fits = absurd fits

  beside_fits : (terms : Option Terms) (births : List Birth) (p r : Process) (give : Given) (request : Request) → known give.pid → SameParent p r
      → BesideFits terms births w p give request → BesideFits terms births v r give request
  beside_fits terms births p r give request k same fits = record {
    side = subst (λ (part : Part). SideFits (may_come request) v give.pid part request give.side) same.1 (side_fits (may_come request) give.pid p.part request give.side k fits.side);
    birth = subst (λ (s : Seen). SpawnFits terms births (call_of request) s.stage v r request give.side) (like.process give.pid).seen
        (spawn_fits terms births (call_of request) (w.process give.pid).stage p r request give.side same fits.birth);
  }

  -- TURNS

  module _ (terms : Option Terms) (births : List Birth) (give : Given) (k : known give.pid) where
    at_hand : hand_of (w.process give.pid) ≡ hand_of (v.process give.pid)
    at_hand = (like.process give.pid).hand (inr k)

    turned_parent : SameParent (turned (w.process give.pid) give) (turned (v.process give.pid) give)
    turned_parent = (
      ap (λ (h : Hand). h.start) at_hand,
      ap (λ (h : Hand). option_map_or (λ (request : Request). charged request (part_after h.start h.part give.calls)) (asked_in give.halt) (part_after h.start h.part give.calls)) at_hand,
    )

    fault_fits : (faulty : Option (HostFault × Request)) → FaultFits (w.process give.pid) give faulty → FaultFits (v.process give.pid) give faulty
    fault_fits None fits = tt
    fault_fits (Some faulty) fits = subst (λ (h : Hand). judge h.start (part_after h.start h.part give.calls) faulty.1 ≡ Faulty faulty.0) at_hand fits

    want_fits : (want : Want) → WantFits terms births w (w.process give.pid) give want → WantFits terms births v (v.process give.pid) give want
    want_fits Goes fits = (fits.0, subst (λ (h : Hand). ∥ IsUsedUp (give.fuel - h.fuel) (length give.calls) ∥₁) at_hand fits.1)
    want_fits (Wants request) fits = record {
      kind = fits.kind;
      judged = subst (λ (h : Hand). judge h.start (part_after h.start h.part give.calls) request ≡ Fit) at_hand fits.judged;
      beside = beside_fits terms births (turned (w.process give.pid) give) (turned (v.process give.pid) give) give request k turned_parent fits.beside;
    }
    want_fits Retries fits = fits
    want_fits (Ends end) fits = (fits.0, fault_fits (fault_in give.halt) fits.1)

    retry_fits : (owed : Request) (want : Want) → RetryEndsSo terms births w (w.process give.pid) give owed want → RetryEndsSo terms births v (v.process give.pid) give owed want
    retry_fits owed Goes fits = fits
    retry_fits owed (Wants request) fits = fits
    retry_fits owed Retries fits =
        beside_fits terms births (w.process give.pid) (v.process give.pid) give owed k (ap (λ (h : Hand). h.start) at_hand, ap (λ (h : Hand). h.part) at_hand) fits
    retry_fits owed (Ends end) fits = fits

    turn_fits : (owed : Option Request) → GivesTurn terms births w (w.process give.pid) give owed → GivesTurn terms births v (v.process give.pid) give owed
    turn_fits None turn = record {
      grown = subst (λ (h : Hand). h.fuel ≤ give.fuel) at_hand turn.grown;
      burnt = subst (λ (h : Hand). give.fuel ≤ h.fuel + turn_fuel) at_hand turn.burnt;
      answered = turn.answered;
      local = subst (λ (h : Hand). AreLocal h.start h.part give.calls) at_hand turn.local;
      halted = want_fits (want_of give.halt) turn.halted;
    }
    turn_fits (Some owed) turn = record {
      calls = turn.calls;
      fuel = subst (λ (h : Hand). give.fuel ≡ h.fuel) at_hand turn.fuel;
      halted = retry_fits owed (want_of give.halt) turn.halted;
    }

  -- ENTRIES

  cause_fits : (terms : Option Terms) (cause : Cause) → CauseFits terms w cause → CauseFits terms v cause
  cause_fits terms Stuck fits = record {
    ready = sym (ap (λ (r : Rest). r.ready) like.rest) ∙ fits.ready;
    away = λ pid. subst (λ (s : Seen). is_away s.stage ≡ false) (like.process pid).seen (fits.away pid);
    timed = sym (timed_same known w v like) ∙ fits.timed;
  }
  cause_fits None Idling fits = tt
  cause_fits (Some terms) Idling fits = subst (λ (r : Rest). terms.idle ≤ r.row) like.rest fits
  cause_fits terms Starving fits = tt

  pub deed_fits : (terms : Option Terms) (births : List Birth) (deed : Deed) → Brings known deed → DeedFits terms births w deed → DeedFits terms births v deed
  deed_fits terms births (Taking worker pid) k fits = subst (λ (r : Rest). (r.over ≡ false) × (slice_get r.ready 0 ≡ Some pid)) like.rest fits
  deed_fits terms births (Giving give) k fits = record {
    away = subst (λ (s : Seen). IsWith s.stage give.worker) (like.process give.pid).seen fits.away;
    turn = subst (λ (h : Hand). GivesTurn terms births v (v.process give.pid) give h.owed) ((like.process give.pid).hand (inr k))
        (turn_fits terms births give k (w.process give.pid).owed fits.turn);
  }
  deed_fits terms births (Timing now) k fits =
      (subst (λ (r : Rest). r.over ≡ false) like.rest fits.0, subst (λ (pids : List ℕ). 0 < length pids) (timed_same known w v like) fits.1)
  deed_fits terms births (EndingAll cause) k fits = (subst (λ (r : Rest). r.over ≡ false) like.rest fits.0, cause_fits terms cause fits.1)

-- What a round makes of what a contract sees of a node.
use Rattle.std.proofs.Common.{◌≡◌, ◌<◌, ◌≤◌, ℕ, ◌+◌, ◌-◌, ◌*◌, List, [], ◌∷◌, ◌++◌, length, Option, Some, None, Bool, true, false, cond, slice_get, option_map, IsSome, is_some, All}
use Rattle.std.proofs.Common.{refl, sym, ◌∙◌, ap, subst, arith}
use Rattle.std.proofs.Common.{append-nil, ◌⊎◌, inl, inr}
use Rattle.std.specs.Prelude.{IfSome}
use Rattle.std.proofs.lemmas.Bool.{cases_lt}
use Rattle.std.proofs.lemmas.List.Elements.{All-nil}
use Rattle.std.proofs.Math.Logic.{∥∥₁_elim}
use Rattle.std.proofs.Math.Nat.{ℕ_set, mul-le-mul_left}
use Rattle.host_port.specs.declared.ask.Ask.{Ask}
use Rattle.host_port.specs.declared.call.Call.{Call}
use Rattle.host_port.specs.declared.request.Request.{Request}
use Rattle.host_port.specs.declared.start.Start.{Start}
use Rattle.host_port.specs.declared.start.StartRefusal.{StartRefusal}
use Rattle.host_port.specs.Areas.{request_of}
use Rattle.host_port.specs.declared.row.MayCome.{MayCome}
use Rattle.host_port.specs.declared.row.MayCome.TheVariants as Beside
use Rattle.host_port.specs.HostTable.{row_of, known_row_of, all_rows}
use Rattle.host_port.specs.Standing.{Standing, State, Asking, Running, Owing, MayStep, state_of}
use Rattle.world_rules.specs.declared.entry.Entry.{Entry}
use Rattle.world_rules.specs.declared.entry.Entry.TheVariants.{Take, Tick, Stall, Idle, Starve}
use Rattle.world_rules.specs.declared.entry.Side.{Side}
use Rattle.world_rules.specs.declared.entry.Side.TheVariants as SideIs
use Rattle.world_rules.specs.declared.halt.Halt.{Halt}
use Rattle.world_rules.specs.declared.halt.Halt.TheVariants as HaltIs
use Rattle.world_rules.specs.declared.halt.End.{End}
use Rattle.world_rules.specs.declared.halt.End.TheVariants as EndIs
use Rattle.world_rules.specs.declared.life.Birth.{Birth}
use Rattle.world_rules.specs.declared.life.Ended.{Ended as EndMemory}
use Rattle.world_rules.specs.Book.{Book, KeepsAll}
use Rattle.world_rules.specs.Births.{Terms}
use Rattle.world_rules.specs.Views.{Given, Want, Goes, Wants, Retries, Ends, want_of, wanted_in, is_pending, worker_of}
use Rattle.world_rules.specs.World.{World, Process, Stage, first_world, first_start}
use Rattle.world_rules.specs.Allowed.{GivesTurn, WantFits, SideFits, RetryFits, RetryEndsSo}
use Rattle.world_rules.specs.Allowed.{TurnFits as AllowedTurn}
use Rattle.world_rules.specs.Legal.{Rounds}
use Rattle.world_rules.specs.Rules.{given, next, row_with, is_pending_give}
use Rattle.world_rules.specs.Time.{timed_processes}
use Rattle.world_rules.specs.Told.{told}
use Rattle.world_rules.specs.Lives.{Setting, IsTurnOf, IsWholeTurn, IsShortTurn, OwnTurnIsRun, IsTurnOfProgram, terms_of}
use Rattle.node_state.specs.Seats.{Meaning, Seat, IsSeatOf, IsOwed, phase_by}
use Rattle.node_state.specs.Changes.{Records}
use Rattle.node_state.specs.Fits.{Brought, TurnFits, give_of, entry_of}
use Rattle.node_state.specs.Streaming.{BroughtStreams, IsOpen, StreamsFit, streamed_beside, streamed_after}
use Rattle.resource_table.specs.Handles.{Handle}
use Rattle.resource_table.specs.Steps.{Told}
use Rattle.world_rules.specs.Kinds.{may_come}
use Rattle.world_rules.specs.Part.{Part}
use Rattle.host_calls.specs.Outsides.{failures_in, waits_in}
use Rattle.node_laws.proofs.ReadyList.{true_is_not_false, nat_eq_other}
use Rattle.node_laws.proofs.Folds.{told-same, told-last}
use Rattle.world_rules.specs.Told.{all_after}
use Rattle.host_calls.specs.Brings.{IsUnderWay, MayBeGiven, StreamsMayCome, wanted_after}
use Rattle.process_table.specs.Seen.{Seen, setting_of, world_of}
use Rattle.process_table.specs.Takes.{SameTerms, IsTimed, RecordsEntry, Ticks, TakesProcess, TakesNothing, TakesOver, Stalls, away_in}
use Rattle.lunatic_cli.specs.Statuses.{AsksSomething, IsTurnOfFirst, EndsByLast}
use Rattle.lunatic_cli.specs.Resting.{IsResting, IsAwake, HasRead, steps_left, rounds_left}
use Rattle.lunatic_cli.proofs.ServedCalls.{IsTriable, served-asked, triable-asked}
use Rattle.lunatic_cli.proofs.GivenBack.{GoesBy, AsksServed, has_come, goes-by-give}
use Rattle.lunatic_cli.proofs.Rounds.{IsOut, front-is, out-taken, rest-same, awake-same, awake-ticked, awake-untimed, rest-none, rest-over-now, rest-given, rest-stall, rest-idle, rest-starve}
use Rattle.lunatic_cli.proofs.Rounds.{nobody-out}
use Rattle.lunatic_cli.proofs.SomeExecuted.{sliced-some, asked-some, asked-at, asked-asks}

module _ {P S : Type 0} (begin : P → Start → Option StartRefusal) (at : P → Start → List Call → ℕ → Option Standing) where
  -- a run over the same programs and terms
  pub setting-same : (old new : Seen P S) → SameTerms old new → setting_of begin at new ≡ setting_of begin at old
  setting-same old new same = λ i. record {
    programs = same.programs i;
    begin = begin;
    at = at;
    first = first_start (same.births i);
    live = same.live i;
    idle = same.idle i;
  }

  -- what a round keeps of a node
  abbrev pub RestsAt : Seen P S → Type 0
  RestsAt node = IsResting (setting_of begin at node) node.book.births (world_of node) node.book.entries

  abbrev pub WakesAt : Seen P S → Type 0
  WakesAt node = IsAwake (setting_of begin at node) node.book.births (world_of node) node.book.entries

  pub rest-over : (old new : Seen P S) → SameTerms old new → IsResting (setting_of begin at old) old.book.births (world_of new) new.book.entries → RestsAt new
  rest-over old new same rest =
      let P : List Birth → Type 0 = λ bs. IsResting (setting_of begin at old) bs (world_of new) new.book.entries in
      let Q : Setting _ → Type 0 = λ s. IsResting s new.book.births (world_of new) new.book.entries in
      subst Q (sym (setting-same old new same)) (subst P (sym same.births) rest)

  pub awake-over : (old new : Seen P S) → SameTerms old new → IsAwake (setting_of begin at old) old.book.births (world_of new) new.book.entries → WakesAt new
  awake-over old new same rest =
      let P : List Birth → Type 0 = λ bs. IsAwake (setting_of begin at old) bs (world_of new) new.book.entries in
      let Q : Setting _ → Type 0 = λ s. IsAwake s new.book.births (world_of new) new.book.entries in
      subst Q (sym (setting-same old new same)) (subst P (sym same.births) rest)

  -- room was made
  pub rest-reserved : (old new : Seen P S) → SameTerms old new → KeepsAll old.book new.book → RestsAt old → RestsAt new
  rest-reserved old new same kept rest =
      rest-over old new same
      (rest-same (setting_of begin at old) old.book.births (world_of old) (world_of new) old.book.entries new.book.entries (told-same old.book new.book kept.births kept.entries) kept.entries rest)

  -- no fewer rounds are left
  pub left-reserved : (old new : Seen P S) → SameTerms old new → KeepsAll old.book new.book →
      rounds_left (setting_of begin at new) (world_of new) ≡ rounds_left (setting_of begin at old) (world_of old)
  left-reserved old new same kept =
      ap (λ (s : Setting P). rounds_left s (world_of new)) (setting-same old new same)
      ∙ ap (λ (w : World). rounds_left (setting_of begin at old) w) (told-same old.book new.book kept.births kept.entries)

  -- nothing happened
  rest-kept : (old new : Seen P S) → SameTerms old new → new.book ≡ old.book → IsResting (setting_of begin at old) old.book.births (world_of old) old.book.entries → RestsAt new
  rest-kept old new same book rest =
      rest-over old new same
      (rest-same (setting_of begin at old) old.book.births (world_of old) (world_of new) old.book.entries new.book.entries (ap told book) (ap (λ (b : Book). b.entries) book) rest)

  -- STARVE

  pub rest-starved : (old new : Seen P S) (over : Bool) → (world_of old).over ≡ over → SameTerms old new →
      ((world_of old).over ≡ true → new.book ≡ old.book) → ((world_of old).over ≡ false → RecordsEntry old.book new.book (Starve 0)) → RestsAt old → RestsAt new
  rest-starved old new true is same kept recorded rest = rest-kept old new same (kept is) rest
  rest-starved old new false is same kept recorded rest =
      let records = (recorded is).1 in
      rest-over old new same
      (rest-same (setting_of begin at old) old.book.births (next old.book.births (world_of old) (Starve 0)) (world_of new) new.book.entries new.book.entries
      (told-last old.book new.book (Starve 0) records.births records.entries) refl
      (rest-starve (setting_of begin at old) old.book.births (world_of old) old.book.entries new.book.entries rest is records.entries))

  -- TICK

  pub awake-read : (old new : Seen P S) (clock : Option ℕ) → SameTerms old new → Ticks old new 0 clock → (world_of old).over ≡ false → IsTimed (world_of old) → RestsAt old → WakesAt new
  awake-read old new clock same ticks going timed rest =
      awake-over old new same
      (awake-same (setting_of begin at old) old.book.births (next old.book.births (world_of old) (Tick 0 ticks.now)) (world_of new) new.book.entries new.book.entries
      (told-last old.book new.book (Tick 0 ticks.now) ticks.recorded.births ticks.recorded.entries) refl
      (awake-ticked (setting_of begin at old) old.book.births (world_of old) old.book.entries new.book.entries ticks.now rest going timed ticks.recorded.entries))

  pub awake-unread : (node : Seen P S) → RestsAt node → WakesAt node
  awake-unread node rest = awake-untimed (setting_of begin at node) node.book.births (world_of node) node.book.entries rest

  -- NOTHING

  pub rest-nothing : (old new : Seen P S) → SameTerms old new → TakesNothing old new → WakesAt old → RestsAt new
  rest-nothing old new same takes awake =
      rest-kept old new same takes.same (rest-none (setting_of begin at old) old.book.births (world_of old) old.book.entries awake takes.none_ready takes.busy)

  -- OVER

  pub rest-idled : (old new : Seen P S) → SameTerms old new → (world_of old).over ≡ false → old.idle ≤ (world_of old).row → RecordsEntry old.book new.book (Idle 0) → WakesAt old → RestsAt new
  rest-idled old new same going idle recorded awake =
      let records = recorded.1 in
      rest-over old new same
      (rest-same (setting_of begin at old) old.book.births (next old.book.births (world_of old) (Idle 0)) (world_of new) new.book.entries new.book.entries
      (told-last old.book new.book (Idle 0) records.births records.entries) refl
      (rest-idle (setting_of begin at old) old.book.births (world_of old) old.book.entries new.book.entries awake going idle records.entries))

  pub rest-stalled : (old new : Seen P S) → SameTerms old new → (world_of old).over ≡ false → Stalls old new 0 → WakesAt old → RestsAt new
  rest-stalled old new same going stalls awake =
      let records = stalls.recorded.1 in
      rest-over old new same
      (rest-same (setting_of begin at old) old.book.births (next old.book.births (world_of old) (Stall 0)) (world_of new) new.book.entries new.book.entries
      (told-last old.book new.book (Stall 0) records.births records.entries) refl
      (rest-stall (setting_of begin at old) old.book.births (world_of old) old.book.entries new.book.entries awake going stalls.none_ready records.entries))

  -- the run is over: it was, or it is now
  pub rest-stuck : (old new : Seen P S) (over : Bool) → (world_of old).over ≡ over → SameTerms old new → TakesOver old new 0 → WakesAt old → RestsAt new
  rest-stuck old new true is same takes awake =
      rest-kept old new same (takes.was_over is) (rest-over-now (setting_of begin at old) old.book.births (world_of old) old.book.entries awake is)
  rest-stuck old new false is same takes awake =
      elim (cases_lt (world_of old).row old.idle) as (λ _. RestsAt new) [
        | inl busy ↦ rest-stalled old new same is (takes.stalls is busy) awake
        | inr idle ↦ rest-idled old new same is idle (takes.idles is idle) awake
      ]

-- the entries that were recorded: none, or one
module _ {P S : Type 0} where
  pub entries-starved : (old new : Seen P S) (over : Bool) → (world_of old).over ≡ over →
      ((world_of old).over ≡ true → new.book ≡ old.book) → ((world_of old).over ≡ false → RecordsEntry old.book new.book (Starve 0)) →
      (more : List Entry) × (new.book.entries ≡ old.book.entries ++ more) × ((more ≡ []) ⊎ (more ≡ Starve 0 ∷ []))
  entries-starved old new true is kept recorded = ([], ap (λ (b : Book). b.entries) (kept is) ∙ sym (append-nil old.book.entries), inl refl)
  entries-starved old new false is kept recorded = (Starve 0 ∷ [], (recorded is).1.entries, inr refl)

  pub entries-stuck : (old new : Seen P S) (over : Bool) → (world_of old).over ≡ over → TakesOver old new 0 →
      (more : List Entry) × (new.book.entries ≡ old.book.entries ++ more) × ((more ≡ []) ⊎ ((more ≡ Stall 0 ∷ []) ⊎ (more ≡ Idle 0 ∷ [])))
  entries-stuck old new true is takes = ([], ap (λ (b : Book). b.entries) (takes.was_over is) ∙ sym (append-nil old.book.entries), inl refl)
  entries-stuck old new false is takes =
      elim (cases_lt (world_of old).row old.idle) as (λ _. (more : List Entry) × (new.book.entries ≡ old.book.entries ++ more) × ((more ≡ []) ⊎ ((more ≡ Stall 0 ∷ []) ⊎ (more ≡ Idle 0 ∷ [])))) [
        | inl busy ↦ (Stall 0 ∷ [], (takes.stalls is busy).recorded.1.entries, inr (inl refl))
        | inr idle ↦ (Idle 0 ∷ [], (takes.idles is idle).1.entries, inr (inr refl))
      ]

-- PROC

-- the turn of a process that goes on

asks-of : (at : List Call → ℕ → Option Standing) (p : Process) (calls : List Call) (used : ℕ) (halt : Halt) (request : Request) → want_of halt ≡ Wants request → IsTurnOf at p calls used halt
    → IsWholeTurn at p calls used (HaltIs.Asks request)
asks-of at p calls used HaltIs.Slice request wants turn = let x : Goes ≡ Wants request = wants in absurd (cc)
asks-of at p calls used (HaltIs.Asks asked) request wants turn = let x : Wants asked ≡ Wants request = wants in let same : asked ≡ request = cc in subst (λ (r : Request). IsWholeTurn at p calls used
    (HaltIs.Asks r)) same turn
asks-of at p calls used HaltIs.Done request wants turn = absurd (let x = wants in cc)
asks-of at p calls used (HaltIs.Trap trap) request wants turn = absurd (let x = wants in cc)
asks-of at p calls used (HaltIs.Spent spent) request wants turn = absurd (let x = wants in cc)
asks-of at p calls used (HaltIs.Host fault other) request wants turn = absurd (let x = wants in cc)
asks-of at p calls used HaltIs.NoMemory request wants turn = absurd (let x = wants in cc)
asks-of at p calls used HaltIs.Again request wants turn = absurd (let x = wants in cc)

goes-of : (at : List Call → ℕ → Option Standing) (p : Process) (calls : List Call) (used : ℕ) (halt : Halt) → want_of halt ≡ Goes → IsTurnOf at p calls used halt
    → IsWholeTurn at p calls used HaltIs.Slice
goes-of at p calls used HaltIs.Slice wants turn = turn
goes-of at p calls used (HaltIs.Asks asked) wants turn = absurd (let x = wants in cc)
goes-of at p calls used HaltIs.Done wants turn = absurd (let x = wants in cc)
goes-of at p calls used (HaltIs.Trap trap) wants turn = absurd (let x = wants in cc)
goes-of at p calls used (HaltIs.Spent spent) wants turn = absurd (let x = wants in cc)
goes-of at p calls used (HaltIs.Host fault other) wants turn = absurd (let x = wants in cc)
goes-of at p calls used HaltIs.NoMemory wants turn = absurd (let x = wants in cc)
goes-of at p calls used HaltIs.Again wants turn = absurd (let x = wants in cc)

not-again : (at : List Call → ℕ → Option Standing) (p : Process) (calls : List Call) (used : ℕ) (halt : Halt) → IsTurnOf at p calls used halt → want_of halt ≡ Retries → ⊥
not-again at p calls used HaltIs.Slice turn wants = let x = wants in cc
not-again at p calls used (HaltIs.Asks asked) turn wants = let x = wants in cc
not-again at p calls used HaltIs.Done turn wants = let x = wants in cc
not-again at p calls used (HaltIs.Trap trap) turn wants = let x = wants in cc
not-again at p calls used (HaltIs.Spent spent) turn wants = let x = wants in cc
not-again at p calls used (HaltIs.Host fault other) turn wants = let x = wants in cc
not-again at p calls used HaltIs.NoMemory turn wants = let x = wants in cc
not-again at p calls used HaltIs.Again turn wants = turn.halted

-- SIDES

-- what is recorded beside a Give: the turn's side, or a refusal of memory in place of nothing
abbrev pub IsRecorded : (side recorded : Side) → Type 0
IsRecorded side recorded = ∥ (recorded ≡ side) ⊎ ((side ≡ SideIs.Nothing) × (recorded ≡ SideIs.NoMemory)) ∥₁

recorded-number : (f : Side → ℕ) (side recorded : Side) → f SideIs.NoMemory ≡ f SideIs.Nothing → IsRecorded side recorded → f recorded ≡ f side
recorded-number f side recorded same from = ∥∥₁_elim from (ℕ_set (f recorded) (f side)) by
  where
    by : (recorded ≡ side) ⊎ ((side ≡ SideIs.Nothing) × (recorded ≡ SideIs.NoMemory)) → f recorded ≡ f side
    by (inl e) = ap f e
    by (inr e) = ap f e.1 ∙ same ∙ sym (ap f e.0)

counted-true : (b : Bool) → cond {A = ℕ} b 1 0 ≡ 1 → b ≡ true
counted-true true e = refl
counted-true false e = absurd (omega arith)

counted-false : (b : Bool) → cond {A = ℕ} b 1 0 ≡ 0 → b ≡ false
counted-false true e = absurd (omega arith)
counted-false false e = refl

same-counted : (a b : Bool) → cond {A = ℕ} a 1 0 ≡ cond {A = ℕ} b 1 0 → a ≡ b
same-counted a true e = counted-true a e
same-counted a false e = counted-false a e

pub recorded-pends : (side recorded : Side) → IsRecorded side recorded → is_pending recorded ≡ is_pending side
recorded-pends side recorded from = same-counted (is_pending recorded) (is_pending side) (recorded-number (λ s. cond {A = ℕ} (is_pending s) 1 0) side recorded refl from)

pub recorded-come : (side recorded : Side) → IsRecorded side recorded → has_come recorded ≡ has_come side
recorded-come side recorded from = same-counted (has_come recorded) (has_come side) (recorded-number (λ s. cond {A = ℕ} (has_come s) 1 0) side recorded refl from)

pub recorded-fails : (wanted : Option Request) (side recorded : Side) → IsRecorded side recorded → failures_in wanted recorded ≡ failures_in wanted side
recorded-fails None side recorded from = refl
recorded-fails (Some request) side recorded from = recorded-number (λ s. failures_in (Some request) s) side recorded refl from

pub recorded-waits : (wanted : Option Request) (side recorded : Side) → IsRecorded side recorded → waits_in wanted recorded ≡ waits_in wanted side
recorded-waits None side recorded from = refl
recorded-waits (Some request) side recorded from = recorded-number (λ s. waits_in (Some request) s) side recorded refl from

nothing-pends : (side : Side) → side ≡ SideIs.Nothing → is_pending side ≡ true → ⊥
nothing-pends side is pends = true_is_not_false (sym pends ∙ ap is_pending is)

-- beside a request of the outside something comes
come : (pending opened : Bool) (w : World) (pid : ℕ) (part : Part) (request : Request) (side : Side) → SideFits (Some (Beside.Answer pending opened)) w pid part request side → has_come side ≡ true
come pending opened w pid part request SideIs.Pending fits = refl
come pending opened w pid part request (SideIs.Answer reply) fits = refl
come pending opened w pid part request SideIs.Opened fits = refl
come true true w pid part request SideIs.Nothing fits = absurd fits
come true false w pid part request SideIs.Nothing fits = absurd fits
come false true w pid part request SideIs.Nothing fits = absurd fits
come false false w pid part request SideIs.Nothing fits = absurd fits
come true true w pid part request (SideIs.Clock now) fits = absurd fits
come true false w pid part request (SideIs.Clock now) fits = absurd fits
come false true w pid part request (SideIs.Clock now) fits = absurd fits
come false false w pid part request (SideIs.Clock now) fits = absurd fits
come true true w pid part request SideIs.NoMemory fits = absurd fits
come true false w pid part request SideIs.NoMemory fits = absurd fits
come false true w pid part request SideIs.NoMemory fits = absurd fits
come false false w pid part request SideIs.NoMemory fits = absurd fits

accept-beside : (request : Request) → request.ask.call ≡ 29 → may_come request ≡ Some (Beside.Answer true true)
unfolding known_row_of all_rows
accept-beside request call = rw call refl

read-beside : (request : Request) → request.ask.call ≡ 31 → may_come request ≡ Some (Beside.Answer true false)
unfolding known_row_of all_rows
read-beside request call = rw call refl

write-beside : (request : Request) → request.ask.call ≡ 32 → may_come request ≡ Some (Beside.Answer true false)
unfolding known_row_of all_rows
write-beside request call = rw call refl

triable-comes : (w : World) (pid : ℕ) (part : Part) (request : Request) (side : Side) → IsTriable request.ask.call → SideFits (may_come request) w pid part request side → has_come side ≡ true
triable-comes w pid part request side (inl call) fits =
    come true true w pid part request side (subst (λ (m : Option MayCome). SideFits m w pid part request side) (accept-beside request call) fits)
triable-comes w pid part request side (inr (inl call)) fits =
    come true false w pid part request side (subst (λ (m : Option MayCome). SideFits m w pid part request side) (read-beside request call) fits)
triable-comes w pid part request side (inr (inr call)) fits =
    come true false w pid part request side (subst (λ (m : Option MayCome). SideFits m w pid part request side) (write-beside request call) fits)

-- WHAT IT ASKS

want-served : (terms : Option Terms) (births : List Birth) (w : World) (p : Process) (give : Given) (want : Want) (recorded : Side) → p.owed ≡ None → WantFits terms births w p give want →
    ((request : Request) → want ≡ Wants request → IsSome (row_of request.ask.call)) → AsksServed want p.owed recorded
want-served terms births w p give Goes recorded owes fits rows = tt
want-served terms births w p give (Wants request) recorded owes fits rows = served-asked request (rows request refl) fits.kind
want-served terms births w p give Retries recorded owes fits rows = absurd fits
want-served terms births w p give (Ends end) recorded owes fits rows = tt

retry-served : (terms : Option Terms) (births : List Birth) (w : World) (p : Process) (give : Given) (want : Want) (request : Request) (recorded : Side) → p.owed ≡ Some request →
    IsTriable request.ask.call → IsRecorded give.side recorded → RetryEndsSo terms births w p give request want → AsksServed want p.owed recorded
retry-served terms births w p give Goes request recorded owes triable from fits = tt
retry-served terms births w p give (Wants other) request recorded owes triable from fits = absurd fits
retry-served terms births w p give Retries request recorded owes triable from fits =
    (request, owes, triable, recorded-come give.side recorded from ∙ triable-comes w give.pid p.part request give.side triable fits.side)
retry-served terms births w p give (Ends end) request recorded owes triable from fits = tt

-- HOW MANY ROUNDS ARE LEFT

bound-left : (a b idle row : ℕ) → a + 1 ≤ b → a * (idle + 1) + (idle - row) + 1 ≤ b * (idle + 1)
bound-left a b idle row h =
    let m : (idle + 1) * (a + 1) ≤ (idle + 1) * b = mul-le-mul_left (idle + 1) h in
    omega (arith, m)

steps-own : (most was now : ℕ) (owes : Bool) (before : ℕ) → was + 1 ≤ now → now ≤ most → (most - now) * 2 + cond owes 1 0 + 1 ≤ (most - was) * 2 + before
steps-own most was now true before grows fueled = omega arith
steps-own most was now false before grows fueled = omega arith

steps-same : (most was now : ℕ) (owes owed : Bool) → now ≡ was → owed ≡ true → (most - now) * 2 + cond owes 1 0 ≤ (most - was) * 2 + cond owed 1 0
steps-same most was now true true same owing = rw same (omega arith)
steps-same most was now false true same owing = rw same (omega arith)
steps-same most was now owes false same owing = true_is_not_false (sym owing)

steps-freed : (most was now : ℕ) (owes owed : Bool) → now ≡ was → owed ≡ true → owes ≡ false → (most - now) * 2 + cond owes 1 0 + 1 ≤ (most - was) * 2 + cond owed 1 0
steps-freed most was now false true same owing free = rw same (omega arith)
steps-freed most was now true owed same owing free = true_is_not_false free
steps-freed most was now false false same owing free = true_is_not_false (sym owing)

-- process 1 has gone on: the run is over, or it may do less, or it tried in vain, which lengthened the row
abbrev pub HasGone : {P : Type 0} → Setting P → (was now : World) → Type 0
HasGone setting was now =
    (now.over ≡ true) ⊎ ((steps_left setting now + 1 ≤ steps_left setting was)
    ⊎ ((steps_left setting now ≤ steps_left setting was) × (now.row ≡ was.row + 1) × (is_some (was.process 1).owed ≡ true)))

left-over : (over : Bool) (n m : ℕ) → over ≡ true → 0 < m → cond over 0 n < m
left-over true n m is some = some
left-over false n m is some = true_is_not_false (sym is)

some-left : (over : Bool) (n : ℕ) → over ≡ false → 0 < cond over 0 (n + 1)
some-left true n is = true_is_not_false is
some-left false n is = omega arith

left-less : (over was : Bool) (a b idle row row_before : ℕ) → was ≡ false → a + 1 ≤ b → cond over 0 (a * (idle + 1) + (idle - row) + 1) < cond was 0 (b * (idle + 1) + (idle - row_before) + 1)
left-less over true a b idle row row_before going less = true_is_not_false going
left-less true false a b idle row row_before going less = omega arith
left-less false false a b idle row row_before going less = let most = bound-left a b idle row less in omega (arith, most)

left-longer : (over was : Bool) (a b idle row row_before : ℕ) → was ≡ false → a ≤ b → row_before < row → row_before < idle
    → cond over 0 (a * (idle + 1) + (idle - row) + 1) < cond was 0 (b * (idle + 1) + (idle - row_before) + 1)
left-longer over true a b idle row row_before going less longer busy = true_is_not_false going
left-longer true false a b idle row row_before going less longer busy = omega arith
left-longer false false a b idle row row_before going less longer busy =
    let most : (idle + 1) * a ≤ (idle + 1) * b = mul-le-mul_left (idle + 1) less in omega (arith, most, longer, busy)

-- what process 1 may still do is no more after the clock was read
steps-read : {P : Type 0} (setting : Setting P) (was mid : World) (quiet_before quiet : ℕ) → HasRead was mid quiet_before quiet → steps_left setting mid ≤ steps_left setting was
steps-read setting was mid quiet_before quiet read =
    let fuel : setting.first.limits.fuel - (mid.process 1).fuel ≡ setting.first.limits.fuel - (was.process 1).fuel = ap (λ (n : ℕ). setting.first.limits.fuel - n) read.fuel in
    let owes = read.owes in
    omega (arith, fuel, owes)

-- so fewer rounds are left, where the clock was read before
pub fewer-gone : {P : Type 0} (setting : Setting P) (was mid now : World) (quiet_before quiet : ℕ) → HasRead was mid quiet_before quiet → was.over ≡ false → mid.row < setting.idle →
    HasGone setting mid now → rounds_left setting now < rounds_left setting was
fewer-gone setting was mid now quiet_before quiet read going busy (inl over) =
    left-over now.over _ (rounds_left setting was) over (some-left was.over (steps_left setting was * (setting.idle + 1) + (setting.idle - was.row)) going)
fewer-gone setting was mid now quiet_before quiet read going busy (inr (inl less)) =
    let steps = steps-read setting was mid quiet_before quiet read in
    left-less now.over was.over (steps_left setting now) (steps_left setting was) setting.idle now.row was.row going (omega (arith, steps, less))
fewer-gone setting was mid now quiet_before quiet read going busy (inr (inr longer)) =
    let steps = steps-read setting was mid quiet_before quiet read in
    let rows = read.owing longer.2 in
    let row : now.row ≡ mid.row + 1 = longer.1 in
    left-longer now.over was.over (steps_left setting now) (steps_left setting was) setting.idle now.row was.row going (omega (arith, steps, longer.0)) (omega (arith, rows, row))
    (omega (arith, rows, busy))

-- one round fewer is left where the row is longer
pub longer-left : {P : Type 0} (setting : Setting P) (was mid : World) (quiet_before quiet : ℕ) → HasRead was mid quiet_before quiet → was.over ≡ false → mid.row ≡ was.row + 1 →
    mid.row < setting.idle → rounds_left setting mid < rounds_left setting was
longer-left setting was mid quiet_before quiet read going row busy =
    let steps = steps-read setting was mid quiet_before quiet read in
    left-longer mid.over was.over (steps_left setting mid) (steps_left setting was) setting.idle mid.row was.row going steps (omega (arith, row)) (omega (arith, row, busy))

-- A ROUND

pub same-then : {P S : Type 0} (a b c : Seen P S) → SameTerms a b → SameTerms b c → SameTerms a c
same-then a b c one two = record {
  programs = two.programs ∙ one.programs;
  live = two.live ∙ one.live;
  idle = two.idle ∙ one.idle;
  births = two.births ∙ one.births;
}

same-program : {P : Type 0} (a b : P) (o q : Option P) → o ≡ q → o ≡ Some a → q ≡ Some b → a ≡ b
same-program a b o q same one two = cc

-- the seat owes as the process does
free-ask : (f : Ask → Request) (o : Option Ask) (owed : Option Request) → owed ≡ option_map f o → owed ≡ None → o ≡ None
free-ask f None owed is none = refl
free-ask f (Some ask) owed is none = absurd (let x : Some (f ask) ≡ None = sym is ∙ none in cc)

some-ask : (f : Ask → Request) (o : Option Ask) (owed : Option Request) (request : Request) → owed ≡ option_map f o → owed ≡ Some request → (ask : Ask) × (o ≡ Some ask) × (request ≡ f ask)
some-ask f None owed request is some = absurd (let x : None ≡ Some request = sym is ∙ some in cc)
some-ask f (Some ask) owed request is some = (ask, refl, (let x : Some (f ask) ≡ Some request = sym is ∙ some in cc))

starved-halt : (halt : Halt) → want_of halt ≡ Ends EndIs.NoMemory → halt ≡ HaltIs.NoMemory
starved-halt HaltIs.Slice wants = absurd (let x = wants in cc)
starved-halt (HaltIs.Asks asked) wants = absurd (let x = wants in cc)
starved-halt HaltIs.Done wants = absurd (let x = wants in cc)
starved-halt (HaltIs.Trap trap) wants = absurd (let x = wants in cc)
starved-halt (HaltIs.Spent spent) wants = absurd (let x = wants in cc)
starved-halt (HaltIs.Host fault other) wants = absurd (let x = wants in cc)
starved-halt HaltIs.NoMemory wants = refl
starved-halt HaltIs.Again wants = absurd (let x = wants in cc)

-- a turn that was cut short at the ask that was owed
short-turn : (at : List Call → ℕ → Option Standing) (p : Process) (ask : Ask) (memory : List ℕ) (used : ℕ) → used ≡ 0 → at p.calls p.fuel ≡ Some (record { state = Asking ask; memory = memory }) →
    p.fuel ≤ p.start.limits.fuel → IsShortTurn at p [] used
short-turn at p ask memory used none there bound =
    let here : at (p.calls ++ []) (p.fuel + used) ≡ Some (record { state = Asking ask; memory = memory }) =
    ap (λ (cs : List Call). at cs (p.fuel + used)) (append-nil p.calls) ∙ ap (λ (n : ℕ). at p.calls (p.fuel + n)) none ∙ ap (λ (n : ℕ). at p.calls n) (plus-none p.fuel) ∙ there in
    record {
      after = p.part;
      request = request_of memory ask;
      goes = (record { onward = omega arith; ready = λ k low high. absurd (omega (arith, low, high, none)); bounded = λ less. absurd (omega (arith, less, none)) }, refl);
      within = omega (arith, none);
      few = omega arith;
      fueled = omega (arith, none, bound);
      meets = record { memory = memory; asking = here; bytes = refl };
    }
  where
    plus-none : (n : ℕ) → n + 0 ≡ n
    plus-none n = omega arith

module _ {E P S : Type 0} (engines : Meaning E P) (begin : P → Start → Option StartRefusal) (at : P → Start → List Call → ℕ → Option Standing)
    (may_ask : P → ℕ → Type 0) (old new : Seen P S) (seat : Seat E) (same : SameTerms old new) (awake : WakesAt begin at old) (taken : TakesProcess engines may_ask old new 0 seat) where
  pub one-taken : seat.start.pid ≡ 1
  one-taken = front-is (setting_of begin at old) (world_of old) seat.start.pid awake.at_home taken.front

  becomes-taken : world_of new ≡ next old.book.births (world_of old) (Take 0 1)
  becomes-taken =
      told-last old.book new.book (Take 0 seat.start.pid) taken.recorded.births taken.recorded.entries
      ∙ ap (λ (k : ℕ). next old.book.births (world_of old) (Take 0 k)) one-taken

  pub out-is : IsOut (setting_of begin at old) (world_of new)
  out-is = subst (λ (w : World). IsOut (setting_of begin at old) w) (sym becomes-taken)
      (out-taken (setting_of begin at old) old.book.births (world_of old) seat.start.pid awake.at_home taken.going taken.front)

  took-one : new.book.entries ≡ old.book.entries ++ Take 0 1 ∷ []
  took-one = taken.recorded.entries ∙ ap (λ (k : ℕ). old.book.entries ++ Take 0 k ∷ []) one-taken

  -- where the process that was taken stands
  stands-there : engines.stands seat.engine taken.program ((world_of new).process seat.start.pid).start ((world_of new).process seat.start.pid).calls ((world_of new).process seat.start.pid).fuel
  stands-there = taken.seated.stands taken.program (ap (λ (s : Start). slice_get old.programs s.«module») (sym taken.seated.start) ∙ taken.found)

  pub way-is : IsUnderWay engines (phase_by seat.owed) seat
  way-is =
      let p : Process = (world_of new).process seat.start.pid in
      record {
        program = taken.program;
        calls = p.calls;
        stands = subst (λ (s : Start). engines.stands seat.engine taken.program s p.calls seat.fuel) (sym taken.seated.start)
            (subst (λ (n : ℕ). engines.stands seat.engine taken.program p.start p.calls n) (sym taken.seated.fuel) stands-there);
        phase = taken.seated.phase;
      }

  -- what the turn brings back may be given
  pub fits-given : (brought : Brought E) → MayBeGiven engines begin at may_ask seat brought → brought.seat.start ≡ seat.start →
      TurnFits engines (setting_of begin at new) new.book.births (world_of new) 0 brought.seat.start.pid brought
  fits-given brought given started =
      let found : slice_get new.programs seat.start.«module» ≡ Some taken.program = ap (λ (ps : List P). slice_get ps seat.start.«module») same.programs ∙ taken.found in
      let seated = subst (λ (ps : List P). IsSeatOf engines ps ((world_of new).process seat.start.pid) (phase_by seat.owed) seat) (sym same.programs) taken.seated in
      subst (λ (s : Start). TurnFits engines (setting_of begin at new) new.book.births (world_of new) 0 s.pid brought) (sym started)
      (given new.programs (first_start new.book.births) new.live new.idle new.book.births (world_of new) 0 taken.program (rw taken.out refl) seated found taken.rows)

  -- and its streams
  pub streams-given : (tells : Told S) (hands : List (Handle S)) (brought : Brought E) (streams : BroughtStreams S) → brought.seat.start ≡ seat.start →
      All (IsOpen tells (world_of new).streamed) hands → StreamsMayCome tells (wanted_after engines seat brought.halt) brought.side hands streams →
      StreamsFit tells (streamed_after ((world_of new).process brought.seat.start.pid) (give_of 0 brought.seat.start.pid brought) (world_of new).streamed) brought.side streams
  streams-given tells hands brought streams started stand may =
      let owes : ((world_of new).process brought.seat.start.pid).owed ≡ option_map (request_of (engines.memory seat.engine)) seat.owed =
      ap (λ (s : Start). ((world_of new).process s.pid).owed) started ∙ taken.seated.owed in
      subst (λ (o : Option Request). StreamsFit tells (streamed_beside (wanted_in (want_of brought.halt) o) brought.side (world_of new).streamed) brought.side streams) (sym owes)
      (may (world_of new).streamed stand)

  module _ (next_node : Seen P S) (brought : Brought E) (recorded : Side) (ends : List EndMemory)
      (again : SameTerms new next_node) (started : brought.seat.start ≡ seat.start)
      (fits : TurnFits engines (setting_of begin at new) new.book.births (world_of new) 0 brought.seat.start.pid brought)
      (records : Records new.book next_node.book (entry_of 0 brought.seat.start.pid brought recorded) ends)
      (from : IsRecorded brought.side recorded)
      (asks : (program : P) (start : Start) (cs : List Call) (fuel : ℕ) (ask : Ask) → state_of (at program start cs fuel) ≡ Some (Asking ask) → may_ask program ask.call)
      (owes_ask : (engine : E) (program : P) (start : Start) (cs : List Call) (fuel : ℕ) (ask : Ask) → engines.stands engine program start cs fuel → engines.phase engine ≡ Owing ask
      → state_of (at program start cs fuel) ≡ Some (Asking ask))
      (shows : (engine : E) (program : P) (start : Start) (cs : List Call) (fuel : ℕ) → engines.stands engine program start cs fuel
      → (state : State) × (at program start cs fuel ≡ Some (record { state = state; memory = engines.memory engine })))
      (bounded : (program : P) (start : Start) (cs : List Call) (fuel : ℕ) → IsSome (at program start cs fuel) → fuel ≤ start.limits.fuel)
      (law : (engine : E) (program : P) (start : Start) (cs : List Call) (fuel : ℕ) → engines.stands engine program start cs fuel → engines.phase engine ≡ Running
      → MayStep (state_of (at program start cs fuel))) where
    abbrev p : Process
    p = (world_of new).process 1

    abbrev first : Start
    first = first_start old.book.births

    abbrev give : Given
    give = give_of 0 1 brought

    one-given : brought.seat.start.pid ≡ 1
    one-given = ap (λ (s : Start). s.pid) started ∙ one-taken

    becomes-given : world_of next_node ≡ next old.book.births (world_of new) (entry_of 0 1 brought recorded)
    becomes-given =
        told-last new.book next_node.book (entry_of 0 brought.seat.start.pid brought recorded) records.births records.entries
        ∙ ap (λ (k : ℕ). next new.book.births (world_of new) (entry_of 0 k brought recorded)) one-given
        ∙ ap (λ (bs : List Birth). next bs (world_of new) (entry_of 0 1 brought recorded)) same.births

    gave-one : next_node.book.entries ≡ new.book.entries ++ entry_of 0 1 brought recorded ∷ []
    gave-one = records.entries ∙ ap (λ (k : ℕ). new.book.entries ++ entry_of 0 k brought recorded ∷ []) one-given

    here : TurnFits engines (setting_of begin at new) new.book.births (world_of new) 0 1 brought
    here = subst (λ (k : ℕ). TurnFits engines (setting_of begin at new) new.book.births (world_of new) 0 k brought) one-given fits

    found-first : slice_get old.programs first.«module» ≡ Some taken.program
    found-first =
        let out = out-is in
        ap (λ (s : Start). slice_get old.programs s.«module») (sym out.start)
        ∙ ap (λ (k : ℕ). slice_get old.programs ((world_of new).process k).start.«module») (sym one-taken)
        ∙ ap (λ (s : Start). slice_get old.programs s.«module») (sym taken.seated.start) ∙ taken.found

    stands-first : engines.stands seat.engine taken.program first p.calls p.fuel
    stands-first =
        let out = out-is in
        subst (λ (s : Start). engines.stands seat.engine taken.program s p.calls p.fuel) out.start
        (subst (λ (k : ℕ). engines.stands seat.engine taken.program ((world_of new).process k).start ((world_of new).process k).calls ((world_of new).process k).fuel) one-taken stands-there)

    owes-is : p.owed ≡ option_map (request_of (engines.memory seat.engine)) seat.owed
    owes-is = ap (λ (k : ℕ). ((world_of new).process k).owed) (sym one-taken) ∙ taken.seated.owed

    -- A TURN OF ITS OWN

    module _ (own : p.owed ≡ None) where
      own-turn : IsTurnOfProgram (setting_of begin at new) p give
      own-turn = subst (λ (o : Option Request). OwnTurnIsRun (setting_of begin at new) p give o) own here.turn

      allowed-turn : AllowedTurn (Some (terms_of (setting_of begin at new))) new.book.births (world_of new) p give
      allowed-turn = subst (λ (o : Option Request). GivesTurn (Some (terms_of (setting_of begin at new))) new.book.births (world_of new) p give o) own here.allowed.turn

      program-is : own-turn.program ≡ taken.program
      program-is =
          let out = out-is in
          same-program own-turn.program taken.program (slice_get new.programs p.start.«module») (slice_get old.programs first.«module»)
          (ap (λ (ps : List P). slice_get ps p.start.«module») same.programs ∙ ap (λ (s : Start). slice_get old.programs s.«module») out.start)
          own-turn.found found-first

      turn-given : IsTurnOf (at taken.program first) p brought.calls (brought.seat.fuel - p.fuel) brought.halt
      turn-given =
          let out = out-is in
          subst (λ (program : P). IsTurnOf (at program first) p brought.calls (brought.seat.fuel - p.fuel) brought.halt) program-is
          (subst (λ (s : Start). IsTurnOf (at own-turn.program s) p brought.calls (brought.seat.fuel - p.fuel) brought.halt) out.start own-turn.turn)

      whole-ask : (request : Request) → want_of brought.halt ≡ Wants request → IsWholeTurn (at taken.program first) p brought.calls (brought.seat.fuel - p.fuel) (HaltIs.Asks request)
      whole-ask request wants = asks-of (at taken.program first) p brought.calls (brought.seat.fuel - p.fuel) brought.halt request wants turn-given

      asks-row : (request : Request) → want_of brought.halt ≡ Wants request → IsSome (row_of request.ask.call)
      asks-row request wants =
          let asking = asked-at (at taken.program first) p brought.calls (brought.seat.fuel - p.fuel) request (whole-ask request wants) in
          taken.rows request.ask.call (asks taken.program first asking.0 asking.1 request.ask asking.2)

      served-own : AsksServed (want_of brought.halt) p.owed recorded
      served-own = want-served (Some (terms_of (setting_of begin at new))) new.book.births (world_of new) p give (want_of brought.halt) recorded own allowed-turn.halted asks-row

      asks-own : (request : Request) → want_of brought.halt ≡ Wants request → AsksSomething (setting_of begin at old)
      asks-own request wants =
          let out = out-is in
          asked-asks (setting_of begin at old) taken.program p brought.calls (brought.seat.fuel - p.fuel) request found-first out.start (whole-ask request wants)

      first-own : IsTurnOfFirst (setting_of begin at old) brought.calls brought.seat.fuel brought.halt
      first-own = let out = out-is in record { program = taken.program; found = found-first; process = p; start = out.start; turn = turn-given }

      may-begin : MayStep (state_of (at taken.program first p.calls p.fuel))
      may-begin = law seat.engine taken.program first p.calls p.fuel stands-first (taken.seated.phase ∙ ap phase_by (free-ask (request_of (engines.memory seat.engine)) seat.owed p.owed owes-is own))

    -- A TURN THAT ONLY TRIES AGAIN

    module _ (request : Request) (owes : p.owed ≡ Some request) where
      ask-is : (ask : Ask) × (seat.owed ≡ Some ask) × (request ≡ request_of (engines.memory seat.engine) ask)
      ask-is = some-ask (request_of (engines.memory seat.engine)) seat.owed p.owed request owes-is owes

      asking : state_of (at taken.program first p.calls p.fuel) ≡ Some (Asking ask-is.0)
      asking = owes_ask seat.engine taken.program first p.calls p.fuel ask-is.0 stands-first (taken.seated.phase ∙ ap phase_by ask-is.1)

      owed-is : IsOwed (engines.memory seat.engine) seat.part ask-is.0
      owed-is = subst (λ (o : Option Ask). IfSome o (IsOwed (engines.memory seat.engine) seat.part)) ask-is.1 taken.tries

      triable : IsTriable request.ask.call
      triable = subst (λ (r : Request). IsTriable r.ask.call) (sym ask-is.2)
          (triable-asked seat.part (request_of (engines.memory seat.engine) ask-is.0) (taken.rows ask-is.0.call (asks taken.program first p.calls p.fuel ask-is.0 asking)) owed-is.pending)

      retry : RetryFits (Some (terms_of (setting_of begin at new))) new.book.births (world_of new) p give request
      retry = subst (λ (o : Option Request). GivesTurn (Some (terms_of (setting_of begin at new))) new.book.births (world_of new) p give o) owes here.allowed.turn

      served-again : AsksServed (want_of brought.halt) p.owed recorded
      served-again = retry-served (Some (terms_of (setting_of begin at new))) new.book.births (world_of new) p give (want_of brought.halt) request recorded owes triable from retry.halted

      something : AsksSomething (setting_of begin at old)
      something = record { program = taken.program; found = found-first; calls = p.calls; fuel = p.fuel; ask = ask-is.0; asks = asking }

      first-again : (end : End) → want_of brought.halt ≡ Ends end → IsTurnOfFirst (setting_of begin at old) brought.calls brought.seat.fuel brought.halt
      first-again end wants =
          let out = out-is in
          let ends : RetryEndsSo (Some (terms_of (setting_of begin at new))) new.book.births (world_of new) p give request (Ends end) =
          subst (λ (x : Want). RetryEndsSo (Some (terms_of (setting_of begin at new))) new.book.births (world_of new) p give request x) wants retry.halted in
          let lacks : brought.halt ≡ HaltIs.NoMemory = starved-halt brought.halt (wants ∙ ap Ends ends.0) in
          let shown = shows seat.engine taken.program first p.calls p.fuel stands-first in
          let state_is : shown.0 ≡ Asking ask-is.0 = let x : Some shown.0 ≡ Some (Asking ask-is.0) = sym (ap state_of shown.1) ∙ asking in cc in
          let there : at taken.program first p.calls p.fuel ≡ Some (record { state = Asking ask-is.0; memory = engines.memory seat.engine }) =
          shown.1 ∙ ap (λ (x : State). Some (record { state = x; memory = engines.memory seat.engine })) state_is in
          let most : p.fuel ≤ p.start.limits.fuel = subst (λ (s : Start). p.fuel ≤ s.limits.fuel) (sym out.start) (bounded taken.program first p.calls p.fuel (rw there refl)) in
          let fuel : brought.seat.fuel ≡ p.fuel = retry.fuel in
          let short : IsShortTurn (at taken.program first) p [] (brought.seat.fuel - p.fuel) =
          short-turn (at taken.program first) p ask-is.0 (engines.memory seat.engine) (brought.seat.fuel - p.fuel) (omega (arith, fuel)) there most in
          record {
            program = taken.program;
            found = found-first;
            process = p;
            start = out.start;
            turn = subst (λ (h : Halt). IsTurnOf (at taken.program first) p brought.calls (brought.seat.fuel - p.fuel) h) (sym lacks)
                (subst (λ (cs : List Call). IsShortTurn (at taken.program first) p cs (brought.seat.fuel - p.fuel)) (sym retry.calls) short);
          }

    -- BOTH

    served : (o : Option Request) → p.owed ≡ o → AsksServed (want_of brought.halt) p.owed recorded
    served None own = served-own own
    served (Some request) owes = served-again request owes

    first-turn : (o : Option Request) → p.owed ≡ o → (end : End) → want_of brought.halt ≡ Ends end → IsTurnOfFirst (setting_of begin at old) brought.calls brought.seat.fuel brought.halt
    first-turn None own end wants = first-own own
    first-turn (Some request) owes end wants = first-again request owes end wants

    wants-something : (o : Option Request) → p.owed ≡ o → (request : Request) → want_of brought.halt ≡ Wants request → AsksSomething (setting_of begin at old)
    wants-something None own request wants = asks-own own request wants
    wants-something (Some owed) owes request wants = something owed owes

    abbrev gave : Given
    gave = record give { side = recorded }

    goes-given : GoesBy (want_of brought.halt) (world_of new) (given p.stage old.book.births (world_of new) gave) p.start brought.seat.fuel recorded
    goes-given = let out = out-is in goes-by-give old.book.births (world_of new) gave refl out.out out.drawn out.others (served p.owed refl)

    pends : (o : Option Request) → p.owed ≡ o → (want : Want) → want_of brought.halt ≡ want → is_pending recorded ≡ true → AsksSomething (setting_of begin at old)
    pends (Some owed) owes want wants waits = something owed owes
    pends None own (Wants request) wants waits = asks-own own request wants
    pends None own Retries wants waits = absurd (not-again (at taken.program first) p brought.calls (brought.seat.fuel - p.fuel) brought.halt (turn-given own) wants)
    pends None own Goes wants waits =
        let fits = subst (λ (x : Want). WantFits (Some (terms_of (setting_of begin at new))) new.book.births (world_of new) p give x) wants (allowed-turn own).halted in
        absurd (nothing-pends brought.side fits.0 (sym (recorded-pends brought.side recorded from) ∙ waits))
    pends None own (Ends end) wants waits =
        let fits = subst (λ (x : Want). WantFits (Some (terms_of (setting_of begin at new))) new.book.births (world_of new) p give x) wants (allowed-turn own).halted in
        absurd (nothing-pends brought.side fits.0 (sym (recorded-pends brought.side recorded from) ∙ waits))

    pub rest-round : RestsAt begin at next_node
    rest-round =
        let out = out-is in
        rest-over begin at old next_node (same-then old new next_node same again)
        (rest-same (setting_of begin at old) old.book.births (next old.book.births (world_of new) (entry_of 0 1 brought recorded))
        (world_of next_node) next_node.book.entries next_node.book.entries becomes-given refl
        (rest-given (setting_of begin at old) old.book.births (world_of old) (world_of new) old.book.entries new.book.entries next_node.book.entries brought.calls brought.seat.fuel brought.halt
        recorded awake taken.going becomes-taken out took-one gave-one (omega (arith, taken.busy))
        (given p.stage old.book.births (world_of new) gave) (want_of brought.halt) refl refl goes-given
        (first-turn p.owed refl) (wants-something p.owed refl) (pends p.owed refl (want_of brought.halt) refl)))

    -- HOW MANY ROUNDS ARE LEFT

    -- what becomes of process 1 and of the run, but for the ready list and the row
    gone-by : (o : Option Request) → p.owed ≡ o → (want : Want) → want_of brought.halt ≡ want → (v y : World) → y.process ≡ v.process → y.over ≡ v.over →
        y.row ≡ row_with (is_pending recorded) (world_of new).row → GoesBy want (world_of new) v p.start brought.seat.fuel recorded → HasGone (setting_of begin at old) (world_of new) y
    gone-by o owes (Ends end) wants v y processes overs row goes = inl (overs ∙ goes.over)
    gone-by None own Retries wants v y processes overs row goes =
        absurd (not-again (at taken.program first) p brought.calls (brought.seat.fuel - p.fuel) brought.halt (turn-given own) wants)
    gone-by (Some owed) owes Goes wants v y processes overs row goes =
        absurd (subst (λ (x : Want). RetryEndsSo (Some (terms_of (setting_of begin at new))) new.book.births (world_of new) p give owed x) wants (retry owed owes).halted)
    gone-by (Some owed) owes (Wants request) wants v y processes overs row goes =
        absurd (subst (λ (x : Want). RetryEndsSo (Some (terms_of (setting_of begin at new))) new.book.births (world_of new) p give owed x) wants (retry owed owes).halted)
    gone-by None own Goes wants v y processes overs row goes =
        let out = out-is in
        let used : ℕ = brought.seat.fuel - p.fuel in
        let some = sliced-some (at taken.program first) p brought.calls used (may-begin own) (goes-of (at taken.program first) p brought.calls used brought.halt wants (turn-given own)) in
        let most : p.fuel + used ≤ first.limits.fuel = subst (λ (s : Start). p.fuel + used ≤ s.limits.fuel) out.start some.1 in
        let burnt : 0 < used = some.0 in
        let now : (y.process 1).fuel ≡ brought.seat.fuel = ap (λ (ps : ℕ → Process). (ps 1).fuel) processes ∙ ap (λ (x : Process). x.fuel) goes.becomes.at ∙ goes.fuel_is in
        inr (inl (steps-own first.limits.fuel p.fuel (y.process 1).fuel (is_some (y.process 1).owed) (cond {A = ℕ} (is_some p.owed) 1 0) (omega (arith, now, burnt))
        (omega (arith, now, most, burnt))))
    gone-by None own (Wants request) wants v y processes overs row goes =
        let out = out-is in
        let used : ℕ = brought.seat.fuel - p.fuel in
        let some = asked-some (at taken.program first) p brought.calls used request (may-begin own) (whole-ask own request wants) in
        let most : p.fuel + used ≤ first.limits.fuel = subst (λ (s : Start). p.fuel + used ≤ s.limits.fuel) out.start some.1 in
        let burnt : 0 < used = some.0 in
        let now : (y.process 1).fuel ≡ brought.seat.fuel = ap (λ (ps : ℕ → Process). (ps 1).fuel) processes ∙ ap (λ (x : Process). x.fuel) goes.becomes.at ∙ goes.fuel_is in
        inr (inl (steps-own first.limits.fuel p.fuel (y.process 1).fuel (is_some (y.process 1).owed) (cond {A = ℕ} (is_some p.owed) 1 0) (omega (arith, now, burnt))
        (omega (arith, now, most, burnt))))
    gone-by (Some owed) owes Retries wants v y processes overs row goes = tried (is_pending recorded) refl
      where
        fuel_same : (y.process 1).fuel ≡ p.fuel
        fuel_same = ap (λ (ps : ℕ → Process). (ps 1).fuel) processes ∙ ap (λ (x : Process). x.fuel) goes.becomes.at ∙ goes.fuel_is ∙ (retry owed owes).fuel

        owing : is_some p.owed ≡ true
        owing = ap is_some owes

        tried : (b : Bool) → is_pending recorded ≡ b → HasGone (setting_of begin at old) (world_of new) y
        tried true waits =
            inr (inr (
              steps-same first.limits.fuel p.fuel (y.process 1).fuel (is_some (y.process 1).owed) (is_some p.owed) fuel_same owing,
              row ∙ ap (λ (b : Bool). row_with b (world_of new).row) waits,
              owing,
            ))
        tried false answers =
            let free : is_some (y.process 1).owed ≡ false =
            ap (λ (ps : ℕ → Process). is_some (ps 1).owed) processes ∙ ap (λ (x : Process). is_some x.owed) goes.becomes.at ∙ ap is_some (goes.free answers) in
            inr (inl (steps-freed first.limits.fuel p.fuel (y.process 1).fuel (is_some (y.process 1).owed) (is_some p.owed) fuel_same owing free))

    gone-new : HasGone (setting_of begin at old) (world_of new) (world_of next_node)
    gone-new =
        let out = out-is in
        let v : World = given p.stage old.book.births (world_of new) gave in
        subst (λ (y : World). HasGone (setting_of begin at old) (world_of new) y) (sym becomes-given)
        (gone-by p.owed refl (want_of brought.halt) refl v (next old.book.births (world_of new) (entry_of 0 1 brought recorded)) refl refl
        (ap (λ (s : Stage). row_with (is_pending_give s recorded) (world_of new).row) out.out) goes-given)

    -- the Take changed nothing of it
    pub gone-round : HasGone (setting_of begin at old) (world_of old) (world_of next_node)
    gone-round =
        let there : HasGone (setting_of begin at old) (next old.book.births (world_of old) (Take 0 1)) (world_of next_node) =
        subst (λ (u : World). HasGone (setting_of begin at old) u (world_of next_node)) becomes-taken gone-new in
        there

-- HOW MANY ROUNDS ARE LEFT, where the clock was read before

pub fewer-proc : {P S : Type 0} (begin : P → Start → Option StartRefusal) (at : P → Start → List Call → ℕ → Option Standing) (old mid now : Seen P S) (quiet_before quiet : ℕ) → SameTerms old mid →
    SameTerms mid now → HasRead (world_of old) (world_of mid) quiet_before quiet → (world_of mid).over ≡ false → (world_of mid).row < mid.idle →
    HasGone (setting_of begin at mid) (world_of mid) (world_of now) → rounds_left (setting_of begin at now) (world_of now) < rounds_left (setting_of begin at old) (world_of old)
fewer-proc {P = P} begin at old mid now quiet_before quiet same again read going busy gone =
    let less = fewer-gone (setting_of begin at mid) (world_of old) (world_of mid) (world_of now) quiet_before quiet read (sym read.over ∙ going) busy gone in
    let one = subst (λ (s : Setting P). rounds_left (setting_of begin at mid) (world_of now) < rounds_left s (world_of old)) (setting-same begin at old mid same) less in
    subst (λ (s : Setting P). rounds_left s (world_of now) < rounds_left (setting_of begin at old) (world_of old)) (sym (setting-same begin at mid now again)) one

timed-by : (n m : ℕ) → n ≡ 0 → ∥ (0 < n) ⊎ (0 < m) ∥₁ → 0 < m
timed-by n m none awaits = elim (cases_lt 0 m) [
  | inl some ↦ some
  | inr nobody ↦ (let zero_is : ℕ = 0 in let one_is : ℕ = 1 in let same : zero_is ≡ one_is = ∥∥₁_elim awaits (ℕ_set zero_is one_is)
      (λ either. elim either as (λ _. zero_is ≡ one_is) [ inl h ↦ absurd (omega arith) | inr h ↦ absurd (omega arith) ]) in absurd (omega (arith, same)))
]

pub fewer-nothing : {P S : Type 0} (begin : P → Start → Option StartRefusal) (at : P → Start → List Call → ℕ → Option Standing) (old mid new : Seen P S) (quiet_before quiet : ℕ) → SameTerms old mid
    → SameTerms mid new →
    HasRead (world_of old) (world_of mid) quiet_before quiet → WakesAt begin at mid → TakesNothing mid new → rounds_left (setting_of begin at new) (world_of new) < rounds_left
    (setting_of begin at old) (world_of old)
fewer-nothing {P = P} begin at old mid new quiet_before quiet same again read awake takes =
    let timed = timed-by (away_in (world_of mid)) (length (timed_processes (world_of mid))) (nobody-out (setting_of begin at mid) (world_of mid) awake.at_home) takes.awaits in
    let less = longer-left (setting_of begin at old) (world_of old) (world_of mid) quiet_before quiet read (sym read.over ∙ takes.going) (read.early takes.none_ready timed)
    (subst (λ (n : ℕ). (world_of mid).row < n) same.idle takes.busy) in
    let is : rounds_left (setting_of begin at new) (world_of new) ≡ rounds_left (setting_of begin at old) (world_of mid) =
    ap (λ (s : Setting P). rounds_left s (world_of new)) (setting-same begin at old new (same-then old mid new same again)) ∙ ap (λ (b : Book). rounds_left (setting_of begin at old) (told b))
    takes.same in
    rw is less

-- THE BEGIN AND THE END

told-none : (book : Book) → book.entries ≡ [] → told book ≡ first_world book.births
unfolding told
told-none book none = ap (λ (es : List Entry). all_after book.births (first_world book.births) es) none

pub rest-first : {P S : Type 0} (begin : P → Start → Option StartRefusal) (at : P → Start → List Call → ℕ → Option Standing) (node : Seen P S) → node.book.entries ≡ [] → 1 ≤ node.idle
    → RestsAt begin at node
rest-first begin at node blank idle =
    rest-same (setting_of begin at node) node.book.births (first_world node.book.births) (world_of node) [] node.book.entries (told-none node.book blank) blank (record {
      at_home = record {
        drawn = refl;
        start = refl;
        others = λ q other. rw (nat_eq_other q 1 other) refl;
        home = refl;
        ready = refl;
        waits = λ request e. absurd (cc);
        live = λ _. refl;
      };
      rounds = λ more h. h;
      workers = All-nil (λ entry. worker_of entry ≡ 0);
      asks = λ _ long. absurd (omega (arith, idle, long));
      none_ended = λ _. record { stall = refl; idle = refl; starve = refl };
      ended = λ o. true_is_not_false (sym o);
    })

pub rounds-of : {P S : Type 0} (begin : P → Start → Option StartRefusal) (at : P → Start → List Call → ℕ → Option Standing) (node : Seen P S) → RestsAt begin at node → Rounds node.book
unfolding Rounds
rounds-of begin at node rest = rw append-nil at (rest.rounds [] tt)

pub ended-over : {P S : Type 0} (begin : P → Start → Option StartRefusal) (at : P → Start → List Call → ℕ → Option Standing) (old new : Seen P S) (book : Book) → SameTerms old new → book ≡ new.book →
    EndsByLast (setting_of begin at new) (world_of new) new.book.entries → EndsByLast (setting_of begin at old) (told book) book.entries
ended-over {P = P} begin at old new book same is ends =
    subst (λ (s : Setting P). EndsByLast s (told book) book.entries) (setting-same begin at old new same)
    (subst (λ (b : Book). EndsByLast (setting_of begin at new) (told b) b.entries) (sym is) ends)

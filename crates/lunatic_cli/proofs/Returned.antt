-- The run of a module that asks nothing and returns ends Done, or for want of memory.
use Rattle.std.proofs.Common.{◌≡◌, length, ◌<◌, ℕ, ◌+◌, ◌-◌, List, [], ◌∷◌, ◌++◌, Option, Some, None, slice_get, option_map, refl, sym, ◌∙◌, ap, subst, arith, ◌⊎◌, inl, inr}
use Rattle.std.proofs.lemmas.Bool.{cases_lt}
use Rattle.outside.specs.Causes.{RoseOrFull, StayedBelow}
use Rattle.host_port.specs.declared.ask.Ask.{Ask}
use Rattle.host_port.specs.declared.call.Call.{Call}
use Rattle.host_port.specs.declared.reply.Reply.{Reply}
use Rattle.host_port.specs.declared.request.Request.{Request}
use Rattle.host_port.specs.declared.start.Start.{Start}
use Rattle.host_port.specs.declared.stop.Spent.{Spent}
use Rattle.host_port.specs.declared.stop.Spent.TheVariants as limit
use Rattle.host_port.specs.Standing.{State, Ready, Asking, Finished, Trapped, Exhausted, state_of}
use Rattle.host_port.specs.Steps.{RunsOut}
use Rattle.turn_rules.specs.Turn.{Ending, Exceeds, EndsSo}
use Rattle.world_rules.specs.declared.entry.Entry.{Entry}
use Rattle.world_rules.specs.declared.entry.Entry.TheVariants as EntryIs
use Rattle.world_rules.specs.declared.halt.Halt.{Halt}
use Rattle.world_rules.specs.declared.halt.Halt.TheVariants as HaltIs
use Rattle.world_rules.specs.declared.halt.End.{End}
use Rattle.world_rules.specs.declared.halt.End.TheVariants as EndIs
use Rattle.world_rules.specs.Book.{Book}
use Rattle.world_rules.specs.World.{Process, Ended}
use Rattle.world_rules.specs.Local.{local}
use Rattle.world_rules.specs.Lives.{IsTurnOf}
use Rattle.world_rules.specs.Views.{Ends, want_of}
use Rattle.world_rules.specs.Told.{told}
use Rattle.wasm_form.specs.declared.parts.Parts.{Parts}
use Rattle.module_validator.specs.ValidModule.{ValidModule}
use Rattle.tree_machine.specs.Point.{Point, point, shown}
use Rattle.tree_machine.specs.Begin.{begin}
use Rattle.tree_machine.specs.Run.{course, run, point_at, at}
use Rattle.tree_machine.specs.RunLaws.{at_point}
use Rattle.tree_machine.specs.CallLaws.{course_is, run_more, was_ready}
use Rattle.lunatic_cli.specs.declared.finish.Finish.{Finish}
use Rattle.command_words.specs.declared.options.Options.{Options}
use Rattle.lunatic_cli.specs.Options.{first_start}
use Rattle.lunatic_cli.specs.Runs.{valid_setting, Returns}
use Rattle.lunatic_cli.specs.Statuses.{told_status, status_of_end, AsksSomething, EndsFirst, NoneEndsAll, EndsByLast, HasStatus}
use Rattle.lunatic_cli.specs.Ending.{WritesReport, RefusesStart, RunsNothing}
use Rattle.lunatic_cli.specs.Writing.{Written}
use Rattle.lunatic_cli.proofs.LastEntries.{status-last}

-- where such a run can stand

shown_state : (o : Option Point) (s : State) → state_of (option_map shown o) ≡ Some s → (p : Point) × (o ≡ Some p) × (p.state ≡ s)
shown_state None s h = absurd (cc)
shown_state (Some p) s h = (p, refl, cc)

stands : (m : Parts) (start : Start) (calls : List Call) (n : ℕ) (s : State) → state_of (at m start calls n) ≡ Some s → (p : Point) × (point_at m start calls n ≡ Some p) × (p.state ≡ s)
unfolding at
stands m start calls n s h = shown_state (point_at m start calls n) s h

no_more : (first others : List Call) → [] ≡ first ++ others → first ≡ []
no_more [] others e = refl
no_more (call ∷ first) others e = absurd (cc)

finished_is_not_ready : {A : Type 0} → Finished ≡ Ready → A
finished_is_not_ready e = absurd (cc)

module _ (m : Parts) (start : Start) (n : ℕ) (end : Point) (here : point_at m start [] n ≡ Some end) (returned : end.state ≡ Finished) where
  -- with more calls it would not have used them
  more-calls : (calls : List Call) → run m start calls n ≡ Some (course calls end)
  more-calls calls = run_more m start [] calls n [] end (at_point m start [] n end here).runs ∙ rw returned refl

  -- before its end it is ready, with no calls
  ready-earlier : (calls : List Call) (k : ℕ) (q : Point) → point_at m start calls k ≡ Some q → k < n → q.state ≡ Ready
  ready-earlier calls k q there earlier =
      let was = was_ready m start [] n k end here earlier in
      let none : was.first ≡ [] = no_more was.first was.others was.are in
      let stood : point_at m start [] k ≡ Some (point Ready was.config) = ap (λ (cs : List Call). point_at m start cs k) (sym none) ∙ was.there in
      let more : run m start calls k ≡ Some (course calls (point Ready was.config)) =
      run_more m start [] calls k [] (point Ready was.config) (at_point m start [] k (point Ready was.config) stood).runs in
      let both = course_is calls [] (point Ready was.config) q (sym more ∙ (at_point m start calls k q there).runs) in
      ap (λ (p : Point). p.state) (sym both.1)

  -- it never stands past its end
  never-later : {A : Type 0} (calls : List Call) (k : ℕ) (q : Point) → point_at m start calls k ≡ Some q → n < k → A
  never-later calls k q there later =
      let was = was_ready m start calls k n q there later in
      let stood = (at_point m start was.first n (point Ready was.config) was.there).runs in
      let both = course_is was.first [] end (point Ready was.config) (sym (more-calls was.first) ∙ stood) in
      finished_is_not_ready (sym returned ∙ ap (λ (p : Point). p.state) both.1)

  finished-there : (calls : List Call) (q : Point) → point_at m start calls n ≡ Some q → q.state ≡ Finished
  finished-there calls q there =
      let both = course_is calls [] end q (sym (more-calls calls) ∙ (at_point m start calls n q there).runs) in
      ap (λ (p : Point). p.state) (sym both.1) ∙ returned

-- it stands finished, or ready before its end
either-way : (m : Parts) (start : Start) (n : ℕ) → state_of (at m start [] n) ≡ Some Finished →
    (calls : List Call) (k : ℕ) (s : State) → state_of (at m start calls k) ≡ Some s → (s ≡ Finished) ⊎ ((s ≡ Ready) × (k < start.limits.fuel))
either-way m start n returned calls k s h =
    let end = stands m start [] n Finished returned in
    let there = stands m start calls k s h in
    let fuel = (at_point m start [] n end.0 end.1).fueled in
    elim (cases_lt k n) [
      | inl earlier ↦ inr (sym there.2 ∙ ready-earlier m start n end.0 end.1 end.2 calls k there.0 there.1 earlier, omega (arith, earlier, fuel))
      | inr onward ↦ elim (cases_lt n k) [
        | inl later ↦ never-later m start n end.0 end.1 end.2 calls k there.0 there.1 later
        | inr within ↦
            let same : k ≡ n = omega arith in
            inl (sym there.2 ∙ finished-there m start n end.0 end.1 end.2 calls there.0 (ap (point_at m start calls) (sym same) ∙ there.1))
      ]
    ]

neither-trapped : {A : Type 0} (trap : _) (more : Type 0) → (Trapped trap ≡ Finished) ⊎ ((Trapped trap ≡ Ready) × more) → A
neither-trapped trap more (inl e) = absurd (cc)
neither-trapped trap more (inr e) = let r = e.0 in absurd (cc)

neither-exhausted : {A : Type 0} (spent : Spent) (more : Type 0) → (Exhausted spent ≡ Finished) ⊎ ((Exhausted spent ≡ Ready) × more) → A
neither-exhausted spent more (inl e) = absurd (cc)
neither-exhausted spent more (inr e) = let r = e.0 in absurd (cc)

neither-asking : {A : Type 0} (ask : Ask) (more : Type 0) → (Asking ask ≡ Finished) ⊎ ((Asking ask ≡ Ready) × more) → A
neither-asking ask more (inl e) = absurd (cc)
neither-asking ask more (inr e) = let r = e.0 in absurd (cc)

ready-below : (k most : ℕ) → (Ready ≡ Finished) ⊎ ((Ready ≡ Ready) × (k < most)) → k < most
ready-below k most (inl e) = absurd (cc)
ready-below k most (inr e) = e.1

module _ (m : Parts) (start : Start) (returns : (n : ℕ) × (state_of (at m start [] n) ≡ Some Finished)) where
  asks-nothing : {A : Type 0} (calls : List Call) (k : ℕ) (ask : Ask) → state_of (at m start calls k) ≡ Some (Asking ask) → A
  asks-nothing calls k ask e = neither-asking ask _ (either-way m start returns.0 returns.1 calls k (Asking ask) e)

  traps-not : {A : Type 0} (calls : List Call) (k : ℕ) (trap : _) → state_of (at m start calls k) ≡ Some (Trapped trap) → A
  traps-not calls k trap e = neither-trapped trap _ (either-way m start returns.0 returns.1 calls k (Trapped trap) e)

  spends-not : {A : Type 0} (calls : List Call) (k most used budget : ℕ) (s : Spent) → start.limits.fuel ≡ most → RunsOut s (state_of (at m start calls k)) k most used budget → A
  spends-not calls k most used budget limit.Fuel same out =
      let below = ready-below k start.limits.fuel (either-way m start returns.0 returns.1 calls k Ready out.0) in
      let past = out.1 in
      absurd (omega arith)
  spends-not calls k most used budget limit.Frames same out = neither-exhausted limit.Frames _ (either-way m start returns.0 returns.1 calls k (Exhausted limit.Frames) out)
  spends-not calls k most used budget limit.Values same out = neither-exhausted limit.Values _ (either-way m start returns.0 returns.1 calls k (Exhausted limit.Values) out)
  spends-not calls k most used budget limit.Traffic same out = absurd out

  spent-not : {A L : Type 0} (local : L → Request → Option (Reply × L)) (after : L) (p : Process) (calls : List Call) (used : ℕ) (s : Spent) (ending : Ending) → p.start ≡ start → ending ≡ Exceeds s →
      EndsSo local ending (at m start (p.calls ++ calls) (p.fuel + used)) after (p.fuel + used) p.start.limits.fuel used (length calls) → A
  spent-not local after p calls used s ending started is ends =
      let e = rw is at ends in
      let same : start.limits.fuel ≡ p.start.limits.fuel = ap (λ (x : Start). x.limits.fuel) (sym started) in
      spends-not (p.calls ++ calls) (p.fuel + used) p.start.limits.fuel used 10000 s same e.0

  -- the ends that a turn of the module brings
  turn-ends : (p : Process) (calls : List Call) (used : ℕ) (halt : Halt) (end : End) → p.start ≡ start → want_of halt ≡ Ends end → IsTurnOf (at m start) p calls used halt →
      (end ≡ EndIs.Done) ⊎ (end ≡ EndIs.NoMemory)
  turn-ends p calls used HaltIs.Slice end started halts turn = absurd (cc)
  turn-ends p calls used (HaltIs.Asks request) end started halts turn = absurd (cc)
  turn-ends p calls used HaltIs.Done end started halts turn = inl (let h = halts in cc)
  turn-ends p calls used (HaltIs.Trap t) end started halts turn =
      let e = rw turn.halted at turn.turn.ends in traps-not (p.calls ++ calls) (p.fuel + used) t e
  turn-ends p calls used (HaltIs.Spent limit.Fuel) end started halts turn = spent-not (local p.start) turn.turn.after p calls used limit.Fuel turn.ending started turn.halted turn.turn.ends
  turn-ends p calls used (HaltIs.Spent limit.Frames) end started halts turn = spent-not (local p.start) turn.turn.after p calls used limit.Frames turn.ending started turn.halted turn.turn.ends
  turn-ends p calls used (HaltIs.Spent limit.Values) end started halts turn = spent-not (local p.start) turn.turn.after p calls used limit.Values turn.ending started turn.halted turn.turn.ends
  turn-ends p calls used (HaltIs.Spent limit.Traffic) end started halts turn =
      let e = rw turn.halted.1 at turn.turn.ends in
      asks-nothing (p.calls ++ calls) (p.fuel + used) turn.halted.0.ask (ap state_of e.0.asking)
  turn-ends p calls used (HaltIs.Host fault request) end started halts turn =
      let e = rw turn.halted at turn.turn.ends in
      asks-nothing (p.calls ++ calls) (p.fuel + used) request.ask (ap state_of e.0.asking)
  turn-ends p calls used HaltIs.NoMemory end started halts turn = inr (let h : Ends EndIs.NoMemory ≡ Ends end = halts in cc)
  turn-ends p calls used HaltIs.Again end started halts turn = absurd (cc)

-- the status

one-program : (valid program : ValidModule) → slice_get (valid ∷ []) 0 ≡ Some program → program ≡ valid
one-program valid program found = let e : Some valid ≡ Some program = found in cc

status-of : (end : End) → (end ≡ EndIs.Done) ⊎ (end ≡ EndIs.NoMemory) → (status_of_end end ≡ 0) ⊎ (status_of_end end ≡ 8)
status-of end (inl e) = inl (ap status_of_end e)
status-of end (inr e) = inr (ap status_of_end e)

-- a module that returns asks nothing
asks-not : {A : Type 0} (options : Options) (valid : ValidModule) → Returns options valid.parts → AsksSomething (valid_setting options valid) → A
asks-not options valid returns asks =
    let same = one-program valid asks.program asks.found in
    let here : state_of (at valid.parts (first_start options) asks.calls asks.fuel) ≡ Some (Asking asks.ask) =
    subst (λ (v : ValidModule). state_of (at v.parts (first_start options) asks.calls asks.fuel) ≡ Some (Asking asks.ask)) same asks.asks in
    asks-nothing valid.parts (first_start options) (returns.fuel, returns.returned) asks.calls asks.fuel asks.ask here

-- the status that the last entry of the run tells
status-by : (options : Options) (valid : ValidModule) (earlier : List Entry) (last : Entry) (end : End) → Returns options valid.parts → NoneEndsAll earlier →
    EndsFirst (valid_setting options valid) end last → (told_status (earlier ++ last ∷ []) end ≡ 0) ⊎ (told_status (earlier ++ last ∷ []) end ≡ 8)
status-by options valid earlier (EntryIs.Take worker pid) end returns none by = absurd by
status-by options valid earlier (EntryIs.Give worker pid calls fuel halt side) end returns none by =
    let turn = by.1 in
    let same = one-program valid turn.program turn.found in
    let here : IsTurnOf (at valid.parts (first_start options)) turn.process calls (fuel - turn.process.fuel) halt =
    subst (λ (v : ValidModule). IsTurnOf (at v.parts (first_start options)) turn.process calls (fuel - turn.process.fuel) halt) same turn.turn in
    let ends = status-of end (turn-ends valid.parts (first_start options) (returns.fuel, returns.returned) turn.process calls (fuel - turn.process.fuel) halt end turn.start by.0 here) in
    rw (status-last earlier (EntryIs.Give worker pid calls fuel halt side) end none) ends
status-by options valid earlier (EntryIs.Tick worker now) end returns none by = absurd by
status-by options valid earlier (EntryIs.Stall worker) end returns none by = asks-not options valid returns by.1
status-by options valid earlier (EntryIs.Idle worker) end returns none by = asks-not options valid returns by.1
status-by options valid earlier (EntryIs.Starve worker) end returns none by = inr (status-last earlier (EntryIs.Starve worker) end none)

same-end : (a b : End) → Ended a ≡ Ended b → a ≡ b
same-end a b e = cc

returned-told : (options : Options) (valid : ValidModule) (book : Book) (status : ℕ) → Returns options valid.parts → EndsByLast (valid_setting options valid) (told book) book.entries →
    HasStatus book status → (status ≡ 0) ⊎ (status ≡ 8)
returned-told options valid book status returns ends has =
    let same : has.end ≡ ends.end = same-end has.end ends.end (sym has.ended ∙ ends.ended) in
    let is : status ≡ told_status (ends.earlier ++ ends.last ∷ []) ends.end = has.status_is ∙ ap (told_status book.entries) same ∙ ap (λ (es : List Entry). told_status es ends.end) ends.entries_are in
    let by = status-by options valid ends.earlier ends.last ends.end returns ends.none_earlier ends.by in
    rw is by

-- a run whose sink did not fail
pub done-or-memory : (options : Options) (valid : ValidModule) (book : Book) (status before now : ℕ) (old new : Option (List ℕ)) → Returns options valid.parts →
    EndsByLast (valid_setting options valid) (told book) book.entries → WritesReport old new book status → (status ≡ 5 → RoseOrFull before now) → StayedBelow before now →
    (status ≡ 0) ⊎ (status ≡ 8)
done-or-memory options valid book status before now old new returns ends (inl reported) cause stayed = returned-told options valid book status returns ends reported.status_told
done-or-memory options valid book status before now old new returns ends (inr (inl unwritten)) cause stayed = absurd (omega (arith, cause unwritten.status_is, stayed))
done-or-memory options valid book status before now old new returns ends (inr (inr memory)) cause stayed = inr memory.0

-- what returns has begun
pub begun-of-returns : (options : Options) (m : Parts) → Returns options m → begin m (first_start options) ≡ None
begun-of-returns options m returns =
    let end = stands m (first_start options) [] returns.fuel Finished returns.returned in
    (at_point m (first_start options) [] returns.fuel end.0 end.1).begins

-- a start of such a module that ended early wanted memory
pub unstarted-memory : {S : Type 0} (options : Options) (m : Parts) (sink : Written) (finish : Finish S) → Returns options m →
    RefusesStart options m sink finish ⊎ RunsNothing sink finish → finish.status ≡ 8
unstarted-memory options m sink finish returns (inl refuses) = let e = sym (begun-of-returns options m returns) ∙ refuses.refused in absurd (cc)
unstarted-memory options m sink finish returns (inr nothing) = nothing.status_is

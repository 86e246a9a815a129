-- A turn that begins where the run may be stepped, and ends by a bound or with a request, executes an instruction.
use Rattle.std.proofs.Common.{◌≡◌, ◌<◌, ◌≤◌, ℕ, ◌+◌, List, [], ◌∷◌, ◌++◌, Option, Some, slice_get, sym, ◌∙◌, ap, subst, arith, append-nil, inl, inr}
use Rattle.std.proofs.lemmas.Bool.{cases_lt}
use Rattle.host_port.specs.declared.ask.Ask.{Ask}
use Rattle.host_port.specs.declared.call.Call.{Call}
use Rattle.host_port.specs.declared.reply.Reply.{Reply}
use Rattle.host_port.specs.declared.request.Request.{Request}
use Rattle.host_port.specs.Standing.{Standing, State, Asking, state_of, MayStep}
use Rattle.turn_rules.specs.Turn.{Ending, Sliced, Meets, GoesOn, IsTurn}
use Rattle.world_rules.specs.declared.halt.Halt.TheVariants as HaltIs
use Rattle.world_rules.specs.World.{Process}
use Rattle.world_rules.specs.Local.{local}
use Rattle.world_rules.specs.Lives.{Setting, IsWholeTurn}
use Rattle.lunatic_cli.specs.Statuses.{AsksSomething}

not-asking : (state : Option State) (ask : Ask) → MayStep state → state ≡ Some (Asking ask) → ⊥
not-asking state ask may is = rw is at may

module _ {Part : Type 0} (at : List Call → ℕ → Option Standing) (host : Part → Request → Option (Reply × Part)) where
  onward : (part : Part) (calls : List Call) (answered n : ℕ) (further : List Call) (m : ℕ) (after : Part) → GoesOn at host part calls answered n further m after → n ≤ m
  onward part calls answered n [] m after goes = goes.0.onward
  onward part calls answered n (call ∷ further) m after goes =
      let one : n ≤ goes.0 = goes.2.onward in
      let two : goes.0 ≤ m = onward goes.1 (calls ++ call ∷ []) (answered + 1) goes.0 further m after goes.5 in
      omega arith

  -- a local call is asked past the begin
  some-asked : (part : Part) (calls : List Call) (answered n : ℕ) (call : Call) (further : List Call) (m : ℕ) (after : Part) →
      MayStep (state_of (at calls n)) → GoesOn at host part calls answered n (call ∷ further) m after → n < m
  some-asked part calls answered n call further m after may goes =
      let two : goes.0 ≤ m = onward goes.1 (calls ++ call ∷ []) (answered + 1) goes.0 further m after goes.5 in
      elim (cases_lt n goes.0) as (λ _. n < m) [
        | inl past ↦ omega arith
        | inr before ↦
            let same : goes.0 ≡ n = let o = goes.2.onward in omega arith in
            let asks : state_of (at calls goes.0) ≡ Some (Asking call.request.ask) = ap state_of goes.3.asking in
            absurd (not-asking (state_of (at calls n)) call.request.ask may (ap (λ (k : ℕ). state_of (at calls k)) (sym same) ∙ asks))
      ]

  slices : (most : ℕ) (part : Part) (calls : List Call) (n : ℕ) (further : List Call) (used : ℕ) →
      MayStep (state_of (at calls n)) → IsTurn at host most part calls n further used Sliced → 0 < used
  slices most part calls n [] used may turn =
      elim turn.ends.1 as (λ _. 0 < used) [ inl all ↦ omega arith | inr none ↦ absurd (let z : 0 ≡ 64 = none in omega arith) ]
  slices most part calls n (call ∷ further) used may turn =
      let past : n < n + used = some-asked part calls 0 n call further (n + used) turn.after may turn.goes in omega arith

  meets : (most : ℕ) (part : Part) (calls : List Call) (n : ℕ) (further : List Call) (used : ℕ) (request : Request) →
      MayStep (state_of (at calls n)) → IsTurn at host most part calls n further used (Meets request) → 0 < used
  meets most part calls n [] used request may turn =
      elim (cases_lt 0 used) as (λ _. 0 < used) [
        | inl some ↦ some
        | inr none ↦
            let zero_used : used ≡ 0 = omega arith in
            let here : n + used ≡ n = omega arith in
            let asks : state_of (at (calls ++ []) (n + used)) ≡ Some (Asking request.ask) = ap state_of turn.ends.0.asking in
            absurd (not-asking (state_of (at calls n)) request.ask may
            (ap (λ (k : ℕ). state_of (at calls k)) (sym here) ∙ ap (λ (cs : List Call). state_of (at cs (n + used))) (sym (append-nil calls)) ∙ asks))
      ]
  meets most part calls n (call ∷ further) used request may turn =
      let past : n < n + used = some-asked part calls 0 n call further (n + used) turn.after may turn.goes in omega arith

-- the turn of a process that goes on
pub sliced-some : (at : List Call → ℕ → Option Standing) (p : Process) (calls : List Call) (used : ℕ) → MayStep (state_of (at p.calls p.fuel)) →
    IsWholeTurn at p calls used HaltIs.Slice → (0 < used) × (p.fuel + used ≤ p.start.limits.fuel)
sliced-some at p calls used may whole =
    let turn : IsTurn at (local p.start) p.start.limits.fuel p.part p.calls p.fuel calls used Sliced =
    subst (λ (e : Ending). IsTurn at (local p.start) p.start.limits.fuel p.part p.calls p.fuel calls used e) whole.halted whole.turn in
    (slices at (local p.start) p.start.limits.fuel p.part p.calls p.fuel calls used may turn, turn.fueled)

pub asked-some : (at : List Call → ℕ → Option Standing) (p : Process) (calls : List Call) (used : ℕ) (request : Request) → MayStep (state_of (at p.calls p.fuel)) →
    IsWholeTurn at p calls used (HaltIs.Asks request) → (0 < used) × (p.fuel + used ≤ p.start.limits.fuel)
asked-some at p calls used request may whole =
    let turn : IsTurn at (local p.start) p.start.limits.fuel p.part p.calls p.fuel calls used (Meets request) =
    subst (λ (e : Ending). IsTurn at (local p.start) p.start.limits.fuel p.part p.calls p.fuel calls used e) whole.halted whole.turn in
    (meets at (local p.start) p.start.limits.fuel p.part p.calls p.fuel calls used request may turn, turn.fueled)

-- where it asks
pub asked-at : (at : List Call → ℕ → Option Standing) (p : Process) (calls : List Call) (used : ℕ) (request : Request) → IsWholeTurn at p calls used (HaltIs.Asks request) →
    (cs : List Call) × (fuel : ℕ) × (state_of (at cs fuel) ≡ Some (Asking request.ask))
asked-at at p calls used request whole =
    let turn : IsTurn at (local p.start) p.start.limits.fuel p.part p.calls p.fuel calls used (Meets request) =
    subst (λ (e : Ending). IsTurn at (local p.start) p.start.limits.fuel p.part p.calls p.fuel calls used e) whole.halted whole.turn in
    (p.calls ++ calls, p.fuel + used, ap state_of turn.ends.0.asking)

-- and it asks something
pub asked-asks : {P : Type 0} (setting : Setting P) (program : P) (p : Process) (calls : List Call) (used : ℕ) (request : Request) →
    slice_get setting.programs setting.first.«module» ≡ Some program → p.start ≡ setting.first →
    IsWholeTurn (setting.at program setting.first) p calls used (HaltIs.Asks request) → AsksSomething setting
asked-asks setting program p calls used request found started whole =
    let at = setting.at program setting.first in
    let turn : IsTurn at (local p.start) p.start.limits.fuel p.part p.calls p.fuel calls used (Meets request) =
    subst (λ (e : Ending). IsTurn at (local p.start) p.start.limits.fuel p.part p.calls p.fuel calls used e) whole.halted whole.turn in
    record { program = program; found = found; calls = p.calls ++ calls; fuel = p.fuel + used; ask = request.ask; asks = ap state_of turn.ends.0.asking }

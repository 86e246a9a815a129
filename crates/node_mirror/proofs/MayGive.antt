use Rattle.std.specs.Prelude.{IfSome}
use Rattle.std.proofs.Common.{◌≡◌, ℕ, ◌≤◌, List, [], ◌∷◌, ◌++◌, length, slice_get, Option, Some, None, refl, sym, ◌∙◌, ap, subst, arith, inl}
use Rattle.host_port.specs.declared.call.Call.{Call}
use Rattle.host_port.specs.declared.request.Request.{Request}
use Rattle.world_rules.specs.declared.entry.Side.TheVariants as SideIs
use Rattle.world_rules.specs.declared.life.Birth.{Birth}
use Rattle.world_rules.specs.declared.life.Birth.TheVariants.{Refused}
use Rattle.world_rules.specs.Allowed.{GiveFits, GivesTurn, SpawnFits}
use Rattle.world_rules.specs.Births.{Terms, BirthFits}
use Rattle.world_rules.specs.Book.{Book}
use Rattle.world_rules.specs.Calls.{HostCall, call_of}
use Rattle.world_rules.specs.Calls as CallIs
use Rattle.world_rules.specs.Lives.{Setting, IsRun}
use Rattle.world_rules.specs.Local.{AreLocal}
use Rattle.world_rules.specs.Rules.{turned}
use Rattle.world_rules.specs.Spawn.{next_birth}
use Rattle.world_rules.specs.Told.{told}
use Rattle.world_rules.specs.Touches.{TurnStands}
use Rattle.world_rules.specs.Views.{Given, want_of, wanted_in}
use Rattle.world_rules.specs.World.{World, Process, Stage, Out}
use Rattle.node_state.specs.Seats.{Meaning}
use Rattle.node_state.specs.Fits.{Brought, give_of}
use Rattle.node_laws.proofs.Gives.{with-away}
use Rattle.node_mirror.specs.Fits.{TurnFits}

-- What a worker brings back is allowed, a spawn with the birth of a refusal.

found_last : (xs : List Birth) (y : Birth) → slice_get (xs ++ y ∷ []) (length xs) ≡ Some y
found_last [] y = refl
found_last (x ∷ xs) y = found_last xs y

-- the births with one more, by which the next spawn is refused
abbrev pub refusing : List Birth → List Birth
refusing births = births ++ Refused 2 ∷ []

refused_spawn : (births : List Birth) (call : Option HostCall) (stage : Stage) (w : World) (parent : Process) (request : Request) → next_birth births w ≡ Some (Refused 2)
    → SpawnFits None births call stage w parent request SideIs.Nothing
refused_spawn births (Some CallIs.Spawn) (Out worker) w parent request found =
    subst (λ (birth : Option Birth). BirthFits None w parent request SideIs.Nothing birth) (sym found) (inl (record { answer = refl; beside = refl; crowded = tt }))
refused_spawn births _ _ w parent request found = tt

where_some : {A : Type 0} (o : Option A) (P : A → Type 0) → ((x : A) → P x) → IfSome o P
where_some None P all = tt
where_some (Some x) P all = all x

pub may-give : {E P : Type 0} {engines : Meaning E P} {setting : Setting P} (old : Book) (worker pid : ℕ) (brought : Brought E) → IsRun setting old
    → TurnFits engines setting old.births (told old) worker pid brought → GiveFits None (refusing old.births) (told old) (give_of worker pid brought)
may-give old worker pid brought run fits =
    let w : World = told old in
    let give : Given = give_of worker pid brought in
    let found : next_birth (refusing old.births) w ≡ Some (Refused 2) =
    ap (λ (k : ℕ). slice_get (refusing old.births) k) (sym run.legal.births) ∙ found_last old.births (Refused 2) in
    fits.allowed None (Refused 2 ∷ [])
    (where_some (wanted_in (want_of give.halt) (w.process pid).owed) _
    (λ request. refused_spawn (refusing old.births) (call_of request) (w.process pid).stage w (turned (w.process pid) give) request found))

-- what may be given is a turn of a process that a worker has

turn_grown : (terms : Option Terms) (births : List Birth) (w : World) (p : Process) (give : Given) (owed : Option Request) → GivesTurn terms births w p give owed
    → (p.fuel ≤ give.fuel) × AreLocal p.start p.part give.calls
turn_grown terms births w p give None turn = (turn.grown, turn.local)
turn_grown terms births w p give (Some request) turn =
    let same = turn.fuel in
    (omega (arith, same), subst (λ (calls : List Call). AreLocal p.start p.part calls) (sym turn.calls) tt)

pub turn-stands : (terms : Option Terms) (births : List Birth) (w : World) (give : Given) → GiveFits terms births w give → TurnStands (w.process give.pid) give
turn-stands terms births w give fits =
    let grown = turn_grown terms births w (w.process give.pid) give (w.process give.pid).owed fits.turn in
    record { away = with-away (w.process give.pid).stage give.worker fits.away; grown = grown.0; local = grown.1 }

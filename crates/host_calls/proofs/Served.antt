-- What holds of the calls that the host serves, each computed from its row.
use Rattle.std.proofs.Common.{◌≡◌, ◌≢◌, ℕ, Bool, true, false, nat_eq, List, [], ◌∷◌, cond, option_map, Option, Some, None, IsSome, refl, sym, ap, subst, ◌∙◌, inl, inr}
use Rattle.std.specs.List.{list_any}
use Rattle.std.proofs.lemmas.Bool.Decides.{eqb_tells}
use Rattle.host_port.specs.declared.request.Request.{Request}
use Rattle.host_port.specs.declared.row.MayCome.TheVariants as comes
use Rattle.host_port.specs.HostTable as Served
use Rattle.host_port.specs.HostTable.{Row, all_rows, is_served, served, row_of, known_row_of, may_come_of, is_local_kind}
use Rattle.host_port.proofs.RowLaws.{row_if_served}
use Rattle.world_rules.specs.declared.entry.Side.{Side}
use Rattle.world_rules.specs.declared.entry.Side.TheVariants as SideIs
use Rattle.world_rules.specs.Kinds.{is_local, may_come, kind_of}
use Rattle.world_rules.specs.Part.{Part}
use Rattle.world_rules.specs.World.{World}
use Rattle.world_rules.specs.Allowed.{SideFits}
use Rattle.node_state.specs.Fits.{is_outside, kept_ask}
use Rattle.host_calls.specs.Turning.{IsTimeFor}

some_served : (b : Bool) (known : Option Row) → IsSome (cond b known None) → b ≡ true
some_served true known there = refl
some_served false known there = absurd (cc)

-- a call that has a row among the served ones is served, and that is its row among all
pub row_served : (call : ℕ) → IsSome (row_of call) → is_served call ≡ true
row_served call there = some_served (is_served call) (known_row_of call) (subst (λ (o : Option Row). IsSome o) (row_if_served call) there)

pub known_served : (call : ℕ) → IsSome (row_of call) → known_row_of call ≡ row_of call
known_served call there = sym (row_if_served call ∙ ap (λ (b : Bool). cond b (known_row_of call) None) (row_served call there))

-- something holds of each of these numbers
abbrev pub AllOf : (ℕ → Type 0) → List ℕ → Type 0
AllOf G [] = Unit {0}
AllOf G (number ∷ numbers) = G number × AllOf G numbers

pub among : (G : ℕ → Type 0) (numbers : List ℕ) (call : ℕ) → AllOf G numbers → list_any (λ number. nat_eq number call) numbers ≡ true → G call
among G [] call each found = absurd (cc)
among G (number ∷ numbers) call each found = elim (eqb_tells number call) as (λ _. G call) [
  | inl same ↦ subst G same.1 each.0
  | inr other ↦ among G numbers call each.1 (rw other.0 at found)
]

-- what holds of each served number holds of a call that has a row
pub by_served : (G : ℕ → Type 0) → AllOf G served → (call : ℕ) → IsSome (row_of call) → G call
unfolding is_served
by_served G each call there = among G served call each (row_served call there)

-- a local call has a row
kind_there : (o : Option Row) → is_local_kind (option_map (λ (row : Row). row.kind) o) ≡ true → IsSome o
kind_there None own = absurd (cc)
kind_there (Some row) own = refl

pub local_row : (call : ℕ) → Served.is_local call ≡ true → IsSome (row_of call)
local_row call own = kind_there (row_of call) own

-- the rules, which know every row, tell of a served call what its row among the served ones tells
pub same_kind : (request : Request) → IsSome (row_of request.ask.call) → is_local request ≡ Served.is_local request.ask.call
same_kind request there = rw (known_served request.ask.call there) refl

pub same_beside : (request : Request) → IsSome (row_of request.ask.call) → may_come request ≡ may_come_of request.ask.call
same_beside request there = rw (known_served request.ask.call there) refl

-- beside each call that is served and that the outside doesn't answer comes nothing or the clock
abbrev NothingComes : ℕ → Type 0
NothingComes call = may_come_of call ≢ Some comes.Clock → is_outside (Served.kind_of call) ≡ false → may_come_of call ≡ Some comes.Nothing

true_false : true ≡ false → ⊥
true_false e = cc

nothing_each : AllOf NothingComes served
unfolding row_of all_rows is_served
nothing_each = (
  λ no own. refl,
  (
    λ no own. refl,
    (
      λ no own. refl,
      (
        λ no own. refl,
        (
          λ no own. refl,
          (
            λ no own. refl,
            (
              λ no own. refl,
              (
                λ no own. refl,
                (
                  λ no own. refl,
                  (
                    λ no own. absurd (no refl),
                    (
                      λ no
                          own. refl,
                      (
                        λ no own. absurd (no refl),
                        (
                          λ no own. absurd (true_false own),
                          (
                            λ no own. absurd (true_false own),
                            (
                              λ no own. absurd (true_false own),
                              (
                                λ no own. absurd (true_false own),
                                (
                                  λ no
                                      own. absurd (true_false own),
                                  (λ no own. absurd (true_false own), (λ no own. refl, (λ no own. refl, (λ no own. refl, tt)))),
                                ),
                              ),
                            ),
                          ),
                        ),
                      ),
                    ),
                  ),
                ),
              ),
            ),
          ),
        ),
      ),
    ),
  ),
)

pub nothing_comes : (call : ℕ) → IsSome (row_of call) → may_come_of call ≢ Some comes.Clock → is_outside (Served.kind_of call) ≡ false → may_come_of call ≡ Some comes.Nothing
nothing_comes call there = by_served NothingComes nothing_each call there

-- who performs a call, as its row among the served ones says
outside_there : (o : Option Row) → is_outside (option_map (λ (row : Row). row.kind) o) ≡ true → IsSome o
outside_there None is = absurd (cc)
outside_there (Some row) is = refl

pub outside_known : (request : Request) → is_outside (Served.kind_of request.ask.call) ≡ true → is_outside (kind_of request) ≡ true
outside_known request is = rw (known_served request.ask.call (outside_there (row_of request.ask.call) is)) is

pub no_kept_ask : (request : Request) → is_outside (Served.kind_of request.ask.call) ≡ false → IsSome (row_of request.ask.call) → kept_ask request ≡ None
no_kept_ask request isnt there = rw (known_served request.ask.call there, isnt) refl

pub kept_ask_is : (request : Request) → is_outside (kind_of request) ≡ true → kept_ask request ≡ Some request.ask
kept_ask_is request is = rw is refl

-- the time, or nothing, may stand beside a request that the outside doesn't answer
pub time_fits : (clock : Option ℕ) (request : Request) (side : Side) → IsTimeFor clock request.ask.call side → is_outside (Served.kind_of request.ask.call) ≡ false →
    IsSome (row_of request.ask.call) → (w : World) (pid : ℕ) (part : Part) → SideFits (may_come request) w pid part request side
time_fits clock request SideIs.Nothing is isnt there w pid part = rw (same_beside request there ∙ nothing_comes request.ask.call there is isnt) tt
time_fits clock request (SideIs.Clock now) is isnt there w pid part = rw (same_beside request there ∙ is.0) tt
time_fits clock request SideIs.Pending is isnt there w pid part = absurd is
time_fits clock request (SideIs.Answer reply) is isnt there w pid part = absurd is
time_fits clock request SideIs.Opened is isnt there w pid part = absurd is
time_fits clock request SideIs.NoMemory is isnt there w pid part = absurd is

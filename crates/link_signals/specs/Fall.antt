use Rattle.std.specs.Prelude.{◌≡◌, ◌↔◌, ◌==◌, ℕ, Bool, true, List, ◌∷◌, ◌++◌, drop, Option, Some, None, IsSome, Contains, All, if◌then◌else◌, option_map}
use Rattle.std.specs.Option.{option_to_list}
use Rattle.std.specs.List.{filter_map, flat_map, list_any}
use Rattle.std.specs.List.Sorted.{IsStrictlyIncreasing}
use Rattle.std.specs.FinMap.{get, keys}
use Rattle.link_signals.specs.declared.signal.Signal.{Signal}
use Rattle.link_signals.specs.Links.{Processes, Tags, ends}

-- two processes are linked
abbrev pub IsLinked : Tags → ℕ → ℕ → Type 0
IsLinked tags a b = IsSome (get tags (ends a b))

-- a process is there and dies with links
abbrev pub DiesWithLinks : Processes → ℕ → Type 0
DiesWithLinks processes pid = get processes pid ≡ Some true

-- who falls with the first process: the least set that holds it and each process that is linked with a
-- member and dies with links
pub data Falls (processes : Processes) (tags : Tags) (first : ℕ) : ℕ → Type 0 where
  begins : Falls processes tags first first
  spreads : (member pid : ℕ) → Falls processes tags first member → IsLinked tags member pid
      → DiesWithLinks processes pid → Falls processes tags first pid

-- the members of that set, each once: the first process first, and then the others by rising number
pub record IsFall (processes : Processes) (tags : Tags) (first : ℕ) (members : List ℕ) : Type 0 where
  pub others : List ℕ
  pub order : members ≡ first ∷ others
  pub rising : IsStrictlyIncreasing others
  pub once : All (λ other. (other ≡ first) → ⊥) others
  pub exact : (pid : ℕ) → Contains members pid ↔ Falls processes tags first pid

-- whether a process is among the members
abbrev pub is_among : List ℕ → ℕ → Bool
is_among members pid = list_any (λ member. member == pid) members

-- the signal that a member brings a process: the tag of their link, where there is one and the process did not fall
abbrev pub signal_to : Tags → List ℕ → ℕ → ℕ → Option Signal
signal_to tags members member pid =
    if is_among members pid then None
    else option_map (λ tag. record { to = pid; tag = tag }) (get tags (ends member pid))

-- the signals of one member, by the rising number of the receiver
abbrev pub signals_from : Processes → Tags → List ℕ → ℕ → List Signal
signals_from processes tags members member = filter_map (signal_to tags members member) (keys processes)

-- the signals of a fall: those of each member in turn
abbrev pub signals_of : Processes → Tags → List ℕ → List Signal
signals_of processes tags members = flat_map (signals_from processes tags members) members

-- the members by the first process and the others
abbrev pub members_of : Option ℕ → List ℕ → List ℕ
members_of first others = option_to_list first ++ others

-- the signals of the members from a place on
abbrev pub signals_left : Processes → Tags → List ℕ → ℕ → List Signal
signals_left processes tags members next = flat_map (signals_from processes tags members) (drop next members)

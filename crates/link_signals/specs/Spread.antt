-- How a list of members grows to the whole set: words of the search for the next process that falls.
use Rattle.std.specs.Prelude.{ℕ, Bool, List, ◌&&◌, not, false, nat_le, unwrap_or, Option, Some, None, Contains, if◌then◌else◌}
use Rattle.std.specs.Ordering.{nat_cmp}
use Rattle.std.specs.BTreeMap.{BTreeMap}
use Rattle.std.specs.BTreeMap as tree
use Rattle.link_signals.specs.Links.{Processes, Tags}
use Rattle.link_signals.specs.Fall.{IsLinked, DiesWithLinks, is_among}

-- a process that is not among the members, is linked with one of them and dies with links
pub record FallsNext (processes : Processes) (tags : Tags) (members : List ℕ) (pid : ℕ) : Type 0 where
  pub member : ℕ
  pub fell : Contains members member
  pub linked : IsLinked tags member pid
  pub dies : DiesWithLinks processes pid
  pub new : Contains members pid → ⊥

-- whether a process of an ordered map dies with links
abbrev pub dies_by : BTreeMap ℕ Bool → ℕ → Bool
dies_by processes pid = unwrap_or (tree.get nat_cmp processes pid) false

-- whether a process falls with a member: the member is one, and the process is none and dies with links
abbrev pub lets_fall : List ℕ → (ℕ → Bool) → ℕ → ℕ → Bool
lets_fall members dies member pid = is_among members member && (not (is_among members pid) && dies pid)

-- the end of a link that falls with the other end, if one does; an entry whose greater number stands first is no link
abbrev pub falls_by : List ℕ → (ℕ → Bool) → ℕ × ℕ → Option ℕ
falls_by members dies pair =
    if nat_le pair.0 pair.1
    then (if lets_fall members dies pair.0 pair.1 then Some pair.1 else (if lets_fall members dies pair.1 pair.0 then Some pair.0 else None))
    else None

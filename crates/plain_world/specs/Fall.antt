use Rattle.std.specs.Prelude.{◌≡◌, ℕ, List, ◌∷◌, filter_map, option_map, true}
use Rattle.world_rules.specs.declared.halt.End.{End}
use Rattle.world_rules.specs.World.{World, link_between}
use Rattle.world_rules.specs.Part.{is_among}
use Rattle.world_rules.specs.Links.{Told, are_linked, fallen_with, signals_from, signals_of}
use Rattle.plain_world.specs.declared.falls.Fall.{Fall}
use Rattle.plain_world.specs.declared.world.PlainLink.{PlainLink}

-- those who fall with a process that ends so, and those who are told
pub record IsFall (w : World) (pid : ℕ) (end : End) (fall : Fall) : Type 0 where
  pub others : fall.others.items ≡ fallen_with w pid end
  pub told : fall.told.items ≡ signals_of w (pid ∷ fallen_with w pid end) end

-- the signals of a member to those of these processes that it is linked with, in order
abbrev pub signals_to : World → ℕ → List ℕ → List Told
signals_to w member pids =
    filter_map (λ pid. option_map (λ (tag : ℕ). record { to = pid; tag = tag }) (link_between w member pid)) pids

-- the numbers with the other end of a link, where one end is among the members
pub record HasEnds (old members : List ℕ) (link : PlainLink) (new : List ℕ) : Type 0 where
  pub kept : (pid : ℕ) → is_among old pid ≡ true → is_among new pid ≡ true
  pub high : is_among members link.low ≡ true → is_among new link.high ≡ true
  pub low : is_among members link.high ≡ true → is_among new link.low ≡ true

-- whoever is linked with a member is among these
abbrev pub AreNear : World → List ℕ → List ℕ → Type 0
AreNear w members near =
    (member pid : ℕ) → is_among members member ≡ true → are_linked w member pid ≡ true → is_among near pid ≡ true

-- each member's signals are those to these
abbrev pub AreToTell : World → List ℕ → List ℕ → Type 0
AreToTell w members others =
    (member : ℕ) → is_among members member ≡ true → signals_to w member others ≡ signals_from w members member

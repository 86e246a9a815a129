use Rattle.std.specs.Prelude.{◌≡◌, ℕ, ◌∷◌, Bool, true}
use Rattle.world_rules.specs.declared.halt.End.{End}
use Rattle.world_rules.specs.Part.{is_among}
use Rattle.world_rules.specs.World.{World, is_live}
use Rattle.world_rules.specs.Links.{are_linked, fallen_with}

-- Who falls with a process that ends: the least set that holds it and is closed under dying links.

-- a set of processes is closed under dying links: whoever is live, dies with links and is linked with a member is one
abbrev pub IsClosed : World → (ℕ → Bool) → Type 0
IsClosed w is_member =
    (member other : ℕ) → is_member member ≡ true → is_live (w.process other).stage ≡ true → (w.process other).dies ≡ true
    → are_linked w member other ≡ true → is_member other ≡ true

-- the process that ends, or one of those that fall with it
abbrev pub falls : World → ℕ → End → ℕ → Bool
falls w pid end other = is_among (pid ∷ fallen_with w pid end) other

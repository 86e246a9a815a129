use Rattle.std.specs.Prelude.{◌≡◌, ◌<◌, ℕ, List, Option, Some, None, length, map, slice_get, option_map, remove}
use Rattle.plain_part.specs.declared.mail_item.MailItem as Kept
use Rattle.plain_part.specs.Shown.{shown_item}
use Rattle.world_rules.specs.Mail.{pick, unpicked}

-- the item at this place is the first that is wanted
pub record IsFirstWanted (tags : List ℕ) (mail : List Kept.MailItem) (k : ℕ) : Type 0 where
  pub within : k < length mail
  pub picked : pick tags (map shown_item mail) ≡ option_map shown_item (slice_get mail k)
  pub rest : unpicked tags (map shown_item mail) ≡ map shown_item (remove mail k)

-- no item is wanted
pub record IsUnwanted (tags : List ℕ) (mail : List Kept.MailItem) : Type 0 where
  pub picked : pick tags (map shown_item mail) ≡ None
  pub rest : unpicked tags (map shown_item mail) ≡ map shown_item mail

-- the place of the first item that is wanted, or none is
abbrev pub Finds : List ℕ → List Kept.MailItem → Option ℕ → Type 0
Finds tags mail None = IsUnwanted tags mail
Finds tags mail (Some k) = IsFirstWanted tags mail k
